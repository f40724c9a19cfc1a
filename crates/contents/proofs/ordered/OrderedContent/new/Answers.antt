use Rattle.std.proofs.Common.{sym, ◌∙◌}
use Rattle.contents.proofs.Edited.{content_rises}
use Rattle.contents.proofs.ordered.OrderedContent.new.Goals as goal

pub invariant_of-result : goal.invariant_of-result
invariant_of-result c = λ _. content_rises c.args.content (sym c.is_rising.ensures ∙ c.if-is_rising.true)
