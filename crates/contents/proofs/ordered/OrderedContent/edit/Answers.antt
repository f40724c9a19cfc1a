use Rattle.std.proofs.Common.{sym, subst}
use Rattle.fop_types.specs.declared.contents.Content.{Content}
use Rattle.contents.specs.Rising.{IsRising}
use Rattle.contents.proofs.Edited.{edited_rises}
use Rattle.contents.proofs.ordered.OrderedContent.edit.Goals as goal

pub invariant_of-self-2 : goal.invariant_of-self-2
invariant_of-self-2 c = λ h. subst (λ (d : Content). IsRising d) (sym c.in_ok-edit_by.ensures.ok) (edited_rises c.args.edit c.self.inside.content (c.self.invariant h))
