use Rattle.std.proofs.Common.{◌∙◌, arith}
use Rattle.volfile.proofs.PartLemmas.{ends_at}
use Rattle.volfile.proofs.quotes.ends_blank.Goals as goal

pub returns : goal.returns
returns c = c.is_blank.ensures ∙ ends_at c.args.line.now _ (omega (arith, c.if-size-eq0.false))
