use Rattle.read_audit.specs.Errors.IsMissing.{Removed, Nowhere}
use Rattle.read_audit.proofs.missing.is_missing.Goals as goal

pub returns-then-branch : goal.returns-then-branch
returns-then-branch c = λ _. Removed (c.in_ok-is_removed.ensures c.if-branch.true)

pub returns : goal.returns
returns c = λ yes. Nowhere (c.in_ok-yes.ensures yes)
