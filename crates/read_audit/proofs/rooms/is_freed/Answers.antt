use Rattle.read_audit.specs.Taken.IsFreed.{Unlinked, Replaced, Unused}
use Rattle.read_audit.proofs.rooms.is_freed.Goals as goal

pub returns-then-is_unlinked : goal.returns-then-is_unlinked
returns-then-is_unlinked c = λ _. Unlinked (c.is_unlinked.ensures c.if-is_unlinked.true)

pub returns-then-branch : goal.returns-then-branch
returns-then-branch c = λ _. Replaced (c.in_ok-is_replaced.ensures c.if-branch.true)

pub returns : goal.returns
returns c = λ yes. Unused (rw c.as_slice.ensures at (c.in_ok-yes.ensures yes))
