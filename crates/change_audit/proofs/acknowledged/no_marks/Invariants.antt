use Rattle.std.proofs.Common.{◌≡◌}
use Rattle.std.specs.Prelude.{length}
use Rattle.change_audit.specs.Acknowledged.{AreUnmarked}
use Rattle.change_audit.proofs.acknowledged.no_marks.Given as goal

abbrev pub invariant-loop : goal.invariant-loop
invariant-loop l = (length l.marks.items ≡ l.counter) × AreUnmarked l.marks.items
