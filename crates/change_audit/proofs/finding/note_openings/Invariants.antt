use Rattle.std.proofs.Common.{◌≡◌}
use Rattle.std.specs.Prelude.{[]}
use Rattle.change_audit.proofs.Opening.{AreOpeningsTo}
use Rattle.change_audit.proofs.finding.note_openings.Given as goal

abbrev pub invariant-loop-place : goal.invariant-loop-place
invariant-loop-place l = l.fn.openings.entries ≡ [] → AreOpeningsTo l.winds l.place l.openings.entries
