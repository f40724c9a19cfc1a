use Rattle.std.proofs.Common.{◌≡◌, drop}
use Rattle.error_audit.specs.code.Searches.{closed_until}
use Rattle.error_audit.proofs.evidence.closed_until.Given as goal

abbrev pub invariant-loop-opening : goal.invariant-loop-opening
invariant-loop-opening l = closed_until (drop l.opening-index l.openings) l.graph l.brick l.end l.until ≡ closed_until l.openings l.graph l.brick l.end l.until
