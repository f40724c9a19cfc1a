use Rattle.std.proofs.Common.{◌≡◌, drop}
use Rattle.error_audit.specs.code.Searches.{last_with}
use Rattle.error_audit.proofs.evidence.last_with.Given as goal

abbrev pub invariant-loop-opening : goal.invariant-loop-opening
invariant-loop-opening l = last_with (drop l.opening-index l.openings) l.graph l.brick l.number l.until l.count ≡ last_with l.openings l.graph l.brick l.number l.until 0
