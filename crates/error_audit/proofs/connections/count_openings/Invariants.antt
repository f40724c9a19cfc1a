use Rattle.std.proofs.Common.{◌≡◌, ◌≤◌, ◌+◌, drop}
use Rattle.error_audit.specs.Opened.{openings_to}
use Rattle.error_audit.proofs.connections.count_openings.Given as goal

abbrev pub invariant-loop-opening : goal.invariant-loop-opening
invariant-loop-opening l = (l.count + openings_to l.last l.graph l.brick (drop l.opening-index l.openings) ≡ openings_to l.last l.graph l.brick l.openings) × (l.count ≤ l.opening-index)
