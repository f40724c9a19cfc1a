use Rattle.std.proofs.Common.{◌≡◌, ◌++◌, drop}
use Rattle.error_audit.specs.Opened.{openings_of}
use Rattle.error_audit.proofs.connections.openings_of.Given as goal

abbrev pub invariant-loop-line : goal.invariant-loop-line
invariant-loop-line l = l.openings.items ++ openings_of (drop l.line-index l.sent) ≡ openings_of l.sent
