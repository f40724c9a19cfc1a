use Rattle.std.proofs.Common.{take}
use Rattle.log_audit.specs.Arriving.{AreTimely, IsLow}
use Rattle.log_audit.proofs.timely.are_timely.Given as goal

abbrev pub invariant-loop-k : goal.invariant-loop-k
invariant-loop-k l = AreTimely l.brick (take l.k l.events) l.sent × IsLow l.brick l.k l.sent l.passed
