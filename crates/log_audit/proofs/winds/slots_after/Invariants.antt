use Rattle.std.proofs.Common.{take}
use Rattle.log_audit.specs.Agreeing.{Agree}
use Rattle.log_audit.specs.Following.{WindsFollow}
use Rattle.log_audit.proofs.winds.slots_after.Given as goal

abbrev pub invariant-loop-line : goal.invariant-loop-line
invariant-loop-line l = Agree l.slots (take l.line-index l.lines) × WindsFollow (take l.line-index l.lines)
