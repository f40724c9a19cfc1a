use Rattle.run_audit.specs.CallPhases.{AreReplied}
use Rattle.run_audit.proofs.alone.are_replied.Given as goal

abbrev pub invariant-loop-m : goal.invariant-loop-m
invariant-loop-m l = AreReplied l.log l.calls l.session l.m l.number
