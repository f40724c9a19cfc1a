use Rattle.run_audit.specs.Timed.{AreEarlier}
use Rattle.run_audit.proofs.moments.are_earlier.Given as goal

abbrev pub invariant-loop-j : goal.invariant-loop-j
invariant-loop-j l = AreEarlier l.controls l.carried l.at l.number l.j
