use Rattle.run_audit.proofs.Controlling.{AreSoFar}
use Rattle.run_audit.proofs.carried.are_in_turn.Given as goal

abbrev pub invariant-loop-at : goal.invariant-loop-at
invariant-loop-at l = AreSoFar l.controls l.carried l.at l.last
