use Rattle.run_audit.specs.InLine.{AreApart}
use Rattle.run_audit.proofs.in_line.are_apart.Given as goal

abbrev pub invariant-loop-i : goal.invariant-loop-i
invariant-loop-i l = AreApart l.controls l.carried l.i l.j l.b
