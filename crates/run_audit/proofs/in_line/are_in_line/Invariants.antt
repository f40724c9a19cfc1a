use Rattle.std.specs.Prelude.{ℕ, ◌≡◌, ◌<◌, Some, slice_get}
use Rattle.script_lang.specs.declared.scripts.ControlLine.{ControlLine}
use Rattle.run_audit.specs.InLine.{AreApart}
use Rattle.run_audit.proofs.in_line.are_in_line.Given as goal

abbrev pub invariant-loop-j : goal.invariant-loop-j
invariant-loop-j l = (k : ℕ) (b : ControlLine) → k < l.j → slice_get l.controls k ≡ Some b → AreApart l.controls l.carried k k b
