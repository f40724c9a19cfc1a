use Rattle.std.proofs.Common.{◌≡◌}
use Rattle.script_lang.proofs.sharing.shared_lines.Given as goal

abbrev pub invariant-loop-line : goal.invariant-loop-line
invariant-loop-line l = l.shared ≡ l.yielded
