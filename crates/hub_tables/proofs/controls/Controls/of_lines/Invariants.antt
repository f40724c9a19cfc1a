use Rattle.std.proofs.Common.{◌≡◌, drop}
use Rattle.hub_tables.specs.PhaseControls.{no_controls, with_controls}
use Rattle.hub_tables.proofs.controls.Controls.of_lines.Given as goal

abbrev pub invariant-loop-line : goal.invariant-loop-line
invariant-loop-line l = (l.order ≡ l.line-index) × (with_controls l.controls l.order (drop l.line-index l.lines) ≡ with_controls no_controls 0 l.lines)
