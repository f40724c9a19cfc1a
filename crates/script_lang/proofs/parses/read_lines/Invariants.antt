use Rattle.std.proofs.Common.{◌≡◌, ◌≤◌, ◌+◌, ◌-◌, length, drop}
use Rattle.volfile.specs.TextLines.{lines_of}
use Rattle.script_lang.specs.code.Readings.{reading_of}
use Rattle.script_lang.specs.ScriptText.{lines_read, parsed}
use Rattle.script_lang.proofs.Accepted.{KeepsReading}
use Rattle.script_lang.proofs.parses.read_lines.Given as goal

abbrev pub invariant-loop-at : goal.invariant-loop-at
invariant-loop-at l = (l.at ≤ length l.text + 1) × KeepsReading (reading_of l.draft l.inside) × (lines_read (lines_of (drop l.at l.text)) (reading_of l.draft l.inside) l.number ≡ parsed l.text)

abbrev pub decreases-loop-at : goal.decreases-loop-at
decreases-loop-at l = length l.text + 1 - l.at
