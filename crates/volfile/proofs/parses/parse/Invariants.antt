use Rattle.std.proofs.Common.{◌≡◌, ◌≤◌, ◌+◌, ◌-◌, length, drop}
use Rattle.volfile.specs.TextLines.{lines_of}
use Rattle.volfile.specs.VolfileText.{lines_read, parsed}
use Rattle.volfile.proofs.parses.parse.Given as goal

abbrev pub invariant-loop-at : goal.invariant-loop-at
invariant-loop-at l = (l.at ≤ length l.text + 1) × (lines_read (lines_of (drop l.at l.text)) l.reader l.number ≡ parsed l.text)

abbrev pub decreases-loop-at : goal.decreases-loop-at
decreases-loop-at l = length l.text + 1 - l.at
