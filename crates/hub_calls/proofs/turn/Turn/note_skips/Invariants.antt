use Rattle.std.proofs.Common.{◌≡◌, ◌++◌, take}
use Rattle.hub_calls.proofs.turn.Turn.note_skips.Given as goal

abbrev pub invariant-loop-skip : goal.invariant-loop-skip
invariant-loop-skip l = l.self ≡ record (l.initial.self) { lines = record (l.initial.self.lines) { skips = l.initial.self.lines.skips ++ take l.skip-index l.skips } }
