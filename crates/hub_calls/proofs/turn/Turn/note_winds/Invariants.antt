use Rattle.std.proofs.Common.{◌≡◌, take}
use Rattle.mount_log.specs.Logs.{with_winds}
use Rattle.hub_calls.proofs.turn.Turn.note_winds.Given as goal

abbrev pub invariant-loop-line : goal.invariant-loop-line
invariant-loop-line l = l.self ≡ record (l.initial.self) { lines = with_winds l.initial.self.lines 0 l.graph (take l.line-index l.winds) }
