use Rattle.std.proofs.Common.{◌≡◌, ◌++◌}
use Rattle.hub_calls.proofs.turn.Turn.note_copies.Given as goal

abbrev pub invariant-loop-copy : goal.invariant-loop-copy
invariant-loop-copy l = l.self ≡ record (l.initial.self) { lines = record (l.initial.self.lines) { copies = l.initial.self.lines.copies ++ l.yielded } }
