use Rattle.std.proofs.Common.{◌≡◌, ◌++◌, map}
use Rattle.hub_calls.specs.Noted.{answer_item}
use Rattle.hub_calls.proofs.turn.Turn.note_answers.Given as goal

abbrev pub invariant-loop-answered : goal.invariant-loop-answered
invariant-loop-answered l = l.self ≡ record (l.initial.self) { todo = l.initial.self.todo ++ map answer_item l.yielded }
