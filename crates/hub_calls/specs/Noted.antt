-- What a graph gives, as it is written down in the event under way: the lines of its winds, its copies and its skips, which have no
-- number yet; and what is left to be taken, in order: what it sends, with the holds that it asks for, and then its answers. Ours.
use Rattle.std.specs.Prelude.{◌≡◌, ℕ, ◌∷◌, ◌++◌, List, map, Option, None, Some, IfSome}
use Rattle.fop_types.specs.declared.answers.FopAnswer.{FopAnswer}
use Rattle.graph_nodes.specs.Among.{Start, SeemsToGive}
use Rattle.graph_nodes.specs.Mounted.{Mounted}
use Rattle.graph_nodes.specs.declared.moved.Moved.{Moved}
use Rattle.mount_log.specs.declared.logs.Log.{Log}
use Rattle.mount_log.specs.Logs.{with_winds}
use Rattle.hub_calls.specs.declared.parts.Parts.{Parts}
use Rattle.hub_calls.specs.declared.turn.Todo.{Todo}
use Rattle.hub_calls.specs.declared.turn.Todo.TheVariants.{Take, Answer}
use Rattle.hub_calls.specs.declared.turn.Turn.{Turn}

abbrev pub noted_lines : ℕ → Moved → Log → Log
noted_lines graph moved lines = record (with_winds lines 0 graph moved.winds) { copies = lines.copies ++ moved.copies; skips = lines.skips ++ moved.skips }

abbrev pub answer_item : ℕ × FopAnswer × ℕ → Todo
answer_item answered = Answer answered.0 answered.1 answered.2

abbrev pub noted_items : ℕ → Moved → List Todo
noted_items graph moved = Take (record { graph = graph; sends = moved.sends; holds = moved.holds }) ∷ map answer_item moved.answers

-- the event with what a graph has given
abbrev pub noted : ℕ → Moved → Turn → Turn
noted graph moved turn = record turn { lines = noted_lines graph moved turn.lines; todo = turn.todo ++ noted_items graph moved }

-- where there is no such graph nothing was given
abbrev pub noted_by : ℕ → Option Moved → Turn → Turn
noted_by graph None turn = turn
noted_by graph (Some moved) turn = noted graph moved turn

-- what the graph of this number has given, if it was there and gave anything, is written down in the event
pub record IsNoted (graph : ℕ) (starts : Start) (graphs : Mounted) (turn : Turn) (new : Parts) : Type 0 where
  pub moved : Option Moved
  pub gives : IfSome moved (λ m. SeemsToGive graph starts graphs m new.graphs.nodes)
  pub noted : new.turn ≡ noted_by graph moved turn
