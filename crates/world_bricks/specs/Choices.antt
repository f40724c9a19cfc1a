-- The events that are enabled, in the order in which the schedule counts them, and the one that a value chooses: the
-- submissions by session, the arrivals by brick, the services by brick, the tasks by graph and number, and then the next
-- control without a condition; and what is picked. Ours.
use Rattle.std.specs.Prelude.{ℕ, List, [], ◌∷◌, ◌++◌, length, map, min, slice_get, Option, None, Some}
use Rattle.std.specs.List.{range_with_len}
use Rattle.script_lang.specs.declared.scripts.Action.{Action}
use Rattle.hub_tables.specs.Agendas.{AgendaState, plain_due}
use Rattle.hub_tables.specs.SmallSets.{numbers, numbers_where}
use Rattle.hub_tables.specs.declared.actions.Due.{Due}
use Rattle.hub_tables.specs.declared.actions.Due.TheVariants as due
use Rattle.hub_calls.specs.Dues.{due_first, due_rest}
use Rattle.world_bricks.specs.Lines.{LinesState, may_serve, may_arrive}
use Rattle.world_bricks.specs.Schedules.{chosen_of}
use Rattle.world_bricks.specs.declared.enabled.Choice.{Choice}
use Rattle.world_bricks.specs.declared.enabled.Choice.TheVariants as choice
use Rattle.world_bricks.specs.declared.enabled.Enabled.{Enabled}
use Rattle.world_bricks.specs.declared.events.Event.{Event}
use Rattle.world_bricks.specs.declared.events.Event.TheVariants as event

-- the event of what is due in the hub
abbrev pub event_of : Due → Event
event_of (due.Submit session) = event.Submit session
event_of (due.Run graph task) = event.Run graph task
event_of (due.Act a) = event.Act a
event_of (due.Arm brick p count a) = event.Arm brick p count a

abbrev pub events_of : Option Due → Option Event
events_of None = None
events_of (Some d) = Some (event_of d)

abbrev pub submit_of : ℕ → Choice
submit_of session = choice.Event (event.Submit session)

abbrev pub arrive_of : ℕ → Choice
arrive_of brick = choice.Event (event.Arrive brick)

abbrev pub serve_of : ℕ → Choice
serve_of brick = choice.Event (event.Serve brick)

abbrev pub task_of : ℕ → Choice
task_of place = choice.Task place

abbrev pub act_of : Option Action → List Choice
act_of None = []
act_of (Some a) = choice.Event (event.Act a) ∷ []

-- what is enabled, in this order, where these sessions may submit, these bricks have an output that has not arrived, these an
-- input, and so many tasks are ready; a ready task is named by its place among them
abbrev pub choices_of : List ℕ → List ℕ → List ℕ → ℕ → Option Action → List Choice
choices_of submits arriving serving tasks plain =
    map submit_of submits
    ++ (map arrive_of arriving
    ++ (map serve_of serving
    ++ (map task_of (range_with_len 0 tasks)
    ++ act_of plain)))

abbrev pub choices : Enabled → List Choice
choices e = choices_of (numbers e.submits) (numbers e.arriving) (numbers e.serving) e.tasks e.plain

-- what a value chooses among these, None where there are none
abbrev pub chosen_among : List Choice → ℕ → Option Choice
chosen_among [] value = None
chosen_among (c ∷ cs) value = slice_get (c ∷ cs) (chosen_of value (length (c ∷ cs)))

abbrev pub choice_by : Enabled → ℕ → Option Choice
choice_by e value = chosen_among (choices e) value

-- ---- what is picked

-- what is enabled of what is due in the hub, where these tasks are ready, and of what these bricks have; there are 64 bricks at most
abbrev pub enabled : AgendaState → List (ℕ × ℕ) → LinesState → List Choice
enabled agenda ready lines =
    choices_of agenda.progress.ready (numbers_where (may_arrive lines)) (numbers_where (may_serve lines)) (min (length ready) 4294967295) (plain_due agenda)

abbrev pub run_of : Option (ℕ × ℕ) → Option Event
run_of None = None
run_of (Some task) = Some (event.Run task.0 task.1)

abbrev pub event_by : List (ℕ × ℕ) → Choice → Option Event
event_by tasks (choice.Event e) = Some e
event_by tasks (choice.Task place) = run_of (slice_get tasks place)

-- the event of a choice, where these tasks are ready
abbrev pub event_in : List (ℕ × ℕ) → Option Choice → Option Event
event_in tasks None = None
event_in tasks (Some c) = event_by tasks c

-- the event that a value chooses among those that are enabled
unfoldable pub chosen_event : AgendaState → List (ℕ × ℕ) → LinesState → ℕ → Option Event
chosen_event agenda ready lines value = event_in ready (chosen_among (enabled agenda ready lines) value)

abbrev pub or_rest : Option Event → Option Due → Option Event
or_rest None rest = events_of rest
or_rest (Some e) rest = Some e

abbrev pub or_chosen : Option Due → Option Event → Option Due → Option Event
or_chosen None chosen rest = or_rest chosen rest
or_chosen (Some d) chosen rest = Some (event_of d)

-- the event that a value picks: what goes before everything else; else the one that it chooses; else the first control that is
-- left
unfoldable pub picked : AgendaState → List (ℕ × ℕ) → LinesState → ℕ → Option Event
picked agenda ready lines value = or_chosen (due_first agenda) (chosen_event agenda ready lines value) (due_rest agenda ready)
