-- What is due in a hub, by its agenda and the ready tasks, by graph and then by number: what goes before everything else is in
-- the agenda's controls; then the sessions that may submit, rising, the ready tasks, and the next control without a condition; and
-- where nothing is left but controls, the first of these. Ours.
use Rattle.std.specs.Prelude.{ℕ, ◌==◌, Bool, ◌&&◌, List, [], ◌∷◌, ◌++◌, map, length, Option, None, Some, is_some, if◌then◌else◌}
use Rattle.mount_log.specs.declared.logs.Log.{Log}
use Rattle.mount_log.specs.Submissions.{session_line, submits_of}
use Rattle.script_lang.specs.declared.scripts.Action.{Action}
use Rattle.script_lang.specs.declared.scripts.Script.{Script}
use Rattle.graph_build.specs.declared.plans.Plan.{Plan}
use Rattle.graph_nodes.specs.Ready.{has_task}
use Rattle.hub_tables.specs.Agendas.{AgendaState, plain_due, rest_due, is_over}
use Rattle.hub_tables.specs.PhaseControls.{act_by, first_due}
use Rattle.hub_tables.specs.PlanBricks.{has_queues}
use Rattle.hub_tables.specs.SmallSets.{is_among}
use Rattle.hub_tables.specs.declared.actions.Due.{Due}
use Rattle.hub_tables.specs.declared.actions.Due.TheVariants as due

-- the ready tasks of a hub, of those that its graphs have: none where no plan has an io-threads node
abbrev pub ready_in : List Plan → List (ℕ × ℕ) → List (ℕ × ℕ)
ready_in plans tasks = if has_queues plans then tasks else []

-- whether no task is ready
abbrev pub is_idle : List (ℕ × ℕ) → Bool
is_idle tasks = length tasks == 0

-- what goes before everything else: the first control that is to be armed, or else the first one whose request was sent
abbrev pub due_first : AgendaState → Option Due
due_first agenda = first_due agenda.controls

-- the first control that is left, where nothing else is
abbrev pub due_rest : AgendaState → List (ℕ × ℕ) → Option Due
due_rest agenda tasks = act_by (rest_due agenda (is_idle tasks))

-- whether each phase of a script has ended, and nothing is left
abbrev pub is_through : Script → AgendaState → List (ℕ × ℕ) → Bool
is_through script agenda tasks = is_over agenda (length script.phases) (is_idle tasks)

-- ---- what may happen next

abbrev pub due_task : ℕ × ℕ → Due
due_task task = due.Run task.0 task.1

abbrev pub due_control : Option Action → List Due
due_control None = []
due_control (Some a) = due.Act a ∷ []

-- the submissions by session, the ready tasks, and then the next control without a condition
unfoldable pub dues : AgendaState → List (ℕ × ℕ) → List Due
dues agenda tasks = map due.Submit agenda.progress.ready ++ (map due_task tasks ++ due_control (plain_due agenda))

-- whether this task of a graph is ready
abbrev pub may_run : List (ℕ × ℕ) → ℕ → ℕ → Bool
may_run tasks graph task = has_task tasks graph task

-- whether a session may submit, and has a line left that it has not submitted
unfoldable pub may_submit : AgendaState → Script → Log → ℕ → Bool
may_submit agenda script log session = is_among session agenda.progress.ready && is_some (session_line script session (submits_of session log.events))
