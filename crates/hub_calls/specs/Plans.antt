-- A script that a hub runs, with the plans of its volfiles, and what is left of it. Ours.
use Rattle.std.specs.Prelude.{◌≡◌, ℕ, List, Some, drop}
use Rattle.graph_build.specs.declared.plans.Plan.{Plan}
use Rattle.script_lang.specs.declared.scripts.CallLine.{CallLine}
use Rattle.script_lang.specs.declared.scripts.Script.{Script}
use Rattle.mount_log.specs.declared.logs.HubEvent.{HubEvent}
use Rattle.mount_log.specs.declared.places.LineAt.{LineAt}
use Rattle.mount_log.specs.Lines.{queue_of, places_from, line_of}
use Rattle.mount_log.specs.Submissions.{submits_of}
use Rattle.hub_tables.specs.Sessions.{first_line}

-- a script with the plans of its volfiles, and the lines that its sessions have left
pub record PlannedScript : Type 0 where
  pub script : Script
  pub plans : List Plan
  pub left : List (List LineAt)

-- after these events each session has just those of its lines left that it has not submitted
abbrev pub AreLeft : Script → List HubEvent → List (List LineAt) → Type 0
AreLeft script events left = (session : ℕ) → queue_of left session ≡ drop (submits_of session events) (places_from session 0 script.phases)

-- the next line of a session is at this place, and has this number in the script
pub record IsNext (on : PlannedScript) (session : ℕ) (at : LineAt) (number : ℕ) : Type 0 where
  pub first : first_line on.left session ≡ Some at
  pub line : CallLine
  pub there : line_of on.script at ≡ Some line
  pub numbered : line.line ≡ number
