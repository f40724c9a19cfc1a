-- What shows that a log is that of a run of its script, by notes of the run.
use Rattle.std.specs.Prelude.{ℕ, ◌≤◌, length}
use Rattle.script_lang.specs.declared.scripts.Script.{Script}
use Rattle.mount_log.specs.Controls.{AreAnswered}
use Rattle.mount_log.specs.declared.logs.Log.{Log}
use Rattle.run_audit.specs.CallPhases.{HaveCalls}
use Rattle.run_audit.specs.Controlled.{AreNoted, AreOfControls, ArePhasesCarried, AreWholeTables}
use Rattle.run_audit.specs.Counting.{AreSettled}
use Rattle.run_audit.specs.Noted.{AreRising, course_of}
use Rattle.run_audit.specs.Numbered.{AreInEvents}
use Rattle.run_audit.specs.SentFor.{AreSentFor}
use Rattle.run_audit.specs.Timed.{AreAllTimely, AreRequestsNoted}
use Rattle.run_audit.specs.declared.carried.SentTables.{SentTables}
use Rattle.run_audit.specs.declared.numbers.Numbers.{Numbers}
use Rattle.run_audit.specs.declared.run_notes.RunNotes.{RunNotes}

-- controls are carried out as the notes say, by any tables of what was sent
pub record AreCarriedByTables (script : Script) (log : Log) (notes : RunNotes) : Type 0 where
  pub acts : AreOfControls script notes log
  pub phases : (tables : SentTables) → AreWholeTables notes.ended log tables → ArePhasesCarried script log tables notes
  pub timely : AreAllTimely script log notes
  pub sent : AreSentFor script log (course_of notes (length log.events))
  pub answered : AreAnswered log

-- What the audit of controls asks for besides: lines are in the order of their events, each control is noted for what carries it
-- out, and so are the requests that have come.
pub record CanBeCarried (script : Script) (log : Log) (notes : RunNotes) : Type 0 where
  pub order : AreInEvents (length log.events) log.sent
  pub noted : AreNoted script notes
  pub many : length log.events ≤ length notes.by_event
  pub requests : AreRequestsNoted script log notes

-- the phases, calls and controls of the log are as the notes say
pub record IsShownBy (script : Script) (log : Log) (numbers : Numbers) (notes : RunNotes) : Type 0 where
  pub rising : AreRising notes.ended (length log.events)
  pub settled : AreSettled script numbers notes.ended (length log.events)
  pub calls : HaveCalls script log notes.ended (length log.events)
  pub controls : AreCarriedByTables script log notes
