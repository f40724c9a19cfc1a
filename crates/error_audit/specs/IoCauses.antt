-- What is looked up in a log for its I/O errors; replies that are none.
use Rattle.std.specs.Prelude.{◌≡◌, map}
use Rattle.fop_types.specs.declared.answers.Answer.{Answer}
use Rattle.fop_types.specs.declared.answers.Answer.TheVariants as answer
use Rattle.script_lang.specs.declared.scripts.Script.{Script}
use Rattle.mount_log.specs.Graphs.{volfiles_of}
use Rattle.mount_log.specs.declared.logs.Log.{Log}
use Rattle.mount_log.specs.CallGraphs.{calls_from}
use Rattle.error_audit.specs.LockTable.{HaveLocks}
use Rattle.error_audit.specs.Opened.{openings_of, AreByBrick}
use Rattle.error_audit.specs.declared.tables.Tables.{Tables}

pub record AreTables (script : Script) (log : Log) (tables : Tables) : Type 0 where
  pub calls : tables.calls.items ≡ calls_from 0 1 log.events
  pub volfiles : tables.volfiles.items ≡ volfiles_of script log
  pub openings : AreByBrick (openings_of log.sent) (map (λ l. l.items) tables.openings.items)
  pub locks : HaveLocks log (map (λ l. l.items) tables.locks.items)

abbrev pub IsPlain : Answer → Type 0
IsPlain (answer.Io error) = ⊥
IsPlain answer.Done = Unit {0}
IsPlain (answer.Count n) = Unit {0}
IsPlain (answer.Bytes bytes) = Unit {0}
IsPlain (answer.Stat kind mode size) = Unit {0}
IsPlain (answer.List items) = Unit {0}
IsPlain (answer.App error) = Unit {0}
