-- What was written of a run, and the statuses that it may have. Where the sink shows its bytes, those written are named.
use Rattle.std.specs.Prelude.{◌≡◌, ◌⊎◌, ℕ, List, [], Option}
use Rattle.std.specs.Io.KnownBytes.{Appends}
use Rattle.xl_base.specs.Writes.{WrotePrefix}
use Rattle.graph_build.specs.declared.plans.Plan.{Plan}
use Rattle.script_lang.specs.declared.scripts.Script.{Script}
use Rattle.mount_log.specs.Logs.{empty_log}
use Rattle.hub_calls.specs.declared.racks.Rack.{Rack}
use Rattle.report_text.specs.ReportText.{report_text}
use Rattle.run_report.specs.Reports.{report_of}
use Rattle.run_report.specs.Summaries.{summary_text}
use Rattle.run_judge.specs.Headline.{IsLawfulRun}

-- a rack before a run: no bricks, and an empty log
abbrev pub empty_rack : Rack
empty_rack = record { bricks = []; log = empty_log }

-- the report of a run's log
abbrev pub text_of : Script → List Plan → Rack → List ℕ
text_of script plans rack = report_text (report_of script plans rack.log)

-- the script was run, and its report was written: the whole of it, or a prefix and not all
pub record IsWritten (script : Script) (plans : List Plan) (taken taken_after : Option (List ℕ)) (rack : Rack) : Type 0 where
  pub run : IsLawfulRun script plans rack.log rack.bricks
  pub wrote : Appends taken taken_after (text_of script plans rack)

pub record IsCutShort (script : Script) (plans : List Plan) (taken taken_after : Option (List ℕ)) (rack : Rack) : Type 0 where
  pub run : IsLawfulRun script plans rack.log rack.bricks
  pub wrote : WrotePrefix taken taken_after (text_of script plans rack)

-- the script was run, and the line that sums the run up was written: the whole of it, or a prefix and not all
pub record IsSummedUp (script : Script) (plans : List Plan) (number : ℕ) (taken taken_after : Option (List ℕ)) (rack : Rack) : Type 0 where
  pub run : IsLawfulRun script plans rack.log rack.bricks
  pub wrote : Appends taken taken_after (summary_text number rack.log)

pub record IsSummedUpShort (script : Script) (plans : List Plan) (number : ℕ) (taken taken_after : Option (List ℕ)) (rack : Rack) : Type 0 where
  pub run : IsLawfulRun script plans rack.log rack.bricks
  pub wrote : WrotePrefix taken taken_after (summary_text number rack.log)

-- the statuses of a script that is run
abbrev pub IsRunStatus : ℕ → Type 0
IsRunStatus status = (status ≡ 0) ⊎ ((status ≡ 4) ⊎ ((status ≡ 5) ⊎ ((status ≡ 6) ⊎ (status ≡ 7))))
