-- The headline: for every script, the replies written are those of one plain file system at the written places of one
-- written history that holds each acknowledged change once; what a stat, a getattr, a list, or a read without an io-cache shows was
-- read from bricks, and so were the names on which changes rest, and what errors rest on; an I/O error is written only with its
-- cause, a copy only where it was made; and every wind is ended once.
use Rattle.std.specs.Prelude.{◌≡◌, ℕ, List, Option, Ok, length}
use Rattle.fop_types.specs.declared.flat.FlatOp.{FlatOp}
use Rattle.graph_build.specs.declared.plans.Plan.{Plan}
use Rattle.script_lang.specs.declared.scripts.Script.{Script}
use Rattle.brick_machine.specs.Journal.{Journal}
use Rattle.mount_log.specs.declared.logs.Log.{Log}
use Rattle.report_text.specs.ReportText.{report_text}
use Rattle.log_audit.specs.Honest.{HasHonestArrivals, HasJournals}
use Rattle.log_replay.specs.Judged.{IsOneFileSystem}
use Rattle.change_audit.specs.Borne.{AreBorne}
use Rattle.change_audit.specs.Copied.{CopiesAreMade}
use Rattle.change_audit.specs.Listed.{SkipsAreListed}
use Rattle.mount_log.specs.Causes.{AreCaused}
use Rattle.mount_log.specs.Connects.{ConnectsAreCaused}
use Rattle.mount_log.specs.Follows.{FollowsScript, IsFinished}
use Rattle.read_audit.specs.Errors.{ErrorsAreRead}
use Rattle.read_audit.specs.Names.{NamesAreRead}
use Rattle.read_audit.specs.Read.{AnswersAreRead}
use Rattle.read_audit.specs.Taken.{EntriesRestOnNames}
use Rattle.run_report.specs.Reports.{report_of}
use Rattle.mount_log.specs.Ties.{AreTied}
use Rattle.mount_log.specs.Winds.{WindsAreBalanced}
use Rattle.script_commands.specs.Plans.{accepted}
use Rattle.script_commands.specs.declared.plans.Accepted.{Accepted}

-- there is a brick for each of the script's, with a journal of what the log sent to it, and what arrived is its outputs
pub record AreBricksOf (script : Script) (log : Log) (bricks : List Journal) : Type 0 where
  pub many : length bricks ≡ length script.bricks
  pub journals : HasJournals log bricks

-- There are operations of the history's entries by which the replies are those of one plain file system, and sets from which entries
-- take names, so that each acknowledged change works on what its call's path leads to, by names that the call has read; takes a name
-- from a set on which the call has read it; and is on a quorum of bricks.
pub record HasFiles (script : Script) (plans : List Plan) (log : Log) (bricks : List Journal) : Type 0 where
  pub ops : List FlatOp
  pub files : IsOneFileSystem script log ops
  pub from : List (Option ℕ)
  pub names : EntriesRestOnNames script plans log bricks ops from
  pub borne : AreBorne script plans log bricks ops from

-- a run of a script with the plans of its volfiles: its log and its bricks
pub record IsLawfulRun (script : Script) (plans : List Plan) (log : Log) (bricks : List Journal) : Type 0 where
  -- the log follows the script and is finished, what arrived in it is what the bricks made, connections have their causes, and
  -- replies, winds and requests are of their calls, events and graphs
  pub follows : FollowsScript script log
  pub finished : IsFinished script log
  pub honest : HasHonestArrivals log
  pub connections : ConnectsAreCaused script plans log
  pub ties : AreTied log
  pub all_bricks : AreBricksOf script log bricks
  -- one legal history, lawful replies, each acknowledged change on a quorum of bricks, by names that were read, each I/O error with
  -- its cause
  pub files : HasFiles script plans log bricks
  pub causes : AreCaused script plans log
  -- what each stat, getattr, and read of a graph without an io-cache shows a brick had answered, after a quorum had granted locks
  pub reads : AnswersAreRead script plans log bricks
  -- and so the names that calls which were answered well have looked up, and those that lists show
  pub names : NamesAreRead script plans log bricks
  -- and so what errors rest on, other than I/O errors
  pub errors : ErrorsAreRead script plans log bricks
  -- each copy by a replacement of its own, which the sink confirmed, by what the source had answered; each skip of a cell that
  -- a brick had listed
  pub copies : CopiesAreMade script plans log bricks
  pub skips : SkipsAreListed log bricks
  -- balanced winds
  pub winds : WindsAreBalanced log.winds

-- the text is accepted, its script was run lawfully, and the bytes are the report of the run's log
pub record Headline (text report : List ℕ) (log : Log) (bricks : List Journal) : Type 0 where
  pub read : Accepted
  pub accepted_as : accepted text ≡ Ok read
  pub run : IsLawfulRun read.script read.plans log bricks
  pub written : report ≡ report_text (report_of read.script read.plans log)
