-- When a log follows a script, and when it is finished. Each session submits its calls in order and one at a time, those of a
-- phase once all earlier phases have ended; a phase ends once nothing else is left; each control of a phase is carried out once,
-- in its moment; and there is no other action.
use Rattle.std.specs.Prelude.{◌≡◌, ℕ, ◌+◌, ◌≤◌, ◌==◌, List, [], ◌∷◌, length, if◌then◌else◌}
use Rattle.script_lang.specs.Accepted.{calls_of}
use Rattle.script_lang.specs.declared.scripts.Script.{Script}
use Rattle.mount_log.specs.declared.logs.Log.{Log}
use Rattle.mount_log.specs.declared.logs.ReplyLine.{ReplyLine}
use Rattle.mount_log.specs.Controls.{AreCarried, AreArmed}
use Rattle.mount_log.specs.Phases.{Course, ArePhases, AreCallsInPhases}
use Rattle.mount_log.specs.Submissions.{submissions_of}
pub use Rattle.mount_log.specs.Events.{IsEvent}
pub use Rattle.mount_log.specs.Arms.{AreArmable, IsArmedLine, IsSentBefore}
pub use Rattle.mount_log.specs.Turns.{IsNextLine, AreInOrder}

-- the log is that of a run of the script
pub record RunOf (script : Script) (log : Log) : Type 0 where
  pub course : Course
  pub phases : ArePhases script log course
  pub calls : AreCallsInPhases script log course
  pub controls : AreCarried script log course
  pub arms : AreArmed script log course

pub record FollowsScript (script : Script) (log : Log) : Type 0 where
  pub submitted : AreInOrder script log
  pub run : RunOf script log

-- ---- finished

abbrev pub replies_to : ℕ → List ReplyLine → ℕ
replies_to number [] = 0
replies_to number (reply ∷ replies) = (if reply.call == number then 1 else 0) + replies_to number replies

-- every call was submitted and has one reply, and nothing else has. That every control was carried out, and that nothing is left
-- at the end, is in the run.
pub record IsFinished (script : Script) (log : Log) : Type 0 where
  pub submitted : length (submissions_of script log) ≡ length (calls_of script.phases)
  pub replied : (number : ℕ) → 1 ≤ number → number ≤ length (calls_of script.phases) → replies_to number log.replies ≡ 1
  pub no_other : length log.replies ≡ length (calls_of script.phases)
