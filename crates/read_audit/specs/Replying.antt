-- What is found of one reply.
use Rattle.std.specs.Prelude.{◌≡◌, List, Some}
use Rattle.fop_types.specs.Calls.{Submission, call_numbered}
use Rattle.graph_build.specs.declared.plans.Plan.{Plan}
use Rattle.script_lang.specs.declared.scripts.Script.{Script}
use Rattle.brick_machine.specs.Journal.{Journal}
use Rattle.mount_log.specs.Submissions.{submissions_of}
use Rattle.mount_log.specs.declared.logs.Log.{Log}
use Rattle.mount_log.specs.declared.logs.ReplyLine.{ReplyLine}
use Rattle.read_audit.specs.Read.{asked_by, IsRead}

-- the answer of a reply was read from bricks, by the call of its number
abbrev pub IsReplyDue : Script → List Plan → Log → List Journal → ReplyLine → Type 0
IsReplyDue script plans log bricks reply =
    (made : Submission) → call_numbered (submissions_of script log) reply.call ≡ Some made → IsRead script plans log bricks reply.call reply.event (asked_by made.call) reply.answer
