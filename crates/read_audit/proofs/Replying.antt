-- The replies so far, with what they rest on.
use Rattle.std.proofs.Common.{◌≡◌, ap, subst, ◌∙◌, arith}
use Rattle.std.specs.Prelude.{ℕ, ◌<◌, ◌≤◌, ◌+◌, List, Some, length, slice_get}
use Rattle.std.proofs.lemmas.Option.{slice_get_within}
use Rattle.fop_types.specs.Calls.{Submission, call_numbered}
use Rattle.graph_build.specs.declared.plans.Plan.{Plan}
use Rattle.script_lang.specs.declared.scripts.Script.{Script}
use Rattle.brick_machine.specs.Journal.{Journal}
use Rattle.mount_log.proofs.Items.{some_is}
use Rattle.mount_log.specs.Submissions.{submissions_of}
use Rattle.mount_log.specs.declared.logs.Log.{Log}
use Rattle.mount_log.specs.declared.logs.ReplyLine.{ReplyLine}
use Rattle.change_audit.proofs.Items.{each_more}
use Rattle.read_audit.specs.Read.{asked_by, IsRead, AnswersAreRead}
use Rattle.read_audit.specs.Replying.{IsReplyDue}

module _ (script : Script) (plans : List Plan) (log : Log) (bricks : List Journal) where
  pub reply_due : (calls : List Submission) (k : ℕ) (reply : ReplyLine) (made : Submission) → calls ≡ submissions_of script log → Some reply ≡ slice_get log.replies k → Some made ≡ call_numbered calls reply.call
      → IsRead script plans log bricks reply.call reply.event (asked_by made.call) reply.answer → (other : ReplyLine) → slice_get log.replies k ≡ Some other → IsReplyDue script plans log bricks other
  reply_due calls k reply made are here asked read other there =
      subst (λ (r : ReplyLine). IsReplyDue script plans log bricks r) (some_is reply other (here ∙ there)) own where
        own : IsReplyDue script plans log bricks reply
        own m is =
            subst (λ (s : Submission). IsRead script plans log bricks reply.call reply.event (asked_by s.call) reply.answer)
            (some_is made m (asked ∙ ap (λ (l : List Submission). call_numbered l reply.call) are ∙ is)) read

  -- the replies before a place
  abbrev AreDueTo : ℕ → Type 0
  AreDueTo n = (k : ℕ) (reply : ReplyLine) → k < n → slice_get log.replies k ≡ Some reply → IsReplyDue script plans log bricks reply

  pub replies_next : (n : ℕ) → ((reply : ReplyLine) → slice_get log.replies n ≡ Some reply → IsReplyDue script plans log bricks reply) → AreDueTo n → AreDueTo (n + 1)
  replies_next n own so_far = each_more (λ (k : ℕ) (r : ReplyLine). IsReplyDue script plans log bricks r) log.replies n own so_far

  pub all_read : (n : ℕ) → length log.replies ≤ n → AreDueTo n → AnswersAreRead script plans log bricks
  all_read n le are k reply made there is = let lt = slice_get_within log.replies k reply there in are k reply (omega (arith, lt, le)) there made is
