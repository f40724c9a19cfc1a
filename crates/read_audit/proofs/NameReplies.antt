-- The replies so far, with the names that they rest on.
use Rattle.std.proofs.Common.{◌≡◌, ap, subst, ◌∙◌, arith}
use Rattle.std.specs.Prelude.{ℕ, ◌<◌, ◌≤◌, ◌+◌, true, List, Some, length, slice_get}
use Rattle.std.proofs.lemmas.Option.{slice_get_within}
use Rattle.fop_types.specs.Calls.{Submission, call_numbered}
use Rattle.fop_types.specs.Replies.{is_ok}
use Rattle.graph_build.specs.declared.plans.Plan.{Plan}
use Rattle.script_lang.specs.declared.scripts.Script.{Script}
use Rattle.brick_machine.specs.Journal.{Journal}
use Rattle.mount_log.proofs.Items.{some_is}
use Rattle.mount_log.specs.Submissions.{submissions_of}
use Rattle.mount_log.specs.declared.logs.Log.{Log}
use Rattle.mount_log.specs.declared.logs.ReplyLine.{ReplyLine}
use Rattle.change_audit.proofs.Items.{each_more}
use Rattle.read_audit.specs.Names.{IsNamed, NamesAreRead}
use Rattle.read_audit.specs.Naming.{IsNameDue}

module _ (script : Script) (plans : List Plan) (log : Log) (bricks : List Journal) where
  pub name_due : (calls : List Submission) (k : ℕ) (reply : ReplyLine) (made : Submission) → calls ≡ submissions_of script log → Some reply ≡ slice_get log.replies k → Some made ≡ call_numbered calls reply.call
      → (is_ok reply.answer ≡ true → IsNamed script plans log bricks reply.call reply.event made.call reply.answer) → (other : ReplyLine) → slice_get log.replies k ≡ Some other → IsNameDue script plans log bricks other
  name_due calls k reply made are here asked named other there =
      subst (λ (r : ReplyLine). IsNameDue script plans log bricks r) (some_is reply other (here ∙ there)) own where
        own : IsNameDue script plans log bricks reply
        own m is well =
            subst (λ (s : Submission). IsNamed script plans log bricks reply.call reply.event s.call reply.answer)
            (some_is made m (asked ∙ ap (λ (l : List Submission). call_numbered l reply.call) are ∙ is)) (named well)

  -- the replies before a place
  abbrev AreNamedTo : ℕ → Type 0
  AreNamedTo n = (k : ℕ) (reply : ReplyLine) → k < n → slice_get log.replies k ≡ Some reply → IsNameDue script plans log bricks reply

  pub names_next : (n : ℕ) → ((reply : ReplyLine) → slice_get log.replies n ≡ Some reply → IsNameDue script plans log bricks reply) → AreNamedTo n → AreNamedTo (n + 1)
  names_next n own so_far = each_more (λ (k : ℕ) (r : ReplyLine). IsNameDue script plans log bricks r) log.replies n own so_far

  pub all_named : (n : ℕ) → length log.replies ≤ n → AreNamedTo n → NamesAreRead script plans log bricks
  all_named n le are k reply made there is well = let lt = slice_get_within log.replies k reply there in are k reply (omega (arith, lt, le)) there made is well
