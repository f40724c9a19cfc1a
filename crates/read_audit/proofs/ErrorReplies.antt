-- The paths on which an error may rest, and the replies so far, with what their errors rest on.
use Rattle.std.proofs.Common.{◌≡◌, ap, subst, ◌∙◌, arith, inl, inr}
use Rattle.std.specs.Prelude.{ℕ, ◌<◌, ◌≤◌, ◌+◌, List, [], ◌∷◌, None, Some, length, slice_get}
use Rattle.std.proofs.lemmas.Option.{slice_get_within}
use Rattle.fop_types.specs.Calls.{Submission, call_numbered}
use Rattle.graph_build.specs.declared.plans.Plan.{Plan}
use Rattle.script_lang.specs.declared.scripts.Script.{Script}
use Rattle.brick_machine.specs.Journal.{Journal}
use Rattle.mount_log.proofs.Items.{some_is}
use Rattle.mount_log.specs.Submissions.{submissions_of}
use Rattle.mount_log.specs.declared.logs.Log.{Log}
use Rattle.mount_log.specs.declared.logs.ReplyLine.{ReplyLine}
use Rattle.change_audit.proofs.Items.{each_more}
use Rattle.read_audit.specs.Erring.{IsErrorDue}
use Rattle.read_audit.specs.Errors.{OnAPath, IsErrorRead, ErrorsAreRead}

-- ---- paths

pub on_none : (paths : List (List (List ℕ))) (P : List (List ℕ) → Type 0) → None ≡ slice_get paths 0 → OnAPath paths P
on_none [] P none = tt
on_none (path ∷ paths) P none = absurd cc

pub on_first : (paths : List (List (List ℕ))) (P : List (List ℕ) → Type 0) (path : List (List ℕ)) → Some path ≡ slice_get paths 0 → P path → OnAPath paths P
on_first [] P path there holds = absurd cc
on_first (own ∷ []) P path there holds = subst P (some_is path own there) holds
on_first (own ∷ other ∷ paths) P path there holds = inl (subst P (some_is path own there) holds)

pub on_second : (paths : List (List (List ℕ))) (P : List (List ℕ) → Type 0) (path : List (List ℕ)) → Some path ≡ slice_get paths 1 → P path → OnAPath paths P
on_second [] P path there holds = absurd cc
on_second (own ∷ []) P path there holds = absurd cc
on_second (own ∷ other ∷ paths) P path there holds = inr (subst P (some_is path other there) holds)

-- ---- replies

module _ (script : Script) (plans : List Plan) (log : Log) (bricks : List Journal) where
  pub error_due : (calls : List Submission) (k : ℕ) (reply : ReplyLine) (made : Submission) → calls ≡ submissions_of script log → Some reply ≡ slice_get log.replies k → Some made ≡ call_numbered calls reply.call
      → IsErrorRead script plans log bricks reply.call reply.event made.call reply.answer → (other : ReplyLine) → slice_get log.replies k ≡ Some other → IsErrorDue script plans log bricks other
  error_due calls k reply made are here asked read other there =
      subst (λ (r : ReplyLine). IsErrorDue script plans log bricks r) (some_is reply other (here ∙ there)) own where
        own : IsErrorDue script plans log bricks reply
        own m is =
            subst (λ (s : Submission). IsErrorRead script plans log bricks reply.call reply.event s.call reply.answer)
            (some_is made m (asked ∙ ap (λ (l : List Submission). call_numbered l reply.call) are ∙ is)) read

  -- the replies before a place
  abbrev AreDueTo : ℕ → Type 0
  AreDueTo n = (k : ℕ) (reply : ReplyLine) → k < n → slice_get log.replies k ≡ Some reply → IsErrorDue script plans log bricks reply

  pub errors_next : (n : ℕ) → ((reply : ReplyLine) → slice_get log.replies n ≡ Some reply → IsErrorDue script plans log bricks reply) → AreDueTo n → AreDueTo (n + 1)
  errors_next n own so_far = each_more (λ (k : ℕ) (r : ReplyLine). IsErrorDue script plans log bricks r) log.replies n own so_far

  pub all_read : (n : ℕ) → length log.replies ≤ n → AreDueTo n → ErrorsAreRead script plans log bricks
  all_read n le are k reply made there is = let lt = slice_get_within log.replies k reply there in are k reply (omega (arith, lt, le)) there made is
