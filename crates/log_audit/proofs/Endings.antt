-- Where sessions submit their lines in order, each submission is one of a call.
use Rattle.std.proofs.Common.{◌≡◌, refl, sym, ap, ◌∙◌, arith}
use Rattle.std.specs.Prelude.{ℕ, suc, ◌+◌, List, [], ◌∷◌, ◌++◌, Option, None, Some, length, take, slice_get}
use Rattle.fop_types.specs.Calls.{Submission}
use Rattle.script_lang.specs.Accepted.{calls_of}
use Rattle.script_lang.specs.declared.scripts.CallLine.{CallLine}
use Rattle.script_lang.specs.declared.scripts.Script.{Script}
use Rattle.mount_log.specs.Follows.{AreInOrder, IsNextLine, IsFinished}
use Rattle.mount_log.specs.Logs.{submits_in, is_submit}
use Rattle.mount_log.specs.Submissions.{session_line, submits_of, submissions_from, submitted_by, with_submission}
use Rattle.mount_log.specs.declared.logs.HubEvent.{HubEvent}
use Rattle.mount_log.specs.declared.logs.HubEvent.TheVariants as logged
use Rattle.mount_log.specs.declared.logs.Log.{Log}
use Rattle.log_audit.specs.Replied.{HaveOne}

module _ {X : Type 0} where
  regroup : (xs : List X) (x : X) (ys : List X) → (xs ++ x ∷ []) ++ ys ≡ xs ++ x ∷ ys
  regroup [] x ys = refl
  regroup (y ∷ xs) x ys = ap (λ l. y ∷ l) (regroup xs x ys)

  front : (xs ys : List X) → take (length xs) (xs ++ ys) ≡ xs
  front [] ys = refl
  front (x ∷ xs) ys = ap (λ l. x ∷ l) (front xs ys)

  next_is : (xs : List X) (y : X) (ys : List X) → slice_get (xs ++ y ∷ ys) (length xs) ≡ Some y
  next_is [] y ys = refl
  next_is (x ∷ xs) y ys = next_is xs y ys

with_one : (session : ℕ) (o : Option CallLine) (line : CallLine) (rest : List Submission) → o ≡ Some line → length (with_submission session o rest) ≡ 1 + length rest
with_one session None line rest e = absurd cc
with_one session (Some l) line rest e = let n = length rest in let s : suc n ≡ 1 + n = omega arith in s

module _ (script : Script) (log : Log) (order : AreInOrder script log) where
  one_event : (before : List HubEvent) (e : HubEvent) (rest : List Submission) → ((session line : ℕ) → e ≡ logged.Submit session line → IsNextLine script log (length before) session line) → take (length before) log.events ≡ before
      → length (submitted_by script before e rest) ≡ is_submit e + length rest
  one_event before (logged.Submit session line) rest next prefix =
      let n = next session line refl in
      with_one session (session_line script session (submits_of session before)) n.there rest (ap (λ (l : List HubEvent). session_line script session (submits_of session l)) (sym prefix) ∙ n.next)
  one_event before (logged.Arrive brick bytes) rest next prefix = let n = length rest in let s : n ≡ 0 + n = omega arith in s
  one_event before (logged.Run graph task) rest next prefix = let n = length rest in let s : n ≡ 0 + n = omega arith in s
  one_event before (logged.Act a) rest next prefix = let n = length rest in let s : n ≡ 0 + n = omega arith in s
  one_event before (logged.Arm brick p count a) rest next prefix = let n = length rest in let s : n ≡ 0 + n = omega arith in s

  many : (before es : List HubEvent) → log.events ≡ before ++ es → length (submissions_from script before es) ≡ submits_in es
  many before [] is = refl
  many before (e ∷ es) is =
      let ih = many (before ++ e ∷ []) es (is ∙ sym (regroup before e es)) in
      let prefix : take (length before) log.events ≡ before = ap (take (length before)) is ∙ front before (e ∷ es) in
      let o = one_event before e (submissions_from script (before ++ e ∷ []) es) (λ session line e_is. order (length before) session line (ap (λ (l : List HubEvent). slice_get l (length before)) is ∙ next_is before e es ∙ ap Some e_is)) prefix in
      omega (arith, ih, o)

  pub finished : submits_in log.events ≡ length (calls_of script.phases) → HaveOne (length (calls_of script.phases)) log.replies → IsFinished script log
  finished all one = record { submitted = many [] log.events refl ∙ all; replied = one.each; no_other = one.many }

  -- and a finished log has one for each call
  pub submits_are : IsFinished script log → submits_in log.events ≡ length (calls_of script.phases)
  submits_are f = sym (many [] log.events refl) ∙ f.submitted
