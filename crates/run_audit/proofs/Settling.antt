-- What is left, and answers of heals and switches, from the numbers of events.
use Rattle.std.proofs.Common.{◌≡◌, sym, ap, subst, ◌∙◌}
use Rattle.std.specs.Prelude.{ℕ, ◌+◌, ◌<◌, ◌≤◌, List, Some, length, slice_get, take}
use Rattle.std.proofs.lemmas.Option.{slice_get_within}
use Rattle.script_lang.specs.Accepted.{calls_of}
use Rattle.script_lang.specs.declared.scripts.Script.{Script}
use Rattle.mount_log.specs.Controls.{AreAnswered}
use Rattle.mount_log.specs.Phases.{internal_from, HasNothingElse}
use Rattle.mount_log.specs.Submissions.{count_below}
use Rattle.mount_log.specs.declared.logs.Log.{Log}
use Rattle.run_audit.specs.Counting.{AreNumbers, IsSettled, AreAnsweredBy}
use Rattle.run_audit.specs.declared.numbers.Numbers.{Numbers}

pub as_many : (n : ℕ) (a b c d : List ℕ) → a ≡ c → b ≡ d → count_below n a ≡ count_below n b → count_below n c ≡ count_below n d
as_many n a b c d e f is = sym (ap (count_below n) e) ∙ is ∙ ap (count_below n) f

module _ (log : Log) (numbers : Numbers) (are : AreNumbers log numbers) where
  pub nothing_else : (script : Script) (phase number : ℕ) → IsSettled script numbers phase number → HasNothingElse script log phase number
  nothing_else script phase number is = record {
    replied = subst (λ (l : List ℕ). length (calls_of (take (phase + 1) script.phases)) ≤ count_below (number + 1) l) are.replied is.replied;
    internal = as_many (number + 1) numbers.internal numbers.answered _ _ are.internal are.answered is.internal;
    outputs = as_many (number + 1) numbers.owed numbers.arrived _ _ are.owed are.arrived is.outputs;
    winds = as_many (number + 1) numbers.opened numbers.ended _ _ are.opened are.ended is.winds;
  }

  pub all_answered : AreAnsweredBy numbers.internal numbers.answered → AreAnswered log
  all_answered by = record { many = moved.many; later = λ i act answer a b. (moved.each i (slice_get_within (internal_from 1 log.events) i act a)).later act answer a b; before_next = before } where
    moved : AreAnsweredBy (internal_from 1 log.events) log.answered
    moved = subst (λ (l : List ℕ). AreAnsweredBy l log.answered) are.internal (subst (λ (l : List ℕ). AreAnsweredBy numbers.internal l) are.answered by)

    before : (i answer next : ℕ) → slice_get log.answered i ≡ Some answer → slice_get (internal_from 1 log.events) (i + 1) ≡ Some next → answer < next
    before i answer next a b = (moved.each i (subst (λ (n : ℕ). i < n) moved.many (slice_get_within log.answered i answer a))).before_next answer next a b

  pub answered_by : AreAnswered log → AreAnsweredBy numbers.internal numbers.answered
  answered_by are_answered =
      subst (λ (l : List ℕ). AreAnsweredBy numbers.internal l) (sym are.answered)
      (subst (λ (l : List ℕ). AreAnsweredBy l log.answered) (sym are.internal) (record { many = are_answered.many; each = λ i lt. record { later = are_answered.later i; before_next = are_answered.before_next i } }))

  -- and the other way round
  pub settled_by : (script : Script) (phase number : ℕ) → HasNothingElse script log phase number → IsSettled script numbers phase number
  settled_by script phase number is = record {
    replied = subst (λ (l : List ℕ). length (calls_of (take (phase + 1) script.phases)) ≤ count_below (number + 1) l) (sym are.replied) is.replied;
    internal = as_many (number + 1) _ _ numbers.internal numbers.answered (sym are.internal) (sym are.answered) is.internal;
    outputs = as_many (number + 1) _ _ numbers.owed numbers.arrived (sym are.owed) (sym are.arrived) is.outputs;
    winds = as_many (number + 1) _ _ numbers.opened numbers.ended (sym are.opened) (sym are.ended) is.winds;
  }
