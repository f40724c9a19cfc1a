-- Calls that are submitted, one event after another.
use Rattle.std.proofs.Common.{◌≡◌, refl, sym, ap, subst, ◌∙◌, ℕ, ◌+◌, ◌<◌, ◌≤◌, ◌==◌, zero, suc, List, [], ◌∷◌, ◌++◌, length, take, drop, get_or, arith, append_assoc, append-nil}
use Rattle.std.specs.Prelude.{Bool, true, false, Option, Some, None, slice_get, if◌then◌else◌}
use Rattle.std.proofs.lemmas.Bool.{eqb-true, eqb-false}
use Rattle.std.proofs.lemmas.List.{take_more, drop_more, drop_all, length_push}
use Rattle.fop_types.specs.Calls.{Submission}
use Rattle.script_lang.specs.declared.scripts.CallLine.{CallLine}
use Rattle.script_lang.specs.declared.scripts.Script.{Script}
use Rattle.mount_log.specs.Lines.{queue_of, places_from, TakesLine}
use Rattle.mount_log.specs.Submissions.{session_line, line_by, submits_of, is_submit_of, with_submission, submissions_from}
use Rattle.mount_log.specs.declared.logs.HubEvent.{HubEvent}
use Rattle.mount_log.specs.declared.logs.HubEvent.TheVariants as logged
use Rattle.mount_log.specs.declared.places.LineAt.{LineAt}
use Rattle.log_calls.specs.Events.{HaveLeft, Submits, submit_events, submitter}
use Rattle.log_calls.specs.Gathering.{lines_left, GathersCall, Gathers, HasGathered}
use Rattle.log_calls.specs.declared.calls.Gathered.{Gathered}

submits_push : (session : ℕ) (es : List HubEvent) (e : HubEvent) → submits_of session (es ++ e ∷ []) ≡ submits_of session es + is_submit_of session e
submits_push session [] e = let n = is_submit_of session e in let z : n + 0 ≡ 0 + n = omega arith in z
submits_push session (x ∷ es) e = let ih = submits_push session es e in omega (arith, ih)

module _ {X : Type 0} where
  head_is : (a b : X) (us vs : List X) → a ∷ us ≡ b ∷ vs → a ≡ b
  head_is a b us vs e = cc

  tail_is : (a b : X) (us vs : List X) → a ∷ us ≡ b ∷ vs → us ≡ vs
  tail_is a b us vs e = cc

  first_left : (xs : List X) (n : ℕ) (x : X) (rest : List X) → drop n xs ≡ x ∷ rest → slice_get xs n ≡ Some x
  first_left [] zero x rest e = absurd cc
  first_left [] (suc n) x rest e = absurd cc
  first_left (y ∷ xs) zero x rest e = ap Some (head_is y x xs rest e)
  first_left (y ∷ xs) (suc n) x rest e = first_left xs n x rest e

  rest_after : (xs : List X) (n : ℕ) (x : X) (rest : List X) → drop n xs ≡ x ∷ rest → drop (suc n) xs ≡ rest
  rest_after [] zero x rest e = absurd cc
  rest_after [] (suc n) x rest e = absurd cc
  rest_after (y ∷ xs) zero x rest e = tail_is y x xs rest e
  rest_after (y ∷ xs) (suc n) x rest e = rest_after xs n x rest e

  rest_left : (xs : List X) (n : ℕ) (x : X) (rest : List X) → drop n xs ≡ x ∷ rest → drop (n + 1) xs ≡ rest
  rest_left xs n x rest e = let s : n + 1 ≡ suc n = omega arith in ap (λ (m : ℕ). drop m xs) s ∙ rest_after xs n x rest e

-- ---- an event that submits nothing

none_submitted : (e : HubEvent) → submitter e ≡ None → (session : ℕ) → is_submit_of session e ≡ 0
none_submitted (logged.Submit at line) other session = absurd cc
none_submitted (logged.Arrive brick bytes) other session = refl
none_submitted (logged.Run graph task) other session = refl
none_submitted (logged.Act a) other session = refl
none_submitted (logged.Arm brick p count a) other session = refl

same_calls : (script : Script) (before : List HubEvent) (e : HubEvent) (es : List HubEvent) → submitter e ≡ None
    → submissions_from script before (e ∷ es) ≡ submissions_from script (before ++ e ∷ []) es
same_calls script before (logged.Submit at line) es other = absurd cc
same_calls script before (logged.Arrive brick bytes) es other = refl
same_calls script before (logged.Run graph task) es other = refl
same_calls script before (logged.Act a) es other = refl
same_calls script before (logged.Arm brick p count a) es other = refl

same_numbers : (last : ℕ) (e : HubEvent) (es : List HubEvent) → submitter e ≡ None → submit_events last (e ∷ es) ≡ submit_events (last + 1) es
same_numbers last (logged.Submit at line) es other = absurd cc
same_numbers last (logged.Arrive brick bytes) es other = refl
same_numbers last (logged.Run graph task) es other = refl
same_numbers last (logged.Act a) es other = refl
same_numbers last (logged.Arm brick p count a) es other = refl

-- the line of an event that submits one
abbrev line_number : HubEvent → ℕ
line_number (logged.Submit session line) = line
line_number (logged.Arrive brick bytes) = 0
line_number (logged.Run graph task) = 0
line_number (logged.Act a) = 0
line_number (logged.Arm brick p count a) = 0

submit_is : (e : HubEvent) (own : ℕ) → submitter e ≡ Some own → e ≡ logged.Submit own (line_number e)
submit_is (logged.Submit session line) own h = let same : session ≡ own = cc in ap (λ (n : ℕ). logged.Submit n line) same
submit_is (logged.Arrive brick bytes) own h = absurd cc
submit_is (logged.Run graph task) own h = absurd cc
submit_is (logged.Act a) own h = absurd cc
submit_is (logged.Arm brick p count a) own h = absurd cc

-- ---- an event that submits a line

left_more : (script : Script) (es : List HubEvent) (own line : ℕ) (old new : List (List LineAt)) (at : LineAt) → TakesLine old own at new → HaveLeft script es old
    → HaveLeft script (es ++ logged.Submit own line ∷ []) new
left_more script es own line old new at takes left session = by (own == session) refl where
  pushed : submits_of session (es ++ logged.Submit own line ∷ []) ≡ submits_of session es + (if own == session then 1 else 0)
  pushed = submits_push session es (logged.Submit own line)

  by : (b : Bool) → (own == session) ≡ b → queue_of new session ≡ drop (submits_of session (es ++ logged.Submit own line ∷ [])) (places_from session 0 script.phases)
  by true e =
      let s : own ≡ session = eqb-true own session e in
      let one : submits_of session es + 1 ≡ submits_of session (es ++ logged.Submit own line ∷ []) = sym (pushed ∙ ap (λ (b : Bool). submits_of session es + (if b then 1 else 0)) e) in
      subst (λ (n : ℕ). queue_of new n ≡ drop (submits_of n es + 1) (places_from n 0 script.phases)) s
      (sym (rest_left (places_from own 0 script.phases) (submits_of own es) at (queue_of new own) (sym (left own) ∙ takes.line)))
      ∙ ap (λ (n : ℕ). drop n (places_from session 0 script.phases)) one
  by false e =
      let n = submits_of session es in
      let none : n ≡ submits_of session (es ++ logged.Submit own line ∷ []) = let p = pushed ∙ ap (λ (b : Bool). n + (if b then 1 else 0)) e in omega (arith, p) in
      takes.others session (λ s. eqb-false own session e (sym s)) ∙ left session ∙ ap (λ (n : ℕ). drop n (places_from session 0 script.phases)) none

line_is : (script : Script) (es : List HubEvent) (own : ℕ) (old new : List (List LineAt)) (s : Submission) (sub : Submits script old own s new) → HaveLeft script es old
    → session_line script own (submits_of own es) ≡ Some sub.line
line_is script es own old new s sub left =
    ap (line_by script) (first_left (places_from own 0 script.phases) (submits_of own es) sub.at (queue_of new own) (sym (left own) ∙ sub.takes.line)) ∙ sub.there

-- ---- the loop over the events

module _ (script : Script) (events : List HubEvent) (i : ℕ) (e : HubEvent) (lt : i < length events) (is : e ≡ get_or events i e) where
  more : take (i + 1) events ≡ take i events ++ e ∷ []
  more = take_more events i e lt ∙ ap (λ (x : HubEvent). take i events ++ x ∷ []) (sym is)

  first : drop i events ≡ e ∷ drop (i + 1) events
  first = drop_more events i e lt ∙ ap (λ (x : HubEvent). x ∷ drop (i + 1) events) (sym is)

  left_same : (queues : List (List LineAt)) → submitter e ≡ None → HaveLeft script (take i events) queues → HaveLeft script (take (i + 1) events) queues
  left_same queues other left session =
      let p = submits_push session (take i events) e in let z = none_submitted e other session in
      let same : submits_of session (take i events) ≡ submits_of session (take i events ++ e ∷ []) = omega (arith, p, z) in
      left session ∙ ap (λ (n : ℕ). drop n (places_from session 0 script.phases)) same
      ∙ ap (λ (l : List HubEvent). drop (submits_of session l) (places_from session 0 script.phases)) (sym more)

  calls_same : (calls all : List Submission) → submitter e ≡ None → calls ++ submissions_from script (take i events) (drop i events) ≡ all
      → calls ++ submissions_from script (take (i + 1) events) (drop (i + 1) events) ≡ all
  calls_same calls all other so_far =
      let next : submissions_from script (take i events) (drop i events) ≡ submissions_from script (take (i + 1) events) (drop (i + 1) events) =
      ap (submissions_from script (take i events)) first ∙ same_calls script (take i events) e (drop (i + 1) events) other
      ∙ ap (λ (l : List HubEvent). submissions_from script l (drop (i + 1) events)) (sym more) in
      ap (λ (l : List Submission). calls ++ l) (sym next) ∙ so_far

  numbers_same : (numbers all : List ℕ) → submitter e ≡ None → numbers ++ submit_events i (drop i events) ≡ all → numbers ++ submit_events (i + 1) (drop (i + 1) events) ≡ all
  numbers_same numbers all other so_far =
      let next : submit_events i (drop i events) ≡ submit_events (i + 1) (drop (i + 1) events) = ap (submit_events i) first ∙ same_numbers i e (drop (i + 1) events) other in
      ap (λ (l : List ℕ). numbers ++ l) (sym next) ∙ so_far

  module _ (own line : ℕ) (old new : List (List LineAt)) (s : Submission) (e_is : e ≡ logged.Submit own line) (sub : Submits script old own s new) (left : HaveLeft script (take i events) old) where
    left_next : HaveLeft script (take (i + 1) events) new
    left_next =
        subst (λ (l : List HubEvent). HaveLeft script l new) (sym (more ∙ ap (λ (x : HubEvent). take i events ++ x ∷ []) e_is))
        (left_more script (take i events) own line old new sub.at sub.takes left)

    calls_more : (calls all : List Submission) → calls ++ submissions_from script (take i events) (drop i events) ≡ all
        → (calls ++ s ∷ []) ++ submissions_from script (take (i + 1) events) (drop (i + 1) events) ≡ all
    calls_more calls all so_far =
        let here : submissions_from script (take i events) (logged.Submit own line ∷ drop (i + 1) events)
        ≡ with_submission own (Some sub.line) (submissions_from script (take i events ++ logged.Submit own line ∷ []) (drop (i + 1) events)) =
        ap (λ (o : Option CallLine). with_submission own o (submissions_from script (take i events ++ logged.Submit own line ∷ []) (drop (i + 1) events)))
        (line_is script (take i events) own old new s sub left) in
        let begins : submissions_from script (take i events) (drop i events) ≡ s ∷ submissions_from script (take (i + 1) events) (drop (i + 1) events) =
        ap (submissions_from script (take i events)) (first ∙ ap (λ (x : HubEvent). x ∷ drop (i + 1) events) e_is) ∙ here
        ∙ ap (λ (x : Submission). x ∷ submissions_from script (take i events ++ logged.Submit own line ∷ []) (drop (i + 1) events)) (sym sub.call_is)
        ∙ ap (λ (l : List HubEvent). s ∷ submissions_from script l (drop (i + 1) events)) (sym (more ∙ ap (λ (x : HubEvent). take i events ++ x ∷ []) e_is)) in
        append_assoc calls (s ∷ []) (submissions_from script (take (i + 1) events) (drop (i + 1) events)) ∙ ap (λ (l : List Submission). calls ++ l) (sym begins) ∙ so_far

  numbers_more : (own line : ℕ) (numbers all : List ℕ) → e ≡ logged.Submit own line → numbers ++ submit_events i (drop i events) ≡ all
      → (numbers ++ (i + 1) ∷ []) ++ submit_events (i + 1) (drop (i + 1) events) ≡ all
  numbers_more own line numbers all e_is so_far =
      let begins : submit_events i (drop i events) ≡ (i + 1) ∷ submit_events (i + 1) (drop (i + 1) events) =
      ap (submit_events i) (first ∙ ap (λ (x : HubEvent). x ∷ drop (i + 1) events) e_is) in
      append_assoc numbers ((i + 1) ∷ []) (submit_events (i + 1) (drop (i + 1) events)) ∙ ap (λ (l : List ℕ). numbers ++ l) (sym begins) ∙ so_far

  same_kept : (g : Gathered) → submitter e ≡ None → HasGathered script events i g → HasGathered script events (i + 1) g
  same_kept g other h = record {
    left = left_same (lines_left g) other h.left;
    calls = calls_same g.calls.items (submissions_from script [] events) other h.calls;
    numbers = numbers_same g.numbers.items (submit_events 0 events) other h.numbers;
    long = h.long;
  }

  one_more : (own : ℕ) (old new : Gathered) → submitter e ≡ Some own → GathersCall script own (i + 1) old new → HasGathered script events i old → HasGathered script events (i + 1) new
  one_more own old new by g h =
      let e_is : e ≡ logged.Submit own (line_number e) = submit_is e own by in
      record {
        left = left_next own (line_number e) (lines_left old) (lines_left new) g.s e_is g.submits h.left;
        calls = subst (λ (l : List Submission). l ++ submissions_from script (take (i + 1) events) (drop (i + 1) events) ≡ submissions_from script [] events) (sym g.calls)
            (calls_more own (line_number e) (lines_left old) (lines_left new) g.s e_is g.submits h.left old.calls.items (submissions_from script [] events) h.calls);
        numbers = subst (λ (l : List ℕ). l ++ submit_events (i + 1) (drop (i + 1) events) ≡ submit_events 0 events) (sym g.numbers)
            (numbers_more own (line_number e) old.numbers.items (submit_events 0 events) e_is h.numbers);
        long = ap length g.numbers ∙ length_push old.numbers.items (i + 1) ∙ ap (λ (n : ℕ). n + 1) h.long ∙ sym (length_push old.calls.items g.s) ∙ sym (ap length g.calls);
      }

  gathers_by : (o : Option ℕ) (old new : Gathered) → submitter e ≡ o → Gathers script o (i + 1) old new → HasGathered script events i old → HasGathered script events (i + 1) new
  gathers_by None old new by g h = subst (HasGathered script events (i + 1)) (sym g) (same_kept old by h)
  gathers_by (Some own) old new by g h = one_more own old new by g h

  pub gathered_next : (old new : Gathered) → Gathers script (submitter e) (i + 1) old new → HasGathered script events i old → HasGathered script events (i + 1) new
  gathered_next old new g h = gathers_by (submitter e) old new refl g h

pub gathered_none : (script : Script) (events : List HubEvent) (g : Gathered) → ((session : ℕ) → queue_of (lines_left g) session ≡ places_from session 0 script.phases)
    → g.calls.items ≡ [] → g.numbers.items ≡ [] → HasGathered script events 0 g
gathered_none script events g queues no_calls no_numbers = record {
  left = queues;
  calls = ap (λ (l : List Submission). l ++ submissions_from script [] events) no_calls;
  numbers = ap (λ (l : List ℕ). l ++ submit_events 0 events) no_numbers;
  long = ap length no_numbers ∙ sym (ap length no_calls);
}

-- all events were looked at
pub calls_all : (script : Script) (events : List HubEvent) (i : ℕ) (g : Gathered) → length events ≤ i → HasGathered script events i g
    → g.calls.items ≡ submissions_from script [] events
calls_all script events i g past h =
    sym (append-nil g.calls.items) ∙ ap (λ (l : List HubEvent). g.calls.items ++ submissions_from script (take i events) l) (sym (drop_all i events past)) ∙ h.calls

pub numbers_all : (script : Script) (events : List HubEvent) (i : ℕ) (g : Gathered) → length events ≤ i → HasGathered script events i g
    → g.numbers.items ≡ submit_events 0 events
numbers_all script events i g past h =
    sym (append-nil g.numbers.items) ∙ ap (λ (l : List HubEvent). g.numbers.items ++ submit_events i l) (sym (drop_all i events past)) ∙ h.numbers
