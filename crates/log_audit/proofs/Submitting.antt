-- Sessions that submit their lines in order, with one event more.
use Rattle.std.proofs.Common.{◌≡◌, refl, sym, ap, subst, ◌∙◌, arith, get_or}
use Rattle.std.specs.Prelude.{ℕ, zero, suc, ◌<◌, ◌≤◌, ◌+◌, ◌==◌, nat_lt, Bool, true, false, List, [], ◌∷◌, ◌++◌, None, Some, length, take, drop, slice_get, if◌then◌else◌}
use Rattle.std.proofs.lemmas.Bool.{ltb-true, ltb-false, eqb-true, eqb-false}
use Rattle.std.proofs.lemmas.List.{take_more, take_all}
use Rattle.std.proofs.lemmas.Option.{slice_get-get_or}
use Rattle.script_lang.specs.declared.scripts.CallLine.{CallLine}
use Rattle.script_lang.specs.declared.scripts.Script.{Script}
use Rattle.mount_log.specs.Follows.{AreInOrder}
use Rattle.mount_log.specs.Lines.{queue_of, places_from, line_of, TakesLine}
use Rattle.mount_log.specs.Submissions.{place_of_line, session_line, line_by, submits_of, is_submit_of}
use Rattle.mount_log.specs.declared.logs.HubEvent.{HubEvent}
use Rattle.mount_log.specs.declared.logs.HubEvent.TheVariants as logged
use Rattle.mount_log.specs.declared.logs.Log.{Log}
use Rattle.mount_log.specs.declared.places.LineAt.{LineAt}
use Rattle.log_audit.specs.Submitted.{HasNumber, AreNext, HaveLeft}
use Rattle.mount_log.proofs.Items.{was_there, is_last}

submits_push : (session : ℕ) (es : List HubEvent) (e : HubEvent) → submits_of session (es ++ e ∷ []) ≡ submits_of session es + is_submit_of session e
submits_push session [] e = let n = is_submit_of session e in let z : n + 0 ≡ 0 + n = omega arith in z
submits_push session (x ∷ es) e = let ih = submits_push session es e in omega (arith, ih)

module _ {X : Type 0} where
  pub take_within : (xs : List X) (x : X) (k : ℕ) → k ≤ length xs → take k (xs ++ x ∷ []) ≡ take k xs
  take_within xs x zero le = refl
  take_within [] x (suc k) le = absurd (omega (arith, le))
  take_within (y ∷ xs) x (suc k) le = ap (λ l. y ∷ l) (take_within xs x k (omega (arith, le)))

  pub take_long : (xs : List X) → take (length xs) xs ≡ xs
  take_long [] = refl
  take_long (y ∷ xs) = ap (λ l. y ∷ l) (take_long xs)

  head_is : (a b : X) (us vs : List X) → a ∷ us ≡ b ∷ vs → a ≡ b
  head_is a b us vs e = cc

  tail_is : (a b : X) (us vs : List X) → a ∷ us ≡ b ∷ vs → us ≡ vs
  tail_is a b us vs e = cc

  first_left : (xs : List X) (n : ℕ) (x : X) (rest : List X) → drop n xs ≡ x ∷ rest → slice_get xs n ≡ Some x
  first_left [] zero x rest e = absurd cc
  first_left [] (suc n) x rest e = absurd cc
  first_left (y ∷ xs) zero x rest e = ap Some (head_is y x xs rest e)
  first_left (y ∷ xs) (suc n) x rest e = first_left xs n x rest e

  rest_left' : (xs : List X) (n : ℕ) (x : X) (rest : List X) → drop n xs ≡ x ∷ rest → drop (suc n) xs ≡ rest
  rest_left' [] zero x rest e = absurd cc
  rest_left' [] (suc n) x rest e = absurd cc
  rest_left' (y ∷ xs) zero x rest e = tail_is y x xs rest e
  rest_left' (y ∷ xs) (suc n) x rest e = rest_left' xs n x rest e

  rest_left : (xs : List X) (n : ℕ) (x : X) (rest : List X) → drop n xs ≡ x ∷ rest → drop (n + 1) xs ≡ rest
  rest_left xs n x rest e = let s : n + 1 ≡ suc n = omega arith in ap (λ (m : ℕ). drop m xs) s ∙ rest_left' xs n x rest e

module _ (script : Script) (es : List HubEvent) (e : HubEvent) where
  next_more : AreNext script es → ((session line : ℕ) → e ≡ logged.Submit session line → HasNumber (session_line script session (submits_of session es)) line) → AreNext script (es ++ e ∷ [])
  next_more before own k session line is = by (nat_lt k (length es)) refl where
    by : (b : Bool) → nat_lt k (length es) ≡ b → HasNumber (session_line script session (submits_of session (take k (es ++ e ∷ [])))) line
    by true lt =
        let l = ltb-true k (length es) lt in
        subst (λ (l : List HubEvent). HasNumber (session_line script session (submits_of session l)) line) (sym (take_within es e k (omega (arith, l))))
        (before k session line (was_there es e (logged.Submit session line) k is l))
    by false le =
        let last = is_last es e (logged.Submit session line) k is (ltb-false k (length es) le) in
        let all : take k (es ++ e ∷ []) ≡ es = ap (λ (n : ℕ). take n (es ++ e ∷ [])) last.0 ∙ take_within es e (length es) (omega arith) ∙ take_long es in
        subst (λ (l : List HubEvent). HasNumber (session_line script session (submits_of session l)) line) (sym all) (own session line (sym last.1))

  pub left_other : (queues : List (List LineAt)) → ((session : ℕ) → is_submit_of session e ≡ 0) → HaveLeft script es queues → HaveLeft script (es ++ e ∷ []) queues
  left_other queues none left session =
      let p = submits_push session es e in let z = none session in let same : submits_of session es ≡ submits_of session (es ++ e ∷ []) = omega (arith, p, z) in
      left session ∙ ap (λ (n : ℕ). drop n (places_from session 0 script.phases)) same

  pub other_more : (queues : List (List LineAt)) → ((session line : ℕ) → e ≡ logged.Submit session line → ⊥) → ((session : ℕ) → is_submit_of session e ≡ 0) → AreNext script es × HaveLeft script es queues
      → AreNext script (es ++ e ∷ []) × HaveLeft script (es ++ e ∷ []) queues
  other_more queues not_one none both = (next_more both.0 (λ session line is. absurd (not_one session line is)), left_other queues none both.1)

pub submits_none : (e : HubEvent) → ((session line : ℕ) → e ≡ logged.Submit session line → ⊥) → (session : ℕ) → is_submit_of session e ≡ 0
submits_none (logged.Submit at line) not_one session = absurd (not_one at line refl)
submits_none (logged.Arrive brick bytes) not_one session = refl
submits_none (logged.Run graph task) not_one session = refl
submits_none (logged.Act a) not_one session = refl
submits_none (logged.Arm brick p count a) not_one session = refl

module _ (script : Script) (es : List HubEvent) (own line : ℕ) (old new : List (List LineAt)) (at : LineAt) (takes : TakesLine old own at new) (left : HaveLeft script es old) where
  pub its_next : slice_get (places_from own 0 script.phases) (submits_of own es) ≡ Some at
  its_next = first_left (places_from own 0 script.phases) (submits_of own es) at (queue_of new own) (sym (left own) ∙ takes.line)

  pub left_submit : HaveLeft script (es ++ logged.Submit own line ∷ []) new
  left_submit session = by (own == session) refl where
    pushed : submits_of session (es ++ logged.Submit own line ∷ []) ≡ submits_of session es + (if own == session then 1 else 0)
    pushed = submits_push session es (logged.Submit own line)

    by : (b : Bool) → (own == session) ≡ b → queue_of new session ≡ drop (submits_of session (es ++ logged.Submit own line ∷ [])) (places_from session 0 script.phases)
    by true e =
        let s : own ≡ session = eqb-true own session e in
        let one : submits_of session es + 1 ≡ submits_of session (es ++ logged.Submit own line ∷ []) = sym (pushed ∙ ap (λ (b : Bool). submits_of session es + (if b then 1 else 0)) e) in
        subst (λ (n : ℕ). queue_of new n ≡ drop (submits_of n es + 1) (places_from n 0 script.phases)) s
        (sym (rest_left (places_from own 0 script.phases) (submits_of own es) at (queue_of new own) (sym (left own) ∙ takes.line)))
        ∙ ap (λ (n : ℕ). drop n (places_from session 0 script.phases)) one
    by false e =
        let n = submits_of session es in
        let none : n ≡ submits_of session (es ++ logged.Submit own line ∷ []) = let p = pushed ∙ ap (λ (b : Bool). n + (if b then 1 else 0)) e in omega (arith, p) in
        takes.others session (λ s. eqb-false own session e (sym s)) ∙ left session ∙ ap (λ (n : ℕ). drop n (places_from session 0 script.phases)) none

  pub submit_more : HasNumber (line_of script at) line → AreNext script es → AreNext script (es ++ logged.Submit own line ∷ []) × HaveLeft script (es ++ logged.Submit own line ∷ []) new
  submit_more number next = (next_more script es (logged.Submit own line) next mine, left_submit) where
    sessions_are : (a b c d : ℕ) → logged.Submit a b ≡ logged.Submit c d → a ≡ c
    sessions_are a b c d e = cc

    lines_are : (a b c d : ℕ) → logged.Submit a b ≡ logged.Submit c d → b ≡ d
    lines_are a b c d e = cc

    here : HasNumber (session_line script own (submits_of own es)) line
    here = record { there = number.there; is = ap (line_by script) its_next ∙ number.is; number_is = number.number_is }

    mine : (session l : ℕ) → logged.Submit own line ≡ logged.Submit session l → HasNumber (session_line script session (submits_of session es)) l
    mine session l is =
        subst (λ (n : ℕ). HasNumber (session_line script session (submits_of session es)) n) (lines_are own line session l is)
        (subst (λ (s : ℕ). HasNumber (session_line script s (submits_of s es)) line) (sessions_are own line session l is) here)

-- the events so far with the next one
module _ (script : Script) (events : List HubEvent) (i : ℕ) (e : HubEvent) (lt : i < length events) (is : e ≡ get_or events i e) where
  more : take (i + 1) events ≡ take i events ++ e ∷ []
  more = take_more events i e lt ∙ ap (λ (x : HubEvent). take i events ++ x ∷ []) (sym is)

  pub other_next : (queues : List (List LineAt)) → ((session line : ℕ) → e ≡ logged.Submit session line → ⊥) → AreNext script (take i events) × HaveLeft script (take i events) queues
      → AreNext script (take (i + 1) events) × HaveLeft script (take (i + 1) events) queues
  other_next queues not_one both =
      subst (λ (l : List HubEvent). AreNext script l × HaveLeft script l queues) (sym more) (other_more script (take i events) e queues not_one (submits_none e not_one) both)

  pub submit_next : (own line : ℕ) (old new : List (List LineAt)) (at : LineAt) → e ≡ logged.Submit own line → TakesLine old own at new → HasNumber (line_of script at) line
      → AreNext script (take i events) × HaveLeft script (take i events) old → AreNext script (take (i + 1) events) × HaveLeft script (take (i + 1) events) new
  submit_next own line old new at e_is takes number both =
      subst (λ (l : List HubEvent). AreNext script l × HaveLeft script l new) (sym (more ∙ ap (λ (x : HubEvent). take i events ++ x ∷ []) e_is))
      (submit_more script (take i events) own line old new at takes both.1 number both.0)

-- the event that is read at a place is there
pub read_at : (events : List HubEvent) (i : ℕ) (e : HubEvent) → i < length events → e ≡ get_or events i e → slice_get events i ≡ Some e
read_at events i e lt is = slice_get-get_or events i e lt ∙ ap Some (sym is)

pub in_order : (script : Script) (log : Log) (i : ℕ) → length log.events ≤ i → AreNext script (take i log.events) → AreInOrder script log
in_order script log i le next k session line is =
    let all = take_all i log.events le in
    let n = subst (λ (l : List HubEvent). AreNext script l) all next k session line is in
    record { there = n.there; next = n.is; number = n.number_is }

-- ---- sessions that do so submit no other line

past : (xs : List LineAt) (n : ℕ) → drop n xs ≡ [] → slice_get xs n ≡ None
past [] n e = refl
past (x ∷ xs) zero e = absurd cc
past (x ∷ xs) (suc n) e = past xs n e

-- where a session has nothing left, its next call has no line
pub no_place : (script : Script) (es : List HubEvent) (session : ℕ) (queues : List (List LineAt)) → HaveLeft script es queues → queue_of queues session ≡ [] → place_of_line script session (submits_of session es) ≡ None
no_place script es session queues left none = past (places_from session 0 script.phases) (submits_of session es) (sym (left session) ∙ none)

module _ (script : Script) (log : Log) (i session line : ℕ) (there : slice_get log.events i ≡ Some (logged.Submit session line)) (old : List (List LineAt)) (left : HaveLeft script (take i log.events) old) (order : AreInOrder script log) where
  -- the session has a line left
  pub one_left : queue_of old session ≡ [] → ⊥
  one_left none =
      let n = order i session line there in
      no_line (sym (ap (line_by script) (no_place script (take i log.events) session old left none)) ∙ n.next) where
        no_line : {x : CallLine} → None ≡ Some x → ⊥
        no_line e = absurd cc

  -- and its number is that of the line
  pub its_number : (new : List (List LineAt)) (at : LineAt) → TakesLine old session at new → HasNumber (line_of script at) line
  its_number new at takes =
      let n = order i session line there in
      record { there = n.there; is = sym (ap (line_by script) (its_next script (take i log.events) session line old new at takes left)) ∙ n.next; number_is = n.number }
