-- The sessions of an accepted script's lines, and the lines of its phases.
use Rattle.std.proofs.Common.{◌≡◌, ℕ, zero, suc, ◌+◌, ◌<◌, ◌≤◌, ◌==◌, Bool, true, false, if◌then◌else◌, List, [], ◌∷◌, ◌++◌, length, map, flat_map, take, get_or, refl, sym, ap, ◌∙◌, arith, append_assoc, append-nil, length-append, le_trans, take-suc, length-take-le, subst, inl, inr}
use Rattle.std.proofs.lemmas.Bool.{cases_lt, eqb-false}
use Rattle.std.specs.List.{AllByRecursion}
use Rattle.script_lang.specs.declared.scripts.CallLine.{CallLine}
use Rattle.script_lang.specs.declared.scripts.Phase.{Phase}
use Rattle.script_lang.specs.declared.scripts.Script.{Script}
use Rattle.script_lang.specs.Accepted.{IsAccepted, AreNumbered, mentioned, with_mention, calls_of}
use Rattle.mount_log.specs.declared.places.LineAt.{LineAt}
use Rattle.mount_log.specs.Lines.{queue_of, places_in, places_from}

less_by : (count session : ℕ) → session ≤ count → ((session ≡ count) → ⊥) → session < count
less_by count session l d = elim (cases_lt session count) [ inl less ↦ less | inr g ↦ absurd (d (omega arith)) ]

mention_by : (count session : ℕ) (b : Bool) → (session == count) ≡ b → session ≤ count → (session < (if b then count + 1 else count)) × (count ≤ (if b then count + 1 else count))
mention_by count session true is l = (omega arith, omega arith)
mention_by count session false is l = (less_by count session l (eqb-false session count is), omega arith)

mentions : (count session : ℕ) → session ≤ count → (session < with_mention count session) × (count ≤ with_mention count session)
mentions count session l = mention_by count session (session == count) refl l

mentioned_grows : (count : ℕ) (lines : List CallLine) → AreNumbered count lines → count ≤ mentioned count lines
mentioned_grows count [] h = omega arith
mentioned_grows count (line ∷ lines) h = le_trans (mentions count line.session h.0).1 (mentioned_grows (with_mention count line.session) lines h.1)

pub sessions_below : (count : ℕ) (lines : List CallLine) → AreNumbered count lines → AllByRecursion (λ (line : CallLine). line.session < mentioned count lines) lines
sessions_below count [] h = tt
sessions_below count (line ∷ lines) h =
    let next = with_mention count line.session in
    (le_trans (mentions count line.session h.0).0 (mentioned_grows next lines h.1), sessions_below next lines h.1)

module _ (P : CallLine → Type 0) where
  all_left : (xs ys : List CallLine) → AllByRecursion P (xs ++ ys) → AllByRecursion P xs
  all_left [] ys h = tt
  all_left (x ∷ xs) ys h = (h.0, all_left xs ys h.1)

  all_right : (xs ys : List CallLine) → AllByRecursion P (xs ++ ys) → AllByRecursion P ys
  all_right [] ys h = h
  all_right (x ∷ xs) ys h = all_right xs ys h.1

  pub by_phase : (ps : List Phase) → AllByRecursion P (calls_of ps) → AllByRecursion (λ (p : Phase). AllByRecursion P p.calls) ps
  by_phase [] h = tt
  by_phase (p ∷ ps) h = (all_left p.calls (calls_of ps) h, by_phase ps (all_right p.calls (calls_of ps) h))

pub few_by_phase : (limit : ℕ) (ps : List Phase) → length (calls_of ps) ≤ limit → AllByRecursion (λ (p : Phase). length p.calls ≤ limit) ps
few_by_phase limit [] l = tt
few_by_phase limit (p ∷ ps) l =
    let long : length (p.calls ++ calls_of ps) ≡ length p.calls + length (calls_of ps) = length-append p.calls (calls_of ps) in
    (omega (arith, l, long), few_by_phase limit ps (omega (arith, l, long)))

pub lines_below : (script : Script) → IsAccepted script → AllByRecursion (λ (p : Phase). AllByRecursion (λ (line : CallLine). line.session < length script.sessions) p.calls) script.phases
lines_below script h = subst (λ (n : ℕ). AllByRecursion (λ (p : Phase). AllByRecursion (λ (line : CallLine). line.session < n) p.calls) script.phases) h.sessions.all
    (by_phase (λ (line : CallLine). line.session < mentioned 0 (calls_of script.phases)) script.phases (sessions_below 0 (calls_of script.phases) h.sessions.numbered))

pub few_lines : (script : Script) → IsAccepted script → AllByRecursion (λ (p : Phase). length p.calls ≤ 4294967295) script.phases
few_lines script h = few_by_phase 4294967295 script.phases (omega (arith, h.few_calls))

-- ---- one phase more, and one queue more

one_more : (n : ℕ) → n + 1 ≡ suc n
one_more n = omega arith

pub phases_push : (session n : ℕ) (ps : List Phase) (p : Phase) → places_from session n (ps ++ p ∷ []) ≡ places_from session n ps ++ places_in session (n + length ps) 0 p.calls
phases_push session n [] p =
    let e : n ≡ n + 0 = omega arith in
    append-nil (places_in session n 0 p.calls) ∙ ap (λ (k : ℕ). places_in session k 0 p.calls) e
phases_push session n (q ∷ ps) p =
    let e : n + 1 + length ps ≡ n + suc (length ps) = omega arith in
    ap (λ (l : List LineAt). places_in session n 0 q.calls ++ l) (phases_push session (n + 1) ps p ∙ ap (λ (k : ℕ). places_from session (n + 1) ps ++ places_in session k 0 p.calls) e)
    ∙ sym (append_assoc (places_in session n 0 q.calls) (places_from session (n + 1) ps) (places_in session (n + suc (length ps)) 0 p.calls))

pub lines_are_below : (script : Script) (n : ℕ) → IsAccepted script → n ≡ length script.sessions → AllByRecursion (λ (p : Phase). AllByRecursion (λ (line : CallLine). line.session < n) p.calls) script.phases
lines_are_below script n h is = subst (λ (m : ℕ). AllByRecursion (λ (p : Phase). AllByRecursion (λ (line : CallLine). line.session < m) p.calls) script.phases) (sym is) (lines_below script h)

pub phase_step : (i : ℕ) (old now new : List (List LineAt)) (phases : List Phase) (p : Phase) → i < length phases → p ≡ get_or phases i p
    → ((s : ℕ) → queue_of now s ≡ queue_of old s ++ places_from s 0 (take i phases))
    → ((s : ℕ) → queue_of new s ≡ queue_of now s ++ places_in s i 0 p.calls)
    → (s : ℕ) → queue_of new s ≡ queue_of old s ++ places_from s 0 (take (i + 1) phases)
phase_step i old now new phases p fits is so_far shares s =
    let more : take (i + 1) phases ≡ take i phases ++ p ∷ [] = ap (λ (n : ℕ). take n phases) (one_more i) ∙ take-suc phases i p fits ∙ ap (λ (x : Phase). take i phases ++ x ∷ []) (sym is) in
    let long : length (take i phases) ≡ i = length-take-le i phases (omega arith) in
    let at : 0 + length (take i phases) ≡ i = omega (arith, long) in
    shares s ∙ ap (λ (l : List LineAt). l ++ places_in s i 0 p.calls) (so_far s)
    ∙ append_assoc (queue_of old s) (places_from s 0 (take i phases)) (places_in s i 0 p.calls)
    ∙ ap (λ (l : List LineAt). queue_of old s ++ l)
    (ap (λ (n : ℕ). places_from s 0 (take i phases) ++ places_in s n 0 p.calls) (sym at) ∙ sym (phases_push s 0 (take i phases) p) ∙ ap (places_from s 0) (sym more))

pub phase_share : (i number : ℕ) (old now new : List (List LineAt)) (phases : List Phase) (p : Phase) (calls : List CallLine)
    → ((s : ℕ) → queue_of new s ≡ queue_of now s ++ places_in s number 0 calls) → number ≡ i → calls ≡ p.calls → i < length phases → p ≡ get_or phases i p
    → ((s : ℕ) → queue_of now s ≡ queue_of old s ++ places_from s 0 (take i phases))
    → (s : ℕ) → queue_of new s ≡ queue_of old s ++ places_from s 0 (take (i + 1) phases)
phase_share i number old now new phases p calls shares number_is calls_are fits is so_far =
    phase_step i old now new phases p fits is so_far (λ s. shares s ∙ ap (λ (n : ℕ). queue_of now s ++ places_in s n 0 calls) number_is ∙ ap (λ (l : List CallLine). queue_of now s ++ places_in s i 0 l) calls_are)

module _ {A : Type 0} (f : A → List LineAt) where
  pub empty_push : (qs : List A) (q : A) → f q ≡ [] → ((s : ℕ) → queue_of (map f qs) s ≡ []) → (s : ℕ) → queue_of (map f (qs ++ q ∷ [])) s ≡ []
  empty_push [] q none h zero = none
  empty_push [] q none h (suc s) = refl
  empty_push (x ∷ qs) q none h zero = h 0
  empty_push (x ∷ qs) q none h (suc s) = empty_push qs q none (λ k. h (suc k)) s

  pub empty_more : (qs news : List A) (q : A) → news ≡ qs ++ q ∷ [] → f q ≡ [] → ((s : ℕ) → queue_of (map f qs) s ≡ []) → (s : ℕ) → queue_of (map f news) s ≡ []
  empty_more qs news q is none h s = ap (λ (l : List A). queue_of (map f l) s) is ∙ empty_push qs q none h s
