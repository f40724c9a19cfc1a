-- Who is asked, and whom requests name.
use Rattle.std.proofs.Common.{◌≡◌, ◌∙◌, ℕ, zero, suc, ◌+◌, ◌<◌, ◌≤◌, ◌⊎◌, inl, inr, Bool, true, false, ◌&&◌, ◌||◌, ◌==◌, not, nat_lt, List, [], ◌∷◌, refl, sym, ap, subst, arith, if◌then◌else◌, slice_set}
use Rattle.std.specs.Prelude.{◌≢◌}
use Rattle.std.proofs.lemmas.Bool.{and_parts, and_from, and_left, and_right, true≢false, cases_eq, eqb-true, eq-eqb, ne_eqb, ltb-true, lt-ltb, false_from_ne_true}
use Rattle.std.proofs.lemmas.List.{get_or-set_other}
use Rattle.fop_types.specs.Bounds.{Each}
use Rattle.fop_types.specs.declared.messages.BrickReq.{BrickReq}
use Rattle.afr_phases.specs.declared.wave.Wave.{Wave}
use Rattle.afr_phases.specs.Asked.{are_among, is_within, is_only, is_waiting, is_named, AreApart, AreSent, IsLast}
use Rattle.afr_phases.specs.Flags.{flag, flags_by}
use Rattle.afr_phases.specs.Sending.{sends, sends_among}
use Rattle.afr_phases.specs.Waves.{is_asked, is_over, sent_to, taken}

-- ---- among whom

not_or : (a b : Bool) → (not a || b) ≡ true → a ≡ true → b ≡ true
not_or true b h e = h
not_or false b h e = absurd (true≢false (sym e))

from_or : (a b : Bool) → (a ≡ true → b ≡ true) → (not a || b) ≡ true
from_or true b h = h refl
from_or false b h = refl

pub among_at : (p : ℕ → Bool) (k j m : ℕ) (flags : List Bool) → are_among p k flags ≡ true → flag flags j ≡ true → m ≡ k + j → p m ≡ true
among_at p k j m [] h f e = absurd (true≢false (sym f))
among_at p k zero m (x ∷ xs) h f e =
    let same : k ≡ m = omega arith in
    subst (λ (i : ℕ). p i ≡ true) same (not_or x (p k) (and_parts (not x || p k) (are_among p (k + 1) xs) h).0 f)
among_at p k (suc j) m (x ∷ xs) h f e =
    among_at p (k + 1) j m xs (and_parts (not x || p k) (are_among p (k + 1) xs) h).1 f (omega arith)

pub among_has : (p : ℕ → Bool) (k : ℕ) (flags : List Bool) → ((j m : ℕ) → m ≡ k + j → flag flags j ≡ true → p m ≡ true) → are_among p k flags ≡ true
among_has p k [] h = refl
among_has p k (x ∷ xs) h =
    and_from (not x || p k) (are_among p (k + 1) xs) (from_or x (p k) (λ f. h 0 k (omega arith) f))
    (among_has p (k + 1) xs (λ j m e f. h (suc j) m (omega arith) f))

pub within_at : (n k : ℕ) (flags : List Bool) → is_within n flags ≡ true → flag flags k ≡ true → k < n
within_at n k flags h f = ltb-true k n (among_at (λ i. nat_lt i n) 0 k k flags h f (omega arith))

pub within_has : (n : ℕ) (flags : List Bool) → ((k : ℕ) → flag flags k ≡ true → k < n) → is_within n flags ≡ true
within_has n flags h = among_has (λ i. nat_lt i n) 0 flags (λ j m e f. let same : j ≡ m = omega arith in lt-ltb m n (subst (λ (i : ℕ). i < n) same (h j f)))

pub only_at : (at k : ℕ) (flags : List Bool) → is_only at flags ≡ true → flag flags k ≡ true → k ≡ at
only_at at k flags h f = eqb-true k at (among_at (λ i. i == at) 0 k k flags h f (omega arith))

pub only_has : (at : ℕ) (flags : List Bool) → ((k : ℕ) → flag flags k ≡ true → k ≡ at) → is_only at flags ≡ true
only_has at flags h = among_has (λ i. i == at) 0 flags (λ j m e f. let same : j ≡ m = omega arith in eq-eqb m at (sym same ∙ h j f))

-- ---- who is asked still

pub asked_before : (xs : List Bool) (k j : ℕ) → flag (slice_set xs k false) j ≡ true → flag xs j ≡ true
asked_before [] k j h = h
asked_before (x ∷ xs) zero zero h = absurd (true≢false (sym h))
asked_before (x ∷ xs) zero (suc j) h = h
asked_before (x ∷ xs) (suc k) zero h = h
asked_before (x ∷ xs) (suc k) (suc j) h = asked_before xs k j h

pub asked_not : (xs : List Bool) (k : ℕ) → flag (slice_set xs k false) k ≡ false
asked_not [] k = refl
asked_not (x ∷ xs) zero = refl
asked_not (x ∷ xs) (suc k) = asked_not xs k

-- who is asked after an answer
pub asked_after : (wave : Wave) (k j : ℕ) (confirms : Bool) → is_asked (taken wave k confirms) j ≡ (is_asked wave j && not (j == k))
asked_after wave k j confirms = by (cases_eq j k) where
  same : is_asked (taken wave k confirms) k ≡ (is_asked wave k && not (k == k))
  same = asked_not wave.asked k ∙ sym (and_right (is_asked wave k) (not (k == k)) (ap not (eq-eqb k k refl)))

  still : (b : Bool) → b ≡ (b && not false)
  still true = refl
  still false = refl

  by : (j ≡ k) ⊎ (j ≢ k) → is_asked (taken wave k confirms) j ≡ (is_asked wave j && not (j == k))
  by (inl e) = subst (λ (i : ℕ). is_asked (taken wave k confirms) i ≡ (is_asked wave i && not (i == k))) (sym e) same
  by (inr apart) = get_or-set_other wave.asked k j false false apart ∙ still (is_asked wave j) ∙ ap (λ b. is_asked wave j && not b) (sym (ne_eqb j k apart))

none_of : (a b : Bool) → not (a || b) ≡ true → (a ≡ false) × (not b ≡ true)
none_of true b h = absurd (true≢false (sym h))
none_of false b h = (refl, h)

last_not : (a : Bool) → not a ≡ true → a ≡ false
last_not true h = absurd (true≢false (sym h))
last_not false h = refl

pub none_asked : (w : Wave) (j : ℕ) → j < 5 → is_over w ≡ true → is_asked w j ≡ false
none_asked w j low over =
    let a = none_of (flag w.asked 0) _ over in
    let b = none_of (flag w.asked 1) _ a.1 in
    let c = none_of (flag w.asked 2) _ b.1 in
    let d = none_of (flag w.asked 3) (flag w.asked 4) c.1 in
    at j low a.0 b.0 c.0 d.0 (last_not (flag w.asked 4) d.1)
  where
    at : (j : ℕ) → j < 5 → flag w.asked 0 ≡ false → flag w.asked 1 ≡ false → flag w.asked 2 ≡ false → flag w.asked 3 ≡ false → flag w.asked 4 ≡ false → flag w.asked j ≡ false
    at zero l a b c d e = a
    at (suc zero) l a b c d e = b
    at (suc (suc zero)) l a b c d e = c
    at (suc (suc (suc zero))) l a b c d e = d
    at (suc (suc (suc (suc zero)))) l a b c d e = e
    at (suc (suc (suc (suc (suc j))))) l a b c d e = absurd (omega arith)

all_none : (a b : Bool) → a ≡ false → not b ≡ true → not (a || b) ≡ true
all_none true b e h = absurd (true≢false e)
all_none false b e h = h

pub over_from : (w : Wave) → ((j : ℕ) → j < 5 → is_asked w j ≡ false) → is_over w ≡ true
over_from w h =
    all_none (flag w.asked 0) _ (h 0 (omega arith)) (all_none (flag w.asked 1) _ (h 1 (omega arith)) (all_none (flag w.asked 2) _ (h 2 (omega arith))
    (all_none (flag w.asked 3) (flag w.asked 4) (h 3 (omega arith)) (ap not (h 4 (omega arith))))))

pub someone_asked : (w : Wave) (k : ℕ) → k < 5 → is_asked w k ≡ true → is_over w ≡ false
someone_asked w k low h = false_from_ne_true (is_over w) (λ over. true≢false (sym h ∙ none_asked w k low over))

-- where no more than one is asked, its answer ends the phase
pub over_after : (wave : Wave) (k : ℕ) (confirms : Bool) → is_only k wave.asked ≡ true → is_over (taken wave k confirms) ≡ true
over_after wave k confirms h = over_from (taken wave k confirms) (λ j low. false_from_ne_true (is_asked (taken wave k confirms) j) (λ f. true≢false (sym f ∙ none j f))) where
  none : (j : ℕ) → is_asked (taken wave k confirms) j ≡ true → is_asked (taken wave k confirms) j ≡ false
  none j f =
      let same : j ≡ k = only_at k j wave.asked h (asked_before wave.asked k j f) in
      subst (λ (i : ℕ). flag (slice_set wave.asked k false) i ≡ false) (sym same) (asked_not wave.asked k)

-- ---- requests

member : ℕ → List ℕ → Bool
member k [] = false
member k (j ∷ js) = (j == k) || member k js

here : (b : Bool) → b ≡ true → (m f : Bool) → f ≡ true → (b || m) ≡ ((b || m) && f)
here b e m f t = rw (e, t) refl

gone : (m f : Bool) → f ≡ false → (m && f) ≡ ((true || m) && f)
gone true f t = refl
gone false f t = sym t

named_step : (j : ℕ) (ks : List ℕ) (to : List Bool) (req : BrickReq) (k : ℕ) → is_named k (sends_among ks to req) ≡ (member k ks && flag to k) → (b : Bool) → flag to j ≡ b → (j ≡ k) ⊎ (j ≢ k)
    → is_named k (if b then (j, req) ∷ sends_among ks to req else sends_among ks to req) ≡ (((j == k) || member k ks) && flag to k)
named_step j ks to req k rest true e (inl same) =
    let t : flag to k ≡ true = subst (λ (i : ℕ). flag to i ≡ true) same e in rw (eq-eqb j k same, t) refl
named_step j ks to req k rest true e (inr apart) = rw (ne_eqb j k apart) rest
named_step j ks to req k rest false e (inl same) =
    let t : flag to k ≡ false = subst (λ (i : ℕ). flag to i ≡ false) same e in rw (eq-eqb j k same) (rest ∙ gone (member k ks) (flag to k) t)
named_step j ks to req k rest false e (inr apart) = rw (ne_eqb j k apart) rest

named_among : (ks : List ℕ) (to : List Bool) (req : BrickReq) (k : ℕ) → is_named k (sends_among ks to req) ≡ (member k ks && flag to k)
unfolding member
named_among [] to req k = refl
named_among (j ∷ ks) to req k = named_step j ks to req k (named_among ks to req k) (flag to j) refl (cases_eq j k)

pub named_as : (p : ℕ → Bool) (req : BrickReq) (k : ℕ) → is_named k (sends (flags_by p) req) ≡ flag (flags_by p) k
unfolding member
named_as p req k = named_among (0 ∷ 1 ∷ 2 ∷ 3 ∷ 4 ∷ []) (flags_by p) req k ∙ at k where
  at : (k : ℕ) → (member k (0 ∷ 1 ∷ 2 ∷ 3 ∷ 4 ∷ []) && flag (flags_by p) k) ≡ flag (flags_by p) k
  at zero = refl
  at (suc zero) = refl
  at (suc (suc zero)) = refl
  at (suc (suc (suc zero))) = refl
  at (suc (suc (suc (suc zero)))) = refl
  at (suc (suc (suc (suc (suc k))))) = and_right (member (suc (suc (suc (suc (suc k))))) (0 ∷ 1 ∷ 2 ∷ 3 ∷ 4 ∷ [])) false refl

-- each of these replicas once
AreOnce : List ℕ → Type 0
AreOnce [] = Unit {0}
AreOnce (k ∷ ks) = (member k ks ≡ false) × AreOnce ks

apart_among : (ks : List ℕ) (to : List Bool) (req : BrickReq) → AreOnce ks → AreApart (sends_among ks to req)
unfolding AreOnce
apart_among [] to req once = tt
apart_among (k ∷ ks) to req once = by (flag to k) (apart_among ks to req once.1) where
  by : (b : Bool) → AreApart (sends_among ks to req) → AreApart (if b then (k, req) ∷ sends_among ks to req else sends_among ks to req)
  by true rest = (named_among ks to req k ∙ and_left (member k ks) (flag to k) once.0, rest)
  by false rest = rest

once_each : AreOnce (0 ∷ 1 ∷ 2 ∷ 3 ∷ 4 ∷ [])
unfolding AreOnce member
once_each = (refl, (refl, (refl, (refl, (refl, tt)))))

pub sent_each : (p : ℕ → Bool) (req : BrickReq) → AreSent (sent_to (flags_by p)) (sends (flags_by p) req)
sent_each p req = record { asked = named_as p req; apart = apart_among (0 ∷ 1 ∷ 2 ∷ 3 ∷ 4 ∷ []) (flags_by p) req once_each }

each_among : (P : ℕ → BrickReq → Type 0) (ks : List ℕ) (to : List Bool) (req : BrickReq) → ((k : ℕ) → flag to k ≡ true → P k req) → Each (λ (r : ℕ × BrickReq). P r.0 r.1) (sends_among ks to req)
each_among P [] to req h = tt
each_among P (k ∷ ks) to req h = by (flag to k) refl (each_among P ks to req h) where
  by : (b : Bool) → flag to k ≡ b → Each (λ (r : ℕ × BrickReq). P r.0 r.1) (sends_among ks to req) → Each (λ (r : ℕ × BrickReq). P r.0 r.1) (if b then (k, req) ∷ sends_among ks to req else sends_among ks to req)
  by true e rest = (h k e, rest)
  by false e rest = rest

-- what holds of the request to each of them holds of all that is sent
pub each_sent : (P : ℕ → BrickReq → Type 0) (to : List Bool) (req : BrickReq) → ((k : ℕ) → flag to k ≡ true → P k req) → Each (λ (r : ℕ × BrickReq). P r.0 r.1) (sends to req)
each_sent P to req h = each_among P (0 ∷ 1 ∷ 2 ∷ 3 ∷ 4 ∷ []) to req h

-- a phase that goes to somebody, and only to replicas of the set
pub waiting_for : (n k : ℕ) (to : List Bool) → k < 5 → flag to k ≡ true → ((j : ℕ) → flag to j ≡ true → j < n) → is_waiting n (sent_to to) ≡ true
waiting_for n k to five some low =
    and_from (not (is_over (sent_to to))) (is_within n to) (ap not (someone_asked (sent_to to) k five some)) (within_has n to low)

-- after an answer that is not the last one
pub waiting_after : (n k : ℕ) (wave : Wave) (confirms : Bool) → is_waiting n wave ≡ true → is_over (taken wave k confirms) ≡ false → is_waiting n (taken wave k confirms) ≡ true
waiting_after n k wave confirms h more =
    let parts = and_parts (not (is_over wave)) (is_within n wave.asked) h in
    and_from (not (is_over (taken wave k confirms))) (is_within n (taken wave k confirms).asked) (ap not more)
    (within_has n (slice_set wave.asked k false) (λ j f. within_at n j wave.asked parts.1 (asked_before wave.asked k j f)))

-- the answer that ends a phase is the last one
pub last_of : (n k : ℕ) (wave : Wave) (confirms : Bool) → n ≤ 5 → is_within n wave.asked ≡ true → is_over (taken wave k confirms) ≡ true → IsLast k wave
last_of n k wave confirms few within over j = by (is_asked wave j) refl where
  by : (b : Bool) → is_asked wave j ≡ b → (b && not (j == k)) ≡ false
  by false e = refl
  by true e =
      let low : j < n = within_at n j wave.asked within e in
      let low_five : j < 5 = omega arith in
      sym (ap (λ b. b && not (j == k)) e) ∙ sym (asked_after wave k j confirms) ∙ none_asked (taken wave k confirms) j low_five over
