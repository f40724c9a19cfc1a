-- The order in which a search reads the sets: each stands in it once.
use Rattle.std.proofs.Common.{◌≡◌, ◌≢◌, ◌∙◌, ℕ, zero, suc, ◌+◌, ◌<◌, ◌≤◌, ◌==◌, Bool, true, false, List, [], ◌∷◌, Option, Some, None, if◌then◌else◌, refl, ap, sym, arith}
use Rattle.std.proofs.lemmas.Bool.{ne_eqb, eqb-true, eqb-false}
use Rattle.std.specs.List.{range_with_len}
use Rattle.dht_linkto.specs.Search.{is_set, without, others, led}
use Rattle.dht_linkto.specs.Laws.{times, order}

-- the set does not stand in the list
abbrev pub Avoids : ℕ → List ℕ → Type 0
Avoids set [] = Unit {0}
Avoids set (other ∷ sets) = ((set == other) ≡ false) × Avoids set sets

pub other_way : (a b : ℕ) → (a == b) ≡ false → (b == a) ≡ false
other_way a b e = ne_eqb b a (λ (s : b ≡ a). eqb-false a b e (sym s))

-- ---- what leaving one out keeps

avoids_by : (set other : ℕ) (rest : List ℕ) (b : Bool) → (set == other) ≡ b → Avoids set rest → Avoids set (if b then rest else other ∷ rest)
avoids_by set other rest true e a = a
avoids_by set other rest false e a = (e, a)

pub avoids_without : (set : ℕ) (sets : List ℕ) → Avoids set (without sets (Some set))
avoids_without set [] = tt
avoids_without set (other ∷ sets) = avoids_by set other _ (set == other) refl (avoids_without set sets)

avoids_if : (set other : ℕ) (rest : List ℕ) (b : Bool) → (set == other) ≡ false → Avoids set rest → Avoids set (if b then rest else other ∷ rest)
avoids_if set other rest true e a = a
avoids_if set other rest false e a = (e, a)

pub without_avoids : (set : ℕ) (sets : List ℕ) (one : Option ℕ) → Avoids set sets → Avoids set (without sets one)
without_avoids set [] one a = tt
without_avoids set (other ∷ sets) one a = avoids_if set other _ (is_set one other) a.0 (without_avoids set sets one a.1)

led_by : (hashed set : ℕ) (sets : List ℕ) (b : Bool) → (set == hashed) ≡ b → Avoids hashed sets → Avoids hashed (if b then sets else set ∷ without sets (Some set))
led_by hashed set sets true e a = a
led_by hashed set sets false e a = (other_way set hashed e, without_avoids hashed sets (Some set) a)

pub led_avoids : (hashed : ℕ) (sets : List ℕ) (link : Option ℕ) → Avoids hashed sets → Avoids hashed (led hashed sets link)
led_avoids hashed sets None a = a
led_avoids hashed sets (Some set) a = led_by hashed set sets (set == hashed) refl a

-- ---- how often a set stands

pub avoids_times : (set : ℕ) (sets : List ℕ) → Avoids set sets → times set sets ≡ 0
avoids_times set [] a = refl
avoids_times set (other ∷ sets) a = rw (other_way set other a.0) (avoids_times set sets a.1)

times_kept : (set one other : ℕ) (rest all : List ℕ) (b : Bool) → (one == other) ≡ b → (one == set) ≡ false → times set rest ≡ times set all → times set (if b then rest else other ∷ rest) ≡ times set (other ∷ all)
times_kept set one other rest all true e ne h =
    let differ : (other == set) ≡ false = ne_eqb other set (λ (s : other ≡ set). eqb-false one set ne (eqb-true one other e ∙ s)) in
    rw differ h
times_kept set one other rest all false e ne h = rw h refl

-- another one than the one that is left out
pub times_without : (set one : ℕ) (sets : List ℕ) → (one == set) ≡ false → times set (without sets (Some one)) ≡ times set sets
times_without set one [] ne = refl
times_without set one (other ∷ sets) ne = times_kept set one other _ sets (one == other) refl ne (times_without set one sets ne)

times_above : (set first count : ℕ) → set < first → times set (range_with_len first count) ≡ 0
times_above set first zero h = refl
times_above set first (suc count) h =
    let differ : (first == set) ≡ false = ne_eqb first set (λ (e : first ≡ set). omega arith) in
    rw differ (times_above set (first + 1) count (omega arith))

times_first : (set first count : ℕ) (b : Bool) → (first == set) ≡ b → first ≤ set → set < first + suc count → (first + 1 ≤ set → times set (range_with_len (first + 1) count) ≡ 1) → (if b then suc (times set (range_with_len (first + 1) count)) else times set (range_with_len (first + 1) count)) ≡ 1
times_first set first count true e low high h =
    let same : first ≡ set = eqb-true first set e in
    ap suc (times_above set (first + 1) count (omega arith))
times_first set first count false e low high h =
    let differ : first ≢ set = eqb-false first set e in
    h (omega arith)

pub times_range : (set first count : ℕ) → first ≤ set → set < first + count → times set (range_with_len first count) ≡ 1
times_range set first zero low high = absurd (omega arith)
times_range set first (suc count) low high =
    times_first set first count (first == set) refl low high (λ (more : first + 1 ≤ set). times_range set (first + 1) count more (omega arith))

pub times_others : (set count hashed : ℕ) → set < count → (hashed == set) ≡ false → times set (others count hashed) ≡ 1
times_others set count hashed h ne = times_without set hashed (range_with_len 0 count) ne ∙ times_range set 0 count (omega arith) (omega arith)

-- ---- the order

led_once : (hashed set other : ℕ) (sets : List ℕ) (b : Bool) (c : Bool) → (other == hashed) ≡ b → (other == set) ≡ c → times set sets ≡ 1 → times set (if b then sets else other ∷ without sets (Some other)) ≡ 1
led_once hashed set other sets true c e d h = h
led_once hashed set other sets false true e d h =
    let same : other ≡ set = eqb-true other set d in
    rw d (ap suc (avoids_times set (without sets (Some other)) (rw same (avoids_without set sets))))
led_once hashed set other sets false false e d h = rw d (times_without set other sets d ∙ h)

led_times : (hashed set : ℕ) (sets : List ℕ) (link : Option ℕ) → times set sets ≡ 1 → times set (led hashed sets link) ≡ 1
led_times hashed set sets None h = h
led_times hashed set sets (Some other) h = led_once hashed set other sets (other == hashed) (other == set) refl refl h

ordered : (count hashed set : ℕ) (link : Option ℕ) (b : Bool) → (hashed == set) ≡ b → set < count → (if b then suc (times set (led hashed (others count hashed) link)) else times set (led hashed (others count hashed) link)) ≡ 1
ordered count hashed set link true e h =
    let same : hashed ≡ set = eqb-true hashed set e in
    ap suc (avoids_times set _ (rw (← same) (led_avoids hashed (others count hashed) link (avoids_without hashed (range_with_len 0 count)))))
ordered count hashed set link false e h = led_times hashed set (others count hashed) link (times_others set count hashed h e)

pub each_once : (count hashed set : ℕ) (link : Option ℕ) → hashed < count → set < count → times set (order count hashed link) ≡ 1
each_once count hashed set link h s = ordered count hashed set link (hashed == set) refl s
