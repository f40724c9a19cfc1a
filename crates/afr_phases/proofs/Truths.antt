-- The truths of replicas: of whom they are, who is in both, and who is the lowest.
use Rattle.std.proofs.Common.{◌≡◌, ◌∙◌, ℕ, zero, suc, ◌<◌, Bool, true, false, ◌&&◌, List, Option, Some, None, is_some, is_none, refl, sym, subst, arith, if◌then◌else◌}
use Rattle.std.proofs.lemmas.Bool.{and_parts, and_from, true≢false}
use Rattle.afr_phases.specs.Flags.{flag, flags_by, both, lowest}

pub flags_at : (p : ℕ → Bool) (k : ℕ) → flag (flags_by p) k ≡ true → p k ≡ true
flags_at p zero h = h
flags_at p (suc zero) h = h
flags_at p (suc (suc zero)) h = h
flags_at p (suc (suc (suc zero))) h = h
flags_at p (suc (suc (suc (suc zero)))) h = h
flags_at p (suc (suc (suc (suc (suc k))))) h = absurd cc

pub below_five : (p : ℕ → Bool) (k : ℕ) → flag (flags_by p) k ≡ true → k < 5
below_five p zero h = omega arith
below_five p (suc zero) h = omega arith
below_five p (suc (suc zero)) h = omega arith
below_five p (suc (suc (suc zero))) h = omega arith
below_five p (suc (suc (suc (suc zero)))) h = omega arith
below_five p (suc (suc (suc (suc (suc k))))) h = absurd cc

pub flags_have : (p : ℕ → Bool) (k : ℕ) → k < 5 → p k ≡ true → flag (flags_by p) k ≡ true
flags_have p zero l h = h
flags_have p (suc zero) l h = h
flags_have p (suc (suc zero)) l h = h
flags_have p (suc (suc (suc zero))) l h = h
flags_have p (suc (suc (suc (suc zero)))) l h = h
flags_have p (suc (suc (suc (suc (suc k))))) l h = absurd (omega arith)

-- none at or above five
pub flags_end : (p : ℕ → Bool) (k : ℕ) → (k < 5 → ⊥) → flag (flags_by p) k ≡ false
flags_end p zero h = absurd (h (omega arith))
flags_end p (suc zero) h = absurd (h (omega arith))
flags_end p (suc (suc zero)) h = absurd (h (omega arith))
flags_end p (suc (suc (suc zero))) h = absurd (h (omega arith))
flags_end p (suc (suc (suc (suc zero)))) h = absurd (h (omega arith))
flags_end p (suc (suc (suc (suc (suc k))))) h = refl

pub both_left : (a b : List Bool) (k : ℕ) → flag (both a b) k ≡ true → flag a k ≡ true
both_left a b k h = (and_parts (flag a k) (flag b k) (flags_at (λ j. flag a j && flag b j) k h)).0

pub both_right : (a b : List Bool) (k : ℕ) → flag (both a b) k ≡ true → flag b k ≡ true
both_right a b k h = (and_parts (flag a k) (flag b k) (flags_at (λ j. flag a j && flag b j) k h)).1

pub both_have : (a b : List Bool) (k : ℕ) → k < 5 → flag a k ≡ true → flag b k ≡ true → flag (both a b) k ≡ true
both_have a b k l h i = flags_have (λ j. flag a j && flag b j) k l (and_from (flag a k) (flag b k) h i)

-- ---- the lowest

some_is : (n k : ℕ) → ◌≡◌ {A = Option ℕ} (Some n) (Some k) → n ≡ k
some_is n k h = cc

-- the truth is one of the first five, where it is true of the lowest
abbrev IsAt : List Bool → ℕ → Type 0
IsAt flags k = (flag flags k ≡ true) × (k < 5)

first_is : (flags : List Bool) (n k : ℕ) (later : Option ℕ) → n < 5 → (later ≡ Some k → IsAt flags k) → (if flag flags n then Some n else later) ≡ Some k → IsAt flags k
first_is flags n k later low rest = by (flag flags n) refl where
  by : (b : Bool) → flag flags n ≡ b → (if b then Some n else later) ≡ Some k → IsAt flags k
  by true e h = subst (λ (j : ℕ). IsAt flags j) (some_is n k h) (e, low)
  by false e h = rest h

pub lowest_at : (flags : List Bool) (k : ℕ) → lowest flags ≡ Some k → (flag flags k ≡ true) × (k < 5)
lowest_at flags k =
    first_is flags 0 k _ (omega arith) (first_is flags 1 k _ (omega arith) (first_is flags 2 k _ (omega arith) (first_is flags 3 k _ (omega arith) (first_is flags 4 k _ (omega arith) (λ h. absurd cc)))))

pub lowest_is : (flags : List Bool) (k : ℕ) → lowest flags ≡ Some k → flag flags k ≡ true
lowest_is flags k h = (lowest_at flags k h).0

-- where there is one, and where there is none
pub lowest_there : (flags : List Bool) → is_none (lowest flags) ≡ false → (k : ℕ) × ((flag flags k ≡ true) × (k < 5))
lowest_there flags h = by (lowest flags) refl h where
  by : (o : Option ℕ) → lowest flags ≡ o → is_none o ≡ false → (k : ℕ) × ((flag flags k ≡ true) × (k < 5))
  by None e n = absurd (true≢false n)
  by (Some k) e n = (k, lowest_at flags k e)

pub some_there : (flags : List Bool) → is_some (lowest flags) ≡ true → (k : ℕ) × ((flag flags k ≡ true) × (k < 5))
some_there flags h = by (lowest flags) refl h where
  by : (o : Option ℕ) → lowest flags ≡ o → is_some o ≡ true → (k : ℕ) × ((flag flags k ≡ true) × (k < 5))
  by None e n = absurd (true≢false (sym n))
  by (Some k) e n = (k, lowest_at flags k e)

skips : (flags : List Bool) (n : ℕ) (later : Option ℕ) → (if flag flags n then Some n else later) ≡ None → (flag flags n ≡ false) × (later ≡ None)
skips flags n later = by (flag flags n) refl where
  by : (b : Bool) → flag flags n ≡ b → (if b then Some n else later) ≡ None → (flag flags n ≡ false) × (later ≡ None)
  by true e h = absurd cc
  by false e h = (e, h)

-- without a lowest one it is true of none of the five
pub lowest_none : (flags : List Bool) (k : ℕ) → k < 5 → lowest flags ≡ None → flag flags k ≡ false
lowest_none flags k low h =
    let a = skips flags 0 _ h in
    let b = skips flags 1 _ a.1 in
    let c = skips flags 2 _ b.1 in
    let d = skips flags 3 _ c.1 in
    let e = skips flags 4 None d.1 in
    at k low a.0 b.0 c.0 d.0 e.0
  where
    at : (j : ℕ) → j < 5 → flag flags 0 ≡ false → flag flags 1 ≡ false → flag flags 2 ≡ false → flag flags 3 ≡ false → flag flags 4 ≡ false → flag flags j ≡ false
    at zero l a b c d e = a
    at (suc zero) l a b c d e = b
    at (suc (suc zero)) l a b c d e = c
    at (suc (suc (suc zero))) l a b c d e = d
    at (suc (suc (suc (suc zero)))) l a b c d e = e
    at (suc (suc (suc (suc (suc j))))) l a b c d e = absurd (omega arith)

pub lowest_some : (flags : List Bool) (k : ℕ) → k < 5 → flag flags k ≡ true → is_some (lowest flags) ≡ true
lowest_some flags k low h = by (lowest flags) refl where
  by : (o : Option ℕ) → lowest flags ≡ o → is_some o ≡ true
  by None e = absurd (true≢false (sym h ∙ lowest_none flags k low e))
  by (Some j) e = refl
