-- Sets left out of a list of sets, and the sets that are left from one on.
use Rattle.std.proofs.Common.{eq-eqb, ◌≡◌, ◌∙◌, ℕ, suc, ◌+◌, ◌-◌, ◌<◌, ◌==◌, ◌||◌, true, false, List, [], ◌∷◌, Option, Some, None, if◌then◌else◌, refl, ap, sym, arith}
use Rattle.std.specs.List.{range_with_len}
use Rattle.std.proofs.lemmas.Bool.{ne_eqb}
use Rattle.dht_linkto.specs.Search.{is_set, without, others}
use Rattle.dht_linkto.specs.Cursor.{left_from}

-- where there is none to leave out, all stay
pub without_none : (sets : List ℕ) → without sets None ≡ sets
without_none [] = refl
without_none (set ∷ sets) = ap (λ (s : List ℕ). set ∷ s) (without_none sets)

without_both : (set : ℕ) (sets : List ℕ) (hashed : ℕ) (linked : Option ℕ) → without (without (set ∷ sets) (Some hashed)) linked ≡ (if (hashed == set) || is_set linked set then without (without sets (Some hashed)) linked else set ∷ without (without sets (Some hashed)) linked)
without_both set sets hashed linked =
    elim (hashed == set) as (λ b. without (if b then without sets (Some hashed) else set ∷ without sets (Some hashed)) linked ≡ (if b || is_set linked set then without (without sets (Some hashed)) linked else set ∷ without (without sets (Some hashed)) linked)) [ true ↦ refl | false ↦ refl ]

pub left_step : (set count hashed : ℕ) (linked : Option ℕ) → set < count → left_from set count hashed linked ≡ (if (hashed == set) || is_set linked set then left_from (set + 1) count hashed linked else set ∷ left_from (set + 1) count hashed linked)
left_step set count hashed linked h =
    let one : count - set ≡ suc (count - (set + 1)) = omega arith in
    rw one (without_both set (range_with_len (set + 1) (count - (set + 1))) hashed linked)

pub left_none : (count hashed : ℕ) (linked : Option ℕ) → left_from count count hashed linked ≡ []
left_none count hashed linked = let none : count - count ≡ 0 = omega arith in rw none refl

-- a set that is neither of the two is the next one
pub left_take : (set count hashed : ℕ) (linked : Option ℕ) → set < count → (set ≡ hashed → ⊥) → is_set linked set ≡ false → left_from set count hashed linked ≡ set ∷ left_from (set + 1) count hashed linked
left_take set count hashed linked h ne free =
    let other : (hashed == set) ≡ false = ne_eqb hashed set (λ e. ne (sym e)) in
    left_step set count hashed linked h ∙ rw (other, free) refl

-- one of the two is passed over
pub left_skip_hashed : (set count hashed : ℕ) (linked : Option ℕ) → set < count → set ≡ hashed → left_from set count hashed linked ≡ left_from (set + 1) count hashed linked
left_skip_hashed set count hashed linked h e =
    let same : (hashed == set) ≡ true = eq-eqb hashed set (sym e) in
    left_step set count hashed linked h ∙ rw same refl

pub left_skip_linked : (set count hashed : ℕ) (linked : Option ℕ) → set < count → (set ≡ hashed → ⊥) → is_set linked set ≡ true → left_from set count hashed linked ≡ left_from (set + 1) count hashed linked
left_skip_linked set count hashed linked h ne early =
    let other : (hashed == set) ≡ false = ne_eqb hashed set (λ e. ne (sym e)) in
    left_step set count hashed linked h ∙ rw (other, early) refl

-- at the start all but the hashed one are left
pub left_all : (count hashed : ℕ) → left_from 0 count hashed None ≡ others count hashed
left_all count hashed = let all : count - 0 ≡ count = omega arith in rw all (without_none (others count hashed))

-- the set to which the first link led is left out as well
pub left_linked : (first count hashed : ℕ) (linked : Option ℕ) (set : ℕ) → linked ≡ None → left_from first count hashed (Some set) ≡ without (left_from first count hashed linked) (Some set)
left_linked first count hashed linked set none = rw (none, without_none) refl
