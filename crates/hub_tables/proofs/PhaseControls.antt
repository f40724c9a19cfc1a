-- The first of the entries of a map, where it has some.
use Rattle.std.proofs.Common.{◌≡◌, ◌==◌, refl, sym, ap, arith}
use Rattle.std.specs.Prelude.{ℕ, ◌<◌, true, false, List, [], ◌∷◌, length, is_none, slice_get, Option, None, Some}
use Rattle.script_lang.specs.declared.scripts.ControlLine.{ControlLine}
use Rattle.hub_tables.specs.PhaseControls.{value_of, action_by, where_may}

pub none_first : {X : Type 0} (xs : List X) → (0 < length xs → ⊥) → None ≡ slice_get xs 0
none_first [] none = refl
none_first (x ∷ xs) none = absurd (none (omega arith))

-- none is left exactly where there is no entry
pub none_left : (entries : List (ℕ × ControlLine)) → length entries ≡ 0 → is_none (action_by (value_of (slice_get entries 0))) ≡ true
none_left [] none = refl
none_left (e ∷ es) none = absurd (omega (arith, none))

pub some_left : (entries : List (ℕ × ControlLine)) → (length entries ≡ 0 → ⊥) → is_none (action_by (value_of (slice_get entries 0))) ≡ false
some_left [] some = absurd (some refl)
some_left (e ∷ es) some = refl

-- where none is to be armed, what has come may go on
pub none_unarmed : (many : ℕ) (place : Option ℕ) → many ≡ 0 → place ≡ where_may (many == 0) place
none_unarmed many place none = ap (λ (n : ℕ). where_may (n == 0) place) (sym none)
