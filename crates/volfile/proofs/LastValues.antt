-- The last of equal option keys.
use Rattle.std.proofs.Common.{◌≡◌, ℕ, zero, suc, ◌+◌, ◌-◌, ◌<◌, ◌≤◌, true, cond, List, [], ◌∷◌, length, drop, get_or, Option, Some, None, sym, ap, ◌∙◌, arith}
use Rattle.std.proofs.lemmas.List.{drop_more}
use Rattle.volfile.specs.declared.volumes.OptionLine.{OptionLine}
use Rattle.volfile.specs.TextLines.{is_text}
use Rattle.volfile.specs.Options.{or_value, last_value}

-- a value that the last lines give is that of all
pub last_from : (n : ℕ) (os : List OptionLine) (key v : List ℕ) → last_value (drop n os) key ≡ Some v → last_value os key ≡ Some v
last_from zero os key v e = e
last_from (suc n) [] key v e = absurd cc
last_from (suc n) (o ∷ os) key v e = ap (λ (t : Option (List ℕ)). or_value t o.key o.value key) (last_from n os key v e)

pub last_here : (os : List OptionLine) (at : ℕ) (key : List ℕ) (d : OptionLine) → at < length os → last_value (drop (at + 1) os) key ≡ None → is_text (get_or os at d).key key ≡ true
    → last_value os key ≡ Some (get_or os at d).value
last_here os at key d within none is =
    last_from at os key (get_or os at d).value
    (ap (λ (l : List OptionLine). last_value l key) (drop_more os at d within)
    ∙ ap (λ (t : Option (List ℕ)). or_value t (get_or os at d).key (get_or os at d).value key) none
    ∙ ap (λ t. cond t (Some (get_or os at d).value) None) is)

-- the same for the line before a place
pub last_before : (os : List OptionLine) (at : ℕ) (key : List ℕ) (d : OptionLine) → 0 < at → at ≤ length os → last_value (drop at os) key ≡ None → is_text (get_or os (at - 1) d).key key ≡ true
    → last_value os key ≡ Some (get_or os (at - 1) d).value
last_before os at key d some within none is =
    let place : at ≡ (at - 1) + 1 = omega (arith, some) in
    last_here os (at - 1) key d (omega (arith, some, within)) (ap (λ n. last_value (drop n os) key) (sym place) ∙ none) is

-- the same for a line that was read at that place
pub last_read : (os : List OptionLine) (at : ℕ) (key : List ℕ) (o : OptionLine) → 0 < at → at ≤ length os → last_value (drop at os) key ≡ None → o ≡ get_or os (at - 1) o → is_text o.key key ≡ true
    → Some o.value ≡ last_value os key
last_read os at key o some within none is same =
    ap (λ (u : OptionLine). Some u.value) is
    ∙ sym (last_before os at key o some within none (ap (λ (u : OptionLine). is_text u.key key) (sym is) ∙ same))
