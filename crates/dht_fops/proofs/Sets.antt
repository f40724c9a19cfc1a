-- The sets from one on: the next one and those after it, or none.
use Rattle.std.proofs.Common.{◌≡◌, ℕ, suc, ◌+◌, ◌-◌, ◌<◌, ◌≤◌, List, [], ◌∷◌, Option, Some, IfSome, length, refl, ap, sym, ◌∙◌, subst, arith}
use Rattle.std.proofs.lemmas.List.FromFn.{length-map-range_with_len}
use Rattle.std.specs.List.{range_with_len}
use Rattle.dht_layout.specs.Layouts.{even_layout, even_span}
use Rattle.dht_fops.specs.Renames.{second_set}
use Rattle.dht_fops.specs.code.Purposes.{IsSecondSet}
use Rattle.dht_fops.specs.code.Waits.{with_spans}
use Rattle.dht_fops.specs.declared.purpose.Purpose.{Purpose}
use Rattle.dht_fops.specs.declared.purpose.Purpose.TheVariants as purpose
use Rattle.fop_types.specs.declared.cells.Gfid.{Gfid}
use Rattle.fop_types.specs.declared.fops.Object.{Object}
use Rattle.fop_types.specs.declared.contents.Span.{Span}

pub sets_step : (set count : ℕ) → set < count → range_with_len set (count - set) ≡ set ∷ range_with_len (set + 1) (count - (set + 1))
sets_step set count h = let one : count - set ≡ suc (count - (set + 1)) = omega arith in rw one refl

pub sets_end : (set count : ℕ) → count ≤ set → range_with_len set (count - set) ≡ []
sets_end set count h = let none : count - set ≡ 0 = omega arith in rw none refl

-- ---- the even split

pub even_count : (layout : List (Option Span)) (sets : ℕ) → layout ≡ even_layout sets → length layout ≡ sets
even_count layout sets e = ap length e ∙ length-map-range_with_len (λ one. Some (even_span sets one)) 0 sets

-- ---- the second name of a rename, by a layout

pub spans_rename : (dir : Gfid) (spans : List (Option Span)) (target : Object) (new_name : List ℕ) (second found : Option ℕ) (p : Purpose) → p ≡ purpose.RenameFrom target new_name second
    → found ≡ second_set dir target.gfid new_name second spans → purpose.RenameFrom target new_name found ≡ with_spans dir spans p
spans_rename dir spans target new_name second found p e f = rw (e, f) refl

-- ---- a bound that is the same number

pub some_same : (set : Option ℕ) (a b : ℕ) → a ≡ b → IfSome set (λ one. one < b) → IfSome set (λ one. one < a)
some_same set a b e h = subst (λ (n : ℕ). IfSome set (λ one. one < n)) (sym e) h

pub second_same : (p : Purpose) (a b : ℕ) → a ≡ b → IsSecondSet p a → IsSecondSet p b
second_same p a b e h = subst (λ (n : ℕ). IsSecondSet p n) e h

pub second_back : (p : Purpose) (a b : ℕ) → a ≡ b → IsSecondSet p b → IsSecondSet p a
second_back p a b e h = second_same p b a (sym e) h

-- the sets of a search keep their names
pub second_names : (p : Purpose) (names before : List (List ℕ)) → names ≡ before → IsSecondSet p (length before) → IsSecondSet p (length names)
second_names p names before e h = subst (λ (all : List (List ℕ)). IsSecondSet p (length all)) (sym e) h
