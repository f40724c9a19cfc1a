-- When an op fits, by the looks of the code; and what is there where it does.
use Rattle.std.proofs.Common.{◌≡◌, ◌≤◌, ◌∙◌, ◌+◌, ◌∷◌, refl, sym, ap, ℕ, Bool, true, false, true≢false, List, [], length}
use Rattle.std.specs.Prelude.{nat_lt, not, is_some, is_none, ◌&&◌, ◌||◌, Option, Some, None, if◌then◌else◌}
use Rattle.std.specs.declared.cmp.Ordering.{Ordering}
use Rattle.std.specs.declared.cmp.Ordering.TheVariants.{Less, Equal, Greater}
use Rattle.std.specs.Ordering.{match_ordering}
use Rattle.std.proofs.lemmas.Bool.{ltb-false}
use Rattle.fop_types.specs.Cells.{data_cell, names_cell}
use Rattle.fop_types.specs.FileBytes.{file_limit}
use Rattle.fop_types.specs.Names.{is_same_name}
use Rattle.fop_types.specs.Orders.{gfid_cmp}
use Rattle.fop_types.specs.StoreOps.{Contents, holds, holds_names, are_present, both_names, fits, is_unfit, item_in, is_removed, is_directory_item}
use Rattle.fop_types.specs.declared.cells.Aspect.{Aspect}
use Rattle.fop_types.specs.declared.cells.Aspect.TheVariants.{Data, Meta, Entry}
use Rattle.fop_types.specs.declared.cells.Gfid.{Gfid}
use Rattle.fop_types.specs.declared.cells.Cell.{Cell}
use Rattle.fop_types.specs.declared.contents.Content.{Content}
use Rattle.fop_types.specs.declared.contents.Item.{Item}
use Rattle.fop_types.specs.declared.store_ops.StoreOp.TheVariants as op
use Rattle.fop_types.proofs.MapLemmas.{gfid_exact}

module _ (contents : Contents) (a b : Gfid) where
  abbrev there : Gfid → Bool
  there g = holds_names (contents (names_cell g))

  by_test : (o : Ordering) → gfid_cmp a b ≡ o
      → (if there a then there b else false) ≡ are_present contents (match_ordering o (names_cell a ∷ names_cell b ∷ []) (names_cell a ∷ []) (names_cell b ∷ names_cell a ∷ []))
  by_test Less h = one (there a) (there b)
    where
      one : (x y : Bool) → (if x then y else false) ≡ (if x then (if y then true else false) else false)
      one true true = refl
      one true false = refl
      one false y = refl
  by_test Equal h = rw (sym (gfid_exact a b h)) (one (there a))
    where
      one : (x : Bool) → (if x then x else false) ≡ (if x then true else false)
      one true = refl
      one false = refl
  by_test Greater h = one (there a) (there b)
    where
      one : (x y : Bool) → (if x then y else false) ≡ (if y then (if x then true else false) else false)
      one true true = refl
      one true false = refl
      one false true = refl
      one false false = refl

  pub both_are_present : (if there a then there b else false) ≡ are_present contents (both_names a b)
  both_are_present = by_test (gfid_cmp a b) refl

  pub both_there : there a ≡ true → there b ≡ are_present contents (both_names a b)
  both_there h = sym (ap (λ (x : Bool). if x then there b else false) h) ∙ both_are_present

-- ---- what an op that fits needs is there

left_of : (a b : Bool) → (a && b) ≡ true → a ≡ true
left_of true b h = refl
left_of false b h = h

right_of : (a b : Bool) → (a && b) ≡ true → b ≡ true
right_of true b h = h
right_of false b h = absurd cc

holds_some : (a : Aspect) (o : Option Content) → holds a o ≡ true → is_some o ≡ true
holds_some a (Some content) h = refl
holds_some Data None h = absurd cc
holds_some Meta None h = absurd cc
holds_some Entry None h = absurd cc

pub first_present : (contents : Contents) (c : Cell) (rest : Bool) → (are_present contents (c ∷ []) && rest) ≡ true → is_some (contents c) ≡ true
first_present contents c rest h = by_case (holds c.aspect (contents c)) refl
  where
    by_case : (b : Bool) → holds c.aspect (contents c) ≡ b → is_some (contents c) ≡ true
    by_case true e = holds_some c.aspect (contents c) e
    by_case false e =
        let none : (if holds c.aspect (contents c) then true else false) ≡ false = ap (λ (b : Bool). if b then true else false) e in
        absurd (true≢false (sym (left_of _ rest h) ∙ none))

both_hold : (a b : Bool) → (if a then b else false) ≡ true → (a ≡ true) × (b ≡ true)
both_hold true b h = (refl, h)
both_hold false b h = absurd cc

pub both_present : (contents : Contents) (a b : Gfid) (rest : Bool) → (are_present contents (both_names a b) && rest) ≡ true
    → (is_some (contents (names_cell a)) ≡ true) × (is_some (contents (names_cell b)) ≡ true)
both_present contents a b rest h =
    let p = both_hold (there contents a b a) (there contents a b b) (both_are_present contents a b ∙ left_of _ rest h) in
    (holds_some Entry (contents (names_cell a)) p.0, holds_some Entry (contents (names_cell b)) p.1)

pub write_ends : (contents : Contents) (gfid : Gfid) (offset : ℕ) (bytes : List ℕ) → fits contents (op.Write gfid offset bytes) ≡ true → offset + length bytes ≤ file_limit
write_ends contents gfid offset bytes h = not_above (nat_lt file_limit (offset + length bytes)) refl (right_of (are_present contents (data_cell gfid ∷ [])) _ h)
  where
    not_above : (b : Bool) → nat_lt file_limit (offset + length bytes) ≡ b → not b ≡ true → offset + length bytes ≤ file_limit
    not_above true e n = absurd cc
    not_above false e n = ltb-false file_limit (offset + length bytes) e

pub size_ends : (contents : Contents) (gfid : Gfid) (size : ℕ) → fits contents (op.Truncate gfid size) ≡ true → size ≤ file_limit
size_ends contents gfid size h = not_above (nat_lt file_limit size) refl (right_of (are_present contents (data_cell gfid ∷ [])) _ h)
  where
    not_above : (b : Bool) → nat_lt file_limit size ≡ b → not b ≡ true → size ≤ file_limit
    not_above true e n = absurd cc
    not_above false e n = ltb-false file_limit size e

-- a move's first name is there
pub moved_is_there : (contents : Contents) (parent : Gfid) (name : List ℕ) (target : Gfid) (new_name : List ℕ) → fits contents (op.Move parent name target new_name) ≡ true
    → item_in contents parent name ≡ None → ⊥
moved_is_there contents parent name target new_name h none =
    let free : is_unfit contents (op.Move parent name target new_name) ≡ false = turned _ (right_of (are_present contents (both_names parent target)) _ h) in
    true≢false (sym (ap (λ (o : Option Item). (is_none o || is_removed (contents (names_cell target))) || (is_directory_item (item_in contents target new_name) || is_same_name parent name target new_name)) none) ∙ free)
  where
    turned : (b : Bool) → not b ≡ true → b ≡ false
    turned true n = absurd cc
    turned false n = refl
