-- Lists of cells have a cell in common both ways, and locks conflict both ways.
use Rattle.std.proofs.Common.{◌≡◌, ◌∙◌, Bool, true, false, refl, sym, ap, subst}
use Rattle.std.specs.Prelude.{List, [], ◌∷◌, ◌||◌, ◌&&◌, not}
use Rattle.std.specs.Ordering.{is_eq}
use Rattle.std.specs.declared.cmp.Ordering.{Ordering}
use Rattle.std.specs.declared.cmp.Ordering.TheVariants.{Less, Equal, Greater}
use Rattle.fop_types.specs.Orders.{cell_cmp}
use Rattle.fop_types.specs.declared.cells.Cell.{Cell}
use Rattle.fop_types.proofs.MapLemmas.{cell_exact}
use Rattle.afr_machine.specs.Touching.{is_cell, has_cell, share}
use Rattle.afr_machine.specs.Locks.{BrickLock, conflict}

pub cells_are : (a b : Cell) → is_cell a b ≡ true → a ≡ b
cells_are a b h = tested (cell_cmp a b) refl h
  where
    tested : (o : Ordering) → cell_cmp a b ≡ o → is_eq o ≡ true → a ≡ b
    tested Less e h = absurd cc
    tested Equal e h = cell_exact a b e
    tested Greater e h = absurd cc

same_by : (x y : Bool) → (x ≡ true → y ≡ true) → (y ≡ true → x ≡ true) → x ≡ y
same_by true true f g = refl
same_by true false f g = sym (f refl)
same_by false true f g = g refl
same_by false false f g = refl

cell_sym : (a b : Cell) → is_cell a b ≡ is_cell b a
cell_sym a b = same_by (is_cell a b) (is_cell b a) (λ h. flipped a b h) (λ h. flipped b a h) where
  flipped : (x y : Cell) → is_cell x y ≡ true → is_cell y x ≡ true
  flipped x y h = let e = cells_are x y h in subst (λ z. is_cell z x ≡ true) e (subst (λ z. is_cell x z ≡ true) (sym e) h)

or_swap : (a b c d : Bool) → ((a || b) || (c || d)) ≡ ((a || c) || (b || d))
or_swap true b c d = refl
or_swap false true true d = refl
or_swap false true false d = refl
or_swap false false c d = refl

share_cons : (ys cs : List Cell) (c : Cell) → share ys (c ∷ cs) ≡ (has_cell ys c || share ys cs)
share_cons [] cs c = refl
share_cons (y ∷ ys) cs c =
    ap (λ b. (is_cell y c || has_cell cs y) || b) (share_cons ys cs c)
    ∙ or_swap (is_cell y c) (has_cell cs y) (has_cell ys c) (share ys cs)
    ∙ ap (λ b. (b || has_cell ys c) || (has_cell cs y || share ys cs)) (cell_sym y c)

pub share_none : (ys : List Cell) → share ys [] ≡ false
share_none [] = refl
share_none (y ∷ ys) = share_none ys

pub share_sym : (xs ys : List Cell) → share xs ys ≡ share ys xs
share_sym [] ys = sym (share_none ys)
share_sym (x ∷ xs) ys = ap (λ b. has_cell ys x || b) (share_sym xs ys) ∙ sym (share_cons ys xs x)

and_sym : (a b : Bool) → (a && b) ≡ (b && a)
and_sym true true = refl
and_sym true false = refl
and_sym false true = refl
and_sym false false = refl

pub conflict_sym : (a b : BrickLock) → conflict a b ≡ conflict b a
conflict_sym a b = ap (λ s. s && not (a.shared && b.shared)) (share_sym a.cells b.cells) ∙ ap (λ s. share b.cells a.cells && not s) (and_sym a.shared b.shared)
