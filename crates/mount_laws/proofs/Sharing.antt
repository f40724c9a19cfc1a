-- Lists of cells that have a cell in common, and those of objects that two calls hold.
use Rattle.std.proofs.Common.{◌≡◌, Bool, true, false, refl, sym, ap, subst, List, [], ◌∷◌}
use Rattle.std.specs.Prelude.{◌||◌}
use Rattle.std.proofs.lemmas.Cmp.{tied_itself}
use Rattle.std.specs.Ordering.{is_eq}
use Rattle.std.specs.declared.cmp.Ordering.{Ordering}
use Rattle.std.specs.declared.cmp.Ordering.TheVariants.{Less, Equal, Greater}
use Rattle.afr_machine.specs.Touching.{is_cell, has_cell, share}
use Rattle.fop_types.proofs.MapLemmas.{cell_exact, cell_cmp_total}
use Rattle.fop_types.specs.Bounds.{Each}
use Rattle.fop_types.specs.Orders.{cell_cmp}
use Rattle.fop_types.specs.declared.cells.Cell.{Cell}
use Rattle.mount_laws.specs.Holding.{AreHeld, AreHeldExclusively}
use Rattle.mount_laws.specs.Holds.{Hold, Holds, AreApart}

pub cells_are : (a b : Cell) → is_cell a b ≡ true → a ≡ b
cells_are a b h = by_order (cell_cmp a b) refl h
  where
    by_order : (o : Ordering) → cell_cmp a b ≡ o → is_eq o ≡ true → a ≡ b
    by_order Less e h = absurd cc
    by_order Equal e h = cell_exact a b e
    by_order Greater e h = absurd cc

pub is_cell_refl : (cell : Cell) → is_cell cell cell ≡ true
is_cell_refl cell = ap is_eq (tied_itself cell_cmp_total cell)

-- what holds of each cell of a list holds of one that it has
pub each_has : (P : Cell → Type 0) (cells : List Cell) (x : Cell) → Each P cells → has_cell cells x ≡ true → P x
each_has P [] x e h = absurd cc
each_has P (c ∷ cs) x e h = by_case (is_cell x c) refl (λ k. each_has P cs x e.1 k) h
  where
    by_case : (b : Bool) → is_cell x c ≡ b → (has_cell cs x ≡ true → P x) → (b || has_cell cs x) ≡ true → P x
    by_case true same rest k = subst P (sym (cells_are x c same)) e.0
    by_case false other rest k = rest k

pub or_right : (a b : Bool) → b ≡ true → (a || b) ≡ true
or_right true b h = refl
or_right false b h = h

pub shared_cell : (xs ys : List Cell) (x : Cell) → has_cell xs x ≡ true → has_cell ys x ≡ true → share xs ys ≡ true
shared_cell [] ys x h k = absurd cc
shared_cell (c ∷ xs) ys x h k = by_case (is_cell x c) refl (λ m. shared_cell xs ys x m k) h
  where
    by_case : (b : Bool) → is_cell x c ≡ b → (has_cell xs x ≡ true → share xs ys ≡ true) → (b || has_cell xs x) ≡ true → (has_cell ys c || share xs ys) ≡ true
    by_case true same rest m = ap (λ b. b || share xs ys) (subst (λ z. has_cell ys z ≡ true) (cells_are x c same) k)
    by_case false other rest m = or_right (has_cell ys c) (share xs ys) (rest m)

-- cells that one call holds exclusively and cells that another holds have none in common
pub held_apart : (hs ks : List Hold) (xs ys : List Cell) → AreApart hs ks → AreHeldExclusively hs xs → AreHeld ks ys → share xs ys ≡ false
held_apart hs ks [] ys a h k = refl
held_apart hs ks (x ∷ xs) ys a h k = by_case (has_cell ys x) refl (held_apart hs ks xs ys a h.1 k)
  where
    by_case : (b : Bool) → has_cell ys x ≡ b → share xs ys ≡ false → (b || share xs ys) ≡ false
    by_case true has rest = absurd (a.first x.gfid h.0 (each_has (λ (c : Cell). Holds ks c.gfid) ys x k has))
    by_case false none rest = rest
