-- Lists of cells that rise are read exactly, to the unit after which too few greater cells are left.
use Rattle.std.proofs.Common.{◌≡◌, ◌<◌, ◌≤◌, ◌∷◌, ◌∙◌, ◌++◌, ◌+◌, ◌-◌, ◌*◌, ◌/◌, ◌%◌, ◌^◌, ℕ, suc, zero, Bool, true, false, ◌&&◌, ◌==◌, sym, refl, ap, ap₂, subst, List, [], length, arith, Option, Some, None, if◌then◌else◌}
use Rattle.std.specs.declared.cmp.Ordering.{Ordering}
use Rattle.std.specs.declared.cmp.Ordering.TheVariants as order
use Rattle.std.specs.Ordering.{nat_cmp, ordering_then}
use Rattle.fop_types.specs.Rank.{rank}
use Rattle.fop_types.specs.Orders.{gfid_cmp, cell_cmp}
use Rattle.fop_types.specs.declared.cells.Gfid.{Gfid}
use Rattle.fop_types.specs.declared.cells.Aspect.{Aspect}
use Rattle.fop_types.specs.declared.cells.Aspect.TheVariants.{Data, Meta, Entry}
use Rattle.fop_types.specs.declared.cells.Cell.{Cell}
use Rattle.wire_xdr.specs.Xdr.{list}
use Rattle.wire_xdr.specs.Order.{Each, Follows, Rises, RisesFrom}
use Rattle.wire_xdr.specs.PartText.{IsGfid, cell_text, IsCell, AreCells}
use Rattle.wire_xdr.specs.code.PartParsers.{gfid_of, aspect_of, first_cell, last_but, next_gfid, after_aspect, least_after, cell_at, rising_cell, cells_at}
use Rattle.wire_xdr.proofs.Names.{Three, Below, Same, Above, three_ways, cmp_less, cmp_same, cmp_more, eq_same, eq_less, eq_more}
use Rattle.wire_xdr.proofs.Laws.{IsLaw, weaker}
use Rattle.wire_xdr.proofs.QuadLaws.{Says, IsBetween, relegal}
use Rattle.wire_xdr.proofs.FieldLaws.{Keyed, Items, total, list_law, items_into, items_from}
use Rattle.wire_xdr.proofs.CellLaws.{place_of, place, rank_bound, rank_of, IsPlaced, cell_law}

-- the greatest place of a cell
abbrev top : ℕ
top = 1020847100762815390390123822295304634367

place_last : (n : ℕ) → n ≤ 1048576 → (place (last_but n) + n ≡ top) × IsCell (last_but n)
place_last n h =
    let r : rank (aspect_of (2 - n % 3)) ≡ 2 - n % 3 = rank_of (2 - n % 3) (omega arith) in
    (omega (arith, r, h), (omega arith, omega arith))

place_next : (g : Gfid) → IsGfid g → place_of g.hi g.lo 2 < top → (place_of (next_gfid g).hi (next_gfid g).lo 0 ≡ place_of g.hi g.lo 2 + 1) × IsGfid (next_gfid g)
place_next g h few = at (three_ways g.lo 18446744073709551615) (three_ways g.hi 18446744073709551615)
  where
    at : Three g.lo 18446744073709551615 → Three g.hi 18446744073709551615 → (place_of (next_gfid g).hi (next_gfid g).lo 0 ≡ place_of g.hi g.lo 2 + 1) × IsGfid (next_gfid g)
    at (Below a) t =
        let e : next_gfid g ≡ gfid_of g.hi (g.lo + 1) = ap (λ (s : Bool). if s then (if g.hi == 18446744073709551615 then g else gfid_of (g.hi + 1) 0) else gfid_of g.hi (g.lo + 1)) (eq_less g.lo _ a) in
        subst (λ (k : Gfid). (place_of k.hi k.lo 0 ≡ place_of g.hi g.lo 2 + 1) × IsGfid k) (sym e) (omega arith, (h.0, omega (arith, a)))
    at (Same a) (Below b) =
        let e : next_gfid g ≡ gfid_of (g.hi + 1) 0 = ap₂ (λ (s t : Bool). if s then (if t then g else gfid_of (g.hi + 1) 0) else gfid_of g.hi (g.lo + 1)) (eq_same g.lo _ a) (eq_less g.hi _ b) in
        subst (λ (k : Gfid). (place_of k.hi k.lo 0 ≡ place_of g.hi g.lo 2 + 1) × IsGfid k) (sym e) (omega (arith, a), (omega (arith, b), omega arith))
    at (Same a) (Same b) = absurd (omega (arith, a, b, few))
    at (Same a) (Above b) = absurd (omega (arith, b, h.0))
    at (Above a) t = absurd (omega (arith, a, h.1))

after_place : (g : Gfid) (a : Aspect) → IsGfid g → place_of g.hi g.lo (rank a) < top → (place (after_aspect g a) ≡ place_of g.hi g.lo (rank a) + 1) × IsCell (after_aspect g a)
after_place g Data h few = (omega arith, h)
after_place g Meta h few = (omega arith, h)
after_place g Entry h few = place_next g h few

-- that this many cells may follow
abbrev Room : Option Cell → ℕ → Type 0
Room None n = n ≤ 1048576
Room (Some c) n = IsCell c × (n ≤ 1048576) × (place c + n ≤ top)

least_place : (e : Option Cell) (n : ℕ) → Room e (suc n) → IsCell (least_after e) × (place (least_after e) ≤ place (last_but n))
least_place None n h = let l = place_last n (omega (arith, h)) in ((omega arith, omega arith), omega (arith, l.0, h))
least_place (Some c) n h =
    let l = place_last n (omega (arith, h.1)) in let a = after_place c.gfid c.aspect h.0 (omega (arith, h.2)) in (a.1, omega (arith, l.0, a.0, h.2))

-- a cell of a list that rises
abbrev OfRising : Option Cell → ℕ → Bool → Cell → Type 0
OfRising e n o c = IsPlaced (least_after e) (last_but n) o c

rising_law : (e : Option Cell) (n : ℕ) → Room e (suc n) → IsLaw 20 (Says (OfRising e n) cell_text) (rising_cell e n)
rising_law e n h = let l = least_place e n h in cell_law (least_after e) (last_but n) l.0 (place_last n (few e h)).1 l.1
  where
    few : (f : Option Cell) → Room f (suc n) → n ≤ 1048576
    few None k = omega (arith, k)
    few (Some c) k = omega (arith, k.1)

rising_room : (e : Option Cell) (n : ℕ) (c : Cell) → Room e (suc n) → OfRising e n false c → Room (Some c) n
rising_room e n c h k = let s = few e h in let l = place_last n s in (k.cell, s, omega (arith, l.0, k.most))
  where
    few : (f : Option Cell) → Room f (suc n) → n ≤ 1048576
    few None j = omega (arith, j)
    few (Some d) j = omega (arith, j.1)

-- the order of cells is that of their places
less_place : (a b : Cell) → IsCell a → IsCell b → place a < place b → cell_cmp a b ≡ order.Less
less_place a b ha hb h = at (three_ways a.gfid.hi b.gfid.hi) (three_ways a.gfid.lo b.gfid.lo) (rank_bound a.aspect) (rank_bound b.aspect)
  where
    by : (x y z : Ordering) → nat_cmp a.gfid.hi b.gfid.hi ≡ x → nat_cmp a.gfid.lo b.gfid.lo ≡ y → nat_cmp (rank a.aspect) (rank b.aspect) ≡ z → cell_cmp a b ≡ ordering_then (ordering_then x y) z
    by x y z e f g = ap₂ (λ (p : Ordering) (q : Ordering). ordering_then p q) (ap₂ (λ (p : Ordering) (q : Ordering). ordering_then p q) e f) g

    at : Three a.gfid.hi b.gfid.hi → Three a.gfid.lo b.gfid.lo → rank a.aspect ≤ 2 → rank b.aspect ≤ 2 → cell_cmp a b ≡ order.Less
    at (Below e) f k l = by order.Less (nat_cmp a.gfid.lo b.gfid.lo) (nat_cmp (rank a.aspect) (rank b.aspect)) (cmp_less _ _ e) refl refl
    at (Same e) (Below f) k l = by order.Equal order.Less (nat_cmp (rank a.aspect) (rank b.aspect)) (cmp_same _ _ e) (cmp_less _ _ f) refl
    at (Same e) (Same f) k l = by order.Equal order.Equal order.Less (cmp_same _ _ e) (cmp_same _ _ f) (cmp_less (rank a.aspect) (rank b.aspect) (omega (arith, e, f, h)))
    at (Same e) (Above f) k l = absurd (omega (arith, e, f, h, k, l))
    at (Above e) f k l = absurd (omega (arith, e, h, k, l, ha.1, hb.1))

place_less : (a b : Cell) → IsCell a → IsCell b → cell_cmp a b ≡ order.Less → place a < place b
place_less a b ha hb h = at (three_ways a.gfid.hi b.gfid.hi) (three_ways a.gfid.lo b.gfid.lo) (three_ways (rank a.aspect) (rank b.aspect)) (rank_bound a.aspect) (rank_bound b.aspect)
  where
    by : (x y z : Ordering) → nat_cmp a.gfid.hi b.gfid.hi ≡ x → nat_cmp a.gfid.lo b.gfid.lo ≡ y → nat_cmp (rank a.aspect) (rank b.aspect) ≡ z → ordering_then (ordering_then x y) z ≡ order.Less
    by x y z e f g = sym (ap₂ (λ (p : Ordering) (q : Ordering). ordering_then p q) (ap₂ (λ (p : Ordering) (q : Ordering). ordering_then p q) e f) g) ∙ h

    greater : order.Greater ≡ order.Less → ⊥
    greater e = absurd cc

    equal : order.Equal ≡ order.Less → ⊥
    equal e = absurd cc

    at : Three a.gfid.hi b.gfid.hi → Three a.gfid.lo b.gfid.lo → Three (rank a.aspect) (rank b.aspect) → rank a.aspect ≤ 2 → rank b.aspect ≤ 2 → place a < place b
    at (Below e) f g k l = omega (arith, e, k, l, ha.1, hb.1)
    at (Same e) (Below f) g k l = omega (arith, e, f, k, l)
    at (Same e) (Same f) (Below g) k l = omega (arith, e, f, g)
    at (Same e) (Same f) (Same g) k l = absurd (equal (by order.Equal order.Equal order.Equal (cmp_same _ _ e) (cmp_same _ _ f) (cmp_same _ _ g)))
    at (Same e) (Same f) (Above g) k l = absurd (greater (by order.Equal order.Equal order.Greater (cmp_same _ _ e) (cmp_same _ _ f) (cmp_more _ _ g)))
    at (Same e) (Above f) g k l = absurd (greater (by order.Equal order.Greater (nat_cmp (rank a.aspect) (rank b.aspect)) (cmp_same _ _ e) (cmp_more _ _ f) refl))
    at (Above e) f g k l = absurd (greater (by order.Greater (nat_cmp a.gfid.lo b.gfid.lo) (nat_cmp (rank a.aspect) (rank b.aspect)) (cmp_more _ _ e) refl refl))

cells_into : (n : ℕ) (e : Option Cell) (o : Bool) (xs : List Cell) → Room e n → Items OfRising e n o xs → (length xs ≡ n) × Each IsCell xs × RisesFrom cell_cmp true e xs
cells_into zero e o xs room h = subst (λ (l : List Cell). (length l ≡ 0) × Each IsCell l × RisesFrom cell_cmp true e l) (sym h.made) (refl, tt, tt)
cells_into (suc n) e o xs room h =
    let r = cells_into n (Some h.a) o h.b (rising_room e n h.a room (loosened o h.said_a)) h.said_b in
    subst (λ (l : List Cell). (length l ≡ suc n) × Each IsCell l × RisesFrom cell_cmp true e l) (sym h.made) (ap suc r.0, (h.said_a.cell, r.1), (follows e room h.said_a.least, r.2))
  where
    loosened : (p : Bool) → OfRising e n p h.a → OfRising e n false h.a
    loosened p k = record { cell = k.cell; least = k.least; most = k.most }

    follows : (f : Option Cell) → Room f (suc n) → place (least_after f) ≤ place h.a → Follows cell_cmp true f h.a
    follows None k l = tt
    follows (Some c) k l = let q = after_place c.gfid c.aspect k.0 (omega (arith, k.2)) in less_place c h.a k.0 h.said_a.cell (omega (arith, l, q.0))

-- a list that rises leaves room for its cells
room_left : (n : ℕ) (c : Cell) (xs : List Cell) → IsCell c → length xs ≡ n → Each IsCell xs → RisesFrom cell_cmp true (Some c) xs → place c + n ≤ top
room_left zero c xs h size each rises = at (rank_bound c.aspect)
  where
    at : rank c.aspect ≤ 2 → place c + 0 ≤ top
    at k = omega (arith, k, h.0, h.1)
room_left (suc n) c [] h size each rises = absurd (omega (arith, size))
room_left (suc n) c (x ∷ xs) h size each rises =
    let r = room_left n x xs each.0 (omega (arith, size)) each.1 rises.1 in let p = place_less c x h each.0 rises.0 in omega (arith, r, p)

cells_from : (n : ℕ) (e : Option Cell) (o : Bool) (xs : List Cell) → Room e n → length xs ≡ n → Each IsCell xs → RisesFrom cell_cmp true e xs → Items OfRising e n o xs
cells_from zero e o [] room size each rises = record { made = refl }
cells_from zero e o (x ∷ xs) room size each rises = absurd (omega (arith, size))
cells_from (suc n) e o [] room size each rises = absurd (omega (arith, size))
cells_from (suc n) e o (x ∷ xs) room size each rises =
    let k : length xs ≡ n = omega (arith, size) in
    let s : n ≤ 1048576 = few e room in
    let r = room_left n x xs each.0 k each.1 rises.1 in
    let l = place_last n s in
    record {
      a = x;
      b = xs;
      said_a = record { cell = each.0; least = at_least e room rises.0; most = omega (arith, l.0, r) };
      said_b = cells_from n (Some x) o xs (each.0, s, r) k each.1 rises.1;
      made = refl;
    }
  where
    few : (f : Option Cell) → Room f (suc n) → n ≤ 1048576
    few None j = omega (arith, j)
    few (Some d) j = omega (arith, j.1)

    at_least : (f : Option Cell) → Room f (suc n) → Follows cell_cmp true f x → place (least_after f) ≤ place x
    at_least None j q = omega arith
    at_least (Some d) j q = let m = after_place d.gfid d.aspect j.0 (omega (arith, j.2)) in let p = place_less d x j.0 each.0 q in omega (arith, m.0, p)

total_cells : (k : ℕ) → total 20 k ≡ 20 * k
total_cells zero = refl
total_cells (suc k) = omega (arith, total_cells k)

pub cells_law : (least most big : ℕ) → least ≤ most → most ≤ 1048576 → 20 * most ≤ big → IsLaw (4 + big) (Says (λ (o : Bool) (cs : List Cell). AreCells least most cs) (list cell_text)) (cells_at least most)
cells_law least most big some few fits =
    relegal into from (list_law rising_cell OfRising cell_text Room rising_law rising_room least most big some (omega (arith, few)) (λ k h. omega (arith, h, fits, total_cells k)) (λ k h. omega (arith, h, few)))
  where
    into : (o : Bool) (cs : List Cell) → Keyed (IsBetween least most) (Items OfRising None) o cs → AreCells least most cs
    into o cs h = let r = cells_into h.number None o cs (omega (arith, h.named.high, few)) h.arm in
        (subst (λ (n : ℕ). least ≤ n) (sym r.0) h.named.low, subst (λ (n : ℕ). n ≤ most) (sym r.0) h.named.high, r.1, r.2)

    from : (o : Bool) (cs : List Cell) → AreCells least most cs → Keyed (IsBetween least most) (Items OfRising None) o cs
    from o cs h = record { number = length cs; named = record { low = h.0; high = h.1 }; arm = cells_from (length cs) None o cs (omega (arith, h.1, few)) refl h.2 h.3 }

pub any_cell_law : IsLaw 20 (Says (λ (o : Bool) (c : Cell). IsCell c) cell_text) cell_at
any_cell_law = relegal (λ o c h. h.cell) from (cell_law first_cell (last_but 0) (omega arith, omega arith) (place_last 0 (omega arith)).1 (omega (arith, (place_last 0 (omega arith)).0)))
  where
    from : (o : Bool) (c : Cell) → IsCell c → IsPlaced first_cell (last_but 0) o c
    from o c h = at (rank_bound c.aspect) (place_last 0 (omega arith))
      where
        at : rank c.aspect ≤ 2 → (place (last_but 0) + 0 ≡ top) × IsCell (last_but 0) → IsPlaced first_cell (last_but 0) o c
        at k l = record { cell = h; least = omega arith; most = omega (arith, k, h.0, h.1, l.0) }
