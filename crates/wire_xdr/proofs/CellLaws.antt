-- Cells are read exactly, between bounds too: a bound counts for a part only where the
-- parts before it are those of the bound.
use Rattle.std.proofs.Common.{◌≡◌, ◌<◌, ◌≤◌, ◌∷◌, ◌∙◌, ◌++◌, ◌+◌, ◌-◌, ◌*◌, ◌/◌, ◌%◌, ◌^◌, ℕ, suc, zero, Bool, true, false, ◌&&◌, ◌==◌, sym, refl, ap, ap₂, subst, List, [], length, arith, append_assoc, if◌then◌else◌}
use Rattle.fop_types.specs.Rank.{rank}
use Rattle.fop_types.specs.declared.cells.Gfid.{Gfid}
use Rattle.fop_types.specs.declared.cells.Aspect.{Aspect}
use Rattle.fop_types.specs.declared.cells.Aspect.TheVariants.{Data, Meta, Entry}
use Rattle.fop_types.specs.declared.cells.Cell.{Cell}
use Rattle.wire_xdr.specs.Xdr.{unit, hyper, IsUnit, IsHyper}
use Rattle.wire_xdr.specs.PartText.{gfid_text, IsGfid, cell_text, IsCell}
use Rattle.wire_xdr.specs.code.Parsers.{between_at, unit_at, hyper_between, hyper_at}
use Rattle.wire_xdr.specs.code.PartParsers.{gfid_of, gfid_at, aspect_of, cell_of, cell_between}
use Rattle.wire_xdr.proofs.Names.{Three, Below, Same, Above, three_ways, eq_same, eq_less, eq_more}
use Rattle.wire_xdr.proofs.Laws.{IsLaw, weaker}
use Rattle.wire_xdr.proofs.QuadLaws.{Says, IsBetween, between_law, relegal}
use Rattle.wire_xdr.proofs.FieldLaws.{Made2, Made3, two_law, three_law}
use Rattle.wire_xdr.proofs.HyperLaws.{IsHyperOf, hyper_law}

-- a cell's place in the order
abbrev pub place_of : ℕ → ℕ → ℕ → ℕ
place_of hi lo r = (hi * 18446744073709551616 + lo) * 3 + r

abbrev pub place : Cell → ℕ
place c = place_of c.gfid.hi c.gfid.lo (rank c.aspect)

pub rank_bound : (a : Aspect) → rank a ≤ 2
rank_bound Data = omega arith
rank_bound Meta = omega arith
rank_bound Entry = omega arith

pub rank_of : (n : ℕ) → n ≤ 2 → rank (aspect_of n) ≡ n
rank_of zero h = refl
rank_of (suc zero) h = refl
rank_of (suc (suc zero)) h = refl
rank_of (suc (suc (suc n))) h = absurd (omega (arith, h))

aspect_back : (a : Aspect) → aspect_of (rank a) ≡ a
aspect_back Data = refl
aspect_back Meta = refl
aspect_back Entry = refl

-- the bounds of the low half and of the aspect
abbrev lo_from : Cell → ℕ → ℕ
lo_from low hi = if hi == low.gfid.hi then low.gfid.lo else 0

abbrev lo_to : Cell → ℕ → ℕ
lo_to high hi = if hi == high.gfid.hi then high.gfid.lo else 18446744073709551615

abbrev r_from : Cell → ℕ → ℕ → ℕ
r_from low hi lo = if (hi == low.gfid.hi) && (lo == low.gfid.lo) then rank low.aspect else 0

abbrev r_to : Cell → ℕ → ℕ → ℕ
r_to high hi lo = if (hi == high.gfid.hi) && (lo == high.gfid.lo) then rank high.aspect else 2

-- by the three ways in which the halves stand to those of a bound
data Stands (b : Cell) (hi lo : ℕ) : Type 0 where
  Less : hi < b.gfid.hi → lo_from b hi ≡ 0 → lo_to b hi ≡ 18446744073709551615 → r_from b hi lo ≡ 0 → r_to b hi lo ≡ 2 → Stands b hi lo
  Under : hi ≡ b.gfid.hi → lo < b.gfid.lo → lo_from b hi ≡ b.gfid.lo → lo_to b hi ≡ b.gfid.lo → r_from b hi lo ≡ 0 → r_to b hi lo ≡ 2 → Stands b hi lo
  At : hi ≡ b.gfid.hi → lo ≡ b.gfid.lo → lo_from b hi ≡ b.gfid.lo → lo_to b hi ≡ b.gfid.lo → r_from b hi lo ≡ rank b.aspect → r_to b hi lo ≡ rank b.aspect → Stands b hi lo
  Over : hi ≡ b.gfid.hi → b.gfid.lo < lo → lo_from b hi ≡ b.gfid.lo → lo_to b hi ≡ b.gfid.lo → r_from b hi lo ≡ 0 → r_to b hi lo ≡ 2 → Stands b hi lo
  More : b.gfid.hi < hi → lo_from b hi ≡ 0 → lo_to b hi ≡ 18446744073709551615 → r_from b hi lo ≡ 0 → r_to b hi lo ≡ 2 → Stands b hi lo

stands : (b : Cell) (hi lo : ℕ) → Stands b hi lo
stands b hi lo = at (three_ways hi b.gfid.hi) (three_ways lo b.gfid.lo)
  where
    from_by : (t : Bool) → (hi == b.gfid.hi) ≡ t → lo_from b hi ≡ (if t then b.gfid.lo else 0)
    from_by t e = ap (λ (s : Bool). if s then b.gfid.lo else 0) e

    to_by : (t : Bool) → (hi == b.gfid.hi) ≡ t → lo_to b hi ≡ (if t then b.gfid.lo else 18446744073709551615)
    to_by t e = ap (λ (s : Bool). if s then b.gfid.lo else 18446744073709551615) e

    r_by : (s t : Bool) (k : ℕ) → (hi == b.gfid.hi) ≡ s → (lo == b.gfid.lo) ≡ t → (if (hi == b.gfid.hi) && (lo == b.gfid.lo) then rank b.aspect else k) ≡ (if s && t then rank b.aspect else k)
    r_by s t k e f = ap₂ (λ (x y : Bool). if x && y then rank b.aspect else k) e f

    at : Three hi b.gfid.hi → Three lo b.gfid.lo → Stands b hi lo
    at (Below e) (Below f) = Less e (from_by false (eq_less hi _ e)) (to_by false (eq_less hi _ e)) (r_by false false 0 (eq_less hi _ e) (eq_less lo _ f)) (r_by false false 2 (eq_less hi _ e) (eq_less lo _ f))
    at (Below e) (Same f) = Less e (from_by false (eq_less hi _ e)) (to_by false (eq_less hi _ e)) (r_by false true 0 (eq_less hi _ e) (eq_same lo _ f)) (r_by false true 2 (eq_less hi _ e) (eq_same lo _ f))
    at (Below e) (Above f) = Less e (from_by false (eq_less hi _ e)) (to_by false (eq_less hi _ e)) (r_by false false 0 (eq_less hi _ e) (eq_more lo _ f)) (r_by false false 2 (eq_less hi _ e) (eq_more lo _ f))
    at (Same e) (Below f) = Under e f (from_by true (eq_same hi _ e)) (to_by true (eq_same hi _ e)) (r_by true false 0 (eq_same hi _ e) (eq_less lo _ f)) (r_by true false 2 (eq_same hi _ e) (eq_less lo _ f))
    at (Same e) (Same f) = At e f (from_by true (eq_same hi _ e)) (to_by true (eq_same hi _ e)) (r_by true true 0 (eq_same hi _ e) (eq_same lo _ f)) (r_by true true 2 (eq_same hi _ e) (eq_same lo _ f))
    at (Same e) (Above f) = Over e f (from_by true (eq_same hi _ e)) (to_by true (eq_same hi _ e)) (r_by true false 0 (eq_same hi _ e) (eq_more lo _ f)) (r_by true false 2 (eq_same hi _ e) (eq_more lo _ f))
    at (Above e) (Below f) = More e (from_by false (eq_more hi _ e)) (to_by false (eq_more hi _ e)) (r_by false false 0 (eq_more hi _ e) (eq_less lo _ f)) (r_by false false 2 (eq_more hi _ e) (eq_less lo _ f))
    at (Above e) (Same f) = More e (from_by false (eq_more hi _ e)) (to_by false (eq_more hi _ e)) (r_by false true 0 (eq_more hi _ e) (eq_same lo _ f)) (r_by false true 2 (eq_more hi _ e) (eq_same lo _ f))
    at (Above e) (Above f) = More e (from_by false (eq_more hi _ e)) (to_by false (eq_more hi _ e)) (r_by false false 0 (eq_more hi _ e) (eq_more lo _ f)) (r_by false false 2 (eq_more hi _ e) (eq_more lo _ f))

-- a cell between two cells, in the order of places
pub record IsPlaced (low high : Cell) (o : Bool) (c : Cell) : Type 0 where
  pub cell : IsCell c
  pub least : place low ≤ place c
  pub most : place c ≤ place high

places_low : (b : Cell) (hi lo r : ℕ) → IsCell b → lo < 2 ^ 64 → b.gfid.hi ≤ hi → lo_from b hi ≤ lo → r_from b hi lo ≤ r → place b ≤ place_of hi lo r
places_low b hi lo r cell s h l m = at (stands b hi lo) (rank_bound b.aspect)
  where
    at : Stands b hi lo → rank b.aspect ≤ 2 → place b ≤ place_of hi lo r
    at (Less a b1 b2 b3 b4) k = absurd (omega (arith, a, h))
    at (Under a c b1 b2 b3 b4) k = absurd (omega (arith, c, b1, l))
    at (At a c b1 b2 b3 b4) k = omega (arith, a, c, b3, m)
    at (Over a c b1 b2 b3 b4) k = omega (arith, a, c, k)
    at (More a b1 b2 b3 b4) k = omega (arith, a, k, cell.1)

low_places : (b : Cell) (hi lo r : ℕ) → IsCell b → lo < 2 ^ 64 → r ≤ 2 → place b ≤ place_of hi lo r → (b.gfid.hi ≤ hi) × (lo_from b hi ≤ lo) × (r_from b hi lo ≤ r)
low_places b hi lo r cell s t h = at (stands b hi lo)
  where
    at : Stands b hi lo → (b.gfid.hi ≤ hi) × (lo_from b hi ≤ lo) × (r_from b hi lo ≤ r)
    at (Less a b1 b2 b3 b4) = absurd (omega (arith, a, h, s, t))
    at (Under a c b1 b2 b3 b4) = absurd (omega (arith, a, c, h, t))
    at (At a c b1 b2 b3 b4) = (omega (arith, a), omega (arith, c, b1), omega (arith, a, c, b3, h))
    at (Over a c b1 b2 b3 b4) = (omega (arith, a), omega (arith, c, b1), omega (arith, b3))
    at (More a b1 b2 b3 b4) = (omega (arith, a), omega (arith, b1), omega (arith, b3))

places_high : (b : Cell) (hi lo r : ℕ) → IsCell b → hi ≤ b.gfid.hi → lo ≤ lo_to b hi → r ≤ r_to b hi lo → (place_of hi lo r ≤ place b) × (lo < 2 ^ 64) × (r ≤ 2)
places_high b hi lo r cell h l m = at (stands b hi lo) (rank_bound b.aspect)
  where
    at : Stands b hi lo → rank b.aspect ≤ 2 → (place_of hi lo r ≤ place b) × (lo < 2 ^ 64) × (r ≤ 2)
    at (Less a b1 b2 b3 b4) k = (omega (arith, a, l, b2, m, b4), omega (arith, l, b2), omega (arith, m, b4))
    at (Under a c b1 b2 b3 b4) k = (omega (arith, a, c, m, b4), omega (arith, c, cell.1), omega (arith, m, b4))
    at (At a c b1 b2 b3 b4) k = (omega (arith, a, c, m, b4), omega (arith, c, cell.1), omega (arith, m, b4, k))
    at (Over a c b1 b2 b3 b4) k = absurd (omega (arith, c, b2, l))
    at (More a b1 b2 b3 b4) k = absurd (omega (arith, a, h))

high_places : (b : Cell) (hi lo r : ℕ) → IsCell b → lo < 2 ^ 64 → r ≤ 2 → place_of hi lo r ≤ place b → (hi ≤ b.gfid.hi) × (lo ≤ lo_to b hi) × (r ≤ r_to b hi lo)
high_places b hi lo r cell s t h = at (stands b hi lo) (rank_bound b.aspect)
  where
    at : Stands b hi lo → rank b.aspect ≤ 2 → (hi ≤ b.gfid.hi) × (lo ≤ lo_to b hi) × (r ≤ r_to b hi lo)
    at (Less a b1 b2 b3 b4) k = (omega (arith, a), omega (arith, b2, s), omega (arith, b4, t))
    at (Under a c b1 b2 b3 b4) k = (omega (arith, a), omega (arith, c, b2), omega (arith, b4, t))
    at (At a c b1 b2 b3 b4) k = (omega (arith, a), omega (arith, c, b2), omega (arith, a, c, b4, h))
    at (Over a c b1 b2 b3 b4) k = absurd (omega (arith, a, c, h, k))
    at (More a b1 b2 b3 b4) k = absurd (omega (arith, a, h, k, cell.1))

lo_meets : (low high : Cell) (hi : ℕ) → IsCell low → IsCell high → place low ≤ place high → low.gfid.hi ≤ hi → hi ≤ high.gfid.hi → (lo_from low hi ≤ lo_to high hi) × (lo_to high hi < 2 ^ 64)
lo_meets low high hi cl ch some a b = at (stands low hi 0) (stands high hi 0) (rank_bound low.aspect) (rank_bound high.aspect)
  where
    at : Stands low hi 0 → Stands high hi 0 → rank low.aspect ≤ 2 → rank high.aspect ≤ 2 → (lo_from low hi ≤ lo_to high hi) × (lo_to high hi < 2 ^ 64)
    at s t k l = meet (three_ways hi low.gfid.hi) (three_ways hi high.gfid.hi) k l
      where
        meet : Three hi low.gfid.hi → Three hi high.gfid.hi → rank low.aspect ≤ 2 → rank high.aspect ≤ 2 → (lo_from low hi ≤ lo_to high hi) × (lo_to high hi < 2 ^ 64)
        meet (Below e) f k l = absurd (omega (arith, a, e))
        meet e (Above f) k l = absurd (omega (arith, b, f))
        meet (Same e) (Below f) k l =
            let p : lo_from low hi ≡ low.gfid.lo = ap (λ (s : Bool). if s then low.gfid.lo else 0) (eq_same hi _ e) in
            let q : lo_to high hi ≡ 18446744073709551615 = ap (λ (s : Bool). if s then high.gfid.lo else 18446744073709551615) (eq_less hi _ f) in
            (omega (arith, p, q, cl.1), omega (arith, q))
        meet (Same e) (Same f) k l =
            let p : lo_from low hi ≡ low.gfid.lo = ap (λ (s : Bool). if s then low.gfid.lo else 0) (eq_same hi _ e) in
            let q : lo_to high hi ≡ high.gfid.lo = ap (λ (s : Bool). if s then high.gfid.lo else 18446744073709551615) (eq_same hi _ f) in
            (omega (arith, p, q, e, f, some, k, l), omega (arith, q, ch.1))
        meet (Above e) (Below f) k l =
            let p : lo_from low hi ≡ 0 = ap (λ (s : Bool). if s then low.gfid.lo else 0) (eq_more hi _ e) in
            let q : lo_to high hi ≡ 18446744073709551615 = ap (λ (s : Bool). if s then high.gfid.lo else 18446744073709551615) (eq_less hi _ f) in
            (omega (arith, p, q), omega (arith, q))
        meet (Above e) (Same f) k l =
            let p : lo_from low hi ≡ 0 = ap (λ (s : Bool). if s then low.gfid.lo else 0) (eq_more hi _ e) in
            let q : lo_to high hi ≡ high.gfid.lo = ap (λ (s : Bool). if s then high.gfid.lo else 18446744073709551615) (eq_same hi _ f) in
            (omega (arith, p, q), omega (arith, q, ch.1))

r_meets : (low high : Cell) (hi lo : ℕ) → place low ≤ place high → (r_from low hi lo ≤ r_to high hi lo) × (r_to high hi lo < 2 ^ 32)
r_meets low high hi lo some = at (stands low hi lo) (stands high hi lo) (rank_bound low.aspect) (rank_bound high.aspect)
  where
    at : Stands low hi lo → Stands high hi lo → rank low.aspect ≤ 2 → rank high.aspect ≤ 2 → (r_from low hi lo ≤ r_to high hi lo) × (r_to high hi lo < 2 ^ 32)
    at (Less a b1 b2 b3 b4) t k l = zero b3 t l
      where
        zero : r_from low hi lo ≡ 0 → Stands high hi lo → rank high.aspect ≤ 2 → (r_from low hi lo ≤ r_to high hi lo) × (r_to high hi lo < 2 ^ 32)
        zero e (Less a1 c1 c2 c3 c4) n = (omega (arith, e), omega (arith, c4))
        zero e (Under a1 d1 c1 c2 c3 c4) n = (omega (arith, e), omega (arith, c4))
        zero e (At a1 d1 c1 c2 c3 c4) n = (omega (arith, e), omega (arith, c4, n))
        zero e (Over a1 d1 c1 c2 c3 c4) n = (omega (arith, e), omega (arith, c4))
        zero e (More a1 c1 c2 c3 c4) n = (omega (arith, e), omega (arith, c4))
    at (Under a c b1 b2 b3 b4) t k l = bounded t
      where
        bounded : Stands high hi lo → (r_from low hi lo ≤ r_to high hi lo) × (r_to high hi lo < 2 ^ 32)
        bounded (Less a1 c1 c2 c3 c4) = (omega (arith, b3), omega (arith, c4))
        bounded (Under a1 d1 c1 c2 c3 c4) = (omega (arith, b3), omega (arith, c4))
        bounded (At a1 d1 c1 c2 c3 c4) = (omega (arith, b3), omega (arith, c4, l))
        bounded (Over a1 d1 c1 c2 c3 c4) = (omega (arith, b3), omega (arith, c4))
        bounded (More a1 c1 c2 c3 c4) = (omega (arith, b3), omega (arith, c4))
    at (At a c b1 b2 b3 b4) (Less a1 c1 c2 c3 c4) k l = (omega (arith, b3, k, c4), omega (arith, c4))
    at (At a c b1 b2 b3 b4) (Under a1 d1 c1 c2 c3 c4) k l = (omega (arith, b3, k, c4), omega (arith, c4))
    at (At a c b1 b2 b3 b4) (At a1 d1 c1 c2 c3 c4) k l = (omega (arith, a, c, b3, a1, d1, c4, some), omega (arith, c4, l))
    at (At a c b1 b2 b3 b4) (Over a1 d1 c1 c2 c3 c4) k l = (omega (arith, b3, k, c4), omega (arith, c4))
    at (At a c b1 b2 b3 b4) (More a1 c1 c2 c3 c4) k l = (omega (arith, b3, k, c4), omega (arith, c4))
    at (Over a c b1 b2 b3 b4) t k l = bounded t
      where
        bounded : Stands high hi lo → (r_from low hi lo ≤ r_to high hi lo) × (r_to high hi lo < 2 ^ 32)
        bounded (Less a1 c1 c2 c3 c4) = (omega (arith, b3), omega (arith, c4))
        bounded (Under a1 d1 c1 c2 c3 c4) = (omega (arith, b3), omega (arith, c4))
        bounded (At a1 d1 c1 c2 c3 c4) = (omega (arith, b3), omega (arith, c4, l))
        bounded (Over a1 d1 c1 c2 c3 c4) = (omega (arith, b3), omega (arith, c4))
        bounded (More a1 c1 c2 c3 c4) = (omega (arith, b3), omega (arith, c4))
    at (More a b1 b2 b3 b4) t k l = bounded t
      where
        bounded : Stands high hi lo → (r_from low hi lo ≤ r_to high hi lo) × (r_to high hi lo < 2 ^ 32)
        bounded (Less a1 c1 c2 c3 c4) = (omega (arith, b3), omega (arith, c4))
        bounded (Under a1 d1 c1 c2 c3 c4) = (omega (arith, b3), omega (arith, c4))
        bounded (At a1 d1 c1 c2 c3 c4) = (omega (arith, b3), omega (arith, c4, l))
        bounded (Over a1 d1 c1 c2 c3 c4) = (omega (arith, b3), omega (arith, c4))
        bounded (More a1 c1 c2 c3 c4) = (omega (arith, b3), omega (arith, c4))

pub cell_law : (low high : Cell) → IsCell low → IsCell high → place low ≤ place high → IsLaw 20 (Says (IsPlaced low high) cell_text) (cell_between low high)
cell_law low high cl ch some =
    relegal into from (three_law cell_of cell_text joins (hyper_law low.gfid.hi high.gfid.hi (his (rank_bound high.aspect)) (omega (arith, ch.0)))
    (λ hi a. let m = lo_meets low high hi cl ch some a.low a.high in hyper_law (lo_from low hi) (lo_to high hi) m.0 m.1)
    (λ hi lo a b. let m = r_meets low high hi lo some in between_law (r_from low hi lo) (r_to high hi lo) m.0 m.1))
  where
    his : rank high.aspect ≤ 2 → low.gfid.hi ≤ high.gfid.hi
    his k = omega (arith, some, k, ch.1)

    joins : (o : Bool) (hi lo r : ℕ) → IsHyperOf low.gfid.hi high.gfid.hi o hi → IsHyperOf (lo_from low hi) (lo_to high hi) o lo → IsBetween (r_from low hi lo) (r_to high hi lo) o r
        → cell_text (cell_of hi lo r) ≡ hyper hi ++ (hyper lo ++ unit r)
    joins o hi lo r a b c =
        let s = places_high high hi lo r ch a.high b.high c.high in
        append_assoc (hyper hi) (hyper lo) (unit (rank (aspect_of r))) ∙ ap (λ (k : ℕ). hyper hi ++ (hyper lo ++ unit k)) (rank_of r s.2)

    into : (o : Bool) (c : Cell) → Made3 (IsHyperOf low.gfid.hi high.gfid.hi) (λ (hi : ℕ). IsHyperOf (lo_from low hi) (lo_to high hi)) (λ (hi lo : ℕ). IsBetween (r_from low hi lo) (r_to high hi lo)) cell_of o c → IsPlaced low high o c
    into o c k =
        let s = places_high high k.a k.b k.c ch k.said_a.high k.said_b.high k.said_c.high in
        let l = places_low low k.a k.b k.c cl s.1 k.said_a.low k.said_b.low k.said_c.low in
        let e = rank_of k.c s.2 in
        subst (IsPlaced low high o) (sym k.made) (record {
          cell = (omega (arith, k.said_a.high, ch.0), s.1);
          least = subst (λ (n : ℕ). place low ≤ place_of k.a k.b n) (sym e) l;
          most = subst (λ (n : ℕ). place_of k.a k.b n ≤ place high) (sym e) s.0;
        })

    from : (o : Bool) (c : Cell) → IsPlaced low high o c → Made3 (IsHyperOf low.gfid.hi high.gfid.hi) (λ (hi : ℕ). IsHyperOf (lo_from low hi) (lo_to high hi)) (λ (hi lo : ℕ). IsBetween (r_from low hi lo) (r_to high hi lo)) cell_of o c
    from o c k =
        let lo = low_places low c.gfid.hi c.gfid.lo (rank c.aspect) cl k.cell.1 (rank_bound c.aspect) k.least in
        let hi = high_places high c.gfid.hi c.gfid.lo (rank c.aspect) ch k.cell.1 (rank_bound c.aspect) k.most in
        record {
          a = c.gfid.hi;
          b = c.gfid.lo;
          c = rank c.aspect;
          said_a = record { low = lo.0; high = hi.0 };
          said_b = record { low = lo.1; high = hi.1 };
          said_c = record { low = lo.2; high = hi.2 };
          made = ap (λ (a : Aspect). record c { aspect = a }) (sym (aspect_back c.aspect));
        }
