-- Hypers and gfids are read exactly, between bounds too: a bound counts for the low unit only where the
-- high unit is that of the bound.
use Rattle.std.proofs.Common.{◌≡◌, ◌<◌, ◌≤◌, ◌∷◌, ◌∙◌, ◌++◌, ◌+◌, ◌-◌, ◌*◌, ◌/◌, ◌%◌, ◌^◌, ℕ, suc, zero, Bool, true, false, ◌&&◌, ◌==◌, sym, refl, ap, ap₂, subst, List, [], length, arith, append_assoc, if◌then◌else◌}
use Rattle.fop_types.specs.Rank.{rank}
use Rattle.fop_types.specs.declared.cells.Gfid.{Gfid}
use Rattle.fop_types.specs.declared.cells.Aspect.{Aspect}
use Rattle.fop_types.specs.declared.cells.Aspect.TheVariants.{Data, Meta, Entry}
use Rattle.fop_types.specs.declared.cells.Cell.{Cell}
use Rattle.wire_xdr.specs.Xdr.{unit, hyper, IsUnit, IsHyper}
use Rattle.wire_xdr.specs.PartText.{gfid_text, IsGfid, cell_text, IsCell}
use Rattle.wire_xdr.specs.code.Parsers.{between_at, unit_at, hyper_between, hyper_at}
use Rattle.wire_xdr.specs.code.PartParsers.{gfid_of, gfid_at, aspect_of, cell_of, cell_between}
use Rattle.wire_xdr.proofs.Names.{Three, Below, Same, Above, three_ways, eq_same, eq_less, eq_more}
use Rattle.wire_xdr.proofs.Laws.{IsLaw, weaker}
use Rattle.wire_xdr.proofs.QuadLaws.{Says, IsBetween, between_law, relegal}
use Rattle.wire_xdr.proofs.FieldLaws.{Made2, Made3, two_law, three_law}

abbrev hyper_of : ℕ → ℕ → ℕ
hyper_of high low = high * 4294967296 + low

hyper_joins : (h l : ℕ) → l ≤ 4294967295 → hyper (hyper_of h l) ≡ unit h ++ unit l
hyper_joins h l small =
    let a : (h * 4294967296 + l) / 4294967296 ≡ h = omega (arith, small) in
    let b : (h * 4294967296 + l) % 4294967296 ≡ l = omega (arith, small) in
    ap₂ (λ (x y : ℕ). unit x ++ unit y) a b

-- the low unit's bounds
abbrev from_low : ℕ → ℕ → ℕ
from_low least h = if h == least / 4294967296 then least % 4294967296 else 0

abbrev to_high : ℕ → ℕ → ℕ
to_high most h = if h == most / 4294967296 then most % 4294967296 else 4294967295

low_tight : (least h : ℕ) → h ≡ least / 4294967296 → from_low least h ≡ least % 4294967296
low_tight least h e = ap (λ (t : Bool). if t then least % 4294967296 else 0) (eq_same h _ e)

low_free : (least h : ℕ) → least / 4294967296 < h → from_low least h ≡ 0
low_free least h e = ap (λ (t : Bool). if t then least % 4294967296 else 0) (eq_more h _ e)

high_tight : (most h : ℕ) → h ≡ most / 4294967296 → to_high most h ≡ most % 4294967296
high_tight most h e = ap (λ (t : Bool). if t then most % 4294967296 else 4294967295) (eq_same h _ e)

high_free : (most h : ℕ) → h < most / 4294967296 → to_high most h ≡ 4294967295
high_free most h e = ap (λ (t : Bool). if t then most % 4294967296 else 4294967295) (eq_less h _ e)

above_low : (least h l : ℕ) → least / 4294967296 ≤ h → from_low least h ≤ l → least ≤ hyper_of h l
above_low least h l a b = at (three_ways h (least / 4294967296))
  where
    at : Three h (least / 4294967296) → least ≤ hyper_of h l
    at (Below e) = absurd (omega (arith, a, e))
    at (Same e) = omega (arith, e, b, low_tight least h e)
    at (Above e) = omega (arith, e)

low_above : (least h l : ℕ) → l ≤ 4294967295 → least ≤ hyper_of h l → (least / 4294967296 ≤ h) × (from_low least h ≤ l)
low_above least h l s a = at (three_ways h (least / 4294967296))
  where
    at : Three h (least / 4294967296) → (least / 4294967296 ≤ h) × (from_low least h ≤ l)
    at (Below e) = absurd (omega (arith, a, e, s))
    at (Same e) = (omega (arith, e), omega (arith, e, a, low_tight least h e))
    at (Above e) = (omega (arith, e), omega (arith, low_free least h e))

below_high : (most h l : ℕ) → h ≤ most / 4294967296 → l ≤ to_high most h → (hyper_of h l ≤ most) × (l ≤ 4294967295)
below_high most h l a b = at (three_ways h (most / 4294967296))
  where
    at : Three h (most / 4294967296) → (hyper_of h l ≤ most) × (l ≤ 4294967295)
    at (Below e) = let c : l ≤ 4294967295 = omega (arith, b, high_free most h e) in (omega (arith, e, c), c)
    at (Same e) = (omega (arith, e, b, high_tight most h e), omega (arith, e, b, high_tight most h e))
    at (Above e) = absurd (omega (arith, a, e))

high_below : (most h l : ℕ) → l ≤ 4294967295 → hyper_of h l ≤ most → (h ≤ most / 4294967296) × (l ≤ to_high most h)
high_below most h l s a = at (three_ways h (most / 4294967296))
  where
    at : Three h (most / 4294967296) → (h ≤ most / 4294967296) × (l ≤ to_high most h)
    at (Below e) = (omega (arith, e), omega (arith, s, high_free most h e))
    at (Same e) = (omega (arith, e), omega (arith, e, a, high_tight most h e))
    at (Above e) = absurd (omega (arith, a, e))

low_meets : (least most h : ℕ) → least ≤ most → least / 4294967296 ≤ h → h ≤ most / 4294967296 → (from_low least h ≤ to_high most h) × (to_high most h < 2 ^ 32)
low_meets least most h some a b = at (three_ways h (least / 4294967296)) (three_ways h (most / 4294967296))
  where
    at : Three h (least / 4294967296) → Three h (most / 4294967296) → (from_low least h ≤ to_high most h) × (to_high most h < 2 ^ 32)
    at (Below e) f = absurd (omega (arith, a, e))
    at (Same e) (Below f) = (omega (arith, low_tight least h e, high_free most h f), omega (arith, high_free most h f))
    at (Same e) (Same f) = (omega (arith, low_tight least h e, high_tight most h f, e, f, some), omega (arith, high_tight most h f))
    at (Above e) (Below f) = (omega (arith, low_free least h e), omega (arith, high_free most h f))
    at (Above e) (Same f) = (omega (arith, low_free least h e), omega (arith, high_tight most h f))
    at t (Above f) = absurd (omega (arith, b, f))

-- how the text of a hyper goes by its units
pub record IsHyperOf (least most : ℕ) (o : Bool) (n : ℕ) : Type 0 where
  pub low : least ≤ n
  pub high : n ≤ most

halves : (n : ℕ) → hyper_of (n / 4294967296) (n % 4294967296) ≡ n
halves n = omega arith

pub hyper_law : (least most : ℕ) → least ≤ most → most < 2 ^ 64 → IsLaw 8 (Says (IsHyperOf least most) hyper) (hyper_between least most)
hyper_law least most some small =
    relegal into from (two_law hyper_of hyper (λ o h l a b. hyper_joins h l (below_high most h l a.high b.high).1)
    (between_law (least / 4294967296) (most / 4294967296) (omega (arith, some)) (omega (arith, small)))
    (λ h a. let m = low_meets least most h some a.low a.high in between_law (from_low least h) (to_high most h) m.0 m.1))
  where
    into : (o : Bool) (n : ℕ) → Made2 (IsBetween (least / 4294967296) (most / 4294967296)) (λ (h : ℕ). IsBetween (from_low least h) (to_high most h)) hyper_of o n → IsHyperOf least most o n
    into o n k = record {
      low = subst (λ (x : ℕ). least ≤ x) (sym k.made) (above_low least k.a k.b k.said_a.low k.said_b.low);
      high = subst (λ (x : ℕ). x ≤ most) (sym k.made) (below_high most k.a k.b k.said_a.high k.said_b.high).0;
    }

    from : (o : Bool) (n : ℕ) → IsHyperOf least most o n → Made2 (IsBetween (least / 4294967296) (most / 4294967296)) (λ (h : ℕ). IsBetween (from_low least h) (to_high most h)) hyper_of o n
    from o n k =
        let s : n % 4294967296 ≤ 4294967295 = omega arith in
        let lo = low_above least (n / 4294967296) (n % 4294967296) s (subst (λ (x : ℕ). least ≤ x) (sym (halves n)) k.low) in
        let hi = high_below most (n / 4294967296) (n % 4294967296) s (subst (λ (x : ℕ). x ≤ most) (sym (halves n)) k.high) in
        record { a = n / 4294967296; b = n % 4294967296; said_a = record { low = lo.0; high = hi.0 }; said_b = record { low = lo.1; high = hi.1 }; made = sym (halves n) }

pub any_hyper_law : IsLaw 8 (Says (λ (o : Bool) (n : ℕ). IsHyper n) hyper) hyper_at
any_hyper_law =
    relegal into from (two_law hyper_of hyper (λ o h l a b. hyper_joins h l b.high) (between_law 0 4294967295 (omega arith) (omega arith)) (λ h a. between_law 0 4294967295 (omega arith) (omega arith)))
  where
    into : (o : Bool) (n : ℕ) → Made2 (IsBetween 0 4294967295) (λ (h : ℕ). IsBetween 0 4294967295) hyper_of o n → IsHyper n
    into o n k = omega (arith, k.made, k.said_a.high, k.said_b.high)

    from : (o : Bool) (n : ℕ) → IsHyper n → Made2 (IsBetween 0 4294967295) (λ (h : ℕ). IsBetween 0 4294967295) hyper_of o n
    from o n k = record { a = n / 4294967296; b = n % 4294967296; said_a = record { low = omega arith; high = omega (arith, k) }; said_b = record { low = omega arith; high = omega arith }; made = sym (halves n) }

pub any_unit_law : IsLaw 4 (Says (λ (o : Bool) (n : ℕ). IsUnit n) unit) unit_at
any_unit_law = relegal (λ o n k. omega (arith, k.high)) (λ o n k. record { low = omega arith; high = omega (arith, k) }) (between_law 0 4294967295 (omega arith) (omega arith))

pub gfid_law : IsLaw 16 (Says (λ (o : Bool) (g : Gfid). IsGfid g) gfid_text) gfid_at
gfid_law = relegal into from (two_law gfid_of gfid_text (λ o hi lo a b. refl) any_hyper_law (λ hi a. any_hyper_law))
  where
    into : (o : Bool) (g : Gfid) → Made2 (λ (p : Bool) (n : ℕ). IsHyper n) (λ (h : ℕ) (p : Bool) (n : ℕ). IsHyper n) gfid_of o g → IsGfid g
    into o g k = subst IsGfid (sym k.made) (k.said_a, k.said_b)

    from : (o : Bool) (g : Gfid) → IsGfid g → Made2 (λ (p : Bool) (n : ℕ). IsHyper n) (λ (h : ℕ) (p : Bool) (n : ℕ). IsHyper n) gfid_of o g
    from o g k = record { a = g.hi; b = g.lo; said_a = k.0; said_b = k.1; made = refl }
