-- The even split covers each hash once: the hash h is in the range of the set ((h + 1) * m - 1) / 2 ^ 32
-- of m, and in no other.
use Rattle.std.proofs.Common.{◌≡◌, ℕ, ◌+◌, ◌-◌, ◌*◌, ◌/◌, ◌<◌, ◌≤◌, inl, inr, List, Option, Some, None, length, get_or, map, arith, sym, ap, ◌∙◌, subst, ◌++◌, ◌∷◌, []}
use Rattle.std.proofs.lemmas.Bool.{cases_lt, and_from, and_parts, le-leb, leb-true, false≢true}
use Rattle.std.proofs.lemmas.List.{get_or_past}
use Rattle.std.proofs.lemmas.List.FromFn.{length-map-range_with_len, get_or-map-range_with_len, map-range_with_len_more}
use Rattle.std.proofs.lemmas.Nat.{div_below, le-div, mul-le, div-mul-add, mod_below, div-add-mod'}
use Rattle.std.specs.List.{range_with_len}
use Rattle.fop_types.specs.declared.contents.Span.{Span}
use Rattle.dht_layout.specs.Layouts.{holds, Has, even_span, even_layout, CoversEachOnce}

-- the first hash of set i of m
abbrev first_of : ℕ → ℕ → ℕ
first_of m i = i * 4294967296 / m

-- a hash is before the first of set i, or not, by products only
before : (m i h : ℕ) → 0 < m → i * 4294967296 < (h + 1) * m → first_of m i ≤ h
before m i h pos l = let d : i * 4294967296 / m < h + 1 = div_below (i * 4294967296) m (h + 1) pos l in omega arith

not_before : (m i h : ℕ) → 0 < m → first_of m i ≤ h → i * 4294967296 < (h + 1) * m
not_before m i h pos l =
    omega (arith, div-add-mod' (i * 4294967296) m, mod_below (i * 4294967296) m pos, mul-le (i * 4294967296 / m) m h m l (omega arith))

-- a hash is at most the last of set i, or not
within : (m i h : ℕ) → 0 < m → (h + 1) * m ≤ (i + 1) * 4294967296 → h ≤ first_of m (i + 1) - 1
within m i h pos l = let d : h + 1 ≤ (i + 1) * 4294967296 / m = le-div (h + 1) ((i + 1) * 4294967296) m pos l in omega arith

not_within : (m i h : ℕ) → 0 < m → m ≤ 4294967296 → h ≤ first_of m (i + 1) - 1 → (h + 1) * m ≤ (i + 1) * 4294967296
not_within m i h pos few l =
    let one : 1 ≤ (i + 1) * 4294967296 / m = le-div 1 ((i + 1) * 4294967296) m pos (omega arith) in
    omega (arith, div-add-mod' ((i + 1) * 4294967296) m, mul-le (h + 1) m ((i + 1) * 4294967296 / m) m (omega arith) (omega arith))

-- the set of m that has the hash
abbrev set_of : ℕ → ℕ → ℕ
set_of m h = ((h + 1) * m - 1) / 4294967296

-- where product x is between two neighbouring multiples of 2 ^ 32, the quotient says which
between : (x i : ℕ) → i * 4294967296 < x → x ≤ (i + 1) * 4294967296 → (x - 1) / 4294967296 ≡ i
between x i low high =
    let e : x - 1 ≡ i * 4294967296 + (x - 1 - i * 4294967296) = omega arith in
    ap (λ (n : ℕ). n / 4294967296) e ∙ div-mul-add i 4294967296 (x - 1 - i * 4294967296) (omega arith)

spread : (x : ℕ) → 0 < x → ((x - 1) / 4294967296 * 4294967296 < x) × (x ≤ ((x - 1) / 4294967296 + 1) * 4294967296)
spread x pos =
    let s = div-add-mod' (x - 1) 4294967296 in
    let r = mod_below (x - 1) 4294967296 (omega arith) in
    (omega arith, omega arith)

at_set : (m i : ℕ) → i < m → get_or (even_layout m) i None ≡ Some (even_span m i)
at_set m i l = get_or-map-range_with_len (λ set. Some (even_span m set)) 0 m i i None l (omega arith)

long : (m : ℕ) → length (even_layout m) ≡ m
long m = length-map-range_with_len (λ set. Some (even_span m set)) 0 m

has_set : (m i h : ℕ) → i < m → first_of m i ≤ h → h ≤ first_of m (i + 1) - 1 → Has (even_layout m) i h
has_set m i h l low high = ap (holds h) (at_set m i l) ∙ and_from _ _ (le-leb (first_of m i) h low) (le-leb h (first_of m (i + 1) - 1) high)

set_has : (m i h : ℕ) → Has (even_layout m) i h → (i < m) × (first_of m i ≤ h) × (h ≤ first_of m (i + 1) - 1)
set_has m i h has = elim (cases_lt i m) [
  | inl l ↦ let both = and_parts _ _ (sym (ap (holds h) (at_set m i l)) ∙ has) in
      (l, leb-true (first_of m i) h both.0, leb-true h (first_of m (i + 1) - 1) both.1)
  | inr past ↦ let none : get_or (even_layout m) i None ≡ None = get_or_past (even_layout m) i None (omega (arith, long m)) in
      absurd (false≢true (sym (ap (holds h) none) ∙ has))
]

pub even_covers : (m : ℕ) → 0 < m → m ≤ 4294967296 → CoversEachOnce (even_layout m)
even_covers m pos few h below =
    let x : 0 < (h + 1) * m = omega (arith, mul-le 1 1 (h + 1) m (omega arith) (omega arith)) in
    let s = spread ((h + 1) * m) x in
    let l : set_of m h < m = div_below ((h + 1) * m - 1) 4294967296 m (omega arith) (omega (arith, mul-le (h + 1) m 4294967296 m (omega arith) (omega arith))) in
    record {
      set = set_of m h;
      has = has_set m (set_of m h) h l (before m (set_of m h) h pos s.0) (within m (set_of m h) h pos s.1);
      only = λ other has. let o = set_has m other h has in
          sym (between ((h + 1) * m) other (not_before m other h pos o.1) (not_within m other h pos few o.2));
    }

pub one_more : (m i : ℕ) (items new : List (Option Span)) (span : Span) → items ≡ map (λ set. Some (even_span m set)) (range_with_len 0 i) → span ≡ even_span m i → new ≡ items ++ Some span ∷ [] → new ≡ map (λ set. Some (even_span m set)) (range_with_len 0 (i + 1))
one_more m i items new span e f g =
    g ∙ ap (λ (xs : List (Option Span)). xs ++ Some span ∷ []) e ∙ ap (λ (s : Span). map (λ set. Some (even_span m set)) (range_with_len 0 i) ++ Some s ∷ []) f
    ∙ sym (map-range_with_len_more (λ set. Some (even_span m set)) 0 i i (omega arith))

pub made_covers : (m n : ℕ) (layout items : List (Option Span)) → 0 < m → m ≤ 4294967296 → layout ≡ items → items ≡ map (λ set. Some (even_span m set)) (range_with_len 0 n) → n ≡ m → CoversEachOnce layout
made_covers m n layout items pos few e f g =
    subst CoversEachOnce (sym (e ∙ f ∙ ap (λ (k : ℕ). map (λ set. Some (even_span m set)) (range_with_len 0 k)) g)) (even_covers m pos few)
