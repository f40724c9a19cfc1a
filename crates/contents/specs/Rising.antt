-- Names that rise by their bytes, as the messages of a brick list them, and where a name is among them.
use Rattle.std.specs.Prelude.{◌≡◌, ℕ, zero, suc, ◌≤◌, Bool, true, ◌&&◌, List, [], ◌∷◌, map, length, slice_get, IfSome}
use Rattle.std.specs.declared.cmp.Ordering.TheVariants.{Less, Greater}
use Rattle.std.specs.Ordering.{nat_cmp, is_lt}
use Rattle.std.specs.Cmp.Lexicographic.{slice_cmp}
use Rattle.std.specs.List.Sorted.{IsStrictlySortedBy}
use Rattle.fop_types.specs.declared.contents.Attr.{Attr}
use Rattle.fop_types.specs.declared.contents.Content.{Content}
use Rattle.fop_types.specs.declared.contents.Content.TheVariants.{Bytes, Meta, Names}
use Rattle.fop_types.specs.declared.contents.Item.{Item}

abbrev pub Rise : List (List ℕ) → Type 0
Rise names = IsStrictlySortedBy (slice_cmp nat_cmp) names

abbrev pub item_names : List Item → List (List ℕ)
item_names items = map (λ i. i.name) items

abbrev pub attr_names : List Attr → List (List ℕ)
attr_names attrs = map (λ a. a.name) attrs

-- whether they rise, name by name
abbrev pub is_before : List ℕ → List (List ℕ) → Bool
is_before name [] = true
is_before name (other ∷ names) = is_lt (slice_cmp nat_cmp name other)

abbrev pub are_rising : List (List ℕ) → Bool
are_rising [] = true
are_rising (name ∷ names) = is_before name names && are_rising names

-- the names of a directory, or those of an object's attributes, rise; bytes have none
abbrev pub IsRising : Content → Type 0
IsRising (Bytes bytes) = Unit {0}
IsRising (Meta mode attrs span) = Rise (attr_names attrs)
IsRising (Names removed items) = Rise (item_names items)

abbrev pub is_rising : Content → Bool
is_rising (Bytes bytes) = true
is_rising (Meta mode attrs span) = are_rising (attr_names attrs)
is_rising (Names removed items) = are_rising (item_names items)

-- the name before a place is smaller, where there is one, and that at a place is greater
abbrev pub IsPast : List (List ℕ) → ℕ → List ℕ → Type 0
IsPast names zero name = Unit {0}
IsPast names (suc i) name = IfSome (slice_get names i) (λ other. slice_cmp nat_cmp name other ≡ Greater)

abbrev pub IsBelow : List (List ℕ) → ℕ → List ℕ → Type 0
IsBelow names i name = IfSome (slice_get names i) (λ other. slice_cmp nat_cmp name other ≡ Less)

-- a name goes before the one at a place
pub record GoesAt (names : List (List ℕ)) (name : List ℕ) (i : ℕ) : Type 0 where
  pub within : i ≤ length names
  pub past : IsPast names i name
  pub below : IsBelow names i name
