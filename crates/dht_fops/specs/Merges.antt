-- The names of a directory over the sets: those of each set, links left out, merged by rising bytes.
use Rattle.std.specs.Prelude.{List, [], ◌∷◌, if◌then◌else◌}
use Rattle.std.specs.Ordering.{match_ordering, nat_cmp}
use Rattle.std.specs.Cmp.Lexicographic.{slice_cmp}
use Rattle.fop_types.specs.Names.{is_link}
use Rattle.fop_types.specs.declared.contents.Item.{Item}

abbrev pub real_items : List Item → List Item
real_items [] = []
real_items (item ∷ items) = if is_link item.kind then real_items items else item ∷ real_items items

-- an item and what is merged after it, with the second list; of two equal names the second list's stays
abbrev pub with_first : Item → (List Item → List Item) → List Item → List Item
with_first item rest [] = item ∷ rest []
with_first item rest (other ∷ others) =
    match_ordering (slice_cmp nat_cmp other.name item.name) (other ∷ with_first item rest others) (other ∷ rest others) (item ∷ rest (other ∷ others))

-- two lists by rising bytes as one
abbrev pub merged : List Item → List Item → List Item
merged [] others = others
merged (item ∷ items) others = with_first item (merged items) others
