-- A directory's names and an object's attributes, as lists by rising bytes of the name.
use Rattle.std.specs.Prelude.{ℕ, Bool, true, false, ◌&&◌, List, [], ◌∷◌, Option, Some, None, nat_eq, if◌then◌else◌}
use Rattle.std.specs.Ordering.{is_eq, match_ordering, nat_cmp}
use Rattle.std.specs.Cmp.Lexicographic.{slice_cmp, pointwise}
use Rattle.fop_types.specs.Orders.{gfid_cmp}
use Rattle.fop_types.specs.declared.cells.Gfid.{Gfid}
use Rattle.fop_types.specs.declared.cells.Kind.{Kind}
use Rattle.fop_types.specs.declared.cells.Kind.TheVariants.{File, Dir, Link}
use Rattle.fop_types.specs.declared.contents.Item.{Item}
use Rattle.fop_types.specs.declared.contents.Attr.{Attr}

abbrev pub item_named : List Item → List ℕ → Option Item
item_named [] name = None
item_named (item ∷ items) name = if pointwise nat_eq item.name name then Some item else item_named items name

-- the names with this one at its place by rising bytes; an equal name is replaced
abbrev pub with_item : List Item → Item → List Item
with_item [] item = item ∷ []
with_item (other ∷ items) item =
    match_ordering (slice_cmp nat_cmp item.name other.name) (item ∷ other ∷ items) (item ∷ items) (other ∷ with_item items item)

-- the names without this one, which stands at most once
abbrev pub without_item : List Item → List ℕ → List Item
without_item [] name = []
without_item (item ∷ items) name = if pointwise nat_eq item.name name then items else item ∷ without_item items name

-- a link only points to the set that has a file: it is no name of the file system
abbrev pub is_link : Kind → Bool
is_link File = false
is_link Dir = false
is_link Link = true

abbrev pub is_directory : Kind → Bool
is_directory File = false
is_directory Dir = true
is_directory Link = false

-- whether some item is no link
abbrev pub has_real_name : List Item → Bool
has_real_name [] = false
has_real_name (item ∷ items) = if is_link item.kind then has_real_name items else true

abbrev pub renamed : Item → List ℕ → Item
renamed item name = record item { name = name }

-- whether two names in two directories are one
abbrev pub is_same_name : Gfid → List ℕ → Gfid → List ℕ → Bool
is_same_name parent name target new_name = is_eq (gfid_cmp parent target) && pointwise nat_eq name new_name

abbrev pub attr_named : List Attr → List ℕ → Option Attr
attr_named [] name = None
attr_named (attr ∷ attrs) name = if pointwise nat_eq attr.name name then Some attr else attr_named attrs name

-- the attributes with this one at its place by rising bytes; one of an equal name is replaced
abbrev pub with_attr : List Attr → Attr → List Attr
with_attr [] attr = attr ∷ []
with_attr (other ∷ attrs) attr =
    match_ordering (slice_cmp nat_cmp attr.name other.name) (attr ∷ other ∷ attrs) (attr ∷ attrs) (other ∷ with_attr attrs attr)

-- the attributes without the one of this name
abbrev pub without_attr : List Attr → List ℕ → List Attr
without_attr [] name = []
without_attr (attr ∷ attrs) name = if pointwise nat_eq attr.name name then attrs else attr ∷ without_attr attrs name
