-- What a store op makes of the contents of a set's cells: which cells must be present, when the op does not fit,
-- the edits that it makes cell by cell, and the cells to which it gives birth. A brick's store, the machine of
-- one set and the files of all sets take an op's meaning from here.
use Rattle.std.specs.Prelude.{ℕ, ◌+◌, Bool, true, false, not, ◌&&◌, ◌||◌, List, [], ◌∷◌, Option, Some, None, is_none, length, nat_lt, if◌then◌else◌}
use Rattle.std.specs.Ordering.{is_eq, match_ordering}
use Rattle.fop_types.specs.Cells.{data_cell, meta_cell, names_cell}
use Rattle.fop_types.specs.FileBytes.{file_limit, written, resized}
use Rattle.fop_types.specs.Names.{item_named, with_item, without_item, is_link, is_directory, has_real_name, attr_named, with_attr, without_attr, renamed, is_same_name}
use Rattle.fop_types.specs.Orders.{gfid_cmp, cell_cmp}
use Rattle.fop_types.specs.declared.cells.Gfid.{Gfid}
use Rattle.fop_types.specs.declared.cells.Aspect.{Aspect}
use Rattle.fop_types.specs.declared.cells.Aspect.TheVariants as aspect
use Rattle.fop_types.specs.declared.cells.Cell.{Cell}
use Rattle.fop_types.specs.declared.cells.Kind.{Kind}
use Rattle.fop_types.specs.declared.cells.Kind.TheVariants.{File, Dir, Link}
use Rattle.fop_types.specs.declared.contents.Attr.{Attr}
use Rattle.fop_types.specs.declared.contents.Item.{Item}
use Rattle.fop_types.specs.declared.contents.Span.{Span}
use Rattle.fop_types.specs.declared.contents.Content.{Content}
use Rattle.fop_types.specs.declared.contents.Content.TheVariants.{Bytes, Meta, Names}
use Rattle.fop_types.specs.declared.store_ops.StoreOp.{StoreOp}
use Rattle.fop_types.specs.declared.store_ops.StoreOp.TheVariants.{Write, Truncate, SetMode, SetAttr, DelAttr, AddName, DropName, DropDir, Move, MakeCopy}

-- the contents of cells; None where a cell is not present
abbrev pub Contents : Type 0
Contents = Cell → Option Content

-- ---- the edits of one cell

pub data Edit : Type 0 where
  PutBytes : (offset : ℕ) → (bytes : List ℕ) → Edit
  Resize : (size : ℕ) → Edit
  PutMode : (mode : ℕ) → Edit
  PutAttr : (attr : Attr) → Edit
  DropAttr : (name : List ℕ) → Edit
  PutItem : (item : Item) → Edit
  DropItem : (name : List ℕ) → Edit
  MarkRemoved : Edit

-- a content of another aspect than the edit's, which no cell holds, stays as it is
abbrev pub with_bytes_by : (List ℕ → List ℕ) → Content → Content
with_bytes_by change (Bytes bytes) = Bytes (change bytes)
with_bytes_by change (Meta mode attrs span) = Meta mode attrs span
with_bytes_by change (Names removed items) = Names removed items

abbrev pub with_mode : ℕ → Content → Content
with_mode new (Bytes bytes) = Bytes bytes
with_mode new (Meta mode attrs span) = Meta new attrs span
with_mode new (Names removed items) = Names removed items

abbrev pub with_attrs_by : (List Attr → List Attr) → Content → Content
with_attrs_by change (Bytes bytes) = Bytes bytes
with_attrs_by change (Meta mode attrs span) = Meta mode (change attrs) span
with_attrs_by change (Names removed items) = Names removed items

abbrev pub with_items_by : (List Item → List Item) → Content → Content
with_items_by change (Bytes bytes) = Bytes bytes
with_items_by change (Meta mode attrs span) = Meta mode attrs span
with_items_by change (Names removed items) = Names removed (change items)

abbrev pub as_removed : Content → Content
as_removed (Bytes bytes) = Bytes bytes
as_removed (Meta mode attrs span) = Meta mode attrs span
as_removed (Names removed items) = Names true items

abbrev pub edited : Edit → Content → Content
edited (PutBytes offset new) content = with_bytes_by (λ bytes. written bytes offset new) content
edited (Resize size) content = with_bytes_by (λ bytes. resized bytes size) content
edited (PutMode mode) content = with_mode mode content
edited (PutAttr attr) content = with_attrs_by (λ attrs. with_attr attrs attr) content
edited (DropAttr name) content = with_attrs_by (λ attrs. without_attr attrs name) content
edited (PutItem item) content = with_items_by (λ items. with_item items item) content
edited (DropItem name) content = with_items_by (λ items. without_item items name) content
edited MarkRemoved content = as_removed content

-- ---- what a content holds

abbrev pub items_of : Option Content → List Item
items_of None = []
items_of (Some (Bytes bytes)) = []
items_of (Some (Meta mode attrs span)) = []
items_of (Some (Names removed items)) = items

abbrev pub is_removed : Option Content → Bool
is_removed None = false
is_removed (Some (Bytes bytes)) = false
is_removed (Some (Meta mode attrs span)) = false
is_removed (Some (Names removed items)) = removed

abbrev pub attrs_of : Option Content → List Attr
attrs_of None = []
attrs_of (Some (Bytes bytes)) = []
attrs_of (Some (Meta mode attrs span)) = attrs
attrs_of (Some (Names removed items)) = []

-- the item of a name in a directory
abbrev pub item_in : Contents → Gfid → List ℕ → Option Item
item_in contents parent name = item_named (items_of (contents (names_cell parent))) name

-- ---- the cells of an op

-- the entry cells of two directories, by rising cell and without a repeat
abbrev pub both_names : Gfid → Gfid → List Cell
both_names a b =
    match_ordering (gfid_cmp a b) (names_cell a ∷ names_cell b ∷ []) (names_cell a ∷ []) (names_cell b ∷ names_cell a ∷ [])

-- the cells that must be present, by rising cell: those that a change by this op names, locks and marks
abbrev pub needs : StoreOp → List Cell
needs (Write gfid offset bytes) = data_cell gfid ∷ []
needs (Truncate gfid size) = data_cell gfid ∷ []
needs (SetMode gfid mode) = meta_cell gfid ∷ []
needs (SetAttr gfid attr) = meta_cell gfid ∷ []
needs (DelAttr gfid name) = meta_cell gfid ∷ []
needs (AddName parent item mode span) = names_cell parent ∷ []
needs (DropName parent name) = names_cell parent ∷ []
needs (DropDir parent name gfid) = both_names parent gfid
needs (Move parent name target new_name) = both_names parent target
needs (MakeCopy gfid span) = []

-- the two cells of a new file or directory, by rising cell, with their contents; a link has none
abbrev pub born : Kind → Gfid → ℕ → Option Span → List (Cell × Content)
born File gfid mode span = (data_cell gfid, Bytes []) ∷ (meta_cell gfid, Meta mode [] span) ∷ []
born Dir gfid mode span = (meta_cell gfid, Meta mode [] span) ∷ (names_cell gfid, Names false []) ∷ []
born Link gfid mode span = []

-- the cells to which an op gives birth, with their contents
abbrev pub births : StoreOp → List (Cell × Content)
births (Write gfid offset bytes) = []
births (Truncate gfid size) = []
births (SetMode gfid mode) = []
births (SetAttr gfid attr) = []
births (DelAttr gfid name) = []
births (AddName parent item mode span) = born item.kind item.gfid mode span
births (DropName parent name) = []
births (DropDir parent name gfid) = []
births (Move parent name target new_name) = []
births (MakeCopy gfid span) = born Dir gfid 0 span

-- ---- when an op does not fit, though the cells that it needs are present

-- a name is taken where an item that is no link has it
abbrev pub is_taken : Option Item → Bool
is_taken None = false
is_taken (Some item) = not (is_link item.kind)

abbrev pub is_directory_item : Option Item → Bool
is_directory_item None = false
is_directory_item (Some item) = is_directory item.kind

abbrev pub is_that_directory : Option Item → Gfid → Bool
is_that_directory None gfid = false
is_that_directory (Some item) gfid = is_directory item.kind && is_eq (gfid_cmp item.gfid gfid)

abbrev pub is_unfit : Contents → StoreOp → Bool
is_unfit contents (Write gfid offset bytes) = nat_lt file_limit (offset + length bytes)
is_unfit contents (Truncate gfid size) = nat_lt file_limit size
is_unfit contents (SetMode gfid mode) = false
is_unfit contents (SetAttr gfid attr) = false
is_unfit contents (DelAttr gfid name) = is_none (attr_named (attrs_of (contents (meta_cell gfid))) name)
is_unfit contents (AddName parent item mode span) =
    is_removed (contents (names_cell parent)) || is_taken (item_in contents parent item.name)
is_unfit contents (DropName parent name) = is_none (item_in contents parent name)
is_unfit contents (DropDir parent name gfid) =
    not (is_that_directory (item_in contents parent name) gfid) || has_real_name (items_of (contents (names_cell gfid)))
is_unfit contents (Move parent name target new_name) =
    (is_none (item_in contents parent name) || is_removed (contents (names_cell target)))
    || (is_directory_item (item_in contents target new_name) || is_same_name parent name target new_name)
is_unfit contents (MakeCopy gfid span) = false

-- whether there is a content of this aspect
abbrev pub holds_bytes : Option Content → Bool
holds_bytes None = false
holds_bytes (Some (Bytes bytes)) = true
holds_bytes (Some (Meta mode attrs span)) = false
holds_bytes (Some (Names removed items)) = false

abbrev pub holds_meta : Option Content → Bool
holds_meta None = false
holds_meta (Some (Bytes bytes)) = false
holds_meta (Some (Meta mode attrs span)) = true
holds_meta (Some (Names removed items)) = false

abbrev pub holds_names : Option Content → Bool
holds_names None = false
holds_names (Some (Bytes bytes)) = false
holds_names (Some (Meta mode attrs span)) = false
holds_names (Some (Names removed items)) = true

abbrev pub holds : Aspect → Option Content → Bool
holds aspect.Data content = holds_bytes content
holds aspect.Meta content = holds_meta content
holds aspect.Entry content = holds_names content

abbrev pub are_present : Contents → List Cell → Bool
are_present contents [] = true
are_present contents (cell ∷ cells) = if holds cell.aspect (contents cell) then are_present contents cells else false

-- an op fits where the cells that it needs are present, each with a content of its aspect, and nothing else speaks
-- against it; else it changes nothing
abbrev pub fits : Contents → StoreOp → Bool
fits contents op = are_present contents (needs op) && not (is_unfit contents op)

-- ---- what a fitting op does

abbrev pub moved_in : Option Item → Gfid → List ℕ → List (Cell × Edit)
moved_in None target new_name = []
moved_in (Some item) target new_name = (names_cell target, PutItem (renamed item new_name)) ∷ []

-- the edits of an op, in order, each of a cell that it needs
abbrev pub edits : Contents → StoreOp → List (Cell × Edit)
edits contents (Write gfid offset bytes) = (data_cell gfid, PutBytes offset bytes) ∷ []
edits contents (Truncate gfid size) = (data_cell gfid, Resize size) ∷ []
edits contents (SetMode gfid mode) = (meta_cell gfid, PutMode mode) ∷ []
edits contents (SetAttr gfid attr) = (meta_cell gfid, PutAttr attr) ∷ []
edits contents (DelAttr gfid name) = (meta_cell gfid, DropAttr name) ∷ []
edits contents (AddName parent item mode span) = (names_cell parent, PutItem item) ∷ []
edits contents (DropName parent name) = (names_cell parent, DropItem name) ∷ []
edits contents (DropDir parent name gfid) = (names_cell parent, DropItem name) ∷ (names_cell gfid, MarkRemoved) ∷ []
edits contents (Move parent name target new_name) =
    (names_cell parent, DropItem name) ∷ moved_in (item_in contents parent name) target new_name
edits contents (MakeCopy gfid span) = []

abbrev pub with_content : Contents → Cell → Option Content → Contents
with_content contents cell content other = if is_eq (cell_cmp other cell) then content else contents other

abbrev pub edited_if_present : Edit → Option Content → Option Content
edited_if_present edit None = None
edited_if_present edit (Some content) = Some (edited edit content)

abbrev pub after_edits : Contents → List (Cell × Edit) → Contents
after_edits contents [] = contents
after_edits contents (e ∷ es) = after_edits (with_content contents e.0 (edited_if_present e.1 (contents e.0))) es

-- a birth leaves a cell that is present as it is
abbrev pub born_if_absent : Content → Option Content → Option Content
born_if_absent content None = Some content
born_if_absent content (Some there) = Some there

abbrev pub after_births : Contents → List (Cell × Content) → Contents
after_births contents [] = contents
after_births contents (b ∷ bs) = after_births (with_content contents b.0 (born_if_absent b.1 (contents b.0))) bs

-- the contents after a fitting op
abbrev pub contents_after : Contents → StoreOp → Contents
contents_after contents op = after_births (after_edits contents (edits contents op)) (births op)

-- ---- the same for one cell

-- the edits of one cell, in order
abbrev pub edited_on : Cell → Option Content → List (Cell × Edit) → Option Content
edited_on cell content [] = content
edited_on cell content (e ∷ es) = edited_on cell (if is_eq (cell_cmp cell e.0) then edited_if_present e.1 content else content) es

abbrev pub born_on : Cell → Option Content → List (Cell × Content) → Option Content
born_on cell content [] = content
born_on cell content (b ∷ bs) = born_on cell (if is_eq (cell_cmp cell b.0) then born_if_absent b.1 content else content) bs

-- the content of one cell after a fitting op: what `contents_after` gives there
abbrev pub content_after : Contents → StoreOp → Cell → Option Content
content_after contents op cell = born_on cell (edited_on cell (contents cell) (edits contents op)) (births op)
