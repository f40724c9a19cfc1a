-- The parsers of what a brick keeps.
use Rattle.std.specs.Prelude.{ℕ, zero, suc, ◌+◌, ◌-◌, ◌/◌, ◌%◌, ◌==◌, ◌&&◌, Bool, true, false, List, Option, Some, None, if◌then◌else◌}
use Rattle.fop_types.specs.Rank.{rank}
use Rattle.fop_types.specs.declared.cells.Gfid.{Gfid}
use Rattle.fop_types.specs.declared.cells.Aspect.{Aspect}
use Rattle.fop_types.specs.declared.cells.Aspect.TheVariants.{Data, Meta, Entry}
use Rattle.fop_types.specs.declared.cells.Cell.{Cell}
use Rattle.fop_types.specs.declared.cells.Kind.{Kind}
use Rattle.fop_types.specs.declared.cells.Kind.TheVariants.{File, Dir, Link}
use Rattle.fop_types.specs.declared.contents.Span.{Span}
use Rattle.fop_types.specs.declared.contents.Attr.{Attr}
use Rattle.fop_types.specs.declared.contents.Item.{Item}
use Rattle.fop_types.specs.declared.contents.Content.{Content}
use Rattle.fop_types.specs.declared.contents.Content.TheVariants as content
use Rattle.wire_xdr.specs.Limits.{max_hyper, min_attr_name, max_attr_name, max_attr_value, max_list, max_volume_name, max_item_name, max_mode, max_data}
use Rattle.wire_xdr.specs.code.Parsers.{Parser, done, chain, one, two, three, four, between_at, unit_at, flag_at, hyper_at, hyper_between, opaque_at, bytes_at, any_byte, list_at}
use Rattle.wire_xdr.specs.PartText.{is_name_byte, is_volume_byte}

abbrev pub gfid_of : ℕ → ℕ → Gfid
gfid_of hi lo = record { hi = hi; lo = lo }

abbrev pub gfid_at : Parser Gfid
gfid_at = two gfid_of hyper_at (λ hi. hyper_at)

abbrev pub aspect_of : ℕ → Aspect
aspect_of n = if n == 0 then Data else if n == 1 then Meta else Entry

abbrev pub cell_of : ℕ → ℕ → ℕ → Cell
cell_of hi lo n = record { gfid = gfid_of hi lo; aspect = aspect_of n }

-- a cell between two cells; a part of it is bounded only where the parts before it are those of the bound
abbrev pub lo_between : Gfid → Gfid → ℕ → Parser ℕ
lo_between low high hi = hyper_between (if hi == low.hi then low.lo else 0) (if hi == high.hi then high.lo else max_hyper)

abbrev pub least_rank : Cell → Gfid → ℕ
least_rank low g = if (g.hi == low.gfid.hi) && (g.lo == low.gfid.lo) then rank low.aspect else 0

abbrev pub most_rank : Cell → Gfid → ℕ
most_rank high g = if (g.hi == high.gfid.hi) && (g.lo == high.gfid.lo) then rank high.aspect else 2

abbrev pub cell_between : Cell → Cell → Parser Cell
cell_between low high =
    three cell_of (hyper_between low.gfid.hi high.gfid.hi) (λ hi. lo_between low.gfid high.gfid hi) (λ hi lo. between_at (least_rank low (gfid_of hi lo)) (most_rank high (gfid_of hi lo)))

abbrev pub first_cell : Cell
first_cell = record { gfid = gfid_of 0 0; aspect = Data }

-- the cell that this many cells follow, of which there are at most `max_index`
abbrev pub last_but : ℕ → Cell
last_but n = record { gfid = gfid_of max_hyper (max_hyper - n / 3); aspect = aspect_of (2 - n % 3) }

abbrev pub next_gfid : Gfid → Gfid
next_gfid g = if g.lo == max_hyper then (if g.hi == max_hyper then g else gfid_of (g.hi + 1) 0) else gfid_of g.hi (g.lo + 1)

abbrev pub after_aspect : Gfid → Aspect → Cell
after_aspect g Data = record { gfid = g; aspect = Meta }
after_aspect g Meta = record { gfid = g; aspect = Entry }
after_aspect g Entry = record { gfid = next_gfid g; aspect = Data }

-- the least cell that may follow
abbrev pub least_after : Option Cell → Cell
least_after None = first_cell
least_after (Some c) = after_aspect c.gfid c.aspect

abbrev pub cell_at : Parser Cell
cell_at = cell_between first_cell (last_but 0)

-- a cell of a list, from the one before it and the number of those after it
abbrev pub rising_cell : Option Cell → ℕ → Parser Cell
rising_cell earlier n = cell_between (least_after earlier) (last_but n)

abbrev pub cells_at : ℕ → ℕ → Parser (List Cell)
cells_at least most = list_at rising_cell least most

abbrev pub some_span : ℕ → ℕ → Option Span
some_span first last = Some (record { first = first; last = last })

abbrev pub span_arm_at : ℕ → Parser (Option Span)
span_arm_at n = if n == 1 then two some_span unit_at (λ first. unit_at) else done None

abbrev pub span_at : Parser (Option Span)
span_at = chain (between_at 0 1) span_arm_at

abbrev pub attr_of : List ℕ → List ℕ → Attr
attr_of name value = record { name = name; value = value }

abbrev pub attr_name : Option Attr → Option (List ℕ)
attr_name None = None
attr_name (Some a) = Some a.name

abbrev pub attr_name_at : Option (List ℕ) → Parser (List ℕ)
attr_name_at earlier = opaque_at any_byte earlier min_attr_name max_attr_name

-- an attribute after one of this name
abbrev pub attr_after : Option (List ℕ) → Parser Attr
attr_after earlier = two attr_of (attr_name_at earlier) (λ name. bytes_at max_attr_value)

abbrev pub attr_at : Option Attr → ℕ → Parser Attr
attr_at earlier n = attr_after (attr_name earlier)

abbrev pub attrs_at : Parser (List Attr)
attrs_at = list_at attr_at 0 max_list

abbrev pub kind_of : ℕ → Kind
kind_of n = if n == 0 then File else if n == 1 then Dir else Link

abbrev pub kind_at : Parser Kind
kind_at = one kind_of (between_at 0 2)

abbrev pub target_at : Kind → Parser (List ℕ)
target_at File = bytes_at 0
target_at Dir = bytes_at 0
target_at Link = opaque_at is_volume_byte None 1 max_volume_name

abbrev pub item_of : List ℕ → Gfid → Kind → List ℕ → Item
item_of name gfid kind target = record { name = name; gfid = gfid; kind = kind; target = target }

abbrev pub item_name : Option Item → Option (List ℕ)
item_name None = None
item_name (Some i) = Some i.name

abbrev pub item_name_at : Option (List ℕ) → Parser (List ℕ)
item_name_at earlier = opaque_at is_name_byte earlier 1 max_item_name

-- an item after one of this name
abbrev pub item_after : Option (List ℕ) → Parser Item
item_after earlier = four item_of (item_name_at earlier) (λ name. gfid_at) (λ name gfid. kind_at) (λ name gfid kind. target_at kind)

abbrev pub item_at : Option Item → ℕ → Parser Item
item_at earlier n = item_after (item_name earlier)

abbrev pub items_of_directory_at : Parser (List Item)
items_of_directory_at = list_at item_at 0 max_list

abbrev pub mode_at : Parser ℕ
mode_at = between_at 0 max_mode

abbrev pub content_arm_at : ℕ → Parser Content
content_arm_at n =
    if n == 0 then one content.Bytes (bytes_at max_data)
    else if n == 1 then three content.Meta mode_at (λ mode. attrs_at) (λ mode attrs. span_at)
    else two content.Names flag_at (λ removed. items_of_directory_at)

-- a content whose kind is between two numbers
abbrev pub content_at : ℕ → ℕ → Parser Content
content_at least most = chain (between_at least most) content_arm_at
