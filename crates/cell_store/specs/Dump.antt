-- The text in which a brick shows what replicate and distribute keep on its objects: by rising gfid, a line for each
-- attribute that is not zero, and one for each link. After `getfattr` of a brick's files in GlusterFS.
use Rattle.std.specs.Prelude.{ℕ, ◌+◌, ◌/◌, ◌%◌, ◌==◌, ◌&&◌, Bool, false, List, [], ◌∷◌, ◌++◌, Option, Some, None, codes, flat_map, slice_get, slice_index, if◌then◌else◌}
use Rattle.std.specs.Fmt.{digit_glyph}
use Rattle.std.specs.Int.{w64, to_be_bytes}
use Rattle.fop_types.specs.Cells.{data_cell, meta_cell, names_cell}
use Rattle.fop_types.specs.Names.{is_link}
use Rattle.fop_types.specs.declared.cells.Gfid.{Gfid}
use Rattle.fop_types.specs.declared.contents.Content.{Content}
use Rattle.fop_types.specs.declared.contents.Content.TheVariants.{Bytes, Meta, Names}
use Rattle.fop_types.specs.declared.contents.Item.{Item}
use Rattle.fop_types.specs.declared.contents.Row.{Row}
use Rattle.fop_types.specs.declared.contents.Span.{Span}
use Rattle.afr_changelog.specs.Bytes.{encoded}
use Rattle.cell_store.specs.Cells.{Cells, kept_at, row_of, contents_of}

-- a byte, and each of some, as two hexadecimal digits
abbrev pub byte_hex : ℕ → List ℕ
byte_hex byte = digit_glyph false (byte / 16) ∷ digit_glyph false (byte % 16) ∷ []

unfoldable pub hex : List ℕ → List ℕ
hex bytes = flat_map byte_hex bytes

unfoldable pub gfid_text : Gfid → List ℕ
gfid_text gfid = hex (to_be_bytes w64 gfid.hi) ++ hex (to_be_bytes w64 gfid.lo)

-- ---- lines

-- a line of an attribute: the object, the name of the attribute in two parts, and its value
unfoldable pub attribute_line : Gfid → List ℕ → List ℕ → List ℕ → List ℕ
attribute_line gfid space name value = gfid_text gfid ++ space ++ name ++ codes " " ++ hex value ++ codes "\n"

-- counters of data, metadata and entries, where one is not zero
abbrev pub are_zero : ℕ → ℕ → ℕ → Bool
are_zero of_data of_meta of_names = (of_data == 0) && ((of_meta == 0) && (of_names == 0))

unfoldable pub counters_line : Gfid → List ℕ → ℕ → ℕ → ℕ → List ℕ
counters_line gfid name of_data of_meta of_names =
    if are_zero of_data of_meta of_names then [] else attribute_line gfid (codes " trusted.afr.") name (encoded (of_data ∷ of_meta ∷ of_names ∷ []))

-- the range of a directory's copy: the numbers 1, 0, first and last
abbrev pub span_line : Gfid → Option Span → List ℕ
span_line gfid None = []
span_line gfid (Some span) = attribute_line gfid (codes " trusted.glusterfs.") (codes "dht") (encoded (1 ∷ 0 ∷ span.first ∷ span.last ∷ []))

-- a line of words
unfoldable pub words_line : Gfid → List ℕ → List ℕ → List ℕ → List ℕ → List ℕ
words_line gfid a b c d = gfid_text gfid ++ a ++ b ++ c ++ d ++ codes "\n"

-- a link, as the file that is kept for it: empty, with mode 01000 and the name of the set that it points to
unfoldable pub item_line : Gfid → Item → List ℕ
item_line parent item =
    if is_link item.kind then words_line parent (codes "/") item.name (codes " 01000 trusted.glusterfs.dht.linkto ") item.target else []

abbrev pub content_lines : Gfid → Option Content → List ℕ
content_lines gfid None = []
content_lines gfid (Some (Bytes bytes)) = []
content_lines gfid (Some (Meta mode attrs span)) = span_line gfid span
content_lines gfid (Some (Names removed items)) = flat_map (item_line gfid) items

-- ---- objects

-- the name of a replica, its number where none was bound
abbrev pub name_or_number : ℕ → Option (List ℕ) → List ℕ
name_or_number replica None = (48 + replica) ∷ []
name_or_number replica (Some name) = name

abbrev pub replica_line : List (List ℕ) → Gfid → Row → Row → Row → ℕ → List ℕ
replica_line names gfid of_data of_meta of_names replica =
    counters_line gfid (name_or_number replica (slice_get names replica)) (slice_index of_data.pending replica) (slice_index of_meta.pending replica) (slice_index of_names.pending replica)

unfoldable pub rows_lines : List (List ℕ) → Gfid → Row → Row → Row → List ℕ
rows_lines names gfid of_data of_meta of_names =
    counters_line gfid (codes "dirty") of_data.dirty of_meta.dirty of_names.dirty
    ++ replica_line names gfid of_data of_meta of_names 0 ++ replica_line names gfid of_data of_meta of_names 1 ++ replica_line names gfid of_data of_meta of_names 2
    ++ replica_line names gfid of_data of_meta of_names 3 ++ replica_line names gfid of_data of_meta of_names 4

unfoldable pub object_lines : List (List ℕ) → Cells → Gfid → List ℕ
object_lines names cells gfid =
    rows_lines names gfid (row_of (kept_at cells (data_cell gfid))) (row_of (kept_at cells (meta_cell gfid))) (row_of (kept_at cells (names_cell gfid)))
    ++ content_lines gfid (contents_of cells (meta_cell gfid)) ++ content_lines gfid (contents_of cells (names_cell gfid))

-- whether a gfid is that of the object that was shown last
abbrev pub is_shown : Option Gfid → Gfid → Bool
is_shown None gfid = false
is_shown (Some last) gfid = (last.hi == gfid.hi) && (last.lo == gfid.lo)

-- the objects of entries, each once
abbrev pub lines_from : List (List ℕ) → Cells → Option Gfid → Cells → List ℕ
lines_from names cells last [] = []
lines_from names cells last (e ∷ es) =
    if is_shown last e.0.gfid then lines_from names cells last es else object_lines names cells e.0.gfid ++ lines_from names cells (Some e.0.gfid) es

-- the whole text, under the names of the replicas in their order
abbrev pub dumped : List (List ℕ) → Cells → List ℕ
dumped names cells = lines_from names cells None cells
