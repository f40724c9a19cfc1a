-- The encoding of what a brick keeps: gfids, cells, ranges of hashes, attributes, names and contents; and
-- which of them have one.
use Rattle.std.specs.List.{list_all}
use Rattle.std.specs.Prelude.{◌≡◌, ℕ, ◌≤◌, ◌<◌, ◌^◌, ◌==◌, ◌&&◌, ◌||◌, not, Bool, true, false, List, [], ◌∷◌, ◌++◌, length, Option, Some, None}
use Rattle.std.specs.declared.cmp.Ordering.{Ordering}
use Rattle.std.specs.Ordering.{nat_cmp}
use Rattle.std.specs.Cmp.Lexicographic.{slice_cmp}
use Rattle.fop_types.specs.Rank.{rank}
use Rattle.fop_types.specs.Orders.{cell_cmp}
use Rattle.fop_types.specs.declared.cells.Gfid.{Gfid}
use Rattle.fop_types.specs.declared.cells.Aspect.{Aspect}
use Rattle.fop_types.specs.declared.cells.Aspect.TheVariants.{Data, Meta, Entry}
use Rattle.fop_types.specs.declared.cells.Cell.{Cell}
use Rattle.fop_types.specs.declared.cells.Kind.{Kind}
use Rattle.fop_types.specs.declared.cells.Kind.TheVariants.{File, Dir, Link}
use Rattle.fop_types.specs.declared.contents.Span.{Span}
use Rattle.fop_types.specs.declared.contents.Attr.{Attr}
use Rattle.fop_types.specs.declared.contents.Item.{Item}
use Rattle.fop_types.specs.declared.contents.Content.{Content}
use Rattle.fop_types.specs.declared.contents.Content.TheVariants as content
use Rattle.wire_xdr.specs.Limits.{min_attr_name, max_attr_name, max_attr_value, max_list, max_item_name, max_volume_name, max_mode, max_data, is_between}
use Rattle.wire_xdr.specs.Xdr.{unit, hyper, flag, opaque, list, IsUnit, IsHyper}
use Rattle.wire_xdr.specs.Order.{Each, Rises}
pub use Rattle.fop_types.specs.Bounds.{IsGfid, IsCell, AreCells, IsSpan, IsAttrName, IsAttr, attr_cmp, AreAttrs, is_name_byte, is_volume_byte, IsItemName, IsTarget, IsItem, item_cmp, AreItems, content_kind, IsMode, IsContent}

abbrev pub gfid_text : Gfid → List ℕ
gfid_text g = hyper g.hi ++ hyper g.lo

abbrev pub cell_text : Cell → List ℕ
cell_text c = gfid_text c.gfid ++ unit (rank c.aspect)

-- a range of hashes, where there is one
abbrev pub span_text : Option Span → List ℕ
span_text None = unit 0
span_text (Some s) = unit 1 ++ (unit s.first ++ unit s.last)

abbrev pub attr_text : Attr → List ℕ
attr_text a = opaque a.name ++ opaque a.value

abbrev pub kind_number : Kind → ℕ
kind_number File = 0
kind_number Dir = 1
kind_number Link = 2

abbrev pub item_text : Item → List ℕ
item_text i = opaque i.name ++ (gfid_text i.gfid ++ (unit (kind_number i.kind) ++ opaque i.target))

abbrev pub content_arm : Content → List ℕ
content_arm (content.Bytes bytes) = opaque bytes
content_arm (content.Meta mode attrs span) = unit mode ++ (list attr_text attrs ++ span_text span)
content_arm (content.Names removed items) = flag removed ++ list item_text items

abbrev pub content_text : Content → List ℕ
content_text c = unit (content_kind c) ++ content_arm c
