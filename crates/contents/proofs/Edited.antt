-- Names that rise do so after each edit.
use Rattle.std.proofs.Common.{◌≡◌, ◌∙◌, true, sym, subst, Bool}
use Rattle.fop_types.specs.declared.contents.Content.{Content}
use Rattle.fop_types.specs.declared.contents.Content.TheVariants.{Bytes, Meta, Names}
use Rattle.contents.specs.Edits.{edited_by}
use Rattle.contents.specs.Rising.{IsRising, is_rising, attr_names, item_names}
use Rattle.contents.specs.declared.edits.Edit.{Edit}
use Rattle.contents.specs.declared.edits.Edit.TheVariants as by
use Rattle.fop_types.specs.Names.{without_item}
use Rattle.contents.proofs.RisingNames.{looked_at}
use Rattle.contents.proofs.Orders.{item_in_rises, item_out_rises, attr_in_rises, attr_out_rises}

pub edited_rises : (edit : Edit) (content : Content) → IsRising content → IsRising (edited_by edit content)
edited_rises (by.Write offset bytes) (Bytes old) h = tt
edited_rises (by.Write offset bytes) (Meta mode attrs span) h = h
edited_rises (by.Write offset bytes) (Names removed items) h = h
edited_rises (by.Resize size) (Bytes old) h = tt
edited_rises (by.Resize size) (Meta mode attrs span) h = h
edited_rises (by.Resize size) (Names removed items) h = h
edited_rises (by.SetMode new) (Bytes old) h = tt
edited_rises (by.SetMode new) (Meta mode attrs span) h = h
edited_rises (by.SetMode new) (Names removed items) h = h
edited_rises (by.PutAttr attr) (Bytes old) h = tt
edited_rises (by.PutAttr attr) (Meta mode attrs span) h = attr_in_rises attrs attr h
edited_rises (by.PutAttr attr) (Names removed items) h = h
edited_rises (by.DropAttr name) (Bytes old) h = tt
edited_rises (by.DropAttr name) (Meta mode attrs span) h = attr_out_rises attrs name h
edited_rises (by.DropAttr name) (Names removed items) h = h
edited_rises (by.PutItem item) (Bytes old) h = tt
edited_rises (by.PutItem item) (Meta mode attrs span) h = h
edited_rises (by.PutItem item) (Names removed items) h = item_in_rises items item h
edited_rises (by.DropItem name) (Bytes old) h = tt
edited_rises (by.DropItem name) (Meta mode attrs span) h = h
edited_rises (by.DropItem name) (Names removed items) h = item_out_rises items name h
edited_rises by.MarkRemoved (Bytes old) h = tt
edited_rises by.MarkRemoved (Meta mode attrs span) h = h
edited_rises by.MarkRemoved (Names removed items) h = h
edited_rises (by.Rename name item) (Bytes old) h = tt
edited_rises (by.Rename name item) (Meta mode attrs span) h = h
edited_rises (by.Rename name item) (Names removed items) h = item_in_rises (without_item items name) item (item_out_rises items name h)

pub content_rises : (content : Content) → is_rising content ≡ true → IsRising content
content_rises (Bytes bytes) h = tt
content_rises (Meta mode attrs span) h = looked_at (attr_names attrs) h
content_rises (Names removed items) h = looked_at (item_names items) h
