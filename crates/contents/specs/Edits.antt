-- What each edit of a cell's content makes of it, in the words of store ops. An edit of another aspect than the
-- content's leaves it as it is.
use Rattle.std.specs.Prelude.{◌+◌, ◌≤◌, Bool, true, false, length}
use Rattle.fop_types.specs.FileBytes.{file_limit}
use Rattle.fop_types.specs.StoreOps.{edited}
use Rattle.fop_types.specs.StoreOps.Edit.{PutBytes, Resize, PutMode, PutAttr, DropAttr, PutItem, DropItem, MarkRemoved}
use Rattle.fop_types.specs.declared.contents.Content.{Content}
use Rattle.contents.specs.declared.edits.Edit.{Edit}
use Rattle.contents.specs.declared.edits.Edit.TheVariants as by

abbrev pub edited_by : Edit → Content → Content
edited_by (by.Write offset bytes) content = edited (PutBytes offset bytes) content
edited_by (by.Resize size) content = edited (Resize size) content
edited_by (by.SetMode mode) content = edited (PutMode mode) content
edited_by (by.PutAttr attr) content = edited (PutAttr attr) content
edited_by (by.DropAttr name) content = edited (DropAttr name) content
edited_by (by.PutItem item) content = edited (PutItem item) content
edited_by (by.DropItem name) content = edited (DropItem name) content
edited_by by.MarkRemoved content = edited MarkRemoved content
edited_by (by.Rename name item) content = edited (PutItem item) (edited (DropItem name) content)

-- an edit that needs no memory
abbrev pub is_sure : Edit → Bool
is_sure (by.Write offset bytes) = false
is_sure (by.Resize size) = false
is_sure (by.SetMode mode) = true
is_sure (by.PutAttr attr) = false
is_sure (by.DropAttr name) = true
is_sure (by.PutItem item) = false
is_sure (by.DropItem name) = true
is_sure by.MarkRemoved = true
is_sure (by.Rename name item) = false

-- an edit after which a file has at most 65,536 bytes
abbrev pub Fits : Edit → Type 0
Fits (by.Write offset bytes) = offset + length bytes ≤ file_limit
Fits (by.Resize size) = size ≤ file_limit
Fits (by.SetMode mode) = Unit {0}
Fits (by.PutAttr attr) = Unit {0}
Fits (by.DropAttr name) = Unit {0}
Fits (by.PutItem item) = Unit {0}
Fits (by.DropItem name) = Unit {0}
Fits by.MarkRemoved = Unit {0}
Fits (by.Rename name item) = Unit {0}
