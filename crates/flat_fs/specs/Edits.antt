-- The edits of one object of the flat file system: what each makes of the object, and of the files where the object
-- is there.
use Rattle.std.specs.Prelude.{ℕ, ◌+◌, ◌≤◌, List, [], Option, Some, None, length}
use Rattle.fop_types.specs.FileBytes.{file_limit, written, resized}
use Rattle.fop_types.specs.Files.{Files, object_at, with_object, names_of, object_with_names, object_removed, object_with_bytes, object_with_mode, object_with_attrs, object_attrs}
use Rattle.fop_types.specs.Names.{with_item, without_item, with_attr, without_attr}
use Rattle.fop_types.specs.declared.cells.Gfid.{Gfid}
use Rattle.fop_types.specs.declared.flat.FlatObject.{FlatObject}
use Rattle.fop_types.specs.declared.flat.FlatObject.TheVariants.{File, Directory}
use Rattle.flat_fs.specs.declared.edits.Edit.{Edit}
use Rattle.flat_fs.specs.declared.edits.Edit.TheVariants.{PutItem, DropItem, MarkRemoved, SetMode, PutAttr, DropAttr, Write, Resize}

-- a file has at most 65,536 bytes
abbrev pub IsSmall : FlatObject → Type 0
IsSmall (File bytes mode attrs) = length bytes ≤ file_limit
IsSmall (Directory names mode attrs removed) = Unit {0}

abbrev pub IsSmallIfThere : Option FlatObject → Type 0
IsSmallIfThere None = Unit {0}
IsSmallIfThere (Some object) = IsSmall object

abbrev pub bytes_of : FlatObject → List ℕ
bytes_of (File bytes mode attrs) = bytes
bytes_of (Directory names mode attrs removed) = []

-- an edit after which a file has at most 65,536 bytes
abbrev pub Fits : Edit → Type 0
Fits (PutItem item) = Unit {0}
Fits (DropItem name) = Unit {0}
Fits MarkRemoved = Unit {0}
Fits (SetMode mode) = Unit {0}
Fits (PutAttr attr) = Unit {0}
Fits (DropAttr name) = Unit {0}
Fits (Write offset bytes) = offset + length bytes ≤ file_limit
Fits (Resize size) = size ≤ file_limit

-- an edit of a part that the object lacks leaves it as it is
abbrev pub edited : Edit → FlatObject → FlatObject
edited (PutItem item) object = object_with_names object (with_item (names_of (Some object)) item)
edited (DropItem name) object = object_with_names object (without_item (names_of (Some object)) name)
edited MarkRemoved object = object_removed object
edited (SetMode mode) object = object_with_mode object mode
edited (PutAttr attr) object = object_with_attrs object (with_attr (object_attrs object) attr)
edited (DropAttr name) object = object_with_attrs object (without_attr (object_attrs object) name)
edited (Write offset bytes) object = object_with_bytes object (written (bytes_of object) offset bytes)
edited (Resize size) object = object_with_bytes object (resized (bytes_of object) size)

abbrev pub edited_in : Files → Gfid → Edit → Option FlatObject → Files
edited_in files gfid edit None = files
edited_in files gfid edit (Some object) = with_object files gfid (edited edit object)

-- the files where that object, if it is there, is edited
abbrev pub edited_at : Files → Gfid → Edit → Files
edited_at files gfid edit = edited_in files gfid edit (object_at files gfid)
