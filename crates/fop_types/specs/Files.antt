-- The flat file system's files: one finite map from gfid to object, as a mount without sets, bricks and links
-- would keep it.
use Rattle.std.specs.Prelude.{ℕ, true, false, List, [], Option, Some, None}
use Rattle.std.specs.FinMap.{FinMap, get, insert, empty}
use Rattle.fop_types.specs.Cells.{root}
use Rattle.fop_types.specs.Orders.{gfid_cmp}
use Rattle.fop_types.specs.declared.cells.Gfid.{Gfid}
use Rattle.fop_types.specs.declared.contents.Attr.{Attr}
use Rattle.fop_types.specs.declared.contents.Item.{Item}
use Rattle.fop_types.specs.declared.flat.FlatObject.{FlatObject}
use Rattle.fop_types.specs.declared.flat.FlatObject.TheVariants.{File, Directory}

abbrev pub Files : Type 0
Files = FinMap gfid_cmp FlatObject

abbrev pub object_at : Files → Gfid → Option FlatObject
object_at files gfid = get files gfid

-- the map with this object at this gfid
abbrev pub with_object : Files → Gfid → FlatObject → Files
with_object files gfid object = insert files gfid object

abbrev pub new_file : ℕ → FlatObject
new_file mode = File [] mode []

abbrev pub new_directory : ℕ → FlatObject
new_directory mode = Directory [] mode [] false

-- the start: the root alone, empty, with mode 755 octal
abbrev pub first_files : Files
first_files = with_object empty root (new_directory 493)

abbrev pub names_of : Option FlatObject → List Item
names_of None = []
names_of (Some (File bytes mode attrs)) = []
names_of (Some (Directory names mode attrs removed)) = names

abbrev pub names_at : Files → Gfid → List Item
names_at files gfid = names_of (object_at files gfid)

-- ---- one part of an object replaced

abbrev pub object_with_names : FlatObject → List Item → FlatObject
object_with_names (File bytes mode attrs) new = File bytes mode attrs
object_with_names (Directory names mode attrs removed) new = Directory new mode attrs removed

abbrev pub object_removed : FlatObject → FlatObject
object_removed (File bytes mode attrs) = File bytes mode attrs
object_removed (Directory names mode attrs removed) = Directory names mode attrs true

abbrev pub object_with_bytes : FlatObject → List ℕ → FlatObject
object_with_bytes (File bytes mode attrs) new = File new mode attrs
object_with_bytes (Directory names mode attrs removed) new = Directory names mode attrs removed

abbrev pub object_with_mode : FlatObject → ℕ → FlatObject
object_with_mode (File bytes mode attrs) new = File bytes new attrs
object_with_mode (Directory names mode attrs removed) new = Directory names new attrs removed

abbrev pub object_with_attrs : FlatObject → List Attr → FlatObject
object_with_attrs (File bytes mode attrs) new = File bytes mode new
object_with_attrs (Directory names mode attrs removed) new = Directory names mode new removed

abbrev pub object_attrs : FlatObject → List Attr
object_attrs (File bytes mode attrs) = attrs
object_attrs (Directory names mode attrs removed) = attrs

-- the map with other names in a directory that is there
abbrev pub with_names_in : Files → Gfid → Option FlatObject → List Item → Files
with_names_in files gfid None names = files
with_names_in files gfid (Some object) names = with_object files gfid (object_with_names object names)

abbrev pub with_names : Files → Gfid → List Item → Files
with_names files gfid names = with_names_in files gfid (object_at files gfid) names

-- the map with a directory that is there marked removed
abbrev pub with_removed_in : Files → Gfid → Option FlatObject → Files
with_removed_in files gfid None = files
with_removed_in files gfid (Some object) = with_object files gfid (object_removed object)

abbrev pub with_removed : Files → Gfid → Files
with_removed files gfid = with_removed_in files gfid (object_at files gfid)
