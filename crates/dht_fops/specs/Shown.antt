-- The one file system that the contents of all sets show. A directory's mode, attributes and removed mark are those of its
-- copy on the first set, and its names those of its copies on all sets, links left out; a file's bytes, mode and attributes
-- are those on the set that is its home.
use Rattle.std.specs.Prelude.{◌≡◌, ℕ, Bool, List, [], ◌∷◌, Option, Some, None}
use Rattle.std.specs.List.{range_with_len}
use Rattle.dht_fops.specs.Merges.{merged, real_items}
use Rattle.fop_types.specs.Cells.{data_cell, meta_cell, names_cell}
use Rattle.fop_types.specs.Files.{Files, object_at}
use Rattle.fop_types.specs.StoreOps.{Contents, items_of, is_removed}
use Rattle.fop_types.specs.declared.cells.Gfid.{Gfid}
use Rattle.fop_types.specs.declared.cells.Kind.{Kind}
use Rattle.fop_types.specs.declared.cells.Kind.TheVariants as kind
use Rattle.fop_types.specs.declared.contents.Content.{Content}
use Rattle.fop_types.specs.declared.contents.Content.TheVariants.{Bytes, Meta}
use Rattle.fop_types.specs.declared.contents.Item.{Item}
use Rattle.fop_types.specs.declared.flat.FlatObject.{FlatObject}
use Rattle.fop_types.specs.declared.flat.FlatObject.TheVariants.{File, Directory}

-- the contents by set and cell, and the set of each file
abbrev pub SetContents : Type 0
SetContents = ℕ → Contents

abbrev pub Homes : Type 0
Homes = Gfid → ℕ

-- a directory's names on these sets, with those so far
abbrev pub names_over : SetContents → Gfid → List ℕ → List Item → List Item
names_over contents dir [] names = names
names_over contents dir (set ∷ sets) names =
    names_over contents dir sets (merged names (real_items (items_of (contents set (names_cell dir)))))

abbrev pub file_of : Option Content → Option Content → Option FlatObject
file_of (Some (Bytes bytes)) (Some (Meta mode attrs span)) = Some (File bytes mode attrs)
file_of bytes meta = None

abbrev pub directory_of : Option Content → Bool → List Item → Option FlatObject
directory_of (Some (Meta mode attrs span)) removed names = Some (Directory names mode attrs removed)
directory_of meta removed names = None

-- an object of this kind; none that was not made, and no link
abbrev pub object_shown : SetContents → Homes → ℕ → Gfid → Option Kind → Option FlatObject
object_shown contents homes count gfid None = None
object_shown contents homes count gfid (Some kind.File) = file_of (contents (homes gfid) (data_cell gfid)) (contents (homes gfid) (meta_cell gfid))
object_shown contents homes count gfid (Some kind.Dir) =
    directory_of (contents 0 (meta_cell gfid)) (is_removed (contents 0 (names_cell gfid))) (names_over contents gfid (range_with_len 0 count) [])
object_shown contents homes count gfid (Some kind.Link) = None

-- the sets together show these files; `kinds` says which objects were made
pub record Shows (contents : SetContents) (homes : Homes) (kinds : Gfid → Option Kind) (count : ℕ) (files : Files) : Type 0 where
  pub object : (gfid : Gfid) → object_at files gfid ≡ object_shown contents homes count gfid (kinds gfid)
