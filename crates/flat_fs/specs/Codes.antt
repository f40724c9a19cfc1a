-- A code of files, made of the codes of lists and numbers: by it a proof decides whether two are equal.
use Rattle.std.specs.Prelude.{ℕ, Bool, true, false, List, refl, ◌⊎◌, ◌≡◌}
use Rattle.std.specs.Coded.{Coded, code_by, coded×, coded⊎, coded_ℕ, coded_bool, coded_list}
use mathlib.Core.Logic.{inl, inr}
use Rattle.std.specs.FinMap as map
use Rattle.fop_types.specs.Calls.{Descriptor, Descriptors}
use Rattle.fop_types.specs.Files.{Files}
use Rattle.fop_types.specs.declared.cells.Gfid.{Gfid}
use Rattle.fop_types.specs.declared.cells.Kind.{Kind}
use Rattle.fop_types.specs.declared.cells.Kind.TheVariants as kind
use Rattle.fop_types.specs.declared.contents.Attr.{Attr}
use Rattle.fop_types.specs.declared.contents.Item.{Item}
use Rattle.fop_types.specs.declared.flat.FlatObject.{FlatObject}
use Rattle.fop_types.specs.declared.flat.FlatObject.TheVariants.{File, Directory}

abbrev pub gfid_code : Coded Gfid
gfid_code = code_by (ℕ × ℕ) (coded× coded_ℕ coded_ℕ) (λ g. (g.hi, g.lo)) (λ p. record { hi = p.0; lo = p.1 }) (λ _. refl)

abbrev kind_number : Kind → Bool × Bool
kind_number kind.File = (false, false)
kind_number kind.Dir = (true, false)
kind_number kind.Link = (false, true)

abbrev kind_of : Bool × Bool → Kind
kind_of (false, false) = kind.File
kind_of (true, b) = kind.Dir
kind_of (false, true) = kind.Link

pub kind_back : (k : Kind) → kind_of (kind_number k) ≡ k
kind_back kind.File = refl
kind_back kind.Dir = refl
kind_back kind.Link = refl

abbrev pub kind_code : Coded Kind
kind_code = code_by (Bool × Bool) (coded× coded_bool coded_bool) kind_number kind_of kind_back

abbrev bytes_code : Coded (List ℕ)
bytes_code = coded_list coded_ℕ

abbrev pub attr_code : Coded Attr
attr_code = code_by (List ℕ × List ℕ) (coded× bytes_code bytes_code) (λ a. (a.name, a.value)) (λ p. record { name = p.0; value = p.1 }) (λ _. refl)

abbrev pub item_code : Coded Item
item_code =
    code_by ((List ℕ × Gfid) × (Kind × List ℕ)) (coded× (coded× bytes_code gfid_code) (coded× kind_code bytes_code))
    (λ i. ((i.name, i.gfid), (i.kind, i.target))) (λ p. record { name = p.0.0; gfid = p.0.1; kind = p.1.0; target = p.1.1 }) (λ _. refl)

abbrev Parts : Type 0
Parts = (List ℕ × (ℕ × List Attr)) ⊎ ((List Item × ℕ) × (List Attr × Bool))

abbrev parts_of : FlatObject → Parts
parts_of (File bytes mode attrs) = inl (bytes, (mode, attrs))
parts_of (Directory names mode attrs removed) = inr ((names, mode), (attrs, removed))

abbrev object_of : Parts → FlatObject
object_of (inl p) = File p.0 p.1.0 p.1.1
object_of (inr p) = Directory p.0.0 p.0.1 p.1.0 p.1.1

pub object_back : (o : FlatObject) → object_of (parts_of o) ≡ o
object_back (File bytes mode attrs) = refl
object_back (Directory names mode attrs removed) = refl

abbrev pub object_code : Coded FlatObject
object_code =
    code_by Parts
    (coded⊎ (coded× bytes_code (coded× coded_ℕ (coded_list attr_code))) (coded× (coded× (coded_list item_code) coded_ℕ) (coded× (coded_list attr_code) coded_bool)))
    parts_of object_of object_back

abbrev pub files_code : Coded Files
files_code = map.code gfid_code object_code

abbrev pub descriptor_code : Coded Descriptor
descriptor_code = code_by (Gfid × ℕ) (coded× gfid_code coded_ℕ) (λ d. (d.file, d.offset)) (λ p. record { file = p.0; offset = p.1 }) (λ _. refl)

abbrev pub descriptors_code : Coded Descriptors
descriptors_code = map.code coded_ℕ descriptor_code
