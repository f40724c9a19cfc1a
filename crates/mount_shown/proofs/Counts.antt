-- The same files on more sets, or on fewer where nothing is on the others.
use Rattle.std.proofs.Common.{◌≡◌, ◌∙◌, ℕ, ◌+◌, ◌<◌, ◌≤◌, zero, suc, Bool, true, false, List, [], Option, Some, None, refl, ap, sym, arith}
use Rattle.std.proofs.Common.{nat_lt}
use Rattle.std.proofs.lemmas.Bool.{ltb-true, ltb-false}
use Rattle.std.specs.List.{range_with_len}
use Rattle.fop_types.specs.Cells.{names_cell}
use Rattle.fop_types.specs.Names.{item_named}
use Rattle.fop_types.specs.StoreOps.{items_of, is_removed, is_taken}
use Rattle.fop_types.specs.declared.cells.Gfid.{Gfid}
use Rattle.fop_types.specs.declared.cells.Kind.{Kind}
use Rattle.fop_types.specs.declared.cells.Kind.TheVariants as kind
use Rattle.fop_types.specs.declared.contents.Content.{Content}
use Rattle.fop_types.specs.declared.contents.Item.{Item}
use Rattle.fop_types.specs.declared.flat.FlatObject.{FlatObject}
use Rattle.dht_fops.specs.Shown.{Homes, directory_of}
use Rattle.mount_files.proofs.Families.{real_none, untaken_by}
use Rattle.mount_files.proofs.Local.{Column, column, items_in, names_in, shown_as, ShownAt, ShownOf, to_local, from_local}
use Rattle.mount_files.proofs.Merges.{over_rises, over_named, real_at, or_else, last_of}
use Rattle.mount_files.proofs.Rises.{IsRising, none_rises, same_items}
use Rattle.mount_laws.specs.Objects.{volumes}
use Rattle.mount_shown.specs.Bridge.{MoreSetsShow, FirstSetsShow}

-- ---- the last of what sets have

last_above : (a : ℕ → Option Item) (many first : ℕ) (so_far : Option Item) → ((set : ℕ) → first ≤ set → a set ≡ None) → last_of a (range_with_len first many) so_far ≡ so_far
last_above a zero first so_far none = refl
last_above a (suc many) first so_far none =
    ap (λ (t : Option Item). last_of a (range_with_len (first + 1) many) (or_else t so_far)) (none first (let same : first ≤ first = omega arith in same))
    ∙ last_above a many (first + 1) so_far (λ set h. none set (omega (arith, h)))

last_more : (a : ℕ → Option Item) (few many first : ℕ) (so_far : Option Item) → few ≤ many → ((set : ℕ) → first + few ≤ set → a set ≡ None) → last_of a (range_with_len first many) so_far ≡ last_of a (range_with_len first few) so_far
last_more a zero many first so_far h none = last_above a many first so_far (λ set k. none set (omega (arith, k)))
last_more a (suc few) zero first so_far h none = absurd (omega (arith, h))
last_more a (suc few) (suc many) first so_far h none = last_more a few many (first + 1) (or_else (a first) so_far) (omega (arith, h)) (λ set k. none set (omega (arith, k)))

names_more : (entry : Column) (few many : ℕ) → few ≤ many → ((set : ℕ) → IsRising (items_in entry set)) → ((n : List ℕ) (set : ℕ) → few ≤ set → is_taken (item_named (items_in entry set) n) ≡ false) → names_in many entry ≡ names_in few entry
names_more entry few many h rising free =
    same_items (names_in many entry) (names_in few entry) (over_rises (items_in entry) (range_with_len 0 many) [] rising none_rises) (over_rises (items_in entry) (range_with_len 0 few) [] rising none_rises)
    (λ n.
    over_named (items_in entry) (range_with_len 0 many) [] n rising
    ∙ last_more (real_at (items_in entry) n) few many 0 None h (λ set k. real_none (item_named (items_in entry set) n) (free n set (omega (arith, k))))
    ∙ sym (over_named (items_in entry) (range_with_len 0 few) [] n rising))

object_more : (few many : ℕ) (k : Option Kind) (body meta first : Option Content) (entry : Column) → names_in many entry ≡ names_in few entry → shown_as few k body meta first entry ≡ shown_as many k body meta first entry
object_more few many None body meta first entry e = refl
object_more few many (Some kind.File) body meta first entry e = refl
object_more few many (Some kind.Dir) body meta first entry e = ap (λ (names : List Item). directory_of first (is_removed (entry 0)) names) (sym e)
object_more few many (Some kind.Link) body meta first entry e = refl

-- ---- both ways

counted : (kinds : Gfid → Option Kind) (homes : Homes) (one other : ℕ) (k : Option Kind) (home : ℕ) (body meta entry : Column) (object : Option FlatObject) → ShownAt kinds homes one k home body meta entry object
    → names_in one entry ≡ names_in other entry → ((n : List ℕ) (set : ℕ) → is_taken (item_named (items_in entry set) n) ≡ true → set < other) → ShownAt kinds homes other k home body meta entry object
counted kinds homes one other k home body meta entry object a e within = record {
  object_is = a.object_is ∙ object_more one other k (body home) (meta home) (meta 0) entry (sym e);
  directory = a.directory;
  datas = a.datas;
  metas = a.metas;
  few = a.few;
  names = record { rising = a.names.rising; alone = a.names.alone; empty = a.names.empty; made = a.names.made; within = within };
  marked = a.marked;
  orphan = a.orphan;
}

pub more_sets : MoreSetsShow
more_sets s few many h flat = from_local s many (λ g. more g)
  where
    more : (g : Gfid) → ShownOf s many g
    more g =
        let a = to_local s few flat g in
        counted s.kinds s.homes few many (s.kinds g) (s.homes g) _ _ (column s.contents (names_cell g)) _ a
        (sym (names_more (column s.contents (names_cell g)) few many h a.names.rising (λ n set k. untaken_by _ (λ t. let low = a.names.within n set t in absurd (omega (arith, k, low))))))
        (λ n set t. let low = a.names.within n set t in omega (arith, h, low))

pub first_sets : FirstSetsShow
first_sets m count many beyond h flat = from_local (volumes m) count (λ g. less g)
  where
    free : (g : Gfid) (n : List ℕ) (set : ℕ) → count ≤ set → is_taken (item_named (items_of (m.adopted set (names_cell g))) n) ≡ false
    free g n set k = ap (λ (items : List Item). is_taken (item_named items n)) (beyond.no_names set g k)

    below : (g : Gfid) (n : List ℕ) (set : ℕ) (b : Bool) → nat_lt set count ≡ b → is_taken (item_named (items_of (m.adopted set (names_cell g))) n) ≡ true → set < count
    below g n set true e t = ltb-true set count e
    below g n set false e t = let no = free g n set (let high = ltb-false set count e in omega arith) in absurd cc

    less : (g : Gfid) → ShownOf (volumes m) count g
    less g =
        let a = to_local (volumes m) many flat g in
        counted m.kinds m.homes many count (m.kinds g) (m.homes g) _ _ (column m.adopted (names_cell g)) _ a
        (names_more (column m.adopted (names_cell g)) count many h a.names.rising (free g))
        (λ n set t. below g n set (nat_lt set count) refl t)
