-- What the sets show, gfid by gfid: the contents of an object's three cells on all sets, beside its object.
use Rattle.std.proofs.Common.{◌≡◌, ◌≢◌, ◌⊎◌, inl, inr, ◌∙◌, ℕ, ◌<◌, ◌≤◌, Bool, true, false, List, [], Option, Some, None, length, refl, ap, sym, subst}
use Rattle.std.specs.List.{range_with_len}
use Rattle.std.specs.Ordering.{is_eq}
use Rattle.std.specs.declared.cmp.Ordering.{Ordering}
use Rattle.std.specs.declared.cmp.Ordering.TheVariants.{Less, Equal, Greater}
use Rattle.std.proofs.lemmas.Cmp.{tied_itself}
use Rattle.dht_fops.specs.Shown.{SetContents, Homes, file_of, directory_of, object_shown}
use Rattle.dht_fops.specs.Standing.{Volumes, AreSound}
use Rattle.fop_types.proofs.MapLemmas.{gfid_cmp_total, gfid_exact}
use Rattle.fop_types.specs.Cells.{data_cell, meta_cell, names_cell}
use Rattle.fop_types.specs.Files.{object_at}
use Rattle.fop_types.specs.Limits.{max_data}
use Rattle.fop_types.specs.Names.{is_link}
use Rattle.fop_types.specs.Orders.{gfid_cmp}
use Rattle.fop_types.specs.StoreOps.{items_of, is_removed, holds_bytes, holds_meta}
use Rattle.fop_types.specs.declared.cells.Cell.{Cell}
use Rattle.fop_types.specs.declared.cells.Gfid.{Gfid}
use Rattle.fop_types.specs.declared.cells.Kind.{Kind}
use Rattle.fop_types.specs.declared.cells.Kind.TheVariants as kind
use Rattle.fop_types.specs.declared.contents.Content.{Content}
use Rattle.fop_types.specs.declared.contents.Content.TheVariants.{Bytes}
use Rattle.fop_types.specs.declared.contents.Item.{Item}
use Rattle.fop_types.specs.declared.flat.FlatObject.{FlatObject}
use Rattle.mount_files.proofs.Families.{AreNamesSound, IsItemAt}
use Rattle.mount_files.proofs.Merges.{Family, over, over_is}
use Rattle.mount_files.proofs.Rises.{rise_once}
use Rattle.mount_files.specs.Showing.{ShownIsFlat}

-- ---- gfids

equal_is : (o : Ordering) → is_eq o ≡ true → o ≡ Equal
equal_is Less e = absurd cc
equal_is Equal e = refl
equal_is Greater e = absurd cc

pub gfid_is : (a b : Gfid) → (a ≡ b) ⊎ (a ≢ b)
gfid_is a b = by_case (is_eq (gfid_cmp a b)) refl
  where
    by_case : (x : Bool) → is_eq (gfid_cmp a b) ≡ x → (a ≡ b) ⊎ (a ≢ b)
    by_case true e = inl (gfid_exact a b (equal_is (gfid_cmp a b) e))
    by_case false e = inr (λ f. let yes : is_eq (gfid_cmp a b) ≡ true = subst (λ (g : Gfid). is_eq (gfid_cmp a g) ≡ true) f (ap is_eq (tied_itself gfid_cmp_total a)) in absurd cc)

-- ---- columns

-- the contents of one cell on all sets
abbrev pub Column : Type 0
Column = ℕ → Option Content

abbrev pub column : SetContents → Cell → Column
column contents cell set = contents set cell

abbrev pub items_in : Column → Family
items_in entry set = items_of (entry set)

abbrev pub names_in : ℕ → Column → List Item
names_in count entry = over (items_in entry) (range_with_len 0 count) []

abbrev pub shown_as : ℕ → Option Kind → Option Content → Option Content → Option Content → Column → Option FlatObject
shown_as count None body meta first entry = None
shown_as count (Some kind.File) body meta first entry = file_of body meta
shown_as count (Some kind.Dir) body meta first entry = directory_of first (is_removed (entry 0)) (names_in count entry)
shown_as count (Some kind.Link) body meta first entry = None

pub record ShownAt (kinds : Gfid → Option Kind) (homes : Homes) (count : ℕ) (k : Option Kind) (home : ℕ) (body meta entry : Column) (object : Option FlatObject) : Type 0 where
  pub object_is : object ≡ shown_as count k (body home) (meta home) (meta 0) entry
  pub directory : k ≡ Some kind.Dir → holds_meta (meta 0) ≡ true
  pub datas : k ≡ Some kind.File → holds_bytes (body home) ≡ true
  pub metas : k ≡ Some kind.File → holds_meta (meta home) ≡ true
  pub few : (bytes : List ℕ) → body home ≡ Some (Bytes bytes) → length bytes ≤ max_data
  pub names : AreNamesSound kinds homes count (is_removed (entry 0)) (items_in entry)
  pub marked : (set : ℕ) → 0 < set → is_removed (entry set) ≡ false
  pub orphan : k ≡ None → (set : ℕ) → items_of (entry set) ≡ []

abbrev pub ShownOf : Volumes → ℕ → Gfid → Type 0
ShownOf s count g = ShownAt s.kinds s.homes count (s.kinds g) (s.homes g) (column s.contents (data_cell g)) (column s.contents (meta_cell g)) (column s.contents (names_cell g)) (object_at s.files g)

abbrev pub AllShown : Volumes → ℕ → Type 0
AllShown s count = (g : Gfid) → ShownOf s count g

-- ---- and back

shown_is : (contents : SetContents) (homes : Homes) (count : ℕ) (g : Gfid) (k : Option Kind)
    → object_shown contents homes count g k ≡ shown_as count k (contents (homes g) (data_cell g)) (contents (homes g) (meta_cell g)) (contents 0 (meta_cell g)) (column contents (names_cell g))
shown_is contents homes count g None = refl
shown_is contents homes count g (Some kind.File) = refl
shown_is contents homes count g (Some kind.Dir) = ap (λ (names : List Item). directory_of (contents 0 (meta_cell g)) (is_removed (contents 0 (names_cell g))) names) (over_is contents g (range_with_len 0 count) [])
shown_is contents homes count g (Some kind.Link) = refl

pub to_local : (s : Volumes) (count : ℕ) → ShownIsFlat s count → AllShown s count
to_local s count f g = record {
  object_is = f.sound.shows.object g ∙ shown_is s.contents s.homes count g (s.kinds g);
  directory = f.sound.directories g;
  datas = f.sound.datas g;
  metas = f.sound.metas g;
  few = f.sound.few g;
  names = record {
    rising = f.rising g;
    alone = f.sound.alone g;
    empty = f.sound.empty g;
    made = λ n set item e l. record { made = f.sound.named g n set item e l; at_home = λ k. f.at_home g n set item e k; on_first = λ k. f.on_first g n set item e k };
    within = f.within g;
  };
  marked = f.sound.marked g;
  orphan = λ e set. f.orphans g set e;
}

pub from_local : (s : Volumes) (count : ℕ) → AllShown s count → ShownIsFlat s count
from_local s count all = record {
  sound = record {
    shows = record { object = λ g. (all g).object_is ∙ sym (shown_is s.contents s.homes count g (s.kinds g)) };
    directories = λ g. (all g).directory;
    datas = λ g. (all g).datas;
    metas = λ g. (all g).metas;
    few = λ g. (all g).few;
    once = λ g set. rise_once (items_of (s.contents set (names_cell g))) ((all g).names.rising set);
    alone = λ g. (all g).names.alone;
    empty = λ g. (all g).names.empty;
    named = λ g n set item e l. ((all g).names.made n set item e l).made;
    marked = λ g. (all g).marked;
  };
  rising = λ g set. (all g).names.rising set;
  at_home = λ g n set item e k. ((all g).names.made n set item e (ap is_link k)).at_home k;
  on_first = λ g n set item e k. ((all g).names.made n set item e (ap is_link k)).on_first k;
  within = λ g. (all g).names.within;
  orphans = λ g set e. (all g).orphan e set;
}

-- ---- the same with other columns

pub shown_with : (kinds : Gfid → Option Kind) (homes : Homes) (count : ℕ) (k : Option Kind) (home : ℕ) (body meta entry data2 meta2 entry2 : Column) (object object2 : Option FlatObject)
    → ShownAt kinds homes count k home body meta entry object → data2 ≡ body → meta2 ≡ meta → entry2 ≡ entry → object2 ≡ object → ShownAt kinds homes count k home data2 meta2 entry2 object2
shown_with kinds homes count k home body meta entry data2 meta2 entry2 object object2 a d m e o =
    subst (λ (x : Option FlatObject). ShownAt kinds homes count k home data2 meta2 entry2 x) (sym o)
    (subst (λ (x : Column). ShownAt kinds homes count k home data2 meta2 x object) (sym e)
    (subst (λ (x : Column). ShownAt kinds homes count k home data2 x entry object) (sym m)
    (subst (λ (x : Column). ShownAt kinds homes count k home x meta entry object) (sym d) a)))

-- the same after more objects were made
pub record Grows (kinds kinds2 : Gfid → Option Kind) (homes homes2 : Homes) : Type 0 where
  pub kind : (g : Gfid) (k : Kind) → kinds g ≡ Some k → kinds2 g ≡ Some k
  pub home : (g : Gfid) (k : Kind) → kinds g ≡ Some k → homes2 g ≡ homes g

pub names_grow : (kinds kinds2 : Gfid → Option Kind) (homes homes2 : Homes) (count : ℕ) (removed : Bool) (family : Family) → Grows kinds kinds2 homes homes2 → AreNamesSound kinds homes count removed family → AreNamesSound kinds2 homes2 count removed family
names_grow kinds kinds2 homes homes2 count removed family g a = record {
  rising = a.rising;
  alone = a.alone;
  empty = a.empty;
  made = λ n set item e l. grown set item (a.made n set item e l);
  within = a.within;
}
  where
    grown : (set : ℕ) (item : Item) → IsItemAt kinds homes set item → IsItemAt kinds2 homes2 set item
    grown set item i = record { made = g.kind item.gfid item.kind i.made; at_home = λ k. g.home item.gfid item.kind i.made ∙ i.at_home k; on_first = i.on_first }

pub shown_grows : (kinds kinds2 : Gfid → Option Kind) (homes homes2 : Homes) (count : ℕ) (k k2 : Option Kind) (home home2 : ℕ) (body meta entry : Column) (object : Option FlatObject) → Grows kinds kinds2 homes homes2 → k2 ≡ k → home2 ≡ home
    → ShownAt kinds homes count k home body meta entry object → ShownAt kinds2 homes2 count k2 home2 body meta entry object
shown_grows kinds kinds2 homes homes2 count k k2 home home2 body meta entry object g ke he a =
    subst (λ (x : Option Kind). ShownAt kinds2 homes2 count x home2 body meta entry object) (sym ke)
    (subst (λ (x : ℕ). ShownAt kinds2 homes2 count k x body meta entry object) (sym he)
    (record {
      object_is = a.object_is;
      directory = a.directory;
      datas = a.datas;
      metas = a.metas;
      few = a.few;
      names = names_grow kinds kinds2 homes homes2 count (is_removed (entry 0)) (items_in entry) g a.names;
      marked = a.marked;
      orphan = a.orphan;
    }))
