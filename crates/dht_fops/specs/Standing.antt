-- What a fop was handed in, against what the sets have now.
use Rattle.std.specs.Prelude.{◌≡◌, ℕ, ◌<◌, ◌≤◌, length, Bool, true, false, List, [], ◌∷◌, Option, Some, None}
use Rattle.dht_fops.specs.Handed.{Handed, Event}
use Rattle.dht_fops.specs.Handed.Event.{Replied, Held}
use Rattle.dht_fops.specs.Shown.{SetContents, Homes, Shows}
use Rattle.fop_types.specs.Cells.{data_cell, meta_cell, names_cell}
use Rattle.fop_types.specs.Files.{Files}
use Rattle.fop_types.specs.Jobs.{may_lack}
use Rattle.fop_types.specs.Names.{item_named, is_link}
use Rattle.fop_types.specs.StoreOps.{Contents, items_of, is_removed, is_taken, item_in, holds_bytes, holds_meta}
use Rattle.fop_types.specs.declared.cells.Cell.{Cell}
use Rattle.fop_types.specs.declared.cells.Gfid.{Gfid}
use Rattle.fop_types.specs.declared.cells.Kind.{Kind}
use Rattle.fop_types.specs.declared.cells.Kind.TheVariants as kind
use Rattle.fop_types.specs.declared.contents.Content.{Content}
use Rattle.fop_types.specs.declared.contents.Content.TheVariants.{Bytes}
use Rattle.fop_types.specs.Limits.{max_data}
use Rattle.fop_types.specs.declared.contents.Item.{Item}
use Rattle.fop_types.specs.declared.fops.Object.{Object}
use Rattle.fop_types.specs.declared.jobs.Job.TheVariants as job
use Rattle.fop_types.specs.declared.jobs.SetReply.{SetReply}
use Rattle.fop_types.specs.declared.jobs.SetReply.TheVariants as reply

-- ---- the sets, and the flat file system that they show

pub record Volumes : Type 0 where
  pub contents : SetContents
  pub homes : Homes
  pub kinds : Gfid → Option Kind
  pub files : Files

-- a list that has no name twice
abbrev pub AreOnce : List Item → Type 0
AreOnce [] = Unit {0}
AreOnce (item ∷ items) = (item_named items item.name ≡ None) × AreOnce items

-- The contents are those of a file system: a directory that was made has metadata on the first set, and a file its cells at
-- its home; no name is twice on a set, no file or directory of a name on two sets, and none in a removed directory;
-- the first set alone says whether it was removed; a name is of an object that was made; a file has at most 65,536 bytes.
pub record AreSound (s : Volumes) (count : ℕ) : Type 0 where
  pub shows : Shows s.contents s.homes s.kinds count s.files
  pub directories : (gfid : Gfid) → s.kinds gfid ≡ Some kind.Dir → holds_meta (s.contents 0 (meta_cell gfid)) ≡ true
  pub datas : (gfid : Gfid) → s.kinds gfid ≡ Some kind.File → holds_bytes (s.contents (s.homes gfid) (data_cell gfid)) ≡ true
  pub metas : (gfid : Gfid) → s.kinds gfid ≡ Some kind.File → holds_meta (s.contents (s.homes gfid) (meta_cell gfid)) ≡ true
  pub few : (gfid : Gfid) (bytes : List ℕ) → s.contents (s.homes gfid) (data_cell gfid) ≡ Some (Bytes bytes) → length bytes ≤ max_data
  pub once : (dir : Gfid) (set : ℕ) → AreOnce (items_of (s.contents set (names_cell dir)))
  pub alone : (dir : Gfid) (name : List ℕ) (a b : ℕ) → is_taken (item_in (s.contents a) dir name) ≡ true → is_taken (item_in (s.contents b) dir name) ≡ true → a ≡ b
  pub empty : (dir : Gfid) (name : List ℕ) (set : ℕ) → is_removed (s.contents 0 (names_cell dir)) ≡ true → is_taken (item_in (s.contents set) dir name) ≡ false
  pub named : (dir : Gfid) (name : List ℕ) (set : ℕ) (item : Item) → item_in (s.contents set) dir name ≡ Some item → is_link item.kind ≡ false → s.kinds item.gfid ≡ Some item.kind
  pub marked : (dir : Gfid) (set : ℕ) → 0 < set → is_removed (s.contents set (names_cell dir)) ≡ false

-- an object that was made, with its kind, and a file with its home
pub record IsMade (s : Volumes) (object : Object) : Type 0 where
  pub no_link : is_link object.kind ≡ false
  pub kind_is : s.kinds object.gfid ≡ Some object.kind
  pub home_is : object.kind ≡ kind.File → s.homes object.gfid ≡ object.set

-- ---- what still is so

-- no names, and no mark of a removal
pub record HasNoNames (content : Option Content) : Type 0 where
  pub items : items_of content ≡ []
  pub kept : is_removed content ≡ false

-- The cell has what was shown of it. Where a set may lack the cell and showed none, it has no names still: a rename may have
-- made the copy since.
abbrev pub HasContent : Bool → Option Content → Option Content → Type 0
HasContent false now shown = now ≡ shown
HasContent true now None = HasNoNames now
HasContent true now (Some content) = now ≡ Some content

abbrev pub HaveContents : Bool → Contents → List Cell → List (Option Content) → Type 0
HaveContents may_lack contents [] [] = Unit {0}
HaveContents may_lack contents [] (shown ∷ more) = ⊥
HaveContents may_lack contents (cell ∷ cells) [] = ⊥
HaveContents may_lack contents (cell ∷ cells) (shown ∷ more) = HasContent may_lack (contents cell) shown × HaveContents may_lack contents cells more

-- a read that failed showed nothing; other replies are none to a read
abbrev pub StillReads : Bool → Contents → List Cell → SetReply → Type 0
StillReads may_lack contents cells (reply.Contents shown place) = HaveContents may_lack contents cells shown
StillReads may_lack contents cells (reply.Decided number) = ⊥
StillReads may_lack contents cells reply.Opened = ⊥
StillReads may_lack contents cells (reply.Listed listed answered short) = ⊥
StillReads may_lack contents cells (reply.Healed records) = ⊥
StillReads may_lack contents cells (reply.Skipped cause) = ⊥
StillReads may_lack contents cells (reply.Io error) = Unit {0}

abbrev pub StillIs : SetContents → Event → Type 0
StillIs contents (Held dir) = Unit {0}
StillIs contents (Replied set (job.Read cells fd dir) reply) = StillReads (may_lack set dir) (contents set) cells reply
StillIs contents (Replied set (job.Change cells fd op effect) reply) = Unit {0}
StillIs contents (Replied set (job.Birth cells op) reply) = Unit {0}
StillIs contents (Replied set (job.Open fd gfid) reply) = Unit {0}
StillIs contents (Replied set job.Index reply) = Unit {0}
StillIs contents (Replied set (job.Heal cell) reply) = Unit {0}

-- the cells that were read have what they showed
abbrev pub StillShown : SetContents → Handed → Type 0
StillShown contents [] = Unit {0}
StillShown contents (event ∷ handed) = StillIs contents event × StillShown contents handed

-- no change with an effect was asked
abbrev pub HasNoEffect : Event → Type 0
HasNoEffect (Held dir) = Unit {0}
HasNoEffect (Replied set (job.Read cells fd dir) reply) = Unit {0}
HasNoEffect (Replied set (job.Change cells fd op (Some entry)) reply) = ⊥
HasNoEffect (Replied set (job.Change cells fd op None) reply) = Unit {0}
HasNoEffect (Replied set (job.Birth cells op) reply) = Unit {0}
HasNoEffect (Replied set (job.Open fd gfid) reply) = Unit {0}
HasNoEffect (Replied set job.Index reply) = Unit {0}
HasNoEffect (Replied set (job.Heal cell) reply) = Unit {0}

abbrev pub HaveNoEffect : Handed → Type 0
HaveNoEffect [] = Unit {0}
HaveNoEffect (event ∷ handed) = HasNoEffect event × HaveNoEffect handed
