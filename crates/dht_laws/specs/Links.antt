-- What a change without an effect rests on, a birth and a move: a link that was seen, or a move that was made; a directory that
-- is new, or of which the set showed no copy; and a copy of the directory into which a name is moved.
use Rattle.std.specs.Prelude.{◌≡◌, ◌⊎◌, ℕ, ◌==◌, true, false, List, [], ◌∷◌, Some, None}
use Rattle.dht_linkto.specs.declared.names.DirNames.{DirNames}
use Rattle.dht_laws.specs.Births.{WasBorn}
use Rattle.dht_fops.specs.Courses.{Course}
use Rattle.dht_fops.specs.Courses.Course.{Asks, Extends, Ends}
use Rattle.dht_fops.specs.Fops.{fop_course}
use Rattle.dht_fops.specs.Founded.{IsNoError}
use Rattle.dht_fops.specs.Handed.{Handed, Event, Always, AnyHold, AnyAnswer, Saw}
use Rattle.dht_fops.specs.Handed.Event.{Replied, Held}
use Rattle.dht_fops.specs.Volumes.{Kept}
use Rattle.dht_fops.specs.declared.volume.Volume.{Volume}
use Rattle.fop_types.specs.Names.{item_named, is_link}
use Rattle.fop_types.specs.declared.cells.Gfid.{Gfid}
use Rattle.fop_types.specs.declared.contents.Item.{Item}
use Rattle.fop_types.specs.declared.fops.Fop.{Fop}
use Rattle.fop_types.specs.declared.fops.Fop.TheVariants as fop
use Rattle.fop_types.specs.declared.fops.Object.{Object}
use Rattle.fop_types.specs.declared.jobs.Job.{Job}
use Rattle.fop_types.specs.declared.jobs.Job.TheVariants as job
use Rattle.fop_types.specs.declared.jobs.SetReply.{SetReply}
use Rattle.fop_types.specs.declared.store_ops.StoreOp.{StoreOp}
use Rattle.fop_types.specs.declared.store_ops.StoreOp.TheVariants as op

-- ---- what was seen

-- the set showed a link of the name
pub record SawLink (handed : Handed) (dir : Gfid) (name : List ℕ) (set : ℕ) : Type 0 where
  pub shown : DirNames
  pub saw : Saw handed dir set shown
  pub item : Item
  pub named : item_named shown.items name ≡ Some item
  pub link : is_link item.kind ≡ true

-- the set showed no copy of the directory
pub record SawNoCopy (handed : Handed) (dir : Gfid) (set : ℕ) : Type 0 where
  pub shown : DirNames
  pub saw : Saw handed dir set shown
  pub none : shown.has_copy ≡ false

-- the set showed a copy of the directory
pub record SawCopy (handed : Handed) (dir : Gfid) (set : ℕ) : Type 0 where
  pub shown : DirNames
  pub saw : Saw handed dir set shown
  pub there : shown.has_copy ≡ true

-- ---- what was done

pub record IsMoveTo (o : StoreOp) (dir : Gfid) (name : List ℕ) : Type 0 where
  pub parent : Gfid
  pub old : List ℕ
  pub is_move : o ≡ op.Move parent old dir name

-- a file was moved to the name on another set, and the reply was no I/O error
abbrev pub IsMoveElsewhere : Event → Gfid → List ℕ → ℕ → Type 0
IsMoveElsewhere (Held held) dir name set = ⊥
IsMoveElsewhere (Replied one (job.Read cells fd d) said) dir name set = ⊥
IsMoveElsewhere (Replied one (job.Change cells fd o (Some entry)) said) dir name set = IsMoveTo o dir name × IsNoError said × ((set == one) ≡ false)
IsMoveElsewhere (Replied one (job.Change cells fd o None) said) dir name set = ⊥
IsMoveElsewhere (Replied one (job.Birth cells o) said) dir name set = ⊥
IsMoveElsewhere (Replied one (job.Open fd gfid) said) dir name set = ⊥
IsMoveElsewhere (Replied one job.Index said) dir name set = ⊥
IsMoveElsewhere (Replied one (job.Heal cell) said) dir name set = ⊥

abbrev pub WasMoved : Handed → Gfid → List ℕ → ℕ → Type 0
WasMoved [] dir name set = ⊥
WasMoved (event ∷ handed) dir name set = IsMoveElsewhere event dir name set ⊎ WasMoved handed dir name set

-- ---- jobs

-- a change without an effect drops a link that the set showed, or adds one for a file that was moved on another set
abbrev pub IsOfLink : Handed → ℕ → StoreOp → Type 0
IsOfLink handed set (op.AddName parent item mode span) = (is_link item.kind ≡ true) × WasMoved handed parent item.name set
IsOfLink handed set (op.DropName parent name) = SawLink handed parent name set
IsOfLink handed set (op.DropDir parent name gfid) = ⊥
IsOfLink handed set (op.Move parent name target new_name) = ⊥
IsOfLink handed set (op.Write gfid offset bytes) = ⊥
IsOfLink handed set (op.Truncate gfid size) = ⊥
IsOfLink handed set (op.SetMode gfid mode) = ⊥
IsOfLink handed set (op.SetAttr gfid attr) = ⊥
IsOfLink handed set (op.DelAttr gfid name) = ⊥
IsOfLink handed set (op.MakeCopy gfid span) = ⊥

-- the fop makes the directory
pub record IsMadeBy (f : Fop) (gfid : Gfid) : Type 0 where
  pub parent : Object
  pub name : List ℕ
  pub mode : ℕ
  pub is_mkdir : f ≡ fop.Mkdir parent name mode gfid

-- a birth is of the directory that the fop makes, or of one of which the set showed no copy
abbrev pub IsOfCopy : Fop → Handed → ℕ → StoreOp → Type 0
IsOfCopy f handed set (op.MakeCopy gfid span) = IsMadeBy f gfid ⊎ SawNoCopy handed gfid set
IsOfCopy f handed set (op.AddName parent item mode span) = ⊥
IsOfCopy f handed set (op.DropName parent name) = ⊥
IsOfCopy f handed set (op.DropDir parent name gfid) = ⊥
IsOfCopy f handed set (op.Move parent name target new_name) = ⊥
IsOfCopy f handed set (op.Write gfid offset bytes) = ⊥
IsOfCopy f handed set (op.Truncate gfid size) = ⊥
IsOfCopy f handed set (op.SetMode gfid mode) = ⊥
IsOfCopy f handed set (op.SetAttr gfid attr) = ⊥
IsOfCopy f handed set (op.DelAttr gfid name) = ⊥

-- A name is moved into a directory of which the set showed a copy, or was asked for one.
abbrev pub IsIntoCopy : Handed → ℕ → StoreOp → Type 0
IsIntoCopy handed set (op.Move parent name target new_name) = SawCopy handed target set ⊎ WasBorn handed set target None
IsIntoCopy handed set (op.AddName parent item mode span) = Unit {0}
IsIntoCopy handed set (op.DropName parent name) = Unit {0}
IsIntoCopy handed set (op.DropDir parent name gfid) = Unit {0}
IsIntoCopy handed set (op.Write gfid offset bytes) = Unit {0}
IsIntoCopy handed set (op.Truncate gfid size) = Unit {0}
IsIntoCopy handed set (op.SetMode gfid mode) = Unit {0}
IsIntoCopy handed set (op.SetAttr gfid attr) = Unit {0}
IsIntoCopy handed set (op.DelAttr gfid name) = Unit {0}
IsIntoCopy handed set (op.MakeCopy gfid span) = Unit {0}

abbrev pub RestsOnLinks : Fop → Handed → ℕ → Job → Type 0
RestsOnLinks f handed set (job.Change cells fd o None) = IsOfLink handed set o
RestsOnLinks f handed set (job.Change cells fd o (Some entry)) = IsIntoCopy handed set o
RestsOnLinks f handed set (job.Birth cells o) = IsOfCopy f handed set o
RestsOnLinks f handed set (job.Read cells fd dir) = Unit {0}
RestsOnLinks f handed set (job.Open fd gfid) = Unit {0}
RestsOnLinks f handed set job.Index = Unit {0}
RestsOnLinks f handed set (job.Heal cell) = Unit {0}

-- Each change of a link, each birth and each move of a fop rests on this, whatever the volume, the replies and the fop's values are.
abbrev pub FopsChangeLinks : Type 0
FopsChangeLinks = (v : Volume) (names : List (List ℕ)) (kept : Kept) (f : Fop) → Always (RestsOnLinks f) AnyHold AnyAnswer [] (fop_course v names kept f)

-- ---- replies

-- what follows a change of a link, or the heal of a cell, is one course, whatever the reply is
abbrev pub IsUnheeded : Job → (SetReply → Course) → Type 0
IsUnheeded (job.Change cells fd o None) next = (one other : SetReply) → next one ≡ next other
IsUnheeded (job.Change cells fd o (Some entry)) next = Unit {0}
IsUnheeded (job.Birth cells o) next = Unit {0}
IsUnheeded (job.Read cells fd dir) next = Unit {0}
IsUnheeded (job.Open fd gfid) next = Unit {0}
IsUnheeded job.Index next = Unit {0}
IsUnheeded (job.Heal cell) next = (one other : SetReply) → next one ≡ next other

abbrev pub IgnoresLinks : Course → Type 0
IgnoresLinks (Asks set asked next) = IsUnheeded asked next × ((reply : SetReply) → IgnoresLinks (next reply))
IgnoresLinks (Extends dir next) = IgnoresLinks next
IgnoresLinks (Ends answer place) = Unit {0}

-- No reply of a change of a link changes what a fop asks or answers afterwards: an I/O error, a number, or any other.
abbrev pub FopsIgnoreLinks : Type 0
FopsIgnoreLinks = (v : Volume) (names : List (List ℕ)) (kept : Kept) (f : Fop) → IgnoresLinks (fop_course v names kept f)
