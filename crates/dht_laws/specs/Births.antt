-- The copies of a new directory on the sets after the first, and their ranges. A mkdir adds its name only after each of them
-- was born, with its range of the even split; a copy that a rename bears has no range. (cluster/distribute: mkdir and the
-- layout on every subvolume; that the name comes last is ours.)
use Rattle.std.specs.Prelude.{◌≡◌, ◌⊎◌, ℕ, ◌+◌, ◌<◌, ◌≤◌, List, [], ◌∷◌, length, Option, Some, None}
use Rattle.dht_layout.specs.Layouts.{even_span}
use Rattle.dht_fops.specs.Courses.{Course}
use Rattle.dht_fops.specs.Courses.Course.{Asks, Extends, Ends}
use Rattle.dht_fops.specs.Fops.{fop_course}
use Rattle.dht_fops.specs.Founded.{IsNoError}
use Rattle.dht_fops.specs.Handed.{Handed, Event, Always, AnyHold, AnyAnswer}
use Rattle.dht_fops.specs.Handed.Event.{Replied, Held}
use Rattle.dht_fops.specs.Volumes.{Kept}
use Rattle.dht_fops.specs.declared.volume.Volume.{Volume}
use Rattle.fop_types.specs.declared.cells.Gfid.{Gfid}
use Rattle.fop_types.specs.declared.cells.Kind.{Kind}
use Rattle.fop_types.specs.declared.cells.Kind.TheVariants as kind
use Rattle.fop_types.specs.declared.contents.Span.{Span}
use Rattle.fop_types.specs.declared.fops.Fop.{Fop}
use Rattle.fop_types.specs.declared.fops.Fop.TheVariants as fop
use Rattle.fop_types.specs.declared.jobs.Job.{Job}
use Rattle.fop_types.specs.declared.jobs.Job.TheVariants as job
use Rattle.fop_types.specs.declared.jobs.SetReply.{SetReply}
use Rattle.fop_types.specs.declared.store_ops.StoreOp.{StoreOp}
use Rattle.fop_types.specs.declared.store_ops.StoreOp.TheVariants as op

-- ---- births that were made

-- the set was asked for a birth of the copy with this range, and its reply was no I/O error
abbrev pub IsBirthOf : Event → ℕ → Gfid → Option Span → Type 0
IsBirthOf (Held held) set gfid span = ⊥
IsBirthOf (Replied one (job.Read cells fd dir) said) set gfid span = ⊥
IsBirthOf (Replied one (job.Change cells fd o effect) said) set gfid span = ⊥
IsBirthOf (Replied one (job.Birth cells o) said) set gfid span = (one ≡ set) × (o ≡ op.MakeCopy gfid span) × IsNoError said
IsBirthOf (Replied one (job.Open fd file) said) set gfid span = ⊥
IsBirthOf (Replied one job.Index said) set gfid span = ⊥
IsBirthOf (Replied one (job.Heal cell) said) set gfid span = ⊥

abbrev pub WasBorn : Handed → ℕ → Gfid → Option Span → Type 0
WasBorn [] set gfid span = ⊥
WasBorn (event ∷ handed) set gfid span = IsBirthOf event set gfid span ⊎ WasBorn handed set gfid span

-- of the sets below this one, each after the first has a copy, with its range of the even split
abbrev pub AreBornBelow : Volume → Handed → Gfid → ℕ → Type 0
AreBornBelow v handed gfid last = (set : ℕ) → 0 < set → set < last → WasBorn handed set gfid (Some (even_span v.sets set))

-- ---- jobs

-- a directory's name is added with the first set's range, after the births of all further copies; a file has no range
abbrev pub IsAddedAfter : Volume → Handed → Gfid → Option Span → Kind → Type 0
IsAddedAfter v handed gfid span kind.File = span ≡ None
IsAddedAfter v handed gfid span kind.Dir = (span ≡ Some (even_span v.sets 0)) × AreBornBelow v handed gfid v.sets
IsAddedAfter v handed gfid span kind.Link = ⊥

abbrev pub ComesAfterBirths : Volume → Handed → StoreOp → Type 0
ComesAfterBirths v handed (op.AddName parent item mode span) = IsAddedAfter v handed item.gfid span item.kind
ComesAfterBirths v handed other = Unit {0}

-- a mkdir bears its own directory, on a set after the first and with that set's range; any other fop a copy without a range
abbrev pub HasRange : Volume → Fop → ℕ → Gfid → Option Span → Type 0
HasRange v (fop.Mkdir parent name mode drawn) set gfid span = (gfid ≡ drawn) × (0 < set) × (span ≡ Some (even_span v.sets set))
HasRange v other set gfid span = span ≡ None

abbrev pub IsBornAs : Volume → Fop → ℕ → StoreOp → Type 0
IsBornAs v f set (op.MakeCopy gfid span) = HasRange v f set gfid span
IsBornAs v f set other = ⊥

abbrev pub IsBornInTime : Volume → Fop → Handed → ℕ → Job → Type 0
IsBornInTime v f handed set (job.Change cells fd o (Some entry)) = ComesAfterBirths v handed o
IsBornInTime v f handed set (job.Change cells fd o None) = Unit {0}
IsBornInTime v f handed set (job.Birth cells o) = IsBornAs v f set o
IsBornInTime v f handed set (job.Read cells fd dir) = Unit {0}
IsBornInTime v f handed set (job.Open fd gfid) = Unit {0}
IsBornInTime v f handed set job.Index = Unit {0}
IsBornInTime v f handed set (job.Heal cell) = Unit {0}

-- Each name of a directory that a fop adds comes after the births of its copies, and each birth has its range.
abbrev pub FopsBearFirst : Type 0
FopsBearFirst = (v : Volume) (names : List (List ℕ)) (kept : Kept) (f : Fop) → 1 ≤ v.root_sets → v.root_sets ≤ v.sets → length names ≡ v.sets
    → Always (IsBornInTime v f) AnyHold AnyAnswer [] (fop_course v names kept f)

-- ---- each set once

-- births are asked of rising sets, the first of this one or a later one
abbrev pub IsBirthFrom : ℕ → ℕ → Job → Type 0
IsBirthFrom least set (job.Birth cells o) = least ≤ set
IsBirthFrom least set (job.Read cells fd dir) = Unit {0}
IsBirthFrom least set (job.Change cells fd o effect) = Unit {0}
IsBirthFrom least set (job.Open fd gfid) = Unit {0}
IsBirthFrom least set job.Index = Unit {0}
IsBirthFrom least set (job.Heal cell) = Unit {0}

abbrev pub after_birth : ℕ → ℕ → Job → ℕ
after_birth least set (job.Birth cells o) = set + 1
after_birth least set (job.Read cells fd dir) = least
after_birth least set (job.Change cells fd o effect) = least
after_birth least set (job.Open fd gfid) = least
after_birth least set job.Index = least
after_birth least set (job.Heal cell) = least

abbrev pub BearsFrom : ℕ → Course → Type 0
BearsFrom least (Asks set asked next) = IsBirthFrom least set asked × ((reply : SetReply) → BearsFrom (after_birth least set asked) (next reply))
BearsFrom least (Extends dir next) = BearsFrom least next
BearsFrom least (Ends answer place) = Unit {0}

-- A fop asks each set for at most one birth, and these in the order of the sets, whatever the replies are.
abbrev pub FopsBearOnce : Type 0
FopsBearOnce = (v : Volume) (names : List (List ℕ)) (kept : Kept) (f : Fop) → BearsFrom 0 (fop_course v names kept f)
