-- What ties a change to its call: a change with an effect is an entry of its call, and its op is that part of the call's fop;
-- a change without one adds or drops a link. Each part of a call is entered once, in the order of the parts. Ours.
use Rattle.std.specs.Prelude.{◌≡◌, ◌≢◌, ◌⊎◌, ℕ, ◌<◌, ◌==◌, Bool, true, false, List, [], ◌∷◌, length, slice_get, Option, Some, None, if◌then◌else◌}
use Rattle.afr_machine.specs.Changes.{Verdict}
use Rattle.afr_machine.specs.Changes.Verdict.{Undrawn, Adopted}
use Rattle.dht_fops.specs.Answers.{flat_op, change_of}
use Rattle.dht_fops.specs.Courses.{Course}
use Rattle.dht_fops.specs.Handed.{Handed, Event}
use Rattle.dht_fops.specs.Handed.Event.{Replied}
use Rattle.fop_types.specs.Calls.{first_op}
use Rattle.fop_types.specs.Names.{is_link}
use Rattle.fop_types.specs.declared.cells.Cell.{Cell}
use Rattle.fop_types.specs.declared.cells.Kind.TheVariants as kind
use Rattle.fop_types.specs.declared.flat.FlatOp.{FlatOp}
use Rattle.fop_types.specs.declared.flat.FlatOp.TheVariants as flat
use Rattle.fop_types.specs.declared.fops.Fop.{Fop}
use Rattle.fop_types.specs.declared.history.Entry.{Entry}
use Rattle.fop_types.specs.declared.jobs.Job.{Job}
use Rattle.fop_types.specs.declared.jobs.Job.TheVariants as job
use Rattle.fop_types.specs.declared.jobs.SetReply.{SetReply}
use Rattle.fop_types.specs.declared.jobs.SetReply.TheVariants as reply
use Rattle.fop_types.specs.declared.store_ops.StoreOp.{StoreOp}
use Rattle.fop_types.specs.declared.store_ops.StoreOp.TheVariants as op
use Rattle.mount_laws.specs.Runs.{Run, Stage}
use Rattle.mount_laws.specs.Runs.Stage.{Changing}
use Rattle.mount_laws.specs.States.{State, Change, Runs}

-- ---- the parts of a fop

abbrev pub is_rename : FlatOp → Bool
is_rename (flat.Rename parent name target new_name) = true
is_rename other = false

-- a rename is its part 2, after the unlink of a file of the new name on another set, which is its part 1; each other
-- operation is its part 1
abbrev pub part_of : Option FlatOp → ℕ → Option FlatOp
part_of None part = None
part_of (Some o) part = if part == (if is_rename o then 2 else 1) then Some o else (if part == 1 then first_op (Some o) else None)

-- ---- the jobs of a fop

abbrev pub DidNotFail : SetReply → Type 0
DidNotFail (reply.Io error) = ⊥
DidNotFail other = Unit {0}

-- a change with an effect is of an earlier part than this, and was answered by its number
abbrev pub IsEarlier : Event → ℕ → Type 0
IsEarlier (Replied set (job.Change cells fd o (Some entry)) shown) part = (entry.part < part) × DidNotFail shown
IsEarlier other part = Unit {0}

abbrev pub AreEarlier : Handed → ℕ → Type 0
AreEarlier [] part = Unit {0}
AreEarlier (event ∷ handed) part = IsEarlier event part × AreEarlier handed part

-- a directory's name is added on the first set
abbrev pub IsOnFirst : ℕ → StoreOp → Type 0
IsOnFirst set (op.AddName parent item mode span) = item.kind ≡ kind.Dir → set ≡ 0
IsOnFirst set other = Unit {0}

-- a part of the fop that its call has not asked for, after the earlier ones were entered
pub record IsOwnPart (call : ℕ) (f : Fop) (handed : Handed) (set : ℕ) (o : StoreOp) (entry : Entry) : Type 0 where
  pub call_is : entry.call ≡ call
  pub part : FlatOp
  pub part_is : part_of (flat_op f) entry.part ≡ Some part
  pub makes : change_of o ≡ Some part
  pub on_first : IsOnFirst set o
  pub earlier : AreEarlier handed entry.part

-- an op that adds or drops a link
abbrev pub IsOfLink : StoreOp → Type 0
IsOfLink (op.AddName parent item mode span) = is_link item.kind ≡ true
IsOfLink (op.DropName parent name) = Unit {0}
IsOfLink other = ⊥

abbrev pub IsOwnJob : ℕ → Fop → Handed → ℕ → Job → Type 0
IsOwnJob call f handed set (job.Change cells fd o None) = IsOfLink o
IsOwnJob call f handed set (job.Change cells fd o (Some entry)) = IsOwnPart call f handed set o entry
IsOwnJob call f handed set other = Unit {0}

-- ---- changes of a call

-- The entry of an effect is its call's, and its op is that part of the fop that the call began last, a directory's name added
-- on the first set; a change without an effect adds or drops a link.
pub record IsOwnEntry (began : ℕ → Option Fop) (change : Change) (entry : Entry) : Type 0 where
  pub call_is : entry.call ≡ change.by
  pub fop : Fop
  pub began_is : began change.by ≡ Some fop
  pub part : FlatOp
  pub part_is : part_of (flat_op fop) entry.part ≡ Some part
  pub makes : change_of change.op ≡ Some part
  pub on_first : IsOnFirst change.set change.op

abbrev pub IsOwnEffect : (ℕ → Option Fop) → Change → Option Entry → Type 0
IsOwnEffect began change None = IsOfLink change.op
IsOwnEffect began change (Some entry) = IsOwnEntry began change entry

abbrev pub EffectIsOwn : State → Type 0
EffectIsOwn m = (u : ℕ) → (m.changes u).verdict ≢ Undrawn → IsOwnEffect m.began (m.changes u) (m.changes u).effect

-- a change that was begun, with this effect
pub record HasEffect (change : Change) (entry : Entry) : Type 0 where
  pub begun : change.verdict ≢ Undrawn
  pub effect : change.effect ≡ Some entry

-- A part is begun at most once, and after its call's earlier parts were adopted.
pub record PartsInOrder (m : State) : Type 0 where
  pub once : (u w : ℕ) (entry : Entry) → HasEffect (m.changes u) entry → HasEffect (m.changes w) entry → u ≡ w
  pub after : (u w : ℕ) (first second : Entry) → HasEffect (m.changes u) first → HasEffect (m.changes w) second → first.call ≡ second.call → first.part < second.part → (m.changes u).verdict ≡ Adopted

-- ---- the history

-- an entry of the history is the effect of a change that was adopted, whose operation stands beside it
pub record IsEntered (changes : ℕ → Change) (ops : List FlatOp) (index : ℕ) (entry : Entry) : Type 0 where
  pub change : ℕ
  pub adopted : (changes change).verdict ≡ Adopted
  pub effect : (changes change).effect ≡ Some entry
  pub op : slice_get ops index ≡ change_of (changes change).op

-- Each entry has its operation. The entries are the effects of adopted changes, each once, and a call's parts stand in their
-- order.
pub record AreEntered (changes : ℕ → Change) (ops : List FlatOp) (history : List Entry) : Type 0 where
  pub as_many : length ops ≡ length history
  pub entered : (index : ℕ) (entry : Entry) → slice_get history index ≡ Some entry → IsEntered changes ops index entry
  pub distinct : (i j : ℕ) (entry : Entry) → slice_get history i ≡ Some entry → slice_get history j ≡ Some entry → i ≡ j
  pub in_order : (i j : ℕ) (first second : Entry) → slice_get history i ≡ Some first → slice_get history j ≡ Some second → first.call ≡ second.call → first.part < second.part → i < j

abbrev pub EnteredOnce : State → Type 0
EnteredOnce m = AreEntered m.changes m.ops m.history

pub record HasEntry (history : List Entry) (entry : Entry) : Type 0 where
  pub index : ℕ
  pub at : slice_get history index ≡ Some entry

-- the effect of each adopted change is an entry
abbrev pub AdoptedIsEntered : State → Type 0
AdoptedIsEntered m = (u : ℕ) (entry : Entry) → (m.changes u).verdict ≡ Adopted → (m.changes u).effect ≡ Some entry → HasEntry m.history entry

-- ---- a fop under way beside a change of its call

-- a reply of the change of this effect was handed in; if it was no I/O error, the change is adopted
abbrev pub IsReplyTo : Event → Entry → Verdict → Type 0
IsReplyTo (Replied set (job.Change cells fd o (Some one)) shown) entry verdict = (one ≡ entry) × (DidNotFail shown → verdict ≡ Adopted)
IsReplyTo other entry verdict = ⊥

abbrev pub WasReplied : Handed → Entry → Verdict → Type 0
WasReplied [] entry verdict = ⊥
WasReplied (event ∷ handed) entry verdict = IsReplyTo event entry verdict ⊎ WasReplied handed entry verdict

-- the job under way is at this change, or has had it adopted
abbrev pub IsAt : Stage → ℕ → Verdict → Type 0
IsAt (Changing one) u verdict = one ≡ u
IsAt (Stage.Decided number) u verdict = verdict ≡ Adopted
IsAt other u verdict = ⊥

pub record IsJobOf (run : Run) (u : ℕ) (entry : Entry) (verdict : Verdict) : Type 0 where
  pub set : ℕ
  pub cells : List Cell
  pub fd : ℕ
  pub op : StoreOp
  pub next : SetReply → Course
  pub asks : run.course ≡ Course.Asks set (job.Change cells fd op (Some entry)) next
  pub at : IsAt run.stage u verdict

-- Each change with an effect of a call whose fop is under way was asked by that fop.
abbrev pub IsOfRun : ℕ → Run → ℕ → Change → Type 0
IsOfRun c run u change = (entry : Entry) → change.by ≡ c → HasEffect change entry → WasReplied run.handed entry change.verdict ⊎ IsJobOf run u entry change.verdict

abbrev pub OwnIsOfRun : State → Type 0
OwnIsOfRun m = (c : ℕ) (run : Run) → Runs m c run → (u : ℕ) → IsOfRun c run u (m.changes u)

-- the fop under way is the one that its call began last
abbrev pub BeganIsRun : State → Type 0
BeganIsRun m = (c : ℕ) (run : Run) → Runs m c run → m.began c ≡ Some run.fop
