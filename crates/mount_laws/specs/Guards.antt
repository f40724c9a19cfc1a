-- When each step of the mount can happen, by what is known of a set, of the holds and of the fop's own course; and the states
-- that such steps lead to. A fop's objects were answered before, it holds what its kind holds, and no call of a graph with
-- more sets begins one while a call of a graph with fewer is unanswered. Ours.
use Rattle.std.specs.Prelude.{◌≡◌, ◌≢◌, ◌⊎◌, ℕ, ◌≤◌, Bool, true, false, List, [], ◌∷◌, length, slice_get, Option, Some, None}
use Rattle.afr_machine.specs.Changes.Verdict.{Undrawn, Unsettled}
use Rattle.afr_machine.specs.Touching.{share}
use Rattle.afr_machine.specs.Transactions.{cells_of_job, settles_first}
use Rattle.dht_fops.specs.Answers.{flat_op, SaysFlat}
use Rattle.dht_fops.specs.Courses.{Course}
use Rattle.dht_fops.specs.Handed.{Handed, Event, Always, AnyHold, AnyAnswer}
use Rattle.dht_fops.specs.Handed.Event.{Replied}
use Rattle.dht_fops.specs.Looks.{span_of, span_job}
use Rattle.dht_fops.specs.Volumes.{Kept}
use Rattle.dht_laws.specs.Homes.{IsOwnDir}
use Rattle.dht_linkto.specs.DirNames.{first_content}
use Rattle.fop_types.specs.Bounds.{Each, IsFop, IsVolumeName}
use Rattle.fop_types.specs.Files.{first_files}
use Rattle.fop_types.specs.History.{files_after}
use Rattle.fop_types.specs.Jobs.{may_lack, IsAnsweredBy}
use Rattle.fop_types.specs.StoreOps.{are_present}
use Rattle.fop_types.specs.declared.answers.Answer.{Answer}
use Rattle.fop_types.specs.declared.answers.FopAnswer.{FopAnswer}
use Rattle.fop_types.specs.declared.answers.FopAnswer.TheVariants as fop_answer
use Rattle.fop_types.specs.declared.answers.IoError.{IoError}
use Rattle.fop_types.specs.declared.cells.Cell.{Cell}
use Rattle.fop_types.specs.declared.cells.Gfid.{Gfid}
use Rattle.fop_types.specs.declared.contents.Content.{Content}
use Rattle.fop_types.specs.declared.contents.Span.{Span}
use Rattle.fop_types.specs.declared.fops.Fop.{Fop}
use Rattle.fop_types.specs.declared.fops.Fop.TheVariants as fop
use Rattle.fop_types.specs.declared.fops.Object.{Object}
use Rattle.fop_types.specs.declared.jobs.Job.{Job}
use Rattle.fop_types.specs.declared.jobs.Job.TheVariants as job
use Rattle.fop_types.specs.declared.jobs.SetReply.{SetReply}
use Rattle.fop_types.specs.declared.jobs.SetReply.TheVariants as reply
use Rattle.mount_laws.specs.Holds.{holds_of, AreApart}
use Rattle.mount_laws.specs.Runs.{Run, Stage}
use Rattle.mount_laws.specs.Runs.Stage.{Waiting, Settled, Changing, Bearing, Decided}
use Rattle.mount_laws.specs.States.{State, Change, start, Runs, held, is_unanswered, set_count}
use Rattle.mount_laws.specs.States.Status.{Ready}
use Rattle.mount_laws.specs.Steps.{Step, Task, after}
use Rattle.mount_laws.specs.Steps.Step.{Submits, Concludes, Switches, Begins, Settles, EndsSettling, BeginsChange, Decides, SendsBirths, ConfirmsBirths, HandsIn, Extends, Releases, Learns, Answers, AnswersAbove}

-- ---- fops

abbrev pub objects_of : Fop → List Object
objects_of (fop.Lookup parent name) = parent ∷ []
objects_of (fop.Mkdir parent name mode drawn) = parent ∷ []
objects_of (fop.Rmdir parent name) = parent ∷ []
objects_of (fop.Create fd parent name mode drawn) = parent ∷ []
objects_of (fop.Unlink parent name) = parent ∷ []
objects_of (fop.Rename parent name target new_name) = parent ∷ target ∷ []
objects_of (fop.Open fd object) = object ∷ []
objects_of (fop.Stat object) = object ∷ []
objects_of (fop.List object) = object ∷ []
objects_of (fop.Chmod object mode) = object ∷ []
objects_of (fop.Truncate object size) = object ∷ []
objects_of (fop.SetAttr object attr) = object ∷ []
objects_of (fop.GetAttr object name) = object ∷ []
objects_of (fop.DelAttr object name) = object ∷ []
objects_of (fop.Read fd object offset count) = object ∷ []
objects_of (fop.Write fd object offset bytes) = object ∷ []
objects_of (fop.Migrate fds) = []
objects_of (fop.Heal count) = []

-- a fop that a call asks; the mount's own come with a rebalance and a heal, which this machine has not
abbrev pub IsOfCall : Fop → Type 0
IsOfCall (fop.Migrate fds) = ⊥
IsOfCall (fop.Heal count) = ⊥
IsOfCall other = Unit {0}

-- a fop of the mount itself
abbrev pub IsOfMount : Fop → Type 0
IsOfMount (fop.Migrate fds) = Unit {0}
IsOfMount (fop.Heal count) = Unit {0}
IsOfMount other = ⊥

-- one of the list is the object
abbrev pub IsKnown : List Object → Object → Type 0
IsKnown [] object = ⊥
IsKnown (one ∷ known) object = (one ≡ object) ⊎ IsKnown known object

-- the object that a fop makes has the gfid that its call drew
abbrev pub DrawsOwn : Option Gfid → Fop → Type 0
DrawsOwn drawn (fop.Mkdir parent name mode gfid) = drawn ≡ Some gfid
DrawsOwn drawn (fop.Create fd parent name mode gfid) = drawn ≡ Some gfid
DrawsOwn drawn other = Unit {0}

-- the layouts are among those that were learnt
abbrev pub IsLearnt : Kept → (Gfid × List (Option Span)) → Type 0
IsLearnt [] layout = ⊥
IsLearnt (one ∷ learnt) layout = (one ≡ layout) ⊎ IsLearnt learnt layout

-- The objects are known, and no granted hold of another call conflicts.
pub record MayBegin (m : State) (c : ℕ) (f : Fop) (kept : Kept) : Type 0 where
  pub ready : (m.calls c).status ≡ Ready
  pub of_call : IsOfCall f
  pub within : IsFop f
  pub known : Each (IsKnown m.known) (objects_of f)
  pub drawn : DrawsOwn (m.calls c).drawn f
  pub learnt : Each (IsLearnt m.learnt) kept
  pub apart : (other : ℕ) → other ≢ c → AreApart (holds_of f) (held m other)
  pub in_turn : (other : ℕ) → is_unanswered (m.calls other).status ≡ true → length (m.calls c).names ≤ length (m.calls other).names

pub record MayExtend (m : State) (c : ℕ) (run : Run) (dir : Gfid) (next : Course) : Type 0 where
  pub runs : Runs m c run
  pub extends : run.course ≡ Course.Extends dir next
  pub apart : (other : ℕ) → other ≢ c → AreApart (record { gfid = dir; shared = false } ∷ []) (held m other)

-- no job is on a cell of the object, wherever the replies lead
abbrev pub IsWithout : Gfid → Job → Type 0
IsWithout gfid asked = Each (λ (cell : Cell). cell.gfid ≢ gfid) (cells_of_job asked)

abbrev pub NeedsNoMore : Gfid → Handed → Course → Type 0
NeedsNoMore gfid handed course = Always (λ (later : Handed) (set : ℕ) (asked : Job). IsWithout gfid asked) AnyHold AnyAnswer handed course

-- A fop of the mount may let go of an object that it needs no more, where no change of its call on the object is unsettled. A
-- call's fop keeps its holds until it is answered: else its answer would not be that of the files at the answer.
pub record MayRelease (m : State) (c : ℕ) (run : Run) (gfid : Gfid) : Type 0 where
  pub runs : Runs m c run
  pub of_mount : IsOfMount run.fop
  pub unneeded : NeedsNoMore gfid run.handed run.course
  pub settled : (u : ℕ) → (m.changes u).by ≡ c → (m.changes u).verdict ≡ Unsettled → Each (λ (cell : Cell). cell.gfid ≢ gfid) (m.changes u).cells

-- a read of the directory's metadata on the set showed this range
abbrev pub IsSpanRead : Gfid → ℕ → Option Span → Event → Type 0
IsSpanRead dir set span (Replied one asked (reply.Contents contents place)) = (one ≡ set) × (asked ≡ span_job dir) × (span_of (first_content contents) ≡ span)
IsSpanRead dir set span other = ⊥

abbrev pub WasSpanRead : Handed → Gfid → ℕ → Option Span → Type 0
WasSpanRead [] dir set span = ⊥
WasSpanRead (event ∷ handed) dir set span = IsSpanRead dir set span event ⊎ WasSpanRead handed dir set span

-- the fop has read the layout of a directory that it names, on each set of its graph
pub record MayLearn (m : State) (c : ℕ) (run : Run) (dir : Gfid) (spans : List (Option Span)) : Type 0 where
  pub runs : Runs m c run
  pub own : IsOwnDir run.fop dir
  pub whole : length spans ≡ length run.names
  pub read : (set : ℕ) (span : Option Span) → slice_get spans set ≡ Some span → WasSpanRead run.handed dir set span

pub record MayAnswer (m : State) (c : ℕ) (run : Run) (answer : FopAnswer) (place : Option ℕ) : Type 0 where
  pub runs : Runs m c run
  pub ends : run.course ≡ Course.Ends answer place

-- a fop that a cache may answer
abbrev pub IsRead : Fop → Type 0
IsRead (fop.Read fd object offset count) = Unit {0}
IsRead other = ⊥

-- A read that has asked for no job is answered as the flat file system answers now. That a cache has what it would answer is
-- for the cache to show.
pub record MayAnswerAbove (m : State) (c : ℕ) (run : Run) (answer : Answer) : Type 0 where
  pub runs : Runs m c run
  pub reads : IsRead run.fop
  pub unasked : run.handed ≡ []
  pub as_flat : SaysFlat (files_after first_files m.ops) (flat_op run.fop) (fop_answer.Call answer)

-- ---- jobs

-- the call's fop asks for this job
pub record IsUnderWay (m : State) (t : Task) : Type 0 where
  pub runs : Runs m t.call t.run
  pub asks : t.run.course ≡ Course.Asks t.set t.job t.next

-- the change is unsettled, on the set, and touches one of the cells
pub record IsUnsettledOn (change : Change) (set : ℕ) (cells : List Cell) : Type 0 where
  pub verdict : change.verdict ≡ Unsettled
  pub on_set : change.set ≡ set
  pub touches : share change.cells cells ≡ true

pub record MaySettle (m : State) (t : Task) (u : ℕ) : Type 0 where
  pub under_way : IsUnderWay m t
  pub waiting : t.run.stage ≡ Waiting
  pub settles : settles_first t.job ≡ true
  pub unsettled : IsUnsettledOn (m.changes u) t.set (cells_of_job t.job)

-- until its change begins or its reply is handed in, a job that has settled may begin again, which ends at a later length of
-- the history
abbrev pub IsSettling : Stage → Type 0
IsSettling Waiting = Unit {0}
IsSettling (Settled place) = Unit {0}
IsSettling other = ⊥

pub record MayEndSettling (m : State) (t : Task) : Type 0 where
  pub under_way : IsUnderWay m t
  pub turn : IsSettling t.run.stage
  pub settles : settles_first t.job ≡ true
  pub none : (u : ℕ) → IsUnsettledOn (m.changes u) t.set (cells_of_job t.job) → ⊥

abbrev pub IsChange : Job → Type 0
IsChange (job.Change cells fd op effect) = Unit {0}
IsChange other = ⊥

abbrev pub IsBirth : Job → Type 0
IsBirth (job.Birth cells op) = Unit {0}
IsBirth other = ⊥

-- the job of a call that neither shows nor changes the files
abbrev pub IsOpen : Job → Type 0
IsOpen (job.Open fd gfid) = Unit {0}
IsOpen other = ⊥

-- A change becomes unsettled after its job's settling, where the cells are present.
pub record MayBeginChange (m : State) (t : Task) (u : ℕ) : Type 0 where
  pub under_way : IsUnderWay m t
  pub place : ℕ
  pub settled : t.run.stage ≡ Settled place
  pub is_change : IsChange t.job
  pub fresh : (m.changes u).verdict ≡ Undrawn
  pub present : are_present (m.adopted t.set) (cells_of_job t.job) ≡ true

pub record MayDecide (m : State) (t : Task) (u : ℕ) : Type 0 where
  pub under_way : IsUnderWay m t
  pub turn : t.run.stage ≡ Changing u
  pub unsettled : (m.changes u).verdict ≡ Unsettled

pub record MaySendBirths (m : State) (t : Task) : Type 0 where
  pub under_way : IsUnderWay m t
  pub waiting : t.run.stage ≡ Waiting
  pub is_birth : IsBirth t.job

pub record MayConfirmBirths (m : State) (t : Task) : Type 0 where
  pub under_way : IsUnderWay m t
  pub turn : t.run.stage ≡ Bearing

-- What a read may show of a cell: the adopted content; or nothing, of a directory's cell on a set after the first that is
-- not firm.
pub record IsLacking (m : State) (set : ℕ) (dir : Bool) (cell : Cell) (shown : Option Content) : Type 0 where
  pub nothing : shown ≡ None
  pub may : may_lack set dir ≡ true
  pub unconfirmed : m.firm set cell ≡ false

abbrev pub IsShown : State → ℕ → Bool → Cell → Option Content → Type 0
IsShown m set dir cell shown = (m.adopted set cell ≡ shown) ⊎ IsLacking m set dir cell shown

abbrev pub AreShown : State → ℕ → Bool → List Cell → List (Option Content) → Type 0
AreShown m set dir [] [] = Unit {0}
AreShown m set dir [] (content ∷ contents) = ⊥
AreShown m set dir (cell ∷ cells) [] = ⊥
AreShown m set dir (cell ∷ cells) (content ∷ contents) = IsShown m set dir cell content × AreShown m set dir cells contents

-- a job whose change is decided does not fail
abbrev pub MayFail : Stage → Type 0
MayFail Waiting = Unit {0}
MayFail (Settled place) = Unit {0}
MayFail (Changing u) = Unit {0}
MayFail Bearing = Unit {0}
MayFail (Decided number) = ⊥

-- the reply of a job
pub data IsReply (m : State) (t : Task) : SetReply → Type 0 where
  Shows : (cells : List Cell) → (fd : ℕ) → (dir : Bool) → (contents : List (Option Content)) → (place : ℕ) → t.job ≡ job.Read cells fd dir → t.run.stage ≡ Settled place →
      AreShown m t.set dir cells contents → IsReply m t (reply.Contents contents place)
  Enters : (number : Option ℕ) → t.run.stage ≡ Decided number → IsReply m t (reply.Decided number)
  Fails : (error : IoError) → MayFail t.run.stage → IsReply m t (reply.Io error)
  Opens : (shown : SetReply) → IsOpen t.job → IsReply m t shown

-- the reply answers the job, with some quorum of the set
pub record IsAnswered (set : ℕ) (asked : Job) (shown : SetReply) : Type 0 where
  pub quorum : ℕ
  pub answered : IsAnsweredBy set quorum asked shown

pub record MayHandIn (m : State) (t : Task) (shown : SetReply) : Type 0 where
  pub under_way : IsUnderWay m t
  pub fitting : IsAnswered t.set t.job shown
  pub is_reply : IsReply m t shown

-- ---- all

-- a new graph has the sets of the last one, and more or none behind them
pub record ArePlanned (least : ℕ) (names : List (List ℕ)) : Type 0 where
  pub enough : least ≤ length names
  pub named : Each IsVolumeName names

abbrev pub Allowed : State → Step → Type 0
Allowed m (Submits draws) = Unit {0}
Allowed m (Concludes c) = (m.calls c).status ≡ Ready
Allowed m (Switches names) = ArePlanned (set_count m) names
Allowed m (Begins c f kept) = MayBegin m c f kept
Allowed m (Settles t u adopts) = MaySettle m t u
Allowed m (EndsSettling t) = MayEndSettling m t
Allowed m (BeginsChange t u) = MayBeginChange m t u
Allowed m (Decides t u) = MayDecide m t u
Allowed m (SendsBirths t) = MaySendBirths m t
Allowed m (ConfirmsBirths t) = MayConfirmBirths m t
Allowed m (HandsIn t shown) = MayHandIn m t shown
Allowed m (Extends c run dir next) = MayExtend m c run dir next
Allowed m (Releases c run gfid) = MayRelease m c run gfid
Allowed m (Learns c run dir spans) = MayLearn m c run dir spans
Allowed m (Answers c run answer place) = MayAnswer m c run answer place
Allowed m (AnswersAbove c run answer) = MayAnswerAbove m c run answer

-- the states that allowed steps lead to, from a mount whose first graph has these sets
pub data IsReached (first : List (List ℕ)) : State → Type 0 where
  Start : ArePlanned 1 first → IsReached first (start first)
  Further : (m : State) → (step : Step) → IsReached first m → Allowed m step → IsReached first (after m step)
