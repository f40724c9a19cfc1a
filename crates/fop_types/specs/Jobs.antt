-- The jobs of a set: what a job must meet, and which reply of a set answers which job.
use Rattle.std.specs.Prelude.{◌≡◌, ℕ, ◌+◌, ◌≤◌, ◌⊎◌, Bool, true, false, not, ◌&&◌, List, [], ◌∷◌, length, Option, Some, None, IfSome, is_some, count_ones, nat_eq, nat_lt}
use Rattle.fop_types.specs.Bounds.{Each, Rises, IsUnit, IsMask, IsOpenFd, IsGfid, IsCell, AreFew, IsOp, content_kind, IsContent}
use Rattle.fop_types.specs.Orders.{cell_cmp}
use Rattle.fop_types.specs.Rank.{rank}
use Rattle.fop_types.specs.StoreOps.{needs, births}
use Rattle.fop_types.specs.declared.answers.IoError.{IoError}
use Rattle.fop_types.specs.declared.answers.IoError.TheVariants as error
use Rattle.fop_types.specs.declared.cells.Aspect.{Aspect}
use Rattle.fop_types.specs.declared.cells.Aspect.TheVariants as aspect
use Rattle.fop_types.specs.declared.cells.Cell.{Cell}
use Rattle.fop_types.specs.declared.contents.Content.{Content}
use Rattle.fop_types.specs.declared.contents.Mask.{Mask}
use Rattle.fop_types.specs.declared.store_ops.StoreOp.{StoreOp}
use Rattle.fop_types.specs.declared.store_ops.StoreOp.TheVariants as op
use Rattle.fop_types.specs.declared.copy_jobs.CopyRecord.{CopyRecord}
use Rattle.fop_types.specs.declared.history.Entry.{Entry}
use Rattle.fop_types.specs.declared.jobs.SetPlan.{SetPlan}
use Rattle.fop_types.specs.declared.jobs.Job.{Job}
use Rattle.fop_types.specs.declared.jobs.Job.TheVariants as job
use Rattle.fop_types.specs.declared.jobs.SetReply.{SetReply}
use Rattle.fop_types.specs.declared.jobs.SetReply.TheVariants as reply

-- an odd number of replicas, at most five, and more than half of them as quorum
abbrev pub IsReplicaCount : ℕ → Type 0
IsReplicaCount n = (n ≡ 1) ⊎ ((n ≡ 3) ⊎ (n ≡ 5))

pub record IsSetPlan (plan : SetPlan) : Type 0 where
  pub replicas : IsReplicaCount (length plan.bricks)
  pub quorum : plan.q + plan.q ≡ length plan.bricks + 1
  pub clients : length plan.clients ≡ length plan.bricks

-- ---- jobs

-- whether a read's cells are a directory's, by their aspects
abbrev pub AgreesWith : Bool → Aspect → Type 0
AgreesWith dir aspect.Data = dir ≡ false
AgreesWith dir aspect.Meta = Unit {0}
AgreesWith dir aspect.Entry = dir ≡ true

abbrev pub AgreeWith : Bool → List Cell → Type 0
AgreeWith dir cells = Each (λ (cell : Cell). AgreesWith dir cell.aspect) cells

-- the op of a birth alone: a directory's copy on a further set
abbrev pub IsBirth : StoreOp → Type 0
IsBirth (op.Write gfid offset bytes) = ⊥
IsBirth (op.Truncate gfid size) = ⊥
IsBirth (op.SetMode gfid mode) = ⊥
IsBirth (op.SetAttr gfid attr) = ⊥
IsBirth (op.DelAttr gfid name) = ⊥
IsBirth (op.AddName parent item mode span) = ⊥
IsBirth (op.DropName parent name) = ⊥
IsBirth (op.DropDir parent name gfid) = ⊥
IsBirth (op.Move parent name target new_name) = ⊥
IsBirth (op.MakeCopy gfid span) = Unit {0}

abbrev pub cells_of : List (Cell × Content) → List Cell
cells_of [] = []
cells_of (b ∷ bs) = b.0 ∷ cells_of bs

-- what a job must meet: one to four cells, rising; a change names the cells that its op needs, a birth those to which
-- it gives birth; every value is within its bounds
abbrev pub IsJob : Job → Type 0
IsJob (job.Read cells fd dir) = AreFew cells × IsUnit fd × AgreeWith dir cells
IsJob (job.Change cells fd op effect) = AreFew cells × IsUnit fd × IsOp op × (cells ≡ needs op)
IsJob (job.Birth cells op) = AreFew cells × IsOp op × IsBirth op × (cells ≡ cells_of (births op))
IsJob (job.Open fd gfid) = IsOpenFd fd × IsGfid gfid
IsJob job.Index = Unit {0}
IsJob (job.Heal cell) = IsCell cell

-- ---- replies

-- one content for each cell, in order, each of its cell's aspect; a content is absent only of a directory on a set
-- other than the first
abbrev pub IsContentOf : Bool → Cell → Option Content → Type 0
IsContentOf may_lack cell None = may_lack ≡ true
IsContentOf may_lack cell (Some content) = (content_kind content ≡ rank cell.aspect) × IsContent true content

abbrev pub AreContentsOf : Bool → List Cell → List (Option Content) → Type 0
AreContentsOf may_lack [] [] = Unit {0}
AreContentsOf may_lack [] (content ∷ contents) = ⊥
AreContentsOf may_lack (cell ∷ cells) [] = ⊥
AreContentsOf may_lack (cell ∷ cells) (content ∷ contents) = IsContentOf may_lack cell content × AreContentsOf may_lack cells contents

-- the number of an entry is there exactly where the change has an effect
abbrev pub IsNumbered : Option Entry → Option ℕ → Type 0
IsNumbered None None = Unit {0}
IsNumbered None (Some number) = ⊥
IsNumbered (Some entry) None = ⊥
IsNumbered (Some entry) (Some number) = 1 ≤ number

-- an I/O error of this set
abbrev pub IsErrorOf : ℕ → IoError → Type 0
IsErrorOf set (error.Quorum of_set lost) = of_set ≡ set
IsErrorOf set (error.Split of_set rows) = of_set ≡ set
IsErrorOf set (error.Fault of_set faults lost) = of_set ≡ set

-- an I/O error of this set that says that its bricks were too few: lost, or answering a fault
abbrev pub IsShortage : ℕ → IoError → Type 0
IsShortage set (error.Quorum of_set lost) = of_set ≡ set
IsShortage set (error.Split of_set rows) = ⊥
IsShortage set (error.Fault of_set faults lost) = of_set ≡ set

-- a listing is short exactly where fewer replicas than a quorum answered, and then it says why
abbrev pub IsShortBy : ℕ → ℕ → Mask → Option IoError → Type 0
IsShortBy set q answered short = (is_some short ≡ nat_lt (count_ones answered.0) q) × IfSome short (IsShortage set)

-- ---- bounds of a reply

abbrev pub AreContents : List (Option Content) → Type 0
AreContents contents = Each (λ (content : Option Content). IfSome content (IsContent true)) contents

-- each content that a reply shows, and each cell that it lists, is within its bounds, whatever it answers
abbrev pub IsSetReply : SetReply → Type 0
IsSetReply (reply.Contents contents place) = AreContents contents
IsSetReply (reply.Decided number) = Unit {0}
IsSetReply reply.Opened = Unit {0}
IsSetReply (reply.Listed cells answered short) = Each IsCell cells
IsSetReply (reply.Healed records) = Unit {0}
IsSetReply (reply.Skipped cause) = Unit {0}
IsSetReply (reply.Io error) = Unit {0}

-- the replies that answer a job
abbrev pub AnswersRead : ℕ → List Cell → Bool → SetReply → Type 0
AnswersRead set cells may_lack (reply.Contents contents place) = AreContentsOf may_lack cells contents
AnswersRead set cells may_lack (reply.Decided number) = ⊥
AnswersRead set cells may_lack reply.Opened = ⊥
AnswersRead set cells may_lack (reply.Listed listed answered short) = ⊥
AnswersRead set cells may_lack (reply.Healed records) = ⊥
AnswersRead set cells may_lack (reply.Skipped cause) = ⊥
AnswersRead set cells may_lack (reply.Io error) = IsErrorOf set error

abbrev pub AnswersChange : ℕ → Option Entry → SetReply → Type 0
AnswersChange set effect (reply.Contents contents place) = ⊥
AnswersChange set effect (reply.Decided number) = IsNumbered effect number
AnswersChange set effect reply.Opened = ⊥
AnswersChange set effect (reply.Listed listed answered short) = ⊥
AnswersChange set effect (reply.Healed records) = ⊥
AnswersChange set effect (reply.Skipped cause) = ⊥
AnswersChange set effect (reply.Io error) = IsErrorOf set error

abbrev pub AnswersOpen : ℕ → SetReply → Type 0
AnswersOpen set (reply.Contents contents place) = ⊥
AnswersOpen set (reply.Decided number) = ⊥
AnswersOpen set reply.Opened = Unit {0}
AnswersOpen set (reply.Listed listed answered short) = ⊥
AnswersOpen set (reply.Healed records) = ⊥
AnswersOpen set (reply.Skipped cause) = ⊥
AnswersOpen set (reply.Io error) = IsShortage set error

abbrev pub AnswersIndex : ℕ → ℕ → SetReply → Type 0
AnswersIndex set q (reply.Contents contents place) = ⊥
AnswersIndex set q (reply.Decided number) = ⊥
AnswersIndex set q reply.Opened = ⊥
AnswersIndex set q (reply.Listed listed answered short) = Each IsCell listed × Rises cell_cmp true listed × IsMask answered × IsShortBy set q answered short
AnswersIndex set q (reply.Healed records) = ⊥
AnswersIndex set q (reply.Skipped cause) = ⊥
AnswersIndex set q (reply.Io error) = ⊥

abbrev pub AnswersHeal : Cell → SetReply → Type 0
AnswersHeal cell (reply.Contents contents place) = ⊥
AnswersHeal cell (reply.Decided number) = ⊥
AnswersHeal cell reply.Opened = ⊥
AnswersHeal cell (reply.Listed listed answered short) = ⊥
AnswersHeal cell (reply.Healed records) = Each (λ (made : CopyRecord). made.cell ≡ cell) records
AnswersHeal cell (reply.Skipped cause) = Unit {0}
AnswersHeal cell (reply.Io error) = ⊥

-- whether a read's content may be absent: only a directory's, on a set other than the first
abbrev pub may_lack : ℕ → Bool → Bool
may_lack set dir = dir && not (nat_eq set 0)

-- Whether a reply of a set answers a job; `set` is the set's number, the first's is 0, and `q` its quorum. A birth is
-- decided without an entry.
abbrev pub IsAnsweredBy : ℕ → ℕ → Job → SetReply → Type 0
IsAnsweredBy set q (job.Read cells fd dir) reply = AnswersRead set cells (may_lack set dir) reply
IsAnsweredBy set q (job.Change cells fd op effect) reply = AnswersChange set effect reply
IsAnsweredBy set q (job.Birth cells op) reply = AnswersChange set None reply
IsAnsweredBy set q (job.Open fd gfid) reply = AnswersOpen set reply
IsAnsweredBy set q job.Index reply = AnswersIndex set q reply
IsAnsweredBy set q (job.Heal cell) reply = AnswersHeal cell reply
