-- The request that a transaction waits for is exactly the one that its phase sends: cells, op, masks and content; and
-- where nothing is on its way, the connection on which it asked has ended. Ours.
use Rattle.std.specs.Prelude.{◌≡◌, ◌⊎◌, ◌≤◌, ℕ, true, false, List, [], ◌∷◌, Some}
use Rattle.fop_types.specs.declared.cells.Cell.{Cell}
use Rattle.fop_types.specs.declared.jobs.Job.{Job}
use Rattle.fop_types.specs.declared.jobs.Job.TheVariants as job
use Rattle.fop_types.specs.declared.store_ops.StoreOp.{StoreOp}
use Rattle.afr_machine.specs.Replicas.{Replicas, Size, outside}
use Rattle.afr_machine.specs.Touching.{has_cell}
use Rattle.afr_machine.specs.Copies.{Fetched}
use Rattle.afr_machine.specs.Requests.{Ask}
use Rattle.afr_machine.specs.Requests.Ask.{Lock, Unlock, Mark, Op, Post, Fetch, Replace, Clear, Settle, Index, Open, Release, OpenFirst}
use Rattle.afr_machine.specs.Changes.{Change}
use Rattle.afr_machine.specs.Transactions.{Stage, Txn}
use Rattle.afr_machine.specs.Transactions.Stage.{Locking, Locked, Marking, Applying, Posting, Settling, Bearing, Copying, Polling, Unlocking}
use Rattle.afr_machine.specs.States.{State, Link, is_current}
use Rattle.afr_machine.specs.Sending.{cleared_by}

-- ---- by a copy, a settling, a job

abbrev pub IsFetching : Stage → ℕ → Cell → Type 0
IsFetching (Copying run) k cell = (run.clears ≡ false) × ((has_cell run.cells cell ≡ true) × (run.sources k ≡ true))
IsFetching other k cell = ⊥

abbrev pub IsReplacing : Stage → ℕ → Cell → Fetched → Type 0
IsReplacing (Copying run) k cell found = (run.clears ≡ false) × ((has_cell run.cells cell ≡ true) × ((run.sinks k ≡ true) × (run.fetched cell ≡ Some found)))
IsReplacing other k cell found = ⊥

abbrev pub IsClearing : Stage → List Cell → Replicas → Type 0
IsClearing (Copying run) cells who = (run.clears ≡ true) × ((cells ≡ run.cells) × (who ≡ cleared_by run))
IsClearing other cells who = ⊥

abbrev pub IsSettlingBy : Size → Stage → ℕ → Replicas → Type 0
IsSettlingBy size (Settling change group adopts) u accused = (change ≡ u) × (accused ≡ outside size group)
IsSettlingBy size other u accused = ⊥

abbrev pub IsReadOf : Job → Cell → Type 0
IsReadOf (job.Read cells fd dir) cell = has_cell cells cell ≡ true
IsReadOf other cell = ⊥

abbrev pub IsBirthBy : Job → StoreOp → Type 0
IsBirthBy (job.Birth cells op) asked = asked ≡ op
IsBirthBy other asked = ⊥

-- ---- what a phase sends to a brick

abbrev pub IsAskedBy : Size → (ℕ → Change) → Job → Stage → ℕ → Ask → Type 0
IsAskedBy size changes own stage k (Lock shared cells) = stage ≡ Locking cells shared k
IsAskedBy size changes own stage k Unlock = stage ≡ Unlocking
IsAskedBy size changes own stage k (Mark u cells) = (stage ≡ Marking u) × (cells ≡ (changes u).cells)
IsAskedBy size changes own stage k (Op u op) = ((stage ≡ Applying u) × (op ≡ (changes u).op)) ⊎ ((stage ≡ Bearing) × ((u ≡ 0) × IsBirthBy own op))
IsAskedBy size changes own stage k (Post u cells accused) = (stage ≡ Posting u) × ((cells ≡ (changes u).cells) × (accused ≡ outside size (changes u).done))
IsAskedBy size changes own stage k (Fetch cell) = ((stage ≡ Locked) × IsReadOf own cell) ⊎ IsFetching stage k cell
IsAskedBy size changes own stage k (Replace cell found) = IsReplacing stage k cell found
IsAskedBy size changes own stage k (Clear cells who) = IsClearing stage cells who
IsAskedBy size changes own stage k (Settle u cells accused) = IsSettlingBy size stage u accused × (cells ≡ (changes u).cells)
IsAskedBy size changes own stage k Index = stage ≡ Polling
IsAskedBy size changes own stage k Open = stage ≡ Polling
IsAskedBy size changes own stage k Release = ⊥
IsAskedBy size changes own stage k OpenFirst = ⊥

-- the last of the requests on their way, behind an open or a request that strayed
abbrev pub LastIs : (Ask → Type 0) → List Ask → Type 0
LastIs P [] = Unit {0}
LastIs P (ask ∷ []) = P ask
LastIs P (ask ∷ (other ∷ others)) = LastIs P (other ∷ others)

abbrev pub AsksAre : Size → (ℕ → Change) → Txn → Type 0
AsksAre size changes x = (k : ℕ) → x.waits k ≡ true → LastIs (IsAskedBy size changes x.job x.stage k) (x.flying k)

abbrev pub EachAskIsOfItsPhase : Size → State → Type 0
EachAskIsOfItsPhase size m = (t : ℕ) → AsksAre size m.changes (m.txns t)

-- ---- answers that do not come any more

-- it asked on a connection that was opened; while nothing is on its way, that one has ended
pub record IsAnsweredOn (link : Link) (flying : List Ask) (asked_on : ℕ) : Type 0 where
  pub opened : asked_on ≤ link.last
  pub ended : flying ≡ [] → is_current link asked_on ≡ false

abbrev pub AnswersComeOn : (ℕ → ℕ → Link) → Txn → Type 0
AnswersComeOn links x = (k : ℕ) → x.waits k ≡ true → IsAnsweredOn (links k x.graph) (x.flying k) (x.asked_on k)

abbrev pub EachAnswerComes : State → Type 0
EachAnswerComes m = (t : ℕ) → AnswersComeOn m.links (m.txns t)
