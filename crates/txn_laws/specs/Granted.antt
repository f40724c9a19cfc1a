-- What a job knows of its replicas is what they answered: their grants, the rows by which it judges who is sound and which a
-- split lists, and their confirmations.
use Rattle.std.specs.Prelude.{◌≡◌, ℕ, ◌<◌, ◌⊎◌, Bool, true, false, List, Option, Some, None, is_some, length, slice_get, slice_index, slice_index_or}
use Rattle.fop_types.specs.declared.cells.Cell.{Cell}
use Rattle.fop_types.specs.declared.contents.Mask.{Mask}
use Rattle.fop_types.specs.declared.contents.Row.{Row}
use Rattle.fop_types.specs.declared.copy_jobs.CopyDone.{CopyDone}
use Rattle.fop_types.specs.declared.jobs.Job.{Job}
use Rattle.fop_types.specs.declared.jobs.SetPlan.{SetPlan}
use Rattle.fop_types.specs.declared.messages.BrickRep.{BrickRep}
use Rattle.afr_ledger.specs.Ledger.{State}
use Rattle.afr_phases.specs.declared.shown.Shown.{Shown}
use Rattle.afr_phases.specs.Answers.{cells_in, content_in, is_plain_done, rows_in}
use Rattle.afr_phases.specs.Flags.{flag, no_flags}
use Rattle.afr_phases.specs.Outs.{is_out}
use Rattle.afr_phases.specs.Shown.{nothing_shown}
use Rattle.afr_phases.specs.Waves.{is_asked, taken}
use Rattle.afr_transaction.specs.declared.need.Need.{Need}
use Rattle.afr_transaction.specs.declared.need.Need.TheVariants as need
use Rattle.afr_transaction.specs.declared.phase.Phase.{Phase}
use Rattle.afr_transaction.specs.declared.phase.Phase.TheVariants as phase
use Rattle.afr_transaction.specs.declared.size.Size.{Size}
use Rattle.afr_transaction.specs.declared.txn.Txn.{Txn}
use Rattle.afr_transaction.specs.Answers.{answered, aspect_at, copied}
use Rattle.afr_transaction.specs.Begins.{fresh, started}
use Rattle.afr_transaction.specs.Requests.{HasGranted, Keeps}
use Rattle.afr_transaction.specs.Shapes.{is_asking, is_copying}

-- ---- answers

-- The answer is the Done that a phase asks for: a lock's has a row for each cell, a fetch's the content of its cell, an index's a
-- list of cells, and any other nothing. Nobody is asked while a copy is made, and after the reply.
abbrev pub is_as_asked : Phase → List Cell → BrickRep → Bool
is_as_asked (phase.Locking at) cells rep = is_some (rows_in rep (length cells))
is_as_asked (phase.Unlocking after) cells rep = is_plain_done rep
is_as_asked (phase.Fetching place from contents) cells rep = is_some (content_in rep (aspect_at (slice_get cells (length contents))))
is_as_asked (phase.Copying sinks rest) cells rep = false
is_as_asked (phase.Marking change) cells rep = is_plain_done rep
is_as_asked (phase.Writing change) cells rep = is_plain_done rep
is_as_asked (phase.Posting change adopted) cells rep = is_plain_done rep
is_as_asked (phase.Settling verdict) cells rep = is_plain_done rep
is_as_asked phase.Bearing cells rep = is_plain_done rep
is_as_asked phase.Opening cells rep = is_plain_done rep
is_as_asked (phase.Listing all) cells rep = is_some (cells_in rep)
is_as_asked phase.Over cells rep = false

-- ---- grants

-- a grant of replica j on this connection that came with an answer of replica k: in a lock phase, with a row for each cell, and on
-- its last connection
pub record IsGrant (txn : Txn) (k : ℕ) (rep : BrickRep) (last : List ℕ) (j connection : ℕ) : Type 0 where
  pub replica : j ≡ k
  pub at : ℕ
  pub phase_is : txn.phase ≡ phase.Locking at
  pub as_asked : is_as_asked txn.phase txn.cells rep ≡ true
  pub connection_is : connection ≡ slice_index last k

abbrev pub BeginsGrant : Type 0
BeginsGrant = (size : Size) (set : SetPlan) (call : ℕ) (job : Job) (ledger : State Cell) (live : Mask) (last : List ℕ) (j connection : ℕ)
    → slice_index_or (started (fresh size set call job) ledger live last).0.locks.at j None ≡ Some connection → ⊥

-- a grant that is noted after an answer was noted before, or came with it
abbrev pub AnswersGrant : Type 0
AnswersGrant = (txn : Txn) (k mark : ℕ) (rep : BrickRep) (ledger : State Cell) (live : Mask) (last : List ℕ) (j connection : ℕ)
    → slice_index_or (answered txn k rep mark ledger live last).0.locks.at j None ≡ Some connection
    → (slice_index_or txn.locks.at j None ≡ Some connection) ⊎ IsGrant txn k rep last j connection

abbrev pub CopiesGrant : Type 0
CopiesGrant = (txn : Txn) (done : CopyDone) (ledger : State Cell) (live : Mask) (last : List ℕ) (j connection : ℕ)
    → slice_index_or (copied txn done ledger live last).0.locks.at j None ≡ Some connection
    → slice_index_or txn.locks.at j None ≡ Some connection

-- ---- rows

-- the rows that replica j showed
abbrev pub rows_by : Shown → ℕ → Option (List Row)
rows_by shown j = slice_index_or shown.rows j None

-- what is shown after was shown before
abbrev pub AreShownSince : Shown → Shown → Type 0
AreShownSince before after = (j : ℕ) (rows : List Row) → rows_by after j ≡ Some rows → rows_by before j ≡ Some rows

-- a job begins with no rows
abbrev pub BeginsShow : Type 0
BeginsShow = (size : Size) (set : SetPlan) (call : ℕ) (job : Job) (ledger : State Cell) (live : Mask) (last : List ℕ)
    → AreShownSince nothing_shown (started (fresh size set call job) ledger live last).0.shown

-- the rows of replica j that came with an answer of replica k, in a lock phase
pub record IsShowing (txn : Txn) (k : ℕ) (rep : BrickRep) (j : ℕ) (rows : List Row) : Type 0 where
  pub replica : j ≡ k
  pub at : ℕ
  pub phase_is : txn.phase ≡ phase.Locking at
  pub rows_are : rows_in rep (length txn.cells) ≡ Some rows

-- rows that are kept after an answer were kept before, or came with it
abbrev pub AnswersShow : Type 0
AnswersShow = (txn : Txn) (k mark : ℕ) (rep : BrickRep) (ledger : State Cell) (live : Mask) (last : List ℕ) (j : ℕ) (rows : List Row)
    → rows_by (answered txn k rep mark ledger live last).0.shown j ≡ Some rows
    → (rows_by txn.shown j ≡ Some rows) ⊎ IsShowing txn k rep j rows

-- a copy shows no rows
abbrev pub CopiesShow : Type 0
CopiesShow = (txn : Txn) (done : CopyDone) (ledger : State Cell) (live : Mask) (last : List ℕ) → AreShownSince txn.shown (copied txn done ledger live last).0.shown

-- ---- a lock phase begins

-- A turn out of another phase that comes to a lock phase begins it: there are no grants and no rows.
abbrev pub IsLocking : Phase → Type 0
IsLocking (phase.Locking at) = Unit {0}
IsLocking (phase.Unlocking after) = ⊥
IsLocking (phase.Fetching place from contents) = ⊥
IsLocking (phase.Copying sinks rest) = ⊥
IsLocking (phase.Marking change) = ⊥
IsLocking (phase.Writing change) = ⊥
IsLocking (phase.Posting change adopted) = ⊥
IsLocking (phase.Settling verdict) = ⊥
IsLocking phase.Bearing = ⊥
IsLocking phase.Opening = ⊥
IsLocking (phase.Listing all) = ⊥
IsLocking phase.Over = ⊥

-- nothing is known of the replicas
pub record KnowsNone (txn : Txn) : Type 0 where
  pub locks : (j connection : ℕ) → slice_index_or txn.locks.at j None ≡ Some connection → ⊥
  pub rows : (j : ℕ) (rows : List Row) → rows_by txn.shown j ≡ Some rows → ⊥

abbrev pub AnswersBegin : Type 0
AnswersBegin = (txn : Txn) (k mark at : ℕ) (rep : BrickRep) (ledger : State Cell) (live : Mask) (last : List ℕ)
    → (answered txn k rep mark ledger live last).0.phase ≡ phase.Locking at
    → IsLocking txn.phase ⊎ KnowsNone (answered txn k rep mark ledger live last).0

abbrev pub CopiesBegin : Type 0
CopiesBegin = (txn : Txn) (done : CopyDone) (ledger : State Cell) (live : Mask) (last : List ℕ) (at : ℕ)
    → (copied txn done ledger live last).0.phase ≡ phase.Locking at
    → IsLocking txn.phase ⊎ KnowsNone (copied txn done ledger live last).0

-- ---- confirmations

-- the turn sends nothing: if it waits, then for what was asked before
abbrev pub SendsNone : Need → Type 0
SendsNone (need.Send list) = ⊥
SendsNone (need.Copy job rows) = Unit {0}
SendsNone (need.Reply reply) = Unit {0}
SendsNone need.Wait = Unit {0}

abbrev pub SendsSome : Need → Type 0
SendsSome (need.Send list) = Unit {0}
SendsSome (need.Copy job rows) = ⊥
SendsSome (need.Reply reply) = ⊥
SendsSome need.Wait = ⊥

abbrev pub BeginsConfirm : Type 0
BeginsConfirm = (size : Size) (set : SetPlan) (call : ℕ) (job : Job) (ledger : State Cell) (live : Mask) (last : List ℕ)
    → (started (fresh size set call job) ledger live last).0.wave.confirmed ≡ no_flags

-- A replica that has confirmed after an answer had before, or this is its answer and the one that the running phase asks for. With
-- new requests all begins anew: nobody has confirmed them.
abbrev pub AnswersConfirm : Type 0
AnswersConfirm = (txn : Txn) (k mark : ℕ) (rep : BrickRep) (ledger : State Cell) (live : Mask) (last : List ℕ) (j : ℕ)
    → flag (answered txn k rep mark ledger live last).0.wave.confirmed j ≡ true
    → SendsNone (answered txn k rep mark ledger live last).1.0
    × ((flag txn.wave.confirmed j ≡ true) ⊎ ((j ≡ k) × (is_as_asked txn.phase txn.cells rep ≡ true)))

abbrev pub CopiesConfirm : Type 0
CopiesConfirm = (txn : Txn) (done : CopyDone) (ledger : State Cell) (live : Mask) (last : List ℕ) (j : ℕ)
    → flag (copied txn done ledger live last).0.wave.confirmed j ≡ true
    → SendsNone (copied txn done ledger live last).1.0 × (flag txn.wave.confirmed j ≡ true)

-- ---- what is kept between two turns

-- in a lock phase each replica before the one that is asked is out, or has granted its lock
abbrev pub CoversIn : Phase → Txn → Type 0
CoversIn (phase.Locking at) txn = (j : ℕ) → j < at → (is_out txn.outs j ≡ true) ⊎ HasGranted txn j
CoversIn (phase.Unlocking after) txn = Unit {0}
CoversIn (phase.Fetching place from contents) txn = Unit {0}
CoversIn (phase.Copying sinks rest) txn = Unit {0}
CoversIn (phase.Marking change) txn = Unit {0}
CoversIn (phase.Writing change) txn = Unit {0}
CoversIn (phase.Posting change adopted) txn = Unit {0}
CoversIn (phase.Settling verdict) txn = Unit {0}
CoversIn phase.Bearing txn = Unit {0}
CoversIn phase.Opening txn = Unit {0}
CoversIn (phase.Listing all) txn = Unit {0}
CoversIn phase.Over txn = Unit {0}

-- a replica has shown a row for each cell
pub record HasRows (txn : Txn) (j : ℕ) : Type 0 where
  pub rows : List Row
  pub shown : rows_by txn.shown j ≡ Some rows
  pub one_each : length rows ≡ length txn.cells

-- and each that has granted its lock has shown its rows; there are five places for locks and for rows
pub record Follows (txn : Txn) : Type 0 where
  pub locks_places : length txn.locks.at ≡ 5
  pub rows_places : length txn.shown.rows ≡ 5
  pub asked : CoversIn txn.phase txn
  pub rows : (j : ℕ) → HasGranted txn j → HasRows txn j

abbrev pub BeginsFollow : Type 0
BeginsFollow = (size : Size) (set : SetPlan) (call : ℕ) (job : Job) (ledger : State Cell) (live : Mask) (last : List ℕ)
    → Follows (started (fresh size set call job) ledger live last).0

abbrev pub AnswersFollow : Type 0
AnswersFollow = (txn : Txn) (k mark : ℕ) (rep : BrickRep) (ledger : State Cell) (live : Mask) (last : List ℕ)
    → is_asking txn ≡ true → Keeps txn → is_asked txn.wave k ≡ true → Follows txn → Follows (answered txn k rep mark ledger live last).0

abbrev pub CopiesFollow : Type 0
CopiesFollow = (txn : Txn) (done : CopyDone) (ledger : State Cell) (live : Mask) (last : List ℕ)
    → is_copying txn ≡ true → Keeps txn → Follows txn → Follows (copied txn done ledger live last).0

-- ---- confirmations, exactly

-- The answer is taken as the phase's own, as asked or not, or all begins anew.
abbrev pub AnswersTake : Type 0
AnswersTake = (txn : Txn) (k mark : ℕ) (rep : BrickRep) (ledger : State Cell) (live : Mask) (last : List ℕ)
    → is_asking txn ≡ true → Keeps txn → is_asked txn.wave k ≡ true → Follows txn
    → (((answered txn k rep mark ledger live last).0.wave ≡ taken txn.wave k (is_as_asked txn.phase txn.cells rep)) × SendsNone (answered txn k rep mark ledger live last).1.0)
    ⊎ (((answered txn k rep mark ledger live last).0.wave.confirmed ≡ no_flags) × SendsSome (answered txn k rep mark ledger live last).1.0)

abbrev pub CopiesTake : Type 0
CopiesTake = (txn : Txn) (done : CopyDone) (ledger : State Cell) (live : Mask) (last : List ℕ)
    → (((copied txn done ledger live last).0.wave ≡ txn.wave) × SendsNone (copied txn done ledger live last).1.0)
    ⊎ (((copied txn done ledger live last).0.wave.confirmed ≡ no_flags) × SendsSome (copied txn done ledger live last).1.0)
