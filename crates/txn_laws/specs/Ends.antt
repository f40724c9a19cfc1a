-- A job ends: between two of its turns others draw numbers, and begin and decide changes. Then it takes at most as many answers and
-- finished copies as its weight at first, and so many more for each change that becomes unsettled on its cells meanwhile.
use Rattle.std.specs.Prelude.{◌≡◌, ℕ, ◌+◌, ◌*◌, ◌≤◌, Bool, true, List, [], ◌∷◌}
use Rattle.fop_types.specs.declared.cells.Cell.{Cell}
use Rattle.fop_types.specs.declared.contents.Mask.{Mask}
use Rattle.fop_types.specs.declared.copy_jobs.CopyDone.{CopyDone}
use Rattle.fop_types.specs.declared.messages.BrickRep.{BrickRep}
use Rattle.afr_ledger.specs.Ledger.{State, with_number, with_begun, decided}
use Rattle.afr_ledger.specs.declared.unsettled.Unsettled.{Unsettled}
use Rattle.afr_phases.specs.Waves.{is_asked}
use Rattle.afr_transaction.specs.declared.txn.Txn.{Txn}
use Rattle.afr_transaction.specs.Answers.{answered, copied}
use Rattle.afr_transaction.specs.Causes.{Tracks}
use Rattle.afr_transaction.specs.Encodings.{HasBounds, HaveFew}
use Rattle.afr_transaction.specs.Requests.{Keeps}
use Rattle.afr_transaction.specs.Shapes.{is_asking, is_copying}
use Rattle.txn_laws.specs.Work.{work}
use Rattle.txn_laws.specs.Rounds.{rounds, LedgerKeeps, sinks_in, LeavesForLoss, IsElsewhere}

-- A lock phase locks four cells at most, and begins with less work than this.
abbrev pub lock_work : ℕ
lock_work = 228

-- how many answers and finished copies a job may take, as long as no change becomes unsettled on its cells
abbrev pub weight : Txn → State Cell → ℕ
weight txn ledger = lock_work * rounds txn ledger + work txn

-- what happens to a job and its ledger: an answer or a finished copy is handed to the job, or others change the ledger
pub data Step : Type 0 where
  Answer : ℕ → ℕ → BrickRep → Mask → List ℕ → Step
  Finish : CopyDone → Mask → List ℕ → Step
  Draw : Step
  Begin : Unsettled Cell → Step
  BeginElsewhere : Unsettled Cell → Step
  Decide : ℕ → Bool → Step

abbrev pub after : Step → Txn → State Cell → Txn × State Cell
after (Answer k mark rep live last) txn ledger = ((answered txn k rep mark ledger live last).0, (answered txn k rep mark ledger live last).1.1)
after (Finish done live last) txn ledger = ((copied txn done ledger live last).0, (copied txn done ledger live last).1.1)
after Draw txn ledger = (txn, with_number ledger)
after (Begin u) txn ledger = (txn, with_begun ledger u)
after (BeginElsewhere u) txn ledger = (txn, with_begun ledger u)
after (Decide change adopted) txn ledger = (txn, decided ledger change adopted)

-- what the job and its ledger keep between two turns
pub record AreWhole (txn : Txn) (ledger : State Cell) : Type 0 where
  pub keeps : Keeps txn
  pub tracks : Tracks txn
  pub bounds : HasBounds txn
  pub kept : LedgerKeeps ledger
  pub few : HaveFew ledger

-- an answer is of a replica that is asked, and a copy is one that was asked for
abbrev pub IsStep : Step → Txn → State Cell → Type 0
IsStep (Answer k mark rep live last) txn ledger = AreWhole txn ledger × ((is_asking txn ≡ true) × (is_asked txn.wave k ≡ true))
IsStep (Finish done live last) txn ledger = AreWhole txn ledger × ((is_copying txn ≡ true) × LeavesForLoss (sinks_in txn.phase) txn done)
IsStep Draw txn ledger = Unit {0}
IsStep (Begin u) txn ledger = Unit {0}
IsStep (BeginElsewhere u) txn ledger = IsElsewhere txn ledger u
IsStep (Decide change adopted) txn ledger = Unit {0}

abbrev pub AreSteps : List Step → Txn → State Cell → Type 0
AreSteps [] txn ledger = Unit {0}
AreSteps (step ∷ steps) txn ledger = IsStep step txn ledger × AreSteps steps (after step txn ledger).0 (after step txn ledger).1

-- whether a step is a turn of the job, and whether a change becomes unsettled by it that may touch the job's cells
abbrev pub turn_of : Step → ℕ
turn_of (Answer k mark rep live last) = 1
turn_of (Finish done live last) = 1
turn_of Draw = 0
turn_of (Begin u) = 0
turn_of (BeginElsewhere u) = 0
turn_of (Decide change adopted) = 0

abbrev pub begin_of : Step → ℕ
begin_of (Answer k mark rep live last) = 0
begin_of (Finish done live last) = 0
begin_of Draw = 0
begin_of (Begin u) = 1
begin_of (BeginElsewhere u) = 0
begin_of (Decide change adopted) = 0

abbrev pub turns : List Step → ℕ
turns [] = 0
turns (step ∷ steps) = turn_of step + turns steps

abbrev pub begins : List Step → ℕ
begins [] = 0
begins (step ∷ steps) = begin_of step + begins steps

-- the law
abbrev pub JobsEnd : Type 0
JobsEnd = (txn : Txn) (ledger : State Cell) (steps : List Step) → AreSteps steps txn ledger → turns steps ≤ weight txn ledger + 2 * lock_work * begins steps
