-- A run of a job ends: from its begin on, with no premise on the job but its bounds, it takes at most so many answers and finished
-- copies as its set, and the unsettled changes on its cells at first, say, and so many more for each that others begin there.
use Rattle.std.specs.Prelude.{◌≡◌, ℕ, ◌+◌, ◌*◌, ◌≤◌, true, List, [], ◌∷◌}
use Rattle.fop_types.specs.Bounds.{IsUnit}
use Rattle.fop_types.specs.Jobs.{IsJob}
use Rattle.fop_types.specs.declared.cells.Cell.{Cell}
use Rattle.fop_types.specs.declared.contents.Mask.{Mask}
use Rattle.fop_types.specs.declared.jobs.Job.{Job}
use Rattle.fop_types.specs.declared.jobs.SetPlan.{SetPlan}
use Rattle.afr_ledger.specs.Ledger.{State}
use Rattle.afr_phases.specs.Waves.{is_asked}
use Rattle.afr_transaction.specs.declared.need.Need.{Need}
use Rattle.afr_transaction.specs.declared.size.Size.{Size}
use Rattle.afr_transaction.specs.declared.txn.Txn.{Txn}
use Rattle.afr_transaction.specs.Answers.{answered, copied}
use Rattle.afr_transaction.specs.Begins.{fresh, started}
use Rattle.afr_transaction.specs.Encodings.{HaveFew}
use Rattle.afr_transaction.specs.Locked.{job_cells}
use Rattle.txn_laws.specs.Ends.{Step, Answer, Finish, Draw, Begin, BeginElsewhere, Decide, after, lock_work, turns, begins}
use Rattle.txn_laws.specs.Rounds.{unsettled_on, sinks_in, LedgerKeeps, LeavesForLoss, IsElsewhere}
use Rattle.txn_laws.specs.Runs.{AwaitsAnswer, AwaitsCopy}

-- what every ledger keeps, and so many cells to each unsettled change as a job has at most
pub record LedgerIsWhole (ledger : State Cell) : Type 0 where
  pub kept : LedgerKeeps ledger
  pub few : HaveFew ledger

-- what the job needs after a step
abbrev pub needed_after : Step → Txn → Need → State Cell → Need
needed_after (Answer k mark rep live last) txn needed ledger = (answered txn k rep mark ledger live last).1.0
needed_after (Finish done live last) txn needed ledger = (copied txn done ledger live last).1.0
needed_after Draw txn needed ledger = needed
needed_after (Begin u) txn needed ledger = needed
needed_after (BeginElsewhere u) txn needed ledger = needed
needed_after (Decide change adopted) txn needed ledger = needed

-- an answer is of a replica that is asked, and a copy is one that was asked for
abbrev pub IsRunStep : Step → Txn → Need → State Cell → Type 0
IsRunStep (Answer k mark rep live last) txn needed ledger = LedgerIsWhole ledger × (AwaitsAnswer needed × (is_asked txn.wave k ≡ true))
IsRunStep (Finish done live last) txn needed ledger = LedgerIsWhole ledger × (AwaitsCopy needed × LeavesForLoss (sinks_in txn.phase) txn done)
IsRunStep Draw txn needed ledger = Unit {0}
IsRunStep (Begin u) txn needed ledger = Unit {0}
IsRunStep (BeginElsewhere u) txn needed ledger = IsElsewhere txn ledger u
IsRunStep (Decide change adopted) txn needed ledger = Unit {0}

abbrev pub AreRunSteps : List Step → Txn → Need → State Cell → Type 0
AreRunSteps [] txn needed ledger = Unit {0}
AreRunSteps (step ∷ steps) txn needed ledger =
    IsRunStep step txn needed ledger × AreRunSteps steps (after step txn ledger).0 (needed_after step txn needed ledger) (after step txn ledger).1

-- 228 for the first lock phase, for each replica of the set, and for each unsettled change on the job's cells; and twice that for
-- each change that others begin on them
abbrev pub RunsEnd : Type 0
RunsEnd = (size : Size) (set : SetPlan) (call : ℕ) (job : Job) (ledger : State Cell) (live : Mask) (last : List ℕ) (steps : List Step)
    → IsJob job → IsUnit call → HaveFew ledger
    → AreRunSteps steps (started (fresh size set call job) ledger live last).0 (started (fresh size set call job) ledger live last).1 ledger
    → turns steps ≤ lock_work * (unsettled_on set.number (job_cells job) ledger.unsettled + size.n + 1) + 2 * lock_work * begins steps
