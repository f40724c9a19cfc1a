-- A copy of `self_heal` leaves a sink out of date only where a replica went out in it: what a copy keeps for the transaction that
-- asked for it, and that it is done so. `txn_laws` counts the rounds of a job on this premise.
use Rattle.std.specs.Prelude.{◌≡◌, ℕ, ◌<◌, true, List, Some, None, slice_index_or}
use Rattle.fop_types.specs.declared.answers.SplitRow.{SplitRow}
use Rattle.fop_types.specs.declared.cells.Cell.{Cell}
use Rattle.fop_types.specs.declared.contents.Mask.{Mask}
use Rattle.fop_types.specs.declared.copy_jobs.CopyDone.{CopyDone}
use Rattle.fop_types.specs.declared.copy_jobs.CopyJob.{CopyJob}
use Rattle.fop_types.specs.declared.copy_jobs.Out.{Out}
use Rattle.fop_types.specs.declared.jobs.Job.{Job}
use Rattle.fop_types.specs.declared.jobs.SetPlan.{SetPlan}
use Rattle.fop_types.specs.declared.messages.BrickRep.{BrickRep}
use Rattle.afr_ledger.specs.Ledger.{State as Ledger}
use Rattle.afr_phases.specs.declared.outs.Outs.{Outs}
use Rattle.afr_phases.specs.CopyWork.{HasHeld}
use Rattle.afr_phases.specs.Flags.{flag, names}
use Rattle.afr_transaction.specs.declared.need.Need.{Need}
use Rattle.afr_transaction.specs.declared.need.Need.TheVariants as need
use Rattle.afr_transaction.specs.declared.size.Size.{Size as SetSize}
use Rattle.afr_transaction.specs.declared.txn.Txn.{Txn}
use Rattle.afr_transaction.specs.Answers.{answered as txn_answered, copied}
use Rattle.afr_transaction.specs.Begins.{fresh, started}
use Rattle.afr_transaction.specs.Txns.{alive}
use Rattle.self_heal.specs.declared.run.CopyRun.{CopyRun}
use Rattle.self_heal.specs.declared.stage.CopyNeed.{CopyNeed}
use Rattle.self_heal.specs.declared.stage.CopyNeed.TheVariants as copy
use Rattle.self_heal.specs.declared.stage.Stage.{Stage as CopyStage}
use Rattle.self_heal.specs.declared.stage.Stage.TheVariants as stage
use Rattle.self_heal.specs.Handed.{Handed, after}
use Rattle.self_heal.specs.Runs.{new_run, sinks_left, next_cell, answered}
use Rattle.txn_laws.specs.Rounds.{sinks_in, LeavesForLoss}

-- ---- the copy that is asked for

-- The job of a copy is that of the transaction: each sink of the phase is a sink of the copy, with its lock held, and there is a
-- source whose lock is held; whose lock is held is used by the transaction.
pub record IsJobFor (txn : Txn) (job : CopyJob) : Type 0 where
  pub sinks : (k : ℕ) → flag (sinks_in txn.phase) k ≡ true → (k < 5) × ((names job.sinks k ≡ true) × (names job.held k ≡ true))
  pub source : HasHeld job.sources job.held
  pub used : (k : ℕ) → k < 5 → names job.held k ≡ true → flag (alive txn) k ≡ true

abbrev pub AsksFor : Txn → Need → Type 0
AsksFor txn (need.Copy job rows) = IsJobFor txn job
AsksFor txn (need.Send list) = Unit {0}
AsksFor txn (need.Reply reply) = Unit {0}
AsksFor txn need.Wait = Unit {0}

-- ---- what a copy keeps

-- each replica that is out is listed by its own number
abbrev pub AreOwnOuts : Outs → Type 0
AreOwnOuts outs = (k : ℕ) (out : Out) → slice_index_or outs.at k None ≡ Some out → out.replica ≡ k

-- while the clear is sent, each sink that is left has every cell
abbrev pub AreCurrentIn : CopyStage → CopyRun → Type 0
AreCurrentIn (stage.Clearing current) run = (k : ℕ) → flag (sinks_left run) k ≡ true → flag current k ≡ true
AreCurrentIn (stage.Fetching from) run = Unit {0}
AreCurrentIn (stage.Replacing origin) run = Unit {0}
AreCurrentIn stage.Over run = Unit {0}

-- the copy is one that the transaction asked for
pub record IsRunFor (txn : Txn) (run : CopyRun) : Type 0 where
  pub job : IsJobFor txn run.job
  pub outs : AreOwnOuts run.outs
  pub current : AreCurrentIn run.stage run

-- what it is done with, where it is done
abbrev pub LeavesIn : Txn → CopyNeed → Type 0
LeavesIn txn (copy.Done done) = LeavesForLoss (sinks_in txn.phase) txn done
LeavesIn txn (copy.Send list) = Unit {0}
LeavesIn txn copy.Wait = Unit {0}

-- ---- the laws

-- each copy that a turn asks for has the job of its transaction
abbrev pub BeginsAskFor : Type 0
BeginsAskFor = (size : SetSize) (set : SetPlan) (call : ℕ) (job : Job) (ledger : Ledger Cell) (live : Mask) (last : List ℕ)
    → AsksFor (started (fresh size set call job) ledger live last).0 (started (fresh size set call job) ledger live last).1

abbrev pub AnswersAskFor : Type 0
AnswersAskFor = (txn : Txn) (k mark : ℕ) (rep : BrickRep) (ledger : Ledger Cell) (live : Mask) (last : List ℕ)
    → AsksFor (txn_answered txn k rep mark ledger live last).0 (txn_answered txn k rep mark ledger live last).1.0

abbrev pub CopiesAskFor : Type 0
CopiesAskFor = (txn : Txn) (done : CopyDone) (ledger : Ledger Cell) (live : Mask) (last : List ℕ)
    → AsksFor (copied txn done ledger live last).0 (copied txn done ledger live last).1.0

-- a copy with such a job begins as one of the transaction, and each answer keeps it so
abbrev pub RunsBegin : Type 0
RunsBegin = (txn : Txn) (job : CopyJob) (rows : List SplitRow) → IsJobFor txn job
    → IsRunFor txn (next_cell (new_run job rows)).0 × LeavesIn txn (next_cell (new_run job rows)).1

abbrev pub RunsGoOn : Type 0
RunsGoOn = (txn : Txn) (run : CopyRun) (k mark : ℕ) (rep : BrickRep) → IsRunFor txn run
    → IsRunFor txn (answered run k rep mark).0 × LeavesIn txn (answered run k rep mark).1

-- so that it is done by the premise of `rounds_are_paid`, whatever is handed in to it
abbrev pub RunsLeaveForLoss : Type 0
RunsLeaveForLoss = (txn : Txn) (job : CopyJob) (rows : List SplitRow) (hs : List Handed) → IsJobFor txn job → LeavesIn txn (after job rows hs).1
