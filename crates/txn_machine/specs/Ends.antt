-- A job whose copies `self_heal` makes ends: the law of `txn_laws`, without its premise on what a copy leaves. Each finished copy
-- is of the job that the last turn asked for, whatever was handed in to it.
use Rattle.std.specs.Prelude.{◌≡◌, ◌+◌, ◌*◌, ◌≤◌, true, List, [], ◌∷◌}
use Rattle.fop_types.specs.declared.answers.SplitRow.{SplitRow}
use Rattle.fop_types.specs.declared.cells.Cell.{Cell}
use Rattle.fop_types.specs.declared.copy_jobs.CopyDone.{CopyDone}
use Rattle.fop_types.specs.declared.copy_jobs.CopyJob.{CopyJob}
use Rattle.afr_ledger.specs.Ledger.{State as Ledger}
use Rattle.afr_phases.specs.Waves.{is_asked}
use Rattle.afr_transaction.specs.declared.need.Need.{Need}
use Rattle.afr_transaction.specs.declared.need.Need.TheVariants as need
use Rattle.afr_transaction.specs.declared.txn.Txn.{Txn}
use Rattle.afr_transaction.specs.Answers.{answered, copied}
use Rattle.afr_transaction.specs.Shapes.{is_asking, is_copying}
use Rattle.self_heal.specs.declared.stage.CopyNeed.TheVariants as copy
use Rattle.self_heal.specs.Handed.{Handed, after as after_copy}
use Rattle.txn_laws.specs.Ends.{Step, Answer, Finish, Draw, Begin, BeginElsewhere, Decide, AreWhole, after, lock_work, weight, turns, begins}
use Rattle.txn_laws.specs.Rounds.{IsElsewhere}
use Rattle.txn_machine.specs.Leaves.{AsksFor}

-- the copy that was asked for is done so
pub record IsFinished (asked : Need) (done : CopyDone) : Type 0 where
  pub job : CopyJob
  pub rows : List SplitRow
  pub handed : List Handed
  pub asked_is : asked ≡ need.Copy job rows
  pub is_done : (after_copy job rows handed).1 ≡ copy.Done done

-- what a job needs after a step: others leave it as it was
abbrev pub need_after : Step → Txn → Need → Ledger Cell → Need
need_after (Answer k mark rep live last) txn asked ledger = (answered txn k rep mark ledger live last).1.0
need_after (Finish done live last) txn asked ledger = (copied txn done ledger live last).1.0
need_after Draw txn asked ledger = asked
need_after (Begin u) txn asked ledger = asked
need_after (BeginElsewhere u) txn asked ledger = asked
need_after (Decide change adopted) txn asked ledger = asked

-- an answer is of a replica that is asked, and a copy is one that was asked for
abbrev pub IsStepOf : Step → Txn → Need → Ledger Cell → Type 0
IsStepOf (Answer k mark rep live last) txn asked ledger = AreWhole txn ledger × ((is_asking txn ≡ true) × (is_asked txn.wave k ≡ true))
IsStepOf (Finish done live last) txn asked ledger = AreWhole txn ledger × ((is_copying txn ≡ true) × IsFinished asked done)
IsStepOf Draw txn asked ledger = Unit {0}
IsStepOf (Begin u) txn asked ledger = Unit {0}
IsStepOf (BeginElsewhere u) txn asked ledger = IsElsewhere txn ledger u
IsStepOf (Decide change adopted) txn asked ledger = Unit {0}

abbrev pub AreStepsOf : List Step → Txn → Need → Ledger Cell → Type 0
AreStepsOf [] txn asked ledger = Unit {0}
AreStepsOf (step ∷ steps) txn asked ledger =
    IsStepOf step txn asked ledger × AreStepsOf steps (after step txn ledger).0 (need_after step txn asked ledger) (after step txn ledger).1

-- the law; that a turn asks for copies of its transaction alone, so that it begins so, is `copies_are_asked_for`
abbrev pub JobsWithCopiesEnd : Type 0
JobsWithCopiesEnd = (txn : Txn) (asked : Need) (ledger : Ledger Cell) (steps : List Step) → AsksFor txn asked → AreStepsOf steps txn asked ledger
    → turns steps ≤ weight txn ledger + 2 * lock_work * begins steps
