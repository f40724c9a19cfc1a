-- A job whose copies `self_heal` makes takes steps by the premise of `txn_laws`, so it ends.
use Rattle.std.proofs.Common.{List, [], ◌∷◌, subst}
use Rattle.fop_types.specs.declared.cells.Cell.{Cell}
use Rattle.fop_types.specs.declared.copy_jobs.CopyDone.{CopyDone}
use Rattle.afr_ledger.specs.Ledger.{State as Ledger, with_number, with_begun, decided}
use Rattle.afr_transaction.specs.declared.need.Need.{Need}
use Rattle.afr_transaction.specs.declared.txn.Txn.{Txn}
use Rattle.afr_transaction.specs.Answers.{answered, copied}
use Rattle.self_heal.specs.declared.stage.CopyNeed.{CopyNeed}
use Rattle.txn_laws.specs.Ends.{Step, Answer, Finish, Draw, Begin, BeginElsewhere, Decide, AreSteps}
use Rattle.txn_laws.specs.Rounds.{sinks_in, LeavesForLoss}
use Rattle.txn_laws.proofs.Ending.{jobs_end}
use Rattle.txn_machine.specs.Ends.{IsFinished, AreStepsOf, JobsWithCopiesEnd}
use Rattle.txn_machine.specs.Leaves.{AsksFor, LeavesIn}
use Rattle.txn_machine.proofs.CopyAsks.{answers_ask_for, copies_ask_for}
use Rattle.txn_machine.proofs.Leaves.{runs_leave_for_loss}

leaves : (txn : Txn) (asked : Need) (done : CopyDone) → AsksFor txn asked → IsFinished asked done → LeavesForLoss (sinks_in txn.phase) txn done
leaves txn asked done asks is = subst (λ (n : CopyNeed). LeavesIn txn n) is.is_done (runs_leave_for_loss txn is.job is.rows is.handed (subst (λ (n : Need). AsksFor txn n) is.asked_is asks))

are_steps : (txn : Txn) (asked : Need) (ledger : Ledger Cell) (steps : List Step) → AsksFor txn asked → AreStepsOf steps txn asked ledger → AreSteps steps txn ledger
are_steps txn asked ledger [] asks h = tt
are_steps txn asked ledger (Answer k mark rep live last ∷ steps) asks h =
    let a = answered txn k rep mark ledger live last in
    (h.0, are_steps a.0 a.1.0 a.1.1 steps (answers_ask_for txn k mark rep ledger live last) h.1)
are_steps txn asked ledger (Finish done live last ∷ steps) asks h =
    let a = copied txn done ledger live last in
    ((h.0.0, (h.0.1.0, leaves txn asked done asks h.0.1.1)), are_steps a.0 a.1.0 a.1.1 steps (copies_ask_for txn done ledger live last) h.1)
are_steps txn asked ledger (Draw ∷ steps) asks h = (tt, are_steps txn asked (with_number ledger) steps asks h.1)
are_steps txn asked ledger (Begin u ∷ steps) asks h = (tt, are_steps txn asked (with_begun ledger u) steps asks h.1)
are_steps txn asked ledger (BeginElsewhere u ∷ steps) asks h = (h.0, are_steps txn asked (with_begun ledger u) steps asks h.1)
are_steps txn asked ledger (Decide change adopted ∷ steps) asks h = (tt, are_steps txn asked (decided ledger change adopted) steps asks h.1)

pub jobs_with_copies_end : JobsWithCopiesEnd
jobs_with_copies_end txn asked ledger steps asks h = jobs_end txn ledger steps (are_steps txn asked ledger steps asks h)
