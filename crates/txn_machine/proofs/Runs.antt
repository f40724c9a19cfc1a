-- Each request of a run meets its guard.
use Rattle.std.proofs.Common.{ℕ, Bool, List, [], ◌∷◌}
use Rattle.afr_transaction.specs.declared.need.Need.{Need}
use Rattle.afr_transaction.specs.declared.txn.Txn.{Txn}
use Rattle.afr_transaction.specs.Answers.{answered, copied}
use Rattle.afr_transaction.specs.Begins.{fresh, started}
use Rattle.txn_laws.specs.Granted.{is_as_asked}
use Rattle.txn_laws.specs.Runs.{Event, Answer, Finish, AreEvents, since_sent}
use Rattle.txn_laws.proofs.Running.{IsBetween, asking_now, copying_now, answer_between, copy_between, begun_between}
use Rattle.txn_machine.specs.Runs.{TurnsMeet, RunsMeetGuards}
use Rattle.txn_machine.specs.Works.{Works}
use Rattle.txn_machine.proofs.EachTurn.{begins_meet, answers_meet, copies_meet}

turns_meet : (events : List Event) (txn : Txn) (needed : Need) (said : List (ℕ × Bool)) → IsBetween txn needed said → Works txn → AreEvents events txn needed → TurnsMeet events txn
turns_meet [] txn needed said between works are = tt
turns_meet (Answer k mark r ledger live last ∷ events) txn needed said between works are =
    let now = asking_now txn needed between.going are.0.0 in
    let meet = answers_meet txn k mark r ledger live last now.0 now.1 works are.0.1 in (
      meet.1,
      turns_meet events (answered txn k r mark ledger live last).0 (answered txn k r mark ledger live last).1.0 (since_sent (answered txn k r mark ledger live last).1.0 ((k, is_as_asked txn.phase txn.cells r) ∷ said))
          (answer_between txn k mark r ledger live last said now.0 now.1 between.tracks between.follows between.told are.0.1) meet.0 are.1,
    )
turns_meet (Finish done ledger live last ∷ events) txn needed said between works are =
    let now = copying_now txn needed between.going are.0 in
    let meet = copies_meet txn done ledger live last now.0 now.1 works in (
      meet.1,
      turns_meet events (copied txn done ledger live last).0 (copied txn done ledger live last).1.0 (since_sent (copied txn done ledger live last).1.0 said)
          (copy_between txn done ledger live last said now.0 now.1 between.follows between.told) meet.0 are.1,
    )

pub runs_meet_guards : RunsMeetGuards
runs_meet_guards size set call j ledger live last events are =
    let b = started (fresh size set call j) ledger live last in
    let meet = begins_meet size set call j ledger live last in
    (meet.1, turns_meet events b.0 b.1 [] (begun_between size set call j ledger live last) meet.0 are)
