-- Each request of a run of a transaction meets its guard, at whichever of its turns it is sent.
use Rattle.std.specs.Prelude.{ℕ, List, [], ◌∷◌}
use Rattle.fop_types.specs.declared.cells.Cell.{Cell}
use Rattle.fop_types.specs.declared.contents.Mask.{Mask}
use Rattle.fop_types.specs.declared.jobs.Job.{Job}
use Rattle.fop_types.specs.declared.jobs.SetPlan.{SetPlan}
use Rattle.afr_ledger.specs.Ledger.{State as Ledger}
use Rattle.afr_phases.specs.Answers.{is_plain_done}
use Rattle.afr_phases.specs.Waves.{quiet, taken}
use Rattle.afr_transaction.specs.declared.size.Size.{Size as SetSize}
use Rattle.afr_transaction.specs.declared.txn.Txn.{Txn}
use Rattle.afr_transaction.specs.Begins.{fresh, started}
use Rattle.txn_laws.specs.Runs.{Event, Answer, Finish, turn, AreEvents}
use Rattle.txn_machine.specs.Guards.{AreMet}

-- the requests of one turn
abbrev pub TurnMeets : Event → Txn → Type 0
TurnMeets (Answer k mark rep ledger live last) txn =
    AreMet (turn (Answer k mark rep ledger live last) txn).0 (turn (Answer k mark rep ledger live last) txn).1.0 (taken txn.wave k (is_plain_done rep)) (turn (Answer k mark rep ledger live last) txn).1.1 live last
TurnMeets (Finish done ledger live last) txn = AreMet (turn (Finish done ledger live last) txn).0 (turn (Finish done ledger live last) txn).1.0 quiet (turn (Finish done ledger live last) txn).1.1 live last

abbrev pub TurnsMeet : List Event → Txn → Type 0
TurnsMeet [] txn = Unit {0}
TurnsMeet (event ∷ events) txn = TurnMeets event txn × TurnsMeet events (turn event txn).0

-- the law: a run is as in `txn_laws`, by any answers of replicas that are asked and any finished copies that were asked for
abbrev pub RunsMeetGuards : Type 0
RunsMeetGuards = (size : SetSize) (set : SetPlan) (call : ℕ) (job : Job) (ledger : Ledger Cell) (live : Mask) (last : List ℕ) (events : List Event)
    → AreEvents events (started (fresh size set call job) ledger live last).0 (started (fresh size set call job) ledger live last).1
    → AreMet (started (fresh size set call job) ledger live last).0 (started (fresh size set call job) ledger live last).1 quiet ledger live last
    × TurnsMeet events (started (fresh size set call job) ledger live last).0
