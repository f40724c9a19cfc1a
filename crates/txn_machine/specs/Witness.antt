-- That the laws of requests speak of something: a state that allowed steps lead to, in a set of one replica, at the moment after the
-- turn of a run in which a transaction sends its post.
use Rattle.std.specs.Prelude.{◌≡◌, ℕ, List, [], ◌∷◌, None}
use Rattle.fop_types.specs.declared.cells.Cell.{Cell}
use Rattle.fop_types.specs.declared.contents.Mask.{Mask}
use Rattle.fop_types.specs.declared.jobs.Job.{Job}
use Rattle.fop_types.specs.declared.jobs.SetPlan.{SetPlan}
use Rattle.afr_ledger.specs.Ledger.{State as Ledger}
use Rattle.afr_machine.specs.Replicas.{Size, IsSize}
use Rattle.afr_machine.specs.States.{State}
use Rattle.afr_machine.specs.Steps.{IsReached}
use Rattle.afr_phases.specs.declared.wave.Wave.{Wave}
use Rattle.afr_transaction.specs.declared.phase.Phase.TheVariants as phase
use Rattle.afr_transaction.specs.declared.size.Size.{Size as SetSize}
use Rattle.afr_transaction.specs.declared.txn.Txn.{Txn}
use Rattle.afr_transaction.specs.Begins.{fresh, started}
use Rattle.txn_laws.specs.Runs.{Event, turn, AreEvents}
use Rattle.txn_machine.specs.Guards.{IsAfter}

-- the job after a run
abbrev pub after_run : List Event → Txn → Txn
after_run [] txn = txn
after_run (event ∷ events) txn = after_run events (turn event txn).0

pub record PostIsMet : Type 0 where
  pub size : Size
  pub is_size : IsSize size
  pub m : State
  pub reached : IsReached size m
  pub set_size : SetSize
  pub set : SetPlan
  pub call : ℕ
  pub job : Job
  pub begun : Ledger Cell
  pub live : Mask
  pub last : List ℕ
  pub events : List Event
  pub are : AreEvents events (started (fresh set_size set call job) begun live last).0 (started (fresh set_size set call job) begun live last).1
  pub txn : Txn
  pub run : after_run events (started (fresh set_size set call job) begun live last).0 ≡ txn
  pub change : ℕ
  pub posts : txn.phase ≡ phase.Posting change None
  pub wave : Wave
  pub ledger : Ledger Cell
  pub met : IsAfter size m 1 txn wave ledger live last
