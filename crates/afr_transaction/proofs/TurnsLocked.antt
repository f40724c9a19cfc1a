-- The lock phase and the release: whom they ask, and how they end.
use Rattle.std.proofs.Common.{◌≡◌, ℕ, ◌<◌, Bool, true, false, cond, List, [], Option, Some, None, is_none, is_some, length, slice_index_or, refl, sym, ap, arith}
use Rattle.std.proofs.lemmas.Bool.{cond_both, true≢false}
use Rattle.fop_types.specs.declared.cells.Cell.{Cell}
use Rattle.fop_types.specs.declared.causes.SkipCause.TheVariants as skip
use Rattle.fop_types.specs.declared.contents.Mask.{Mask}
use Rattle.fop_types.specs.declared.contents.Row.{Row}
use Rattle.fop_types.specs.declared.jobs.SetReply.{SetReply}
use Rattle.fop_types.specs.declared.jobs.SetReply.TheVariants as reply
use Rattle.fop_types.specs.declared.messages.BrickReq.TheVariants as req
use Rattle.afr_ledger.specs.Ledger.{State}
use Rattle.afr_phases.specs.declared.locking.LockStep.{LockStep}
use Rattle.afr_phases.specs.declared.locking.LockStep.TheVariants as step
use Rattle.afr_phases.specs.declared.outs.Outs.{Outs}
use Rattle.afr_phases.specs.Asked.{are_granted_within}
use Rattle.afr_phases.specs.Flags.{flag, lowest}
use Rattle.afr_phases.specs.Locking.{next_lock}
use Rattle.afr_phases.specs.Locks.{no_locks, stands, standing, is_open}
use Rattle.afr_phases.specs.Shown.{nothing_shown}
use Rattle.afr_phases.specs.Waves.{is_over}
use Rattle.afr_phases.proofs.Grants.{IsStepOf, step_of, none_granted, stands_low}
use Rattle.afr_phases.proofs.Stays.{step_places, lost_five}
use Rattle.afr_phases.proofs.Truths.{flags_at, lowest_there}
use Rattle.afr_transaction.specs.declared.phase.Phase.TheVariants as phase
use Rattle.afr_transaction.specs.declared.phase.Then.{Then}
use Rattle.afr_transaction.specs.declared.phase.Then.TheVariants as next
use Rattle.afr_transaction.specs.declared.txn.Txn.{Txn}
use Rattle.afr_transaction.specs.Locked.{is_read, to_settle, cells_for, locking, first_step, again, going, lost_noted, releasing, unlock, fail}
use Rattle.afr_transaction.specs.Requests.{HasGranted}
use Rattle.afr_transaction.specs.Txns.{over, healing, ending, io_of, is_heal}
use Rattle.afr_transaction.proofs.TurnsBase.{On, IsStill, asks, asks_only, only_alone, over_on}

pub locking_on : (G : Type 0) (txn : Txn) (k : ℕ) → k < txn.size.n → are_granted_within txn.size.n txn.locks ≡ true → (G → length txn.outs.at ≡ 5) → On G txn.size (locking txn k)
locking_on G txn k low locks five = asks_only G txn (req.Lock txn.call _ txn.cells) (phase.Locking k) locks five k low (only_alone k) (λ g. tt) (λ g. (refl, refl))

ending_on : (G : Type 0) (txn : Txn) → is_over txn.wave ≡ true → On G txn.size (ending txn)
ending_on G txn still =
    cond_both (is_heal txn.job) (healing txn skip.Majority) (txn, reply.Io (io_of txn)) (λ (f : Txn × SetReply). On G txn.size (over f.0 f.1)) (λ e. ((refl, still), λ g. tt)) (λ e. ((refl, still), λ g. tt))

first_on : (G : Type 0) (txn : Txn) (t : Outs × LockStep) → IsStepOf txn.size.n txn.size.q t → (G → length t.0.at ≡ 5) → is_over txn.wave ≡ true → are_granted_within txn.size.n txn.locks ≡ true → On G txn.size (first_step txn t)
first_on G txn (outs, step.Ask k) low five still locks = locking_on G (record txn { outs = outs }) k low locks five
first_on G txn (outs, step.Short) low five still locks = ending_on G (record txn { outs = outs }) still
first_on G txn (outs, step.Reached) low five still locks = ending_on G (record txn { outs = outs }) still

module _ (G : Type 0) (live : Mask) (last : List ℕ) where
  pub again_on : (txn : Txn) (ledger : State Cell) → is_over txn.wave ≡ true → (G → length txn.outs.at ≡ 5) → On G txn.size (again txn ledger live last)
  again_on txn ledger still five =
      first_on G (record txn { cells = cells_for txn ledger (to_settle txn ledger); settles = to_settle txn ledger; locks = no_locks; shown = nothing_shown })
      (next_lock txn.outs no_locks txn.size.n txn.size.q 0 live last) (step_of txn.size.n txn.size.q live last txn.outs no_locks 0)
      (λ g. step_places txn.size.n txn.size.q 0 txn.outs no_locks live last (five g)) still (none_granted txn.size.n)

  pub going_on : (txn : Txn) (after : Then) (ledger : State Cell) → is_over txn.wave ≡ true → (G → length txn.outs.at ≡ 5) → On G txn.size (going txn after ledger live last)
  going_on txn (next.Answer reply) ledger still five = over_on G txn reply still
  going_on txn next.Again ledger still five = again_on txn ledger still five

  -- a lock that is still held was granted
  granted_at : (txn : Txn) (k : ℕ) → stands txn.locks k live last ≡ true → HasGranted txn k
  granted_at txn k holds = by (slice_index_or txn.locks.at k None) holds where
    by : (o : Option ℕ) → is_open o k live last ≡ true → is_some o ≡ true
    by None h = absurd (true≢false (sym h))
    by (Some connection) h = refl

  release_on : (txn : Txn) (after : Then) (ledger : State Cell) → IsStill G txn → On G txn.size (releasing txn after ledger live last)
  release_on txn after ledger still =
      cond_both (is_none (lowest (standing txn.locks live last))) _ _ (On G txn.size) (λ e. going_on txn after ledger still.0 still.1.1)
      (λ e. let some = lowest_there (standing txn.locks live last) e in
      asks G txn (req.Unlock txn.call) (phase.Unlocking after) still.1.0 still.1.1 (λ k. stands txn.locks k live last) some.0 some.1.0
      (λ j h. stands_low txn.size.n j txn.locks live last still.1.0 (flags_at (λ k. stands txn.locks k live last) j h)) refl (λ g. tt)
      (λ g j h. (granted_at txn j (flags_at (λ k. stands txn.locks k live last) j h), refl)))

  pub unlock_on : (txn : Txn) (after : Then) (ledger : State Cell) → IsStill G txn → On G txn.size (unlock txn after ledger live last)
  unlock_on txn after ledger still =
      release_on (lost_noted txn live last) after ledger (still.0, (still.1.0, λ g. lost_five txn.size.n txn.outs txn.locks live last (still.1.1 g)))

  pub fail_on : (txn : Txn) (ledger : State Cell) → IsStill G txn → On G txn.size (fail txn ledger live last)
  fail_on txn ledger still =
      cond_both (is_heal txn.job) (healing txn skip.Majority) (txn, reply.Io (io_of txn)) (λ (f : Txn × SetReply). On G txn.size (unlock f.0 (next.Answer f.1) ledger live last))
      (λ e. unlock_on (record txn { records = [] }) (next.Answer (healing txn skip.Majority).1) ledger still) (λ e. unlock_on txn (next.Answer (reply.Io (io_of txn))) ledger still)
