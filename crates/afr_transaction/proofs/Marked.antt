-- An op goes only to replicas that have confirmed the mark.
use Rattle.std.proofs.Common.{◌≡◌, ◌∙◌, ℕ, ◌<◌, Bool, true, false, ◌&&◌, not, nat_lt, cond, List, [], Option, Some, None, is_none, refl, sym, subst, arith}
use Rattle.std.proofs.lemmas.Bool.{cond_both, and_parts}
use Rattle.fop_types.specs.declared.cells.Cell.{Cell}
use Rattle.fop_types.specs.declared.causes.SkipCause.TheVariants as skip
use Rattle.fop_types.specs.declared.contents.Mask.{Mask}
use Rattle.fop_types.specs.declared.jobs.SetReply.{SetReply}
use Rattle.fop_types.specs.declared.jobs.SetReply.TheVariants as reply
use Rattle.fop_types.specs.declared.messages.BrickRep.{BrickRep}
use Rattle.fop_types.specs.declared.messages.BrickReq.TheVariants as req
use Rattle.fop_types.specs.declared.store_ops.StoreOp.{StoreOp}
use Rattle.afr_ledger.specs.Ledger.{State}
use Rattle.afr_phases.specs.declared.locking.LockStep.{LockStep}
use Rattle.afr_phases.specs.declared.locking.LockStep.TheVariants as step
use Rattle.afr_phases.specs.declared.outs.Outs.{Outs}
use Rattle.afr_phases.specs.declared.wave.Wave.{Wave}
use Rattle.afr_phases.specs.Answers.{is_plain_done}
use Rattle.afr_phases.specs.Asked.{is_within, is_waiting, are_granted_within}
use Rattle.afr_phases.specs.Flags.{flag, lowest}
use Rattle.afr_phases.specs.Locking.{next_lock}
use Rattle.afr_phases.specs.Locks.{no_locks, standing}
use Rattle.afr_phases.specs.Outs.{is_out, is_short}
use Rattle.afr_phases.specs.Shown.{nothing_shown}
use Rattle.afr_phases.specs.Tracked.{IsTracked}
use Rattle.afr_phases.specs.Waves.{is_asked, is_over, taken}
use Rattle.afr_phases.proofs.Asked.{each_sent, within_at}
use Rattle.afr_phases.proofs.Tracked.{confirmed_are, heard_one}
use Rattle.afr_phases.proofs.Truths.{below_five}
use Rattle.afr_transaction.specs.declared.need.Need.{Need}
use Rattle.afr_transaction.specs.declared.phase.Phase.{Phase}
use Rattle.afr_transaction.specs.declared.phase.Phase.TheVariants as phase
use Rattle.afr_transaction.specs.declared.phase.Then.{Then}
use Rattle.afr_transaction.specs.declared.phase.Then.TheVariants as next
use Rattle.afr_transaction.specs.declared.txn.Txn.{Txn}
use Rattle.afr_transaction.specs.Answers.{hearing, waiting, write_by, mark_answered, answered_in, idle}
use Rattle.afr_transaction.specs.Causes.{TracksIn}
use Rattle.afr_transaction.specs.Changes.{may_begin}
use Rattle.afr_transaction.specs.Jobs.{change_op}
use Rattle.afr_transaction.specs.Locked.{is_read, to_settle, cells_for, first_step, going, lost_noted, unlock, fail}
use Rattle.afr_transaction.specs.Ops.{OpIsConfirmed, OpsAreConfirmed, OpsFollowMarks}
use Rattle.afr_transaction.specs.Shapes.{suits}
use Rattle.afr_transaction.specs.Txns.{only, alive, healing, io_of, is_heal, kept}

module _ (live : Mask) (last : List ℕ) (wave : Wave) where
  -- neither a lock nor a release is an op
  first_ops : (txn : Txn) (t : Outs × LockStep) → OpsAreConfirmed wave (first_step txn t).1
  first_ops txn (outs, step.Ask k) =
      each_sent (λ j r. OpIsConfirmed wave j r) (only k) (req.Lock txn.call (is_read txn.job && is_none txn.settles) txn.cells) (λ j f. tt)
  first_ops txn (outs, step.Short) = tt
  first_ops txn (outs, step.Reached) = tt

  going_ops : (txn : Txn) (after : Then) (ledger : State Cell) → OpsAreConfirmed wave (going txn after ledger live last).1
  going_ops txn (next.Answer r) ledger = tt
  going_ops txn next.Again ledger =
      first_ops (record txn { cells = cells_for txn ledger (to_settle txn ledger); settles = to_settle txn ledger; locks = no_locks; shown = nothing_shown })
      (next_lock txn.outs no_locks txn.size.n txn.size.q 0 live last)

  unlock_ops : (txn : Txn) (after : Then) (ledger : State Cell) → OpsAreConfirmed wave (unlock txn after ledger live last).1
  unlock_ops txn after ledger =
      cond_both (is_none (lowest (standing txn.locks live last))) _ _ (λ (t : Txn × Need). OpsAreConfirmed wave t.1) (λ e. going_ops (lost_noted txn live last) after ledger)
      (λ e. each_sent (λ j r. OpIsConfirmed wave j r) (standing txn.locks live last) (req.Unlock txn.call) (λ j f. tt))

  fail_ops : (txn : Txn) (ledger : State Cell) → OpsAreConfirmed wave (fail txn ledger live last).1
  fail_ops txn ledger =
      cond_both (is_heal txn.job) (healing txn skip.Majority) (txn, reply.Io (io_of txn)) (λ (f : Txn × SetReply). OpsAreConfirmed wave (unlock f.0 (next.Answer f.1) ledger live last).1)
      (λ e. unlock_ops (record txn { records = [] }) (next.Answer (healing txn skip.Majority).1) ledger) (λ e. unlock_ops txn (next.Answer (reply.Io (io_of txn))) ledger)

-- who is used once the mark is answered has confirmed it
module _ (txn : Txn) (change : ℕ) (ledger : State Cell) (live : Mask) (last : List ℕ) (tracked : IsTracked txn.size.n txn.outs txn.wave) where
  abbrev Confirmed : Txn × (Need × State Cell) → Type 0
  Confirmed t = OpsAreConfirmed txn.wave t.1.0

  used_confirmed : is_over txn.wave ≡ true → (j : ℕ) → flag (alive txn) j ≡ true → flag txn.wave.confirmed j ≡ true
  used_confirmed over j f = sym (confirmed_are txn.size.n txn.outs txn.wave tracked over j (below_five (λ i. nat_lt i txn.size.n && not (is_out txn.outs i)) j f)) ∙ f

  write_ops : is_over txn.wave ≡ true → (op : Option (ℕ × StoreOp)) → Confirmed (write_by op txn change ledger live last)
  write_ops over None = unlock_ops live last txn.wave txn next.Again ledger
  write_ops over (Some op) =
      cond_both (may_begin txn change ledger) _ _ Confirmed
      (λ e. each_sent (λ j r. OpIsConfirmed txn.wave j r) (alive txn) (req.Op change op.0 op.1) (used_confirmed over)) (λ e. unlock_ops live last txn.wave txn next.Again ledger)

  mark_ops : Confirmed (mark_answered txn change ledger live last)
  mark_ops = by (is_over txn.wave) refl where
    by : (b : Bool) → is_over txn.wave ≡ b
        → Confirmed (cond (not b) (kept (waiting txn (phase.Marking change)) ledger) (cond (is_short txn.outs txn.size.n txn.size.q) (kept (fail txn ledger live last) ledger) (write_by (change_op txn.job) txn change ledger live last)))
    by true over =
        cond_both (is_short txn.outs txn.size.n txn.size.q) (kept (fail txn ledger live last) ledger) (write_by (change_op txn.job) txn change ledger live last) Confirmed
        (λ e. fail_ops live last txn.wave txn ledger) (λ e. write_ops over (change_op txn.job))
    by false more = tt

module _ (txn : Txn) (k mark change : ℕ) (rep : BrickRep) (ledger : State Cell) (live : Mask) (last : List ℕ) (low : k < 5) (asked : is_asked txn.wave k ≡ true) where
  marking_ops : TracksIn (phase.Marking change) txn → OpsAreConfirmed (taken txn.wave k (is_plain_done rep)) (answered_in (phase.Marking change) (idle txn) k rep mark ledger live last).1.0
  marking_ops t = mark_ops (hearing (idle txn) k rep mark) change ledger live last (heard_one txn.size.n k mark rep txn.outs txn.wave low asked t)

  in_phase : (p : Phase) → p ≡ phase.Marking change → TracksIn p txn → OpsAreConfirmed (taken txn.wave k (is_plain_done rep)) (answered_in p (idle txn) k rep mark ledger live last).1.0
  in_phase p is =
      subst (λ (q : Phase). TracksIn q txn → OpsAreConfirmed (taken txn.wave k (is_plain_done rep)) (answered_in q (idle txn) k rep mark ledger live last).1.0) (sym is) marking_ops

pub ops_follow : OpsFollowMarks
ops_follow txn k mark change rep ledger live last asking tracks asked is =
    let a = and_parts (is_waiting txn.size.n txn.wave) (are_granted_within txn.size.n txn.locks && suits txn.phase txn) asking in
    let b = and_parts (not (is_over txn.wave)) (is_within txn.size.n txn.wave.asked) a.0 in
    let low : k < txn.size.n = within_at txn.size.n k txn.wave.asked b.1 asked in
    in_phase txn k mark change rep ledger live last (omega (arith, txn.size.few)) asked txn.phase is tracks
