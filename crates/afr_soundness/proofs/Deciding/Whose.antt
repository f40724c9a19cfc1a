-- Each step keeps whose change a lock phase decides; and what lock phases decide, over every list of steps.
use Rattle.std.proofs.Common.{◌≡◌, ◌∙◌, ℕ, ◌+◌, ◌≤◌, ◌<◌, Bool, true, false, refl, sym, ap, subst, ◌⊎◌, inl, inr, arith}
use Rattle.std.proofs.lemmas.Bool.{cases_lt}
use Rattle.fop_types.specs.declared.jobs.Job.TheVariants as job
use Rattle.afr_machine.specs.Replicas.{Size, Replicas}
use Rattle.afr_machine.specs.Changes.{Change, Verdict, is_unsettled}
use Rattle.afr_machine.specs.Phases.{Phase, Deciding}
use Rattle.afr_machine.specs.Phases.Deciding.{NoChange, ByPosts, BySettles}
use Rattle.afr_machine.specs.Transactions.{Work, Txn, cells_of_job}
use Rattle.afr_machine.specs.Transactions.Work.{Own, Settles}
use Rattle.afr_machine.specs.States.{State}
use Rattle.afr_machine.specs.Births.{cells_of_work}
use Rattle.afr_machine.specs.Turns.{Turn, MayMarkNow, MaySettleNow, drawing, locking_for}
use Rattle.afr_machine.specs.Steps.{Step, Allowed, after, IsReached}
use Rattle.afr_machine.proofs.Tables.{at_same}
use Rattle.afr_laws.specs.Drawn.{change_of}
use Rattle.afr_laws.specs.OwnChanges.{was_unsettled}
use Rattle.afr_laws.specs.Fresh.{is_behind}
use Rattle.afr_laws.proofs.Bools.{apart_bools}
use Rattle.afr_laws.proofs.Flying.{on_their_way}
use Rattle.afr_laws.proofs.Drawn.{changes_are_drawn}
use Rattle.afr_laws.proofs.Fresh.Known.{phases_are_known}
use Rattle.afr_laws.proofs.Fresh.Phased.{PhasesGo}
use Rattle.afr_laws.proofs.Fresh.Steps.{step_phases}
use Rattle.afr_laws.proofs.Fresh.Turns.{copied_behind}
use Rattle.afr_laws.proofs.Overtaken.Steps.{PhaseFrom, phase_from}
use Rattle.afr_laws.proofs.Overtaken.Steps.PhaseFrom.{Old, Now}
use Rattle.afr_laws.proofs.OwnPhases.{keeps_phases}
use Rattle.afr_soundness.specs.Deciding.{is_locking, IsMarkedIn, IsSettledIn, IsDecidedIn, DecidesExactly, EveryPhaseAccusesAsItDecides}
use Rattle.afr_soundness.proofs.States.{drawn_goes, begun_goes}
use Rattle.afr_soundness.proofs.TxnMoves.{TxnMove, txn_moves}
use Rattle.afr_soundness.proofs.PhaseMoves.{PhaseMove, phase_moves}
use Rattle.afr_soundness.proofs.ChangeMoves.{sent_stays}
use Rattle.afr_soundness.proofs.Deciding.Kept.{change_stays}
use Rattle.afr_soundness.proofs.Deciding.Steps.{knows_after, accused_after}

pub unsettled_was : (v : Verdict) → is_unsettled v ≡ true → was_unsettled v ≡ true
unsettled_was Verdict.Unsettled h = refl
unsettled_was other h = absurd (let e : false ≡ true = h in cc)

module _ (size : Size) (m : State) (r : IsReached size m) (d : DecidesExactly size m) (step : Step) (allowed : Allowed size m step) where
  abbrev new : State
  new = after size m step

  goes : PhasesGo m.ended m.phases (after size m step).phases
  goes = step_phases size m step

  -- a transaction that drew its number keeps it, and ends no lock phase any more
  own_stays : (b u : ℕ) → 1 ≤ u → (m.txns b).own ≡ u → b ≤ m.begun → ((new.txns b).own ≡ u) × ((new.txns b).phase ≡ (m.txns b).phase)
  own_stays b u one own begun = by_case (txn_moves size m step allowed b) where
    locked : (work : Work) → ((locking_for m (m.txns b) work).own ≡ (m.txns b).own) × ((locking_for m (m.txns b) work).phase ≡ (m.txns b).phase)
    locked Own = (refl, refl)
    locked (Settles v) = (refl, refl)

    kept : (y : Txn) → new.txns b ≡ y → y.own ≡ (m.txns b).own → y.phase ≡ (m.txns b).phase → ((new.txns b).own ≡ u) × ((new.txns b).phase ≡ (m.txns b).phase)
    kept y is number phase = (ap (λ (z : Txn). z.own) is ∙ number ∙ own, ap (λ (z : Txn). z.phase) is ∙ phase)

    by_case : TxnMove size m step b (new.txns b) → ((new.txns b).own ≡ u) × ((new.txns b).phase ≡ (m.txns b).phase)
    by_case (TxnMove.Goes none g) = kept (new.txns b) refl g.task.own.own g.task.phase
    by_case (TxnMove.Begins graph own1 step_is at is) = absurd (omega (arith, at, begun))
    by_case (TxnMove.Locks work step_is h is) = kept (locking_for m (m.txns b) work) is (locked work).0 (locked work).1
    by_case (TxnMove.Reaches step_is h is) = absurd (omega (arith, one, own, (d.transactions b).unmarked (ap is_locking h.turn)))
    by_case (TxnMove.Marks step_is h is) = absurd (omega (arith, one, own, h.unmarked))
    by_case (TxnMove.Unsettles step_is h is) = kept _ is refl refl
    by_case (TxnMove.Posts step_is h is) = kept _ is refl refl
    by_case (TxnMove.SettlesAs group adopts step_is h is) = kept _ is refl refl
    by_case (TxnMove.Bears step_is h is) = kept _ is refl refl
    by_case (TxnMove.Copies run step_is h is) = kept _ is refl refl
    by_case (TxnMove.Clears step_is h is) = kept _ is refl refl
    by_case (TxnMove.Polls step_is h is) = kept _ is refl refl
    by_case (TxnMove.Unlocks step_is h is) = kept _ is refl refl
    by_case (TxnMove.Rests step_is h is) = kept _ is refl refl
    by_case (TxnMove.Ends step_is h is) = kept _ is refl refl

  module _ (p : ℕ) (low : p ≤ m.ended) where
    marked_stays : (u : ℕ) → IsMarkedIn m p u → IsMarkedIn new p u
    marked_stays u h =
        let own = own_stays (m.phases p).by u h.one h.own h.begun in
        record {
          one = h.one;
          drawn = omega (arith, h.drawn, drawn_goes size m step allowed);
          by = (change_stays size m r d step allowed u h.drawn).0 ∙ h.by ∙ sym (goes.by p low);
          begun = omega (arith, h.begun, goes.by p low, begun_goes size m step allowed);
          own = ap (λ b. (new.txns b).own) (goes.by p low) ∙ own.0;
          phase = ap (λ b. (new.txns b).phase) (goes.by p low) ∙ own.1 ∙ h.phase;
          cells = goes.cells p low ∙ h.cells ∙ sym (change_stays size m r d step allowed u h.drawn).1;
        }

    decided_stays : (decides : Deciding) → IsDecidedIn m p decides → IsDecidedIn new p decides
    decided_stays NoChange h = tt
    decided_stays (ByPosts u) h = marked_stays u h
    decided_stays (BySettles u group adopts) h = record { drawn = omega (arith, h.drawn, drawn_goes size m step allowed); sent = sent_stays size m step allowed u h.drawn h.sent; cells = goes.cells p low ∙ h.cells ∙ sym (change_stays size m r d step allowed u h.drawn).1 }

    -- ---- a change that is marked now, or settled

    module _ (t : ℕ) (behind : is_behind (m.txns t).stage ≡ true) (at : p ≡ (m.txns t).phase) where
      by_now : (new.phases p).by ≡ t
      by_now = goes.by p low ∙ ap (λ q. (m.phases q).by) at ∙ (keeps_phases size m r).own t ((d.transactions t).one behind)

      cells_now : (new.phases p).cells ≡ cells_of_work m.changes (m.txns t) (m.txns t).work
      cells_now = goes.cells p low ∙ ap (λ q. (m.phases q).cells) at ∙ (phases_are_known size m r t).cells behind

      has_begun : t ≤ m.begun
      has_begun = by_order (cases_lt m.begun t) where
        by_order : (m.begun < t) ⊎ (t ≤ m.begun) → t ≤ m.begun
        by_order (inl later) = apart_bools behind (ap is_behind ((on_their_way size m r).unbegun t later))
        by_order (inr low) = low

      marked_now : step ≡ Step.Turns t Turn.Marks → MayMarkNow size m t → IsMarkedIn new p (m.drawn + 1)
      marked_now step_is h =
          let state_is : new ≡ drawing m t (job.Change h.cells h.fd h.op h.effect) = ap (after size m) step_is ∙ ap (drawing m t) h.job_is in
          record {
            one = omega arith;
            drawn = omega (arith, ap (λ (n : State). n.drawn) state_is);
            by = ap (λ (n : State). (n.changes (m.drawn + 1)).by) state_is ∙ ap (λ (c : Change). c.by) (at_same m.changes (m.drawn + 1) _) ∙ sym by_now;
            begun = omega (arith, by_now, has_begun, begun_goes size m step allowed);
            own = ap (λ b. (new.txns b).own) by_now ∙ ap (λ (n : State). (n.txns t).own) state_is ∙ ap (λ (x : Txn). x.own) (at_same m.txns t _);
            phase = ap (λ b. (new.txns b).phase) by_now ∙ ap (λ (n : State). (n.txns t).phase) state_is ∙ ap (λ (x : Txn). x.phase) (at_same m.txns t _) ∙ sym at;
            cells = cells_now ∙ ap (cells_of_work m.changes (m.txns t)) h.work_is ∙ ap cells_of_job h.job_is
                ∙ sym (ap (λ (n : State). (n.changes (m.drawn + 1)).cells) state_is ∙ ap (λ (c : Change). c.cells) (at_same m.changes (m.drawn + 1) _));
          }

      settled_now : (group : Replicas) (adopts : Bool) → (h : MaySettleNow size m t group adopts) → IsSettledIn new p h.change
      settled_now group adopts h =
          let drawn : h.change ≤ m.drawn = subst (λ w. change_of w ≤ m.drawn) h.work_is ((changes_are_drawn size m r).names t).work in
          record { drawn = omega (arith, drawn, drawn_goes size m step allowed); sent = sent_stays size m step allowed h.change drawn (unsettled_was (m.changes h.change).verdict h.is_unsettled); cells = cells_now ∙ ap (cells_of_work m.changes (m.txns t)) h.work_is ∙ sym (change_stays size m r d step allowed h.change drawn).1 }

    -- ---- either

    same_decided : 1 ≤ p → (new.phases p).decides ≡ (m.phases p).decides → IsDecidedIn new p (new.phases p).decides
    same_decided one is = subst (IsDecidedIn new p) (sym is) (decided_stays (m.phases p).decides (d.decided p one low))

    old_decided : 1 ≤ p → PhaseMove size m step p (new.phases p) → IsDecidedIn new p (new.phases p).decides
    old_decided one (PhaseMove.Same is) = same_decided one (ap (λ (q : Phase). q.decides) is)
    old_decided one (PhaseMove.Reaches t step_is may at is) = absurd (omega (arith, at, low))
    old_decided one (PhaseMove.Marks t step_is h at is) = subst (IsDecidedIn new p) (sym (ap (λ (q : Phase). q.decides) is)) (marked_now t (copied_behind (m.txns t).stage h.copied) at step_is h)
    old_decided one (PhaseMove.Posts t step_is h at is) = same_decided one (ap (λ (q : Phase). q.decides) is)
    old_decided one (PhaseMove.SettlesAs t group adopts step_is h at is) = subst (IsDecidedIn new p) (sym (ap (λ (q : Phase). q.decides) is)) (settled_now t (ap is_behind h.turn) at group adopts h)
    old_decided one (PhaseMove.Asks t k first ask step_is may w at is) = same_decided one (ap (λ (q : Phase). q.decides) is)
    old_decided one (PhaseMove.Clears k by cells who answer run step_is handed stage at is) = same_decided one (ap (λ (q : Phase). q.decides) is)
    old_decided one (PhaseMove.Confirms k by ask answer step_is handed at is) = same_decided one (ap (λ (q : Phase). q.decides) is)

  decided_after : (p : ℕ) → 1 ≤ p → PhaseFrom size m new p → IsDecidedIn new p (new.phases p).decides
  decided_after p one (Old low) = old_decided p low one (phase_moves size m step allowed p)
  decided_after p one (Now t may at is bricks) = subst (IsDecidedIn new p) (sym (ap (λ (q : Phase). q.decides) is)) tt

-- ---- every list of steps

pub decides_exactly : EveryPhaseAccusesAsItDecides
decides_exactly size m IsReached.Start = record {
  accused = λ p one low. absurd (omega (arith, one, low));
  decided = λ p one low. absurd (omega (arith, one, low));
  transactions = λ t. record { one = λ e. absurd cc; unmarked = λ e. absurd cc; decides = tt };
}
decides_exactly size m (IsReached.Further old step reached allowed) =
    let d = decides_exactly size old reached in
    record {
      accused = λ p one low. accused_after size old reached d step allowed p one (phase_from size old step allowed p low);
      decided = λ p one low. decided_after size old reached d step allowed p one (phase_from size old step allowed p low);
      transactions = λ t. knows_after size old reached d step allowed t ((after size old step).txns t) (txn_moves size old step allowed t);
    }
