-- Each step lets numbers rise.
use Rattle.std.proofs.Common.{◌≡◌, ℕ, ◌≤◌, false, refl, ap, subst, sym, arith}
use Rattle.std.specs.Prelude.{◌==◌}
use Rattle.fop_types.specs.declared.jobs.Job.{Job}
use Rattle.afr_machine.specs.Replicas.{Size}
use Rattle.afr_machine.specs.Transactions.{Txn, is_over, new_txn}
use Rattle.afr_machine.specs.States.{State}
use Rattle.afr_machine.specs.Answering.{without_first_output}
use Rattle.afr_machine.specs.Turns.{Turn}
use Rattle.afr_machine.specs.Steps.{Step, Allowed, after, IsReached, decided, decided_by}
use Rattle.afr_laws.specs.Drawn.{ChangesAreDrawn}
use Rattle.afr_laws.specs.OwnChanges.{ChangesAreOwn}
use Rattle.afr_laws.specs.Newest.{NumbersRise}
use Rattle.afr_laws.proofs.Carry.{at_case}
use Rattle.afr_laws.proofs.Goes.{begins, step_goes, decided_txns}
use Rattle.afr_laws.proofs.Drawn.{changes_are_drawn}
use Rattle.afr_laws.proofs.OwnChanges.Steps.{changes_are_own}
use Rattle.afr_laws.proofs.Newest.Stays.{TableStays, table_stays, OwnsStay, runs_still, stays_rise, front_stays, cut_stays, decided_stays, is_marking, turn_changes, turn_owns}
use Rattle.afr_laws.proofs.Newest.Draws.{draws_rise}
use Rattle.afr_laws.proofs.Newest.Unsettles.{unsettles_rise}

module _ (size : Size) (m : State) (r : NumbersRise m) where
  -- a step that begins no transaction
  goes_on : (step : Step) → Allowed size m step → begins step ≡ false → TableStays m.changes (after size m step).changes → OwnsStay m.txns (after size m step).txns → NumbersRise (after size m step)
  goes_on step h b table owns = stays_rise m (after size m step) table owns (λ t one runs. runs_still (m.txns t) ((after size m step).txns t) (step_goes size m step h b t) runs) r

  turn_rises : (t : ℕ) (turn : Turn) → Allowed size m (Step.Turns t turn) → begins (Step.Turns t turn) ≡ false → is_marking turn ≡ false → NumbersRise (after size m (Step.Turns t turn))
  turn_rises t turn h b k = goes_on (Step.Turns t turn) h b (subst (TableStays m.changes) (sym (turn_changes size m t turn k)) (table_stays m.changes)) (turn_owns size m t turn k)

  begins_rises : (t graph : ℕ) (own : Job) → NumbersRise (after size m (Step.Turns t (Turn.Begins graph own)))
  begins_rises t graph own = stays_rise m _ (table_stays m.changes) (turn_owns size m t (Turn.Begins graph own) refl)
      (λ i. at_case (λ n (y : Txn). 1 ≤ y.own → is_over y.stage ≡ false → is_over (m.txns n).stage ≡ false) m.txns t (new_txn graph own) (λ one runs. absurd (omega (arith, one))) i (λ ne one runs. runs)) r

  same_owns : (new : State) → new.txns ≡ m.txns → OwnsStay m.txns new.txns
  same_owns new is i one = ap (λ (f : ℕ → Txn). (f i).own) is

step_rises : (size : Size) (m : State) (step : Step) → Allowed size m step → ChangesAreDrawn m → ChangesAreOwn m → NumbersRise m → NumbersRise (after size m step)
step_rises size m (Step.Turns t (Turn.Begins graph own)) h d a r = begins_rises size m r t graph own
step_rises size m (Step.Turns t Turn.Marks) h d a r = draws_rise m d a r t (m.txns t).job
step_rises size m (Step.Turns t turn) h d a r = turn_rises size m r t turn h refl refl
step_rises size m (Step.Asks t k first asked) h d a r = goes_on size m r (Step.Asks t k first asked) h refl (table_stays m.changes) (λ i. at_case (λ n (y : Txn). 1 ≤ y.own → y.own ≡ (m.txns n).own) m.txns t _ (λ one. refl) i (λ ne one. refl))
step_rises size m (Step.HandsIn k) h d a r = let s = front_stays (without_first_output m k) k (m.bricks k).outputs in goes_on size m r (Step.HandsIn k) h refl s.0 s.1
step_rises size m (Step.Bails t k) h d a r = goes_on size m r (Step.Bails t k) h refl (table_stays m.changes) (λ i. at_case (λ n (y : Txn). 1 ≤ y.own → y.own ≡ (m.txns n).own) m.txns t _ (λ one. refl) i (λ ne one. refl))
step_rises size m (Step.Misses t k) h d a r = goes_on size m r (Step.Misses t k) h refl (table_stays m.changes) (λ i. at_case (λ n (y : Txn). 1 ≤ y.own → y.own ≡ (m.txns n).own) m.txns t _ (λ one. refl) i (λ ne one. refl))
step_rises size m (Step.Cuts k g) h d a r = goes_on size m r (Step.Cuts k g) h refl (table_stays m.changes) (cut_stays m (λ other. other == g) k)
step_rises size m (Step.Unsettles t) h d a r = unsettles_rise size m d a r t h
step_rises size m (Step.Decides t) h d a r = goes_on size m r (Step.Decides t) h refl (decided_stays m (decided_by (m.txns t).stage)) (same_owns size m r (decided m (decided_by (m.txns t).stage)) (decided_txns m (decided_by (m.txns t).stage)))
step_rises size m other h d a r = goes_on size m r other h refl (table_stays m.changes) (λ i one. refl)

pub numbers_rise : (size : Size) (m : State) → IsReached size m → NumbersRise m
numbers_rise size m IsReached.Start = record { own = λ t v one runs sent shares. absurd (omega (arith, one)); unsettled = λ u v is sent shares. absurd cc }
numbers_rise size m (IsReached.Further old step reached allowed) = step_rises size old step allowed (changes_are_drawn size old reached) (changes_are_own size old reached) (numbers_rise size old reached)
