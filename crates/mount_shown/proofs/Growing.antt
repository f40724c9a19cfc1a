-- The history grows at its end alone, and what was decided of a change stays; so the entry of a change that failed is not there,
-- and comes later or never.
use Rattle.std.proofs.Common.{◌≡◌, ◌≢◌, ◌∙◌, ℕ, zero, suc, ◌+◌, ◌≤◌, true, false, refl, sym, subst, List, [], ◌∷◌, ◌++◌, length, slice_get, Option, Some, None, arith}
use Rattle.std.proofs.lemmas.List.{length-append}
use Rattle.std.proofs.lemmas.Option.{slice_get_within}
use Rattle.afr_machine.specs.Changes.{Verdict}
use Rattle.afr_machine.specs.Changes.Verdict.{Undrawn, Unsettled, Adopted, Dropped}
use Rattle.afr_machine.specs.Replicas.{with_at}
use Rattle.afr_machine.proofs.Tables.{at_other}
use Rattle.dht_fops.specs.Answers.{change_of}
use Rattle.fop_types.specs.declared.flat.FlatOp.{FlatOp}
use Rattle.fop_types.specs.declared.history.Entry.{Entry}
use Rattle.mount_laws.specs.Effects.{HasEffect, HasEntry}
use Rattle.mount_laws.specs.Guards.{Allowed}
use Rattle.mount_laws.specs.States.{State, Change}
use Rattle.mount_laws.specs.Steps.{Step, after, by_effect, ops_with, history_with, change_by}
use Rattle.mount_laws.proofs.Entering.{entered_once, parts_in_order, get_front}
use Rattle.mount_shown.proofs.Decided.{adopted_begun}
use Rattle.mount_shown.specs.Replies.{IsDecided, GoesOn, HistoryGoesOn, EveryFailedIsEnteredLater}

-- ---- lists that grow at their end

op_front : (ops : List FlatOp) (new : FlatOp) (i : ℕ) (o : FlatOp) → slice_get ops i ≡ Some o → slice_get (ops ++ new ∷ []) i ≡ Some o
op_front [] new i o e = absurd cc
op_front (x ∷ ops) new zero o e = e
op_front (x ∷ ops) new (suc i) o e = op_front ops new i o e

entries_stay : (history : List Entry) (effect : Option Entry) (i : ℕ) (entry : Entry) → slice_get history i ≡ Some entry → slice_get (history_with history effect) i ≡ Some entry
entries_stay history None i entry e = e
entries_stay history (Some one) i entry e = get_front history one i (slice_get_within history i entry e) ∙ e

one_more : (history : List Entry) (effect : Option Entry) → length (history_with history effect) ≤ length history + 1
one_more history None = omega arith
one_more history (Some one) = let e : length (history ++ one ∷ []) ≡ length history + 1 = length-append history (one ∷ []) in omega (arith, e)

ops_stay : (ops : List FlatOp) (effect : Option Entry) (one : Option FlatOp) (i : ℕ) (o : FlatOp) → slice_get ops i ≡ Some o → slice_get (by_effect effect ops (ops_with ops one)) i ≡ Some o
ops_stay ops None one i o e = e
ops_stay ops (Some entry) None i o e = e
ops_stay ops (Some entry) (Some one) i o e = op_front ops one i o e

-- ---- each step

undecided : (v : Verdict) → v ≡ Unsettled → IsDecided v → ⊥
undecided v e d = subst IsDecided e d

fresh : (v : Verdict) → v ≡ Undrawn → IsDecided v → ⊥
fresh v e d = subst IsDecided e d

stays_at : (changes : ℕ → Change) (u : ℕ) (new : Change) → (IsDecided (changes u).verdict → ⊥) → (w : ℕ) → IsDecided (changes w).verdict → with_at changes u new w ≡ changes w
stays_at changes u new un w d = at_other changes u new w (λ e. un (subst (λ (i : ℕ). IsDecided (changes i).verdict) e d))

module _ (m : State) where
  decides : (u : ℕ) → (m.changes u).verdict ≡ Unsettled → (new : Change) → (i : ℕ) → IsDecided (m.changes i).verdict → with_at m.changes u new i ≡ m.changes i
  decides u was new = stays_at m.changes u new (undecided (m.changes u).verdict was)

  same_step : (step : Step) → (after m step).history ≡ m.history → (after m step).ops ≡ m.ops → ((u : ℕ) → IsDecided (m.changes u).verdict → (after m step).changes u ≡ m.changes u) → GoesOn m step
  same_step step history ops decided = record {
    entries = λ i entry e. subst (λ (l : List Entry). slice_get l i ≡ Some entry) (sym history) e;
    ops = λ i o e. subst (λ (l : List FlatOp). slice_get l i ≡ Some o) (sym ops) e;
    most = subst (λ (l : List Entry). length l ≤ length m.history + 1) (sym history) (omega arith);
    decided = decided;
  }

  step_goes : (step : Step) → Allowed m step → GoesOn m step
  step_goes (Step.Settles t u true) h = record {
    entries = entries_stay m.history (m.changes u).effect;
    ops = ops_stay m.ops (m.changes u).effect (change_of (m.changes u).op);
    most = one_more m.history (m.changes u).effect;
    decided = decides u h.unsettled.verdict (record (m.changes u) { verdict = Adopted });
  }
  step_goes (Step.Decides t u) h = record {
    entries = entries_stay m.history (m.changes u).effect;
    ops = ops_stay m.ops (m.changes u).effect (change_of (m.changes u).op);
    most = one_more m.history (m.changes u).effect;
    decided = decides u h.unsettled (record (m.changes u) { verdict = Adopted });
  }
  step_goes (Step.Settles t u false) h = same_step (Step.Settles t u false) refl refl (decides u h.unsettled.verdict (record (m.changes u) { verdict = Dropped }))
  step_goes (Step.BeginsChange t u) h = same_step (Step.BeginsChange t u) refl refl (stays_at m.changes u (change_by t.call t.set t.job) (fresh (m.changes u).verdict h.fresh))
  step_goes (Step.Submits draws) h = same_step (Step.Submits draws) refl refl (λ u d. refl)
  step_goes (Step.Concludes c) h = same_step (Step.Concludes c) refl refl (λ u d. refl)
  step_goes (Step.Switches names) h = same_step (Step.Switches names) refl refl (λ u d. refl)
  step_goes (Step.Begins c f kept) h = same_step (Step.Begins c f kept) refl refl (λ u d. refl)
  step_goes (Step.EndsSettling t) h = same_step (Step.EndsSettling t) refl refl (λ u d. refl)
  step_goes (Step.SendsBirths t) h = same_step (Step.SendsBirths t) refl refl (λ u d. refl)
  step_goes (Step.ConfirmsBirths t) h = same_step (Step.ConfirmsBirths t) refl refl (λ u d. refl)
  step_goes (Step.HandsIn t shown) h = same_step (Step.HandsIn t shown) refl refl (λ u d. refl)
  step_goes (Step.Extends c run dir next) h = same_step (Step.Extends c run dir next) refl refl (λ u d. refl)
  step_goes (Step.Releases c run gfid) h = same_step (Step.Releases c run gfid) refl refl (λ u d. refl)
  step_goes (Step.Learns c run dir spans) h = same_step (Step.Learns c run dir spans) refl refl (λ u d. refl)
  step_goes (Step.Answers c run answer place) h = same_step (Step.Answers c run answer place) refl refl (λ u d. refl)
  step_goes (Step.AnswersAbove c run answer) h = same_step (Step.AnswersAbove c run answer) refl refl (λ u d. refl)

pub history_goes : HistoryGoesOn
history_goes = λ first m reached step h. step_goes m step h

-- ---- changes that failed

pub every_failed_later : EveryFailedIsEnteredLater
every_failed_later first m reached = record { later = later; once = (entered_once first m reached).distinct }
  where
    later : (u : ℕ) (entry : Entry) → HasEffect (m.changes u) entry → (m.changes u).verdict ≢ Adopted → HasEntry m.history entry → ⊥
    later u entry has undone there =
        let e = (entered_once first m reached).entered there.index entry there.at in
        let same : e.change ≡ u = (parts_in_order first m reached).once e.change u entry (record { begun = adopted_begun (m.changes e.change).verdict e.adopted; effect = e.effect }) has in
        undone (subst (λ (i : ℕ). (m.changes i).verdict ≡ Adopted) same e.adopted)
