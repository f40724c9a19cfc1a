-- Holds of different calls do not conflict.
use Rattle.std.proofs.Common.{◌≡◌, ℕ, ◌+◌, inl, inr, true, false, refl, sym, subst, List, [], ◌∷◌}
use Rattle.std.specs.Prelude.{◌≢◌}
use Rattle.afr_machine.specs.Replicas.{with_at}
use Rattle.fop_types.specs.declared.answers.FopAnswer.TheVariants as fop_answer
use Rattle.fop_types.specs.declared.cells.Gfid.{Gfid}
use Rattle.mount_laws.specs.Guards.{Allowed, IsReached}
use Rattle.mount_laws.specs.Holding.{HoldsApart}
use Rattle.mount_laws.specs.Holds.{Hold, Holds, HoldsExclusively, AreApart, holds_without}
use Rattle.mount_laws.specs.Runs.{Run}
use Rattle.mount_laws.specs.States.{State, Call, Status, Runs, held, holds_by}
use Rattle.mount_laws.specs.States.Status.{Unsubmitted, Ready, Running, Answered}
use Rattle.mount_laws.specs.Steps.{Step, after, is_lookup}
use Rattle.mount_laws.proofs.Moving.{quiet}
use Rattle.mount_laws.proofs.Releasing.{fewer_holds, fewer_exclusive}
use Rattle.mount_laws.proofs.Tables.{at_case}

pub flipped : (hs ks : List Hold) → AreApart hs ks → AreApart ks hs
flipped hs ks a = record { first = λ gfid h k. a.second gfid k h; second = λ gfid h k. a.first gfid k h }

none_apart : (ks : List Hold) → AreApart [] ks
none_apart ks = record { first = λ gfid h k. h; second = λ gfid h k. h }

-- ---- one more hold

longer_apart : (d : Hold) (hs ks : List Hold) → AreApart hs ks → AreApart (d ∷ []) ks → AreApart (d ∷ hs) ks
longer_apart d hs ks a b = record { first = λ gfid h k. first gfid k h; second = λ gfid h k. second gfid k h }
  where
    first : (gfid : Gfid) → Holds ks gfid → HoldsExclusively (d ∷ hs) gfid → ⊥
    first gfid k (inl e) = b.first gfid (inl e) k
    first gfid k (inr h) = a.first gfid h k

    second : (gfid : Gfid) → HoldsExclusively ks gfid → Holds (d ∷ hs) gfid → ⊥
    second gfid k (inl e) = b.second gfid (inl e) k
    second gfid k (inr h) = a.second gfid h k

-- one hold less
fewer_apart : (gfid : Gfid) (hs ks : List Hold) → AreApart hs ks → AreApart (holds_without gfid hs) ks
fewer_apart gfid hs ks a = record { first = λ x h k. a.first x (fewer_exclusive gfid hs x h) k; second = λ x h k. a.second x (fewer_holds gfid hs x h) k }

-- ---- one call whose status changes

abbrev AreApartIn : (ℕ → Call) → Type 0
AreApartIn calls = (a b : ℕ) → a ≢ b → AreApart (holds_by (calls a).status) (holds_by (calls b).status)

one_apart : (m : State) (c : ℕ) (call : Call) → HoldsApart m → ((other : ℕ) → other ≢ c → AreApart (holds_by call.status) (held m other)) → AreApartIn (with_at m.calls c call)
one_apart m c call old new a b =
    at_case (λ i (x : Call). i ≢ b → AreApart (holds_by x.status) (holds_by (with_at m.calls c call b).status)) m.calls c call
    (λ ne. at_case (λ j (y : Call). c ≢ j → AreApart (holds_by call.status) (holds_by y.status)) m.calls c call (λ same. absurd (same refl)) b (λ other same. new b other) ne) a
    (λ first ne. at_case (λ j (y : Call). a ≢ j → AreApart (held m a) (holds_by y.status)) m.calls c call (λ same. flipped _ _ (new a first)) b (λ other same. old a b same) ne)

-- a call that holds nothing more
same_apart : (m : State) (c : ℕ) (old new : Run) → HoldsApart m → Runs m c old → new.holds ≡ old.holds → AreApartIn (with_at m.calls c (record (m.calls c) { status = Running new }))
same_apart m c old new a runs same =
    one_apart m c (record (m.calls c) { status = Running new }) a
    (λ other ne. subst (λ (hs : List Hold). AreApart hs (held m other)) (sym same) (subst (λ (s : Status). AreApart (holds_by s) (held m other)) runs (a c other (λ e. ne (sym e)))))

-- one that holds nothing
holds_none : (s : Status) → ((run : Run) → s ≡ Running run → ⊥) → holds_by s ≡ []
holds_none Unsubmitted h = refl
holds_none Ready h = refl
holds_none (Running run) h = absurd (h run refl)
holds_none Answered h = refl

free_apart : (m : State) (c : ℕ) (call : Call) → HoldsApart m → ((run : Run) → call.status ≡ Running run → ⊥) → AreApartIn (with_at m.calls c call)
free_apart m c call a h = one_apart m c call a (λ other ne. subst (λ (hs : List Hold). AreApart hs (held m other)) (sym (holds_none call.status h)) (none_apart (held m other)))

-- ---- each step

step_apart : (m : State) (step : Step) → Allowed m step → HoldsApart m → HoldsApart (after m step)
step_apart m (Step.Submits draws) h a = free_apart m (m.submitted + 1) _ a (λ run e. absurd cc)
step_apart m (Step.Concludes c) h a = free_apart m c _ a (λ run e. absurd cc)
step_apart m (Step.Switches names) h a = a
step_apart m (Step.Begins c f kept) h a = one_apart m c _ a (λ other ne. h.apart other ne)
step_apart m (Step.Settles t u true) h a = same_apart m t.call t.run _ a h.under_way.runs refl
step_apart m (Step.Settles t u false) h a = same_apart m t.call t.run _ a h.under_way.runs refl
step_apart m (Step.EndsSettling t) h a = same_apart m t.call t.run _ a h.under_way.runs refl
step_apart m (Step.BeginsChange t u) h a = same_apart m t.call t.run _ a h.under_way.runs refl
step_apart m (Step.Decides t u) h a = same_apart m t.call t.run _ a h.under_way.runs refl
step_apart m (Step.SendsBirths t) h a = same_apart m t.call t.run _ a h.under_way.runs refl
step_apart m (Step.ConfirmsBirths t) h a = same_apart m t.call t.run _ a h.under_way.runs refl
step_apart m (Step.HandsIn t shown) h a = same_apart m t.call t.run _ a h.under_way.runs refl
step_apart m (Step.Extends c run dir next) h a =
    one_apart m c _ a
    (λ other ne. longer_apart (record { gfid = dir; shared = false }) run.holds (held m other)
    (subst (λ (s : Status). AreApart (holds_by s) (held m other)) h.runs (a c other (λ e. ne (sym e)))) (h.apart other ne))
step_apart m (Step.Releases c run gfid) h a =
    one_apart m c _ a (λ other ne. fewer_apart gfid run.holds (held m other) (subst (λ (s : Status). AreApart (holds_by s) (held m other)) h.runs (a c other (λ e. ne (sym e)))))
step_apart m (Step.Learns c run dir spans) h a = a
step_apart m (Step.Answers c run answer place) h a = free_apart m c _ a (λ other e. quiet (is_lookup run.fop) answer other e)
step_apart m (Step.AnswersAbove c run answer) h a = free_apart m c _ a (λ other e. quiet (is_lookup run.fop) (fop_answer.Call answer) other e)

pub holds_apart : (first : List (List ℕ)) (m : State) → IsReached first m → HoldsApart m
holds_apart first _ (IsReached.Start planned) = λ a b ne. none_apart []
holds_apart first _ (IsReached.Further old step reached allowed) = step_apart old step allowed (holds_apart first old reached)
