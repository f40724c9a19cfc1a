-- The lock phase that marked a change wrote, once the change became unsettled, over every list of steps.
use Rattle.std.proofs.Common.{◌≡◌, ◌∙◌, ℕ, zero, suc, ◌+◌, ◌≤◌, true, false, refl, sym, ap, subst, ◌⊎◌, inl, inr, arith}
use Rattle.afr_machine.specs.Replicas.{Size, IsSize, Replicas, one_if, count}
use Rattle.afr_machine.specs.Changes.{Change, Verdict}
use Rattle.afr_machine.specs.Phases.{Phase}
use Rattle.afr_machine.specs.Phases.Deciding.{NoChange, ByPosts, BySettles}
use Rattle.afr_machine.specs.States.{State}
use Rattle.afr_machine.specs.Transactions.{Stage}
use Rattle.afr_machine.specs.Steps.{Step, MayUnsettle, Allowed, after, IsReached}
use Rattle.afr_laws.specs.Fresh.{HasWritten}
use Rattle.afr_laws.specs.OwnChanges.{IsOwnStage, was_unsettled}
use Rattle.afr_laws.proofs.Bools.{is_or_not}
use Rattle.afr_laws.proofs.Drawn.{changes_are_drawn}
use Rattle.afr_laws.proofs.Fresh.Known.{phases_are_known}
use Rattle.afr_laws.proofs.Fresh.Steps.{step_phases}
use Rattle.afr_laws.proofs.OwnChanges.Steps.{changes_are_own}
use Rattle.afr_laws.proofs.Overtaken.Steps.{PhaseFrom, phase_from}
use Rattle.afr_laws.proofs.Overtaken.Steps.PhaseFrom.{Old, Now}
use Rattle.afr_soundness.specs.Deciding.{IsMarkedIn, IsDecidedIn}
use Rattle.afr_soundness.proofs.ChangeMoves.{ChangeMove, change_moves}
use Rattle.afr_soundness.proofs.Deciding.Whose.{decides_exactly, unsettled_was}
use Rattle.afr_soundness.proofs.PhaseMoves.{PhaseMove, phase_moves}
use Rattle.afr_soundness.proofs.Unsettled.{becomes_own}
use Rattle.afr_contents.specs.Earlier.{MarksWrote, EveryMarkWrote}

record SomeOf (a : Replicas) : Type 0 where
  member : ℕ
  in_it : a member ≡ true

some_counted : (n : ℕ) (a : Replicas) → 1 ≤ count n a → SomeOf a
some_counted zero a h = absurd (omega (arith, h))
some_counted (suc n) a h = by_case (is_or_not (a n)) (λ more. some_counted n a more) where
  by_case : (a n ≡ true) ⊎ (a n ≡ false) → (1 ≤ count n a → SomeOf a) → SomeOf a
  by_case (inl here) more = record { member = n; in_it = here }
  by_case (inr none) more = more (let e : one_if (a n) ≡ 0 = ap one_if none in omega (arith, h, e))

module _ (size : Size) (m : State) (is : IsSize size) (r : IsReached size m) (step : Step) (allowed : Allowed size m step) (was : MarksWrote m) (p u : ℕ) (one : 1 ≤ p) (low : p ≤ m.ended) where
  abbrev new : State
  new = after size m step

  marked : (m.phases p).decides ≡ ByPosts u → IsMarkedIn m p u
  marked decides = subst (IsDecidedIn m p) decides ((decides_exactly size m r).decided p one low)

  -- the change becomes unsettled now: a quorum confirmed its mark
  now : (t : ℕ) (may : MayUnsettle size m t) → u ≡ may.change → (m.phases p).decides ≡ ByPosts u → (m.phases p).wrote ≡ true
  now t may at decides = subst (λ q. (m.phases q).wrote ≡ true) own_phase (confirmed_wrote some.member some.in_it) where
    mine : IsOwnStage m.changes (m.txns t).own (Stage.Marking may.change)
    mine = subst (IsOwnStage m.changes (m.txns t).own) may.turn ((changes_are_own size m r).own t).stage

    by_txn : (m.phases p).by ≡ t
    by_txn =
        sym (marked decides).by ∙ ap (λ n. (m.changes n).by) (at ∙ sym mine.0)
        ∙ (((changes_are_own size m r).own t).owns (subst (λ n. 1 ≤ n) (sym mine.0) mine.1.0)).by

    own_phase : (m.txns t).phase ≡ p
    own_phase = sym (ap (λ n. (m.txns n).phase) by_txn) ∙ (marked decides).phase

    some : SomeOf (m.txns t).confirmed
    some = some_counted size.replicas (m.txns t).confirmed (let many = may.many in let odd = is.odd in omega (arith, many, odd))

    confirmed_wrote : (k : ℕ) → (m.txns t).confirmed k ≡ true → (m.phases (m.txns t).phase).wrote ≡ true
    confirmed_wrote = (subst (λ s. HasWritten (m.txns t) s (m.phases (m.txns t).phase).wrote) may.turn (phases_are_known size m r t).wrote).1

  wrote_then : (m.phases p).decides ≡ ByPosts u → was_unsettled (new.changes u).verdict ≡ true → ChangeMove size m step u (new.changes u) → (m.phases p).wrote ≡ true
  wrote_then decides sent (ChangeMove.Same is) = was p u one low decides (sym (ap (λ (x : Change). was_unsettled x.verdict) is) ∙ sent)
  wrote_then decides sent (ChangeMove.Marks t step_is h at is) = absurd (let no : false ≡ true = sym (ap (λ (x : Change). was_unsettled x.verdict) is) ∙ sent in cc)
  wrote_then decides sent (ChangeMove.Unsettles t step_is h at is) = now t h at decides
  wrote_then decides sent (ChangeMove.Applies k by v op answer step_is handed stage is) = was p u one low decides (sym (ap (λ (x : Change). was_unsettled x.verdict) is) ∙ sent)
  wrote_then decides sent (ChangeMove.Decides t step_is h at unsettled is) = was p u one low decides (unsettled_was (m.changes u).verdict unsettled)

  -- a change that is drawn now did not become unsettled
  drawn_now : u ≡ m.drawn + 1 → was_unsettled (new.changes u).verdict ≡ true → ChangeMove size m step u (new.changes u) → ⊥
  drawn_now at sent move = none move where
    undrawn : (m.changes u).verdict ≡ Verdict.Undrawn
    undrawn = (changes_are_drawn size m r).beyond u (omega (arith, at))

    old : was_unsettled (m.changes u).verdict ≡ true → ⊥
    old h = absurd (let no : false ≡ true = sym (ap was_unsettled undrawn) ∙ h in cc)

    none : ChangeMove size m step u (new.changes u) → ⊥
    none (ChangeMove.Same is) = old (sym (ap (λ (x : Change). was_unsettled x.verdict) is) ∙ sent)
    none (ChangeMove.Marks t step_is h here is) = absurd (let no : false ≡ true = sym (ap (λ (x : Change). was_unsettled x.verdict) is) ∙ sent in cc)
    none (ChangeMove.Unsettles t step_is h here is) = absurd (let no : Verdict.Undrawn ≡ Verdict.Drawn = sym undrawn ∙ ap (λ n. (m.changes n).verdict) here ∙ (becomes_own size m r step allowed t h).1.1 in cc)
    none (ChangeMove.Applies k by v op answer step_is handed stage is) = old (sym (ap (λ (x : Change). was_unsettled x.verdict) is) ∙ sent)
    none (ChangeMove.Decides t step_is h here unsettled is) = old (unsettled_was (m.changes u).verdict unsettled)

  module _ (decides : (new.phases p).decides ≡ ByPosts u) (sent : was_unsettled (new.changes u).verdict ≡ true) where
    kept : (q : Phase) → new.phases p ≡ q → q.decides ≡ (m.phases p).decides → (m.phases p).wrote ≡ true
    kept q is same = wrote_then (sym (ap (λ (x : Phase). x.decides) is ∙ same) ∙ decides) sent (change_moves size m step allowed u)

    by_move : PhaseMove size m step p (new.phases p) → (m.phases p).wrote ≡ true
    by_move (PhaseMove.Same is) = kept _ is refl
    by_move (PhaseMove.Reaches t step_is may at is) = absurd (omega (arith, at, low))
    by_move (PhaseMove.Marks t step_is may at is) =
        let e : ByPosts (m.drawn + 1) ≡ ByPosts u = sym (ap (λ (x : Phase). x.decides) is) ∙ decides in
        let here : m.drawn + 1 ≡ u = cc in
        absurd (drawn_now (sym here) sent (change_moves size m step allowed u))
    by_move (PhaseMove.Posts t step_is may at is) = kept _ is refl
    by_move (PhaseMove.SettlesAs t group adopts step_is may at is) = absurd (let no : BySettles may.change group adopts ≡ ByPosts u = sym (ap (λ (x : Phase). x.decides) is) ∙ decides in cc)
    by_move (PhaseMove.Asks t k first ask step_is may w at is) = kept _ is refl
    by_move (PhaseMove.Clears k by cells who answer run step_is handed stage at is) = kept _ is refl
    by_move (PhaseMove.Confirms k by ask answer step_is handed at is) = kept _ is refl

    pub still_wrote : (new.phases p).wrote ≡ true
    still_wrote = (step_phases size m step).wrote p low (by_move (phase_moves size m step allowed p))

pub marks_wrote : EveryMarkWrote
marks_wrote size m is IsReached.Start p u one low decides sent = absurd (omega (arith, one, low))
marks_wrote size m is (IsReached.Further old step reached allowed) p u one low decides sent = by_phase (marks_wrote size old is reached) (phase_from size old step allowed p low) where
  by_phase : MarksWrote old → PhaseFrom size old (after size old step) p → ((after size old step).phases p).wrote ≡ true
  by_phase was (Old before) = still_wrote size old is reached step allowed was p u one before decides sent
  by_phase was (Now t may at phase_is bricks) = absurd (let no : NoChange ≡ ByPosts u = sym (ap (λ (x : Phase). x.decides) phase_is) ∙ decides in cc)
