-- The transaction of an overtaken lock phase has no open grant where the later one reached, over every list of steps.
use Rattle.std.proofs.Common.{◌≡◌, ◌∙◌, ℕ, ◌+◌, ◌≤◌, ◌<◌, Bool, true, false, refl, sym, ap, subst, ◌⊎◌, inl, inr, arith, Option, Some, None}
use Rattle.std.specs.Prelude.{◌≢◌, ◌&&◌, not}
use Rattle.std.proofs.lemmas.Bool.{cases_eq}
use Rattle.fop_types.specs.declared.jobs.Job.{Job}
use Rattle.fop_types.specs.declared.jobs.Job.TheVariants as job
use Rattle.afr_machine.specs.Replicas.{Size, Replicas, count, with_at}
use Rattle.afr_machine.specs.Touching.{share}
use Rattle.afr_machine.specs.Locks.{BrickLock, conflict}
use Rattle.afr_machine.specs.Phases.{Phase}
use Rattle.afr_machine.specs.Transactions.{Work, Stage, Grant}
use Rattle.afr_machine.specs.States.{State, is_current, phase_of}
use Rattle.afr_machine.specs.Births.{cells_of_work}
use Rattle.afr_machine.specs.Answering.{without_first_output}
use Rattle.afr_machine.specs.Turns.{Turn, MayReach, is_granted, open_grants, cells_locked, phase_reached, after_turn, drawing, posting, settling, bearing, clearing}
use Rattle.afr_machine.specs.Steps.{Step, Allowed, after, IsReached, decided_by}
use Rattle.afr_machine.proofs.Tables.{at_same}
use Rattle.afr_laws.specs.Grants.{lock_of, is_unlocking}
use Rattle.afr_laws.specs.Apart.{IsGranted}
use Rattle.afr_laws.specs.Apart.IsGranted.{HandedIn}
use Rattle.afr_laws.specs.Fresh.{is_behind, AsksFor}
use Rattle.afr_laws.specs.Work.{shares_of, IsOfWork}
use Rattle.afr_laws.specs.Overtaken.{IsOvertakenBy, OvertakenApart, PhasesReachMany, OvertakenHasFew, EveryOvertakenIsApart}
use Rattle.afr_laws.proofs.Bools.{is_or_not, apart_bools}
use Rattle.afr_laws.proofs.Counts.{count_within, count_outside}
use Rattle.afr_laws.proofs.Flying.{on_their_way}
use Rattle.afr_laws.proofs.Waiting.{waits_fit}
use Rattle.afr_laws.proofs.Grants.{grants_are_held}
use Rattle.afr_laws.proofs.Apart.Steps.{grants_apart}
use Rattle.afr_laws.proofs.Fresh.Phased.{PhasesGo, SamePhase}
use Rattle.afr_laws.proofs.Fresh.Known.{phases_are_known}
use Rattle.afr_laws.proofs.Fresh.Steps.{front_ended, unsettling_ended, decided_ended, step_phases}
use Rattle.afr_laws.proofs.Work.Known.{works_are_known}
use Rattle.afr_laws.proofs.Standing.Steps.{links_back}
use Rattle.afr_laws.proofs.Overtaken.Behind.{BehindFrom, behind_from}
use Rattle.afr_laws.proofs.Overtaken.Behind.BehindFrom.{NotNow, Ends, Same}

-- ---- open grants

pub record HasOpen (m : State) (t k : ℕ) : Type 0 where
  pub grant : Grant
  pub granted : (m.txns t).grants k ≡ Some grant
  pub current : is_current (m.links k (m.txns t).graph) grant.connection ≡ true

pub has_open : (m : State) (t k : ℕ) → open_grants m t k ≡ true → HasOpen m t k
has_open m t k h = of_option ((m.txns t).grants k) refl h where
  of_option : (o : Option Grant) → (m.txns t).grants k ≡ o → is_granted o m t k ≡ true → HasOpen m t k
  of_option None is e = absurd cc
  of_option (Some grant) is e = record { grant = grant; granted = is; current = e }

pub opens : (m : State) (t k : ℕ) → HasOpen m t k → open_grants m t k ≡ true
opens m t k h = ap (λ o. is_granted o m t k) h.granted ∙ h.current

behind_holds : (stage : Stage) → is_behind stage ≡ true → is_unlocking stage ≡ false
behind_holds Stage.Unlocking h = absurd cc
behind_holds other h = refl

-- ---- which lock phases have ended

abbrev is_reach : Turn → Bool
is_reach Turn.Reaches = true
is_reach other = false

module _ (size : Size) (m : State) where
  turn_keeps : (t : ℕ) (turn : Turn) → is_reach turn ≡ false → (after_turn size m t turn).ended ≡ m.ended
  turn_keeps t Turn.Reaches e = absurd cc
  turn_keeps t Turn.Marks e = drawn (m.txns t).job where
    drawn : (own : Job) → (drawing m t own).ended ≡ m.ended
    drawn (job.Change cells fd op effect) = refl
    drawn other = refl
  turn_keeps t Turn.Posts e = posted (m.txns t).stage where
    posted : (stage : Stage) → (posting size m t stage).ended ≡ m.ended
    posted (Stage.Applying u) = refl
    posted other = refl
  turn_keeps t (Turn.SettlesAs group adopts) e = settled (m.txns t).work where
    settled : (work : Work) → (settling size m t work group adopts).ended ≡ m.ended
    settled Work.Own = refl
    settled (Work.Settles u) = refl
  turn_keeps t Turn.Bears e = born (m.txns t).job where
    born : (own : Job) → (bearing m t own).ended ≡ m.ended
    born (job.Birth cells op) = refl
    born other = refl
  turn_keeps t Turn.Clears e = cleared (m.txns t).stage where
    cleared : (stage : Stage) → (clearing m t stage).ended ≡ m.ended
    cleared (Stage.Copying run) = refl
    cleared other = refl
  turn_keeps t other e = refl

  -- a phase that had ended, or the one that ends now
  pub data PhaseFrom (new : State) (p : ℕ) : Type 0 where
    Old : p ≤ m.ended → PhaseFrom new p
    Now : (t : ℕ) → MayReach size m t → p ≡ m.ended + 1 → new.phases p ≡ phase_reached m t → new.bricks ≡ m.bricks → PhaseFrom new p

  old_phase : (new : State) (p : ℕ) → new.ended ≡ m.ended → p ≤ new.ended → PhaseFrom new p
  old_phase new p same low = Old (omega (arith, same, low))

  pub phase_from : (step : Step) → Allowed size m step → (p : ℕ) → p ≤ (after size m step).ended → PhaseFrom (after size m step) p
  phase_from (Step.Turns t Turn.Reaches) h p low = by_case (cases_eq p (m.ended + 1)) where
    by_case : (p ≡ m.ended + 1) ⊎ (p ≢ m.ended + 1) → PhaseFrom (after size m (Step.Turns t Turn.Reaches)) p
    by_case (inl same) = Now t h same (ap (with_at m.phases (m.ended + 1) (phase_reached m t)) same ∙ at_same m.phases (m.ended + 1) (phase_reached m t)) refl
    by_case (inr other) = Old (omega (arith, low, other))
  phase_from (Step.Turns t turn) h p low = old_phase (after size m (Step.Turns t turn)) p (turn_keeps t turn refl) low
  phase_from (Step.HandsIn k) h p low = old_phase (after size m (Step.HandsIn k)) p (front_ended (without_first_output m k) k (m.bricks k).outputs) low
  phase_from (Step.Unsettles t) h p low = old_phase (after size m (Step.Unsettles t)) p (unsettling_ended m t (m.txns t).stage) low
  phase_from (Step.Decides t) h p low = old_phase (after size m (Step.Decides t)) p (decided_ended m (decided_by (m.txns t).stage)) low
  phase_from other h p low = old_phase (after size m other) p refl low

-- at most one lock phase ends in a step
pub ended_most : (size : Size) (m : State) (step : Step) → Allowed size m step → (after size m step).ended ≤ m.ended + 1
ended_most size m step allowed = by_case (phase_from size m step allowed (after size m step).ended (omega arith)) where
  by_case : PhaseFrom size m (after size m step) (after size m step).ended → (after size m step).ended ≤ m.ended + 1
  by_case (Old low) = omega (arith, low)
  by_case (Now other may at is bricks) = omega (arith, at)

-- ---- one step

module _ (size : Size) (m : State) (r : IsReached size m) (step : Step) (allowed : Allowed size m step) (was : OvertakenApart m) where
  abbrev new : State
  new = after size m step

  goes : PhasesGo m.ended m.phases (after size m step).phases
  goes = step_phases size m step

  module _ (t p k : ℕ) (behind : is_behind (m.txns t).stage ≡ true) (same : SamePhase (m.txns t) (new.txns t)) (graph : (new.txns t).graph ≡ (m.txns t).graph) (grants : (j : ℕ) (grant : Grant) → (new.txns t).grants j ≡ Some grant → (m.txns t).grants j ≡ Some grant)
      (exclusive : shares_of (new.txns t).job (new.txns t).work ≡ false) (over : IsOvertakenBy new t p) (reached : (new.phases p).reached k ≡ true) where
    was_open : HasOpen new t k → HasOpen m t k
    was_open h = record {
      grant = h.grant;
      granted = grants k h.grant h.granted;
      current = links_back size m step allowed k (m.txns t).graph h.grant.connection ((grants_are_held size m r).handed t k h.grant (grants k h.grant h.granted)).numbered (subst (λ g. is_current (new.links k g) h.grant.connection ≡ true) graph h.current);
    }

    low : (m.txns t).phase ≤ m.ended
    low = (phases_are_known size m r t).low

    was_exclusive : shares_of (m.txns t).job (m.txns t).work ≡ false
    was_exclusive = sym (ap (λ j. shares_of j (new.txns t).work) same.job ∙ ap (shares_of (m.txns t).job) same.work) ∙ exclusive

    -- the cells of its own lock phase stay
    own_cells : (phase_of new t).cells ≡ (phase_of m t).cells
    own_cells = ap (λ q. (new.phases q).cells) same.phase ∙ goes.cells (m.txns t).phase low

    old_closed : p ≤ m.ended → HasOpen new t k → ⊥
    old_closed ended h =
        let over_then : IsOvertakenBy m t p = record {
          later = subst (λ q. q < p) same.phase over.later;
          ended = ended;
          common = sym (ap (λ cs. share cs (new.phases p).cells) own_cells ∙ ap (share (phase_of m t).cells) (goes.cells p ended)) ∙ over.common;
        } in
        apart_bools (opens m t k (was_open h)) (was t p k behind was_exclusive over_then (sym (ap (λ (f : Replicas). f k) (goes.reached p ended)) ∙ reached))

    -- a phase that ends now reaches bricks whose grants are open: no other conflicting one is
    now_closed : (other : ℕ) → MayReach size m other → new.phases p ≡ phase_reached m other → HasOpen new t k → ⊥
    now_closed other may is h = apart_bools common apart where
      mine : HasOpen m t k
      mine = was_open h

      theirs : HasOpen m other k
      theirs = has_open m other k (sym (ap (λ (q : Phase). q.reached k) is) ∙ reached)

      differ : t ≢ other
      differ e = apart_bools behind (ap (λ n. is_behind (m.txns n).stage) e ∙ ap is_behind may.turn)

      lock : (n : ℕ) → HasOpen m n k → BrickLock
      lock n o = lock_of n (m.txns n).graph o.grant

      granted : (n : ℕ) (o : HasOpen m n k) → is_unlocking (m.txns n).stage ≡ false → IsGranted m k (lock_of n (m.txns n).graph o.grant)
      granted n o holding = HandedIn n o.grant (record { granted = o.granted; still_open = o.current; holding = holding }) refl

      no_conflict : conflict (lock_of t (m.txns t).graph mine.grant) (lock_of other (m.txns other).graph theirs.grant) ≡ false
      no_conflict = grants_apart size m r k (lock_of t (m.txns t).graph mine.grant) (lock_of other (m.txns other).graph theirs.grant) differ (granted t mine (behind_holds (m.txns t).stage behind)) (granted other theirs (ap is_unlocking may.turn))

      of_work : (n : ℕ) (o : HasOpen m n k) → IsOfWork (cells_of_work m.changes (m.txns n) (m.txns n).work) (shares_of (m.txns n).job (m.txns n).work) o.grant
      of_work n o = (works_are_known size m r n).grants k o.grant o.granted

      first_exclusive : (s a b : Bool) → (s && not (a && b)) ≡ false → a ≡ false → s ≡ false
      first_exclusive false a b e alone = refl
      first_exclusive true true b e alone = alone
      first_exclusive true false b e alone = e

      cells_apart : share mine.grant.cells theirs.grant.cells ≡ false
      cells_apart = first_exclusive (share mine.grant.cells theirs.grant.cells) mine.grant.shared theirs.grant.shared no_conflict ((of_work t mine).kind ∙ was_exclusive)

      their_cells : cells_of_work m.changes (m.txns other) (m.txns other).work ≡ may.cells
      their_cells = sym (subst (λ s. AsksFor s (cells_of_work m.changes (m.txns other) (m.txns other).work)) may.turn (phases_are_known size m r other).asks)

      phase_cells : (new.phases p).cells ≡ may.cells
      phase_cells = ap (λ (q : Phase). q.cells) is ∙ ap cells_locked may.turn

      common : share (cells_of_work m.changes (m.txns t) (m.txns t).work) may.cells ≡ true
      common = sym (ap (λ cs. share cs (new.phases p).cells) (own_cells ∙ (phases_are_known size m r t).cells behind) ∙ ap (share (cells_of_work m.changes (m.txns t) (m.txns t).work)) phase_cells) ∙ over.common

      apart : share (cells_of_work m.changes (m.txns t) (m.txns t).work) may.cells ≡ false
      apart = sym (ap (λ cs. share cs theirs.grant.cells) (of_work t mine).over ∙ ap (share (cells_of_work m.changes (m.txns t) (m.txns t).work)) ((of_work other theirs).over ∙ their_cells)) ∙ cells_apart

    closed : PhaseFrom size m new p → (open_grants new t k ≡ true) ⊎ (open_grants new t k ≡ false) → open_grants new t k ≡ false
    closed from (inr none) = none
    closed (Old ended) (inl is_open) = absurd (old_closed ended (has_open new t k is_open))
    closed (Now other may at is bricks) (inl is_open) = absurd (now_closed other may is (has_open new t k is_open))

  step_apart : OvertakenApart (after size m step)
  step_apart t p k behind exclusive over reached = by_case (behind_from size m (on_their_way size m r) (waits_fit size m r) step allowed t) where
    by_case : BehindFrom m t ((after size m step).txns t) → open_grants (after size m step) t k ≡ false
    by_case (NotNow none) = apart_bools behind none
    by_case (Ends now) = absurd (of_phase (phase_from size m step allowed p over.ended)) where
      of_phase : PhaseFrom size m (after size m step) p → ⊥
      of_phase (Old low) = absurd (omega (arith, over.later, now, low))
      of_phase (Now other may at is bricks) = absurd (omega (arith, over.later, now, at))
    by_case (Same before same graph grants) = closed t p k before same graph grants exclusive over reached (phase_from size m step allowed p over.ended) (is_or_not (open_grants (after size m step) t k))

  step_many : PhasesReachMany size m → PhasesReachMany size (after size m step)
  step_many many p one low = by_case (phase_from size m step allowed p low) where
    by_case : PhaseFrom size m (after size m step) p → size.quorum ≤ count size.replicas ((after size m step).phases p).reached
    by_case (Old ended) = subst (λ (f : Replicas). size.quorum ≤ count size.replicas f) (sym (goes.reached p ended)) (many p one ended)
    by_case (Now other may at is bricks) = subst (λ (f : Replicas). size.quorum ≤ count size.replicas f) (sym (ap (λ (q : Phase). q.reached) is)) may.many

-- ---- every list of steps

pub overtaken_apart : (size : Size) (m : State) → IsReached size m → OvertakenApart m
overtaken_apart size m IsReached.Start = λ t p k behind exclusive over reached. absurd cc
overtaken_apart size m (IsReached.Further old step reached allowed) = step_apart size old reached step allowed (overtaken_apart size old reached)

phases_reach_many : (size : Size) (m : State) → IsReached size m → PhasesReachMany size m
phases_reach_many size m IsReached.Start = λ p one low. absurd (omega (arith, one, low))
phases_reach_many size m (IsReached.Further old step reached allowed) = step_many size old reached step allowed (overtaken_apart size old reached) (phases_reach_many size old reached)

pub keeps_overtaken : EveryOvertakenIsApart
keeps_overtaken size m reached = record { apart = overtaken_apart size m reached; many = phases_reach_many size m reached; few = few } where
  few : OvertakenHasFew size m
  few t p behind exclusive over =
      let there : Replicas = (m.phases p).reached in
      omega (arith, count_within size.replicas (open_grants m t) (λ k. not (there k)) outside, count_outside size.replicas there, phases_reach_many size m reached p (omega (arith, over.later)) over.ended)
    where
      outside : (k : ℕ) → k < size.replicas → open_grants m t k ≡ true → not ((m.phases p).reached k) ≡ true
      outside k low is_open = by_case (is_or_not ((m.phases p).reached k)) where
        by_case : ((m.phases p).reached k ≡ true) ⊎ ((m.phases p).reached k ≡ false) → not ((m.phases p).reached k) ≡ true
        by_case (inl has) = apart_bools is_open (overtaken_apart size m reached t p k behind exclusive over has)
        by_case (inr lacks) = ap not lacks
