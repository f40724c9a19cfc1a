-- What was confirmed before a settling's lock phase ended is in the rows that this one saw, over every list of steps.
use Rattle.std.proofs.Common.{◌≡◌, ◌∙◌, ℕ, ◌+◌, ◌≤◌, ◌<◌, Bool, true, false, refl, sym, ap, subst, ◌⊎◌, inl, inr, arith, Some}
use Rattle.std.specs.Prelude.{List}
use Rattle.fop_types.specs.declared.cells.Cell.{Cell}
use Rattle.fop_types.specs.declared.contents.Row.{Row}
use Rattle.afr_changelog.specs.Soundness.{accuses}
use Rattle.afr_machine.specs.Replicas.{Size, IsSize, Replicas}
use Rattle.afr_machine.specs.Touching.{has_cell, share}
use Rattle.afr_machine.specs.Copies.{rows_of}
use Rattle.afr_machine.specs.Changes.{is_unsettled}
use Rattle.afr_machine.specs.Phases.{Phase, Deciding}
use Rattle.afr_machine.specs.Phases.Deciding.{NoChange, ByPosts, BySettles}
use Rattle.afr_machine.specs.Transactions.Work.{Settles}
use Rattle.afr_machine.specs.States.{State, phase_of}
use Rattle.afr_machine.specs.Births.{cells_of_work}
use Rattle.afr_machine.specs.Turns.{Turn, MayReach, rows_granted, phase_reached}
use Rattle.afr_machine.specs.Steps.{Step, Allowed, after, IsReached}
use Rattle.afr_machine.proofs.Tables.{at_same}
use Rattle.afr_laws.specs.Grants.{is_unlocking}
use Rattle.afr_laws.specs.Apart.{Holds}
use Rattle.afr_laws.specs.OwnChanges.{was_unsettled}
use Rattle.afr_laws.specs.Fresh.{is_behind}
use Rattle.afr_laws.specs.Standing.{is_gathering, StillShows}
use Rattle.afr_laws.proofs.Bools.{apart_bools}
use Rattle.afr_laws.proofs.Accusers.{rows_show_accusers}
use Rattle.afr_laws.proofs.Copies.Asks.{share_at}
use Rattle.afr_laws.proofs.Work.Known.{works_are_known}
use Rattle.afr_laws.proofs.Fresh.Known.{phases_are_known}
use Rattle.afr_laws.proofs.Fresh.Phased.{PhasesGo}
use Rattle.afr_laws.proofs.Fresh.Steps.{step_phases}
use Rattle.afr_laws.proofs.Overtaken.Steps.{HasOpen, has_open}
use Rattle.afr_laws.proofs.Standing.Steps.{rows_stand}
use Rattle.afr_soundness.specs.Deciding.{IsMarkedIn, IsSettledIn, IsDecidedIn}
use Rattle.afr_soundness.specs.Later.{IsOf}
use Rattle.afr_soundness.proofs.ChangeMoves.{cells_stay}
use Rattle.afr_soundness.proofs.States.{work_stays}
use Rattle.afr_soundness.proofs.Deciding.Kept.{SameDeciding}
use Rattle.afr_soundness.proofs.Deciding.Whose.{decides_exactly}
use Rattle.afr_soundness.proofs.Unsettled.{UnsettledFrom, unsettled_from, is_drawn, becomes_own, settled_was}
use Rattle.afr_decisions.specs.Confirmed.{IsConfirmedBy, is_marking}
use Rattle.afr_decisions.specs.Settlings.{IsSettling}
use Rattle.afr_decisions.specs.Shown.{ShowsConfirmed, LaterShow, EveryLaterShows}
use Rattle.afr_decisions.proofs.Noted.{IsNotedNow, noted_from}
use Rattle.afr_decisions.proofs.Confirmed.{keeps_confirmed, now_reports, now_behind, confirmed_now, now_unmarked, same_phase, old_unmarked}
use Rattle.afr_decisions.proofs.Settlings.{settled_in, SettlingFrom, settling_from}
use Rattle.afr_decisions.proofs.Settlings.SettlingFrom.{Did, Begins}
use Rattle.afr_decisions.proofs.Staying.{confirmed_accuse}
use Rattle.afr_decisions.proofs.Handed.{handed_apart, reports_change, BehindFrom, behind_from}
use Rattle.afr_decisions.proofs.Handed.BehindFrom.{Was, Ends}

-- a lock phase that decides a change is over its cells
pub decided_cells : (size : Size) (m : State) → IsReached size m → (p u : ℕ) → 1 ≤ p → p ≤ m.ended → IsOf u (m.phases p).decides → (m.phases p).cells ≡ (m.changes u).cells
decided_cells size m r p u one low of = by_deciding (m.phases p).decides refl of where
  by_deciding : (decides : Deciding) → (m.phases p).decides ≡ decides → IsOf u decides → (m.phases p).cells ≡ (m.changes u).cells
  by_deciding NoChange is of1 = absurd of1
  by_deciding (ByPosts v) is of1 = let k : IsMarkedIn m p v = subst (IsDecidedIn m p) is ((decides_exactly size m r).decided p one low) in k.cells ∙ ap (λ n. (m.changes n).cells) of1
  by_deciding (BySettles v group adopts) is of1 = let k : IsSettledIn m p v = subst (IsDecidedIn m p) is ((decides_exactly size m r).decided p one low) in k.cells ∙ ap (λ n. (m.changes n).cells) of1

module _ (size : Size) (is_size : IsSize size) (m : State) (r : IsReached size m) (step : Step) (allowed : Allowed size m step) where
  abbrev new : State
  new = after size m step

  goes : PhasesGo m.ended m.phases (after size m step).phases
  goes = step_phases size m step

  -- ---- of a lock phase whose confirmation was noted before

  module _ (p u k : ℕ) (one : 1 ≤ p) (low : p ≤ m.ended) (c : IsConfirmedBy size m p k) (unmarked : (t : ℕ) → (m.txns t).phase ≡ p → is_marking (m.txns t).stage ≡ true → ⊥) where
    same : SameDeciding (m.phases p) (new.phases p)
    same = same_phase size m r step allowed p k one low c unmarked

    of_then : IsOf u (new.phases p).decides → IsOf u (m.phases p).decides
    of_then of = subst (IsOf u) same.decides of

    accused_then : (i : ℕ) → (new.phases p).accused i ≡ true → (m.phases p).accused i ≡ true
    accused_then i h = sym (ap (λ (f : Replicas). f i) same.accused) ∙ h

  -- ---- what was shown is shown still

  module _ (p at u : ℕ) (one : 1 ≤ p) (over : p < at) (low : at ≤ m.ended) (drawn : u ≤ m.drawn) (cells_at : (m.phases at).cells ≡ (m.changes u).cells) (was : IsOf u (m.phases p).decides → ShowsConfirmed size m p at u) (of : IsOf u (new.phases p).decides) where
    low_p : p ≤ m.ended
    low_p = omega (arith, over, low)

    module _ (k i : ℕ) (cell : Cell) (reached : (new.phases at).reached k ≡ true) (below : i < size.replicas) (has : has_cell (new.changes u).cells cell ≡ true) (in_it : (new.phases p).accused i ≡ true) where
      has_then : has_cell (m.changes u).cells cell ≡ true
      has_then = sym (ap (λ cs. has_cell cs cell) (cells_stay size m step allowed u drawn)) ∙ has

      reached_then : (m.phases at).reached k ≡ true
      reached_then = sym (ap (λ (f : Replicas). f k) (goes.reached at low)) ∙ reached

      by_old : (m.phases p).confirmed k ≡ true → accuses i (Some ((new.phases at).rows k cell)) ≡ true
      by_old noted =
          let c = (keeps_confirmed size m r).phases p k one low_p noted in
          let unmarked = old_unmarked size m r step allowed (keeps_confirmed size m r) p k noted in
          ap (λ (f : ℕ → Cell → Row). accuses i (Some (f k cell))) (goes.rows at low)
          ∙ was (of_then p u k one low_p c unmarked of) k i cell noted reached_then below has_then (accused_then p u k one low_p c unmarked i in_it)

      -- nobody confirms now that the later one reached
      not_now : IsNotedNow m step p k → ⊥
      not_now now =
          let c = confirmed_now size m r step p k now in
          let unmarked = now_unmarked size m r step p k now in
          let cells_p : (m.phases p).cells ≡ (m.changes u).cells = decided_cells size m r p u one low_p (of_then p u k one low_p c unmarked of) in
          handed_apart size m r k now.by now.ask now.answer now.handed (now_behind size m r step p k now) (reports_change (m.txns now.by.txn).stage (now_reports size m r step p k now)) at
          (subst (λ q. q < at) now.phase over) low
          (share_at (phase_of m now.by.txn).cells (m.phases at).cells cell (ap (λ q. has_cell (m.phases q).cells cell) (sym now.phase) ∙ ap (λ cs. has_cell cs cell) cells_p ∙ has_then) (ap (λ cs. has_cell cs cell) cells_at ∙ has_then)) reached_then

      by_case : ((m.phases p).confirmed k ≡ true) ⊎ IsNotedNow m step p k → accuses i (Some ((new.phases at).rows k cell)) ≡ true
      by_case (inl old) = by_old old
      by_case (inr now) = absurd (not_now now)

    pub shows_on : ShowsConfirmed size new p at u
    shows_on k i cell noted reached below has in_it = by_case k i cell reached below has in_it (noted_from size m step allowed p k low_p noted)

  -- ---- the lock phase of a settling ends now

  module _ (p t u : ℕ) (one : 1 ≤ p) (low : p ≤ m.ended) (of : IsOf u (new.phases p).decides) (step_is : step ≡ Step.Turns t Turn.Reaches) (h : MayReach size m t) (work : (m.txns t).work ≡ Settles u) (unsettled : is_unsettled (m.changes u).verdict ≡ true) where
    phase : new.phases (m.ended + 1) ≡ phase_reached m t
    phase = ap (λ st. (after size m st).phases (m.ended + 1)) step_is ∙ at_same m.phases (m.ended + 1) (phase_reached m t)

    module _ (k i : ℕ) (cell : Cell) (reached : (new.phases (m.ended + 1)).reached k ≡ true) (below : i < size.replicas) (has : has_cell (new.changes u).cells cell ≡ true) (in_it : (new.phases p).accused i ≡ true) where
      has_now : has_cell (m.changes u).cells cell ≡ true
      has_now = sym (ap (λ cs. has_cell cs cell) (cells_stay size m step allowed u (is_drawn size m r u unsettled))) ∙ has

      o : HasOpen m t k
      o = has_open m t k (sym (ap (λ (x : Phase). x.reached k) phase) ∙ reached)

      holds : Holds m t k o.grant
      holds = record { granted = o.granted; still_open = o.current; holding = ap is_unlocking h.turn }

      over : o.grant.cells ≡ (m.changes u).cells
      over = ((works_are_known size m r t).grants k o.grant o.granted).over ∙ ap (cells_of_work m.changes (m.txns t)) work

      still : StillShows (o.grant.rows cell) (rows_of (m.bricks k).store cell)
      still = (rows_stand size m r).handed t k o.grant holds (ap is_gathering h.turn) cell (ap (λ cs. has_cell cs cell) over ∙ has_now)

      row : (new.phases (m.ended + 1)).rows k cell ≡ o.grant.rows cell
      row = ap (λ (x : Phase). x.rows k cell) phase ∙ ap (λ g. rows_granted g cell) o.granted

      five : i < 5
      five = omega (arith, below, is_size.few)

      by_old_now : (m.phases p).confirmed k ≡ true → accuses i (Some ((new.phases (m.ended + 1)).rows k cell)) ≡ true
      by_old_now noted =
          let c = (keeps_confirmed size m r).phases p k one low noted in
          let unmarked = old_unmarked size m r step allowed (keeps_confirmed size m r) p k noted in
          ap (λ (x : Row). accuses i (Some x)) row
          ∙ ap (λ (l : List ℕ). accuses i (Some (record (o.grant.rows cell) { pending = l }))) (sym still.counters)
          ∙ rows_show_accusers (m.bricks k).store cell i five
          ∙ (confirmed_accuse size m r p u k i cell one low (of_then p u k one low c unmarked of) unsettled noted has_now (accused_then p u k one low c unmarked i in_it)).accuses

      by_case_now : ((m.phases p).confirmed k ≡ true) ⊎ IsNotedNow m step p k → accuses i (Some ((new.phases (m.ended + 1)).rows k cell)) ≡ true
      by_case_now (inl old) = by_old_now old
      by_case_now (inr now) = absurd (let e : Step.Turns t Turn.Reaches ≡ Step.HandsIn k = sym step_is ∙ now.is in cc)

    pub ends_shows : ShowsConfirmed size new p (m.ended + 1) u
    ends_shows k i cell noted reached below has in_it = by_case_now k i cell reached below has in_it (noted_from size m step allowed p k low noted)

  module _ (was : LaterShow size m) where
    -- ---- every transaction that is to settle

    module _ (p t u : ℕ) (one : 1 ≤ p) (of : IsOf u (new.phases p).decides) (behind : is_behind (new.txns t).stage ≡ true) (work : (new.txns t).work ≡ Settles u) (over : p < (new.txns t).phase) where
      work_then : (m.txns t).work ≡ Settles u
      work_then = sym (work_stays size m r step allowed t behind) ∙ work

      unsettled_then : UnsettledFrom size m r step allowed u → is_unsettled (m.changes u).verdict ≡ true
      unsettled_then (UnsettledFrom.Was h) = h
      unsettled_then (UnsettledFrom.Becomes s step_is h at) = apart_bools (settled_was size m r t u work_then) (ap (λ n. was_unsettled (m.changes n).verdict) at ∙ ap was_unsettled (becomes_own size m r step allowed s h).1.1)

      by_from : is_unsettled (m.changes u).verdict ≡ true → BehindFrom size m r step allowed t → ShowsConfirmed size new p (new.txns t).phase u
      by_from unsettled (Was h phase) =
          let later : p < (m.txns t).phase = subst (λ q. p < q) phase over in
          subst (λ q. ShowsConfirmed size (after size m step) p q u) (sym phase)
          (shows_on p (m.txns t).phase u one later (phases_are_known size m r t).low (is_drawn size m r u unsettled) ((phases_are_known size m r t).cells h ∙ ap (cells_of_work m.changes (m.txns t)) work_then)
          (λ of_m. was.gathered p t u one of_m h work_then unsettled later) of)
      by_from unsettled (Ends step_is h phase) =
          let low : p ≤ m.ended = (let later : p < m.ended + 1 = subst (λ q. p < q) phase over in omega (arith, later)) in
          subst (λ q. ShowsConfirmed size (after size m step) p q u) (sym phase) (ends_shows p t u one low of step_is h work_then unsettled)

      gathered_after : is_unsettled (new.changes u).verdict ≡ true → ShowsConfirmed size new p (new.txns t).phase u
      gathered_after unsettled = by_from (unsettled_then (unsettled_from size m r step allowed u unsettled)) (behind_from size m r step allowed t behind)

    -- ---- every lock phase that settles

    settled_after : (p at u : ℕ) (group : Replicas) (adopts : Bool) → 1 ≤ p → IsOf u (new.phases p).decides → p < at → SettlingFrom size m r step allowed at u group adopts → ShowsConfirmed size new p at u
    settled_after p at u group adopts one of over (Did s) =
        let mine : IsSettledIn m at u = settled_in size m r at u group adopts s in
        shows_on p at u one over s.low mine.drawn mine.cells (λ of_m. was.settled p at u group adopts one of_m s over) of
    settled_after p at u group adopts one of over (Begins t step_is h at_change at_phase) =
        let unsettled : is_unsettled (m.changes u).verdict ≡ true = ap (λ n. is_unsettled (m.changes n).verdict) at_change ∙ h.is_unsettled in
        let work : (m.txns t).work ≡ Settles u = h.work_is ∙ ap Settles (sym at_change) in
        let behind : is_behind (m.txns t).stage ≡ true = ap is_behind h.turn in
        let later : p < (m.txns t).phase = subst (λ q. p < q) at_phase over in
        subst (λ q. ShowsConfirmed size (after size m step) p q u) (sym at_phase)
        (shows_on p (m.txns t).phase u one later (phases_are_known size m r t).low (is_drawn size m r u unsettled) ((phases_are_known size m r t).cells behind ∙ ap (cells_of_work m.changes (m.txns t)) work)
        (λ of_m. was.gathered p t u one of_m behind work unsettled later) of)

-- ---- every list of steps

pub later_show : EveryLaterShows
later_show size m is IsReached.Start = record {
  gathered = λ p t u one of behind. absurd (let e : false ≡ true = behind in cc);
  settled = λ p at u group adopts one of s. absurd (let e : NoChange ≡ BySettles u group adopts = s.decides in cc);
}
later_show size m is (IsReached.Further old step reached allowed) =
    let was = later_show size old is reached in
    record {
      gathered = λ p t u one of behind work unsettled over. gathered_after size is old reached step allowed was p t u one of behind work over unsettled;
      settled = λ p at u group adopts one of s over. settled_after size is old reached step allowed was p at u group adopts one of over (settling_from size old reached step allowed at u group adopts s);
    }
