-- A brick that takes part in a copy has no unsettled change that touches a cell of it: by the order in which the two lock
-- phases ended.
use Rattle.std.proofs.Common.{◌≡◌, ◌∙◌, ℕ, ◌≤◌, ◌<◌, true, false, refl, sym, ap, subst, ◌⊎◌, inl, inr, arith, Option, Some, None}
use Rattle.std.specs.Prelude.{◌≢◌}
use Rattle.std.proofs.lemmas.Bool.{cases_eq, cases_lt}
use Rattle.fop_types.specs.declared.cells.Cell.{Cell}
use Rattle.fop_types.specs.declared.jobs.Job.{Job}
use Rattle.fop_types.specs.declared.jobs.Job.TheVariants as job
use Rattle.afr_machine.specs.Replicas.{Size, Replicas}
use Rattle.afr_machine.specs.Touching.{has_cell, share}
use Rattle.afr_machine.specs.Changes.{is_unsettled}
use Rattle.afr_machine.specs.Phases.{Deciding}
use Rattle.afr_machine.specs.Phases.Deciding.{NoChange, ByPosts, BySettles}
use Rattle.afr_machine.specs.Transactions.{Work, CopyRun, Stage, cells_of_job, may_hold, is_over, settles_first}
use Rattle.afr_machine.specs.Transactions.Work.{Own, Settles}
use Rattle.afr_machine.specs.Transactions.Stage.{Copying}
use Rattle.afr_machine.specs.States.{State, phase_of}
use Rattle.afr_machine.specs.Births.{cells_of_work}
use Rattle.afr_machine.specs.Turns.{open_grants}
use Rattle.afr_machine.specs.Steps.{IsReached}
use Rattle.afr_laws.specs.Fresh.{is_behind}
use Rattle.afr_laws.specs.Work.{changes_in}
use Rattle.afr_laws.proofs.Bools.{is_or_not, apart_bools}
use Rattle.afr_laws.proofs.Copies.Asks.{share_at}
use Rattle.afr_laws.proofs.Work.Known.{works_are_known}
use Rattle.afr_laws.proofs.OwnChanges.Steps.{changes_are_own}
use Rattle.afr_laws.proofs.Fresh.Known.{phases_are_known}
use Rattle.afr_laws.proofs.Overtaken.Steps.{overtaken_apart}
use Rattle.afr_soundness.specs.Deciding.{IsMarkedIn, IsDecidedIn, IsSettledBy, IsCopiedFrom, DecidesIn}
use Rattle.afr_soundness.specs.Runs.{IsUntouchedFor, KnowsRun}
use Rattle.afr_soundness.specs.Later.{IsMarked}
use Rattle.afr_soundness.specs.CopyApart.{IsWithout, StaysWithin, SettlesOther, ComesBefore, OvertakenAreWithout, CopyApartFromUnsettled}
use Rattle.afr_soundness.proofs.Deciding.Whose.{decides_exactly, unsettled_was}
use Rattle.afr_soundness.proofs.Unsettled.{no_other_unsettled}
use Rattle.afr_soundness.proofs.Marked.{each_is_marked}
use Rattle.afr_soundness.proofs.Runs.{runs_are_known}
use Rattle.afr_soundness.proofs.Settled.{settled_are_decided}

-- the lock phase that marked an unsettled change is its transaction's
pub marked_in : (size : Size) (m : State) → IsReached size m → (q u : ℕ) → 1 ≤ q → q ≤ m.ended → (m.phases q).decides ≡ ByPosts u → IsMarkedIn m q u
marked_in size m r q u one low decides = subst (IsDecidedIn m q) decides ((decides_exactly size m r).decided q one low)

module _ (size : Size) (m : State) (r : IsReached size m) (t u : ℕ) (run : CopyRun) (copies : (m.txns t).stage ≡ Copying run) (cell : Cell) (of_run : has_cell run.cells cell ≡ true) (unsettled : is_unsettled (m.changes u).verdict ≡ true) (touches : has_cell (m.changes u).cells cell ≡ true) where
  known : KnowsRun size (phase_of m t) (m.txns t).job run
  known = runs_are_known size m r t run copies

  behind : is_behind (m.txns t).stage ≡ true
  behind = ap is_behind copies

  covers : has_cell (phase_of m t).cells cell ≡ true
  covers = known.within cell of_run

  decides : IsCopiedFrom (m.txns t).work run.group (phase_of m t).decides
  decides = subst (λ s. DecidesIn size m.changes (m.txns t).work s (phase_of m t)) copies ((decides_exactly size m r).transactions t).decides

  marked : IsMarked m u
  marked = each_is_marked size m r u (unsettled_was (m.changes u).verdict unsettled)

  mine : IsMarkedIn m marked.phase u
  mine = marked_in size m r marked.phase u marked.one marked.low marked.decides

  -- its own lock phase decides another change, or none
  not_marking : (work : Work) (group : Option Replicas) → IsCopiedFrom work group (phase_of m t).decides → (phase_of m t).decides ≡ ByPosts u → ⊥
  not_marking Own None h is = absurd (let e : NoChange ≡ ByPosts u = sym h ∙ is in cc)
  not_marking Own (Some g) h is = h
  not_marking (Settles v) None h is = h
  not_marking (Settles v) (Some g) h is = subst (IsSettledBy v g) is h

  -- the change of a transaction that copies is not marked
  not_own : (work : Work) (group : Option Replicas) → IsCopiedFrom work group (phase_of m t).decides → (m.txns t).own ≡ u → ⊥
  not_own work group h same = not_marking work group h (subst (λ p. (m.phases p).decides ≡ ByPosts u) (sym phase) marked.decides) where
    owner : (m.phases marked.phase).by ≡ t
    owner = sym mine.by ∙ ap (λ n. (m.changes n).by) (sym same) ∙ (((changes_are_own size m r).own t).owns (subst (λ n. 1 ≤ n) (sym same) mine.one)).by

    phase : (m.txns t).phase ≡ marked.phase
    phase = ap (λ i. (m.txns i).phase) (sym owner) ∙ mine.phase

  behind_holds : (stage : Stage) → stage ≡ Copying run → (may_hold stage ≡ true) × (is_over stage ≡ false)
  behind_holds stage is = (ap may_hold is, ap is_over is)

  -- a change copies only while none touches its cells
  change_alone : (m.txns t).work ≡ Own → settles_first (m.txns t).job ≡ true → ⊥
  change_alone work first = not_own (m.txns t).work run.group decides (no_other_unsettled size m r t u first (((changes_are_own size m r).own t).settled work (behind_holds (m.txns t).stage copies).0) (behind_holds (m.txns t).stage copies).1 unsettled shared) where
    of_job : (phase_of m t).cells ≡ cells_of_job (m.txns t).job
    of_job = (phases_are_known size m r t).cells behind ∙ ap (cells_of_work m.changes (m.txns t)) work

    shared : share (m.changes u).cells (cells_of_job (m.txns t).job) ≡ true
    shared = share_at (m.changes u).cells (cells_of_job (m.txns t).job) cell touches (sym (ap (λ cs. has_cell cs cell) of_job) ∙ covers)

  by_job : (m.txns t).work ≡ Own → (own : Job) → (m.txns t).job ≡ own → IsUntouchedFor None own (phase_of m t) → ComesBefore (phase_of m t) u
  by_job work (job.Change cells fd op effect) is h = absurd (change_alone work (ap settles_first is))
  by_job work (job.Heal at) is h = inl h
  by_job work other is h = absurd h

  settles_other : (v : ℕ) (group : Replicas) → (m.txns t).work ≡ Settles v → (decides : Deciding) → IsSettledBy v group decides → SettlesOther u decides
  settles_other v group work (BySettles w by adopts) h = λ same. apart_bools unsettled (ap (λ n. is_unsettled (m.changes n).verdict) (sym same ∙ h.0) ∙ settled_are_decided size m r t v run copies work)
  settles_other v group work NoChange h = absurd h
  settles_other v group work (ByPosts w) h = absurd h

  by_work : (work : Work) (group : Option Replicas) → (m.txns t).work ≡ work → run.group ≡ group → IsCopiedFrom work group (phase_of m t).decides → ComesBefore (phase_of m t) u
  by_work Own None work group h = by_job work (m.txns t).job refl (subst (λ g. IsUntouchedFor g (m.txns t).job (phase_of m t)) group known.untouched)
  by_work Own (Some g) work group h = absurd h
  by_work (Settles v) None work group h = absurd h
  by_work (Settles v) (Some g) work group h = inr (settles_other v g work (phase_of m t).decides h)

  -- its lock phase comes before an unsettled change of one of its cells
  pub comes_before : ComesBefore (phase_of m t) u
  comes_before = by_work (m.txns t).work run.group refl refl decides

  module _ (within : StaysWithin m) (overtaken : OvertakenAreWithout m) (k : ℕ) (reached : (phase_of m t).reached k ≡ true) (granted : open_grants m t k ≡ true) where
    shared : share (phase_of m t).cells (m.changes u).cells ≡ true
    shared = share_at (phase_of m t).cells (m.changes u).cells cell covers touches

    -- the change's lock phase ended later: it reached none of the bricks where this one still has a grant
    later : (m.txns t).phase < marked.phase → IsWithout m u k
    later after = by_case (is_or_not ((m.phases marked.phase).reached k)) where
      over : share (phase_of m t).cells (m.phases marked.phase).cells ≡ true
      over = ap (share (phase_of m t).cells) mine.cells ∙ shared

      by_case : ((m.phases marked.phase).reached k ≡ true) ⊎ ((m.phases marked.phase).reached k ≡ false) → IsWithout m u k
      by_case (inl there) = apart_bools granted (overtaken_apart size m r t marked.phase k behind ((works_are_known size m r t).exclusive (ap changes_in copies)) (record { later = after; ended = marked.low; common = over }) there)
      by_case (inr none) = within marked.phase u k unsettled marked.one marked.low marked.decides none

    pub without : IsWithout m u k
    without = by_order (cases_lt (m.txns t).phase marked.phase) (cases_eq marked.phase (m.txns t).phase) where
      by_order : ((m.txns t).phase < marked.phase) ⊎ (marked.phase ≤ (m.txns t).phase) → (marked.phase ≡ (m.txns t).phase) ⊎ (marked.phase ≢ (m.txns t).phase) → IsWithout m u k
      by_order (inl after) other = later after
      by_order (inr before) (inl same) = absurd (not_marking (m.txns t).work run.group decides (subst (λ p. (m.phases p).decides ≡ ByPosts u) same marked.decides))
      by_order (inr before) (inr other) =
          overtaken marked.phase (m.txns t).phase u k unsettled marked.one marked.decides (omega (arith, before, other)) (phases_are_known size m r t).low shared comes_before reached

pub copies_apart : (size : Size) (m : State) → IsReached size m → StaysWithin m → OvertakenAreWithout m → CopyApartFromUnsettled m
copies_apart size m r within overtaken = λ t u k run cell copies of_run unsettled touches reached granted. without size m r t u run copies cell of_run unsettled touches within overtaken k reached granted
