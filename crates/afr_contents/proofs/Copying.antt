-- A transaction that may come to copy, and an unsettled change of one of its cells that it does not settle: its lock phase came before
-- the change, so it holds no brick that has the change or confirmed a decision of it.
use Rattle.std.proofs.Common.{◌≡◌, ◌∙◌, ℕ, ◌≤◌, ◌<◌, Bool, true, false, refl, sym, ap, subst, ◌⊎◌, inl, inr, arith, Option, Some, None}
use Rattle.std.specs.Prelude.{◌≢◌}
use Rattle.std.proofs.lemmas.Bool.{cases_eq, cases_lt}
use Rattle.fop_types.specs.declared.cells.Cell.{Cell}
use Rattle.fop_types.specs.declared.jobs.Job.{Job}
use Rattle.fop_types.specs.declared.jobs.Job.TheVariants as job
use Rattle.afr_machine.specs.Replicas.{Replicas, Size}
use Rattle.afr_machine.specs.Touching.{has_cell, share}
use Rattle.afr_machine.specs.Changes.{Change, is_unsettled}
use Rattle.afr_machine.specs.Phases.{Deciding}
use Rattle.afr_machine.specs.Phases.Deciding.{NoChange, ByPosts, BySettles}
use Rattle.afr_machine.specs.Transactions.{Work, CopyRun, Stage, cells_of_job, settles_first, may_hold, is_over}
use Rattle.afr_machine.specs.Transactions.Work.{Own, Settles}
use Rattle.afr_machine.specs.Transactions.Stage.{Locked, Settling, Copying}
use Rattle.afr_machine.specs.States.{State, phase_of}
use Rattle.afr_machine.specs.Births.{cells_of_work}
use Rattle.afr_machine.specs.Steps.{IsReached}
use Rattle.afr_laws.specs.Fresh.{is_behind}
use Rattle.afr_laws.specs.Work.{shares_of, changes_in}
use Rattle.afr_laws.proofs.Bools.{apart_bools, is_or_not}
use Rattle.afr_laws.proofs.Copies.Asks.{share_at}
use Rattle.afr_laws.proofs.Fresh.Known.{phases_are_known}
use Rattle.afr_laws.proofs.Overtaken.Steps.{overtaken_apart}
use Rattle.afr_laws.proofs.OwnChanges.Steps.{changes_are_own}
use Rattle.afr_laws.proofs.Work.Known.{works_are_known}
use Rattle.afr_soundness.specs.Deciding.{IsMarkedIn, IsSettledBy, IsCopiedFrom, DecidesIn}
use Rattle.afr_soundness.specs.Runs.{IsUntouchedFor}
use Rattle.afr_soundness.specs.CopyApart.{IsWithout, SettlesOther, ComesBefore}
use Rattle.afr_soundness.specs.Later.{IsOf, IsMarked}
use Rattle.afr_soundness.proofs.Applied.{applied_holds}
use Rattle.afr_soundness.proofs.CopyApart.Static.{marked_in}
use Rattle.afr_soundness.proofs.CopyApart.Steps.{keeps_copies_apart}
use Rattle.afr_soundness.proofs.Deciding.Whose.{unsettled_was, decides_exactly}
use Rattle.afr_soundness.proofs.Marked.{each_is_marked}
use Rattle.afr_soundness.proofs.Runs.{runs_are_known}
use Rattle.afr_soundness.proofs.Settled.{settled_are_decided}
use Rattle.afr_soundness.proofs.Unsettled.{one_unsettled, no_other_unsettled}
use Rattle.afr_decisions.specs.Confirmed.{IsReported}
use Rattle.afr_decisions.specs.Stands.{IsDecidedBy}
use Rattle.afr_decisions.proofs.Confirmed.{keeps_confirmed}
use Rattle.afr_decisions.proofs.Settlings.{settlings_stand}
use Rattle.afr_decisions.proofs.Shown.{decided_cells}
use Rattle.afr_decisions.proofs.Stands.{decides_of}
use Rattle.afr_contents.specs.Naming.{MayCopyFrom, CanSource, held_by}
use Rattle.afr_contents.proofs.Using.{held_reached, held_granted}

module _ (size : Size) (m : State) (r : IsReached size m) (u : ℕ) (unsettled : is_unsettled (m.changes u).verdict ≡ true) (cell : Cell) (touches : has_cell (m.changes u).cells cell ≡ true) where
  marked : IsMarked m u
  marked = each_is_marked size m r u (unsettled_was (m.changes u).verdict unsettled)

  mine : IsMarkedIn m marked.phase u
  mine = marked_in size m r marked.phase u marked.one marked.low marked.decides

  -- its lock phase came before the change, and does not decide it
  pub record CameBefore (t : ℕ) : Type 0 where
    pub behind : is_behind (m.txns t).stage ≡ true
    pub alone : shares_of (m.txns t).job (m.txns t).work ≡ false
    pub covers : has_cell (phase_of m t).cells cell ≡ true
    pub comes : ComesBefore (phase_of m t) u
    pub not_of : IsOf u (phase_of m t).decides → ⊥

  module _ (t : ℕ) (c : CameBefore t) where
    low : (m.txns t).phase ≤ m.ended
    low = (phases_are_known size m r t).low

    shared : share (phase_of m t).cells (m.changes u).cells ≡ true
    shared = share_at (phase_of m t).cells (m.changes u).cells cell c.covers touches

    -- a later lock phase over the change's cells reached none of the bricks that it holds
    later_apart : (p k : ℕ) → (m.txns t).phase < p → p ≤ m.ended → (m.phases p).cells ≡ (m.changes u).cells → (m.phases p).reached k ≡ true → held_by m t k ≡ true → ⊥
    later_apart p k later ended over reached held =
        apart_bools (held_granted m t k held) (overtaken_apart size m r t p k c.behind c.alone (record { later = later; ended = ended; common = ap (share (phase_of m t).cells) over ∙ shared }) reached)

    -- none of those has the change
    pub held_without : (k : ℕ) → held_by m t k ≡ true → IsWithout m u k
    held_without k held = by_order (cases_lt (m.txns t).phase marked.phase) (cases_eq marked.phase (m.txns t).phase) (is_or_not ((m.phases marked.phase).reached k)) where
      by_order : ((m.txns t).phase < marked.phase) ⊎ (marked.phase ≤ (m.txns t).phase) → (marked.phase ≡ (m.txns t).phase) ⊎ (marked.phase ≢ (m.txns t).phase) → ((m.phases marked.phase).reached k ≡ true) ⊎ ((m.phases marked.phase).reached k ≡ false) → IsWithout m u k
      by_order (inl after) other (inl there) = absurd (later_apart marked.phase k after marked.low mine.cells there held)
      by_order (inl after) other (inr none) = (keeps_copies_apart size m r).within marked.phase u k unsettled marked.one marked.low marked.decides none
      by_order (inr before) (inl same) reached = absurd (c.not_of (subst (λ p. IsOf u (m.phases p).decides) same (subst (IsOf u) (sym marked.decides) refl)))
      by_order (inr before) (inr other) reached =
          (keeps_copies_apart size m r).overtaken marked.phase (m.txns t).phase u k unsettled marked.one marked.decides (omega (arith, before, other)) low shared c.comes (held_reached m t k held)

    -- none of them confirmed a decision of it
    pub held_unconfirmed : (p k : ℕ) (adopts : Bool) → IsDecidedBy size m p u adopts → (m.phases p).confirmed k ≡ true → held_by m t k ≡ true → ⊥
    held_unconfirmed p k adopts d noted held = by_order (cases_lt (m.txns t).phase p) (cases_eq p (m.txns t).phase) where
      of : IsOf u (m.phases p).decides
      of = decides_of u adopts (m.phases p).decides d.decides

      by_deciding : p < (m.txns t).phase → (decides : Deciding) → (m.phases p).decides ≡ decides → IsOf u decides → IsReported size m.changes (m.phases p) k decides → ⊥
      by_deciding earlier NoChange is h reported = h
      by_deciding earlier (ByPosts v) is h reported =
          apart_bools ((applied_holds size m r).done u k unsettled (ap (λ n. (m.changes n).done k) (sym h) ∙ reported.0) cell touches)
          (((keeps_copies_apart size m r).overtaken p (m.txns t).phase u k unsettled d.one (is ∙ ap ByPosts h) earlier low shared c.comes (held_reached m t k held)).copies cell touches)
      by_deciding earlier (BySettles v group verdict) is h reported =
          ((settlings_stand size m r p u group verdict (record { one = d.one; low = d.low; decides = is ∙ ap (λ n. BySettles n group verdict) h })).unsettled unsettled).later (m.txns t).phase earlier low shared c.comes

      by_order : ((m.txns t).phase < p) ⊎ (p ≤ (m.txns t).phase) → (p ≡ (m.txns t).phase) ⊎ (p ≢ (m.txns t).phase) → ⊥
      by_order (inl later) other = later_apart p k later d.low (decided_cells size m r p u d.one d.low of) ((keeps_confirmed size m r).phases p k d.one d.low noted).reached held
      by_order (inr before) (inl same) = c.not_of (subst (λ n. IsOf u (m.phases n).decides) same of)
      by_order (inr before) (inr other) = by_deciding (omega (arith, before, other)) (m.phases p).decides refl of ((keeps_confirmed size m r).phases p k d.one d.low noted).reported

  -- ---- who may come to copy

  module _ (t : ℕ) (covers : has_cell (phase_of m t).cells cell ≡ true) where
    -- its own change is not the unsettled one, where its lock phase decides nothing
    not_own : (phase_of m t).decides ≡ NoChange → (m.txns t).own ≡ u → ⊥
    not_own none same = absurd (let no : NoChange ≡ ByPosts u = sym none ∙ subst (λ p. (m.phases p).decides ≡ ByPosts u) (sym phase) marked.decides in cc) where
      owner : (m.phases marked.phase).by ≡ t
      owner = sym mine.by ∙ ap (λ n. (m.changes n).by) (sym same) ∙ (((changes_are_own size m r).own t).owns (subst (λ n. 1 ≤ n) (sym same) mine.one)).by

      phase : (m.txns t).phase ≡ marked.phase
      phase = ap (λ i. (m.txns i).phase) (sym owner) ∙ mine.phase

    module _ (behind : is_behind (m.txns t).stage ≡ true) (alone : shares_of (m.txns t).job (m.txns t).work ≡ false) where
      -- a change copies only while none touches its cells
      change_alone : (m.txns t).work ≡ Own → may_hold (m.txns t).stage ≡ true → is_over (m.txns t).stage ≡ false → settles_first (m.txns t).job ≡ true → (phase_of m t).decides ≡ NoChange → ⊥
      change_alone work holds runs first none = not_own none (no_other_unsettled size m r t u first (((changes_are_own size m r).own t).settled work holds) runs unsettled shares) where
        of_job : (phase_of m t).cells ≡ cells_of_job (m.txns t).job
        of_job = (phases_are_known size m r t).cells behind ∙ ap (cells_of_work m.changes (m.txns t)) work

        shares : share (m.changes u).cells (cells_of_job (m.txns t).job) ≡ true
        shares = share_at (m.changes u).cells (cells_of_job (m.txns t).job) cell touches (sym (ap (λ cs. has_cell cs cell) of_job) ∙ covers)

      of_own : (m.txns t).work ≡ Own → may_hold (m.txns t).stage ≡ true → is_over (m.txns t).stage ≡ false → (phase_of m t).decides ≡ NoChange → (own : Job) → (m.txns t).job ≡ own → IsUntouchedFor None own (phase_of m t) → CameBefore t
      of_own work holds runs none (job.Change cells fd op effect) is h = absurd (change_alone work holds runs (ap settles_first is) none)
      of_own work holds runs none (job.Heal at) is h = record { behind = behind; alone = alone; covers = covers; comes = inl h; not_of = λ of. subst (IsOf u) none of }
      of_own work holds runs none other is h = absurd h

      -- it settles another change
      of_other : (v : ℕ) (group : Replicas) (adopts : Bool) → (phase_of m t).decides ≡ BySettles v group adopts → v ≢ u → CameBefore t
      of_other v group adopts is other = record {
        behind = behind;
        alone = alone;
        covers = covers;
        comes = inr (subst (SettlesOther u) (sym is) other);
        not_of = λ of. other (subst (IsOf u) is of);
      }

    decides_in : (stage : Stage) → (m.txns t).stage ≡ stage → DecidesIn size m.changes (m.txns t).work stage (phase_of m t)
    decides_in stage is = subst (λ s. DecidesIn size m.changes (m.txns t).work s (phase_of m t)) is ((decides_exactly size m r).transactions t).decides

    pub copying_before : (run : CopyRun) → (m.txns t).stage ≡ Copying run → CameBefore t
    copying_before run is = by_work (m.txns t).work run.group refl refl (decides_in (Copying run) is) where
      behind : is_behind (m.txns t).stage ≡ true
      behind = ap is_behind is

      alone : shares_of (m.txns t).job (m.txns t).work ≡ false
      alone = (works_are_known size m r t).exclusive (ap changes_in is)

      settled_by : (v : ℕ) (group : Replicas) → (m.txns t).work ≡ Settles v → (d : Deciding) → (phase_of m t).decides ≡ d → IsSettledBy v group d → CameBefore t
      settled_by v group work NoChange d_is h = absurd h
      settled_by v group work (ByPosts w) d_is h = absurd h
      settled_by v group work (BySettles w by adopts) d_is h =
          of_other behind alone w by adopts d_is (λ same. apart_bools unsettled (ap (λ n. is_unsettled (m.changes n).verdict) (sym same ∙ h.0) ∙ settled_are_decided size m r t v run is work))

      by_work : (work : Work) (group : Option Replicas) → (m.txns t).work ≡ work → run.group ≡ group → IsCopiedFrom work group (phase_of m t).decides → CameBefore t
      by_work Own None work group h =
          of_own behind alone work (ap may_hold is) (ap is_over is) h (m.txns t).job refl (subst (λ g. IsUntouchedFor g (m.txns t).job (phase_of m t)) group (runs_are_known size m r t run is).untouched)
      by_work Own (Some g) work group h = absurd h
      by_work (Settles v) None work group h = absurd h
      by_work (Settles v) (Some g) work group h = settled_by v g work (phase_of m t).decides refl h

    -- it came before, or settles the change
    pub data SourceOf : Type 0 where
      Settled : (group : Replicas) → (adopts : Bool) → (m.txns t).stage ≡ Settling u group adopts → SourceOf
      Before : CameBefore t → SourceOf

    -- by the changes as they are after a step that settles this one
    module _ (later : ℕ → Change) (still : (w : ℕ) → is_unsettled (later w).verdict ≡ true → (is_unsettled (m.changes w).verdict ≡ true) × (w ≢ u)) where
      of_locked : (work : Work) → (m.txns t).work ≡ work → (m.txns t).stage ≡ Locked → shares_of (m.txns t).job (m.txns t).work ≡ false → MayCopyFrom later (m.txns t).job (phase_of m t) work → SourceOf
      of_locked Own work is alone h = Before (of_own (ap is_behind is) alone work (ap may_hold is) (ap is_over is) (decides_in Locked is) (m.txns t).job refl h)
      of_locked (Settles w) work is alone h = absurd ((still w h).1 (one_unsettled size m r w u (still w h).0 unsettled (share_at (m.changes w).cells (m.changes u).cells cell over touches))) where
        over : has_cell (m.changes w).cells cell ≡ true
        over = sym (ap (λ cs. has_cell cs cell) ((phases_are_known size m r t).cells (ap is_behind is) ∙ ap (cells_of_work m.changes (m.txns t)) work)) ∙ covers

      of_settling : (v : ℕ) (group : Replicas) (adopts : Bool) → (m.txns t).stage ≡ Settling v group adopts → SourceOf
      of_settling v group adopts is = by_change (cases_eq v u) where
        by_change : (v ≡ u) ⊎ (v ≢ u) → SourceOf
        by_change (inl same) = Settled group adopts (is ∙ ap (λ n. Settling n group adopts) same)
        by_change (inr other) = Before (of_other (ap is_behind is) ((works_are_known size m r t).exclusive (ap changes_in is)) v group adopts (decides_in (Settling v group adopts) is) other)

      may_alone : (own : Job) (work : Work) → MayCopyFrom later own (phase_of m t) work → shares_of own work ≡ false
      may_alone (job.Change cells fd op effect) Own h = refl
      may_alone (job.Heal at) Own h = refl
      may_alone own (Settles w) h = refl
      may_alone other Own h = absurd h

      pub source_of : (s : ℕ) (stage : Stage) → (m.txns t).stage ≡ stage → CanSource size later (m.txns t).job (m.txns t).work (phase_of m t) cell s stage → SourceOf
      source_of s Locked is h = of_locked (m.txns t).work refl is (may_alone (m.txns t).job (m.txns t).work h.0) h.0
      source_of s (Settling v group adopts) is h = of_settling v group adopts is
      source_of s (Copying run) is h = Before (copying_before run is)
      source_of s other is h = absurd h
