-- Bricks that a transaction uses while it may come to copy: its locks there are exclusive, and nobody else uses them on one of its cells.
use Rattle.std.proofs.Common.{◌≡◌, ◌∙◌, ℕ, true, false, refl, sym, ap, ◌⊎◌, inl, inr}
use Rattle.std.specs.Prelude.{◌≢◌, ◌&&◌, not}
use Rattle.std.proofs.lemmas.Bool.{cases_eq}
use Rattle.fop_types.specs.declared.cells.Cell.{Cell}
use Rattle.fop_types.specs.declared.jobs.Job.{Job}
use Rattle.fop_types.specs.declared.jobs.Job.TheVariants as job
use Rattle.afr_machine.specs.Replicas.{Size}
use Rattle.afr_machine.specs.Touching.{has_cell, share}
use Rattle.afr_machine.specs.Changes.{Change}
use Rattle.afr_machine.specs.Phases.{Phase}
use Rattle.afr_machine.specs.Transactions.{Work, Stage}
use Rattle.afr_machine.specs.Transactions.Work.{Own, Settles}
use Rattle.afr_machine.specs.Transactions.Stage.{Locked, Settling, Copying}
use Rattle.afr_machine.specs.States.{State, phase_of}
use Rattle.afr_machine.specs.Births.{cells_of_work}
use Rattle.afr_machine.specs.Sending.{HasGrant, IsMember}
use Rattle.afr_machine.specs.Turns.{open_grants}
use Rattle.afr_machine.specs.Steps.{IsReached}
use Rattle.afr_laws.specs.Apart.{IsGranted}
use Rattle.afr_laws.specs.Apart.IsGranted.{HandedIn}
use Rattle.afr_laws.specs.Fresh.{is_behind}
use Rattle.afr_laws.specs.Grants.{lock_of}
use Rattle.afr_laws.specs.Work.{shares_of, changes_in}
use Rattle.afr_laws.proofs.Bools.{apart_bools, both, both_left, both_right}
use Rattle.afr_laws.proofs.Apart.Steps.{grants_apart}
use Rattle.afr_laws.proofs.Copies.Asks.{share_at}
use Rattle.afr_laws.proofs.Fresh.Known.{phases_are_known}
use Rattle.afr_laws.proofs.Overtaken.Steps.{HasOpen, has_open, opens}
use Rattle.afr_laws.proofs.Work.Known.{works_are_known}
use Rattle.afr_soundness.proofs.Copied.Lines.{behind_locks}
use Rattle.afr_contents.specs.Naming.{MayCopyFrom, CanSource, IsSourceFor, held_by}
use Rattle.afr_contents.specs.Coming.{IsUsed}

pub granted_of : (m : State) (t k : ℕ) → HasGrant m t k → open_grants m t k ≡ true
granted_of m t k g = opens m t k (record { grant = g.grant; granted = g.granted; current = g.still_open })

pub member_held : (size : Size) (m : State) (t k : ℕ) → IsMember size m t k → held_by m t k ≡ true
member_held size m t k h = both ((phase_of m t).reached k) (open_grants m t k) h.reached (granted_of m t k h.grant)

pub used_of : (size : Size) (m : State) (t k : ℕ) → IsMember size m t k → IsUsed m t k
used_of size m t k h = record { not_out = h.not_out; held = member_held size m t k h }

pub held_reached : (m : State) (t k : ℕ) → held_by m t k ≡ true → (phase_of m t).reached k ≡ true
held_reached m t k h = both_left ((phase_of m t).reached k) (open_grants m t k) h

pub held_granted : (m : State) (t k : ℕ) → held_by m t k ≡ true → open_grants m t k ≡ true
held_granted m t k h = both_right ((phase_of m t).reached k) (open_grants m t k) h

module _ (size : Size) (m : State) (r : IsReached size m) where
  may_alone : (own : Job) (phase : Phase) (work : Work) → MayCopyFrom m.changes own phase work → shares_of own work ≡ false
  may_alone (job.Change cells fd op effect) phase Own h = refl
  may_alone (job.Heal at) phase Own h = refl
  may_alone own phase (Settles u) h = refl
  may_alone other phase Own h = absurd h

  stage_alone : (t : ℕ) (cell : Cell) (s : ℕ) (stage : Stage) → (m.txns t).stage ≡ stage → CanSource size m.changes (m.txns t).job (m.txns t).work (phase_of m t) cell s stage → shares_of (m.txns t).job (m.txns t).work ≡ false
  stage_alone t cell s Locked is h = may_alone (m.txns t).job (phase_of m t) (m.txns t).work h.0
  stage_alone t cell s (Settling u group adopts) is h = (works_are_known size m r t).exclusive (ap changes_in is)
  stage_alone t cell s (Copying run) is h = (works_are_known size m r t).exclusive (ap changes_in is)
  stage_alone t cell s other is h = absurd h

  pub source_alone : (t : ℕ) (cell : Cell) (s : ℕ) → IsSourceFor size m t cell s → shares_of (m.txns t).job (m.txns t).work ≡ false
  source_alone t cell s h = stage_alone t cell s (m.txns t).stage refl h

  -- the cells of its lock phase are those of its work
  pub work_covers : (t : ℕ) (cell : Cell) → is_behind (m.txns t).stage ≡ true → has_cell (phase_of m t).cells cell ≡ true → has_cell (cells_of_work m.changes (m.txns t) (m.txns t).work) cell ≡ true
  work_covers t cell behind h = sym (ap (λ cs. has_cell cs cell) ((phases_are_known size m r t).cells behind)) ∙ h

  pub record Alone (t k : ℕ) (cell : Cell) : Type 0 where
    pub behind : is_behind (m.txns t).stage ≡ true
    pub alone : shares_of (m.txns t).job (m.txns t).work ≡ false
    pub covers : has_cell (phase_of m t).cells cell ≡ true
    pub granted : open_grants m t k ≡ true

  module _ (t k : ℕ) (cell : Cell) (a : Alone t k cell) where
    pub open_one : HasOpen m t k
    open_one = has_open m t k a.granted

    held : IsGranted m k (lock_of t (m.txns t).graph open_one.grant)
    held = HandedIn t open_one.grant (record { granted = open_one.granted; still_open = open_one.current; holding = behind_locks (m.txns t).stage a.behind }) refl

    over : has_cell open_one.grant.cells cell ≡ true
    over = ap (λ cs. has_cell cs cell) ((works_are_known size m r t).grants k open_one.grant open_one.granted).over ∙ work_covers t cell a.behind a.covers

    exclusive : open_one.grant.shared ≡ false
    exclusive = ((works_are_known size m r t).grants k open_one.grant open_one.granted).kind ∙ a.alone

  -- no two transactions have exclusive locks over one cell at one brick
  pub used_alone : (s t k : ℕ) (cell : Cell) → Alone s k cell → Alone t k cell → s ≡ t
  used_alone s t k cell a b = by_case (cases_eq s t) where
    by_case : (s ≡ t) ⊎ (s ≢ t) → s ≡ t
    by_case (inl same) = same
    by_case (inr other) =
        let p = open_one s k cell a in
        let q = open_one t k cell b in
        apart_bools
        (both (share p.grant.cells q.grant.cells) (not (p.grant.shared && q.grant.shared)) (share_at p.grant.cells q.grant.cells cell (over s k cell a) (over t k cell b)) (ap (λ x. not (x && q.grant.shared)) (exclusive s k cell a)))
        (grants_apart size m r k (lock_of s (m.txns s).graph p.grant) (lock_of t (m.txns t).graph q.grant) other (held s k cell a) (held t k cell b))
