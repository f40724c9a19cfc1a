-- The change that a job begins: where it is, that its cells are present, and that no other unsettled change is of them.
use Rattle.std.proofs.Common.{◌≡◌, ◌≢◌, inl, inr, ◌∙◌, ℕ, ◌<◌, Bool, true, false, ◌&&◌, ◌||◌, not, sym, ap, subst, List, [], ◌∷◌, Option, arith}
use Rattle.afr_machine.specs.Changes.Verdict.{Undrawn, Unsettled}
use Rattle.afr_machine.specs.Touching.{is_cell, has_cell}
use Rattle.afr_machine.specs.Transactions.{cells_of_job}
use Rattle.afr_machine.proofs.Tables.{at_same, at_other}
use Rattle.dht_fops.specs.Courses.{Course}
use Rattle.fop_types.specs.StoreOps.{needs, fits, is_unfit, are_present}
use Rattle.fop_types.specs.declared.cells.Cell.{Cell}
use Rattle.fop_types.specs.declared.history.Entry.{Entry}
use Rattle.fop_types.specs.declared.jobs.Job.{Job}
use Rattle.fop_types.specs.declared.jobs.Job.TheVariants as job
use Rattle.fop_types.specs.declared.store_ops.StoreOp.{StoreOp}
use Rattle.mount_files.specs.Pairs.{OpOn, AreApart, Needs, Fits}
use Rattle.mount_laws.specs.Guards.{Allowed, IsReached}
use Rattle.mount_laws.specs.Holding.{IsHeldChange}
use Rattle.mount_laws.specs.Objects.{volumes}
use Rattle.mount_laws.specs.States.{State, Change, set_count}
use Rattle.mount_laws.specs.Steps.{Step, Task, after, change_by}
use Rattle.mount_laws.proofs.Beyond.{in_its_graph, job_within}
use Rattle.mount_laws.proofs.Firm.{are_whole}
use Rattle.mount_laws.proofs.Held.{holds_cover, jobs_asked}
use Rattle.mount_laws.proofs.One.{one_unsettled}
use Rattle.mount_laws.proofs.Sharing.{is_cell_refl, or_right}
use Rattle.mount_shown.proofs.Jobs.{sets_within}
use Rattle.mount_shown.specs.Bridge.{op_of}

abbrev pub op_on : ℕ → StoreOp → Option Entry → OpOn
op_on set o effect = record { set = set; op = o; effect = effect }

-- the op fits, and is apart from each unsettled change
pub record BeginsAs (m : State) (b : OpOn) : Type 0 where
  pub fits : Fits (volumes m) (set_count m) b
  pub apart : (w : ℕ) → (m.changes w).verdict ≡ Unsettled → AreApart b (op_of (m.changes w))

pub has_needed : (cells : List Cell) (cell : Cell) → Needs cells cell → has_cell cells cell ≡ true
has_needed [] cell k = absurd k
has_needed (one ∷ cells) cell (inl e) = subst (λ (x : Cell). (is_cell cell x || has_cell cells cell) ≡ true) (sym e) (ap (λ b. b || has_cell cells cell) (is_cell_refl cell))
has_needed (one ∷ cells) cell (inr k) = or_right (is_cell cell one) (has_cell cells cell) (has_needed cells cell k)

module _ (first : List (List ℕ)) (m : State) (reached : IsReached first m) (t : Task) (u : ℕ) (h : Allowed m (Step.BeginsChange t u)) (cells : List Cell) (fd : ℕ) (o : StoreOp) (effect : Option Entry) (is : t.job ≡ job.Change cells fd o effect) where
  pub asks : t.run.course ≡ Course.Asks t.set (job.Change cells fd o effect) t.next
  asks = h.under_way.asks ∙ ap (λ (j : Job). Course.Asks t.set j t.next) is

  pub low_run : t.set < t.run.volume.sets
  low_run = job_within m (jobs_asked first m reached) (in_its_graph first m reached) t.call t.run h.under_way.runs t.set (job.Change cells fd o effect) t.next asks

  pub low : t.set < set_count m
  low = let k = low_run in let most = sets_within first m reached t.call t.run h.under_way.runs in omega (arith, k, most)

  held : IsHeldChange t.run.holds t.run.fop cells o
  held = (holds_cover first m reached).asked t.call t.run t.set (job.Change cells fd o effect) t.next h.under_way.runs asks

  pub cells_are : cells ≡ needs o
  cells_are = held.whole

  pub present : are_present (m.adopted t.set) (needs o) ≡ true
  present = subst (λ (cs : List Cell). are_present (m.adopted t.set) cs ≡ true) cells_are (subst (λ (j : Job). are_present (m.adopted t.set) (cells_of_job j) ≡ true) is h.present)

  pub fits_by : is_unfit (m.adopted t.set) o ≡ false → fits (m.adopted t.set) o ≡ true
  fits_by none = ap (λ (b : Bool). b && not (is_unfit (m.adopted t.set) o)) present ∙ ap not none

  -- ---- the state after it

  pub reached_after : IsReached first (after m (Step.BeginsChange t u))
  reached_after = IsReached.Further m (Step.BeginsChange t u) reached h

  pub made : Change
  made = record { by = t.call; set = t.set; cells = cells; op = o; effect = effect; verdict = Unsettled }

  pub here : (after m (Step.BeginsChange t u)).changes u ≡ record { by = t.call; set = t.set; cells = cells; op = o; effect = effect; verdict = Unsettled }
  here = at_same m.changes u (change_by t.call t.set t.job) ∙ ap (λ (j : Job). change_by t.call t.set j) is

  pub differs : (w : ℕ) → (m.changes w).verdict ≡ Unsettled → w ≢ u
  differs w was e = let clash : Unsettled ≡ Undrawn = sym was ∙ ap (λ (i : ℕ). (m.changes i).verdict) e ∙ h.fresh in absurd cc

  pub there : (w : ℕ) → (m.changes w).verdict ≡ Unsettled → (after m (Step.BeginsChange t u)).changes w ≡ m.changes w
  there w was = at_other m.changes u (change_by t.call t.set t.job) w (differs w was)

  pub cells_apart : (w : ℕ) → (m.changes w).verdict ≡ Unsettled → t.set ≡ (m.changes w).set → (cell : Cell) → Needs (needs o) cell → Needs (needs (m.changes w).op) cell → ⊥
  cells_apart w was same cell mine theirs =
      let n = after m (Step.BeginsChange t u) in
      let other = there w was in
      let drawn : (m.changes w).verdict ≢ Undrawn = λ e. (let clash : Unsettled ≡ Undrawn = sym was ∙ e in absurd cc) in
      differs w was
      (sym (one_unsettled first n reached_after u w cell (ap (λ (x : Change). x.verdict) here) (ap (λ (x : Change). x.verdict) other ∙ was)
      (ap (λ (x : Change). x.set) here ∙ same ∙ sym (ap (λ (x : Change). x.set) other))
      (ap (λ (x : Change). has_cell x.cells cell) here ∙ subst (λ (cs : List Cell). has_cell cs cell ≡ true) (sym cells_are) (has_needed (needs o) cell mine))
      (ap (λ (x : Change). has_cell x.cells cell) other ∙ subst (λ (cs : List Cell). has_cell cs cell ≡ true) (sym (are_whole first m reached w drawn)) (has_needed (needs (m.changes w).op) cell theirs))))
