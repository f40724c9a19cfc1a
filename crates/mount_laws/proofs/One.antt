-- At most one unsettled change touches a cell; none of another call begins on the cells of a job.
use Rattle.std.proofs.Common.{◌≡◌, ℕ, ◌⊎◌, inl, inr, true, false, refl, sym, subst, List, Some}
use Rattle.std.specs.Prelude.{◌≢◌}
use Rattle.afr_machine.specs.Changes.{Verdict}
use Rattle.afr_machine.specs.Changes.Verdict.{Unsettled, Adopted, Dropped}
use Rattle.afr_machine.specs.Replicas.{with_at}
use Rattle.afr_machine.specs.Touching.{has_cell, share}
use Rattle.afr_machine.specs.Transactions.{cells_of_job, settles_first}
use Rattle.fop_types.specs.declared.cells.Cell.{Cell}
use Rattle.fop_types.specs.declared.jobs.Job.{Job}
use Rattle.fop_types.specs.declared.jobs.Job.TheVariants as job
use Rattle.mount_laws.specs.Guards.{Allowed, IsReached, IsUnsettledOn, IsChange, IsBirth, MayBeginChange}
use Rattle.mount_laws.specs.Holding.{HoldCovers, AreHeld, AreHeldExclusively, IsHeldFor, drawn_by}
use Rattle.mount_laws.specs.Holds.{Holds, HoldsExclusively}
use Rattle.mount_laws.specs.Runs.{Run, SettledJob}
use Rattle.mount_laws.specs.Settling.{OneUnsettled, SettlingEnds, BirthsApart}
use Rattle.mount_laws.specs.States.{State, Change, Status, Runs, holds_by, held}
use Rattle.mount_laws.specs.Steps.{Step, Task, after, change_by}
use Rattle.mount_laws.proofs.Apart.{holds_apart}
use Rattle.mount_laws.proofs.Beside.{each_map, each_beside}
use Rattle.mount_laws.proofs.Held.{holds_cover, covered_held}
use Rattle.mount_laws.proofs.Sharing.{each_has, shared_cell, held_apart}
use Rattle.mount_laws.proofs.Tables.{at_case}

abbrev OneIn : (ℕ → Change) → Type 0
OneIn changes = (u w : ℕ) (cell : Cell) → (changes u).verdict ≡ Unsettled → (changes w).verdict ≡ Unsettled → (changes u).set ≡ (changes w).set
    → has_cell (changes u).cells cell ≡ true → has_cell (changes w).cells cell ≡ true → u ≡ w

-- two changes that are unsettled on one cell of a set
abbrev Meet : Change → Change → Cell → Type 0 → Type 0
Meet a b cell same = a.verdict ≡ Unsettled → b.verdict ≡ Unsettled → a.set ≡ b.set → has_cell a.cells cell ≡ true → has_cell b.cells cell ≡ true → same

decided_one : (changes : ℕ → Change) (u : ℕ) (verdict : Verdict) → verdict ≢ Unsettled → OneIn changes → OneIn (with_at changes u (record (changes u) { verdict = verdict }))
decided_one changes u verdict settled a x w cell =
    at_case (λ i (one : Change). Meet one (with_at changes u (record (changes u) { verdict = verdict }) w) cell (i ≡ w)) changes u (record (changes u) { verdict = verdict })
    (λ v. absurd (settled v)) x
    (λ differ. at_case (λ j (other : Change). Meet (changes x) other cell (x ≡ j)) changes u (record (changes u) { verdict = verdict }) (λ v k. absurd (settled k)) w (λ more. a x w cell))

made_one : (changes : ℕ → Change) (u : ℕ) (new : Change) → ((w : ℕ) → IsUnsettledOn (changes w) new.set new.cells → ⊥) → OneIn changes → OneIn (with_at changes u new)
made_one changes u new none a x w cell =
    at_case (λ i (one : Change). Meet one (with_at changes u new w) cell (i ≡ w)) changes u new
    (at_case (λ j (other : Change). Meet new other cell (u ≡ j)) changes u new (λ v k s h g. refl) w
    (λ differ v k s h g. absurd (none w (record { verdict = k; on_set = sym s; touches = shared_cell (changes w).cells new.cells cell g h })))) x
    (λ differ. at_case (λ j (other : Change). Meet (changes x) other cell (x ≡ j)) changes u new
    (λ v k s h g. absurd (none x (record { verdict = v; on_set = s; touches = shared_cell (changes x).cells new.cells cell h g }))) w (λ more. a x w cell))

-- the change of a job is on the job's set and cells
record IsOfJob (c set : ℕ) (asked : Job) : Type 0 where
  pub on_set : (change_by c set asked).set ≡ set
  pub cells : (change_by c set asked).cells ≡ cells_of_job asked
  pub settles : settles_first asked ≡ true

of_job : (c set : ℕ) (asked : Job) → IsChange asked → IsOfJob c set asked
of_job c set (job.Change cells fd o effect) is = record { on_set = refl; cells = refl; settles = refl }
of_job c set (job.Read cells fd dir) is = absurd is
of_job c set (job.Birth cells o) is = absurd is
of_job c set (job.Open fd gfid) is = absurd is
of_job c set job.Index is = absurd is
of_job c set (job.Heal cell) is = absurd is

step_one : (first : List (List ℕ)) (m : State) (step : Step) → IsReached first m → Allowed m step → OneUnsettled m → OneUnsettled (after m step)
step_one first m (Step.BeginsChange t u) reached h a =
    made_one m.changes u (change_by t.call t.set t.job)
    (λ w on. ((each_beside first m reached).running t.call t.run h.under_way.runs w).none_left h.place t.set t.job t.next h.settled h.under_way.asks made.settles
    (subst (λ (s : ℕ). IsUnsettledOn (m.changes w) s (cells_of_job t.job)) made.on_set (subst (λ (cells : List Cell). IsUnsettledOn (m.changes w) (change_by t.call t.set t.job).set cells) made.cells on)))
    a
  where
    made : IsOfJob t.call t.set t.job
    made = of_job t.call t.set t.job h.is_change
step_one first m (Step.Settles t u true) reached h a = decided_one m.changes u Adopted (λ e. absurd cc) a
step_one first m (Step.Settles t u false) reached h a = decided_one m.changes u Dropped (λ e. absurd cc) a
step_one first m (Step.Decides t u) reached h a = decided_one m.changes u Adopted (λ e. absurd cc) a
step_one first m (Step.Submits draws) reached h a = a
step_one first m (Step.Concludes c) reached h a = a
step_one first m (Step.Switches names) reached h a = a
step_one first m (Step.Begins c f kept) reached h a = a
step_one first m (Step.EndsSettling t) reached h a = a
step_one first m (Step.SendsBirths t) reached h a = a
step_one first m (Step.ConfirmsBirths t) reached h a = a
step_one first m (Step.HandsIn t shown) reached h a = a
step_one first m (Step.Extends c run dir next) reached h a = a
step_one first m (Step.Releases c run gfid) reached h a = a
step_one first m (Step.Learns c run dir spans) reached h a = a
step_one first m (Step.Answers c run answer place) reached h a = a
step_one first m (Step.AnswersAbove c run answer) reached h a = a

pub one_unsettled : (first : List (List ℕ)) (m : State) → IsReached first m → OneUnsettled m
one_unsettled first _ (IsReached.Start planned) = λ u w cell v. absurd cc
one_unsettled first _ (IsReached.Further old step reached allowed) = step_one first old step reached allowed (one_unsettled first old reached)

-- ---- settling ends

change_alone : (m : State) → HoldCovers m → (t : Task) (u : ℕ) → MayBeginChange m t u → AreHeldExclusively (held m t.call) (cells_of_job t.job)
change_alone m cover t u h =
    subst (λ (s : Status). AreHeldExclusively (holds_by s) (cells_of_job t.job)) (sym h.under_way.runs)
    (alone t.job h.is_change (cover.asked t.call t.run t.set t.job t.next h.under_way.runs h.under_way.asks))
  where
    alone : (asked : Job) → IsChange asked → IsHeldFor t.run.holds t.run.fop asked → AreHeldExclusively t.run.holds (cells_of_job asked)
    alone (job.Change cells fd o effect) is k = k.alone
    alone (job.Read cells fd dir) is k = absurd is
    alone (job.Birth cells o) is k = absurd is
    alone (job.Open fd gfid) is k = absurd is
    alone job.Index is k = absurd is
    alone (job.Heal cell) is k = absurd is

pub settling_ends : (first : List (List ℕ)) (m : State) → IsReached first m → SettlingEnds m
settling_ends first m reached = record {
  asked = λ c run cells t u ne h w. subst (λ (cs : List Cell). share (cells_of_job t.job) cs ≡ false) (sym w.cells_are)
      (apart_from c run t u ne h w.runs (cells_of_job w.asked) (covered_held run.holds run.fop w.asked w.settles (cover.asked c run t.set w.asked w.next w.runs w.asks)));
  settled = λ c run t u ne h runs. each_map (λ (done : SettledJob). AreHeld run.holds done.cells) (λ (done : SettledJob). share (cells_of_job t.job) done.cells ≡ false) run.settled
      (λ done k. apart_from c run t u ne h runs done.cells k) (cover.settled c run runs);
}
  where
    cover : HoldCovers m
    cover = holds_cover first m reached

    apart_from : (c : ℕ) (run : Run) (t : Task) (u : ℕ) → c ≢ t.call → MayBeginChange m t u → Runs m c run → (cells : List Cell) → AreHeld run.holds cells → share (cells_of_job t.job) cells ≡ false
    apart_from c run t u ne h runs cells k =
        held_apart (held m t.call) (held m c) (cells_of_job t.job) cells (holds_apart first m reached t.call c (λ e. ne (sym e))) (change_alone m cover t u h)
        (subst (λ (s : Status). AreHeld (holds_by s) cells) (sym runs) k)

-- ---- births

pub births_apart : (first : List (List ℕ)) (m : State) → IsReached first m → BirthsApart m
births_apart first m reached c run t cell ne runs holds h has =
    of_job t.job h.is_birth ((holds_cover first m reached).asked t.call t.run t.set t.job t.next h.under_way.runs h.under_way.asks) has
  where
    apart : HoldsExclusively t.run.holds cell.gfid → ⊥
    apart own =
        (holds_apart first m reached t.call c (λ e. ne (sym e))).first cell.gfid (subst (λ (s : Status). HoldsExclusively (holds_by s) cell.gfid) (sym h.under_way.runs) own) (subst (λ (s : Status). Holds (holds_by s) cell.gfid) (sym runs) holds)

    one : HoldsExclusively t.run.holds cell.gfid ⊎ (drawn_by t.run.fop ≡ Some cell.gfid) → drawn_by t.run.fop ≡ Some cell.gfid
    one (inl own) = absurd (apart own)
    one (inr drawn) = drawn

    of_job : (asked : Job) → IsBirth asked → IsHeldFor t.run.holds t.run.fop asked → has_cell (cells_of_job asked) cell ≡ true → drawn_by t.run.fop ≡ Some cell.gfid
    of_job (job.Birth cells o) is k has = one (each_has (λ (x : Cell). HoldsExclusively t.run.holds x.gfid ⊎ (drawn_by t.run.fop ≡ Some x.gfid)) cells cell k.0 has)
    of_job (job.Read cells fd dir) is k has = absurd is
    of_job (job.Change cells fd o effect) is k has = absurd is
    of_job (job.Open fd gfid) is k has = absurd is
    of_job job.Index is k has = absurd is
    of_job (job.Heal other) is k has = absurd is
