-- The cells of a change are those that its op needs, and are firm; a cell that is not firm has no names.
use Rattle.std.proofs.Common.{◌≡◌, ◌∙◌, ℕ, Bool, true, false, refl, sym, ap, subst, List}
use Rattle.std.specs.Prelude.{◌≢◌, ◌||◌}
use Rattle.afr_machine.specs.Changes.{Verdict}
use Rattle.afr_machine.specs.Changes.Verdict.{Undrawn, Unsettled, Adopted, Dropped}
use Rattle.afr_machine.specs.Copies.{root_alone, contents_of}
use Rattle.afr_machine.specs.Replicas.{with_at}
use Rattle.afr_machine.specs.Touching.{is_cell, has_cell}
use Rattle.afr_machine.specs.Transactions.{cells_of_job}
use Rattle.afr_machine.proofs.Tables.{at_same}
use Rattle.fop_types.specs.Cells.{root, meta_cell, names_cell}
use Rattle.fop_types.specs.StoreOps.{Contents, needs, after_births}
use Rattle.fop_types.specs.declared.cells.Cell.{Cell}
use Rattle.fop_types.specs.declared.jobs.Job.{Job}
use Rattle.fop_types.specs.declared.jobs.Job.TheVariants as job
use Rattle.dht_fops.specs.Shown.{SetContents}
use Rattle.mount_laws.specs.Guards.{Allowed, IsReached, IsChange, MayBeginChange}
use Rattle.mount_laws.specs.Holding.{HoldCovers, IsHeldFor}
use Rattle.mount_laws.specs.Settling.{HasNoNames, TouchedIsFirm, AreWhole}
use Rattle.mount_laws.specs.States.{State, Change, start}
use Rattle.mount_laws.specs.Steps.{Step, Task, after, change_by, births_by, applied}
use Rattle.mount_laws.proofs.Contents.{births_leave, births_have_none, applied_leaves, stays_nameless, HaveNoNames}
use Rattle.mount_laws.proofs.Held.{holds_cover}
use Rattle.mount_laws.proofs.Sharing.{or_right}
use Rattle.mount_laws.proofs.Tables.{at_case}

-- ---- whole changes

decided_whole : (m : State) (u : ℕ) (verdict : Verdict) → (m.changes u).verdict ≡ Unsettled → AreWhole m → (w : ℕ) → (with_at m.changes u (record (m.changes u) { verdict = verdict }) w).verdict ≢ Undrawn
    → (with_at m.changes u (record (m.changes u) { verdict = verdict }) w).cells ≡ needs (with_at m.changes u (record (m.changes u) { verdict = verdict }) w).op
decided_whole m u verdict was a w =
    at_case (λ i (one : Change). one.verdict ≢ Undrawn → one.cells ≡ needs one.op) m.changes u (record (m.changes u) { verdict = verdict })
    (λ drawn. a u (λ e. let clash : Unsettled ≡ Undrawn = sym was ∙ e in absurd cc)) w (λ differ. a w)

made_whole : (m : State) → HoldCovers m → (t : Task) (u : ℕ) → MayBeginChange m t u → (change_by t.call t.set t.job).cells ≡ needs (change_by t.call t.set t.job).op
made_whole m cover t u h = of_job t.job h.is_change (cover.asked t.call t.run t.set t.job t.next h.under_way.runs h.under_way.asks)
  where
    of_job : (asked : Job) → IsChange asked → IsHeldFor t.run.holds t.run.fop asked → (change_by t.call t.set asked).cells ≡ needs (change_by t.call t.set asked).op
    of_job (job.Change cells fd o effect) is k = k.whole
    of_job (job.Read cells fd dir) is k = absurd is
    of_job (job.Birth cells o) is k = absurd is
    of_job (job.Open fd gfid) is k = absurd is
    of_job job.Index is k = absurd is
    of_job (job.Heal cell) is k = absurd is

step_whole : (m : State) (step : Step) → Allowed m step → HoldCovers m → AreWhole m → AreWhole (after m step)
step_whole m (Step.BeginsChange t u) h cover a = λ w.
    at_case (λ i (one : Change). one.verdict ≢ Undrawn → one.cells ≡ needs one.op) m.changes u (change_by t.call t.set t.job) (λ drawn. made_whole m cover t u h) w (λ differ. a w)
step_whole m (Step.Settles t u true) h cover a = decided_whole m u Adopted h.unsettled.verdict a
step_whole m (Step.Settles t u false) h cover a = decided_whole m u Dropped h.unsettled.verdict a
step_whole m (Step.Decides t u) h cover a = decided_whole m u Adopted h.unsettled a
step_whole m (Step.Submits draws) h cover a = a
step_whole m (Step.Concludes c) h cover a = a
step_whole m (Step.Switches names) h cover a = a
step_whole m (Step.Begins c f kept) h cover a = a
step_whole m (Step.EndsSettling t) h cover a = a
step_whole m (Step.SendsBirths t) h cover a = a
step_whole m (Step.ConfirmsBirths t) h cover a = a
step_whole m (Step.HandsIn t shown) h cover a = a
step_whole m (Step.Extends c run dir next) h cover a = a
step_whole m (Step.Releases c run gfid) h cover a = a
step_whole m (Step.Learns c run dir spans) h cover a = a
step_whole m (Step.Answers c run answer place) h cover a = a
step_whole m (Step.AnswersAbove c run answer) h cover a = a

pub are_whole : (first : List (List ℕ)) (m : State) → IsReached first m → AreWhole m
are_whole first _ (IsReached.Start planned) = λ u drawn. absurd (drawn refl)
are_whole first _ (IsReached.Further old step reached allowed) = step_whole old step allowed (holds_cover first old reached) (are_whole first old reached)

-- ---- firm cells

abbrev Firm : Type 0
Firm = ℕ → Cell → Bool

abbrev firm_with : Firm → ℕ → List Cell → Firm
firm_with firm set cells = with_at firm set (λ (cell : Cell). has_cell cells cell || firm set cell)

firm_grows : (firm : Firm) (set : ℕ) (cells : List Cell) (s : ℕ) (cell : Cell) → firm s cell ≡ true → firm_with firm set cells s cell ≡ true
firm_grows firm set cells s cell h =
    at_case (λ i (one : Cell → Bool). firm i cell ≡ true → one cell ≡ true) firm set (λ (c : Cell). has_cell cells c || firm set c) (λ k. or_right (has_cell cells cell) (firm set cell) k) s (λ differ k. k) h

firm_new : (firm : Firm) (set : ℕ) (cells : List Cell) (cell : Cell) → has_cell cells cell ≡ true → firm_with firm set cells set cell ≡ true
firm_new firm set cells cell h =
    ap (λ (one : Cell → Bool). one cell) (at_same firm set (λ (c : Cell). has_cell cells c || firm set c)) ∙ ap (λ b. b || firm set cell) h

-- a cell that is not firm was not firm before
firm_was : (firm : Firm) (set : ℕ) (cells : List Cell) (s : ℕ) (cell : Cell) → firm_with firm set cells s cell ≡ false → firm s cell ≡ false
firm_was firm set cells s cell h = by_case (firm s cell) refl
  where
    by_case : (b : Bool) → firm s cell ≡ b → b ≡ false
    by_case true e = let clash : true ≡ false = sym (firm_grows firm set cells s cell e) ∙ h in absurd cc
    by_case false e = refl

abbrev TouchedIn : (ℕ → Change) → Firm → Type 0
TouchedIn changes firm = (u : ℕ) (cell : Cell) → (changes u).verdict ≢ Undrawn → has_cell (changes u).cells cell ≡ true → firm (changes u).set cell ≡ true

abbrev NamelessIn : Firm → SetContents → Type 0
NamelessIn firm adopted = (set : ℕ) (cell : Cell) → firm set cell ≡ false → HasNoNames (adopted set cell)

decided_touched : (m : State) (u : ℕ) (verdict : Verdict) → (m.changes u).verdict ≡ Unsettled → TouchedIn m.changes m.firm → TouchedIn (with_at m.changes u (record (m.changes u) { verdict = verdict })) m.firm
decided_touched m u verdict was a w cell =
    at_case (λ i (one : Change). one.verdict ≢ Undrawn → has_cell one.cells cell ≡ true → m.firm one.set cell ≡ true) m.changes u (record (m.changes u) { verdict = verdict })
    (λ drawn. a u cell (λ e. let clash : Unsettled ≡ Undrawn = sym was ∙ e in absurd cc)) w (λ differ. a w cell)

-- what a change that is adopted leaves nameless
adopted_nameless : (m : State) (u : ℕ) → (m.changes u).verdict ≡ Unsettled → AreWhole m → TouchedIn m.changes m.firm → NamelessIn m.firm m.adopted
    → NamelessIn m.firm (with_at m.adopted (m.changes u).set (applied (m.adopted (m.changes u).set) (m.changes u).op))
adopted_nameless m u was whole touched a s cell =
    at_case (λ i (one : Contents). m.firm i cell ≡ false → HasNoNames (one cell)) m.adopted (m.changes u).set (applied (m.adopted (m.changes u).set) (m.changes u).op)
    (λ soft. stays_nameless (m.adopted (m.changes u).set cell) (applied (m.adopted (m.changes u).set) (m.changes u).op cell)
    (applied_leaves (m.adopted (m.changes u).set) (m.changes u).op cell (outside soft)) (a (m.changes u).set cell soft)) s (λ differ. a s cell)
  where
    drawn : (m.changes u).verdict ≢ Undrawn
    drawn e = let clash : Unsettled ≡ Undrawn = sym was ∙ e in absurd cc

    outside : m.firm (m.changes u).set cell ≡ false → has_cell (needs (m.changes u).op) cell ≡ false
    outside soft = subst (λ (cells : List Cell). has_cell cells cell ≡ false) (whole u drawn) (by_case (has_cell (m.changes u).cells cell) refl)
      where
        by_case : (b : Bool) → has_cell (m.changes u).cells cell ≡ b → b ≡ false
        by_case true e = let clash : true ≡ false = sym (touched u cell drawn e) ∙ soft in absurd cc
        by_case false e = refl

pub jobs_have_none : (asked : Job) → HaveNoNames (births_by asked)
jobs_have_none (job.Read cells fd dir) = tt
jobs_have_none (job.Change cells fd o effect) = births_have_none o
jobs_have_none (job.Birth cells o) = births_have_none o
jobs_have_none (job.Open fd gfid) = tt
jobs_have_none job.Index = tt
jobs_have_none (job.Heal cell) = tt

born_nameless : (m : State) (t : Task) → NamelessIn m.firm m.adopted → NamelessIn m.firm (with_at m.adopted t.set (after_births (m.adopted t.set) (births_by t.job)))
born_nameless m t a s cell =
    at_case (λ i (one : Contents). m.firm i cell ≡ false → HasNoNames (one cell)) m.adopted t.set (after_births (m.adopted t.set) (births_by t.job))
    (λ soft. stays_nameless (m.adopted t.set cell) (after_births (m.adopted t.set) (births_by t.job) cell) (births_leave (births_by t.job) (m.adopted t.set) cell (jobs_have_none t.job)) (a t.set cell soft)) s (λ differ. a s cell)

step_touched : (m : State) (step : Step) → Allowed m step → TouchedIn m.changes m.firm → TouchedIn (after m step).changes (after m step).firm
step_touched m (Step.BeginsChange t u) h a = λ w cell.
    at_case (λ i (one : Change). one.verdict ≢ Undrawn → has_cell one.cells cell ≡ true → firm_with m.firm t.set (cells_of_job t.job) one.set cell ≡ true) m.changes u (change_by t.call t.set t.job)
    (λ drawn has. made t.job h.is_change cell has) w (λ differ drawn has. firm_grows m.firm t.set (cells_of_job t.job) (m.changes w).set cell (a w cell drawn has))
  where
    made : (asked : Job) → IsChange asked → (c : Cell) → has_cell (change_by t.call t.set asked).cells c ≡ true → firm_with m.firm t.set (cells_of_job asked) (change_by t.call t.set asked).set c ≡ true
    made (job.Change cells fd o effect) is c has = firm_new m.firm t.set cells c has
    made (job.Read cells fd dir) is c has = absurd is
    made (job.Birth cells o) is c has = absurd is
    made (job.Open fd gfid) is c has = absurd is
    made job.Index is c has = absurd is
    made (job.Heal other) is c has = absurd is
step_touched m (Step.Settles t u true) h a = decided_touched m u Adopted h.unsettled.verdict a
step_touched m (Step.Settles t u false) h a = decided_touched m u Dropped h.unsettled.verdict a
step_touched m (Step.Decides t u) h a = decided_touched m u Adopted h.unsettled a
step_touched m (Step.ConfirmsBirths t) h a = λ w cell drawn has. firm_grows m.firm t.set (cells_of_job t.job) (m.changes w).set cell (a w cell drawn has)
step_touched m (Step.Submits draws) h a = a
step_touched m (Step.Concludes c) h a = a
step_touched m (Step.Switches names) h a = a
step_touched m (Step.Begins c f kept) h a = a
step_touched m (Step.EndsSettling t) h a = a
step_touched m (Step.SendsBirths t) h a = a
step_touched m (Step.HandsIn t shown) h a = a
step_touched m (Step.Extends c run dir next) h a = a
step_touched m (Step.Releases c run gfid) h a = a
step_touched m (Step.Learns c run dir spans) h a = a
step_touched m (Step.Answers c run answer place) h a = a
step_touched m (Step.AnswersAbove c run answer) h a = a

step_nameless : (m : State) (step : Step) → Allowed m step → AreWhole m → TouchedIn m.changes m.firm → NamelessIn m.firm m.adopted → NamelessIn (after m step).firm (after m step).adopted
step_nameless m (Step.BeginsChange t u) h whole touched a = λ s cell soft. a s cell (firm_was m.firm t.set (cells_of_job t.job) s cell soft)
step_nameless m (Step.ConfirmsBirths t) h whole touched a = λ s cell soft. a s cell (firm_was m.firm t.set (cells_of_job t.job) s cell soft)
step_nameless m (Step.Settles t u true) h whole touched a = adopted_nameless m u h.unsettled.verdict whole touched a
step_nameless m (Step.Settles t u false) h whole touched a = a
step_nameless m (Step.Decides t u) h whole touched a = adopted_nameless m u h.unsettled whole touched a
step_nameless m (Step.SendsBirths t) h whole touched a = born_nameless m t a
step_nameless m (Step.Submits draws) h whole touched a = a
step_nameless m (Step.Concludes c) h whole touched a = a
step_nameless m (Step.Switches names) h whole touched a = a
step_nameless m (Step.Begins c f kept) h whole touched a = a
step_nameless m (Step.EndsSettling t) h whole touched a = a
step_nameless m (Step.HandsIn t shown) h whole touched a = a
step_nameless m (Step.Extends c run dir next) h whole touched a = a
step_nameless m (Step.Releases c run gfid) h whole touched a = a
step_nameless m (Step.Learns c run dir spans) h whole touched a = a
step_nameless m (Step.Answers c run answer place) h whole touched a = a
step_nameless m (Step.AnswersAbove c run answer) h whole touched a = a

-- each set begins with the root, whose cells are firm, and nothing else
start_nameless : (first : List (List ℕ)) → NamelessIn (start first).firm (start first).adopted
start_nameless first s cell = by_meta (is_cell cell (meta_cell root)) refl
  where
    by_names : (b : Bool) → is_cell cell (meta_cell root) ≡ false → is_cell cell (names_cell root) ≡ b → (start first).firm s cell ≡ false → HasNoNames (contents_of root_alone cell)
    by_names true e f soft = absurd (let clash : true ≡ false = rw (e, f) at soft in cc)
    by_names false e f soft = rw (e, f) (record { none = refl; kept = refl })

    by_meta : (b : Bool) → is_cell cell (meta_cell root) ≡ b → (start first).firm s cell ≡ false → HasNoNames (contents_of root_alone cell)
    by_meta true e soft = absurd (let clash : true ≡ false = rw e at soft in cc)
    by_meta false e soft = by_names (is_cell cell (names_cell root)) e refl soft

pub firm_touched : (first : List (List ℕ)) (m : State) → IsReached first m → TouchedIsFirm m
firm_touched first _ (IsReached.Start planned) = record { touched = λ u cell drawn. absurd (drawn refl); no_names = start_nameless first }
firm_touched first _ (IsReached.Further old step reached allowed) =
    let a = firm_touched first old reached in
    record { touched = step_touched old step allowed a.touched; no_names = step_nameless old step allowed (are_whole first old reached) a.touched a.no_names }
