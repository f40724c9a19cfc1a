-- Each step leaves accusers and changes only on cells over which a lock phase wrote.
use Rattle.std.proofs.Common.{◌≡◌, ◌∙◌, ℕ, zero, suc, ◌+◌, ◌≤◌, Bool, true, false, refl, sym, ap, subst, arith, Option, Some, None}
use Rattle.std.specs.Prelude.{if◌then◌else◌, List, [], ◌∷◌, ◌==◌, not}
use Rattle.fop_types.specs.Cells.{root, meta_cell, names_cell}
use Rattle.fop_types.specs.declared.cells.Cell.{Cell}
use Rattle.fop_types.specs.declared.contents.Content.TheVariants as content
use Rattle.fop_types.specs.declared.jobs.Job.{Job}
use Rattle.fop_types.specs.declared.jobs.Job.TheVariants as job
use Rattle.afr_machine.specs.Replicas.{Size, IsSize, Replicas, count, one_if}
use Rattle.afr_machine.specs.Touching.{is_cell, has_cell}
use Rattle.afr_machine.specs.Copies.{nothing_kept, born_as, root_alone}
use Rattle.afr_machine.specs.Requests.{Input, Output}
use Rattle.afr_machine.specs.Requests.Input.{Asked, Steered}
use Rattle.afr_machine.specs.Bricks.{Brick}
use Rattle.afr_machine.specs.Changes.{Change}
use Rattle.afr_machine.specs.Transactions.{Work, Stage}
use Rattle.afr_machine.specs.Transactions.Work.{Own, Settles}
use Rattle.afr_machine.specs.Transactions.Stage.{Applying, Marking, Copying}
use Rattle.afr_machine.specs.States.{State, start}
use Rattle.afr_machine.specs.Sending.{sender_of}
use Rattle.afr_machine.specs.Answering.{without_first_output}
use Rattle.afr_machine.specs.Turns.{Turn, after_turn, drawing, posting, settling, bearing, clearing}
use Rattle.afr_machine.specs.Steps.{Step, MayUnsettle, Allowed, after, IsReached, take_in_front, unsettling, deciding, decided, decided_by}
use Rattle.afr_machine.specs.Moves.{IsTaken}
use Rattle.afr_machine.proofs.BrickMoves.{bricks_move}
use Rattle.afr_machine.proofs.Keeping.{taken_in_beside}
use Rattle.afr_laws.specs.Senders.{EachInput}
use Rattle.afr_laws.specs.Rows.{accuses_at}
use Rattle.afr_laws.specs.OwnChanges.{was_unsettled, IsOwnStage, ChangesAreOwn}
use Rattle.afr_laws.specs.Fresh.{is_behind, IsWorkOf, HasWritten, EachKnowsPhase, IsWritten, AccusesWritten, EveryCellIsFresh}
use Rattle.afr_laws.proofs.Carry.{at_case}
use Rattle.afr_laws.proofs.OwnChanges.Steps.{changes_are_own}
use Rattle.afr_laws.proofs.Newest.Stays.{TableStays, table_stays, turn_changes, front_stays, decided_stays}
use Rattle.afr_laws.proofs.Copies.Lines.{change_in}
use Rattle.afr_laws.proofs.Copies.Steps.{copies_are_of_changes}
use Rattle.afr_laws.proofs.Fresh.Phased.{PhasesGo, same_phases, written_goes}
use Rattle.afr_laws.proofs.Fresh.Phases.{front_phases, asked_phases, turn_phases, unsettling_phases, decided_phases}
use Rattle.afr_laws.proofs.Fresh.Moves.{AddsOn, move_accuses}
use Rattle.afr_laws.proofs.Fresh.Known.{own_cells, asked_inputs, phases_are_known}

-- accusers, and changes that became unsettled once
pub record FreshSoFar (m : State) : Type 0 where
  pub accusers : (k : ℕ) → AccusesWritten (IsWritten m.phases m.ended) (m.bricks k)
  pub changes : (u : ℕ) (cell : Cell) → was_unsettled (m.changes u).verdict ≡ true → has_cell (m.changes u).cells cell ≡ true → IsWritten m.phases m.ended cell

-- ---- more is written

accuses_more : (P Q : Cell → Type 0) (b : Brick) → ((cell : Cell) → P cell → Q cell) → AccusesWritten P b → AccusesWritten Q b
accuses_more P Q b more a = record { rows = λ cell i h. more cell (a.rows cell i h); line = line_more b.line a.line } where
  line_more : (line : List Input) → EachInput (AddsOn P) line → EachInput (AddsOn Q) line
  line_more [] h = tt
  line_more (Asked by ask ∷ is) h = (λ cell i added. more cell (h.0 cell i added), line_more is h.1)
  line_more (Steered control ∷ is) h = line_more is h

-- ---- lock phases, and how many of them have ended

at_least : (a b : ℕ) → b ≡ a → a ≤ b
at_least a b e = omega (arith, e)

turn_ended : (size : Size) (m : State) (t : ℕ) (turn : Turn) → m.ended ≤ (after_turn size m t turn).ended
turn_ended size m t Turn.Reaches = omega arith
turn_ended size m t Turn.Marks = drawn (m.txns t).job where
  drawn : (j : Job) → m.ended ≤ (drawing m t j).ended
  drawn (job.Change cells fd op effect) = omega arith
  drawn other = omega arith
turn_ended size m t Turn.Posts = posted (m.txns t).stage where
  posted : (stage : Stage) → m.ended ≤ (posting size m t stage).ended
  posted (Applying u) = omega arith
  posted other = omega arith
turn_ended size m t (Turn.SettlesAs group adopts) = settled (m.txns t).work where
  settled : (work : Work) → m.ended ≤ (settling size m t work group adopts).ended
  settled Own = omega arith
  settled (Settles u) = omega arith
turn_ended size m t Turn.Bears = born (m.txns t).job where
  born : (j : Job) → m.ended ≤ (bearing m t j).ended
  born (job.Birth cells op) = omega arith
  born other = omega arith
turn_ended size m t Turn.Clears = cleared (m.txns t).stage where
  cleared : (stage : Stage) → m.ended ≤ (clearing m t stage).ended
  cleared (Copying run) = omega arith
  cleared other = omega arith
turn_ended size m t other = omega arith

pub front_ended : (m : State) (k : ℕ) (os : List Output) → (take_in_front m k os).ended ≡ m.ended
front_ended m k [] = refl
front_ended m k (o ∷ os) = (taken_in_beside m k o).ended

pub unsettling_ended : (m : State) (t : ℕ) (stage : Stage) → (unsettling m t stage).ended ≡ m.ended
unsettling_ended m t (Marking u) = refl
unsettling_ended m t other = refl

pub decided_ended : (m : State) (d : Option (ℕ × Bool)) → (decided m d).ended ≡ m.ended
decided_ended m None = refl
decided_ended m (Some d) = by_case d.1 _ where
  by_case : (adopts first : Bool) → (deciding m d.0 adopts first).ended ≡ m.ended
  by_case adopts false = refl
  by_case true true = refl
  by_case false true = refl

module _ (size : Size) (m : State) where
  pub ended_goes : (step : Step) → m.ended ≤ (after size m step).ended
  ended_goes (Step.Turns t turn) = turn_ended size m t turn
  ended_goes (Step.HandsIn k) = at_least m.ended _ (front_ended (without_first_output m k) k (m.bricks k).outputs)
  ended_goes (Step.Unsettles t) = at_least m.ended _ (unsettling_ended m t (m.txns t).stage)
  ended_goes (Step.Decides t) = at_least m.ended _ (decided_ended m (decided_by (m.txns t).stage))
  ended_goes other = omega arith

  pub step_phases : (step : Step) → PhasesGo m.ended m.phases (after size m step).phases
  step_phases (Step.Turns t turn) = turn_phases m size t turn
  step_phases (Step.Asks t k first asked) = asked_phases m t k first asked
  step_phases (Step.HandsIn k) = front_phases (without_first_output m k) k (m.bricks k).outputs
  step_phases (Step.Unsettles t) = subst (PhasesGo m.ended m.phases) (sym (unsettling_phases m t (m.txns t).stage)) (same_phases m.ended m.phases)
  step_phases (Step.Decides t) = subst (PhasesGo m.ended m.phases) (sym (decided_phases m (decided_by (m.txns t).stage))) (same_phases m.ended m.phases)
  step_phases other = same_phases m.ended m.phases

  step_more : (step : Step) → (cell : Cell) → IsWritten m.phases m.ended cell → IsWritten (after size m step).phases (after size m step).ended cell
  step_more step = written_goes m.ended (after size m step).ended m.phases (after size m step).phases (ended_goes step) (step_phases step)

-- ---- changes that became unsettled

-- no further change became unsettled
abbrev SentBack : (ℕ → Change) → (ℕ → Change) → Type 0
SentBack old new = (u : ℕ) → was_unsettled (new u).verdict ≡ true → (was_unsettled (old u).verdict ≡ true) × ((new u).cells ≡ (old u).cells)

stays_back : (old new : ℕ → Change) → TableStays old new → SentBack old new
stays_back old new s u h = (s.sent u h, s.cells u)

draws_back : (m : State) (t : ℕ) (own : Job) → SentBack m.changes (drawing m t own).changes
draws_back m t (job.Change cells fd op effect) = λ u. at_case (λ n (c : Change). was_unsettled c.verdict ≡ true → (was_unsettled (m.changes n).verdict ≡ true) × (c.cells ≡ (m.changes n).cells)) m.changes (m.drawn + 1) _ (λ h. absurd cc) u (λ ne h. (h, refl))
draws_back m t other = λ u h. (h, refl)

turns_back : (size : Size) (m : State) (t : ℕ) (turn : Turn) → SentBack m.changes (after_turn size m t turn).changes
turns_back size m t Turn.Marks = draws_back m t (m.txns t).job
turns_back size m t turn = stays_back m.changes _ (subst (TableStays m.changes) (sym (turn_changes size m t turn refl)) (table_stays m.changes))

some_member : (n : ℕ) (set : Replicas) → 1 ≤ count n set → (k : ℕ) × (set k ≡ true)
some_member zero set h = absurd (omega (arith, h))
some_member (suc n) set h = by_case (some_member n set) (set n) refl h where
  by_case : (1 ≤ count n set → (k : ℕ) × (set k ≡ true)) → (b : Bool) → set n ≡ b → 1 ≤ one_if b + count n set → (k : ℕ) × (set k ≡ true)
  by_case more true e l = (n, e)
  by_case more false e l = more (omega (arith, l))

module _ (size : Size) (m : State) (is_size : IsSize size) (own : ChangesAreOwn m) (known : EachKnowsPhase m) (f : FreshSoFar m) where
  -- the marks of a change were sent before it became unsettled
  marked_cells : (t : ℕ) → (h : MayUnsettle size m t) → (cell : Cell) → has_cell (m.changes h.change).cells cell ≡ true → IsWritten m.phases m.ended cell
  marked_cells t h cell covers =
      let s = subst (λ s. IsOwnStage m.changes (m.txns t).own s) h.turn (own.own t).stage in
      let work = subst (λ s. IsWorkOf s (m.txns t).work) h.turn (known t).work in
      let w = subst (λ s. HasWritten (m.txns t) s (m.phases (m.txns t).phase).wrote) h.turn (known t).wrote in
      let some = some_member size.replicas (m.txns t).confirmed (omega (arith, is_size.odd, h.many)) in
      record {
        phase = (m.txns t).phase;
        low = (known t).low;
        wrote = w.1 some.0 some.1;
        covers = ap (λ cs. has_cell cs cell) ((known t).cells (ap is_behind h.turn) ∙ own_cells size m t 0 known own h.change s.0 s.1.0 work) ∙ covers;
      }

  unsettled_changes : (t : ℕ) → (h : MayUnsettle size m t) → (u : ℕ) (cell : Cell) → was_unsettled ((unsettling m t (Marking h.change)).changes u).verdict ≡ true → has_cell ((unsettling m t (Marking h.change)).changes u).cells cell ≡ true → IsWritten m.phases m.ended cell
  unsettled_changes t h u cell =
      at_case (λ n (c : Change). was_unsettled c.verdict ≡ true → has_cell c.cells cell ≡ true → IsWritten m.phases m.ended cell) m.changes h.change _ (λ sent covers. marked_cells t h cell covers) u (λ ne sent covers. f.changes u cell sent covers)

  back_changes : (new : State) → SentBack m.changes new.changes → ((cell : Cell) → IsWritten m.phases m.ended cell → IsWritten new.phases new.ended cell) → (u : ℕ) (cell : Cell) → was_unsettled (new.changes u).verdict ≡ true → has_cell (new.changes u).cells cell ≡ true → IsWritten new.phases new.ended cell
  back_changes new back more u cell sent covers = let b = back u sent in more cell (f.changes u cell b.0 (sym (ap (λ cs. has_cell cs cell) b.1) ∙ covers))

  step_changes : (step : Step) → Allowed size m step → (u : ℕ) (cell : Cell) → was_unsettled ((after size m step).changes u).verdict ≡ true → has_cell ((after size m step).changes u).cells cell ≡ true → IsWritten (after size m step).phases (after size m step).ended cell
  step_changes (Step.Turns t turn) h = back_changes (after size m (Step.Turns t turn)) (turns_back size m t turn) (step_more size m (Step.Turns t turn))
  step_changes (Step.HandsIn k) h = back_changes (after size m (Step.HandsIn k)) (stays_back m.changes _ (front_stays (without_first_output m k) k (m.bricks k).outputs).0) (step_more size m (Step.HandsIn k))
  step_changes (Step.Unsettles t) h = λ u cell sent covers.
      step_more size m (Step.Unsettles t) cell
      (unsettled_changes t h u cell (subst (λ s. was_unsettled ((unsettling m t s).changes u).verdict ≡ true) h.turn sent) (subst (λ s. has_cell ((unsettling m t s).changes u).cells cell ≡ true) h.turn covers))
  step_changes (Step.Decides t) h = back_changes (after size m (Step.Decides t)) (stays_back m.changes _ (decided_stays m (decided_by (m.txns t).stage))) (step_more size m (Step.Decides t))
  step_changes other h = back_changes (after size m other) (stays_back m.changes m.changes (table_stays m.changes)) (step_more size m other)

  -- ---- bricks

  takes : (step : Step) → Allowed size m step → (j : ℕ) (inputs : List Input) → IsTaken m step j inputs → EachInput (AddsOn (IsWritten (after size m step).phases (after size m step).ended)) inputs
  takes (Step.Asks t k first asked) h j inputs taken = subst (EachInput (AddsOn (IsWritten (after size m (Step.Asks t k first asked)).phases m.ended))) (sym taken.1) (asked_inputs size m t k known own (sender_of m t k) first asked h.0)
  takes (Step.Controls k steering) h j inputs taken = subst (EachInput (AddsOn (IsWritten m.phases m.ended))) (sym taken.1) tt
  takes (Step.Connects k g) h j inputs taken = subst (EachInput (AddsOn (IsWritten m.phases m.ended))) (sym taken.1) tt
  takes (Step.Cuts k g) h j inputs taken = subst (EachInput (AddsOn (IsWritten m.phases m.ended))) (sym taken.1) tt
  takes other h j inputs taken = absurd taken

  pub step_fresh : (step : Step) → Allowed size m step → FreshSoFar (after size m step)
  step_fresh step h = record {
    accusers = λ k. move_accuses (IsWritten (after size m step).phases (after size m step).ended) (IsTaken m step k) (m.bricks k) ((after size m step).bricks k) (bricks_move size m step h k) (takes step h k)
        (accuses_more (IsWritten m.phases m.ended) (IsWritten (after size m step).phases (after size m step).ended) (m.bricks k) (step_more size m step) (f.accusers k));
    changes = step_changes step h;
  }

-- ---- every state

start_rows : (written : Cell → Type 0) (cell : Cell) (i : ℕ) → accuses_at root_alone cell i ≡ true → written cell
start_rows written cell i = by_case (is_cell cell (meta_cell root)) (is_cell cell (names_cell root)) where
  by_case : (a b : Bool) → not ((if a then born_as (content.Meta 493 [] None) else (if b then born_as (content.Names false []) else nothing_kept)).pending i == 0) ≡ true → written cell
  by_case true b h = absurd cc
  by_case false true h = absurd cc
  by_case false false h = absurd cc

fresh_so_far : (size : Size) (m : State) → IsSize size → IsReached size m → FreshSoFar m
fresh_so_far size m is_size IsReached.Start = record { accusers = λ k. record { rows = start_rows (IsWritten start.phases start.ended); line = tt }; changes = λ u cell sent covers. absurd cc }
fresh_so_far size m is_size (IsReached.Further old step reached allowed) = step_fresh size old is_size (changes_are_own size old reached) (phases_are_known size old reached) (fresh_so_far size old is_size reached) step allowed

pub every_cell_is_fresh : EveryCellIsFresh
every_cell_is_fresh size m is_size reached =
    let f = fresh_so_far size m is_size reached in
    let c = copies_are_of_changes size m reached in
    record {
      accusers = f.accusers;
      changes = f.changes;
      copies = λ k u cell had. let u_is = change_in m.changes cell _ u ((c.bricks k).stored cell).changes_are had in f.changes u cell u_is.sent u_is.touches;
    }
