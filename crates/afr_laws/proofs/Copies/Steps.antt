-- Each step keeps the numbers in copies those of changes that became unsettled.
use Rattle.std.proofs.Common.{◌≡◌, ℕ, Bool, true, false, refl, sym, subst, inl, Option}
use Rattle.std.specs.Prelude.{if◌then◌else◌, List, [], ◌∷◌, ◌==◌}
use Rattle.fop_types.specs.Cells.{root, meta_cell, names_cell}
use Rattle.fop_types.specs.declared.cells.Cell.{Cell}
use Rattle.fop_types.specs.declared.contents.Content.TheVariants as content
use Rattle.afr_machine.specs.Replicas.{Size}
use Rattle.afr_machine.specs.Touching.{is_cell}
use Rattle.afr_machine.specs.Copies.{nothing_kept, born_as, root_alone, changes_of}
use Rattle.afr_machine.specs.Requests.{Control, Input, Output}
use Rattle.afr_machine.specs.Requests.Input.{Steered}
use Rattle.afr_machine.specs.Requests.Output.{Answered}
use Rattle.afr_machine.specs.Transactions.{Txn}
use Rattle.afr_machine.specs.States.{State, start, is_current}
use Rattle.afr_machine.specs.Answering.{replied, taken_in, without_first_output}
use Rattle.afr_machine.specs.Turns.{Turn}
use Rattle.afr_machine.specs.Steps.{Step, Allowed, after, IsReached, take_in_front, decided_by}
use Rattle.afr_machine.specs.Moves.{IsTaken}
use Rattle.afr_machine.proofs.BrickMoves.{bricks_move}
use Rattle.afr_laws.specs.Drawn.{ChangesAreDrawn}
use Rattle.afr_laws.specs.OwnChanges.{ChangesAreOwn}
use Rattle.afr_laws.specs.Newest.{NumbersRise}
use Rattle.afr_laws.specs.Copies.{IsCopyOf, RunShows, CopiesAreOfChanges}
use Rattle.afr_laws.specs.Copies.IsLast.{NoneYet}
use Rattle.afr_laws.proofs.Goes.{decided_txns}
use Rattle.afr_laws.proofs.Drawn.{changes_are_drawn}
use Rattle.afr_laws.proofs.OwnChanges.Replies.{replied_table}
use Rattle.afr_laws.proofs.OwnChanges.Steps.{changes_are_own}
use Rattle.afr_laws.proofs.Newest.Stays.{turn_changes}
use Rattle.afr_laws.proofs.Newest.Steps.{numbers_rise}
use Rattle.afr_laws.proofs.Copies.Moves.{MayTake, move_copies}
use Rattle.afr_laws.proofs.Copies.Tables.{TableGoes, brick_goes, run_goes, table_goes, same_goes, draw_table, unsettle_table, decided_table}
use Rattle.afr_laws.proofs.Copies.Asks.{asks_take}
use Rattle.afr_laws.proofs.Copies.Runs.{RunsShow, at_run, passed_at, cut_runs, front_runs, unsettled_runs, turned_runs}

-- ---- the table of changes

taken_table : (m : State) (k : ℕ) (o : Output) → TableGoes m.changes (taken_in m k o).changes
taken_table m k (Answered by ask answer) = by_case (is_current (m.links k by.graph) by.connection) where
  by_case : (b : Bool) → TableGoes m.changes (if b then replied m k by ask answer else m).changes
  by_case true = same_goes m.changes _ (replied_table m k by ask answer)
  by_case false = table_goes m.changes m.changes refl
taken_table m k other = table_goes m.changes m.changes refl

front_table : (m : State) (k : ℕ) (os : List Output) → TableGoes m.changes (take_in_front m k os).changes
front_table m k [] = table_goes m.changes m.changes refl
front_table m k (o ∷ os) = taken_table m k o

step_table : (size : Size) (m : State) (step : Step) → ChangesAreDrawn m → TableGoes m.changes (after size m step).changes
step_table size m (Step.Turns t Turn.Marks) d = draw_table m d t (m.txns t).job
step_table size m (Step.Turns t turn) d = table_goes m.changes _ (turn_changes size m t turn refl)
step_table size m (Step.HandsIn k) d = front_table (without_first_output m k) k (m.bricks k).outputs
step_table size m (Step.Unsettles t) d = unsettle_table m t (m.txns t).stage
step_table size m (Step.Decides t) d = decided_table m (decided_by (m.txns t).stage)
step_table size m other d = table_goes m.changes m.changes refl

-- ---- bricks

module _ (size : Size) (m : State) (a : ChangesAreOwn m) (r : NumbersRise m) (c : CopiesAreOfChanges m) where
  control_takes : (control : Control) (inputs : List Input) → inputs ≡ Steered control ∷ [] → MayTake m.changes inputs
  control_takes control inputs is = subst (MayTake m.changes) (sym is) (record { carried = tt; below = λ cell v h. tt; rises = tt })

  takes : (step : Step) → Allowed size m step → (j : ℕ) (inputs : List Input) → IsTaken m step j inputs → MayTake m.changes inputs
  takes (Step.Asks t k first asked) h j inputs taken = subst (MayTake m.changes) (sym taken.1) (asks_take size m a r t k (c.runs t) _ first asked h.0)
  takes (Step.Controls k steering) h j inputs taken = control_takes steering inputs taken.1
  takes (Step.Connects k g) h j inputs taken = control_takes (Control.Connect g) inputs taken.1
  takes (Step.Cuts k g) h j inputs taken = control_takes (Control.Disconnect g) inputs taken.1
  takes other h j inputs taken = absurd taken

  step_runs : (step : Step) → Allowed size m step → RunsShow m.changes (after size m step).txns
  step_runs (Step.Turns t turn) h = turned_runs m c.runs size t turn h
  step_runs (Step.Asks t k first asked) h = at_run m c.runs t _ (c.runs t)
  step_runs (Step.HandsIn k) h = front_runs (without_first_output m k) c.runs k (m.bricks k).outputs (c.bricks k).outputs
  step_runs (Step.Bails t k) h = at_run m c.runs t _ (passed_at m c.runs t)
  step_runs (Step.Misses t k) h = at_run m c.runs t _ (c.runs t)
  step_runs (Step.Cuts k g) h = cut_runs m c.runs (λ other. other == g) k
  step_runs (Step.Unsettles t) h = unsettled_runs m c.runs t (m.txns t).stage
  step_runs (Step.Decides t) h = λ i. subst (λ (f : ℕ → Txn). RunShows m.changes (f i).stage) (sym (decided_txns m (decided_by (m.txns t).stage))) (c.runs i)
  step_runs other h = c.runs

  step_copies : (step : Step) → Allowed size m step → ChangesAreDrawn m → CopiesAreOfChanges (after size m step)
  step_copies step h d =
      let table = step_table size m step d in
      record {
        bricks = λ k. brick_goes m.changes (after size m step).changes table ((after size m step).bricks k)
            (move_copies m.changes a.fit (IsTaken m step k) (m.bricks k) ((after size m step).bricks k) (bricks_move size m step h k) (takes step h k) (c.bricks k));
        runs = λ t. run_goes m.changes (after size m step).changes table ((after size m step).txns t).stage (step_runs step h t);
      }

-- ---- every state

start_stored : (cell : Cell) → IsCopyOf start.changes cell (changes_of (root_alone cell).copy) (root_alone cell).last
start_stored cell = by_case (is_cell cell (meta_cell root)) (is_cell cell (names_cell root)) where
  by_case : (a b : Bool) → IsCopyOf start.changes cell (changes_of (if a then born_as (content.Meta 493 [] Option.None) else (if b then born_as (content.Names false []) else nothing_kept)).copy) (if a then born_as (content.Meta 493 [] Option.None) else (if b then born_as (content.Names false []) else nothing_kept)).last
  by_case true b = record { changes_are = tt; last_was = inl refl; last_is = NoneYet refl refl }
  by_case false true = record { changes_are = tt; last_was = inl refl; last_is = NoneYet refl refl }
  by_case false false = record { changes_are = tt; last_was = inl refl; last_is = NoneYet refl refl }

pub copies_are_of_changes : (size : Size) (m : State) → IsReached size m → CopiesAreOfChanges m
copies_are_of_changes size m IsReached.Start = record {
  bricks = λ k. record { stored = start_stored; line = tt; outputs = tt; below = λ cell v had. tt; rises = tt };
  runs = λ t. tt;
}
copies_are_of_changes size m (IsReached.Further old step reached allowed) =
    step_copies size old (changes_are_own size old reached) (numbers_rise size old reached) (copies_are_of_changes size old reached) step allowed (changes_are_drawn size old reached)
