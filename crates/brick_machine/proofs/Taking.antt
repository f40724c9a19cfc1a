-- What a store is after an op was taken, whether it fits or not.
use Rattle.std.proofs.Common.{◌≡◌, ◌∙◌, ℕ, Bool, true, false, List, sym, ap}
use Rattle.std.specs.Prelude.{Option, Some, None, Result, Ok, Err, IfOk, OnOk, MatchBool}
use Rattle.cell_store.specs.Cells.{Cells}
use Rattle.cell_store.specs.StoreState.{StoreState}
use Rattle.brick_machine.specs.Serving.{after_op}

pub taken : {E : Type 0} (r : Result Bool E) (old new : StoreState) (after : Option Cells)
    → IfOk r (λ fits. MatchBool fits (after ≡ Some new.cells) ((after ≡ None) × (new ≡ old))) → new.names ≡ old.names
    → OnOk r (new ≡ record old { cells = after_op old.cells after })
taken (Ok true) old new after made same =
    let cells : new.cells ≡ after_op old.cells after = sym (ap (after_op old.cells) made) in
    let named : new ≡ record old { cells = new.cells } = ap (λ (l : List (List ℕ)). record new { names = l }) same in
    named ∙ ap (λ (x : Cells). record old { cells = x }) cells
taken (Ok false) old new after made same =
    let cells : old.cells ≡ after_op old.cells after = sym (ap (after_op old.cells) made.0) in
    made.1 ∙ ap (λ (x : Cells). record old { cells = x }) cells
taken (Err e) old new after made same = tt
