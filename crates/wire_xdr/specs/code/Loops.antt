-- A list that is parsed item by item: the items so far, and what the rest then gives.
use Rattle.std.specs.Prelude.{ℕ, List, [], ◌∷◌, ◌++◌, Option, Some, None, Result, Ok, Err}
use Rattle.wire_xdr.specs.declared.decode.faults.Fault.{Fault}

abbrev pub last_of : {A : Type 0} → List A → Option A
last_of [] = None
last_of (x ∷ []) = Some x
last_of (x ∷ y ∷ xs) = last_of (y ∷ xs)

abbrev pub pushed : {A : Type 0} → List A → Result (List A × List ℕ) Fault → Result (List A × List ℕ) Fault
pushed xs (Ok p) = Ok (xs ++ p.0, p.1)
pushed xs (Err fault) = Err fault
