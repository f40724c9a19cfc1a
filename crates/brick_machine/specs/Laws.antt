-- What holds of every journal, for the layers above.
use Rattle.std.specs.Prelude.{◌≡◌, ℕ, ◌+◌, ◌≤◌, false, List, [], ◌∷◌, ◌++◌, length, take, nat_le}
use Rattle.std.specs.List.{filter}
use Rattle.fop_types.specs.declared.messages.OutKind.TheVariants.{Malformed}
use Rattle.fop_types.specs.declared.messages.Output.{Output}
use Rattle.fop_types.specs.declared.messages.Proc.TheVariants.{Unlock}
use Rattle.brick_locks.specs.Locks.{AreApart, held}
use Rattle.wire_messages.specs.Messages.{input_in}
use Rattle.wire_messages.specs.declared.messages.Message.TheVariants.{Wrong}
use Rattle.brick_machine.specs.State.{is_to_fail}
use Rattle.brick_machine.specs.Machine.{served, with_taken, state_of, outputs_of}

-- later inputs change no earlier output
abbrev pub OutputsStay : Type 0
OutputsStay = (xs ys : List (List ℕ)) → take (length (outputs_of xs)) (outputs_of (xs ++ ys)) ≡ outputs_of xs

-- along the outputs the number of inputs up to them never falls, from a number on
abbrev pub RisesFrom : ℕ → List Output → Type 0
RisesFrom least [] = Unit {0}
RisesFrom least (o ∷ os) = (least ≤ o.taken) × RisesFrom o.taken os

abbrev pub TakenNeverFalls : Type 0
TakenNeverFalls = (journal : List (List ℕ)) → RisesFrom 1 (outputs_of journal)

-- the outputs with n inputs up to them at most
abbrev pub outputs_up_to : ℕ → List Output → List Output
outputs_up_to n outputs = filter (λ o. nat_le o.taken n) outputs

-- these are exactly the outputs of the first n inputs
abbrev pub OutputsByTaken : Type 0
OutputsByTaken = (journal : List (List ℕ)) (n : ℕ) → outputs_of (take n journal) ≡ outputs_up_to n (outputs_of journal)

-- held locks never conflict
abbrev pub HeldApart : Type 0
HeldApart = (journal : List (List ℕ)) → AreApart (held (state_of journal).locks)

-- bytes that are no input are answered with the place at which they stop being one, and change nothing
abbrev pub WrongBytesChangeNothing : Type 0
WrongBytesChangeNothing =
    (journal : List (List ℕ)) (bytes : List ℕ) (place : ℕ) → input_in bytes ≡ Wrong place
    → (state_of (journal ++ bytes ∷ []) ≡ state_of journal)
    × (outputs_of (journal ++ bytes ∷ []) ≡ outputs_of journal ++ record { taken = length journal + 1; kind = Malformed place } ∷ [])

-- no FaultAt of an input names an unlock, so no unlock is to fail
abbrev pub UnlocksDoNotFail : Type 0
UnlocksDoNotFail = (journal : List (List ℕ)) → is_to_fail (state_of journal).faults Unlock ≡ false

-- ---- one more input

-- what a brick keeps after one more input, and what it has put out then
abbrev pub StateOfOneMore : Type 0
StateOfOneMore = (journal : List (List ℕ)) (bytes : List ℕ) → state_of (journal ++ bytes ∷ []) ≡ (served (state_of journal) (input_in bytes)).state

abbrev pub OutputsOfOneMore : Type 0
OutputsOfOneMore =
    (journal : List (List ℕ)) (bytes : List ℕ)
    → outputs_of (journal ++ bytes ∷ []) ≡ outputs_of journal ++ with_taken (length journal + 1) (served (state_of journal) (input_in bytes)).outs
