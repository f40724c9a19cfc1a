-- Who takes a change is sound on each of its cells, or received a copy of it; a post follows a quorum that applied the
-- change; and a settling goes by its group. Ours.
use Rattle.std.specs.Prelude.{◌≡◌, ◌<◌, ◌≤◌, ◌↔◌, ℕ, Bool, true, false, IsTrue, List}
use Rattle.fop_types.specs.declared.cells.Cell.{Cell}
use Rattle.afr_machine.specs.Replicas.{Replicas, Size, count}
use Rattle.afr_machine.specs.Touching.{has_cell}
use Rattle.afr_machine.specs.Changes.{Change}
use Rattle.afr_machine.specs.Phases.{Phase, IsReadyIn}
use Rattle.afr_machine.specs.Transactions.{Stage}
use Rattle.afr_machine.specs.Transactions.Stage.{Marking, Applying, Posting, Settling}
use Rattle.afr_machine.specs.States.{State, phase_of}
use Rattle.afr_machine.specs.Turns.{IsInGroup}
use Rattle.afr_machine.specs.Steps.{IsReached}

-- who was reached and is not out was sound on each of the cells by the rows of the lock phase, or it received a copy and a
-- quorum confirmed the clear
abbrev pub AreReady : Size → Phase → Replicas → List Cell → Type 0
AreReady size phase out cells = (k : ℕ) → k < size.replicas → phase.reached k ≡ true → out k ≡ false → (cell : Cell) → has_cell cells cell ≡ true → IsReadyIn size phase cell k

-- the group has exactly those that are in it by the rows of the lock phase
abbrev pub IsGroup : Size → Phase → ℕ → List Cell → Bool → Replicas → Type 0
IsGroup size phase u cells adopts group = (i : ℕ) → i < size.replicas → IsTrue (group i) ↔ IsInGroup size phase u cells adopts i

-- from the mark of a change to its last post, and while a change is settled
abbrev pub IsReadyFor : Size → (ℕ → Change) → Stage → Replicas → Phase → Type 0
IsReadyFor size changes (Marking u) out phase = AreReady size phase out (changes u).cells
IsReadyFor size changes (Applying u) out phase = AreReady size phase out (changes u).cells
IsReadyFor size changes (Posting u) out phase = AreReady size phase out (changes u).cells × (size.quorum ≤ count size.replicas (changes u).done)
IsReadyFor size changes (Settling u group adopts) out phase = IsGroup size phase u (changes u).cells adopts group
IsReadyFor size changes other out phase = Unit {0}

abbrev pub MembersAreReady : Size → State → Type 0
MembersAreReady size m = (t : ℕ) → IsReadyFor size m.changes (m.txns t).stage (m.txns t).out (phase_of m t)

abbrev pub EveryMemberIsReady : Type 0
EveryMemberIsReady = (size : Size) (m : State) → IsReached size m → MembersAreReady size m
