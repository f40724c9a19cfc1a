-- Who accuses a replica for good: no clear on its way takes that back, and none that may be sent yet. Ours.
use Rattle.std.specs.Prelude.{◌≡◌, ◌<◌, ◌≤◌, ℕ, true, false}
use Rattle.fop_types.specs.declared.cells.Cell.{Cell}
use Rattle.afr_machine.specs.Replicas.{Replicas, Size, count}
use Rattle.afr_machine.specs.States.{State}
use Rattle.afr_contents.specs.Staying.{accusers_staying}
use Rattle.afr_contents.specs.Naming.{MayPardon}

pub record IsLasting (size : Size) (m : State) (cell : Cell) (i k : ℕ) : Type 0 where
  pub stays : accusers_staying m cell i k ≡ true
  pub lasts : (t : ℕ) → MayPardon size m t k i cell → ⊥

-- a quorum that is apart from these bricks accuses the replica on the cell so
pub record IsAccusedApart (size : Size) (m : State) (cell : Cell) (i : ℕ) (these : Replicas) : Type 0 where
  pub by : Replicas
  pub many : size.quorum ≤ count size.replicas by
  pub each : (k : ℕ) → k < size.replicas → by k ≡ true → IsLasting size m cell i k
  pub apart : (k : ℕ) → k < size.replicas → by k ≡ true → these k ≡ false
