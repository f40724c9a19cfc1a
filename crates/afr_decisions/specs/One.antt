-- A set of one replica: nobody is accused. Ours.
use Rattle.std.specs.Prelude.{◌≡◌, ℕ, false}
use Rattle.fop_types.specs.declared.cells.Cell.{Cell}
use Rattle.afr_machine.specs.Replicas.{Size, IsSize}
use Rattle.afr_machine.specs.States.{State}
use Rattle.afr_machine.specs.Steps.{IsReached}
use Rattle.afr_laws.specs.Sound.{accuses_coming}

-- in no row, and by no request on its way
abbrev pub OneIsUnaccused : Size → State → Type 0
OneIsUnaccused size m = size.replicas ≡ 1 → (k i : ℕ) (cell : Cell) → accuses_coming (m.bricks k) cell i ≡ false

abbrev pub EveryOneIsUnaccused : Type 0
EveryOneIsUnaccused = (size : Size) (m : State) → IsSize size → IsReached size m → OneIsUnaccused size m
