-- What a read shows of its cells: what is adopted. Ours.
use Rattle.std.specs.Prelude.{◌≡◌, ℕ, true, false, Option, Some, None}
use Rattle.fop_types.specs.declared.cells.Cell.{Cell}
use Rattle.fop_types.specs.declared.contents.Content.{Content}
use Rattle.afr_machine.specs.Replicas.{Size, IsSize}
use Rattle.afr_machine.specs.Copies.{Copy, Fetched}
use Rattle.afr_machine.specs.Transactions.{is_over}
use Rattle.afr_machine.specs.States.{State}
use Rattle.afr_machine.specs.Steps.{IsReached}
use Rattle.afr_laws.specs.Asking.{IsReadOf}
use Rattle.afr_contents.specs.Adopted.{adopted_on}

-- the content is the adopted one; where none of the cell is adopted yet, that with which the cell was born
abbrev pub IsAdoptedContent : Option Content → Option Content → Content → Type 0
IsAdoptedContent None born content = born ≡ Some content
IsAdoptedContent (Some adopted) born content = content ≡ adopted

-- the copy has exactly the adopted changes of the cell, and that content
pub record IsAdoptedCopy (m : State) (cell : Cell) (copy : Copy) : Type 0 where
  pub changes : copy.changes ≡ adopted_on m cell
  pub content : IsAdoptedContent (m.adopted cell) (m.born cell) copy.content

-- a transaction that shows a cell reads it, and has settled; until it is over, what it shows is what is adopted
pub record IsShown (m : State) (t : ℕ) (cell : Cell) (found : Fetched) : Type 0 where
  pub reads : IsReadOf (m.txns t).job cell
  pub settled : (m.txns t).settled ≡ true
  pub adopted : is_over (m.txns t).stage ≡ false → IsAdoptedCopy m cell found.copy

abbrev pub ReadsShowAdopted : State → Type 0
ReadsShowAdopted m = (t : ℕ) (cell : Cell) (found : Fetched) → (m.txns t).shown cell ≡ Some found → IsShown m t cell found

abbrev pub EveryReadShowsAdopted : Type 0
EveryReadShowsAdopted = (size : Size) (m : State) → IsSize size → IsReached size m → ReadsShowAdopted m
