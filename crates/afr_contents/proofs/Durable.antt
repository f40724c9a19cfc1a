-- Somebody free has a good copy of each cell that is present, and of all cells of an unsettled change.
use Rattle.fop_types.specs.declared.cells.Cell.{Cell}
use Rattle.std.specs.Prelude.{List}
use Rattle.afr_machine.specs.Replicas.{Size, IsSize}
use Rattle.afr_machine.specs.States.{State}
use Rattle.afr_machine.specs.Steps.{IsReached}
use Rattle.afr_soundness.specs.Guarded.{OneIsFreeOn}
use Rattle.afr_soundness.proofs.Guarded.{leaves_one_free}
use Rattle.afr_contents.specs.Durable.{HasGood, EveryStateKeepsGoodCopies}
use Rattle.afr_contents.proofs.Laws.{free_good}

module _ (size : Size) (m : State) (is : IsSize size) (r : IsReached size m) (cells : List Cell) where
  has_good : OneIsFreeOn size m cells → HasGood size m cells
  has_good f = record { replica = f.replica; low = f.low; free = f.free; good = λ cell has. free_good size m is r f.replica cell f.low (f.free cell has) }

pub keeps_good_copies : EveryStateKeepsGoodCopies
keeps_good_copies size m is r = record {
  present = λ k cell low has. has_good size m is r _ ((leaves_one_free size m is r).present k cell low has);
  unsettled = λ u now. has_good size m is r _ ((leaves_one_free size m is r).unsettled u now);
}
