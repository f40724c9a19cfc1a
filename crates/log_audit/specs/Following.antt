-- Winds of a slot that follow one another, as those of a frame stack do: a slot is given to a further wind once its last has ended,
-- and the turns of its winds rise.
use Rattle.std.specs.Prelude.{◌≡◌, ℕ, ◌<◌, true, List, Some, slice_get, take}
use Rattle.xlator_law.specs.declared.winds.WindNo.{WindNo}
use Rattle.mount_log.specs.Winds.{times_opened, times_ended}
use Rattle.mount_log.specs.declared.logs.WindLine.{WindLine}

-- the wind that is opened at a place has a higher turn than each that its slot had before, all of which have ended
pub record IsNextOfSlot (lines : List WindLine) (place : ℕ) (opening : WindLine) : Type 0 where
  pub rises : (k : ℕ) (earlier : WindLine) → k < place → slice_get lines k ≡ Some earlier → earlier.opened ≡ true → earlier.wind.slot ≡ opening.wind.slot → earlier.wind.turn < opening.wind.turn
  pub ended : (wind : WindNo) → wind.slot ≡ opening.wind.slot → times_ended wind (take place lines) ≡ times_opened wind (take place lines)

pub record WindsFollow (lines : List WindLine) : Type 0 where
  pub each : (k : ℕ) (opening : WindLine) → slice_get lines k ≡ Some opening → opening.opened ≡ true → IsNextOfSlot lines k opening
