-- The slots of winds.
use Rattle.std.specs.Prelude.{◌≡◌, ℕ, ◌<◌, List, Some, slice_get}
use Rattle.mount_log.specs.declared.logs.WindLine.{WindLine}

-- The slots of winds are below this number, so that an open before a request has a number of its own (`open_before` of `xlator_law`).
abbrev pub slot_limit : ℕ
slot_limit = 2147483648

-- slots are below their limit
abbrev pub AreSlotsLow : List WindLine → Type 0
AreSlotsLow winds = (k : ℕ) (line : WindLine) → slice_get winds k ≡ Some line → line.wind.slot < slot_limit
