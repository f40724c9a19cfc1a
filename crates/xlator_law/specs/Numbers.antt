-- The numbers of winds: one number for slot and turn, as on the wire, and the wind of an open that goes
-- before a request. Ours.
use Rattle.std.specs.Prelude.{ℕ, ◌+◌, ◌*◌}
use Rattle.xlator_law.specs.declared.winds.WindNo.{WindNo}

abbrev pub wind_number : WindNo → ℕ
wind_number w = w.turn * 4294967296 + w.slot

-- the slots of winds are below 2147483648, so no other wind has this number
abbrev pub open_before : WindNo → WindNo
open_before w = record w { slot = w.slot + 2147483648 }
