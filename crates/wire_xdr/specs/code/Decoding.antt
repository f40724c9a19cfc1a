-- The answer of a decoder from what its parser gives of some bytes: the value with the length of its encoding,
-- or the place at which the bytes stop being one. A place that does not fit a unit is reported as `max_unit`.
use Rattle.std.specs.Prelude.{ℕ, ◌-◌, min, List, length, Result, Ok, Err}
use Rattle.wire_xdr.specs.Limits.{max_unit}
use Rattle.wire_xdr.specs.declared.decode.faults.Fault.{Fault}
use Rattle.wire_xdr.specs.declared.decode.faults.Fault.TheVariants.{Wrong, Short, Memory}
use Rattle.wire_xdr.specs.declared.decoded.Decoded.{Decoded}
use Rattle.wire_xdr.specs.declared.decoded.Decoded.TheVariants.{Front, Bad}

abbrev pub place_before : ℕ → ℕ → ℕ
place_before whole left = min (whole - left) max_unit

abbrev pub decoded_by : {A : Type 0} → ℕ → Result (A × List ℕ) Fault → Decoded A
decoded_by whole (Ok p) = Front p.0 (place_before whole (length p.1))
decoded_by whole (Err (Wrong left)) = Bad (record { place = place_before whole left })
decoded_by whole (Err Short) = Bad (record { place = place_before whole 0 })
decoded_by whole (Err (Memory error)) = Bad (record { place = place_before whole 0 })
