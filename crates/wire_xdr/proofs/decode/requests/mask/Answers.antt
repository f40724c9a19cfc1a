use Rattle.std.proofs.Common.{rules, arith, sym, ◌≡◌, ℕ, ◌+◌, ◌-◌, ◌*◌, ◌<◌, ◌≤◌, length, ◌/◌, ◌%◌, Bool, true, false, nat_eq, nat_lt, List, [], ◌∷◌, ◌++◌, slice_index_or, slice_set, bit_and, bit_or, Fits, w8, w32, w64, Bor, MutBor}
use Rattle.wire_xdr.proofs.UnitParsers.{between_bound}
use Rattle.wire_xdr.proofs.decode.requests.mask.Goals as goal

pub overflow_cast-result : goal.overflow_cast-result
overflow_cast-result c = omega (arith, between_bound _ _ _ _ _ c.in_ok-bits.ensures)
