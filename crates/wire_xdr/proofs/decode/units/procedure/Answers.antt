use Rattle.std.proofs.Common.{rules, arith, sym, ◌≡◌, ℕ, ◌+◌, ◌-◌, ◌*◌, ◌<◌, ◌≤◌, length, ◌/◌, ◌%◌, Bool, true, false, nat_eq, nat_lt, List, [], ◌∷◌, ◌++◌, slice_index_or, slice_set, bit_and, bit_or, Fits, w8, w32, w64, Bor, MutBor}
use Rattle.wire_xdr.proofs.UnitParsers.{unit_short, unit_fits, unit_fails}
use Rattle.wire_xdr.proofs.decode.units.procedure.Goals as goal

pub returns-then-bytes-lt4 : goal.returns-then-bytes-lt4
returns-then-bytes-lt4 c = unit_short _ _ c.if-bytes-lt4.true

pub returns-then-is_failing : goal.returns-then-is_failing
returns-then-is_failing c = unit_fits _ _ _ c.if-bytes-lt4.false (λ i. omega (arith, c.type_inv.bytes i)) c.read_u32-number.ensures (sym c.if-is_failing.ensures)

pub returns-else-is_failing : goal.returns-else-is_failing
returns-else-is_failing c = unit_fails _ _ _ c.if-bytes-lt4.false (λ i. omega (arith, c.type_inv.bytes i)) c.read_u32-number.ensures (sym c.if-is_failing.ensures)
