use Rattle.std.proofs.Common.{rules, arith, ◌≡◌, ℕ, ◌+◌, ◌-◌, ◌*◌, ◌<◌, ◌≤◌, length, ◌/◌, ◌%◌, Bool, true, false, nat_eq, nat_lt, List, [], ◌∷◌, ◌++◌, slice_index_or, slice_set, bit_and, bit_or, Fits, w8, w32, w64, Bor, MutBor}
use Rattle.wire_xdr.specs.code.Parsers.{Gives, unit_at, between_at, flag_at, hyper_at}
use Rattle.wire_xdr.proofs.UnitParsers.{unit_short, unit_fits, unit_fails, between_true, between_false}
use Rattle.wire_xdr.proofs.decode.units.unit_between.Goals as goal

pub returns-then-bytes-lt4 : goal.returns-then-bytes-lt4
returns-then-bytes-lt4 c = unit_short _ _ c.if-bytes-lt4.true

pub returns-then-number-most : goal.returns-then-number-most
returns-then-number-most c = unit_fits _ _ _ c.if-bytes-lt4.false (λ i. omega (arith, c.type_inv.bytes i)) c.read_u32-number.ensures (between_true _ _ _ c.if-least-number.true c.if-number-most.true)

pub returns-else-least-number : goal.returns-else-least-number
returns-else-least-number c = unit_fails _ _ _ c.if-bytes-lt4.false (λ i. omega (arith, c.type_inv.bytes i)) c.read_u32-number.ensures (between_false _ _ _ c.else-least-number.either)
