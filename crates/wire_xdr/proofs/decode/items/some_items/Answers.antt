use Rattle.std.proofs.Common.{rules, arith, ◌≡◌, ◌≤◌, ◌<◌, ◌^◌, ◌++◌, Option, Some, None, ℕ, ◌+◌, ◌-◌, ◌*◌, length, ◌/◌, ◌%◌, Bool, true, false, nat_eq, nat_lt, List, [], ◌∷◌, slice_index_or, slice_set, bit_and, bit_or, Fits, w8, w32, w64, Bor, MutBor}
use Rattle.wire_xdr.specs.code.Parsers.{Gives, items_at}
use Rattle.wire_xdr.specs.code.PartParsers.{item_at}
use Rattle.wire_xdr.proofs.ListParsers.{list_step, list_stop}
use Rattle.wire_xdr.proofs.decode.items.some_items.Goals as goal

pub returns-in-Err : goal.returns-in-Err
returns-in-Err c = list_stop item_at c.in-Err.fault _ _ _ _ _ _ c.loop-left-test.true c.reserve-in-loop-left.ensures.items c.as_slice.ensures.value c.loop-left.invariant c.in-Err.ensures

pub loop-left-preserved : goal.loop-left-preserved
loop-left-preserved c = list_step item_at _ _ _ _ _ _ _ _ _ c.loop-left-test.true c.reserve-in-loop-left.ensures.items c.as_slice.ensures.value c.push_reserved.ensures.items c.loop-left.invariant c.in-Ok.ensures
