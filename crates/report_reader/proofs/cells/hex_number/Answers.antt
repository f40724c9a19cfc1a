use Rattle.std.proofs.Common.{arith}
use Rattle.report_reader.proofs.Loops.{hex_room}
use Rattle.report_reader.proofs.cells.hex_number.Goals as goal

pub overflow_mul-number : goal.overflow_mul-number
overflow_mul-number c = omega (arith, hex_room c.args.digits.now _ _ c.loop-digit.invariant.0 c.loop-digit-test.true c.requires.few)

pub overflow_add-number : goal.overflow_add-number
overflow_add-number c = omega (arith, hex_room c.args.digits.now _ _ c.loop-digit.invariant.0 c.loop-digit-test.true c.requires.few)
