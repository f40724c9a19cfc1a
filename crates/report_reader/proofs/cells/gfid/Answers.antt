use Rattle.std.proofs.Common.{arith, length-take}
use Rattle.report_reader.proofs.Loops.{gfid_size, front_digits, back_digits, gfid_made}
use Rattle.report_reader.proofs.cells.gfid.Goals as goal

pub slice_bounds-hex_number-end : goal.slice_bounds-hex_number-end
slice_bounds-hex_number-end c = omega (arith, gfid_size c.args.digits.now c.requires, length-take 16 c.args.digits.now)

pub hex_number-requires-clause-digits : goal.hex_number-requires-clause-digits
hex_number-requires-clause-digits c = front_digits c.args.digits.now c.requires

pub hex_number-requires-2-clause-digits : goal.hex_number-requires-2-clause-digits
hex_number-requires-2-clause-digits c = back_digits c.args.digits.now c.requires

pub returns : goal.returns
returns c = gfid_made c.args.digits.now _ _ c.hex_number.ensures c.hex_number-2.ensures
