use Rattle.std.proofs.Common.{◌≡◌, ◌<◌, ◌^◌, drop}
use Rattle.report_reader.specs.code.Forms.{hex_after}
use Rattle.report_reader.proofs.cells.hex_number.Given as goal

abbrev pub invariant-loop-digit : goal.invariant-loop-digit
invariant-loop-digit l = (l.number < 16 ^ l.digit-index) × (hex_after l.number (drop l.digit-index l.digits) ≡ hex_after 0 l.digits)
