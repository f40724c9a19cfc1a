use Rattle.std.proofs.Common.{◌≡◌, ◌<◌, drop}
use Rattle.report_reader.specs.code.Forms.{octal_after}
use Rattle.report_reader.proofs.numbers.octal.Given as goal

abbrev pub invariant-loop-digit : goal.invariant-loop-digit
invariant-loop-digit l = (l.value < 65536) × (octal_after l.value (drop l.digit-index l.digits) ≡ octal_after 0 l.digits)
