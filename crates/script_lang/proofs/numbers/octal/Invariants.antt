use Rattle.std.proofs.Common.{◌≡◌, ◌≤◌, drop}
use Rattle.script_lang.specs.WordForms.{octal_after}
use Rattle.script_lang.proofs.numbers.octal.Given as goal

abbrev pub invariant-loop-digit : goal.invariant-loop-digit
invariant-loop-digit l = (l.value ≤ 511) × (octal_after l.value (drop l.digit-index l.digits) ≡ octal_after 0 l.digits)
