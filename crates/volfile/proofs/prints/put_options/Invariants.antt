use Rattle.std.proofs.Common.{◌≡◌, ◌++◌, take, flat_map}
use Rattle.volfile.specs.VolfilePrint.{option_text}
use Rattle.volfile.proofs.prints.put_options.Given as goal

abbrev pub invariant-loop-option : goal.invariant-loop-option
invariant-loop-option l = l.text.items ≡ l.fn.text.items ++ flat_map option_text (take l.option-index l.options)
