use Rattle.std.proofs.Common.{◌≡◌, ◌++◌, take, flat_map}
use Rattle.volfile.specs.VolfilePrint.{word_text}
use Rattle.volfile.proofs.prints.put_names.Given as goal

abbrev pub invariant-loop-name : goal.invariant-loop-name
invariant-loop-name l = l.text.items ≡ l.fn.text.items ++ flat_map word_text (take l.name-index l.names)
