use Rattle.std.proofs.Common.{◌≡◌, take, flat_map}
use Rattle.volfile.specs.VolfilePrint.{volume_text}
use Rattle.volfile.proofs.prints.text_of.Given as goal

abbrev pub invariant-loop-volume : goal.invariant-loop-volume
invariant-loop-volume l = l.text.items ≡ flat_map volume_text (take l.volume-index l.volumes)
