-- A volfile of at most 256 volumes.
use Rattle.std.specs.Prelude.{◌≤◌, length}
use Rattle.script_lang.specs.declared.scripts.NamedVolfile.{NamedVolfile}

abbrev pub IsSmall : NamedVolfile → Type 0
IsSmall v = length v.volfile.volumes ≤ 256
