-- The numbers of aspects and kinds on the wire, which also order them.
use Rattle.std.specs.Prelude.{ℕ}
use Rattle.fop_types.specs.declared.cells.Aspect.{Aspect}
use Rattle.fop_types.specs.declared.cells.Aspect.TheVariants.{Data, Meta, Entry}

-- 0 data, 1 metadata, 2 entries
abbrev pub rank : Aspect → ℕ
rank Data = 0
rank Meta = 1
rank Entry = 2
