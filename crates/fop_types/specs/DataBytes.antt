-- The bytes of data, wherever they are kept.
use Rattle.std.specs.Prelude.{ℕ, List}
use Rattle.fop_types.specs.declared.data.Held.{Held}
use Rattle.fop_types.specs.declared.data.Held.TheVariants.{Own, Shared}

abbrev pub bytes_of : Held → List ℕ
bytes_of (Own bytes) = bytes.items
bytes_of (Shared bytes) = bytes
