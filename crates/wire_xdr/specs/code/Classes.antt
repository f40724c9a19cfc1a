-- The classes of bytes that strings have.
use Rattle.std.specs.Prelude.{ℕ, Bool}
use Rattle.wire_xdr.specs.declared.decode.classes.Class.{Class}
use Rattle.wire_xdr.specs.declared.decode.classes.Class.TheVariants as class
use Rattle.wire_xdr.specs.code.Parsers.{any_byte}
use Rattle.wire_xdr.specs.PartText.{is_name_byte, is_volume_byte}

abbrev pub class_test : Class → ℕ → Bool
class_test class.Any = any_byte
class_test class.Item = is_name_byte
class_test class.Volume = is_volume_byte
