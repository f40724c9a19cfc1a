-- The words of a report for single values: numbers, cells, kinds and causes.
use Rattle.std.specs.Prelude.{ℕ, zero, suc, ◌/◌, ◌%◌, List, [], ◌∷◌, ◌++◌, codes, flat_map, false}
use Rattle.std.specs.Fmt.{decimal, digit_glyph}
use Rattle.fop_types.specs.declared.cells.Gfid.{Gfid}
use Rattle.fop_types.specs.declared.cells.Cell.{Cell}
use Rattle.fop_types.specs.declared.cells.Aspect.{Aspect}
use Rattle.fop_types.specs.declared.cells.Aspect.TheVariants.{Data, Meta, Entry}
use Rattle.fop_types.specs.declared.cells.Kind.{Kind}
use Rattle.fop_types.specs.declared.cells.Kind.TheVariants.{File, Dir, Link}
use Rattle.fop_types.specs.declared.causes.SkipCause.{SkipCause}
use Rattle.fop_types.specs.declared.causes.SkipCause.TheVariants.{Majority, Unsettled, Split}

-- the last digits of n in lower case hexadecimal, as many as are asked for
unfoldable pub hex_of : ℕ → ℕ → List ℕ
hex_of zero n = []
hex_of (suc count) n = hex_of count (n / 16) ++ digit_glyph false (n % 16) ∷ []

-- a byte as two hexadecimal digits
abbrev pub byte_hex : ℕ → List ℕ
byte_hex b = digit_glyph false (b / 16) ∷ digit_glyph false (b % 16) ∷ []

-- bytes as pairs of hexadecimal digits
abbrev pub bytes_hex : List ℕ → List ℕ
bytes_hex bytes = flat_map byte_hex bytes

-- a number after the comma that parts it from the one before
abbrev pub after_comma : ℕ → List ℕ
after_comma n = codes "," ++ decimal n

-- numbers with a comma between each two
abbrev pub numbers_text : List ℕ → List ℕ
numbers_text [] = []
numbers_text (n ∷ ns) = decimal n ++ flat_map after_comma ns

-- a call's places, or a dash where it has none
abbrev pub places_text : List ℕ → List ℕ
places_text [] = codes "-"
places_text (n ∷ ns) = numbers_text (n ∷ ns)

abbrev pub aspect_word : Aspect → List ℕ
aspect_word Data = codes "data"
aspect_word Meta = codes "metadata"
aspect_word Entry = codes "entry"

-- a gfid in 32 hexadecimal digits
abbrev pub gfid_text : Gfid → List ℕ
gfid_text gfid = hex_of 16 gfid.hi ++ hex_of 16 gfid.lo

abbrev pub cell_text : Cell → List ℕ
cell_text cell = gfid_text cell.gfid ++ codes "/" ++ aspect_word cell.aspect

-- no call shows a link
abbrev pub kind_word : Kind → List ℕ
kind_word File = codes "file"
kind_word Dir = codes "dir"
kind_word Link = codes "link"

abbrev pub cause_word : SkipCause → List ℕ
cause_word Majority = codes "majority"
cause_word Unsettled = codes "unsettled"
cause_word Split = codes "split"
