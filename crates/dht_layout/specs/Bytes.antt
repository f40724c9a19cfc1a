-- The value of a directory's layout attribute on one set, 16 bytes: four numbers of four bytes each,
-- the highest first. They are 1, 0, and the first and last hash of the range.
use Rattle.std.specs.Prelude.{ℕ, ◌==◌, ◌&&◌, nat_le, if◌then◌else◌, List, ◌++◌, Option, Some, None, take, drop}
use Rattle.std.specs.Int.{w32, from_be_bytes, to_be_bytes}
use Rattle.fop_types.specs.declared.contents.Span.{Span}

-- the range as its 16 bytes
abbrev pub encoded : Span → List ℕ
encoded span = to_be_bytes w32 1 ++ to_be_bytes w32 0 ++ to_be_bytes w32 span.first ++ to_be_bytes w32 span.last

-- the number of the four bytes from a place on
abbrev pub number_at : ℕ → List ℕ → ℕ
number_at place bytes = from_be_bytes w32 (take 4 (drop place bytes))

-- the range that 16 bytes encode: none where they do not begin with 1 and 0, or the range is reversed
abbrev pub span_in : List ℕ → Option Span
span_in bytes =
    if (number_at 0 bytes == 1) && (number_at 4 bytes == 0) && nat_le (number_at 8 bytes) (number_at 12 bytes)
    then Some (record { first = number_at 8 bytes; last = number_at 12 bytes })
    else None
