-- The forms of single words: numbers, gfids and cells, names, and pairs of a name with what is behind it.
use Rattle.std.specs.Prelude.{ℕ, ◌+◌, ◌-◌, ◌*◌, ◌==◌, ◌&&◌, ◌||◌, not, nat_lt, nat_le, Bool, true, false, List, [], ◌∷◌, ◌++◌, length, take, drop, slice_index, codes, Option, Some, None, if◌then◌else◌}
use Rattle.std.specs.List.{list_all}
use Rattle.xl_base.specs.Words.{decimal_of, is_hex_digit, hex_value}
use Rattle.volfile.specs.TextLines.{front_len, is_name, is_text}
use Rattle.fop_types.specs.Bounds.{is_component}
use Rattle.fop_types.specs.Errors.{name_of}
use Rattle.fop_types.specs.declared.answers.AppError.{AppError}
use Rattle.fop_types.specs.declared.answers.AppError.TheVariants.{Enoent, Ebadf, Ebusy, Eexist, Enotdir, Eisdir, Einval, Efbig, Enametoolong, Enotempty, Enodata, Eopnotsupp}
use Rattle.fop_types.specs.declared.cells.Gfid.{Gfid}
use Rattle.fop_types.specs.declared.cells.Cell.{Cell}
use Rattle.fop_types.specs.declared.cells.Aspect.{Aspect}
use Rattle.fop_types.specs.declared.cells.Aspect.TheVariants.{Data, Meta, Entry}
use Rattle.fop_types.specs.declared.cells.Kind.{Kind}
use Rattle.fop_types.specs.declared.cells.Kind.TheVariants.{File, Dir}
use Rattle.fop_types.specs.declared.causes.SkipCause.{SkipCause}
use Rattle.fop_types.specs.declared.causes.SkipCause.TheVariants.{Majority, Unsettled, Split}
use Rattle.report_reader.specs.code.Readers.{parts_at}

-- ---- numbers
abbrev pub below : ℕ → Option ℕ → Option ℕ
below limit None = None
below limit (Some n) = if nat_lt n limit then Some n else None

-- a number of 32 bits
abbrev pub unit_of : List ℕ → Option ℕ
unit_of word = below 4294967296 (decimal_of word)

-- the part of an entry
abbrev pub part_of : List ℕ → Option ℕ
part_of word = below 256 (decimal_of word)

abbrev pub is_octal : ℕ → Bool
is_octal b = nat_le 48 b && nat_le b 55

-- the number that octal digits write after those of `above`
abbrev pub octal_after : ℕ → List ℕ → ℕ
octal_after above [] = above
octal_after above (d ∷ ds) = octal_after (above * 8 + (d - 48)) ds

-- octal digits, the first of them `0` only where it is the only one
abbrev pub has_octal_form : List ℕ → Bool
has_octal_form word = nat_le 1 (length word) && list_all is_octal word && (length word == 1 || not (slice_index word 0 == 48))

-- a mode of 16 bits
abbrev pub sixteen_bits : ℕ → Option ℕ
sixteen_bits n = if nat_lt n 65536 then Some n else None

abbrev pub octal_of : List ℕ → Option ℕ
octal_of word = if has_octal_form word then sixteen_bits (octal_after 0 word) else None

-- a value for each part
abbrev pub with_item : {A : Type 0} → Option A → Option (List A) → Option (List A)
with_item None items = None
with_item (Some a) None = None
with_item (Some a) (Some items) = Some (a ∷ items)

abbrev pub each_of : {A : Type 0} → (List ℕ → Option A) → List (List ℕ) → Option (List A)
each_of form [] = Some []
each_of form (w ∷ ws) = with_item (form w) (each_of form ws)

-- those so far, and what the rest gives
abbrev pub items_onto : {A : Type 0} → List A → Option (List A) → Option (List A)
items_onto xs None = None
items_onto xs (Some ys) = Some (xs ++ ys)

-- numbers with a comma between each two
abbrev pub numbers_of : List ℕ → Option (List ℕ)
numbers_of word = each_of unit_of (parts_at 44 word)

-- the places of a call, or `-` where it has none
abbrev pub places_of : List ℕ → Option (List ℕ)
places_of word = if is_text word (codes "-") then Some [] else numbers_of word

abbrev pub at_most_five : Option (List ℕ) → Option (List ℕ)
at_most_five None = None
at_most_five (Some ns) = if nat_le (length ns) 5 then Some ns else None

-- the counters of a row
abbrev pub counters_of : List ℕ → Option (List ℕ)
counters_of word = at_most_five (numbers_of word)

-- ---- gfids and cells
-- the number that hexadecimal digits write after those of `above`
abbrev pub hex_after : ℕ → List ℕ → ℕ
hex_after above [] = above
hex_after above (d ∷ ds) = hex_after (above * 16 + hex_value d) ds

-- what is before the first `stop`, and what is behind it: nothing where there is none
abbrev pub before_first : ℕ → List ℕ → List ℕ
before_first stop word = take (front_len (λ b. b == stop) word) word

abbrev pub behind_first : ℕ → List ℕ → List ℕ
behind_first stop word = drop (front_len (λ b. b == stop) word + 1) word

abbrev pub aspect_of : List ℕ → Option Aspect
aspect_of word =
    if is_text word (codes "data") then Some Data
    else if is_text word (codes "metadata") then Some Meta
    else if is_text word (codes "entry") then Some Entry
    else None

-- 32 hexadecimal digits
abbrev pub is_gfid : List ℕ → Bool
is_gfid digits = (length digits == 32) && list_all is_hex_digit digits

abbrev pub gfid_of : List ℕ → Gfid
gfid_of digits = record { hi = hex_after 0 (take 16 digits); lo = hex_after 0 (drop 16 digits) }

abbrev pub with_gfid : List ℕ → Option Aspect → Option Cell
with_gfid digits None = None
with_gfid digits (Some aspect) = if is_gfid digits then Some (record { gfid = gfid_of digits; aspect = aspect }) else None

abbrev pub cell_of : List ℕ → Option Cell
cell_of word = with_gfid (before_first 47 word) (aspect_of (behind_first 47 word))

-- ---- names
abbrev pub name_at : List ℕ → Option (List ℕ)
name_at word = if is_name word then Some word else None

abbrev pub kind_of : List ℕ → Option Kind
kind_of word = if is_text word (codes "file") then Some File else if is_text word (codes "dir") then Some Dir else None

abbrev pub is_item_name : List ℕ → Bool
is_item_name name = is_component name && nat_le (length name) 255

abbrev pub with_item_name : List ℕ → Option Kind → Option (List ℕ × Kind)
with_item_name name None = None
with_item_name name (Some kind) = if is_item_name name then Some (name, kind) else None

-- NAME/KIND
abbrev pub item_of : List ℕ → Option (List ℕ × Kind)
item_of word = with_item_name (before_first 47 word) (kind_of (behind_first 47 word))

abbrev pub with_brick : List ℕ → Option ℕ → Option (List ℕ × ℕ)
with_brick name None = None
with_brick name (Some n) = if is_name name then Some (name, n) else None

-- BRICK:PLACE
abbrev pub failed_of : List ℕ → Option (List ℕ × ℕ)
failed_of word = with_brick (before_first 58 word) (decimal_of (behind_first 58 word))

-- BRICK:CONN
abbrev pub lost_of : List ℕ → Option (List ℕ × ℕ)
lost_of word = with_brick (before_first 58 word) (unit_of (behind_first 58 word))

-- ---- words of a few
abbrev pub presence_of : List ℕ → Option Bool
presence_of word = if is_text word (codes "1") then Some true else if is_text word (codes "0") then Some false else None

abbrev pub cause_of : List ℕ → Option SkipCause
cause_of word =
    if is_text word (codes "majority") then Some Majority
    else if is_text word (codes "unsettled") then Some Unsettled
    else if is_text word (codes "split") then Some Split
    else None

-- the error with a number
abbrev pub numbered : ℕ → Option AppError
numbered n =
    if n == 2 then Some Enoent
    else if n == 9 then Some Ebadf
    else if n == 16 then Some Ebusy
    else if n == 17 then Some Eexist
    else if n == 20 then Some Enotdir
    else if n == 21 then Some Eisdir
    else if n == 22 then Some Einval
    else if n == 27 then Some Efbig
    else if n == 36 then Some Enametoolong
    else if n == 39 then Some Enotempty
    else if n == 61 then Some Enodata
    else if n == 95 then Some Eopnotsupp
    else None

abbrev pub named : Option AppError → List ℕ → Option AppError
named None word = None
named (Some error) word = if is_text word (name_of error) then Some error else None
