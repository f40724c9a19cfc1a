-- The forms of words in a script: paths, modes, numbers, data, names of attributes and of procedures, and
-- names of what was defined before. `None` where a word has not the form. Paths and their components are
-- those of POSIX.1-2017, over visible bytes alone.
use Rattle.std.specs.Prelude.{ℕ, suc, ◌+◌, ◌-◌, ◌*◌, ◌==◌, ◌&&◌, nat_le, Bool, if◌then◌else◌, List, [], ◌∷◌, length, take, drop, replicate, codes, Option, Some, None}
use Rattle.std.specs.List.{list_all, starts_with}
use Rattle.std.specs.Option.{option_map}
use Rattle.xl_base.specs.Words.{decimal_of, hex_of}
use Rattle.volfile.specs.TextLines.{parts_between, front_len, is_visible, is_text}
use Rattle.fop_types.specs.Bounds.{is_component}
use Rattle.fop_types.specs.declared.calls.Path.{Path}
use Rattle.fop_types.specs.declared.messages.Proc.{Proc}
use Rattle.fop_types.specs.declared.messages.Proc.TheVariants.{Lock, Unlock, Mark, Op, Post, Fetch, Replace, Clear, Settle, Index, Open, Release}

-- whether a word begins with the text
abbrev pub begins : List ℕ → List ℕ → Bool
begins word text = starts_with ◌==◌ word text

-- ---- PATH
abbrev pub is_slash : ℕ → Bool
is_slash b = b == 47

abbrev pub path_with : List (List ℕ) → Option Path
path_with parts = if list_all is_component parts then Some (record { parts = parts }) else None

-- `/`, or `/` and components joined by `/`
abbrev pub path_at : List ℕ → Option Path
path_at word =
    if is_text word (codes "/") then Some (record { parts = [] })
    else if begins word (codes "/") then path_with (parts_between is_slash (drop 1 word))
    else None

-- ---- MODE
abbrev pub is_octal : ℕ → Bool
is_octal b = nat_le 48 b && nat_le b 55

-- the number that octal digits write after those of `above`
abbrev pub octal_after : ℕ → List ℕ → ℕ
octal_after above [] = above
octal_after above (d ∷ ds) = octal_after (above * 8 + (d - 48)) ds

-- the number, where it is at most 777 octal
abbrev pub nine_bits : ℕ → Option ℕ
nine_bits n = if nat_le n 511 then Some n else None

-- one to four octal digits of a number up to 777 octal
abbrev pub mode_at : List ℕ → Option ℕ
mode_at word = if nat_le 1 (length word) && nat_le (length word) 4 && list_all is_octal word then nine_bits (octal_after 0 word) else None

-- ---- numbers
abbrev pub within : ℕ → ℕ → Option ℕ → Option ℕ
within low high None = None
within low high (Some n) = if nat_le low n && nat_le n high then Some n else None

-- a decimal number between these bounds
abbrev pub number_at : ℕ → ℕ → List ℕ → Option ℕ
number_at low high word = within low high (decimal_of word)

-- FD
abbrev pub fd_at : List ℕ → Option ℕ
fd_at word = number_at 0 255 word

-- ---- DATA
abbrev pub at_most : ℕ → Option (List ℕ) → Option (List ℕ)
at_most limit None = None
at_most limit (Some bytes) = if nat_le (length bytes) limit then Some bytes else None

abbrev pub visible_bytes : List ℕ → Option (List ℕ)
visible_bytes bytes = if list_all is_visible bytes then Some bytes else None

abbrev pub only_byte : Option (List ℕ) → Option ℕ
only_byte None = None
only_byte (Some []) = None
only_byte (Some (b ∷ [])) = Some b
only_byte (Some (b ∷ c ∷ bs)) = None

abbrev pub copies_of : Option ℕ → Option ℕ → Option (List ℕ)
copies_of None byte = None
copies_of (Some n) None = None
copies_of (Some n) (Some byte) = Some (replicate n byte)

-- what follows `r:`: a number, `:` and two hexadecimal digits
abbrev pub repeated_at : ℕ → List ℕ → Option (List ℕ)
repeated_at limit rest = let n = front_len (λ b. b == 58) rest in copies_of (number_at 0 limit (take n rest)) (only_byte (hex_of (drop (n + 1) rest)))

-- `t:` and the bytes themselves, `x:` and pairs of hexadecimal digits, `z:N` for N zero bytes, or `r:N:HH`
-- for N bytes HH; at most `limit` bytes
abbrev pub data_at : ℕ → List ℕ → Option (List ℕ)
data_at limit word =
    if begins word (codes "t:") then at_most limit (visible_bytes (drop 2 word))
    else if begins word (codes "x:") then at_most limit (hex_of (drop 2 word))
    else if begins word (codes "z:") then copies_of (number_at 0 limit (drop 2 word)) (Some 0)
    else if begins word (codes "r:") then repeated_at limit (drop 2 word)
    else None

-- ---- ATTR
-- `user.` and more, 6 to 64 bytes in all
abbrev pub attr_at : List ℕ → Option (List ℕ)
attr_at word = if begins word (codes "user.") && nat_le 6 (length word) && nat_le (length word) 64 then Some word else None

-- ---- PROC
abbrev pub proc_at : List ℕ → Option Proc
proc_at word =
    if is_text word (codes "lock") then Some Lock
    else if is_text word (codes "unlock") then Some Unlock
    else if is_text word (codes "mark") then Some Mark
    else if is_text word (codes "op") then Some Op
    else if is_text word (codes "post") then Some Post
    else if is_text word (codes "fetch") then Some Fetch
    else if is_text word (codes "replace") then Some Replace
    else if is_text word (codes "clear") then Some Clear
    else if is_text word (codes "settle") then Some Settle
    else if is_text word (codes "index") then Some Index
    else if is_text word (codes "open") then Some Open
    else if is_text word (codes "release") then Some Release
    else None

-- ---- what was defined before
-- the number, from 0, of the first that passes the test
abbrev pub place_of : {A : Type 0} → (A → Bool) → List A → Option ℕ
place_of test [] = None
place_of test (x ∷ xs) = if test x then Some 0 else option_map suc (place_of test xs)
