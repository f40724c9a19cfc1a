-- What the options of a volume say: the rules of replicate volumes, the brick of a client, the pages of a
-- cache.
use Rattle.std.specs.Prelude.{ℕ, ◌-◌, ◌*◌, ◌/◌, ◌==◌, ◌&&◌, ◌||◌, not, nat_lt, Bool, true, false, if◌then◌else◌, List, [], ◌∷◌, length, take, drop, suc, codes, Option, Some, None}
use Rattle.std.specs.Option.{option_map}
use Rattle.xl_base.specs.Words.{decimal_of, fitting}
use Rattle.volfile.specs.TextLines.{is_text}
use Rattle.volfile.specs.Options.{last_value}
use Rattle.volfile.specs.declared.volumes.OptionLine.{OptionLine}
use Rattle.volfile.specs.declared.brick_lines.BrickLine.{BrickLine}

-- the types that hand fops through
abbrev pub pass_types : List (List ℕ)
pass_types =
    codes "performance/write-behind" ∷ codes "performance/read-ahead" ∷ codes "performance/readdir-ahead" ∷ codes "performance/open-behind" ∷ codes "performance/quick-read"
    ∷ codes "performance/md-cache" ∷ codes "performance/nl-cache" ∷ codes "features/utime" ∷ codes "debug/io-stats" ∷ []

abbrev pub is_one_of : List ℕ → List (List ℕ) → Bool
is_one_of word [] = false
is_one_of word (w ∷ ws) = is_text word w || is_one_of word ws

unfoldable pub is_pass : List ℕ → Bool
is_pass kind = is_one_of kind pass_types

-- whether an option is there, and is not this word
abbrev pub is_other : Option (List ℕ) → List ℕ → Bool
is_other None word = false
is_other (Some value) word = not (is_text value word)

abbrev pub is_given : Option (List ℕ) → Bool
is_given None = false
is_given (Some value) = true

-- another number of subvolumes than three, an arbiter, or a thin arbiter
unfoldable pub is_bad_replica : ℕ → List OptionLine → Bool
is_bad_replica n options = not (n == 3) || is_other (last_value options (codes "arbiter-count")) (codes "0") || is_given (last_value options (codes "thin-arbiter"))

-- a quorum of another type
unfoldable pub is_not_auto : List OptionLine → Bool
is_not_auto options = is_other (last_value options (codes "quorum-type")) (codes "auto")

-- the number, from 0, of the first brick at this host and path
abbrev pub brick_at : List ℕ → List ℕ → List BrickLine → Option ℕ
brick_at host path [] = None
brick_at host path (b ∷ bs) = if is_text b.host host && is_text b.path path then Some 0 else option_map suc (brick_at host path bs)

abbrev pub brick_named : Option (List ℕ) → Option (List ℕ) → List BrickLine → Option ℕ
brick_named None path bricks = None
brick_named (Some host) None bricks = None
brick_named (Some host) (Some path) bricks = brick_at host path bricks

-- the brick that a client's options name
unfoldable pub brick_of : List OptionLine → List BrickLine → Option ℕ
brick_of options bricks = brick_named (last_value options (codes "remote-host")) (last_value options (codes "remote-subvolume")) bricks

abbrev pub scaled : Option ℕ → ℕ → Option ℕ
scaled None unit = None
scaled (Some n) unit = fitting (n * unit)

-- a number of bytes below 2^64: a number, or one with KB, MB or GB behind it
abbrev pub size_with : List ℕ → List ℕ → List ℕ → Option ℕ
size_with value front unit =
    if is_text unit (codes "KB") then scaled (decimal_of front) 1024
    else if is_text unit (codes "MB") then scaled (decimal_of front) 1048576
    else if is_text unit (codes "GB") then scaled (decimal_of front) 1073741824
    else decimal_of value

abbrev pub size_of : List ℕ → Option ℕ
size_of value = size_with value (take (length value - 2) value) (drop (length value - 2) value)

-- whole pages of 4,096 bytes, at least 1 and at most 8,192
abbrev pub within_pages : ℕ → ℕ
within_pages n = if nat_lt n 1 then 1 else if nat_lt 8192 n then 8192 else n

abbrev pub pages_in : Option ℕ → Option ℕ
pages_in None = None
pages_in (Some n) = Some (within_pages (n / 4096))

-- the pages of a cache of the size that the option says, 32MB where there is none
abbrev pub pages_given : Option (List ℕ) → Option ℕ
pages_given None = Some 8192
pages_given (Some value) = pages_in (size_of value)

unfoldable pub pages_of : List OptionLine → Option ℕ
pages_of options = pages_given (last_value options (codes "cache-size"))
