-- The grammar of a volfile, as a function of its bytes. What was read so far is the volumes whose blocks
-- have ended and the open block, if there is one. A line gives what is read after it, or the first kind of
-- refusal, in the order of `VolKind`, that holds of it. A text gives its volumes, or the first line that
-- is refused.
use Rattle.std.specs.Prelude.{ℕ, ◌==◌, ◌&&◌, nat_le, not, Bool, true, false, if◌then◌else◌, List, [], ◌∷◌, ◌++◌, length, codes, Option, Some, None, is_some, Result, Ok, Err}
use Rattle.std.specs.List.{list_all}
use Rattle.volfile.specs.TextLines.{lines_of, words_of, parts_between, is_blank, is_name, is_text_byte, is_text, line_after}
use Rattle.volfile.specs.VolumeNames.{place_of}
use Rattle.volfile.specs.declared.volumes.Volume.{Volume}
use Rattle.volfile.specs.declared.volumes.Volfile.{Volfile}
use Rattle.volfile.specs.declared.errors.VolError.{VolError}
use Rattle.volfile.specs.declared.errors.VolError.TheVariants.{At}
use Rattle.volfile.specs.declared.errors.VolKind.{VolKind}
use Rattle.volfile.specs.declared.errors.VolKind.TheVariants.{BadByte, Backquote, OpenQuote, Unexpected, WordCount, BadWord, Repeated, UnknownSubvolume, MissingType, TooMany, Unclosed, Empty}

-- the volumes whose blocks have ended, and the open block: a volume that has no type as long as its kind
-- is empty, and no subvolumes as long as there are none
pub record Reading : Type 0 where
  pub volumes : List Volume
  pub block : Option Volume

abbrev pub nothing_read : Reading
nothing_read = record { volumes = []; block = None }

-- ---- from a line to its words
-- what is before the comment, which begins at the first `#` outside a quoted text
abbrev pub before_comment : Bool → List ℕ → List ℕ
before_comment inside [] = []
before_comment inside (b ∷ bs) = if (b == 35) && not inside then [] else b ∷ before_comment (if b == 34 then not inside else inside) bs

abbrev pub is_quote : ℕ → Bool
is_quote b = b == 34

abbrev pub is_no_backquote : ℕ → Bool
is_no_backquote b = not (b == 96)

-- whether the last byte, or the first, is a blank, or there is none
abbrev pub ends_blank : List ℕ → Bool
ends_blank [] = true
ends_blank (b ∷ []) = is_blank b
ends_blank (b ∷ c ∷ bs) = ends_blank (c ∷ bs)

abbrev pub begins_blank : List ℕ → Bool
begins_blank [] = true
begins_blank (b ∷ bs) = is_blank b

-- `option KEY`
abbrev pub is_option_and_key : List (List ℕ) → Bool
is_option_and_key [] = false
is_option_and_key (word ∷ []) = false
is_option_and_key (word ∷ key ∷ []) = is_text word (codes "option")
is_option_and_key (word ∷ key ∷ more ∷ rest) = false

-- the words of a line that its quotes cut into these parts: one quoted text may be there, apart from the
-- words before and behind it, as an option's value
abbrev pub words_around : List (List ℕ) → Option (List (List ℕ))
words_around [] = None
words_around (plain ∷ []) = Some (words_of plain)
words_around (before ∷ text ∷ []) = None
words_around (before ∷ text ∷ behind ∷ []) =
    if is_option_and_key (words_of before) && ends_blank before && begins_blank behind then Some (words_of before ++ text ∷ words_of behind) else None
words_around (before ∷ text ∷ between ∷ more ∷ rest) = None

abbrev pub words_said : List ℕ → Option (List (List ℕ))
words_said said = words_around (parts_between is_quote said)

-- ---- statements
-- two parts that are not empty, with one `/` between them
abbrev pub are_two_parts : List (List ℕ) → Bool
are_two_parts [] = false
are_two_parts (a ∷ []) = false
are_two_parts (a ∷ b ∷ []) = nat_le 1 (length a) && nat_le 1 (length b)
are_two_parts (a ∷ b ∷ c ∷ rest) = false

abbrev pub is_type : List ℕ → Bool
is_type word = are_two_parts (parts_between (λ b. b == 47) word)

abbrev pub is_defined : List Volume → List ℕ → Bool
is_defined volumes name = is_some (place_of name volumes)

-- what follows `volume`
abbrev pub volume_begun : List Volume → ℕ → List (List ℕ) → Result Reading VolKind
volume_begun volumes number [] = Err WordCount
volume_begun volumes number (name ∷ []) =
    if not (is_name name) then Err BadWord
    else if is_defined volumes name then Err Repeated
    else if nat_le 256 (length volumes) then Err TooMany
    else Ok (record { volumes = volumes; block = Some (record { line = number; name = name; kind = []; options = []; subvolumes = [] }) })
volume_begun volumes number (name ∷ more ∷ rest) = Err WordCount

-- what follows `type`
abbrev pub type_given : Volume → List (List ℕ) → Result Volume VolKind
type_given v [] = Err WordCount
type_given v (kind ∷ []) = if is_type kind then Ok (record v { kind = kind }) else Err BadWord
type_given v (kind ∷ more ∷ rest) = Err WordCount

-- what follows `option`
abbrev pub option_given : Volume → List (List ℕ) → Result Volume VolKind
option_given v [] = Err WordCount
option_given v (key ∷ []) = Err WordCount
option_given v (key ∷ value ∷ []) = Ok (record v { options = v.options ++ record { key = key; value = value } ∷ [] })
option_given v (key ∷ value ∷ more ∷ rest) = Err WordCount

-- what follows `subvolumes`
abbrev pub subvolumes_given : List Volume → Volume → List (List ℕ) → Result Volume VolKind
subvolumes_given volumes v names =
    if length names == 0 then Err WordCount
    else if not (list_all is_name names) then Err BadWord
    else if not (list_all (is_defined volumes) names) then Err UnknownSubvolume
    else Ok (record v { subvolumes = names })

-- what is read, where the open block has become this
abbrev pub with_block : List Volume → Result Volume VolKind → Result Reading VolKind
with_block volumes (Err kind) = Err kind
with_block volumes (Ok v) = Ok (record { volumes = volumes; block = Some v })

-- what follows `end-volume`
abbrev pub block_ended : List Volume → Volume → List (List ℕ) → Result Reading VolKind
block_ended volumes v rest =
    if not (length rest == 0) then Err WordCount
    else if length v.kind == 0 then Err MissingType
    else Ok (record { volumes = volumes ++ v ∷ []; block = None })

-- a statement outside a block
abbrev pub said_outside : List Volume → ℕ → List ℕ → List (List ℕ) → Result Reading VolKind
said_outside volumes number word rest = if is_text word (codes "volume") then volume_begun volumes number rest else Err Unexpected

-- a statement in a block
abbrev pub said_inside : List Volume → Volume → List ℕ → List (List ℕ) → Result Reading VolKind
said_inside volumes v word rest =
    if is_text word (codes "type") && (length v.kind == 0) then with_block volumes (type_given v rest)
    else if is_text word (codes "option") then with_block volumes (option_given v rest)
    else if is_text word (codes "subvolumes") && (length v.subvolumes == 0) then with_block volumes (subvolumes_given volumes v rest)
    else if is_text word (codes "end-volume") then block_ended volumes v rest
    else Err Unexpected

abbrev pub said_in : Option Volume → List Volume → ℕ → List ℕ → List (List ℕ) → Result Reading VolKind
said_in None volumes number word rest = said_outside volumes number word rest
said_in (Some v) volumes number word rest = said_inside volumes v word rest

-- a line of these words; a blank one says nothing
abbrev pub statement : Reading → ℕ → List (List ℕ) → Result Reading VolKind
statement r number [] = Ok r
statement r number (word ∷ rest) = said_in r.block r.volumes number word rest

abbrev pub statement_if : Option (List (List ℕ)) → Reading → ℕ → Result Reading VolKind
statement_if None r number = Err OpenQuote
statement_if (Some words) r number = statement r number words

-- a line without its comment
abbrev pub said_read : Reading → ℕ → List ℕ → Result Reading VolKind
said_read r number said =
    if not (list_all is_text_byte said) then Err BadByte
    else if not (list_all is_no_backquote said) then Err Backquote
    else statement_if (words_said said) r number

-- the line with this number
unfoldable pub line_read : Reading → ℕ → List ℕ → Result Reading VolKind
line_read r number line = said_read r number (before_comment false line)

-- ---- the whole text
abbrev pub volfile_of : List Volume → ℕ → Result Volfile VolError
volfile_of [] number = Err (At number Empty)
volfile_of (v ∷ vs) number = Ok (record { volumes = v ∷ vs })

abbrev pub ended_by : Option Volume → List Volume → ℕ → Result Volfile VolError
ended_by None volumes number = volfile_of volumes number
ended_by (Some v) volumes number = Err (At number Unclosed)

-- the text ends at the line with this number
abbrev pub text_ended : Reading → ℕ → Result Volfile VolError
text_ended r number = ended_by r.block r.volumes number

abbrev pub read_on : Result Reading VolKind → ℕ → (Reading → Result Volfile VolError) → Result Volfile VolError
read_on (Err kind) number rest = Err (At number kind)
read_on (Ok r) number rest = rest r

-- the lines behind the line with this number
abbrev pub lines_read : List (List ℕ) → Reading → ℕ → Result Volfile VolError
lines_read [] r number = text_ended r number
lines_read (line ∷ rest) r number = read_on (line_read r (line_after number) line) (line_after number) (λ s. lines_read rest s (line_after number))

-- what a text says
abbrev pub parsed : List ℕ → Result Volfile VolError
parsed text = lines_read (lines_of text) nothing_read 0
