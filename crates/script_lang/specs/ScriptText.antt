-- The grammar of a script, as a function of its bytes. What was read so far is a draft of the script, and
-- inside a volfile what was read of that. A line gives what is read after it, or the first kind of
-- refusal that holds of it. A text gives its script, or the first line that is refused.
use Rattle.std.specs.Prelude.{◌≡◌, ℕ, ◌==◌, nat_le, not, Bool, true, false, if◌then◌else◌, List, [], ◌∷◌, ◌++◌, length, codes, Option, Some, None, Result, Ok, Err}
use Rattle.std.specs.List.{list_all}
use Rattle.volfile.specs.TextLines.{lines_of, line_after, words_of, is_blank, is_text_byte, is_text}
use Rattle.volfile.specs.VolfileText.{Reading as VolReading, line_read as vol_line_read}
use Rattle.volfile.specs.declared.errors.VolKind.{VolKind}
use Rattle.volfile.specs.declared.errors.VolKind.TheVariants.{Unclosed as VolUnclosed, Empty as VolEmpty}
use Rattle.volfile.specs.declared.volumes.Volume.{Volume}
use Rattle.script_lang.specs.StatementText.{statement, phases_read}
use Rattle.script_lang.specs.declared.errors.ScriptKind.{ScriptKind}
use Rattle.script_lang.specs.declared.errors.ScriptKind.TheVariants.{BadByte, LongLine, WordCount, Unclosed, NoStart, Vol}
use Rattle.script_lang.specs.declared.errors.ScriptError.{ScriptError}
use Rattle.script_lang.specs.declared.errors.ScriptError.TheVariants.{At, Mem}
use Rattle.script_lang.specs.declared.scripts.Script.{Script}
use Rattle.script_lang.specs.declared.drafts.Draft.{Draft}
use Rattle.script_lang.specs.declared.drafts.Part.{Part}
use Rattle.script_lang.specs.declared.drafts.Part.TheVariants as part
use Rattle.script_lang.specs.declared.drafts.Reading.{Reading}
use Rattle.script_lang.specs.declared.drafts.Reading.TheVariants.{InScript, InVolfile}

-- before the first line
abbrev pub nothing_said : Reading
nothing_said =
    InScript (record { part = part.Bricks; bricks = []; volfiles = []; start = 0; sessions = []; phases = []; calls = []; controls = []; call_count = 0; is_great = false })

-- ---- one line
-- the first byte that is no blank is `#`
abbrev pub is_comment : List ℕ → Bool
is_comment [] = false
is_comment (b ∷ bs) = if is_blank b then is_comment bs else b == 35

abbrev pub is_long : List ℕ → Bool
is_long line = nat_le 140001 (length line)

-- a line that says something has bytes that may be there, and not too many
abbrev pub line_refusal : List ℕ → Option ScriptKind
line_refusal line = if not (list_all is_text_byte line) then Some BadByte else if is_long line then Some LongLine else None

abbrev pub unless_refused : Option ScriptKind → Result Reading ScriptKind → Result Reading ScriptKind
unless_refused None said = said
unless_refused (Some kind) said = Err kind

abbrev pub said_if_plain : List ℕ → Result Reading ScriptKind → Result Reading ScriptKind
said_if_plain line said = unless_refused (line_refusal line) said

abbrev pub script_line_read : Draft → ℕ → List ℕ → Result Reading ScriptKind
script_line_read d number line =
    if is_comment line then (if is_long line then Err LongLine else Ok (InScript d)) else said_if_plain line (statement d number (words_of line))

-- ---- one line inside a volfile
abbrev pub volfile_goes_on : Draft → List ℕ → Result VolReading VolKind → Result Reading ScriptKind
volfile_goes_on d name (Ok r) = Ok (InVolfile d name r)
volfile_goes_on d name (Err kind) = Err (Vol kind)

abbrev pub inner_line_read : Draft → List ℕ → VolReading → ℕ → List ℕ → Result Reading ScriptKind
inner_line_read d name r number line = if is_long line then Err LongLine else volfile_goes_on d name (vol_line_read r number line)

-- a volfile ends outside a block and has a volume or more
abbrev pub volfile_ended : Draft → List ℕ → Option Volume → List Volume → Result Reading ScriptKind
volfile_ended d name (Some block) volumes = Err (Vol VolUnclosed)
volfile_ended d name None [] = Err (Vol VolEmpty)
volfile_ended d name None (v ∷ vs) = Ok (InScript (record d { volfiles = d.volfiles ++ record { name = name; volfile = record { volumes = v ∷ vs } } ∷ [] }))

-- `end-volfile` and these words
abbrev pub end_read : Draft → List ℕ → VolReading → List (List ℕ) → Result Reading ScriptKind
end_read d name r [] = volfile_ended d name r.block r.volumes
end_read d name r (more ∷ rest) = Err WordCount

-- a line of these words: the first of them may end the volfile
abbrev pub volfile_line_read : Draft → List ℕ → VolReading → ℕ → List ℕ → List (List ℕ) → Result Reading ScriptKind
volfile_line_read d name r number line [] = inner_line_read d name r number line
volfile_line_read d name r number line (word ∷ rest) = if is_text word (codes "end-volfile") then said_if_plain line (end_read d name r rest) else inner_line_read d name r number line

-- the line with this number
abbrev pub line_read : Reading → ℕ → List ℕ → Result Reading ScriptKind
line_read (InScript d) number line = script_line_read d number line
line_read (InVolfile d name r) number line = volfile_line_read d name r number line (words_of line)

-- ---- the whole text
abbrev pub has_start : Part → Bool
has_start part.Bricks = false
has_start part.Volfiles = false
has_start part.Start = true
has_start part.Phases = true

abbrev pub script_of : Draft → Script
script_of d =
    record { bricks = d.bricks; volfiles = d.volfiles; start = d.start; sessions = d.sessions; phases = phases_read d }

-- the text ends at the line with this number
abbrev pub text_ended : Reading → ℕ → Result Script ScriptError
text_ended (InVolfile d name r) number = Err (At number Unclosed)
text_ended (InScript d) number = if has_start d.part then Ok (script_of d) else Err (At number NoStart)

abbrev pub read_on : Result Reading ScriptKind → ℕ → (Reading → Result Script ScriptError) → Result Script ScriptError
read_on (Err kind) number rest = Err (At number kind)
read_on (Ok r) number rest = rest r

-- the lines behind the line with this number
abbrev pub lines_read : List (List ℕ) → Reading → ℕ → Result Script ScriptError
lines_read [] r number = text_ended r number
lines_read (line ∷ rest) r number = read_on (line_read r (line_after number) line) (line_after number) (λ s. lines_read rest s (line_after number))

-- what a text says
abbrev pub parsed : List ℕ → Result Script ScriptError
parsed text = lines_read (lines_of text) nothing_said 0

-- a result that is this one, but for running out of memory
abbrev pub IsButForMemory : {A : Type 0} → Result A ScriptError → Result A ScriptError → Type 0
IsButForMemory (Ok a) wanted = wanted ≡ Ok a
IsButForMemory (Err (At line kind)) wanted = wanted ≡ Err (At line kind)
IsButForMemory (Err Mem) wanted = Unit {0}
