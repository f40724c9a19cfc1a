-- The statements of a script: the words of a statement, and what was read before it, give what was read
-- after it, or the first kind of refusal.
use Rattle.std.specs.Prelude.{ℕ, ◌+◌, ◌&&◌, ◌||◌, nat_le, not, Bool, true, false, if◌then◌else◌, List, [], ◌∷◌, ◌++◌, length, codes, Option, Some, None, is_some, Result, Ok, Err}
use Rattle.std.specs.List.{list_any}
use Rattle.volfile.specs.TextLines.{is_text, is_name, is_visible_word}
use Rattle.volfile.specs.VolfileText.{nothing_read}
use Rattle.fop_types.specs.declared.calls.Call.{Call}
use Rattle.script_lang.specs.WordForms.{place_of}
use Rattle.script_lang.specs.CallText.{call_at}
use Rattle.script_lang.specs.ControlText.{volfile_at, control_at}
use Rattle.script_lang.specs.declared.errors.ScriptKind.{ScriptKind}
use Rattle.script_lang.specs.declared.errors.ScriptKind.TheVariants.{Unexpected, WordCount, BadWord, Repeated, TooMany, TwoGreat}
use Rattle.script_lang.specs.declared.scripts.Action.{Action}
use Rattle.script_lang.specs.declared.scripts.Action.TheVariants.{Down, Up, Cut, Fault, Heal, Switch}
use Rattle.script_lang.specs.declared.scripts.When.{When}
use Rattle.volfile.specs.declared.brick_lines.BrickLine.{BrickLine}
use Rattle.script_lang.specs.declared.scripts.NamedVolfile.{NamedVolfile}
use Rattle.script_lang.specs.declared.scripts.CallLine.{CallLine}
use Rattle.script_lang.specs.declared.scripts.ControlLine.{ControlLine}
use Rattle.script_lang.specs.declared.scripts.Phase.{Phase}
use Rattle.script_lang.specs.declared.drafts.Draft.{Draft}
use Rattle.script_lang.specs.declared.drafts.Part.{Part}
use Rattle.script_lang.specs.declared.drafts.Part.TheVariants as part
use Rattle.script_lang.specs.declared.drafts.Reading.{Reading}
use Rattle.script_lang.specs.declared.drafts.Reading.TheVariants.{InScript, InVolfile}

-- ---- brick NAME HOST PATH
-- the name is used, or the pair of host and path
abbrev pub has_words : BrickLine → List ℕ → List ℕ → List ℕ → Bool
has_words brick name host path = is_text brick.name name || (is_text brick.host host && is_text brick.path path)

abbrev pub is_brick_used : List BrickLine → List ℕ → List ℕ → List ℕ → Bool
is_brick_used bricks name host path = list_any (λ b. has_words b name host path) bricks

unfoldable pub brick_added : Draft → List ℕ → List ℕ → List ℕ → Result Reading ScriptKind
brick_added d name host path =
    if not (is_name name && is_visible_word host && is_visible_word path) then Err BadWord
    else if is_brick_used d.bricks name host path then Err Repeated
    else if nat_le 60 (length d.bricks) then Err TooMany
    else Ok (InScript (record d { bricks = d.bricks ++ record { name = name; host = host; path = path } ∷ [] }))

abbrev pub brick_read : Draft → List (List ℕ) → Result Reading ScriptKind
brick_read d [] = Err WordCount
brick_read d (name ∷ []) = Err WordCount
brick_read d (name ∷ host ∷ []) = Err WordCount
brick_read d (name ∷ host ∷ path ∷ []) = brick_added d name host path
brick_read d (name ∷ host ∷ path ∷ more ∷ rest) = Err WordCount

-- ---- volfile NAME
abbrev pub is_volfile : List NamedVolfile → List ℕ → Bool
is_volfile volfiles name = is_some (place_of (λ v. is_text v.name name) volfiles)

abbrev pub volfile_named : Draft → List ℕ → Result Reading ScriptKind
volfile_named d name =
    if not (is_name name) then Err BadWord
    else if is_volfile d.volfiles name then Err Repeated
    else if nat_le 16 (length d.volfiles) then Err TooMany
    else Ok (InVolfile (record d { part = part.Volfiles }) name nothing_read)

abbrev pub volfile_begun : Draft → List (List ℕ) → Result Reading ScriptKind
volfile_begun d [] = Err WordCount
volfile_begun d (name ∷ []) = volfile_named d name
volfile_begun d (name ∷ more ∷ rest) = Err WordCount

-- ---- start NAME
abbrev pub started : Draft → Result ℕ ScriptKind → Result Reading ScriptKind
started d (Ok volfile) = Ok (InScript (record d { part = part.Start; start = volfile }))
started d (Err kind) = Err kind

abbrev pub start_read : Draft → List (List ℕ) → Result Reading ScriptKind
start_read d [] = Err WordCount
start_read d (name ∷ []) = started d (volfile_at d.volfiles name)
start_read d (name ∷ more ∷ rest) = Err WordCount

-- ---- phase
-- the phases that have ended, and the one that is read, if there is one
abbrev pub phases_with : Part → List Phase → List CallLine → List ControlLine → List Phase
phases_with part.Bricks phases calls controls = phases
phases_with part.Volfiles phases calls controls = phases
phases_with part.Start phases calls controls = phases
phases_with part.Phases phases calls controls = phases ++ record { calls = calls; controls = controls } ∷ []

abbrev pub phases_read : Draft → List Phase
phases_read d = phases_with d.part d.phases d.calls d.controls

abbrev pub new_phase : Draft → Result Reading ScriptKind
new_phase d =
    if nat_le 4096 (length (phases_read d)) then Err TooMany
    else Ok (InScript (record d { part = part.Phases; phases = phases_read d; calls = []; controls = []; is_great = false }))

abbrev pub phase_begun : Draft → List (List ℕ) → Result Reading ScriptKind
phase_begun d [] = new_phase d
phase_begun d (more ∷ rest) = Err WordCount

-- ---- do SESSION CALL
abbrev pub with_call : Draft → ℕ → ℕ → Call → Draft
with_call d number session call = record d { calls = d.calls ++ record { line = number; session = session; call = call } ∷ []; call_count = d.call_count + 1 }

-- the draft with a call of the session that has this number, or of a new one
abbrev pub call_placed : Draft → ℕ → List ℕ → Option ℕ → Call → Draft
call_placed d number name (Some session) call = with_call d number session call
call_placed d number name None call = with_call (record d { sessions = d.sessions ++ name ∷ [] }) number (length d.sessions) call

-- the session has its number, or the next one where no `do` line named it before
abbrev pub call_added : Draft → ℕ → List ℕ → Option ℕ → Call → Result Reading ScriptKind
call_added d number name (Some session) call = if nat_le 4096 d.call_count then Err TooMany else Ok (InScript (call_placed d number name (Some session) call))
call_added d number name None call =
    if nat_le 4096 d.call_count || nat_le 64 (length d.sessions) then Err TooMany
    else Ok (InScript (call_placed d number name None call))

-- a call of a session with this name, which has this number, or none yet
abbrev pub call_named : Draft → ℕ → List ℕ → Option ℕ → Call → Result Reading ScriptKind
call_named d number name place call = if is_name name then call_added d number name place call else Err BadWord

abbrev pub call_said : Draft → ℕ → List ℕ → Result Call ScriptKind → Result Reading ScriptKind
call_said d number name (Err kind) = Err kind
call_said d number name (Ok call) = call_named d number name (place_of (λ s. is_text s name) d.sessions) call

abbrev pub call_read : Draft → ℕ → List (List ℕ) → Result Reading ScriptKind
call_read d number [] = Err WordCount
call_read d number (session ∷ []) = Err WordCount
call_read d number (session ∷ word ∷ rest) = call_said d number session (call_at word rest)

-- ---- control ..
abbrev pub is_great_action : Action → Bool
is_great_action (Down brick served) = false
is_great_action (Up brick) = false
is_great_action (Cut brick) = false
is_great_action (Fault brick proc nth) = false
is_great_action Heal = true
is_great_action (Switch volfile) = true

abbrev pub control_added : Draft → ℕ → Result (When × Action) ScriptKind → Result Reading ScriptKind
control_added d number (Err kind) = Err kind
control_added d number (Ok said) =
    if is_great_action said.1 && d.is_great then Err TwoGreat
    else Ok (InScript (record d { controls = d.controls ++ record { line = number; when = said.0; action = said.1 } ∷ []; is_great = d.is_great || is_great_action said.1 }))

abbrev pub control_read : Draft → ℕ → List (List ℕ) → Result Reading ScriptKind
control_read d number words = control_added d number (control_at d.bricks d.volfiles words)

-- ---- the statement that may be there by what was begun last
abbrev pub said_of_volfiles : Draft → List ℕ → List (List ℕ) → Result Reading ScriptKind
said_of_volfiles d word rest = if is_text word (codes "volfile") then volfile_begun d rest else if is_text word (codes "start") then start_read d rest else Err Unexpected

abbrev pub said_in_phases : Draft → ℕ → List ℕ → List (List ℕ) → Result Reading ScriptKind
said_in_phases d number word rest =
    if is_text word (codes "phase") then phase_begun d rest
    else if is_text word (codes "do") then call_read d number rest
    else if is_text word (codes "control") then control_read d number rest
    else Err Unexpected

abbrev pub said_in : Part → Draft → ℕ → List ℕ → List (List ℕ) → Result Reading ScriptKind
said_in part.Bricks d number word rest = if is_text word (codes "brick") then brick_read d rest else said_of_volfiles d word rest
said_in part.Volfiles d number word rest = said_of_volfiles d word rest
said_in part.Start d number word rest = if is_text word (codes "phase") then phase_begun d rest else Err Unexpected
said_in part.Phases d number word rest = said_in_phases d number word rest

-- a line of these words; a blank one says nothing
abbrev pub statement : Draft → ℕ → List (List ℕ) → Result Reading ScriptKind
statement d number [] = Ok (InScript d)
statement d number (word ∷ rest) = said_in d.part d number word rest
