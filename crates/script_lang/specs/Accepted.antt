-- What every accepted script keeps to: its limits, names that differ, controls of bricks and volfiles that are
-- there, sessions by first mention, the bounds of each call's words, and lines in order.
use Rattle.std.specs.Prelude.{◌≡◌, ◌<◌, ◌≤◌, ⊤, ℕ, ◌+◌, ◌==◌, ◌&&◌, Bool, true, if◌then◌else◌, List, [], ◌∷◌, length, map, max, flat_map, ◌⊎◌, Ok}
use Rattle.std.specs.List.{AllByRecursion, IsDistinct}
use Rattle.volfile.specs.TextLines.{is_text, is_name, is_visible_word}
use Rattle.volfile.specs.Volumes.{IsVolfile}
use Rattle.fop_types.specs.Bounds.{IsCall}
use Rattle.fop_types.specs.declared.messages.Proc.TheVariants.{Unlock}
use Rattle.script_lang.specs.StatementText.{is_great_action}
use Rattle.script_lang.specs.ScriptText.{parsed}
use Rattle.script_lang.specs.declared.scripts.Action.{Action}
use Rattle.script_lang.specs.declared.scripts.Action.TheVariants.{Down, Up, Cut, Fault, Heal, Switch}
use Rattle.script_lang.specs.declared.scripts.When.{When}
use Rattle.script_lang.specs.declared.scripts.When.TheVariants.{Now, Before, After}
use Rattle.volfile.specs.declared.brick_lines.BrickLine.{BrickLine}
use Rattle.script_lang.specs.declared.scripts.NamedVolfile.{NamedVolfile}
use Rattle.script_lang.specs.declared.scripts.CallLine.{CallLine}
use Rattle.script_lang.specs.declared.scripts.ControlLine.{ControlLine}
use Rattle.script_lang.specs.declared.scripts.Phase.{Phase}
use Rattle.script_lang.specs.declared.scripts.Script.{Script}

-- ---- controls, over so many bricks and volfiles
-- the place of a request among those of its procedure in a phase
abbrev pub IsNth : ℕ → Type 0
IsNth nth = (1 ≤ nth) × (nth ≤ 65535)

abbrev pub IsWhen : ℕ → When → Type 0
IsWhen bricks Now = ⊤
IsWhen bricks (Before brick proc nth) = (brick < bricks) × IsNth nth
IsWhen bricks (After brick proc nth) = (brick < bricks) × IsNth nth

-- no `unlock` is answered by a fault
abbrev pub IsAction : ℕ → ℕ → Action → Type 0
IsAction bricks volfiles (Down brick served) = (brick < bricks) × (served ≤ 65535)
IsAction bricks volfiles (Up brick) = brick < bricks
IsAction bricks volfiles (Cut brick) = brick < bricks
IsAction bricks volfiles (Fault brick proc nth) = (brick < bricks) × IsNth nth × (proc ≡ Unlock → ⊥)
IsAction bricks volfiles Heal = ⊤
IsAction bricks volfiles (Switch volfile) = volfile < volfiles

-- directly before a request to a brick only that brick goes down, or answers a later request with a fault
abbrev pub IsBefore : ℕ → Action → Type 0
IsBefore brick (Down other served) = other ≡ brick
IsBefore brick (Up other) = ⊥
IsBefore brick (Cut other) = ⊥
IsBefore brick (Fault other proc nth) = other ≡ brick
IsBefore brick Heal = ⊥
IsBefore brick (Switch volfile) = ⊥

abbrev pub Allows : When → Action → Type 0
Allows Now action = ⊤
Allows (Before brick proc nth) action = IsBefore brick action
Allows (After brick proc nth) action = ⊤

pub record IsControl (bricks volfiles : ℕ) (line : ControlLine) : Type 0 where
  pub when : IsWhen bricks line.when
  pub action : IsAction bricks volfiles line.action
  pub allowed : Allows line.when line.action

-- how many of them are a heal or a switch
abbrev pub great_count : List ControlLine → ℕ
great_count [] = 0
great_count (line ∷ lines) = if is_great_action line.action then great_count lines + 1 else great_count lines

pub record IsPhase (bricks volfiles : ℕ) (phase : Phase) : Type 0 where
  pub calls : AllByRecursion (λ line. IsCall line.call) phase.calls
  pub controls : AllByRecursion (IsControl bricks volfiles) phase.controls
  pub one_great : great_count phase.controls ≤ 1

-- ---- lines
-- a later line: its number is greater, until numbers stay at the greatest of 32 bits
abbrev pub IsBehind : ℕ → ℕ → Type 0
IsBehind line later = (line < later) ⊎ (later ≡ 4294967295)

-- lines that rise, the first of them behind `last`
abbrev pub AreRising : ℕ → List ℕ → Type 0
AreRising last [] = ⊤
AreRising last (line ∷ lines) = IsBehind last line × AreRising line lines

-- the last of these lines, or `last` where there are none
abbrev pub last_of : ℕ → List ℕ → ℕ
last_of last [] = last
last_of last (line ∷ lines) = last_of line lines

-- the last line of a phase behind `last`
abbrev pub last_in : ℕ → Phase → ℕ
last_in last phase = max (last_of last (map (λ c. c.line) phase.calls)) (last_of last (map (λ c. c.line) phase.controls))

-- the lines of a phase's calls rise, those of its controls rise, and all are behind those of earlier phases
abbrev pub AreLined : ℕ → List Phase → Type 0
AreLined last [] = ⊤
AreLined last (phase ∷ phases) =
    AreRising last (map (λ c. c.line) phase.calls) × AreRising last (map (λ c. c.line) phase.controls) × AreLined (last_in last phase) phases

-- ---- sessions
abbrev pub calls_of : List Phase → List CallLine
calls_of phases = flat_map (λ p. p.calls) phases

-- the sessions that are mentioned once this line is read, where so many were before
abbrev pub with_mention : ℕ → ℕ → ℕ
with_mention count session = if session == count then count + 1 else count

-- how many sessions these lines and so many earlier ones mention
abbrev pub mentioned : ℕ → List CallLine → ℕ
mentioned count [] = count
mentioned count (line ∷ lines) = mentioned (with_mention count line.session) lines

-- each line's session was mentioned before, or has the next number
abbrev pub AreNumbered : ℕ → List CallLine → Type 0
AreNumbered count [] = ⊤
AreNumbered count (line ∷ lines) = (line.session ≤ count) × AreNumbered (with_mention count line.session) lines

-- ---- the script
abbrev pub has_name : BrickLine → BrickLine → Bool
has_name a b = is_text a.name b.name

abbrev pub has_place : BrickLine → BrickLine → Bool
has_place a b = is_text a.host b.host && is_text a.path b.path

pub record IsBrickLine (line : BrickLine) : Type 0 where
  pub name : is_name line.name ≡ true
  pub host : is_visible_word line.host ≡ true
  pub path : is_visible_word line.path ≡ true

pub record AreBricks (bricks : List BrickLine) : Type 0 where
  pub few : length bricks ≤ 60
  pub forms : AllByRecursion IsBrickLine bricks
  pub names : IsDistinct has_name bricks
  pub places : IsDistinct has_place bricks

pub record IsVolfileLine (line : NamedVolfile) : Type 0 where
  pub name : is_name line.name ≡ true
  pub volfile : IsVolfile line.volfile

pub record AreVolfiles (volfiles : List NamedVolfile) : Type 0 where
  pub few : length volfiles ≤ 16
  pub forms : AllByRecursion IsVolfileLine volfiles
  pub names : IsDistinct (λ a b. is_text a.name b.name) volfiles

-- the sessions of these calls, by their numbers
pub record AreSessions (sessions : List (List ℕ)) (calls : List CallLine) : Type 0 where
  pub few : length sessions ≤ 64
  pub forms : AllByRecursion (λ s. is_name s ≡ true) sessions
  pub names : IsDistinct is_text sessions
  pub numbered : AreNumbered 0 calls
  pub all : mentioned 0 calls ≡ length sessions

pub record IsAccepted (script : Script) : Type 0 where
  pub bricks : AreBricks script.bricks
  pub volfiles : AreVolfiles script.volfiles
  pub start : script.start < length script.volfiles
  pub sessions : AreSessions script.sessions (calls_of script.phases)
  pub few_phases : length script.phases ≤ 4096
  pub few_calls : length (calls_of script.phases) ≤ 4096
  pub phases : AllByRecursion (IsPhase (length script.bricks) (length script.volfiles)) script.phases
  pub lines : AreLined 0 script.phases

abbrev pub AcceptedKeepLimits : Type 0
AcceptedKeepLimits = (text : List ℕ) (script : Script) → parsed text ≡ Ok script → IsAccepted script
