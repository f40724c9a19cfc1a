-- The controls of a script: the words behind `control` give what is done and when, or the kind of refusal.
-- Bricks and volfiles are named by their numbers in the lists of what was defined.
use Rattle.std.specs.Prelude.{ℕ, ◌||◌, ◌&&◌, Bool, true, false, if◌then◌else◌, List, [], ◌∷◌, codes, Option, Some, None, Result, Ok, Err}
use Rattle.volfile.specs.TextLines.{is_text, is_name}
use Rattle.fop_types.specs.declared.messages.Proc.{Proc}
use Rattle.script_lang.specs.WordForms.{number_at, proc_at, place_of}
use Rattle.script_lang.specs.declared.errors.ScriptKind.{ScriptKind}
use Rattle.script_lang.specs.declared.errors.ScriptKind.TheVariants.{WordCount, BadWord, Unknown}
use Rattle.script_lang.specs.declared.scripts.Action.{Action}
use Rattle.script_lang.specs.declared.scripts.Action.TheVariants.{Down, Up, Cut, Fault, Heal, Switch}
use Rattle.script_lang.specs.declared.scripts.When.{When}
use Rattle.script_lang.specs.declared.scripts.When.TheVariants.{Now, Before, After}
use Rattle.volfile.specs.declared.brick_lines.BrickLine.{BrickLine}
use Rattle.script_lang.specs.declared.scripts.NamedVolfile.{NamedVolfile}
use Rattle.script_lang.specs.declared.places.NthRequest.{NthRequest}
use Rattle.script_lang.specs.declared.places.Request.{Request}
use Rattle.script_lang.specs.Kinds.{earlier}

-- two readings of one line: both values, or the earlier kind
abbrev pub both : {A B : Type 0} → Result A ScriptKind → Result B ScriptKind → Result (A × B) ScriptKind
both (Ok a) (Ok b) = Ok (a, b)
both (Ok a) (Err k) = Err k
both (Err k) (Ok b) = Err k
both (Err k) (Err l) = Err (earlier k l)

abbrev pub mapped : {A B : Type 0} → (A → B) → Result A ScriptKind → Result B ScriptKind
mapped f (Ok a) = Ok (f a)
mapped f (Err k) = Err k

-- a word of a form that may not be missing, and a name that must be defined
abbrev pub formed : {A : Type 0} → Option A → Result A ScriptKind
formed None = Err BadWord
formed (Some a) = Ok a

abbrev pub defined : Option ℕ → Result ℕ ScriptKind
defined None = Err Unknown
defined (Some n) = Ok n

-- BRICK
abbrev pub brick_at : List BrickLine → List ℕ → Result ℕ ScriptKind
brick_at bricks word = if is_name word then defined (place_of (λ b. is_text b.name word) bricks) else Err BadWord

-- NAME of a volfile
abbrev pub volfile_at : List NamedVolfile → List ℕ → Result ℕ ScriptKind
volfile_at volfiles word = if is_name word then defined (place_of (λ v. is_text v.name word) volfiles) else Err BadWord

-- N, and S
abbrev pub nth_at : List ℕ → Result ℕ ScriptKind
nth_at word = formed (number_at 1 65535 word)

abbrev pub served_at : List ℕ → Result ℕ ScriptKind
served_at word = formed (number_at 0 65535 word)

-- PROC of a fault: any but `unlock`
abbrev pub fault_proc_at : List ℕ → Result Proc ScriptKind
fault_proc_at word = if is_text word (codes "unlock") then Err BadWord else formed (proc_at word)

-- PROC N
abbrev pub nth_request_at : Result Proc ScriptKind → List ℕ → Result NthRequest ScriptKind
nth_request_at proc nth = mapped (λ p. record { proc = p.0; nth = p.1 }) (both proc (nth_at nth))

-- an action of another number of words, or none
abbrev pub is_action : List ℕ → Bool
is_action word =
    is_text word (codes "down") || is_text word (codes "up") || is_text word (codes "cut") || is_text word (codes "fault") || is_text word (codes "heal")
    || is_text word (codes "switch")

abbrev pub no_action : List ℕ → ScriptKind
no_action word = if is_action word then WordCount else BadWord

abbrev pub action_of_one : List BrickLine → List NamedVolfile → List ℕ → List ℕ → Result Action ScriptKind
action_of_one bricks volfiles word a =
    if is_text word (codes "up") then mapped Up (brick_at bricks a)
    else if is_text word (codes "cut") then mapped Cut (brick_at bricks a)
    else if is_text word (codes "switch") then mapped Switch (volfile_at volfiles a)
    else Err (no_action word)

abbrev pub action_of_two : List BrickLine → List ℕ → List ℕ → List ℕ → Result Action ScriptKind
action_of_two bricks word a b =
    if is_text word (codes "down") then mapped (λ p. Down p.0 p.1) (both (brick_at bricks a) (served_at b)) else Err (no_action word)

abbrev pub action_of_three : List BrickLine → List ℕ → List ℕ → List ℕ → List ℕ → Result Action ScriptKind
action_of_three bricks word a b c =
    if is_text word (codes "fault") then mapped (λ p. Fault p.0 p.1.proc p.1.nth) (both (brick_at bricks a) (nth_request_at (fault_proc_at b) c)) else Err (no_action word)

-- the action that a word and the words behind it name
abbrev pub action_at : List BrickLine → List NamedVolfile → List ℕ → List (List ℕ) → Result Action ScriptKind
action_at bricks volfiles word [] = if is_text word (codes "heal") then Ok Heal else Err (no_action word)
action_at bricks volfiles word (a ∷ []) = action_of_one bricks volfiles word a
action_at bricks volfiles word (a ∷ b ∷ []) = action_of_two bricks word a b
action_at bricks volfiles word (a ∷ b ∷ c ∷ []) = action_of_three bricks word a b c
action_at bricks volfiles word (a ∷ b ∷ c ∷ d ∷ more) = Err (no_action word)

-- the nth request of a procedure to a brick
abbrev pub request_at : List BrickLine → List ℕ → List ℕ → List ℕ → Result Request ScriptKind
request_at bricks brick proc nth =
    mapped (λ p. record { brick = p.0; proc = p.1.proc; nth = p.1.nth }) (both (brick_at bricks brick) (nth_request_at (formed (proc_at proc)) nth))

-- before a request only a `down` or a `fault` of its own brick is allowed
abbrev pub may_stand_before : List ℕ → List ℕ → List (List ℕ) → Bool
may_stand_before brick word [] = false
may_stand_before brick word (a ∷ more) = (is_text word (codes "down") || is_text word (codes "fault")) && is_text a brick

abbrev pub kept_before : Bool → Result Action ScriptKind → Result Action ScriptKind
kept_before true action = action
kept_before false (Ok action) = Err BadWord
kept_before false (Err k) = Err (earlier BadWord k)

-- what is said before a request, and after it
abbrev pub said_before : Result Request ScriptKind → Result Action ScriptKind → Result (When × Action) ScriptKind
said_before request action = mapped (λ p. (Before p.0.brick p.0.proc p.0.nth, p.1)) (both request action)

abbrev pub said_after : Result Request ScriptKind → Result Action ScriptKind → Result (When × Action) ScriptKind
said_after request action = mapped (λ p. (After p.0.brick p.0.proc p.0.nth, p.1)) (both request action)

-- what follows `before`, and `after`: BRICK PROC N ACTION
abbrev pub before_at : List BrickLine → List NamedVolfile → List (List ℕ) → Result (When × Action) ScriptKind
before_at bricks volfiles [] = Err WordCount
before_at bricks volfiles (brick ∷ []) = Err WordCount
before_at bricks volfiles (brick ∷ proc ∷ []) = Err WordCount
before_at bricks volfiles (brick ∷ proc ∷ nth ∷ []) = Err WordCount
before_at bricks volfiles (brick ∷ proc ∷ nth ∷ word ∷ more) =
    said_before (request_at bricks brick proc nth) (kept_before (may_stand_before brick word more) (action_at bricks volfiles word more))

abbrev pub after_at : List BrickLine → List NamedVolfile → List (List ℕ) → Result (When × Action) ScriptKind
after_at bricks volfiles [] = Err WordCount
after_at bricks volfiles (brick ∷ []) = Err WordCount
after_at bricks volfiles (brick ∷ proc ∷ []) = Err WordCount
after_at bricks volfiles (brick ∷ proc ∷ nth ∷ []) = Err WordCount
after_at bricks volfiles (brick ∷ proc ∷ nth ∷ word ∷ more) = said_after (request_at bricks brick proc nth) (action_at bricks volfiles word more)

-- what follows `control`
abbrev pub control_at : List BrickLine → List NamedVolfile → List (List ℕ) → Result (When × Action) ScriptKind
control_at bricks volfiles [] = Err WordCount
control_at bricks volfiles (word ∷ more) =
    if is_text word (codes "before") then before_at bricks volfiles more
    else if is_text word (codes "after") then after_at bricks volfiles more
    else mapped (λ action. (Now, action)) (action_at bricks volfiles word more)
