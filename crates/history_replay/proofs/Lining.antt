-- The lines of calls, one after another.
use Rattle.std.proofs.Common.{◌≡◌, ◌∷◌, ◌++◌, refl, sym, ap, subst, ◌∙◌, ℕ, ◌+◌, ◌<◌, ◌≤◌, ◌==◌, List, [], length, take, drop, get_or, arith, append_assoc, append-nil}
use Rattle.std.specs.Prelude.{Bool, true, false, cond}
use Rattle.std.proofs.lemmas.List.{drop_more, drop_all}
use Rattle.report_text.specs.declared.calls.ReportCall.{ReportCall}
use Rattle.script_lang.specs.declared.scripts.CallLine.{CallLine}
use Rattle.script_lang.specs.declared.scripts.Phase.{Phase}
use Rattle.script_lang.specs.declared.scripts.Script.{Script}
use Rattle.history_replay.specs.Reports.{IsCallOf, AreCallsOf, AreTheseLines, AreInPhases, of_session}

first_at : {X : Type 0} (xs : List X) (i : ℕ) (x : X) → i < length xs → x ≡ get_or xs i x → drop i xs ≡ x ∷ drop (i + 1) xs
first_at {X} xs i x within read = drop_more xs i x within ∙ ap (λ (y : X). y ∷ drop (i + 1) xs) (sym read)

pub calls_next : (script : Script) (lines : List CallLine) (calls : List ReportCall) (i : ℕ) (line : CallLine) (c : ReportCall) → i < length lines → i < length calls
    → line ≡ get_or lines i line → c ≡ get_or calls i c → IsCallOf script (i + 1) line c
    → (AreCallsOf script (i + 1) (drop i lines) (drop i calls) → AreCallsOf script 1 lines calls)
    → AreCallsOf script (i + 1 + 1) (drop (i + 1) lines) (drop (i + 1) calls) → AreCallsOf script 1 lines calls
calls_next script lines calls i line c in_lines in_calls read_line read_call is so_far rest =
    so_far
    (subst (λ (l : List CallLine). AreCallsOf script (i + 1) l (drop i calls)) (sym (first_at lines i line in_lines read_line))
    (subst (AreCallsOf script (i + 1) (line ∷ drop (i + 1) lines)) (sym (first_at calls i c in_calls read_call)) (is, rest)))

pub calls_all : (script : Script) (lines : List CallLine) (calls : List ReportCall) (i : ℕ) → length lines ≤ i → length lines ≡ length calls
    → (AreCallsOf script (i + 1) (drop i lines) (drop i calls) → AreCallsOf script 1 lines calls) → AreCallsOf script 1 lines calls
calls_all script lines calls i past long so_far =
    so_far
    (subst (λ (l : List CallLine). AreCallsOf script (i + 1) l (drop i calls)) (sym (drop_all i lines past))
    (subst (AreCallsOf script (i + 1) []) (sym (drop_all i calls (omega (arith, past, long)))) tt))

-- ---- the lines of a session

session_first : (session : ℕ) (line : CallLine) (lines : List CallLine) (here : Bool) → (line.session == session) ≡ here
    → of_session session (line ∷ lines) ≡ cond here (line ∷ of_session session lines) (of_session session lines)
session_first session line lines here is = ap (λ (b : Bool). cond b (line ∷ of_session session lines) (of_session session lines)) is

pub session_kept : (session : ℕ) (lines : List CallLine) (i : ℕ) (line : CallLine) (found all : List CallLine) → i < length lines → line ≡ get_or lines i line
    → (line.session == session) ≡ true → found ++ of_session session (drop i lines) ≡ all
    → (found ++ line ∷ []) ++ of_session session (drop (i + 1) lines) ≡ all
session_kept session lines i line found all within read same so_far =
    let first : of_session session (drop i lines) ≡ line ∷ of_session session (drop (i + 1) lines) =
    ap (of_session session) (first_at lines i line within read) ∙ session_first session line (drop (i + 1) lines) true same in
    append_assoc found (line ∷ []) (of_session session (drop (i + 1) lines)) ∙ ap (λ (l : List CallLine). found ++ l) (sym first) ∙ so_far

pub session_skipped : (session : ℕ) (lines : List CallLine) (i : ℕ) (line : CallLine) (found all : List CallLine) → i < length lines → line ≡ get_or lines i line
    → (line.session == session) ≡ false → found ++ of_session session (drop i lines) ≡ all
    → found ++ of_session session (drop (i + 1) lines) ≡ all
session_skipped session lines i line found all within read other so_far =
    let first : of_session session (drop i lines) ≡ of_session session (drop (i + 1) lines) =
    ap (of_session session) (first_at lines i line within read) ∙ session_first session line (drop (i + 1) lines) false other in
    ap (λ (l : List CallLine). found ++ l) (sym first) ∙ so_far

-- ---- phases

pub begins : (lines first calls phase : List CallLine) (count : ℕ) → first ≡ take count lines → count ≡ length phase → calls ≡ phase → AreTheseLines first calls
    → AreTheseLines (take (length phase) lines) phase
begins lines first calls phase count first_is count_is calls_are these =
    let lines_are : first ≡ take (length phase) lines = first_is ∙ ap (λ (n : ℕ). take n lines) count_is in
    subst (λ (l : List CallLine). AreTheseLines l phase) lines_are (subst (AreTheseLines first) calls_are these)

pub phases_next : (lines rest : List CallLine) (phases : List Phase) (i : ℕ) (phase : Phase) → i < length phases → phase ≡ get_or phases i phase
    → AreTheseLines (take (length phase.calls) rest) phase.calls
    → (AreInPhases rest (drop i phases) → AreInPhases lines phases)
    → AreInPhases (drop (length phase.calls) rest) (drop (i + 1) phases) → AreInPhases lines phases
phases_next lines rest phases i phase within read these so_far later =
    so_far (subst (AreInPhases rest) (sym (first_at phases i phase within read)) (these, later))

pub phases_all : (lines rest : List CallLine) (phases : List Phase) (i : ℕ) → length phases ≤ i → rest ≡ []
    → (AreInPhases rest (drop i phases) → AreInPhases lines phases) → AreInPhases lines phases
phases_all lines rest phases i past none so_far = so_far (subst (AreInPhases rest) (sym (drop_all i phases past)) none)
