-- One line more of a text.
use Rattle.std.proofs.Common.{◌≡◌, ℕ, ◌≤◌, List, ◌∷◌, length, drop, Result, Ok, Err, sym, ap, ◌∙◌}
use Rattle.std.proofs.lemmas.List.{drop_all}
use Rattle.volfile.specs.TextLines.{lines_of, line_after}
use Rattle.script_lang.specs.declared.drafts.Reading.{Reading}
use Rattle.script_lang.specs.declared.errors.ScriptError.{ScriptError}
use Rattle.script_lang.specs.declared.errors.ScriptError.TheVariants.{At}
use Rattle.script_lang.specs.declared.errors.ScriptKind.{ScriptKind}
use Rattle.script_lang.specs.declared.scripts.Script.{Script}
use Rattle.script_lang.specs.ScriptText.{line_read, lines_read, read_on, text_ended}

-- the line is refused, and so is the text
pub refused : (wanted : Result Script ScriptError) (left rest : List (List ℕ)) (line : List ℕ) (r : Reading) (number after : ℕ) (kind : ScriptKind)
    → lines_read left r number ≡ wanted → left ≡ line ∷ rest → after ≡ line_after number → line_read r after line ≡ Err kind → wanted ≡ Err (At after kind)
refused wanted left rest line r number after kind whole cut next not_taken =
    sym whole ∙ ap (λ ls. lines_read ls r number) cut ∙ ap (λ n. read_on (line_read r n line) n (λ s. lines_read rest s n)) (sym next) ∙ ap (λ read. read_on read after (λ s. lines_read rest s after)) not_taken

-- the line is taken
pub taken : (wanted : Result Script ScriptError) (left rest : List (List ℕ)) (line : List ℕ) (r s : Reading) (number after : ℕ)
    → lines_read left r number ≡ wanted → left ≡ line ∷ rest → after ≡ line_after number → line_read r after line ≡ Ok s → lines_read rest s after ≡ wanted
taken wanted left rest line r s number after whole cut next took =
    sym (ap (λ n. read_on (line_read r n line) n (λ t. lines_read rest t n)) (sym next) ∙ ap (λ read. read_on read after (λ t. lines_read rest t after)) took) ∙ ap (λ ls. lines_read ls r number) (sym cut) ∙ whole

-- all lines are taken
pub ended : (wanted : Result Script ScriptError) (text : List ℕ) (at : ℕ) (r : Reading) (number : ℕ) → length text ≤ at → lines_read (lines_of (drop at text)) r number ≡ wanted
    → text_ended r number ≡ wanted
ended wanted text at r number end whole = ap (λ bs. lines_read (lines_of bs) r number) (sym (drop_all at text end)) ∙ whole
