-- The lines of a history that grows at its end.
use Rattle.std.proofs.Common.{◌≡◌, ℕ, ◌+◌, ◌<◌, List, [], ◌∷◌, ◌++◌, length, take, get_or, ap, sym, ◌∙◌, append_assoc, arith}
use Rattle.std.proofs.lemmas.Grind.{common_steps}
use Rattle.std.proofs.lemmas.List.{take_more, length-take-le}
use Rattle.report_text.specs.ReportText.{entry_line, entry_lines}

pub entry_lines_push : (i : ℕ) (es : List (ℕ × ℕ)) (e : ℕ × ℕ) → entry_lines i (es ++ e ∷ []) ≡ entry_lines i es ++ entry_line (i + length es) e
entry_lines_push i [] e = grind (arith, common_steps)
entry_lines_push i (x ∷ es) e = grind (arith, common_steps, entry_lines_push (i + 1) es e)

-- one line more, for the entry at the place after those that are written
pub entry_lines_next : (es : List (ℕ × ℕ)) (at : ℕ) (d : ℕ × ℕ) → at < length es → entry_lines 1 (take (at + 1) es) ≡ entry_lines 1 (take at es) ++ entry_line (at + 1) (get_or es at d)
entry_lines_next es at d h =
    let few : 1 + length (take at es) ≡ at + 1 = omega (arith, length-take-le at es) in
    ap (entry_lines 1) (take_more es at d h) ∙ entry_lines_push 1 (take at es) (get_or es at d)
    ∙ ap (λ (n : ℕ). entry_lines 1 (take at es) ++ entry_line n (get_or es at d)) few

-- the same where a text has those lines so far
pub text_with_entry : (text old new : List ℕ) (es : List (ℕ × ℕ)) (at : ℕ) (d : ℕ × ℕ) → at < length es → old ≡ text ++ entry_lines 1 (take at es) → new ≡ old ++ entry_line (at + 1) (get_or es at d) → new ≡ text ++ entry_lines 1 (take (at + 1) es)
text_with_entry text old new es at d h so_far line =
    line ∙ ap (λ (t : List ℕ). t ++ entry_line (at + 1) (get_or es at d)) so_far
    ∙ append_assoc text _ _ ∙ ap (λ (t : List ℕ). text ++ t) (sym (entry_lines_next es at d h))
