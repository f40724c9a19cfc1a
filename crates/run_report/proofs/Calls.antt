-- The calls that are shown, from a number on.
use Rattle.std.proofs.Common.{◌≡◌, refl, sym, ap, subst, ◌∙◌, arith}
use Rattle.std.specs.Prelude.{ℕ, suc, ◌<◌, ◌+◌, ◌-◌, List, [], ◌∷◌, ◌++◌, Option, None, Some, length}
use Rattle.std.specs.List.{range_with_len}
use Rattle.mount_log.specs.declared.logs.ReplyLine.{ReplyLine}
use Rattle.report_text.specs.declared.calls.ReportCall.{ReportCall}
use Rattle.run_report.specs.Reports.{NamesState, reply_to, shown_call, shown_numbers, with_call_shown}

joined : {X : Type 0} (xs : List X) (x : X) (rest : List X) → (xs ++ x ∷ []) ++ rest ≡ xs ++ x ∷ rest
joined [] x rest = refl
joined (y ∷ xs) x rest = ap (λ l. y ∷ l) (joined xs x rest)

module _ (n : NamesState) (replies : List ReplyLine) (index many : ℕ) (lt : index < many) where
  abbrev pub next : List ReportCall
  next = shown_numbers n replies (range_with_len (index + 1 + 1) (many - (index + 1)))

  step : (o : Option ReplyLine) → reply_to (index + 1) replies ≡ o → shown_numbers n replies (range_with_len (index + 1) (many - index)) ≡ with_call_shown n o next
  step o is =
      let e : many - index ≡ suc (many - (index + 1)) = omega (arith, lt) in
      ap (λ (k : ℕ). shown_numbers n replies (range_with_len (index + 1) k)) e ∙ ap (λ (r : Option ReplyLine). with_call_shown n r next) is

  pub none_shown : (shown all : List ReportCall) → reply_to (index + 1) replies ≡ None → shown ++ shown_numbers n replies (range_with_len (index + 1) (many - index)) ≡ all → shown ++ next ≡ all
  none_shown shown all none is = ap (λ (l : List ReportCall). shown ++ l) (sym (step None none)) ∙ is

  pub one_shown : (shown all : List ReportCall) (r : ReplyLine) (c : ReportCall) → reply_to (index + 1) replies ≡ Some r → c ≡ shown_call n r
      → shown ++ shown_numbers n replies (range_with_len (index + 1) (many - index)) ≡ all → (shown ++ c ∷ []) ++ next ≡ all
  one_shown shown all r c there made is =
      joined shown c next ∙ ap (λ (x : ReportCall). shown ++ x ∷ next) made ∙ ap (λ (l : List ReportCall). shown ++ l) (sym (step (Some r) there)) ∙ is
