use Rattle.std.proofs.Common.{◌≡◌, sym, ◌∙◌}
use Rattle.std.specs.Prelude.{true, false}
use Rattle.std.proofs.lemmas.Result.{IfOk-weaker}
use Rattle.change_audit.proofs.copies.copies_are_made.Goals as goal

pub returns-clause-none : goal.returns-clause-none
returns-clause-none c = IfOk-weaker c.are_all_made-yes.result _ _ (λ yes by none copied skipped. by none) c.are_all_made-yes.ensures.none

pub returns-then-not-are_numbered-clause-none : goal.returns-then-not-are_numbered-clause-none
returns-then-not-are_numbered-clause-none c = λ none copied skipped.
    let e : false ≡ true = sym c.if-not-are_numbered.true ∙ c.are_numbered.ensures.complete copied skipped in absurd cc
