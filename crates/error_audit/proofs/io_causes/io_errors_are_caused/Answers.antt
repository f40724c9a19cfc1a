use Rattle.std.proofs.Common.{◌≡◌, sym, ◌∙◌}
use Rattle.std.specs.Prelude.{true, false}
use Rattle.std.proofs.lemmas.Result.{IfOk-weaker}
use Rattle.error_audit.proofs.Unreached.{all_found}
use Rattle.error_audit.proofs.io_causes.io_errors_are_caused.Goals as goal

pub returns-clause-plain : goal.returns-clause-plain
returns-clause-plain c =
    IfOk-weaker c.all_caused-yes.result _ _ (λ yes by plain. absurd (let e : false ≡ true = sym c.if-have_none.false ∙ c.have_none.ensures.exact.1 plain in cc)) c.all_caused-yes.ensures.complete

pub returns-clause-never : goal.returns-clause-never
returns-clause-never c =
    IfOk-weaker c.all_caused-yes.result _ _
    (λ yes by known. by (all_found c.args.script.now c.args.plans.now c.args.log.now c.in_ok-tables.tables c.in_ok-tables.ensures c.args.log.now.replies known)) c.all_caused-yes.ensures.complete
