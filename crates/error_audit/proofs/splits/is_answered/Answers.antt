use Rattle.std.proofs.Common.{◌≡◌, sym, subst}
use Rattle.std.specs.Prelude.{ℕ, List}
use Rattle.std.proofs.lemmas.Result.{IfOk-weaker}
use Rattle.fop_types.specs.declared.cells.Cell.{Cell}
use Rattle.error_audit.specs.Finding.{ArePlaces}
use Rattle.error_audit.proofs.splits.is_answered.Goals as goal

pub returns-clause-complete : goal.returns-clause-complete
returns-clause-complete c =
    let own : ArePlaces c.args.phase.now.cells c.args.rows.now c.in_ok-places.places.items =
    subst (λ (l : List Cell). ArePlaces l c.args.rows.now c.in_ok-places.places.items) c.as_slice.ensures c.in_ok-places.ensures in
    let are : ArePlaces c.args.phase.now.cells c.args.rows.now c.as_slice-2.result.now =
    subst (λ (l : List ℕ). ArePlaces c.args.phase.now.cells c.args.rows.now l) (sym c.as_slice-2.ensures.value) own in
    IfOk-weaker c.is_answered_at-yes.result _ _ (λ yes by sized marks answered. by (answered.rows_are c.as_slice-2.result.now are) (answered.no_source c.as_slice-2.result.now are) marks)
    c.is_answered_at-yes.ensures.complete
