use Rattle.std.proofs.Common.{sym, ap, ◌∙◌}
use Rattle.std.specs.Prelude.{ℕ, ◌==◌, List}
use Rattle.std.specs.List.{list_any}
use Rattle.change_audit.specs.CallGraphs.{set_for}
use Rattle.change_audit.proofs.SetSearch.{set_next, set_found, none_found}
use Rattle.change_audit.proofs.call_graphs.set_among.Goals as goal

pub returns-then-contains : goal.returns-then-contains
returns-then-contains c =
    set_found c.args.plan.now.sets c.as_slice-set-items.result.now c.loop-set.set-index c.args.brick c.as_slice-set-items.ensures c.set-item.result (set_for c.args.plan.now.sets c.args.brick) c.loop-set-test.true c.set-item.is
    (ap (λ (l : List ℕ). list_any (λ b. b == c.args.brick) l) (sym c.as_slice.ensures) ∙ sym c.contains.ensures.value ∙ c.if-contains.true) c.loop-set.invariant

pub loop-set-preserved : goal.loop-set-preserved
loop-set-preserved c =
    set_next c.args.plan.now.sets c.as_slice-set-items.result.now c.loop-set.set-index c.args.brick c.as_slice-set-items.ensures c.set-item.result (set_for c.args.plan.now.sets c.args.brick) c.loop-set-test.true c.set-item.is
    (ap (λ (l : List ℕ). list_any (λ b. b == c.args.brick) l) (sym c.as_slice.ensures) ∙ sym c.contains.ensures.value ∙ c.if-contains.false) c.loop-set.invariant
