use Rattle.std.proofs.Common.{◌≡◌, ℕ, true, sym, ◌∙◌, arith}
use Rattle.line_audit.specs.Linked.{due_as, has_connect}
use Rattle.line_audit.proofs.Wanting.{below_next}
use Rattle.line_audit.proofs.event_links.opened_is_met.Goals as goal

pub loop-graph-preserved : goal.loop-graph-preserved
loop-graph-preserved c =
    below_next (λ (g : ℕ). due_as c.args.plans.now c.args.tables.now c.args.known.now c.args.now g c.args.brick ≡ true → has_connect g c.args.brick c.args.items.now ≡ true) c.loop-graph.graph
    (c.is_met.ensures.0 c.if-not-is_met.false) c.loop-graph.invariant

pub returns-then-not-is_met : goal.returns-then-not-is_met
returns-then-not-is_met c = (λ no. absurd cc, λ all. sym c.if-not-is_met.true ∙ c.is_met.ensures.1 (all c.loop-graph.graph (omega arith)))
