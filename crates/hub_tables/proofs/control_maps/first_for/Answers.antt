use Rattle.std.proofs.Common.{sym, ◌∙◌}
use Rattle.hub_tables.proofs.Ranks.{first_is, first_is_other}
use Rattle.hub_tables.proofs.control_maps.first_for.Goals as goal

pub returns-then-eq : goal.returns-then-eq
returns-then-eq g c = sym (first_is c.args.request c.args.map.now.entries _ _ (sym (c.range.ensures.between tt) ∙ c.in-Some.ensures.steps) (sym c.eq.ensures ∙ c.if-eq.true))

pub returns-else-eq : goal.returns-else-eq
returns-else-eq g c = sym (first_is_other c.args.request c.args.map.now _ _ _ c.in-Some.ensures.steps (c.range.ensures.in_range tt) (sym c.eq.ensures ∙ c.if-eq.false))
