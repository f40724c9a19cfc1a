use Rattle.std.proofs.Common.{sym, ◌∙◌}
use Rattle.queue_index.proofs.Found.{first_is, none_of, none_at_all}
use Rattle.queue_index.proofs.place.first_place.Goals as goal

pub returns-in_default-clause-none : goal.returns-in_default-clause-none
returns-in_default-clause-none c = none_at_all c.args.places.now c.args.key c.args.from _ c.in_default.ensures.steps.0 (c.range.ensures.in_range tt)

pub returns-then-eq-clause-first : goal.returns-then-eq-clause-first
returns-then-eq-clause-first c = first_is c.args.places.now c.args.key c.args.from c.in-Some.found.now _ _ c.in-Some.ensures.steps (c.range.ensures.in_range tt) (sym c.eq.ensures ∙ c.if-eq.true)

pub returns-clause-none : goal.returns-clause-none
returns-clause-none c = none_of c.args.places.now c.args.key c.args.from c.in-Some.found.now _ _ c.in-Some.ensures.steps (c.range.ensures.in_range tt) (sym c.eq.ensures ∙ c.if-eq.false)
