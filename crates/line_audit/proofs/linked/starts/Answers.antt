use Rattle.std.proofs.Common.{refl, sym, ◌∙◌}
use Rattle.line_audit.specs.declared.effects.Effect.TheVariants as effect
use Rattle.line_audit.proofs.Passing.{known_first}
use Rattle.line_audit.proofs.Wanting.{start_linked, start_back}
use Rattle.line_audit.proofs.linked.starts.Goals as goal

pub returns-clause-linked : goal.returns-clause-linked
returns-clause-linked c = λ _.
    start_linked c.args.script.now c.args.plans.now c.args.log.now c.args.tables.now c.requires.tables c.requires.read c.args.known.now
    (record { number = 0; newest = 1; effect = effect.Started }) c.args.items.now c.requires.links refl refl c.requires.newest refl c.requires.items (c.is_linked.ensures.sound c.if-not-is_linked.false)

pub returns-clause-known : goal.returns-clause-known
returns-clause-known c = λ _.
    known_first c.requires.read c.args.log.now c.args.items.now c.args.known.now c.pass.new.self c.requires.items c.requires.links c.requires.closed c.in_ok-pass.ensures.links c.in_ok-pass.ensures.closed
    c.in_ok-pass.ensures.newest

pub returns-then-not-is_linked-clause-complete : goal.returns-then-not-is_linked-clause-complete
returns-then-not-is_linked-clause-complete c = λ slots order linked.
    sym c.if-not-is_linked.true
    ∙ c.is_linked.ensures.complete slots order (start_back c.args.script.now c.args.plans.now c.args.log.now c.args.tables.now c.requires.tables c.requires.read c.args.known.now
    (record { number = 0; newest = 1; effect = effect.Started }) c.args.items.now c.requires.links refl refl c.requires.newest refl c.requires.items linked)
