use Rattle.std.proofs.Common.{sym, subst, ◌∙◌, arith}
use Rattle.std.specs.Prelude.{ℕ, ◌<◌, ◌^◌}
use Rattle.line_audit.proofs.Passing.{known_next}
use Rattle.line_audit.proofs.Wanting.{event_linked, event_back, few_behind}
use Rattle.line_audit.proofs.linked.passes.Goals as goal

pub returns-clause-linked : goal.returns-clause-linked
returns-clause-linked c = λ _.
    event_linked c.args.script.now c.args.plans.now c.args.log.now c.args.tables.now c.requires.tables c.requires.read c.args.k c.args.known.now
    (record { number = c.args.number; newest = c.in-Some.newest; effect = c.args.effect }) c.args.items.now c.requires.known c.requires.effect c.requires.number c.in-Some.ensures.next c.requires.items
    (c.is_linked.ensures.sound c.if-not-is_linked.false)

pub returns-clause-known : goal.returns-clause-known
returns-clause-known c = λ _.
    known_next c.requires.read c.args.log.now c.args.k c.in-Some.newest c.args.effect c.args.items.now c.args.known.now c.pass.new.self c.requires.effect c.requires.items c.in-Some.ensures.next c.requires.known
    c.in_ok-pass.ensures.links c.in_ok-pass.ensures.closed c.in_ok-pass.ensures.newest

pub returns-in_default-clause-complete : goal.returns-in_default-clause-complete
returns-in_default-clause-complete c = λ few slots order linked.
    let low = few_behind c.args.log.now c.args.k c.args.known.now c.args.effect few c.requires.known c.requires.effect in absurd (omega (arith, low, c.in_default.ensures.none))

pub returns-then-not-is_linked-clause-complete : goal.returns-then-not-is_linked-clause-complete
returns-then-not-is_linked-clause-complete c = λ few slots order linked.
    let low = few_behind c.args.log.now c.args.k c.args.known.now c.args.effect few c.requires.known c.requires.effect in
    sym c.if-not-is_linked.true
    ∙ c.is_linked.ensures.complete slots order (event_back c.args.script.now c.args.plans.now c.args.log.now c.args.tables.now c.requires.tables c.requires.read c.args.k c.args.known.now
    (record { number = c.args.number; newest = c.in-Some.newest; effect = c.args.effect }) c.args.items.now c.requires.known c.requires.effect c.requires.number c.in-Some.ensures.next c.requires.items
    (subst (λ (n : ℕ). n < 2 ^ 32) (sym c.in-Some.ensures.next) low) linked)
