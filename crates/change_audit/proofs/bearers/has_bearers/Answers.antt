use Rattle.std.proofs.Common.{◌≡◌, sym, ap, subst, ◌∙◌, arith, drop}
use Rattle.std.specs.Prelude.{ℕ, List}
use Rattle.std.specs.List.{AllByRecursion}
use Rattle.wire_xdr.specs.WireText.{input_text}
use Rattle.change_audit.specs.Bearing.{IsBearerThere}
use Rattle.change_audit.proofs.Requests.{first_is, op_long}
use Rattle.change_audit.proofs.Bearing.{have_bearers}
use Rattle.change_audit.proofs.bearers.has_bearers.Goals as goal

pub returns-clause-sound : goal.returns-clause-sound
returns-clause-sound c = λ yes.
    have_bearers c.args.log.now c.args.bricks.now c.args.plan.now c.args.call c.args.graph c.args.change c.args.number c.in-Some-text_in.text.now c.args.operation.now (drop 12 c.in-Some.bytes.now)
    c.args.bearers.now (c.are_apart.ensures.sound c.if-not-are_apart.false) (c.are_enough.ensures.0 c.if-not-are_enough.false) (c.in_ok-is_making.ensures.sound c.if-not-branch.false) c.in-Some-text_in.ensures.found
    (c.in_ok-yes.ensures.sound yes)

pub returns-then-not-are_apart-clause-complete : goal.returns-then-not-are_apart-clause-complete
returns-then-not-are_apart-clause-complete c = λ there. sym c.if-not-are_apart.true ∙ c.are_apart.ensures.complete there.rise

pub returns-then-not-are_enough-clause-complete : goal.returns-then-not-are_enough-clause-complete
returns-then-not-are_enough-clause-complete c = λ there. sym c.if-not-are_enough.true ∙ c.are_enough.ensures.1 there.enough

pub returns-in_default-clause-complete : goal.returns-in_default-clause-complete
returns-in_default-clause-complete c = λ there. absurd (c.in_default.ensures.none (input_text there.input) there.first_op)

pub returns-then-not-branch-clause-complete : goal.returns-then-not-branch-clause-complete
returns-then-not-branch-clause-complete c = λ there.
    let is = first_is c.args.bricks.now c.args.bearers.now c.in-Some.bytes.now (input_text there.input) c.in-Some.ensures.found there.first_op in
    sym c.if-not-branch.true ∙ c.in_ok-is_making.ensures.complete there.input there.legal is there.making

pub returns-in_default-text_in-clause-complete : goal.returns-in_default-text_in-clause-complete
returns-in_default-text_in-clause-complete c = λ there.
    let is = first_is c.args.bricks.now c.args.bearers.now c.in-Some.bytes.now (input_text there.input) c.in-Some.ensures.found there.first_op in
    let long = op_long c.args.graph c.args.change there.making.op there.input c.in-Some.bytes.now there.making.asked is in absurd (omega (arith, long, c.in_default-text_in.ensures.none))

pub returns-clause-complete : goal.returns-clause-complete
returns-clause-complete c = λ there.
    let is = first_is c.args.bricks.now c.args.bearers.now c.in-Some.bytes.now (input_text there.input) c.in-Some.ensures.found there.first_op in
    c.in_ok-yes.ensures.complete
    (subst (λ (text : List ℕ). AllByRecursion (IsBearerThere c.args.log.now c.args.bricks.now c.args.plan.now c.args.call c.args.graph c.args.change c.args.number text) c.args.bearers.now)
    (sym (c.in-Some-text_in.ensures.found ∙ ap (drop 12) is)) there.each)
