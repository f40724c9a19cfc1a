use Rattle.std.proofs.Common.{◌≡◌, sym, subst, ◌∙◌}
use Rattle.std.specs.Prelude.{ℕ, true, false, Option, None, Some, IfSome}
use Rattle.fop_types.specs.declared.messages.Input.TheVariants.{Request}
use Rattle.wire_xdr.specs.WireText.{input_text}
use Rattle.change_audit.proofs.Requests.{served_input, one_counted, served_on}
use Rattle.change_audit.specs.Served.{HasText}
use Rattle.change_audit.proofs.Texts.{served}
use Rattle.change_audit.proofs.served.is_served.Goals as goal

pub returns-clause-sound : goal.returns-clause-sound
returns-clause-sound c = λ yes.
    let has : HasText c.in-Some-2.wind c.args.text.now c.in-Some.bytes.now =
    subst (λ (f : Option ℕ). IfSome f (λ w. HasText w c.args.text.now c.in-Some.bytes.now)) c.in-Some-2.is c.in_ok-wind.ensures.found in
    served c.args.log.now c.args.bricks.now c.args.bearer.brick c.args.bearer.op c.args.call c.in-Some-2.wind c.in-Some.bytes.now c.args.text.now
    c.in-Some.ensures.found has (c.is_of_call.ensures.sound c.if-not-is_of_call.false) (c.in_ok-yes.ensures.sound yes)

pub returns-in_default-clause-complete : goal.returns-in_default-clause-complete
returns-in_default-clause-complete c = λ graph req has s.
    absurd (c.in_default.ensures.none (input_text (Request s.served.wind graph req)) (served_input c.args.log.now c.args.bricks.now c.args.bearer.brick c.args.bearer.op c.args.call graph req s))

pub returns-in_default-2-clause-complete : goal.returns-in_default-2-clause-complete
returns-in_default-2-clause-complete c = λ graph req has s.
    let is = one_counted c.args.bricks.now c.args.bearer.brick c.args.bearer.op.taken c.in-Some.bytes.now (input_text (Request s.served.wind graph req)) c.in-Some.ensures.found (served_input c.args.log.now c.args.bricks.now c.args.bearer.brick c.args.bearer.op c.args.call graph req s) in
    let e : ◌≡◌ {A = Option ℕ} None (Some s.served.wind) = sym c.in_default-2.is ∙ c.in_ok-wind.ensures.complete s.served.wind graph req s.legal has is in absurd cc

pub returns-then-not-is_of_call-clause-complete : goal.returns-then-not-is_of_call-clause-complete
returns-then-not-is_of_call-clause-complete c = λ graph req has s.
    let is = one_counted c.args.bricks.now c.args.bearer.brick c.args.bearer.op.taken c.in-Some.bytes.now (input_text (Request s.served.wind graph req)) c.in-Some.ensures.found (served_input c.args.log.now c.args.bricks.now c.args.bearer.brick c.args.bearer.op c.args.call graph req s) in
    let on = served_on c.args.log.now c.args.bricks.now c.args.bearer.brick c.args.bearer.op c.args.call graph req s _ c.in-Some-2.wind c.in-Some-2.is (c.in_ok-wind.ensures.complete s.served.wind graph req s.legal has is) in
    let e : false ≡ true = sym c.if-not-is_of_call.true ∙ c.is_of_call.ensures.exact.1 on.0 in absurd cc

pub returns-clause-complete : goal.returns-clause-complete
returns-clause-complete c = λ graph req has s.
    let is = one_counted c.args.bricks.now c.args.bearer.brick c.args.bearer.op.taken c.in-Some.bytes.now (input_text (Request s.served.wind graph req)) c.in-Some.ensures.found (served_input c.args.log.now c.args.bricks.now c.args.bearer.brick c.args.bearer.op c.args.call graph req s) in
    let on = served_on c.args.log.now c.args.bricks.now c.args.bearer.brick c.args.bearer.op c.args.call graph req s _ c.in-Some-2.wind c.in-Some-2.is (c.in_ok-wind.ensures.complete s.served.wind graph req s.legal has is) in
    c.in_ok-yes.ensures.complete s.counted on.1 on.2
