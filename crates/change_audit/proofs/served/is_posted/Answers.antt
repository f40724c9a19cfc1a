use Rattle.std.proofs.Common.{◌≡◌, sym, subst, ◌∙◌}
use Rattle.std.specs.Prelude.{ℕ, true, false, Option, None, Some, IfSome}
use Rattle.fop_types.specs.declared.messages.BrickReq.TheVariants.{Post}
use Rattle.fop_types.specs.declared.messages.Input.TheVariants.{Request}
use Rattle.wire_xdr.specs.WireText.{input_text}
use Rattle.change_audit.proofs.Requests.{post_input, post_on, posted_on}
use Rattle.change_audit.specs.Served.{IsPostOn}
use Rattle.change_audit.proofs.Texts.{posted}
use Rattle.change_audit.proofs.served.is_posted.Goals as goal

pub returns-clause-sound : goal.returns-clause-sound
returns-clause-sound c = λ yes.
    let post : IsPostOn c.in-Some-2.wind c.args.graph c.args.change c.in-Some.bytes.now =
    subst (λ (f : Option ℕ). IfSome f (λ w. IsPostOn w c.args.graph c.args.change c.in-Some.bytes.now)) c.in-Some-2.is c.in_ok-wind.ensures.found in
    posted c.args.log.now c.args.bricks.now c.args.bearer.brick c.args.bearer.post c.args.call c.args.graph c.args.change c.args.bearer.op.event c.in-Some-2.wind c.in-Some.bytes.now
    c.in-Some.ensures.found post (c.is_sent_since.ensures.sound c.if-not-is_sent_since.false) (c.in_ok-yes.ensures.sound yes)

pub returns-in_default-clause-complete : goal.returns-in_default-clause-complete
returns-in_default-clause-complete c = λ s.
    absurd (c.in_default.ensures.none (input_text (Request s.posted.wind c.args.graph (Post c.args.change s.posted.cells s.posted.mask))) (post_input c.args.log.now c.args.bricks.now c.args.bearer.brick c.args.bearer.post c.args.call c.args.graph c.args.change c.args.bearer.op.event s))

pub returns-in_default-2-clause-complete : goal.returns-in_default-2-clause-complete
returns-in_default-2-clause-complete c = λ s.
    let e : ◌≡◌ {A = Option ℕ} None (Some s.posted.wind) = sym c.in_default-2.is ∙ c.in_ok-wind.ensures.complete s.posted.wind (post_on c.args.log.now c.args.bricks.now c.args.bearer.brick c.args.bearer.post c.args.call c.args.graph c.args.change c.args.bearer.op.event s c.in-Some.bytes.now c.in-Some.ensures.found) s.legal in absurd cc

pub returns-then-not-is_sent_since-clause-complete : goal.returns-then-not-is_sent_since-clause-complete
returns-then-not-is_sent_since-clause-complete c = λ s.
    let on = posted_on c.args.log.now c.args.bricks.now c.args.bearer.brick c.args.bearer.post c.args.call c.args.graph c.args.change c.args.bearer.op.event s _ c.in-Some-2.wind c.in-Some-2.is (c.in_ok-wind.ensures.complete s.posted.wind (post_on c.args.log.now c.args.bricks.now c.args.bearer.brick c.args.bearer.post c.args.call c.args.graph c.args.change c.args.bearer.op.event s c.in-Some.bytes.now c.in-Some.ensures.found) s.legal) in
    let e : false ≡ true = sym c.if-not-is_sent_since.true ∙ c.is_sent_since.ensures.exact.1 on.0 in absurd cc

pub returns-clause-complete : goal.returns-clause-complete
returns-clause-complete c = λ s.
    let on = posted_on c.args.log.now c.args.bricks.now c.args.bearer.brick c.args.bearer.post c.args.call c.args.graph c.args.change c.args.bearer.op.event s _ c.in-Some-2.wind c.in-Some-2.is (c.in_ok-wind.ensures.complete s.posted.wind (post_on c.args.log.now c.args.bricks.now c.args.bearer.brick c.args.bearer.post c.args.call c.args.graph c.args.change c.args.bearer.op.event s c.in-Some.bytes.now c.in-Some.ensures.found) s.legal) in
    c.in_ok-yes.ensures.complete s.counted on.1 on.2
