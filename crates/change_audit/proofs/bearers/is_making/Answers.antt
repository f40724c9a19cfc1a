use Rattle.std.proofs.Common.{◌≡◌, ◌≢◌, sym, subst}
use Rattle.std.specs.Prelude.{Option, IfSome, IfNone}
use Rattle.fop_types.specs.declared.messages.Input.{Input}
use Rattle.wire_xdr.specs.WireText.{input_text, IsInput}
use Rattle.change_audit.specs.Bearing.{IsMakingIn}
use Rattle.change_audit.proofs.Reading.{that_input}
use Rattle.change_audit.proofs.Texts.{making}
use Rattle.change_audit.proofs.bearers.is_making.Goals as goal

pub returns-in-Some-clause-sound : goal.returns-in-Some-clause-sound
returns-in-Some-clause-sound c = λ yes.
    let is : c.args.bytes.now ≡ input_text c.in-Some.input = subst (λ (f : Option Input). IfSome f (λ x. c.args.bytes.now ≡ input_text x)) c.in-Some.is c.in_ok-input.ensures.found in
    making c.args.graph c.args.change c.args.operation.now c.in-Some.input c.args.bytes.now is (c.is_made_by-yes.ensures.sound yes)

pub returns-in-Some-clause-complete : goal.returns-in-Some-clause-complete
returns-in-Some-clause-complete c = λ x legal text making_x.
    let is : c.args.bytes.now ≡ input_text c.in-Some.input = subst (λ (f : Option Input). IfSome f (λ x. c.args.bytes.now ≡ input_text x)) c.in-Some.is c.in_ok-input.ensures.found in
    let own : IsInput c.in-Some.input = subst (λ (f : Option Input). IfSome f (λ x. IsInput x)) c.in-Some.is c.in_ok-input.ensures.legal in
    c.is_made_by-yes.ensures.complete (subst (IsMakingIn c.args.graph c.args.change c.args.operation.now) (sym (that_input c.in-Some.input x c.args.bytes.now is own legal text)) making_x)

pub returns-in-None-clause-complete : goal.returns-in-None-clause-complete
returns-in-None-clause-complete c = λ x legal text making_x.
    let none : (x : Input) → IsInput x → c.args.bytes.now ≢ input_text x =
    subst (λ (f : Option Input). IfNone f ((x : Input) → IsInput x → c.args.bytes.now ≢ input_text x)) c.in-None.is c.in_ok-input.ensures.none in
    absurd (none x legal text)
