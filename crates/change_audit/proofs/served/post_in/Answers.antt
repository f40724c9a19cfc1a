use Rattle.std.proofs.Common.{◌≡◌, ◌≢◌, subst}
use Rattle.std.specs.Prelude.{Option, None, IfSome, IfNone}
use Rattle.std.proofs.lemmas.Option.{IfSome_then}
use Rattle.fop_types.specs.declared.messages.Input.{Input}
use Rattle.wire_xdr.specs.WireText.{input_text, IsInput}
use Rattle.change_audit.proofs.Requests.{post_found, no_post_found}
use Rattle.change_audit.proofs.Texts.{post_text}
use Rattle.change_audit.proofs.served.post_in.Goals as goal

pub returns-in-Some-clause-found : goal.returns-in-Some-clause-found
returns-in-Some-clause-found c =
    let is : c.args.bytes.now ≡ input_text c.in-Some.input = subst (λ (f : Option Input). IfSome f (λ x. c.args.bytes.now ≡ input_text x)) c.in-Some.is c.in_ok-input.ensures.found in
    IfSome_then c.post_asked-found.result c.post_asked-found.ensures.found (λ wind post. post_text wind c.args.graph c.args.change c.in-Some.input c.args.bytes.now is post)

pub returns-in-Some-clause-complete : goal.returns-in-Some-clause-complete
returns-in-Some-clause-complete c =
    let is : c.args.bytes.now ≡ input_text c.in-Some.input = subst (λ (f : Option Input). IfSome f (λ x. c.args.bytes.now ≡ input_text x)) c.in-Some.is c.in_ok-input.ensures.found in
    let legal : IsInput c.in-Some.input = subst (λ (f : Option Input). IfSome f (λ x. IsInput x)) c.in-Some.is c.in_ok-input.ensures.legal in
    post_found c.in-Some.input c.args.bytes.now is legal c.post_asked-found.result c.args.graph c.args.change c.post_asked-found.ensures.found c.post_asked-found.ensures.none

pub returns-in-None-clause-complete : goal.returns-in-None-clause-complete
returns-in-None-clause-complete c =
    let none : (x : Input) → IsInput x → c.args.bytes.now ≢ input_text x =
    subst (λ (f : Option Input). IfNone f ((x : Input) → IsInput x → c.args.bytes.now ≢ input_text x)) c.in-None.is c.in_ok-input.ensures.none in
    no_post_found c.args.bytes.now None c.args.graph c.args.change none
