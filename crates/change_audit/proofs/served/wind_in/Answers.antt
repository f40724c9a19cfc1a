use Rattle.std.proofs.Common.{◌≡◌, ◌≢◌, subst}
use Rattle.std.specs.Prelude.{Option, None, IfSome, IfNone}
use Rattle.std.proofs.lemmas.Option.{IfSome_then}
use Rattle.fop_types.specs.declared.messages.Input.{Input}
use Rattle.wire_xdr.specs.WireText.{input_text, IsInput}
use Rattle.change_audit.proofs.Requests.{wind_found, nothing_found}
use Rattle.change_audit.proofs.Texts.{on_wind}
use Rattle.change_audit.proofs.served.wind_in.Goals as goal

pub returns-in-Some-clause-found : goal.returns-in-Some-clause-found
returns-in-Some-clause-found c =
    let is : c.args.bytes.now ≡ input_text c.in-Some.input = subst (λ (f : Option Input). IfSome f (λ x. c.args.bytes.now ≡ input_text x)) c.in-Some.is c.in_ok-input.ensures.found in
    IfSome_then c.wind_of-found.result c.wind_of-found.ensures.found (λ wind on. on_wind wind c.in-Some.input c.args.bytes.now is on)

pub returns-in-Some-clause-complete : goal.returns-in-Some-clause-complete
returns-in-Some-clause-complete c =
    let is : c.args.bytes.now ≡ input_text c.in-Some.input = subst (λ (f : Option Input). IfSome f (λ x. c.args.bytes.now ≡ input_text x)) c.in-Some.is c.in_ok-input.ensures.found in
    let legal : IsInput c.in-Some.input = subst (λ (f : Option Input). IfSome f (λ x. IsInput x)) c.in-Some.is c.in_ok-input.ensures.legal in
    wind_found c.in-Some.input c.args.bytes.now is legal c.wind_of-found.result c.wind_of-found.ensures.found c.wind_of-found.ensures.none

pub returns-in-None-clause-complete : goal.returns-in-None-clause-complete
returns-in-None-clause-complete c =
    let none : (x : Input) → IsInput x → c.args.bytes.now ≢ input_text x =
    subst (λ (f : Option Input). IfNone f ((x : Input) → IsInput x → c.args.bytes.now ≢ input_text x)) c.in-None.is c.in_ok-input.ensures.none in
    nothing_found c.args.bytes.now None none
