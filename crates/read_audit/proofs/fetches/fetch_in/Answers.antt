use Rattle.std.proofs.Common.{◌≡◌, ap, subst, ◌∙◌}
use Rattle.std.specs.Prelude.{Option, IfSome}
use Rattle.std.proofs.lemmas.Option.{IfSome_then}
use Rattle.fop_types.specs.declared.messages.Input.{Input}
use Rattle.wire_xdr.specs.WireText.{input_text}
use Rattle.read_audit.proofs.fetches.fetch_in.Goals as goal

pub returns-in-Some : goal.returns-in-Some
returns-in-Some c =
    let is : c.args.bytes.now ≡ input_text c.in-Some.input = subst (λ (f : Option Input). IfSome f (λ x. c.args.bytes.now ≡ input_text x)) c.in-Some.is c.in_ok-input.ensures.found in
    IfSome_then c.fetch_on.result c.fetch_on.ensures (λ fd same. is ∙ ap input_text same)
