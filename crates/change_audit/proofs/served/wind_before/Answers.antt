use Rattle.std.proofs.lemmas.Option.{IfSome_then}
use Rattle.std.proofs.Common.{◌≡◌, sym, ◌∙◌}
use Rattle.std.specs.Prelude.{true, false}
use Rattle.change_audit.proofs.Requests.{text_there}
use Rattle.change_audit.proofs.Texts.{has_text}
use Rattle.change_audit.proofs.served.wind_before.Goals as goal

pub returns-clause-found : goal.returns-clause-found
returns-clause-found c =
    IfSome_then c.in_ok-found.found c.in_ok-found.ensures.found (λ wind on. has_text wind c.args.text.now c.args.bytes.now (c.has_text.ensures.sound c.if-not-has_text.false) on)

pub returns-then-not-has_text-clause-complete : goal.returns-then-not-has_text-clause-complete
returns-then-not-has_text-clause-complete c = λ wind graph req legal has is.
    let there = text_there c.args.bytes.now c.args.text.now wind graph req has is in let e : false ≡ true = sym c.if-not-has_text.true ∙ c.has_text.ensures.complete there.0 there.1 in absurd cc
