use Rattle.std.proofs.Common.{subst}
use Rattle.fop_types.specs.declared.messages.Input.{Input}
use Rattle.line_audit.specs.Tied.{IsInputTied, IsPlaceOfOpening}
use Rattle.line_audit.proofs.tied_requests.is_input_tied.Goals as goal

pub returns-in-Request-clause-complete : goal.returns-in-Request-clause-complete
returns-in-Request-clause-complete c = λ low place tied.
    let wind = subst (λ (x : Input). IsInputTied c.args.log.now c.args.all.now c.args.k c.args.event x) c.in-Request.is tied in
    c.has_wind.ensures.complete low wind (subst (λ (x : Input). IsPlaceOfOpening c.args.log.now c.args.all.now c.args.place c.args.k c.args.event x) c.in-Request.is place wind)
