use Rattle.std.proofs.Common.{◌≡◌, ◌≢◌, subst}
use Rattle.std.specs.Prelude.{Option, IfSome, IfNone}
use Rattle.std.proofs.lemmas.Option.{IfSome_then}
use Rattle.fop_types.specs.declared.messages.BrickRep.TheVariants.{Done}
use Rattle.fop_types.specs.declared.messages.DoneArm.TheVariants.{Nothing}
use Rattle.fop_types.specs.declared.messages.OutKind.TheVariants.{Reply}
use Rattle.fop_types.specs.declared.messages.Output.{Output}
use Rattle.wire_xdr.specs.WireText.{output_text, IsOutput}
use Rattle.change_audit.proofs.Texts.{done_said, done_hypers}
use Rattle.change_audit.proofs.Reading.{no_done, legal_done}
use Rattle.change_audit.proofs.answers.done_in.Goals as goal

pub returns-in-Some-clause-found : goal.returns-in-Some-clause-found
returns-in-Some-clause-found c =
    let is : c.args.bytes.now ≡ output_text c.in-Some.output = subst (λ (f : Option Output). IfSome f (λ x. c.args.bytes.now ≡ output_text x)) c.in-Some.is c.in_ok-output.ensures.found in
    IfSome_then c.done_of-found.result c.done_of-found.ensures.found (λ done of. done_said c.in-Some.output c.args.bytes.now done.taken done.wind is of)

pub returns-in-Some-clause-hypers : goal.returns-in-Some-clause-hypers
returns-in-Some-clause-hypers c =
    let legal : IsOutput c.in-Some.output = subst (λ (f : Option Output). IfSome f (λ x. IsOutput x)) c.in-Some.is c.in_ok-output.ensures.legal in
    IfSome_then c.done_of-found.result c.done_of-found.ensures.found (λ done of. done_hypers c.in-Some.output done.taken done.wind legal of)

pub returns-in-Some-clause-none : goal.returns-in-Some-clause-none
returns-in-Some-clause-none c =
    let is : c.args.bytes.now ≡ output_text c.in-Some.output = subst (λ (f : Option Output). IfSome f (λ x. c.args.bytes.now ≡ output_text x)) c.in-Some.is c.in_ok-output.ensures.found in
    let legal : IsOutput c.in-Some.output = subst (λ (f : Option Output). IfSome f (λ x. IsOutput x)) c.in-Some.is c.in_ok-output.ensures.legal in
    no_done c.in-Some.output c.args.bytes.now c.done_of-found.result is legal c.done_of-found.ensures.none

pub returns-in-None-clause-none : goal.returns-in-None-clause-none
returns-in-None-clause-none c = λ taken wind low low_wind done.
    let none : (x : Output) → IsOutput x → c.args.bytes.now ≢ output_text x = subst (λ (f : Option Output). IfNone f ((x : Output) → IsOutput x → c.args.bytes.now ≢ output_text x)) c.in-None.is c.in_ok-output.ensures.none in
    none (record { taken = taken; kind = Reply wind (Done Nothing) }) (legal_done taken wind low low_wind) done
