use Rattle.std.proofs.Common.{◌≡◌, sym, subst, ◌∙◌}
use Rattle.std.specs.Prelude.{Option, IfSome}
use Rattle.std.proofs.lemmas.Bool.{eq-eqb}
use Rattle.fop_types.specs.Bounds.{IsHyper}
use Rattle.change_audit.specs.Served.{done_text}
use Rattle.change_audit.specs.declared.answers.Answering.{Answering}
use Rattle.change_audit.proofs.Reading.{one_done}
use Rattle.change_audit.proofs.answers.is_done_text.Goals as goal

pub returns-then-done-taken-clause-complete : goal.returns-then-done-taken-clause-complete
returns-then-done-taken-clause-complete c = λ low low_wind is.
    let text : c.args.bytes.now ≡ done_text c.in-Some.done.taken c.in-Some.done.wind = subst (λ (f : Option Answering). IfSome f (λ done. c.args.bytes.now ≡ done_text done.taken done.wind)) c.in-Some.is c.in_ok-done.ensures.found in
    let own : IsHyper c.in-Some.done.taken × IsHyper c.in-Some.done.wind = subst (λ (f : Option Answering). IfSome f (λ done. IsHyper done.taken × IsHyper done.wind)) c.in-Some.is c.in_ok-done.ensures.hypers in
    let same = one_done c.in-Some.done.taken c.in-Some.done.wind c.args.taken c.args.wind own.0 own.1 low low_wind (sym text ∙ is) in
    eq-eqb c.in-Some.done.wind c.args.wind same.1

pub returns-else-done-taken-clause-complete : goal.returns-else-done-taken-clause-complete
returns-else-done-taken-clause-complete c = λ low low_wind is.
    let text : c.args.bytes.now ≡ done_text c.in-Some.done.taken c.in-Some.done.wind = subst (λ (f : Option Answering). IfSome f (λ done. c.args.bytes.now ≡ done_text done.taken done.wind)) c.in-Some.is c.in_ok-done.ensures.found in
    let own : IsHyper c.in-Some.done.taken × IsHyper c.in-Some.done.wind = subst (λ (f : Option Answering). IfSome f (λ done. IsHyper done.taken × IsHyper done.wind)) c.in-Some.is c.in_ok-done.ensures.hypers in
    let same = one_done c.in-Some.done.taken c.in-Some.done.wind c.args.taken c.args.wind own.0 own.1 low low_wind (sym text ∙ is) in
    eq-eqb c.in-Some.done.taken c.args.taken same.0
