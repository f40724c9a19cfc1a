use Rattle.std.proofs.Common.{◌≡◌, subst}
use Rattle.std.specs.Prelude.{List, IfSome}
use Rattle.log_audit.specs.Called.{AreCalls}
use Rattle.line_audit.specs.Tied.{AreLinesTied}
use Rattle.log_audit.specs.declared.calls_made.CallMade.{CallMade}
use Rattle.line_audit.proofs.Tying.{tied}
use Rattle.line_audit.proofs.ties.lines_are_tied.Goals as goal

pub returns : goal.returns
returns c = λ yes.
    tied c.args.script.now c.args.log.now c.in-Some.calls.items (subst (λ o. IfSome o (λ calls. AreCalls c.args.script.now c.args.log.now calls.items)) c.in-Some.is c.in_ok-calls.ensures.calls)
    (subst (λ (l : List CallMade). AreLinesTied c.args.log.now l) c.as_slice.ensures.value (c.in_ok-yes.ensures yes))
