use Rattle.std.proofs.Common.{◌≡◌, sym, subst}
use Rattle.std.specs.Prelude.{Option, None, Some}
use Rattle.mount_log.proofs.Items.{some_is}
use Rattle.error_audit.specs.Finding.{IsFound, span_at}
use Rattle.error_audit.specs.declared.losses.Span.{Span}
use Rattle.error_audit.proofs.io_causes.has_cause.Goals as goal

pub returns-clause-complete : goal.returns-clause-complete
returns-clause-complete c = λ has.
    c.in_ok-yes.ensures.complete has.plan has.set
    (subst (λ (s : Span). IsFound c.args.log.now c.args.tables.now has.plan s c.args.reply.now.call c.args.reply.now.event c.args.error.now)
    (sym (some_is c.in-Some.span (span_at has.at) (c.in-Some.ensures.complete has.at has.at_is has.low))) has.evidence)

pub returns-in_default-clause-complete : goal.returns-in_default-clause-complete
returns-in_default-clause-complete c = λ has. let none : ◌≡◌ {A = Option Span} None (Some (span_at has.at)) = c.in_default.ensures.complete has.at has.at_is has.low in absurd cc
