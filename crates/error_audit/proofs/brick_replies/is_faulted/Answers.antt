use Rattle.std.proofs.Common.{◌≡◌, subst}
use Rattle.std.specs.Prelude.{Option, IfSome}
use Rattle.fop_types.specs.declared.messages.Output.{Output}
use Rattle.error_audit.specs.Evidence.{IsArrived}
use Rattle.error_audit.proofs.Evident.{faulted}
use Rattle.error_audit.proofs.brick_replies.is_faulted.Goals as goal

pub returns-clause-sound : goal.returns-clause-sound
returns-clause-sound c = λ yes.
    faulted c.args.log.now c.args.plan.now c.args.reply.now.call c.args.reply.now.event c.args.pair.now c.in-Some.output (c.has_brick.ensures.0 c.if-not-has_brick.false)
    (subst (λ (o : Option Output). IfSome o (IsArrived c.args.log.now c.args.reply.now.event c.args.pair.now.0)) c.in-Some.is c.in_ok-found.ensures.sound) (c.is_fault_at-yes.ensures.taken yes) (c.is_fault_at-yes.ensures.fault yes)

pub returns-in_default-clause-exact : goal.returns-in_default-clause-exact
returns-in_default-clause-exact c = (
  λ no. absurd cc,
  λ f. let none = c.in_default.is in let some = c.in_ok-found.ensures.complete f.output f.arrived in absurd cc,
)
