use Rattle.std.proofs.Common.{◌≡◌, sym}
use Rattle.fop_types.specs.declared.messages.Input.TheVariants as input
use Rattle.error_audit.proofs.Evident.{sent_at}
use Rattle.error_audit.proofs.losses.was_disconnected.Goals as goal

pub returns-clause-sound : goal.returns-clause-sound
returns-clause-sound c = λ yes. sent_at c.args.log.now c.args.place c.args.number c.args.brick (input.Disconnect c.args.graph) c.in-Some.line.now (sym c.in-Some.ensures) (c.in_ok-yes.ensures.sound yes)
