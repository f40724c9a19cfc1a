use Rattle.std.proofs.Common.{◌≡◌}
use Rattle.error_audit.proofs.Evident.{fault_of}
use Rattle.error_audit.proofs.brick_replies.is_fault_of.Goals as goal

pub returns-in-Reply-clause-sound : goal.returns-in-Reply-clause-sound
returns-in-Reply-clause-sound c = λ yes. fault_of c.args.log.now c.args.call _ c.args.kind.now _ c.in-Reply.is (c.is_faulty.ensures.fault yes) (c.is_faulty.ensures.wind yes)
