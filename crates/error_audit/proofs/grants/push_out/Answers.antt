use Rattle.std.specs.Prelude.{None}
use Rattle.error_audit.proofs.grants.push_out.Goals as goal

pub returns-clause-sound : goal.returns-clause-sound
returns-clause-sound c = λ _. record { item = None; has = c.in_ok-is_out.ensures.sound c.if-not-branch.false; is = c.in_ok-push.ensures.items }
