use Rattle.std.proofs.Common.{map}
use Rattle.change_audit.specs.Bearing.{brick_of}
use Rattle.change_audit.proofs.Bearing.{distinct}
use Rattle.change_audit.proofs.bearers.are_apart.Goals as goal

pub returns-clause-sound : goal.returns-clause-sound
returns-clause-sound c = λ yes. distinct 0 (map brick_of c.args.bearers.now) (c.are_rising.ensures.0 yes)
