use Rattle.std.proofs.Common.{refl}
use Rattle.log_audit.proofs.Arming.{armed_none}
use Rattle.log_audit.proofs.armed_lines.none_armed.Goals as goal

pub returns : goal.returns
returns c = λ sent from. armed_none sent from _ refl
