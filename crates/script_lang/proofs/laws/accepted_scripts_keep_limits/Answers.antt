use Rattle.script_lang.proofs.Accepted.{accepted_keeps}
use Rattle.script_lang.proofs.laws.accepted_scripts_keep_limits.Goals as goal

pub returns : goal.returns
returns c = accepted_keeps
