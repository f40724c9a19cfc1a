use Rattle.script_lang.proofs.Accepted.{accepted_keeps}
use Rattle.script_lang.proofs.parses.parse.Goals as goal

pub returns-in-Ok-clause-keeps : goal.returns-in-Ok-clause-keeps
returns-in-Ok-clause-keeps c = accepted_keeps c.args.text.now c.in-Ok.script c.in-Ok.ensures
