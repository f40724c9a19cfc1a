use Rattle.std.proofs.Common.{Err, ap, ◌∙◌}
use Rattle.script_lang.proofs.Counts.{too_many_for_action}
use Rattle.script_lang.proofs.actions.action_of.Goals as goal

pub returns-in-len4-up : goal.returns-in-len4-up
returns-in-len4-up c = ap Err c.no_action-in-len4-up.ensures ∙ too_many_for_action _ c.args.bricks.now c.args.volfiles.now c.args.word.now c.args.rest.now c.in-len4-up.len_at_least
