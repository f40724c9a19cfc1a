use Rattle.std.proofs.Common.{Err, ap, ◌∙◌}
use Rattle.script_lang.proofs.Counts.{too_many_words}
use Rattle.script_lang.proofs.calls.call_of.Goals as goal

pub returns-in-len4-up : goal.returns-in-len4-up
returns-in-len4-up c = ap Err c.misfit_of-in-len4-up.ensures ∙ too_many_words _ c.args.word.now c.args.rest.now c.in-len4-up.len_at_least
