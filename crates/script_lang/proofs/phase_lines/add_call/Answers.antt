use Rattle.std.proofs.Common.{arith, sym}
use Rattle.script_lang.proofs.Counts.{too_few_for_call}
use Rattle.script_lang.proofs.phase_lines.add_call.Goals as goal

pub returns-in-len1 : goal.returns-in-len1
returns-in-len1 c = sym (too_few_for_call _ c.args.draft.now c.args.number c.args.words.now (omega (arith, c.in-len1.len_below)))
