use Rattle.std.proofs.Common.{arith, sym}
use Rattle.script_lang.proofs.Counts.{too_few_for_brick}
use Rattle.script_lang.proofs.statements.brick.Goals as goal

pub returns-in-len1 : goal.returns-in-len1
returns-in-len1 c = sym (too_few_for_brick _ c.args.draft.now c.args.words.now (omega (arith, c.in-len1.len_below)))

pub returns-in-len2 : goal.returns-in-len2
returns-in-len2 c = sym (too_few_for_brick _ c.args.draft.now c.args.words.now (omega (arith, c.in-len2.len_below)))
