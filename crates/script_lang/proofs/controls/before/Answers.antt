use Rattle.std.proofs.Common.{arith}
use Rattle.script_lang.proofs.Counts.{too_few_before}
use Rattle.script_lang.proofs.controls.before.Goals as goal

pub returns-in-len1 : goal.returns-in-len1
returns-in-len1 c = too_few_before _ c.args.bricks.now c.args.volfiles.now c.args.words.now (omega (arith, c.in-len1.len_below))

pub returns-in-len2 : goal.returns-in-len2
returns-in-len2 c = too_few_before _ c.args.bricks.now c.args.volfiles.now c.args.words.now (omega (arith, c.in-len2.len_below))

pub returns-in-len3 : goal.returns-in-len3
returns-in-len3 c = too_few_before _ c.args.bricks.now c.args.volfiles.now c.args.words.now (omega (arith, c.in-len3.len_below))
