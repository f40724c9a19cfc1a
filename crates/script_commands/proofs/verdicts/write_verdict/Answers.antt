use Rattle.script_commands.proofs.VerdictLemmas.{judged_text, refused_text, short_text, too_long_line, too_long_short}
use Rattle.script_commands.proofs.verdicts.write_verdict.Goals as goal

pub returns-in-Ok-clause-judged : goal.returns-in-Ok-clause-judged
returns-in-Ok-clause-judged g c = λ ended. judged_text _ _ _ c.in-Ok.text.items _ c.in-Ok.ensures.all c.as_slice-in-Ok.ensures.value _ (c.write_replayed-status.ensures.judged ended)

pub returns-in-Ok-clause-refused : goal.returns-in-Ok-clause-refused
returns-in-Ok-clause-refused g c = λ one. refused_text _ _ _ c.in-Ok.text.items _ c.in-Ok.ensures.all c.as_slice-in-Ok.ensures.value (c.write_replayed-status.ensures.refused one)

pub returns-in-Ok-clause-short : goal.returns-in-Ok-clause-short
returns-in-Ok-clause-short g c = λ four. short_text _ _ _ c.in-Ok.text.items _ c.in-Ok.ensures.all c.as_slice-in-Ok.ensures.value (c.write_replayed-status.ensures.short four)

pub returns-in-Err-TooLong-clause-refused : goal.returns-in-Err-TooLong-clause-refused
returns-in-Err-TooLong-clause-refused g c = λ one. too_long_line _ _ _ (let is = c.in-Err-TooLong.field-0-is in c.in-Err-TooLong.ensures.too_long cc) (c.refuse.ensures.refused one)

pub returns-in-Err-TooLong-clause-short : goal.returns-in-Err-TooLong-clause-short
returns-in-Err-TooLong-clause-short g c = λ four. too_long_short _ _ _ (let is = c.in-Err-TooLong.field-0-is in c.in-Err-TooLong.ensures.too_long cc) (c.refuse.ensures.write_fault four).1
