use Rattle.std.proofs.Common.{◌≡◌, drop}
use Rattle.script_lang.specs.ScriptText.{is_comment}
use Rattle.script_lang.proofs.readings.is_comment.Given as goal

abbrev pub invariant-loop-byte : goal.invariant-loop-byte
invariant-loop-byte l = is_comment (drop l.byte-index l.line) ≡ is_comment l.line
