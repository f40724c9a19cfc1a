-- The order in which the kinds of refusal that hold of one line are reported.
use Rattle.std.specs.Prelude.{ℕ, nat_le, if◌then◌else◌}
use Rattle.script_lang.specs.declared.errors.ScriptKind.{ScriptKind}
use Rattle.script_lang.specs.declared.errors.ScriptKind.TheVariants.{BadByte, LongLine, Unexpected, WordCount, BadWord, Repeated, Unknown, TooMany, TwoGreat, Unclosed, NoStart, NotFollowing, TooLong, Vol, Later}

-- the place of a kind among those that hold of one line; the last are reported where none of these holds
abbrev pub order : ScriptKind → ℕ
order BadByte = 0
order LongLine = 1
order Unexpected = 2
order WordCount = 3
order BadWord = 4
order Repeated = 5
order Unknown = 6
order TooMany = 7
order TwoGreat = 8
order Unclosed = 9
order NoStart = 9
order NotFollowing = 9
order TooLong = 9
order (Vol kind) = 9
order Later = 9

abbrev pub earlier : ScriptKind → ScriptKind → ScriptKind
earlier k l = if nat_le (order k) (order l) then k else l
