-- The line that sums a generated run up: gen N calls C ok A app B io E history H winds W drained
use Rattle.std.specs.Prelude.{ℕ, Bool, true, false, List, ◌++◌, length, codes, count_by}
use Rattle.std.specs.Fmt.{decimal}
use Rattle.fop_types.specs.Replies.{is_ok}
use Rattle.fop_types.specs.declared.answers.Answer.{Answer}
use Rattle.fop_types.specs.declared.answers.Answer.TheVariants as answer
use Rattle.mount_log.specs.declared.logs.Log.{Log}
use Rattle.mount_log.specs.declared.logs.ReplyLine.{ReplyLine}
use Rattle.mount_log.specs.Winds.{openings}

abbrev pub is_app : Answer → Bool
is_app (answer.App error) = true
is_app other = false

abbrev pub is_io : Answer → Bool
is_io (answer.Io error) = true
is_io other = false

abbrev pub count_replies : (Answer → Bool) → List ReplyLine → ℕ
count_replies test replies = count_by (λ r. test r.answer) replies

abbrev pub summary_text : ℕ → Log → List ℕ
summary_text number log =
    codes "gen " ++ decimal number ++ codes " calls " ++ decimal (length log.replies) ++ codes " ok " ++ decimal (count_replies is_ok log.replies)
    ++ codes " app " ++ decimal (count_replies is_app log.replies) ++ codes " io " ++ decimal (count_replies is_io log.replies)
    ++ codes " history " ++ decimal (length log.history) ++ codes " winds " ++ decimal (openings log.winds) ++ codes " drained\n"
