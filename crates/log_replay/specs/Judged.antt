-- That the replies of a log are those of one plain file system.
use Rattle.std.specs.Prelude.{◌≡◌, ℕ, List, length}
use Rattle.fop_types.specs.History.{IsLegalHistory}
use Rattle.fop_types.specs.Replies.{AreLawfulReplies}
use Rattle.fop_types.specs.declared.flat.FlatOp.{FlatOp}
use Rattle.script_lang.specs.declared.scripts.Script.{Script}
use Rattle.mount_log.specs.Submissions.{submissions_of, replies_of, length_since, length_until}
use Rattle.mount_log.specs.declared.logs.Log.{Log}

-- One history with the operations of its entries, and with the places of each call's fops, also of those that have no reply:
-- it is legal, and the replies are lawful. How many places a call has is not judged by itself: the lookups and the answer fix
-- it, but for an I/O error, which may leave places out at its end.
pub record IsOneFileSystem (script : Script) (log : Log) (ops : List FlatOp) : Type 0 where
  pub places : ℕ → List ℕ
  pub legal : IsLegalHistory (submissions_of script log) (replies_of log) (length_since log) places ops log.history
  pub lawful : AreLawfulReplies (submissions_of script log) (replies_of log) ops log.history (length_since log) (length_until log) (λ number. length (places number))
  pub entered : length log.entered ≡ length log.history
