-- What is judged: calls, their replies and a history of changes, with bounds on the places of each call.
use Rattle.std.specs.Prelude.{ℕ, ◌-◌, List, get_or, length}
use Rattle.fop_types.specs.Calls.{Submission}
use Rattle.fop_types.specs.History.{Reply, IsLegalHistory}
use Rattle.fop_types.specs.Replies.{AreLawfulReplies}
use Rattle.fop_types.specs.declared.flat.FlatOp.{FlatOp}
use Rattle.fop_types.specs.declared.history.Entry.{Entry}

-- The calls are in the order of their numbers, from 1 on. Some have no reply. The last three lists have a number for each
-- call: a lower bound of the entries before its first one, a lower bound of the places of its fops, and an upper bound of these.
pub record Trace : Type 0 where
  pub calls : List Submission
  pub replies : List Reply
  pub history : List Entry
  pub submitted : List ℕ
  pub since : List ℕ
  pub until : List ℕ

-- the number of a list that is a call's
abbrev pub of_call : List ℕ → ℕ → ℕ
of_call numbers call = get_or numbers (call - 1) 0

-- The replies are those of one plain file system after the changes of the history, which are these operations: with them the
-- history is legal, and the replies are lawful. `places` are those of the fops of each call. How many there are is not judged by
-- itself: the lookups and the answer fix it, but for an I/O error, which may leave places out at its end.
pub record IsLawfulWith (t : Trace) (ops : List FlatOp) : Type 0 where
  pub places : ℕ → List ℕ
  pub legal : IsLegalHistory t.calls t.replies (of_call t.submitted) places ops t.history
  pub lawful : AreLawfulReplies t.calls t.replies ops t.history (of_call t.since) (of_call t.until) (λ number. length (places number))

-- there are such operations
pub record IsLawfulTrace (t : Trace) : Type 0 where
  pub ops : List FlatOp
  pub lawful : IsLawfulWith t ops
