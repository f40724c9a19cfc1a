-- Lawful replies: a reply is the answer of the flat file system at the places that are written.
use Rattle.std.specs.Prelude.{◌≡◌, ◌≢◌, ℕ, ◌-◌, ◌<◌, ◌≤◌, Bool, true, false, ◌&&◌, List, [], ◌∷◌, Option, Some, None, length, slice_get, MatchBool}
use Rattle.fop_types.specs.Calls.{Submission, call_numbered, drawn_by, looked_up, Descriptors, at_once, last_op, last_part_number}
use Rattle.fop_types.specs.Flat.{flat_answer, is_change}
use Rattle.fop_types.specs.History.{Reply, fs_after, Walk, walk, descriptors_at}
use Rattle.fop_types.specs.History.Walk.{Reached, Stopped, Short}
use Rattle.fop_types.specs.declared.cells.Gfid.{Gfid}
use Rattle.fop_types.specs.declared.answers.Answer.{Answer}
use Rattle.fop_types.specs.declared.answers.Answer.TheVariants as answers
use Rattle.fop_types.specs.declared.calls.Call.{Call}
use Rattle.fop_types.specs.declared.flat.FlatOp.{FlatOp}
use Rattle.fop_types.specs.declared.flat.FlatAnswer.TheVariants as flat_answers
use Rattle.fop_types.specs.declared.history.Entry.{Entry}

abbrev pub HasNoEntry : List Entry → ℕ → Type 0
HasNoEntry history number = (k : ℕ) (entry : Entry) → slice_get history k ≡ Some entry → entry.call ≢ number

-- an answer that is no error
abbrev pub is_ok : Answer → Bool
is_ok answers.Done = true
is_ok (answers.Count count) = true
is_ok (answers.Bytes bytes) = true
is_ok (answers.Stat kind mode size) = true
is_ok (answers.List items) = true
is_ok (answers.App error) = false
is_ok (answers.Io error) = false

abbrev pub IsIo : Answer → Type 0
IsIo answers.Done = ⊥
IsIo (answers.Count count) = ⊥
IsIo (answers.Bytes bytes) = ⊥
IsIo (answers.Stat kind mode size) = ⊥
IsIo (answers.List items) = ⊥
IsIo (answers.App error) = ⊥
IsIo (answers.Io error) = Unit {0}

-- places never fall, and stand between these bounds
abbrev pub AreBetween : List ℕ → ℕ → ℕ → Type 0
AreBetween [] low high = Unit {0}
AreBetween (place ∷ places) low high = (low ≤ place) × (place ≤ high) × AreBetween places place high

-- a change that is done has its last part at its place, with its operation, and the answer is that of the files
-- before it
pub record IsDoneAt (ops : List FlatOp) (history : List Entry) (number part : ℕ) (op : FlatOp) (place : ℕ) (answer : Answer) : Type 0 where
  pub from_one : 0 < place
  pub entered : slice_get history (place - 1) ≡ Some (record { call = number; part = part })
  pub carried : slice_get ops (place - 1) ≡ Some op
  pub answered : flat_answer (fs_after ops (place - 1)) op ≡ flat_answers.Call answer

-- any other answer is that of the files at its place, and the call has no entry
pub record IsReadAt (ops : List FlatOp) (history : List Entry) (number : ℕ) (op : FlatOp) (place : ℕ) (answer : Answer) : Type 0 where
  pub answered : flat_answer (fs_after ops place) op ≡ flat_answers.Call answer
  pub no_entry : HasNoEntry history number

abbrev pub IsAnswerAt : List FlatOp → List Entry → ℕ → ℕ → Option FlatOp → ℕ → Answer → Type 0
IsAnswerAt ops history number part None place answer = ⊥
IsAnswerAt ops history number part (Some op) place answer =
    MatchBool (is_change op && is_ok answer) (IsDoneAt ops history number part op place answer) (IsReadAt ops history number op place answer)

-- By where the lookups lead at the written places: the last fop has the one place that is left, or was answered by an
-- I/O error and has none; a lookup that fails is the call's answer, and has its last place; or a lookup was answered
-- by an I/O error, and has none.
abbrev pub IsAnswered : Walk → List FlatOp → List Entry → ℕ → ℕ → (List Gfid → Option FlatOp) → Answer → Type 0
IsAnswered (Reached found []) ops history number part op answer = IsIo answer
IsAnswered (Reached found (place ∷ [])) ops history number part op answer = IsAnswerAt ops history number part (op found) place answer
IsAnswered (Reached found (place ∷ other ∷ places)) ops history number part op answer = ⊥
IsAnswered (Stopped error []) ops history number part op answer = (answer ≡ answers.App error) × HasNoEntry history number
IsAnswered (Stopped error (place ∷ places)) ops history number part op answer = ⊥
IsAnswered Short ops history number part op answer = IsIo answer

pub record IsAnsweredAtOnce (history : List Entry) (reply : Reply) (answer : Answer) : Type 0 where
  pub no_place : reply.places ≡ []
  pub answered : reply.answer ≡ answer
  pub no_entry : HasNoEntry history reply.call

abbrev pub IsLawfulAnswer : Option Answer → List Submission → Descriptors → List FlatOp → List Entry → Call → Reply → Type 0
IsLawfulAnswer (Some answer) calls fds ops history c reply = IsAnsweredAtOnce history reply answer
IsLawfulAnswer None calls fds ops history c reply =
    IsAnswered (walk (fs_after ops) (looked_up c) reply.places) ops history reply.call (last_part_number c)
    (λ found. last_op c found (drawn_by calls reply.call) fds) reply.answer

-- A reply among `replies`: `since` and `until` are the lengths of the history at the call's submission and at its
-- reply, and `answered` is how many of the call's fops were answered by something else than an I/O error. What causes
-- an I/O error must have is said apart, over the log.
pub record IsLawfulReply (calls : List Submission) (replies : List Reply) (ops : List FlatOp) (history : List Entry) (since until answered : ℕ) (reply : Reply) : Type 0 where
  pub submission : Submission
  pub asked : call_numbered calls reply.call ≡ Some submission
  pub counted : length reply.places ≡ answered
  pub between : AreBetween reply.places since until
  pub within : until ≤ length history
  pub lawful :
      IsLawfulAnswer (at_once (descriptors_at calls ops replies submission.session reply.call) submission.call)
      calls (descriptors_at calls ops replies submission.session reply.call) ops history submission.call reply

-- the session of a call
abbrev pub session_of : Option Submission → Option ℕ
session_of None = None
session_of (Some s) = Some s.session

-- Each call has at most one reply, a session's replies are in the order of its calls, and each reply is lawful; the
-- three numbers are those of its call.
pub record AreLawfulReplies (calls : List Submission) (replies : List Reply) (ops : List FlatOp) (history : List Entry) (since until answered : ℕ → ℕ) : Type 0 where
  pub once : (i j : ℕ) (a b : Reply) → slice_get replies i ≡ Some a → slice_get replies j ≡ Some b → a.call ≡ b.call → i ≡ j
  pub in_order : (i j : ℕ) (a b : Reply) → slice_get replies i ≡ Some a → slice_get replies j ≡ Some b
      → session_of (call_numbered calls a.call) ≡ session_of (call_numbered calls b.call) → a.call < b.call → i < j
  pub each : (k : ℕ) (reply : Reply) → slice_get replies k ≡ Some reply
      → IsLawfulReply calls replies ops history (since reply.call) (until reply.call) (answered reply.call) reply
