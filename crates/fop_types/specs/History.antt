-- The history of accepted changes, as the flat file system reads it.
--
-- A history is given by its entries and, beside them, by their operations, one for each entry in order. Each
-- operation is fixed by its call: by the call's words, the objects that its lookups found at their places, its
-- descriptor and its drawn gfid.
use Rattle.std.specs.Prelude.{◌≡◌, ℕ, ◌<◌, ◌≤◌, ◌&&◌, List, [], ◌∷◌, Option, Some, None, ◌++◌, length, take, slice_get, nat_lt, nat_eq, if◌then◌else◌}
use Rattle.std.specs.FinMap.{empty}
use Rattle.fop_types.specs.Calls.{Submission, call_numbered, drawn_by, looked_up, lookups, Descriptors, after_answer, at_once, last_op, part_op}
use Rattle.fop_types.specs.Cells.{root}
use Rattle.fop_types.specs.Files.{Files, first_files}
use Rattle.fop_types.specs.Flat.{flat, flat_answer, flat_after, IsChange}
use Rattle.fop_types.specs.declared.cells.Gfid.{Gfid}
use Rattle.fop_types.specs.declared.answers.Answer.{Answer}
use Rattle.fop_types.specs.declared.answers.Answer.TheVariants as answer
use Rattle.fop_types.specs.declared.answers.AppError.{AppError}
use Rattle.fop_types.specs.declared.calls.Call.{Call}
use Rattle.fop_types.specs.declared.calls.Call.TheVariants as call
use Rattle.fop_types.specs.declared.flat.FlatOp.{FlatOp}
use Rattle.fop_types.specs.declared.flat.FlatOp.TheVariants.{Lookup}
use Rattle.fop_types.specs.declared.flat.FlatAnswer.{FlatAnswer}
use Rattle.fop_types.specs.declared.flat.FlatAnswer.TheVariants as flat_answers
use Rattle.fop_types.specs.declared.history.Entry.{Entry}

-- a reply: the number of its call, a place for each of the call's fops that was answered by something else than an
-- I/O error, and the call's answer
pub record Reply : Type 0 where
  pub call : ℕ
  pub places : List ℕ
  pub answer : Answer

-- ---- files at a place

abbrev pub files_after : Files → List FlatOp → Files
files_after files [] = files
files_after files (op ∷ ops) = files_after (flat_after files op) ops

-- the files after the first `place` entries
abbrev pub fs_after : List FlatOp → ℕ → Files
fs_after ops place = files_after first_files (take place ops)

-- ---- lookups at their places

-- where the lookups of a call lead at the places that are written: to objects, one for each path, with the places
-- that are left; to an error, with the places that are left; or further than there are places
pub data Walk : Type 0 where
  Reached : (found : List Gfid) → (places : List ℕ) → Walk
  Stopped : (error : AppError) → (places : List ℕ) → Walk
  Short : Walk

abbrev pub after_lookup : FlatAnswer → List ℕ → (Gfid → Walk) → Walk
after_lookup (flat_answers.Found gfid kind) places more = more gfid
after_lookup (flat_answers.Call (answer.App error)) places more = Stopped error places
after_lookup (flat_answers.Call answer.Done) places more = Short
after_lookup (flat_answers.Call (answer.Count count)) places more = Short
after_lookup (flat_answers.Call (answer.Bytes bytes)) places more = Short
after_lookup (flat_answers.Call (answer.Stat kind mode size)) places more = Short
after_lookup (flat_answers.Call (answer.List items)) places more = Short
after_lookup (flat_answers.Call (answer.Io error)) places more = Short

-- each name is looked up in the object that the one before it led to, at its own place
abbrev pub walk_path : (ℕ → Files) → List (List ℕ) → Gfid → List ℕ → Walk
walk_path files [] at places = Reached (at ∷ []) places
walk_path files (name ∷ names) at [] = Short
walk_path files (name ∷ names) at (place ∷ places) =
    after_lookup (flat_answer (files place) (Lookup at name)) places (λ found. walk_path files names found places)

abbrev pub with_found : List Gfid → Walk → Walk
with_found found (Reached others places) = Reached (found ++ others) places
with_found found (Stopped error places) = Stopped error places
with_found found Short = Short

abbrev pub after_path : Walk → (List ℕ → Walk) → Walk
after_path (Reached found places) more = with_found found (more places)
after_path (Stopped error places) more = Stopped error places
after_path Short more = Short

abbrev pub walk : (ℕ → Files) → List (List (List ℕ)) → List ℕ → Walk
walk files [] places = Reached [] places
walk files (path ∷ paths) places = after_path (walk_path files path root places) (λ rest. walk files paths rest)

-- ---- descriptors by earlier replies

abbrev pub first_found : Walk → Gfid
first_found (Reached [] places) = root
first_found (Reached (gfid ∷ found) places) = gfid
first_found (Stopped error places) = root
first_found Short = root

-- the file of a descriptor that a create or an open gives: what the create made, or what the open's last lookup found
abbrev pub file_of : List Submission → List FlatOp → Call → Reply → Gfid
file_of calls ops (call.Create fd path mode) reply = drawn_by calls reply.call
file_of calls ops (call.Open fd path) reply = first_found (walk (fs_after ops) (path.parts ∷ []) reply.places)
file_of calls ops other reply = root

abbrev pub after_reply_of : List Submission → List FlatOp → ℕ → ℕ → Descriptors → Reply → Option Submission → Descriptors
after_reply_of calls ops session number fds reply None = fds
after_reply_of calls ops session number fds reply (Some s) =
    if nat_eq s.session session && nat_lt reply.call number then after_answer fds s.call (file_of calls ops s.call reply) reply.answer else fds

abbrev pub after_replies : List Submission → List FlatOp → ℕ → ℕ → Descriptors → List Reply → Descriptors
after_replies calls ops session number fds [] = fds
after_replies calls ops session number fds (reply ∷ replies) =
    after_replies calls ops session number
    (after_reply_of calls ops session number fds reply (call_numbered calls reply.call)) replies

-- a session's descriptors when its call of this number was submitted: by the replies to its earlier calls, in order
abbrev pub descriptors_at : List Submission → List FlatOp → List Reply → ℕ → ℕ → Descriptors
descriptors_at calls ops replies session number = after_replies calls ops session number empty replies

-- ---- legal histories

abbrev pub AreAtMost : List ℕ → ℕ → Type 0
AreAtMost [] most = Unit {0}
AreAtMost (place ∷ places) most = (place ≤ most) × AreAtMost places most

-- An entry at `index`, counted from 0, whose operation is the one that its call fixes: the call is not answered at
-- once, the places of its lookups lead to the objects, each place is below the entry's number, and the flat file
-- system makes the change on the files that the entries before it leave. The call's last operation was possible at
-- some length of the history between its submission and lookups and the entry: of a rename's part 1 this says that
-- there was a file to be renamed. `since` is the length of the history at the call's submission; `places` gives the places of a call's fops that were answered so far.
pub record IsLegalEntry (calls : List Submission) (replies : List Reply) (since : ℕ) (places : ℕ → List ℕ) (ops : List FlatOp) (index : ℕ) (entry : Entry) : Type 0 where
  pub submission : Submission
  pub asked : call_numbered calls entry.call ≡ Some submission
  pub sent : at_once (descriptors_at calls ops replies submission.session entry.call) submission.call ≡ None
  pub found : List Gfid
  pub rest : List ℕ
  pub reached : walk (fs_after ops) (looked_up submission.call) (places entry.call) ≡ Reached found rest
  pub below : AreAtMost (take (lookups (looked_up submission.call)) (places entry.call)) index
  pub last : FlatOp
  pub whole :
      last_op submission.call found (drawn_by calls entry.call) (descriptors_at calls ops replies submission.session entry.call)
      ≡ Some last
  pub op : FlatOp
  pub fixed : part_op submission.call (Some last) entry.part ≡ Some op
  pub stands : slice_get ops index ≡ Some op
  pub accepted : IsChange (flat (fs_after ops index) op)
  pub seen : ℕ
  pub after_submission : since ≤ seen
  pub after_lookups : AreAtMost (take (lookups (looked_up submission.call)) (places entry.call)) seen
  pub not_later : seen ≤ index
  pub possible : IsChange (flat (fs_after ops seen) last)

-- Each entry has its operation, none is repeated, each is legal where it stands, and a rename's move stands after the unlink
-- that is its part 1. `since` gives the length of the history at a call's submission; the places of an answered call are those
-- of its reply.
pub record IsLegalHistory (calls : List Submission) (replies : List Reply) (since : ℕ → ℕ) (places : ℕ → List ℕ) (ops : List FlatOp) (history : List Entry) : Type 0 where
  pub as_many : length ops ≡ length history
  pub distinct : (i j : ℕ) (entry : Entry) → slice_get history i ≡ Some entry → slice_get history j ≡ Some entry → i ≡ j
  pub legal : (index : ℕ) (entry : Entry) → slice_get history index ≡ Some entry
      → IsLegalEntry calls replies (since entry.call) places ops index entry
  pub in_order : (i j : ℕ) (first second : Entry) → slice_get history i ≡ Some first → slice_get history j ≡ Some second
      → first.call ≡ second.call → first.part < second.part → i < j
  pub written : (k : ℕ) (reply : Reply) → slice_get replies k ≡ Some reply → places reply.call ≡ reply.places
