-- The table of descriptors follows the replies: each session's descriptors are after a reply what the answer makes of
-- them.
use Rattle.std.specs.Prelude.{◌≡◌, ◌≢◌, ℕ, false, List, Option, Some, None}
use Rattle.fop_types.specs.Calls.{after_answer}
use Rattle.fop_types.specs.Cells.{root}
use Rattle.fop_types.specs.Replies.{is_ok}
use Rattle.fop_types.specs.declared.answers.Answer.TheVariants as answers
use Rattle.fop_types.specs.declared.answers.FopAnswer.{FopAnswer}
use Rattle.fop_types.specs.declared.answers.FopAnswer.TheVariants as fop_answer
use Rattle.fop_types.specs.declared.calls.Call.{Call}
use Rattle.fop_types.specs.declared.calls.Call.TheVariants as call
use Rattle.fop_types.specs.declared.cells.Gfid.{Gfid}
use Rattle.fd_table.specs.Fds.{Fds}
use Rattle.call_fops.specs.Answered.{after, reply_at_once}
use Rattle.call_fops.specs.Descriptors.{fds_of, fds_after}
use Rattle.call_fops.specs.Walks.{Walked, next_name}
use Rattle.call_fops.specs.declared.replies.After.TheVariants.{Replies}
use Rattle.call_fops.specs.declared.replies.CallReply.{CallReply}
use Rattle.call_fops.specs.declared.replies.FdMove.{FdMove}

-- what a create made, or an open found
abbrev pub file_given : Call → Gfid → Walked → Gfid
file_given (call.Create fd path mode) drawn w = drawn
file_given (call.Open fd path) drawn w = w.first.at.gfid
file_given other drawn w = root

-- The form of a last fop's answer: a create that is done answers the object that it made, with the drawn gfid, and every
-- other fop answers its call. A seek and a close have no fop.
abbrev pub AnswersInForm : Call → Gfid → FopAnswer → Type 0
AnswersInForm (call.Create fd path mode) drawn (fop_answer.Found set gfid kind) = gfid ≡ drawn
AnswersInForm (call.Create fd path mode) drawn (fop_answer.Call a) = a ≢ answers.Done
AnswersInForm (call.Seek fd offset) drawn a = ⊥
AnswersInForm (call.Close fd) drawn a = ⊥
AnswersInForm other drawn (fop_answer.Found set gfid kind) = ⊥
AnswersInForm other drawn (fop_answer.Call a) = Unit {0}

-- a lookup answers the object that it found, or an error
abbrev pub FindsOrFails : FopAnswer → Type 0
FindsOrFails (fop_answer.Found set gfid kind) = Unit {0}
FindsOrFails (fop_answer.Call a) = is_ok a ≡ false

abbrev pub IsInForm : Option (List ℕ) → Call → Gfid → FopAnswer → Type 0
IsInForm (Some name) c drawn a = FindsOrFails a
IsInForm None c drawn a = AnswersInForm c drawn a

pub record DescriptorsFollow : Type 0 where
  pub at_once : (fds : Fds) (session : ℕ) (c : Call) (file : Gfid) (reply : CallReply)
      → reply_at_once (fds_of fds session) c ≡ Some reply
      → fds_of (fds_after fds session reply.fd) session ≡ after_answer (fds_of fds session) c file reply.answer
  pub answered : (fds : Fds) (session : ℕ) (c : Call) (w : Walked) (drawn : Gfid) (a : FopAnswer) (reply : CallReply)
      → IsInForm (next_name c w) c drawn a → after c w a ≡ Replies reply
      → fds_of (fds_after fds session reply.fd) session ≡ after_answer (fds_of fds session) c (file_given c drawn w) reply.answer
  pub others : (fds : Fds) (session other : ℕ) (move : FdMove) → session ≢ other
      → fds_of (fds_after fds session move) other ≡ fds_of fds other
