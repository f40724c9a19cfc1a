-- What an audit of ties finds, by the calls of a log and by notes of which lines belong together.
use Rattle.std.specs.Prelude.{◌≡◌, ◌≢◌, ℕ, ◌+◌, ◌-◌, ◌≤◌, ◌==◌, if◌then◌else◌, false, List, [], Option, None, Some, length, slice_get, slice_index_or, take}
use Rattle.fop_types.specs.declared.answers.Answer.TheVariants.{Io}
use Rattle.fop_types.specs.declared.answers.IoError.{IoError}
use Rattle.fop_types.specs.declared.messages.Input.{Input}
use Rattle.fop_types.specs.declared.messages.Input.TheVariants as input
use Rattle.wire_messages.specs.Messages.{input_in}
use Rattle.wire_messages.specs.declared.messages.Message.{Message}
use Rattle.wire_messages.specs.declared.messages.Message.TheVariants.{Whole, Wrong}
use Rattle.mount_log.specs.Graphs.{switches_in}
use Rattle.mount_log.specs.Follows.{IsEvent}
use Rattle.mount_log.specs.Ties.{NumbersRise, EndsIn, IsAnsweredBy, IsBeforeReply, HasWind}
use Rattle.mount_log.specs.declared.logs.HubEvent.TheVariants as logged
use Rattle.mount_log.specs.declared.logs.Log.{Log}
use Rattle.mount_log.specs.declared.logs.ReplyLine.{ReplyLine}
use Rattle.mount_log.specs.declared.logs.SentLine.{SentLine}
use Rattle.mount_log.specs.declared.logs.WindLine.{WindLine}
use Rattle.log_audit.specs.Called.{call_by}
use Rattle.line_audit.specs.Ended.{IsPlaceOfMessageEnd, AreEnded}
use Rattle.line_audit.specs.declared.tied_ends.EndedAt.{EndedAt}
use Rattle.log_audit.specs.declared.calls_made.CallMade.{CallMade}
use Rattle.line_audit.specs.declared.tied_requests.SentFor.{SentFor}
use Rattle.line_audit.specs.declared.tie_notes.TieNotes.{TieNotes}

-- ---- replies

-- the wind line at this place is the end of a wind of the call in the event
pub record IsEndAt (winds : List WindLine) (at call number : ℕ) : Type 0 where
  pub line : WindLine
  pub there : slice_get winds at ≡ Some line
  pub is_end : line.opened ≡ false
  pub same_call : line.call ≡ call
  pub same_event : line.event ≡ number

-- a call is answered as it is submitted
pub record IsAtOnce (log : Log) (reply : ReplyLine) : Type 0 where
  pub no_places : reply.places ≡ []
  pub no_io_error : (error : IoError) → reply.answer ≢ Io error
  pub submitted : IsEvent log reply.event (logged.Submit reply.session reply.line)

-- the end of a wind of the reply's call in its event is at this place, if there is one
abbrev pub IsPlaceOfEnd : List WindLine → ℕ → ReplyLine → Type 0
IsPlaceOfEnd winds at reply = EndsIn winds reply.call reply.event → IsEndAt winds at reply.call reply.event

-- the noted places of the ends by which calls are answered, one for each reply
abbrev pub ArePlacesOfEnds : Log → List ℕ → Type 0
ArePlacesOfEnds log ends = (k : ℕ) (reply : ReplyLine) → slice_get log.replies k ≡ Some reply → IsPlaceOfEnd log.winds (slice_index_or ends k 0) reply

pub record IsReplyOf (calls : List CallMade) (reply : ReplyLine) : Type 0 where
  pub call : CallMade
  pub there : call_by calls reply.call ≡ Some call
  pub session_is : call.session ≡ reply.session
  pub line_is : call.line ≡ reply.line
  pub later : call.event ≤ reply.event

pub record IsReplyFound (log : Log) (calls : List CallMade) (reply : ReplyLine) : Type 0 where
  pub of_call : IsReplyOf calls reply
  pub answered : IsAnsweredBy log reply

abbrev pub AreRepliesTied : Log → List CallMade → Type 0
AreRepliesTied log calls = (k : ℕ) (reply : ReplyLine) → slice_get log.replies k ≡ Some reply → IsReplyFound log calls reply

-- ---- winds

-- the reply at this place is that of the line's call, and does not come before the line
pub record IsReplyBehind (replies : List ReplyLine) (at : ℕ) (line : WindLine) : Type 0 where
  pub reply : ReplyLine
  pub there : slice_get replies at ≡ Some reply
  pub same_call : reply.call ≡ line.call
  pub earlier : line.event ≤ reply.event

-- the reply of the line's call, not before the line, is at this place, if there is one
abbrev pub IsPlaceOfReply : Log → ℕ → WindLine → Type 0
IsPlaceOfReply log at line = IsBeforeReply log line → IsReplyBehind log.replies at line

-- the place that is noted for the reply of a call, 0 where none is
abbrev pub place_of_reply : List ℕ → ℕ → ℕ
place_of_reply replied call = if call == 0 then 0 else slice_index_or replied (call - 1) 0

-- the noted places of the replies of winds' calls
abbrev pub ArePlacesOfReplies : Log → List ℕ → Type 0
ArePlacesOfReplies log replied = (k : ℕ) (line : WindLine) → slice_get log.winds k ≡ Some line → 1 ≤ line.call → IsPlaceOfReply log (place_of_reply replied line.call) line

pub record IsCallsWind (log : Log) (calls : List CallMade) (line : WindLine) : Type 0 where
  pub call : CallMade
  pub there : call_by calls line.call ≡ Some call
  pub later : call.event ≤ line.event
  pub earlier : IsBeforeReply log line
  pub graph_is : line.graph ≡ call.switches + 1

abbrev pub IsWindOf : Log → List CallMade → WindLine → Type 0
IsWindOf log calls line = 1 ≤ line.call → IsCallsWind log calls line

pub record IsWindFound (log : Log) (calls : List CallMade) (line : WindLine) : Type 0 where
  pub made : line.graph ≤ 1 + length (switches_in (take line.event log.events))
  pub of_call : IsWindOf log calls line

abbrev pub AreWindsTied : Log → List CallMade → Type 0
AreWindsTied log calls = (k : ℕ) (line : WindLine) → slice_get log.winds k ≡ Some line → IsWindFound log calls line

-- ---- requests

abbrev pub request_in : Option SentFor → ℕ
request_in None = 0
request_in (Some sent_for) = sent_for.request

abbrev pub open_in : Option SentFor → ℕ
open_in None = 0
open_in (Some sent_for) = sent_for.open

-- where the request is that was sent for the wind which is opened at a place, and the open before it
abbrev pub request_at : List SentFor → ℕ → ℕ
request_at all place = request_in (slice_get all place)

abbrev pub open_at : List SentFor → ℕ → ℕ
open_at all place = open_in (slice_get all place)

abbrev pub IsInputTied : Log → List SentFor → ℕ → ℕ → Input → Type 0
IsInputTied log all k event (input.Request number graph request) = HasWind log (request_at all) (open_at all) k number graph event request
IsInputTied log all k event (input.Connect graph version) = Unit {0}
IsInputTied log all k event (input.Disconnect graph) = Unit {0}
IsInputTied log all k event (input.Down serve) = Unit {0}
IsInputTied log all k event input.Up = Unit {0}
IsInputTied log all k event (input.FaultAt p number) = Unit {0}

-- the opening of the input's wind is at this place, if there is one
abbrev pub IsPlaceOfOpening : Log → List SentFor → ℕ → ℕ → ℕ → Input → Type 0
IsPlaceOfOpening log all place k event (input.Request number graph request) = (w : HasWind log (request_at all) (open_at all) k number graph event request) → w.place ≡ place
IsPlaceOfOpening log all place k event (input.Connect graph version) = Unit {0}
IsPlaceOfOpening log all place k event (input.Disconnect graph) = Unit {0}
IsPlaceOfOpening log all place k event (input.Down serve) = Unit {0}
IsPlaceOfOpening log all place k event input.Up = Unit {0}
IsPlaceOfOpening log all place k event (input.FaultAt p number) = Unit {0}

abbrev pub IsOpeningOf : Log → List SentFor → ℕ → ℕ → ℕ → Message Input → Type 0
IsOpeningOf log all place k event (Whole x) = IsPlaceOfOpening log all place k event x
IsOpeningOf log all place k event (Wrong at) = Unit {0}

abbrev pub IsTied : Log → List SentFor → ℕ → ℕ → Message Input → Type 0
IsTied log all k event (Whole x) = IsInputTied log all k event x
IsTied log all k event (Wrong place) = Unit {0}

abbrev pub AreRequestsTied : Log → List SentFor → Type 0
AreRequestsTied log all = (k : ℕ) (line : SentLine) → slice_get log.sent k ≡ Some line → IsTied log all k line.event (input_in line.bytes)

abbrev pub end_in : Option EndedAt → EndedAt
end_in None = record { end = 0; disconnect = 0 }
end_in (Some ended) = ended

-- where the wind ends of the request at a place among what was sent
abbrev pub end_of : List EndedAt → ℕ → EndedAt
end_of ended k = end_in (slice_get ended k)

-- what is noted for a line that was sent: where its wind was opened, if one was, and where that ends
pub record ArePlacesOfRequests (log : Log) (openings : List ℕ) (ended : List EndedAt) (all : List SentFor) : Type 0 where
  pub opened_at : (k : ℕ) (line : SentLine) → slice_get log.sent k ≡ Some line → IsOpeningOf log all (slice_index_or openings k 0) k line.event (input_in line.bytes)
  pub ended_at : (k : ℕ) (line : SentLine) → slice_get log.sent k ≡ Some line → IsPlaceOfMessageEnd log line.brick (end_of ended k) (input_in line.bytes)

-- what is noted of lines that belong together is right, where a definition says that they do
pub record AreNotesRight (log : Log) (notes : TieNotes) : Type 0 where
  pub ends : ArePlacesOfEnds log notes.ends.items
  pub replied : ArePlacesOfReplies log notes.replied.items
  pub requests : ArePlacesOfRequests log notes.openings.items notes.ended.items notes.sent_for.items

-- ---- all lines

pub record AreLinesTied (log : Log) (calls : List CallMade) : Type 0 where
  pub numbers : NumbersRise log
  pub replies : AreRepliesTied log calls
  pub winds : AreWindsTied log calls
  pub all : List SentFor
  pub requests : AreRequestsTied log all
  pub ends : AreEnded log
