-- How the replies, winds and requests of a log are tied to its events: numbers of events rise; a reply is to the call that its
-- session submitted by its line, and comes as a wind of that call ends, or at once; a wind is of a graph that was made by then,
-- that of a call of the call's graph, and ends before the call's reply; each request was sent for a wind that was opened in its
-- event, each wind having at most one request and one open before it; and such a wind ends by what arrives from the brick, or with
-- its connection.
use Rattle.std.specs.Prelude.{◌≡◌, ◌≢◌, ℕ, ◌+◌, ◌≤◌, nat_le, ◌&&◌, ◌⊎◌, Bool, true, false, List, [], ◌∷◌, Some, length, map, slice_get, take}
use Rattle.fop_types.specs.declared.answers.Answer.TheVariants.{Io}
use Rattle.fop_types.specs.declared.answers.IoError.{IoError}
use Rattle.fop_types.specs.declared.messages.BrickReq.{BrickReq}
use Rattle.fop_types.specs.declared.messages.BrickReq.TheVariants as req
use Rattle.fop_types.specs.declared.messages.Input.TheVariants.{Request, Disconnect}
use Rattle.fop_types.specs.declared.messages.OutKind.{OutKind}
use Rattle.fop_types.specs.declared.messages.OutKind.TheVariants as out
use Rattle.fop_types.specs.declared.messages.Output.{Output}
use Rattle.wire_messages.specs.Messages.{input_in, output_in}
use Rattle.wire_messages.specs.declared.messages.Message.TheVariants as message
use Rattle.xlator_law.specs.Numbers.{wind_number, open_before}
use Rattle.xlator_law.specs.declared.winds.WindNo.{WindNo}
use Rattle.mount_log.specs.declared.logs.HubEvent.TheVariants as logged
use Rattle.mount_log.specs.declared.logs.Log.{Log}
use Rattle.mount_log.specs.declared.logs.ReplyLine.{ReplyLine}
use Rattle.mount_log.specs.declared.logs.SentLine.{SentLine}
use Rattle.mount_log.specs.declared.logs.WindLine.{WindLine}
use Rattle.mount_log.specs.Connections.{graph_of_call}
use Rattle.mount_log.specs.Follows.{IsEvent}
use Rattle.mount_log.specs.Graphs.{switches_in}
use Rattle.mount_log.specs.Submissions.{submitted_at}

-- ---- numbers of events

-- none is below the one before it, the first not below this one, and none above the last
abbrev pub do_rise : ℕ → ℕ → List ℕ → Bool
do_rise floor last [] = true
do_rise floor last (number ∷ numbers) = nat_le floor number && (nat_le number last && do_rise number last numbers)

-- what was sent has event 0 of the hub's making
pub record NumbersRise (log : Log) : Type 0 where
  pub sent : do_rise 0 (length log.events) (map (λ l. l.event) log.sent) ≡ true
  pub replies : do_rise 1 (length log.events) (map (λ r. r.event) log.replies) ≡ true
  pub winds : do_rise 1 (length log.events) (map (λ l. l.event) log.winds) ≡ true
  pub entered : do_rise 1 (length log.events) log.entered ≡ true
  pub answered : do_rise 1 (length log.events) log.answered ≡ true
  pub copied : do_rise 1 (length log.events) log.copied ≡ true
  pub skipped : do_rise 1 (length log.events) log.skipped ≡ true

-- ---- replies

-- a wind of the call ends in the event
pub record EndsIn (winds : List WindLine) (call number : ℕ) : Type 0 where
  pub place : ℕ
  pub line : WindLine
  pub there : slice_get winds place ≡ Some line
  pub is_end : line.opened ≡ false
  pub same_call : line.call ≡ call
  pub same_event : line.event ≡ number

-- A call is answered in the event in which a wind of it ends; or as it is submitted, without a fop: at no place, and with no
-- I/O error.
pub data IsAnsweredBy (log : Log) (reply : ReplyLine) : Type 0 where
  AtEnd : EndsIn log.winds reply.call reply.event → IsAnsweredBy log reply
  AtOnce : IsEvent log reply.event (logged.Submit reply.session reply.line) → reply.places ≡ [] → ((error : IoError) → reply.answer ≢ Io error) → IsAnsweredBy log reply

pub record IsReplyTied (log : Log) (reply : ReplyLine) : Type 0 where
  pub submitted : IsEvent log (submitted_at log reply.call) (logged.Submit reply.session reply.line)
  pub later : submitted_at log reply.call ≤ reply.event
  pub answered : IsAnsweredBy log reply

-- ---- winds

-- the call has its reply in the event of a line of its wind, or behind it
pub record IsBeforeReply (log : Log) (line : WindLine) : Type 0 where
  pub place : ℕ
  pub reply : ReplyLine
  pub there : slice_get log.replies place ≡ Some reply
  pub same_call : reply.call ≡ line.call
  pub earlier : line.event ≤ reply.event

-- a line of a call's wind is of the call's graph, not before the call's submission, and not behind its reply
pub record IsWindOfCall (log : Log) (line : WindLine) : Type 0 where
  pub later : submitted_at log line.call ≤ line.event
  pub earlier : IsBeforeReply log line
  pub graph_is : line.graph ≡ graph_of_call log line.call

pub record IsWindTied (log : Log) (line : WindLine) : Type 0 where
  pub made : line.graph ≤ 1 + length (switches_in (take line.event log.events))
  pub of_call : 1 ≤ line.call → IsWindOfCall log line

-- ---- requests

-- a lock and its unlock name the call
abbrev pub IsOfCall : ℕ → BrickReq → Type 0
IsOfCall call (req.Lock named shared cells) = named ≡ call
IsOfCall call (req.Unlock named) = named ≡ call
IsOfCall call (req.Mark change cells) = Unit {0}
IsOfCall call (req.Op change fd op) = Unit {0}
IsOfCall call (req.Post change cells mask) = Unit {0}
IsOfCall call (req.Fetch fd cell) = Unit {0}
IsOfCall call (req.Replace cell last content) = Unit {0}
IsOfCall call (req.Clear cells mask) = Unit {0}
IsOfCall call (req.Settle cells mask) = Unit {0}
IsOfCall call req.Index = Unit {0}
IsOfCall call (req.Open fd gfid) = Unit {0}
IsOfCall call (req.Release fd) = Unit {0}

abbrev pub IsOpen : BrickReq → Type 0
IsOpen (req.Open fd gfid) = Unit {0}
IsOpen (req.Lock call shared cells) = ⊥
IsOpen (req.Unlock call) = ⊥
IsOpen (req.Mark change cells) = ⊥
IsOpen (req.Op change fd op) = ⊥
IsOpen (req.Post change cells mask) = ⊥
IsOpen (req.Fetch fd cell) = ⊥
IsOpen (req.Replace cell last content) = ⊥
IsOpen (req.Clear cells mask) = ⊥
IsOpen (req.Settle cells mask) = ⊥
IsOpen req.Index = ⊥
IsOpen (req.Release fd) = ⊥

-- the line at a place among what was sent has the number of an opened wind, as its request or as the open before that
pub data HasNumberOf (opening : WindLine) (request_at open_at k number : ℕ) (request : BrickReq) : Type 0 where
  OfRequest : wind_number opening.wind ≡ number → request_at ≡ k → HasNumberOf opening request_at open_at k number request
  OfOpen : wind_number (open_before opening.wind) ≡ number → open_at ≡ k → IsOpen request → HasNumberOf opening request_at open_at k number request

-- the wind of a request was opened in the event, in the request's graph
pub record HasWind (log : Log) (request_at open_at : ℕ → ℕ) (k number graph event : ℕ) (request : BrickReq) : Type 0 where
  pub place : ℕ
  pub opening : WindLine
  pub there : slice_get log.winds place ≡ Some opening
  pub is_opening : opening.opened ≡ true
  pub same_event : opening.event ≡ event
  pub same_graph : opening.graph ≡ graph
  pub of_call : IsOfCall opening.call request
  pub number_is : HasNumberOf opening (request_at place) (open_at place) k number request

-- Where the request, and the open before it, are that were sent for the wind which is opened at a place of the wind lines.
pub record HaveWinds (log : Log) : Type 0 where
  pub request_at : ℕ → ℕ
  pub open_at : ℕ → ℕ
  pub each : (k number graph : ℕ) (line : SentLine) (request : BrickReq) → slice_get log.sent k ≡ Some line → input_in line.bytes ≡ message.Whole (Request number graph request)
      → HasWind log request_at open_at k number graph line.event request

-- ---- the ends of requests

-- a number on the wire is that of a wind, or of the open before its request
abbrev pub IsNumberOf : WindNo → ℕ → Type 0
IsNumberOf wind number = (wind_number wind ≡ number) ⊎ (wind_number (open_before wind) ≡ number)

-- a reply ends the wind, and so does Closed of the brick
abbrev pub EndsWind : WindNo → OutKind → Type 0
EndsWind wind (out.Reply number answer) = IsNumberOf wind number
EndsWind wind out.Closed = Unit {0}
EndsWind wind out.Opened = ⊥
EndsWind wind (out.Connected graph version) = ⊥
EndsWind wind (out.Malformed place) = ⊥

-- a wind that is open at a brick ends as that arrives, or as a Disconnect of its graph is sent there
pub data IsEndedBy (log : Log) (brick : ℕ) (ending : WindLine) : Type 0 where
  ByOutput : (bytes : List ℕ) (output : Output) → IsEvent log ending.event (logged.Arrive brick bytes) → output_in bytes ≡ message.Whole output → EndsWind ending.wind output.kind
      → IsEndedBy log brick ending
  ByDisconnect : (at : ℕ) (line : SentLine) → slice_get log.sent at ≡ Some line → line.event ≡ ending.event → line.brick ≡ brick → input_in line.bytes ≡ message.Whole (Disconnect ending.graph)
      → IsEndedBy log brick ending

-- the wind of a request to a brick ends in the request's graph
pub record HasEnd (log : Log) (brick number graph : ℕ) : Type 0 where
  pub place : ℕ
  pub ending : WindLine
  pub there : slice_get log.winds place ≡ Some ending
  pub is_end : ending.opened ≡ false
  pub same_graph : ending.graph ≡ graph
  pub of_wind : IsNumberOf ending.wind number
  pub by : IsEndedBy log brick ending

abbrev pub HaveEnds : Log → Type 0
HaveEnds log = (k number graph : ℕ) (line : SentLine) (request : BrickReq) → slice_get log.sent k ≡ Some line → input_in line.bytes ≡ message.Whole (Request number graph request) → HasEnd log line.brick number graph

-- ---- the log

pub record AreTied (log : Log) : Type 0 where
  pub numbers : NumbersRise log
  pub replies : (k : ℕ) (reply : ReplyLine) → slice_get log.replies k ≡ Some reply → IsReplyTied log reply
  pub winds : (k : ℕ) (line : WindLine) → slice_get log.winds k ≡ Some line → IsWindTied log line
  pub requests : HaveWinds log
  pub ends : HaveEnds log
