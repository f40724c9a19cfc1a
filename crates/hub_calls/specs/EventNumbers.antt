-- The lines of an event, each with its number, which they get as it is closed. Ours.
use Rattle.std.specs.Prelude.{◌≡◌, ℕ, ◌+◌, [], ◌∷◌, length, map}
use Rattle.std.specs.List.{All}
use Rattle.xlator_law.specs.declared.winds.Stop.{Stop}
use Rattle.xlator_law.specs.declared.winds.Stop.TheVariants as stopped
use Rattle.mount_log.specs.Logs.{same_number, with_cut}
use Rattle.mount_log.specs.declared.logs.HubEvent.{HubEvent}
use Rattle.mount_log.specs.declared.logs.Log.{Log}
use Rattle.mount_log.specs.declared.logs.ReplyLine.{ReplyLine}
use Rattle.mount_log.specs.declared.logs.SentLine.{SentLine}
use Rattle.mount_log.specs.declared.logs.WindLine.{WindLine}
use Rattle.hub_tables.specs.Agendas.{outgoing}
use Rattle.hub_tables.specs.PhaseControls.{ControlsState}

-- an input, a reply or a wind as a line of the event with this number
abbrev pub sent_in : ℕ → SentLine → SentLine
sent_in number line = record line { event = number }

abbrev pub reply_in : ℕ → ReplyLine → ReplyLine
reply_in number line = record line { event = number }

abbrev pub wind_in : ℕ → WindLine → WindLine
wind_in number line = record line { event = number }

-- these lines, as many as they are, as lines of the event with this number; each entry, copy and skip gets it too
unfoldable pub numbered : ℕ → Log → Log
numbered number lines = record lines {
  sent = map (sent_in number) lines.sent;
  replies = map (reply_in number) lines.replies;
  entered = same_number number lines.history;
  answered = same_number number lines.answered;
  winds = map (wind_in number) lines.winds;
  copied = same_number number lines.copies;
  skipped = same_number number lines.skips;
}

-- whether each of these entries, copies and skips has the number of its event
pub record HaveEvents (lines : Log) : Type 0 where
  pub entries : length lines.entered ≡ length lines.history
  pub copies : length lines.copied ≡ length lines.copies
  pub skips : length lines.skipped ≡ length lines.skips

-- whether each of these lines has the number of one event, and so each entry, copy and skip
pub record AreOfEvent (number : ℕ) (lines : Log) : Type 0 where
  pub sent : All (λ (line : SentLine). line.event ≡ number) lines.sent
  pub replies : All (λ (line : ReplyLine). line.event ≡ number) lines.replies
  pub entered : All (λ (n : ℕ). n ≡ number) lines.entered
  pub answered : All (λ (n : ℕ). n ≡ number) lines.answered
  pub winds : All (λ (line : WindLine). line.event ≡ number) lines.winds
  pub copied : All (λ (n : ℕ). n ≡ number) lines.copied
  pub skipped : All (λ (n : ℕ). n ≡ number) lines.skipped
  pub each : HaveEvents lines

-- these lines, where what goes out for what was sent is sent; these are the controls with which their event has begun
unfoldable pub going_out : ControlsState → Log → Log
going_out controls lines = record lines { sent = outgoing controls lines.sent }

-- the lines with which an event is written behind those of a log: what it has made, with its number, and the event
abbrev pub written_lines : ControlsState → Log → Log → HubEvent → Log
written_lines controls log lines e = record (going_out controls (numbered (length log.events + 1) lines)) { events = e ∷ [] }

-- the log after an event was cut that had made these lines: it has their winds more, with the number of the event, where the hub
-- stops as no wind is left, and is as it was where memory has run out
abbrev pub IsCutOff : Stop → Log → Log → Log → Type 0
IsCutOff stopped.Mem lines old new = new ≡ old
IsCutOff stopped.Winds lines old new = new ≡ with_cut old (numbered (length old.events + 1) lines)
