-- The log as lists that grow at their ends: the events, what was sent, the replies, the history, the winds, the copies and
-- the skips; and what an event's lines make of it. Ours.
use Rattle.std.specs.Prelude.{◌≡◌, ℕ, ◌+◌, ◌≤◌, List, [], ◌∷◌, ◌++◌, length, map, take}
use Rattle.fop_types.specs.declared.causes.SkipCause.{SkipCause}
use Rattle.fop_types.specs.declared.cells.Cell.{Cell}
use Rattle.fop_types.specs.declared.copy_jobs.CopyRecord.{CopyRecord}
use Rattle.fop_types.specs.declared.history.Entry.{Entry}
use Rattle.frame_stack.specs.Stack.{Line}
use Rattle.mount_log.specs.declared.logs.HubEvent.{HubEvent}
use Rattle.mount_log.specs.declared.logs.HubEvent.TheVariants as event
use Rattle.mount_log.specs.declared.logs.Log.{Log}
use Rattle.mount_log.specs.declared.logs.ReplyLine.{ReplyLine}
use Rattle.mount_log.specs.declared.logs.SentLine.{SentLine}
use Rattle.mount_log.specs.declared.logs.WindLine.{WindLine}

abbrev pub empty_log : Log
empty_log = record {
  events = [];
  sent = [];
  replies = [];
  history = [];
  entered = [];
  answered = [];
  winds = [];
  copies = [];
  copied = [];
  skips = [];
  skipped = [];
}

-- ---- one line more

abbrev pub with_event : Log → HubEvent → Log
with_event log e = record log { events = log.events ++ e ∷ [] }

abbrev pub with_sent : Log → SentLine → Log
with_sent log line = record log { sent = log.sent ++ line ∷ [] }

-- the log with the bytes that an event sends to a brick
abbrev pub sends : Log → ℕ → ℕ → List ℕ → Log
sends log number brick bytes = with_sent log (record { event = number; brick = brick; bytes = bytes })

abbrev pub with_reply : Log → ReplyLine → Log
with_reply log reply = record log { replies = log.replies ++ reply ∷ [] }

abbrev pub with_answered : Log → ℕ → Log
with_answered log number = record log { answered = log.answered ++ number ∷ [] }

-- the line of a wind that a graph opened or ended in an event
abbrev pub wind_line : ℕ → ℕ → Line → WindLine
wind_line number graph line = record { event = number; graph = graph; call = line.1; wind = line.0; opened = line.2 }

abbrev pub with_winds : Log → ℕ → ℕ → List Line → Log
with_winds log number graph lines = record log { winds = log.winds ++ map (wind_line number graph) lines }

-- the number of one event for each of these
abbrev pub same_number : {T : Type 0} → ℕ → List T → List ℕ
same_number number xs = map (λ _. number) xs

abbrev pub with_copies : Log → ℕ → List CopyRecord → Log
with_copies log number copies = record log { copies = log.copies ++ copies; copied = log.copied ++ same_number number copies }

abbrev pub with_skips : Log → ℕ → List (Cell × SkipCause) → Log
with_skips log number skips = record log { skips = log.skips ++ skips; skipped = log.skipped ++ same_number number skips }

abbrev pub with_entries : Log → ℕ → List Entry → Log
with_entries log number entries = record log { history = log.history ++ entries; entered = log.entered ++ same_number number entries }

-- ---- the lines of an event

-- the log with the lines of a whole event at its end
abbrev pub with_lines : Log → Log → Log
with_lines log lines = record {
  events = log.events ++ lines.events;
  sent = log.sent ++ lines.sent;
  replies = log.replies ++ lines.replies;
  history = log.history ++ lines.history;
  entered = log.entered ++ lines.entered;
  answered = log.answered ++ lines.answered;
  winds = log.winds ++ lines.winds;
  copies = log.copies ++ lines.copies;
  copied = log.copied ++ lines.copied;
  skips = log.skips ++ lines.skips;
  skipped = log.skipped ++ lines.skipped;
}

-- the log with the winds alone of an event that was cut
abbrev pub with_cut : Log → Log → Log
with_cut log lines = record log { winds = log.winds ++ lines.winds }

-- ---- what a log has

abbrev pub is_submit : HubEvent → ℕ
is_submit (event.Submit session line) = 1
is_submit (event.Arrive brick bytes) = 0
is_submit (event.Run graph task) = 0
is_submit (event.Act action) = 0
is_submit (event.Arm brick proc count action) = 0

-- how many calls were submitted
abbrev pub submits_in : List HubEvent → ℕ
submits_in [] = 0
submits_in (e ∷ es) = is_submit e + submits_in es

-- what the log and the lines of the event under way agree in with the ledger, between two moves of an event: each entry,
-- copy and skip has its event; the entries so far are the ledger's first ones; and each call that was submitted is counted
pub record LogAgrees (log lines : Log) (history : List Entry) (submitted : ℕ) : Type 0 where
  pub entered : length log.entered ≡ length log.history
  pub copied : length log.copied ≡ length log.copies
  pub skipped : length log.skipped ≡ length log.skips
  pub entries : log.history ≡ take (length log.history) history
  pub none : (lines.history ≡ []) × (lines.entered ≡ [])
  pub counted : submits_in log.events + submits_in lines.events ≡ submitted
  pub one : length lines.events ≤ 1

-- between two events nothing is left of the lines, and the log has the whole history
pub record LogIsWhole (log lines : Log) (history : List Entry) : Type 0 where
  pub empty : lines ≡ empty_log
  pub entries : log.history ≡ history
