-- How far the sessions are in a script: which of its lines they have left, and which of them may submit its next one. Ours.
use Rattle.std.specs.Prelude.{ℕ, ◌+◌, ◌-◌, ◌^◌, ◌==◌, min, Bool, false, ◌&&◌, ◌||◌, not, List, [], ◌∷◌, length, Option, None, Some, slice_get, if◌then◌else◌}
use Rattle.script_lang.specs.declared.scripts.Phase.{Phase}
use Rattle.mount_log.specs.declared.logs.ReplyLine.{ReplyLine}
use Rattle.mount_log.specs.declared.places.LineAt.{LineAt}
use Rattle.mount_log.specs.Lines.{queue_of}
use Rattle.hub_tables.specs.SmallSets.{numbers_where, is_among}

-- the first line that a session has left
abbrev pub first_line : List (List LineAt) → ℕ → Option LineAt
first_line lines session = slice_get (queue_of lines session) 0

abbrev pub is_of_phase : ℕ → Option LineAt → Bool
is_of_phase phase None = false
is_of_phase phase (Some at) = at.phase == phase

-- whether it is one of this phase
abbrev pub has_line : List (List LineAt) → ℕ → ℕ → Bool
has_line lines phase session = is_of_phase phase (first_line lines session)

-- the current phase; the sessions that may submit, rising; and how many calls of the phase have no reply
pub record ProgressState : Type 0 where
  pub phase : ℕ
  pub ready : List ℕ
  pub unanswered : ℕ

-- a session that submits a call may not do so again
abbrev pub after_submission : ProgressState → ℕ → ProgressState
after_submission p session = record p { ready = numbers_where (λ s. not (session == s) && is_among s p.ready) }

-- a session that has its reply may submit again, where its first line that is left, if it has one, is of the phase
abbrev pub after_reply : (ℕ → Option LineAt) → ProgressState → ℕ → ProgressState
after_reply next p session = record p {
  ready = if is_of_phase p.phase (next session) then numbers_where (λ s. (session == s) || is_among s p.ready) else p.ready;
  unanswered = p.unanswered - 1;
}

abbrev pub after_replies : (ℕ → Option LineAt) → ProgressState → List ReplyLine → ProgressState
after_replies next p [] = p
after_replies next p (line ∷ lines) = after_replies next (after_reply next p line.session) lines

-- the current phase begins: the sessions that have a line in it may submit
abbrev pub begun : (ℕ → Option LineAt) → ProgressState → Phase → ProgressState
begun next p phase = record p { ready = numbers_where (λ s. is_of_phase p.phase (next s)); unanswered = min (length phase.calls) 4294967295 }

-- the current phase has ended
abbrev pub behind : ProgressState → ProgressState
behind p = record p { phase = min (p.phase + 1) (2 ^ 32 - 1); ready = [] }
