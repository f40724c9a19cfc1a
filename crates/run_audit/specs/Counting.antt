-- Numbers of events that do not fall, and how many of them there are up to one.
use Rattle.std.specs.Prelude.{◌≡◌, ℕ, ◌+◌, ◌<◌, ◌≤◌, ◌&&◌, nat_le, Bool, true, false, List, [], ◌∷◌, Some, length, map, slice_get, take, if◌then◌else◌}
use Rattle.script_lang.specs.Accepted.{calls_of}
use Rattle.script_lang.specs.declared.scripts.Script.{Script}
use Rattle.mount_log.specs.Phases.{internal_from, owed_in, arrived_from, opened_in, ended_in, HasNothingElse}
use Rattle.mount_log.specs.Submissions.{count_below}
use Rattle.mount_log.specs.declared.logs.Log.{Log}
use Rattle.mount_log.specs.declared.heads.Head.{Head}
use Rattle.mount_log.specs.declared.heads.Said.{Said}
use Rattle.mount_log.specs.declared.heads.Said.TheVariants as said
use Rattle.run_audit.specs.Noted.{ended_at}
use Rattle.run_audit.specs.declared.numbers.Numbers.{Numbers}

-- none is below the one before it, the first not below this one
abbrev pub does_rise : ℕ → List ℕ → Bool
does_rise floor [] = true
does_rise floor (n ∷ ns) = nat_le floor n && does_rise n ns

abbrev pub DoNotFall : List ℕ → Type 0
DoNotFall numbers = does_rise 0 numbers ≡ true

-- the first m of these numbers, and no other, are at most n
pub record IsCut (numbers : List ℕ) (n m : ℕ) : Type 0 where
  pub few : m ≤ length numbers
  pub low : (i a : ℕ) → i < m → slice_get numbers i ≡ Some a → a ≤ n
  pub high : (i a : ℕ) → m ≤ i → slice_get numbers i ≡ Some a → n < a

-- and those from `high` on are not; those between were not looked at
pub record IsBetween (numbers : List ℕ) (n low high : ℕ) : Type 0 where
  pub order : low ≤ high
  pub few : high ≤ length numbers
  pub below : (i a : ℕ) → i < low → slice_get numbers i ≡ Some a → a ≤ n
  pub above : (i a : ℕ) → high ≤ i → slice_get numbers i ≡ Some a → n < a

-- the events in which the output of a request, a Down or an Up arrived, by the heads of what arrived
abbrev pub is_due_head : Said → Bool
is_due_head said.Other = false
is_due_head (said.Reply wind) = true
is_due_head (said.Gone wind) = true
is_due_head said.Closed = true
is_due_head said.Opened = true

abbrev pub due_from : ℕ → List Head → List ℕ
due_from number [] = []
due_from number (head ∷ heads) = if is_due_head head.said then number ∷ due_from (number + 1) heads else due_from (number + 1) heads

-- nothing is known but the answers of heals and switches
abbrev pub with_answers : List ℕ → Numbers
with_answers answered = record { replied = []; internal = []; answered = answered; owed = []; arrived = []; opened = []; ended = [] }

-- the numbers of events of a log
pub record AreNumbers (log : Log) (numbers : Numbers) : Type 0 where
  pub replied : numbers.replied ≡ map (λ r. r.event) log.replies
  pub internal : numbers.internal ≡ internal_from 1 log.events
  pub answered : numbers.answered ≡ log.answered
  pub owed : numbers.owed ≡ owed_in log.sent
  pub arrived : numbers.arrived ≡ arrived_from 1 log.events
  pub opened : numbers.opened ≡ opened_in log.winds
  pub ended : numbers.ended ≡ ended_in log.winds

pub record DoAllRise (numbers : Numbers) : Type 0 where
  pub replied : DoNotFall numbers.replied
  pub internal : DoNotFall numbers.internal
  pub answered : DoNotFall numbers.answered
  pub owed : DoNotFall numbers.owed
  pub arrived : DoNotFall numbers.arrived
  pub opened : DoNotFall numbers.opened
  pub ended : DoNotFall numbers.ended

-- after so many events, nothing else is left of the phases up to this one
pub record IsSettled (script : Script) (numbers : Numbers) (phase number : ℕ) : Type 0 where
  pub replied : length (calls_of (take (phase + 1) script.phases)) ≤ count_below (number + 1) numbers.replied
  pub internal : count_below (number + 1) numbers.internal ≡ count_below (number + 1) numbers.answered
  pub outputs : count_below (number + 1) numbers.owed ≡ count_below (number + 1) numbers.arrived
  pub winds : count_below (number + 1) numbers.opened ≡ count_below (number + 1) numbers.ended

-- each phase is settled at its end, and with the last one the log ends
pub record AreSettled (script : Script) (numbers : Numbers) (ended : List ℕ) (last : ℕ) : Type 0 where
  pub each : (phase : ℕ) → phase ≤ length script.phases → IsSettled script numbers phase (ended_at ended last phase)
  pub all : ended_at ended last (length script.phases) ≡ last

-- an act has its answer, not before it and before the next act
pub record IsAnsweredAt (acts answers : List ℕ) (i : ℕ) : Type 0 where
  pub later : (act answer : ℕ) → slice_get acts i ≡ Some act → slice_get answers i ≡ Some answer → act ≤ answer
  pub before_next : (answer next : ℕ) → slice_get answers i ≡ Some answer → slice_get acts (i + 1) ≡ Some next → answer < next

pub record AreAnsweredBy (acts answers : List ℕ) : Type 0 where
  pub many : length answers ≡ length acts
  pub each : (i : ℕ) → i < length acts → IsAnsweredAt acts answers i
