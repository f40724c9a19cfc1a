-- Requests by their numbers in a phase: counts by brick and procedure, each of its last phase.
use Rattle.std.specs.Prelude.{◌≡◌, ℕ, ◌+◌, ◌*◌, ◌^◌, ◌<◌, ◌≤◌, ◌==◌, ◌⊎◌, true, List, Option, None, Some, length, map, slice_get, slice_set, take, if◌then◌else◌}
use Rattle.mount_log.specs.Arms.{requests_since}
use Rattle.mount_log.specs.Procedures.{rank_in}
use Rattle.mount_log.specs.Ties.{do_rise}
use Rattle.mount_log.specs.declared.logs.SentLine.{SentLine}
use Rattle.run_audit.specs.Noted.{ended_at, begun, IsWithin}
use Rattle.run_audit.specs.declared.nth_requests.PhaseCount.{PhaseCount}

-- the count of a phase
abbrev pub held : ℕ → Option PhaseCount → ℕ
held phase None = 0
held phase (Some found) = if found.phase == phase then found.count else 0

abbrev pub cell_of : ℕ → ℕ → ℕ
cell_of brick rank = brick * 256 + rank

abbrev pub AreZero : List PhaseCount → Type 0
AreZero counts = (i : ℕ) (found : PhaseCount) → slice_get counts i ≡ Some found → (found.phase ≡ 0) × (found.count ≡ 0)

-- these lines were passed, the last ones in a phase and none behind this event
pub record HaveCounts (ended : List ℕ) (last : ℕ) (lines : List SentLine) (phase floor : ℕ) (counts : List PhaseCount) : Type 0 where
  pub many : length counts ≡ 65536
  pub early : (i : ℕ) (found : PhaseCount) → slice_get counts i ≡ Some found → found.phase ≤ phase
  pub low : (j : ℕ) (line : SentLine) → slice_get lines j ≡ Some line → line.event ≤ floor
  pub until : floor ≤ ended_at ended last phase
  pub counts_are : (brick rank : ℕ) → brick < 256 → rank < 256 → requests_since (begun ended last phase) brick rank lines ≡ held phase (slice_get counts (cell_of brick rank))

-- a request is counted as number n
pub record IsOneMore (ended : List ℕ) (last phase rank : ℕ) (line : SentLine) (old : List PhaseCount) (n : ℕ) (new : List PhaseCount) : Type 0 where
  pub behind : begun ended last phase < line.event
  pub brick_fits : line.brick < 256
  pub rank_fits : rank < 256
  pub count : n ≡ held phase (slice_get old (cell_of line.brick rank)) + 1
  pub counts : new ≡ slice_set old (cell_of line.brick rank) (record { phase = phase; count = n })

abbrev pub IsCountedBy : Option ℕ → List ℕ → ℕ → ℕ → SentLine → List PhaseCount → ℕ → List PhaseCount → Type 0
IsCountedBy None ended last phase line old n new = new ≡ old
IsCountedBy (Some rank) ended last phase line old n new = IsOneMore ended last phase rank line old n new

abbrev pub IsCounted : List ℕ → ℕ → ℕ → SentLine → List PhaseCount → ℕ → List PhaseCount → Type 0
IsCounted ended last phase line old n new = IsCountedBy (rank_in line.bytes) ended last phase line old n new

-- there is no number for one request more
pub record AreTooMany (phase rank : ℕ) (line : SentLine) (old : List PhaseCount) : Type 0 where
  pub brick_fits : line.brick < 256
  pub rank_fits : rank < 256
  pub many : 2 ^ 64 ≤ held phase (slice_get old (cell_of line.brick rank)) + 1

-- a request has no number: it is not behind the phases before, or there are too many
pub record HasNoNumber (ended : List ℕ) (last phase : ℕ) (line : SentLine) (old : List PhaseCount) : Type 0 where
  pub rank : ℕ
  pub rank_is : rank_in line.bytes ≡ Some rank
  pub is : (line.event ≤ begun ended last phase) ⊎ AreTooMany phase rank line old

-- lines are in the order of their events, none behind the last one; and a request was sent in an event, from 1
pub record AreInEvents (last : ℕ) (sent : List SentLine) : Type 0 where
  pub rises : do_rise 0 last (map (λ l. l.event) sent) ≡ true
  pub requests : (k rank : ℕ) (line : SentLine) → slice_get sent k ≡ Some line → rank_in line.bytes ≡ Some rank → 1 ≤ line.event

-- the line at a place is number n, if it is a request
abbrev pub IsNthOf : List ℕ → ℕ → List SentLine → ℕ → ℕ → SentLine → Type 0
IsNthOf ended last sent k n line =
    (phase rank : ℕ) → IsWithin ended last phase line.event → rank_in line.bytes ≡ Some rank → requests_since (begun ended last phase) line.brick rank (take (k + 1) sent) ≡ n

abbrev pub AreNth : List ℕ → ℕ → List SentLine → List ℕ → Type 0
AreNth ended last sent nth = (k n : ℕ) → slice_get nth k ≡ Some n → (line : SentLine) → slice_get sent k ≡ Some line → IsNthOf ended last sent k n line
