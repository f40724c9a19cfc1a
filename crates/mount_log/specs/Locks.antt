-- The lock requests of a call. A lock phase asks the replicas of a set one after another, each at most once and in their
-- order. Where a call asks one that is not behind the one before, its next lock phase has begun.
use Rattle.std.specs.Prelude.{◌≡◌, ℕ, ◌<◌, ◌≤◌, Bool, List, Some, slice_get}
use Rattle.fop_types.specs.declared.cells.Cell.{Cell}
use Rattle.fop_types.specs.declared.jobs.SetPlan.{SetPlan}
use Rattle.fop_types.specs.declared.messages.BrickReq.TheVariants.{Lock}
use Rattle.fop_types.specs.declared.messages.Input.TheVariants.{Request}
use Rattle.wire_messages.specs.Messages.{input_in}
use Rattle.wire_messages.specs.declared.messages.Message.TheVariants.{Whole}
use Rattle.mount_log.specs.declared.logs.Log.{Log}
use Rattle.mount_log.specs.declared.logs.SentLine.{SentLine}

-- at this place among what was sent, the call asks a brick for a lock of these cells, under a wind of this number
pub record IsLock (log : Log) (call at brick wind : ℕ) (cells : List Cell) : Type 0 where
  pub line : SentLine
  pub there : slice_get log.sent at ≡ Some line
  pub brick_is : line.brick ≡ brick
  pub graph : ℕ
  pub shared : Bool
  pub read : input_in line.bytes ≡ Whole (Request wind graph (Lock call shared cells))

-- there the call asks a replica of the set for a lock
pub record IsAsked (log : Log) (plan : SetPlan) (call at replica : ℕ) : Type 0 where
  pub brick : ℕ
  pub brick_is : slice_get plan.bricks replica ≡ Some brick
  pub wind : ℕ
  pub cells : List Cell
  pub lock : IsLock log call at brick wind cells

-- From this place on the call asks replicas of the set in their order, each at most once: in its last lock phase.
abbrev pub IsLastPhase : Log → SetPlan → ℕ → ℕ → Type 0
IsLastPhase log plan call from =
    (i k low high : ℕ) → from ≤ i → i < k → IsAsked log plan call i low → IsAsked log plan call k high → low < high
