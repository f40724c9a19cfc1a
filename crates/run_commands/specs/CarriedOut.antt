-- What `check`, `gen` and `replay` did, and what was written of a refusal, by any command. Where the source and the sink show
-- their bytes, the text is what was read and the bytes written are named.
use Rattle.std.specs.Prelude.{◌≡◌, ℕ, List, Option, Ok}
use Rattle.std.specs.Io.KnownBytes.{Appends}
use Rattle.xl_base.specs.Writes.{WrotePrefix}
use Rattle.hub_calls.specs.declared.racks.Rack.{Rack}
use Rattle.script_commands.specs.Checks.{check_text}
use Rattle.script_commands.specs.Plans.{accepted}
use Rattle.script_commands.specs.Readings.{IsRead, IsRefused}
use Rattle.script_commands.specs.Refusals.{fault_text}
use Rattle.script_commands.specs.Verdicts.{VerdictIsWritten, VerdictIsCutShort, FaultIsWritten, FaultIsCutShort}
use Rattle.script_commands.specs.declared.plans.Accepted.{Accepted}
use Rattle.script_commands.specs.declared.refusals.Refusal.{Refusal}
use Rattle.run_judge.specs.Stopped.{IsStopped}
use Rattle.run_commands.specs.Seeds.{IsSeeded}
use Rattle.run_commands.specs.Written.{empty_rack, IsSummedUp, IsSummedUpShort}

-- a script was checked, and its one line was written
pub record Checked (known taken taken_after : Option (List ℕ)) (rack : Rack) : Type 0 where
  pub text : List ℕ
  pub read : Accepted
  pub is_text : IsRead known text
  pub accepted_as : accepted text ≡ Ok read
  pub wrote : Appends taken taken_after (check_text read.script)
  pub empty : rack ≡ empty_rack

-- some accepted script was run by the schedule of this number, and the line that sums it up was written; which script a number
-- generates is not said
pub record Generated (number : ℕ) (taken taken_after : Option (List ℕ)) (rack : Rack) : Type 0 where
  pub text : List ℕ
  pub read : Accepted
  pub accepted_as : accepted text ≡ Ok read
  pub summed : IsSummedUp read.script read.plans number taken taken_after rack
  pub seeded : IsSeeded number read.script read.plans rack

-- a script with its report was judged, and the line of the verdict was written
pub record Judged (status : ℕ) (known taken taken_after : Option (List ℕ)) (rack : Rack) : Type 0 where
  pub verdict : VerdictIsWritten status known taken taken_after
  pub empty : rack ≡ empty_rack

-- ---- refusals

-- the text was refused, by its first refusal, and its one line was written
pub record Refused (known taken taken_after : Option (List ℕ)) (rack : Rack) : Type 0 where
  pub refusal : Refusal
  pub first : IsRefused known refusal
  pub wrote : Appends taken taken_after (fault_text refusal)
  pub empty : rack ≡ empty_rack

-- a text with its report was not judged, and its one fault line was written
pub record RefusedLine (known taken taken_after : Option (List ℕ)) (rack : Rack) : Type 0 where
  pub line : FaultIsWritten known taken taken_after
  pub empty : rack ≡ empty_rack

-- ---- out of winds

-- the text is accepted, and its run needed a wind too many
pub record WindsRanOut (known : Option (List ℕ)) (rack : Rack) : Type 0 where
  pub text : List ℕ
  pub read : Accepted
  pub is_text : IsRead known text
  pub accepted_as : accepted text ≡ Ok read
  pub stopped : IsStopped read.script rack.log rack.bricks

-- ---- a sink that failed: a prefix of what is to be written was, and not all of it

pub record CheckedUnwritten (known taken taken_after : Option (List ℕ)) (rack : Rack) : Type 0 where
  pub text : List ℕ
  pub read : Accepted
  pub is_text : IsRead known text
  pub accepted_as : accepted text ≡ Ok read
  pub wrote : WrotePrefix taken taken_after (check_text read.script)
  pub empty : rack ≡ empty_rack

pub record GeneratedUnwritten (number : ℕ) (taken taken_after : Option (List ℕ)) (rack : Rack) : Type 0 where
  pub text : List ℕ
  pub read : Accepted
  pub accepted_as : accepted text ≡ Ok read
  pub summed : IsSummedUpShort read.script read.plans number taken taken_after rack
  pub seeded : IsSeeded number read.script read.plans rack

pub record JudgedUnwritten (known taken taken_after : Option (List ℕ)) (rack : Rack) : Type 0 where
  pub verdict : VerdictIsCutShort known taken taken_after
  pub empty : rack ≡ empty_rack

pub record RefusedLineUnwritten (known taken taken_after : Option (List ℕ)) (rack : Rack) : Type 0 where
  pub line : FaultIsCutShort known taken taken_after
  pub empty : rack ≡ empty_rack

pub record RefusedUnwritten (known taken taken_after : Option (List ℕ)) (rack : Rack) : Type 0 where
  pub refusal : Refusal
  pub first : IsRefused known refusal
  pub wrote : WrotePrefix taken taken_after (fault_text refusal)
  pub empty : rack ≡ empty_rack
