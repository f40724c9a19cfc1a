-- What was written of a text with its report, where the source and the sink show their bytes: the line of its verdict or its
-- one fault line, the whole of it, or a prefix and not all.
use Rattle.std.specs.Prelude.{ℕ, List, Option}
use Rattle.std.specs.Io.KnownBytes.{Appends}
use Rattle.xl_base.specs.Writes.{WrotePrefix}
use Rattle.script_commands.specs.Readings.{IsRead}
use Rattle.script_commands.specs.Replays.{IsVerdictOf, IsReplayFault}

-- a script with its report was judged, and the line of the verdict was written
pub record VerdictIsWritten (status : ℕ) (known taken taken_after : Option (List ℕ)) : Type 0 where
  pub text : List ℕ
  pub line : List ℕ
  pub is_text : IsRead known text
  pub judged : IsVerdictOf text line status
  pub wrote : Appends taken taken_after line

pub record VerdictIsCutShort (known taken taken_after : Option (List ℕ)) : Type 0 where
  pub text : List ℕ
  pub line : List ℕ
  pub status : ℕ
  pub is_text : IsRead known text
  pub judged : IsVerdictOf text line status
  pub wrote : WrotePrefix taken taken_after line

-- a text with its report was not judged, and its one fault line was written
pub record FaultIsWritten (known taken taken_after : Option (List ℕ)) : Type 0 where
  pub text : List ℕ
  pub fault : List ℕ
  pub is_text : IsRead known text
  pub is_fault : IsReplayFault text fault
  pub wrote : Appends taken taken_after fault

pub record FaultIsCutShort (known taken taken_after : Option (List ℕ)) : Type 0 where
  pub text : List ℕ
  pub fault : List ℕ
  pub is_text : IsRead known text
  pub is_fault : IsReplayFault text fault
  pub wrote : WrotePrefix taken taken_after fault
