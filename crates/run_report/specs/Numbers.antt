-- Where the first reply to each call is, by the calls' numbers, from 1.
use Rattle.std.specs.Prelude.{◌≡◌, ℕ, ◌+◌, zero, suc, ◌<◌, List, Option, None, Some, length, slice_get, slice_set}
use Rattle.mount_log.specs.declared.logs.ReplyLine.{ReplyLine}
use Rattle.run_report.specs.Reports.{reply_to}

-- a place is noted where none is
abbrev pub noted_at : List (Option ℕ) → ℕ → ℕ → Option (Option ℕ) → List (Option ℕ)
noted_at places index at None = places
noted_at places index at (Some (Some before)) = places
noted_at places index at (Some None) = slice_set places index (Some at)

abbrev pub noted : List (Option ℕ) → ℕ → ℕ → List (Option ℕ)
noted places zero at = places
noted places (suc index) at = noted_at places index at (slice_get places index)

abbrev pub reply_at : List ReplyLine → Option ℕ → Option ReplyLine
reply_at replies None = None
reply_at replies (Some at) = slice_get replies at

pub record AreByNumber (many : ℕ) (replies : List ReplyLine) (places : List (Option ℕ)) : Type 0 where
  pub long : length places ≡ many
  pub each : (index : ℕ) (place : Option ℕ) → slice_get places index ≡ Some place → reply_at replies place ≡ reply_to (index + 1) replies
  pub known : (index at : ℕ) → slice_get places index ≡ Some (Some at) → at < length replies
