-- What a source and a sink in memory do, so that a run over them is known call by call. Calls are
-- counted from 1; counts stay at the last value of 64 bits.
use Rattle.std.specs.Prelude.{ℕ, ◌-◌, ◌==◌, ◌&&◌, ◌||◌, nat_lt, nat_le, min, Bool, if◌then◌else◌, List, ◌++◌, length, take, drop}
use Rattle.std.specs.List.{list_any}
use Rattle.xl_base.specs.Faults.{raised}

abbrev pub is_listed : List ℕ → ℕ → Bool
is_listed numbers number = list_any (λ n. n == number) numbers

-- `left` is what was not read, and `fail` has the numbers of the calls that fail
pub record SourceState : Type 0 where
  pub left : List ℕ
  pub fail : List ℕ
  pub calls : ℕ
  pub faults : ℕ

-- whether the next read fails
abbrev pub read_fails : SourceState → Bool
read_fails s = is_listed s.fail (raised s.calls)

-- how many bytes a read into so many places gives
abbrev pub read_count : SourceState → ℕ → ℕ
read_count s places = min places (length s.left)

abbrev pub after_read : SourceState → ℕ → SourceState
after_read s places =
    if read_fails s then record s { calls = raised s.calls; faults = raised s.faults }
    else record s { calls = raised s.calls; left = drop (read_count s places) s.left }

-- `taken` is what was written, of at most `room` bytes
pub record SinkState : Type 0 where
  pub taken : List ℕ
  pub room : ℕ
  pub fail : List ℕ
  pub calls : ℕ
  pub faults : ℕ

-- whether the next write fails: its number is listed, or the piece has bytes and none of them fits
abbrev pub write_fails : SinkState → List ℕ → Bool
write_fails s piece = is_listed s.fail (raised s.calls) || (nat_lt 0 (length piece) && nat_le s.room (length s.taken))

-- how many bytes of the piece fit
abbrev pub write_count : SinkState → List ℕ → ℕ
write_count s piece = min (length piece) (s.room - length s.taken)

abbrev pub after_write : SinkState → List ℕ → SinkState
after_write s piece =
    if write_fails s piece then record s { calls = raised s.calls; faults = raised s.faults }
    else record s { calls = raised s.calls; taken = s.taken ++ take (write_count s piece) piece }
