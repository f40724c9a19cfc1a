-- The counters of a changelog row: dirty, and one of accusations for each replica. They are counted
-- up to 2147483647, and one that has come there stays until it is set to zero.
use Rattle.std.specs.Prelude.{ℕ, ◌+◌, ◌-◌, ◌==◌, if◌then◌else◌}

-- the highest count
abbrev pub full_count : ℕ
full_count = 2147483647

-- one more, but at the highest count
abbrev pub raised : ℕ → ℕ
raised counter = if counter == full_count then counter else counter + 1

-- one less, but at zero and at the highest count
abbrev pub lowered : ℕ → ℕ
lowered counter = if counter == full_count then counter else counter - 1
