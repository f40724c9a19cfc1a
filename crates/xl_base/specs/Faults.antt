-- When a read or a write may fail. A source or sink counts its faults in 64 bits, and the count stays
-- at its last value, so a failure shows as a rise of the count unless it was there.
use Rattle.std.specs.Prelude.{◌≡◌, ℕ, ◌+◌, ◌-◌, ◌^◌, ◌<◌, ◌⊎◌, min, Result, OnErr, is_err, if◌then◌else◌}

abbrev pub HasCause : {A E : Type 0} → ℕ → ℕ → Result A E → Type 0
HasCause before after r = OnErr r ((before ≡ 2 ^ 64 - 1) ⊎ (before < after))

-- a count of 64 bits after one more
abbrev pub raised : ℕ → ℕ
raised n = min (n + 1) (2 ^ 64 - 1)

-- the count of faults after an answer: one more where it failed, and the same where it did not
abbrev pub faults_after : {A E : Type 0} → ℕ → Result A E → ℕ
faults_after before r = if is_err r then raised before else before
