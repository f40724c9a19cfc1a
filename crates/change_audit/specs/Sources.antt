-- The size of a set whose sound replicas are asked for.
use Rattle.std.specs.Prelude.{◌≡◌, ℕ, ◌+◌, ◌/◌, ◌%◌, ◌≤◌}

-- so many replicas, an odd number, and the majority of them
pub record IsSized (n q : ℕ) : Type 0 where
  pub odd : n % 2 ≡ 1
  pub few : n ≤ 5
  pub majority : q ≡ (n + 1) / 2
