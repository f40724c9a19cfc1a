-- What contracts see of a brick: its inputs, the names under which it shows the replicas of its set, in their order, and
-- whether it ran out of memory, after which it serves nothing.
use Rattle.std.specs.Prelude.{ℕ, Bool, List}

pub record Journal : Type 0 where
  pub journal : List (List ℕ)
  pub names : List (List ℕ)
  pub spent : Bool
