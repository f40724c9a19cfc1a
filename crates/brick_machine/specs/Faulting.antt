-- How many requests of each procedure were served, in the order of procedures, and which are to fail.
use Rattle.std.specs.Prelude.{ℕ, List}
use Rattle.brick_machine.specs.declared.faults.Failing.{Failing}

pub record Faulting : Type 0 where
  pub served : List ℕ
  pub failing : List Failing
