-- A list of the log, with what is to be added to it, and whether it has room for that. Ours.
use Rattle.std.specs.Prelude.{Bool, List}

pub record GrowingList (T : Type 0) : Type 0 where
  pub list : List T
  pub more : List T
  pub fits : Bool
