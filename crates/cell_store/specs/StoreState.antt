-- What contracts see of a store: its cells, by rising cell, and the names under which a dump shows the replicas, in
-- their order.
use Rattle.std.specs.Prelude.{ℕ, List}
use Rattle.cell_store.specs.Cells.{Cells}

pub record StoreState : Type 0 where
  pub cells : Cells
  pub names : List (List ℕ)
