-- Which node is the child of which.
use Rattle.std.specs.Prelude.{ℕ, ◌+◌, ◌*◌, cond, nat_lt, slice_index_or}
use Rattle.frame_driver.specs.declared.wiring.Child.{Child}
use Rattle.frame_driver.specs.declared.wiring.Child.TheVariants.{Node, Outside, Nothing}
use Rattle.frame_driver.specs.declared.wiring.Wiring.{Wiring}

abbrev pub below : Wiring → ℕ → ℕ → Child
below w node child = cond (nat_lt child w.width) (slice_index_or w.below.items (node * w.width + child) Nothing) Nothing

-- the wiring has this child
abbrev pub IsWired : Child → Type 0
IsWired (Node to) = Unit {0}
IsWired Outside = Unit {0}
IsWired Nothing = ⊥
