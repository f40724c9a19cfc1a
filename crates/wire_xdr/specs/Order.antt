-- Lists that rise without repeats. Where `strict` is false the order is left open; only the definition of the
-- place of a wrong unit says `false`.
use Rattle.std.specs.Prelude.{◌≡◌, ℕ, ◌≤◌, Bool, true, false, List, [], ◌∷◌, Option, Some, None}
use Rattle.std.specs.declared.cmp.Ordering.{Ordering}
use Rattle.std.specs.declared.cmp.Ordering.TheVariants.{Less}
pub use Rattle.fop_types.specs.Bounds.{Each, Follows, RisesFrom, Rises}
