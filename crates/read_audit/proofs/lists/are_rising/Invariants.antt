use Rattle.std.proofs.Common.{◌≡◌, ◌+◌, ◌<◌, ◌≤◌, ℕ}
use Rattle.std.specs.Prelude.{Some, slice_get}
use Rattle.std.specs.declared.cmp.Ordering.TheVariants.{Less}
use Rattle.fop_types.specs.Bounds.{item_cmp}
use Rattle.fop_types.specs.declared.contents.Item.{Item}
use Rattle.read_audit.proofs.lists.are_rising.Given as goal

abbrev pub invariant-loop-k : goal.invariant-loop-k
invariant-loop-k l = record {
  from_one : 1 ≤ l.k;
  rising : (j : ℕ) (item next : Item) → j + 1 < l.k → slice_get l.items j ≡ Some item → slice_get l.items (j + 1) ≡ Some next → item_cmp item next ≡ Less;
}
