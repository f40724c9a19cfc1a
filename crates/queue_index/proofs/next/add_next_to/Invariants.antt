use Rattle.std.proofs.Common.{◌≡◌, ◌||◌, ℕ, drop}
use Rattle.std.specs.List.{list_any}
use Rattle.std.specs.BTreeSet as sorted
use Rattle.std.specs.Ordering.{nat_cmp}
use Rattle.queue_index.specs.Queue.{is_at_number}
use Rattle.queue_index.specs.Next.{is_next_on, is_next_to}
use Rattle.queue_index.proofs.next.add_next_to.Given as goal

abbrev pub invariant-loop-at : goal.invariant-loop-at
invariant-loop-at g l = (q : ℕ) → (sorted.contains nat_cmp l.found q || list_any (λ k. is_at_number (is_next_on g.T.Keyed.keys l.queue l.from k) l.queue q) (drop l.at (g.T.Keyed.keys l.item))) ≡ (sorted.contains nat_cmp l.initial.found q || is_at_number (is_next_to g.T.Keyed.keys l.queue l.from l.item) l.queue q)
