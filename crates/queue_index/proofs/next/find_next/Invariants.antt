use Rattle.std.proofs.Common.{◌≡◌, ◌||◌, ◌-◌, ℕ}
use Rattle.std.specs.List.{list_any}
use Rattle.std.specs.BTreeSet as sorted
use Rattle.std.specs.Ordering.{nat_cmp}
use Rattle.queue_index.specs.Queue.{numbers, touching_from, is_at_number}
use Rattle.queue_index.specs.Next.{is_next, follows_at}
use Rattle.queue_index.proofs.next.find_next.Given as goal

abbrev pub invariant-loop-number : goal.invariant-loop-number
invariant-loop-number g l = (q : ℕ) → (sorted.contains nat_cmp l.found q || list_any (follows_at g.T.Keyed.keys l.queue q) (numbers (touching_from g.T.Keyed.keys l.key l.from l.queue))) ≡ is_at_number (is_next g.T.Keyed.keys l.key l.queue) l.queue q

abbrev pub decreases-loop-number : goal.decreases-loop-number
decreases-loop-number g l = 18446744073709551616 - l.from
