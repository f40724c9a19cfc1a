use Rattle.std.proofs.Common.{◌≡◌, ◌||◌, ◌&&◌, not, ◌-◌, ℕ}
use Rattle.std.specs.List.{list_any}
use Rattle.std.specs.BTreeSet as sorted
use Rattle.std.specs.Ordering.{nat_cmp, is_eq}
use Rattle.queue_index.specs.Queue.{numbers, touches, touching_from, is_at_number}
use Rattle.queue_index.specs.Next.{is_past, is_in_run}
use Rattle.queue_index.proofs.next.add_run.Given as goal

abbrev pub invariant-loop-number : goal.invariant-loop-number
invariant-loop-number g l = (q : ℕ) → (sorted.contains nat_cmp l.found q || (list_any (λ n. is_eq (nat_cmp q n)) (numbers (touching_from g.T.Keyed.keys l.key l.from l.queue)) && not (is_past l.end q))) ≡ (sorted.contains nat_cmp l.initial.found q || is_at_number (λ n y. touches g.T.Keyed.keys l.key y && is_in_run g.T.Keyed.keys l.queue l.fn.last l.start n) l.queue q)

abbrev pub decreases-loop-number : goal.decreases-loop-number
decreases-loop-number g l = 18446744073709551616 - l.from
