use Rattle.std.proofs.Common.{◌≡◌, drop, not}
use Rattle.std.specs.List.{list_any, filter}
use Rattle.std.specs.Ordering.{nat_cmp, is_eq}
use Rattle.brick_locks.proofs.walk.remove_all.Given as goal

abbrev pub invariant-loop-number : goal.invariant-loop-number
invariant-loop-number l = filter (λ e. not (list_any (λ n. is_eq (nat_cmp e.0 n)) (drop l.number-index l.numbers))) l.queue ≡ filter (λ e. not (list_any (λ n. is_eq (nat_cmp e.0 n)) l.numbers)) l.initial.queue
