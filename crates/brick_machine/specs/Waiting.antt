-- The locks that wait, by graph and call, each with the wind that asked for it.
use Rattle.std.specs.Prelude.{List, Option}
use Rattle.std.specs.declared.cmp.Ordering.{Ordering}
use Rattle.std.specs.Ordering.{nat_cmp, ordering_then}
use Rattle.std.specs.Map.{lookup, remove_entry}
use Rattle.std.specs.BTreeMap.{insert_entry, is_at}
use Rattle.brick_locks.specs.declared.owner.Owner.{Owner}
use Rattle.brick_machine.specs.declared.waiters.Waiter.{Waiter}

abbrev pub owner_cmp : Owner → Owner → Ordering
owner_cmp a b = ordering_then (nat_cmp a.graph b.graph) (nat_cmp a.call b.call)

abbrev pub Waiting : Type 0
Waiting = List (Owner × Waiter)

abbrev pub waiter_of : Waiting → Owner → Option Waiter
waiter_of waiters owner = lookup (is_at (owner_cmp owner)) waiters

abbrev pub without_waiter : Waiting → Owner → Waiting
without_waiter waiters owner = remove_entry (is_at (owner_cmp owner)) waiters

abbrev pub with_waiter : Waiting → Owner → Waiter → Waiting
with_waiter waiters owner waiter = insert_entry owner_cmp waiters owner waiter
