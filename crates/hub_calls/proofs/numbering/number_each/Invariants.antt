use Rattle.std.proofs.Common.{◌≡◌, ◌++◌, drop}
use Rattle.mount_log.specs.Logs.{same_number}
use Rattle.hub_calls.proofs.numbering.number_each.Given as goal

abbrev pub invariant-loop : goal.invariant-loop
invariant-loop g l = l.numbers ++ same_number l.number (drop l.counter l.items) ≡ same_number l.number l.items
