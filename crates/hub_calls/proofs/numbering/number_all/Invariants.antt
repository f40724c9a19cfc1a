use Rattle.std.proofs.Common.{◌≡◌, ◌++◌, take, drop}
use Rattle.mount_log.specs.Logs.{same_number}
use Rattle.hub_calls.proofs.numbering.number_all.Given as goal

abbrev pub invariant-loop-at : goal.invariant-loop-at
invariant-loop-at l = l.at-items ≡ same_number l.number (take l.at-index l.fn.numbers) ++ drop l.at-index l.fn.numbers
