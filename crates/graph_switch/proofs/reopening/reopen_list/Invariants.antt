use Rattle.std.proofs.Common.{◌≡◌, ◌++◌, map}
use Rattle.graph_switch.specs.Switch.{reopen_of}
use Rattle.graph_switch.proofs.reopening.reopen_list.Given as goal

abbrev pub invariant-loop-key : goal.invariant-loop-key
invariant-loop-key l = l.list.items ++ map reopen_of l.key-iterator ≡ map reopen_of l.initial.key-iterator
