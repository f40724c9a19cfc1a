use Rattle.std.proofs.Common.{◌≡◌}
use Rattle.graph_items.specs.Clients.{new_clients}
use Rattle.graph_items.proofs.clients.Clients.new.Given as goal

abbrev pub invariant-loop-brick : goal.invariant-loop-brick
invariant-loop-brick l = l.all.items ≡ new_clients l.brick l.graph
