-- What controls do to a brick: connections, going down and coming up, and requests that are to fail.
use Rattle.std.specs.Prelude.{ℕ, Bool, true, false, List, [], ◌∷◌, ◌++◌, Option, Some, None, is_some, if◌then◌else◌}
use Rattle.fop_types.specs.declared.messages.OutKind.TheVariants.{Closed, Opened, Connected}
use Rattle.fop_types.specs.declared.messages.Proc.{Proc}
use Rattle.brick_locks.specs.Locks.{owners, waiting}
use Rattle.brick_machine.specs.Connections.{Connections, with_graph, without_graph}
use Rattle.brick_machine.specs.State.{with_fault}
use Rattle.brick_machine.specs.declared.late.Late.{Late}
use Rattle.brick_machine.specs.declared.state.State.{State}
use Rattle.brick_machine.specs.Locking.{Served, gone_replies, graph_dropped}

abbrev pub nothing : State → Served
nothing s = record { state = s; outs = [] }

-- a Connect drops the graph's locks and descriptors, and connects it; it puts out the Gones, the replies of the locks
-- that others are granted, and Connected
abbrev pub connected_by : Served → ℕ → ℕ → Served
connected_by dropped graph version = record {
  state = record (dropped.state) { graphs = with_graph dropped.state.graphs graph };
  outs = dropped.outs ++ Connected graph version ∷ [];
}

-- on a brick that is down it does nothing
abbrev pub connected : State → ℕ → ℕ → Served
connected s graph version = if is_some s.down then nothing s else connected_by (graph_dropped s graph) graph version

-- a Disconnect drops the graph's locks and descriptors, and ends its connection; it puts out the Gones and the
-- replies of the locks that others are granted
abbrev pub disconnected_by : Served → ℕ → Served
disconnected_by dropped graph = record {
  state = record (dropped.state) { graphs = without_graph dropped.state.graphs graph };
  outs = dropped.outs;
}

abbrev pub disconnected : State → ℕ → Served
disconnected s graph = disconnected_by (graph_dropped s graph) graph

-- a Down serves so many requests late, of the graphs that were connected; a second one none, and the graphs stay
abbrev pub late_after : Option Late → ℕ → Connections → Late
late_after None serve graphs = record { left = serve; graphs = graphs }
late_after (Some late) serve graphs = record late { left = 0 }

-- a Down drops all locks, descriptors and connections; it puts out Closed and the Gones
abbrev pub gone_down : State → ℕ → Served
gone_down s serve = record {
  state = record s { locks = []; waiters = []; graphs = []; down = Some (late_after s.down serve s.graphs) };
  outs = Closed ∷ gone_replies s.waiters (owners (waiting s.locks));
}

-- an Up ends the Down, and puts out Opened also where there was none
abbrev pub come_up : State → Served
come_up s = record { state = record s { down = None }; outs = Opened ∷ [] }

-- a FaultAt puts nothing out
abbrev pub faulted : State → Proc → ℕ → Served
faulted s p number = nothing (record s { faults = with_fault s.faults p number })
