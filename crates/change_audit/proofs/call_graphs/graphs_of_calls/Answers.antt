use Rattle.std.proofs.Common.{refl, ◌+◌, drop, arith}
use Rattle.mount_log.proofs.Lists.{grown_by}
use Rattle.change_audit.specs.CallGraphs.{graphs_from}
use Rattle.change_audit.proofs.Graphs.{graphs_next}
use Rattle.change_audit.proofs.call_graphs.graphs_of_calls.Goals as goal

pub loop-event-preserved : goal.loop-event-preserved
loop-event-preserved c =
    let es = drop (c.loop-event.event-index + 1) c.args.events.now in
    record {
      graphs =
          grown_by (graphs_from c.loop-event.graph) c.args.events.now c.args.events.now c.loop-event.event-index c.event-item.result c.loop-event.graphs.items c.add_graph.new.graphs.items (graphs_from (c.loop-event.graph + c.switch_in-graph.result) es)
          (graphs_from 1 c.args.events.now) refl c.loop-event-test.true c.event-item.is
          (graphs_next c.loop-event.graphs.items c.add_graph.new.graphs.items c.loop-event.graph c.switch_in-graph.result c.event-item.result es c.in_ok-add_graph.ensures c.switch_in-graph.ensures.value) c.loop-event.invariant.graphs;
      few = let few = c.switch_in-graph.ensures.few in let so_far = c.loop-event.invariant.few in omega (arith, few, so_far);
    }
