use Rattle.std.proofs.Common.{◌≡◌, ◌++◌, drop}
use Rattle.mount_log.specs.Graphs.{switches_in, volfiles_of}
use Rattle.mount_log.proofs.call_graphs.graphs_of.Given as goal

abbrev pub invariant-loop-event : goal.invariant-loop-event
invariant-loop-event l = l.volfiles.items ++ switches_in (drop l.event-index l.log.events) ≡ volfiles_of l.script l.log
