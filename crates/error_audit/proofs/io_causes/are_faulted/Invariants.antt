use Rattle.std.proofs.Common.{take}
use Rattle.std.specs.List.{AllByRecursion}
use Rattle.mount_log.specs.Causes.{IsFaulted}
use Rattle.error_audit.specs.AtPlaces.{IsFaultAmong}
use Rattle.error_audit.proofs.io_causes.are_faulted.Given as goal

abbrev pub invariant-loop-pair : goal.invariant-loop-pair
invariant-loop-pair l = record {
  faulted : AllByRecursion (IsFaulted l.log l.plan l.reply.call l.reply.event) (take l.pair-index l.faults);
  among : AllByRecursion (IsFaultAmong l.log l.plan l.reply.call l.reply.event l.found) (take l.pair-index l.faults);
}
