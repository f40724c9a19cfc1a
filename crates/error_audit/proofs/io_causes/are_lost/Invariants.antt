use Rattle.std.proofs.Common.{take}
use Rattle.std.specs.List.{AllByRecursion}
use Rattle.mount_log.specs.Causes.{IsLost}
use Rattle.error_audit.specs.Finding.{IsPairLost}
use Rattle.error_audit.proofs.io_causes.are_lost.Given as goal

abbrev pub invariant-loop-pair : goal.invariant-loop-pair
invariant-loop-pair l = record {
  lost : AllByRecursion (IsLost l.log l.plan l.reply.call l.reply.event) (take l.pair-index l.lost);
  found : AllByRecursion (IsPairLost l.log l.tables l.plan l.span l.reply.event) (take l.pair-index l.lost);
}
