use Rattle.std.proofs.Common.{take}
use Rattle.std.specs.List.{AllZip}
use Rattle.mount_log.specs.Causes.{HasShown}
use Rattle.error_audit.proofs.grants.shown_in.Given as goal

abbrev pub invariant-loop-brick : goal.invariant-loop-brick
invariant-loop-brick l = AllZip (HasShown l.log l.plan l.reply.call l.reply.event l.phase.from l.phase.cells) (take l.brick-index l.plan.bricks) l.shown.items
