use Rattle.std.proofs.Common.{◌≤◌, length, ap, arith}
use Rattle.hub_tables.proofs.MadeObjects.{all_phases}
use Rattle.hub_tables.proofs.script_lines.creations.Goals as goal

pub returns : goal.returns
returns c = all_phases c.args.script.now.phases c.loop-phase.count c.loop-phase.phase-index c.loop-phase.invariant.0 (omega (arith, c.loop-phase-test.false, c.loop-phase.auto.phase-index-end, ap length c.as_slice-phase-items.ensures)) c.loop-phase.invariant.1
