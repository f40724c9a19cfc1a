use Rattle.std.proofs.Common.{◌≤◌, length, ap, arith}
use Rattle.hub_tables.proofs.MadeObjects.{all_calls}
use Rattle.hub_tables.proofs.script_lines.creations_in.Goals as goal

pub returns : goal.returns
returns c = all_calls c.args.phase.now.calls c.loop-line.count c.loop-line.line-index c.loop-line.invariant.0 (omega (arith, c.loop-line-test.false, c.loop-line.auto.line-index-end, ap length c.as_slice-line-items.ensures)) c.loop-line.invariant.1
