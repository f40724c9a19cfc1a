use Rattle.std.proofs.Common.{◌≤◌, ◌-◌, ◌∙◌, arith, length}
use Rattle.mount_log.proofs.FirstUnits.{unit_missing, unit_there}
use Rattle.mount_log.proofs.first_units.unit_at.Goals as goal

pub returns-then-saturating_sub-lt4 : goal.returns-then-saturating_sub-lt4
returns-then-saturating_sub-lt4 c = unit_missing c.args.bytes.now c.args.place (omega (arith, c.saturating_sub.ensures, c.if-saturating_sub-lt4.true))

pub returns : goal.returns
returns c =
    let enough : 4 ≤ length c.args.bytes.now - c.args.place = omega (arith, c.saturating_sub.ensures, c.if-saturating_sub-lt4.false) in
    c.read_u32.ensures ∙ unit_there c.args.bytes.now c.args.place enough
