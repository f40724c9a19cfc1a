use Rattle.std.proofs.Common.{◌≡◌, ◌<◌, ◌≤◌, arith}
use Rattle.std.specs.Prelude.{length}
use Rattle.std.proofs.lemmas.Option.{slice_get-get_or}
use Rattle.run_audit.proofs.Cutting.{nothing_cut, cut_low, cut_high, all_cut}
use Rattle.run_audit.proofs.settled.cut_at.Goals as goal

pub loop-low-preserved-then-numbers-middle : goal.loop-low-preserved-then-numbers-middle
loop-low-preserved-then-numbers-middle c =
    let u = c.middle_of-middle.ensures.until in let f = c.loop-low.invariant.few in let lt : c.middle_of-middle.result < length c.args.numbers.now = omega (arith, u, f) in
    cut_low c.args.numbers.now c.args.n c.loop-low.low c.loop-low.high c.middle_of-middle.result _ c.requires c.loop-low.invariant c.middle_of-middle.ensures.from c.middle_of-middle.ensures.until
    (slice_get-get_or c.args.numbers.now c.middle_of-middle.result _ lt) c.if-numbers-middle.true

pub loop-low-preserved : goal.loop-low-preserved
loop-low-preserved c =
    let u = c.middle_of-middle.ensures.until in let f = c.loop-low.invariant.few in let lt : c.middle_of-middle.result < length c.args.numbers.now = omega (arith, u, f) in
    cut_high c.args.numbers.now c.args.n c.loop-low.low c.loop-low.high c.middle_of-middle.result _ c.requires c.loop-low.invariant c.middle_of-middle.ensures.from c.middle_of-middle.ensures.until
    (slice_get-get_or c.args.numbers.now c.middle_of-middle.result _ lt) c.if-numbers-middle.false
