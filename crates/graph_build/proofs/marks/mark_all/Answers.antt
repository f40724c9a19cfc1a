use Rattle.std.proofs.Common.{drop, ◌∙◌, ◌+◌, ◌<◌, arith, length, true, slice_index_or}
use Rattle.std.proofs.lemmas.List.{drop_more, length-set}
use Rattle.graph_build.proofs.MarkLemmas.{repeats_step, places_step, count_set, count_within}
use Rattle.graph_build.proofs.marks.mark_all.Goals as goal

pub loop-number-preserved : goal.loop-number-preserved
loop-number-preserved c =
    let p = slice_index_or c.args.numbers.now c.loop-number.number-index 0 in
    let flags = c.loop-number.flags in
    let cut = drop_more c.args.numbers.now c.loop-number.number-index 0 c.loop-number-test.true in
    let fits = c.type_inv.numbers c.loop-number.number-index in
    let within : p < length flags = omega (arith, fits, c.loop-number.invariant.0) in (
      length-set flags p true ∙ c.loop-number.invariant.0,
      repeats_step flags p (drop c.loop-number.number-index c.args.numbers.now) (drop (c.loop-number.number-index + 1) c.args.numbers.now) _ cut within c.if-flags-place.false c.loop-number.invariant.1,
      λ q. places_step flags p (drop c.loop-number.number-index c.args.numbers.now) (drop (c.loop-number.number-index + 1) c.args.numbers.now) q _ cut within (c.loop-number.invariant.2 q),
      omega (arith, c.loop-number.invariant.3, count_set flags p within c.if-flags-place.false),
    )

pub returns-clause-few : goal.returns-clause-few
returns-clause-few c = omega (arith, count_within c.loop-number.flags, c.loop-number.invariant.0, c.loop-number.invariant.3, c.loop-number-test.false)
