use Rattle.mount_locks.proofs.Numbered.{forget_less, forget_one, forgotten}
use Rattle.mount_locks.proofs.walk.forget.Goals as goal

pub loop-number-smaller : goal.loop-number-smaller
loop-number-smaller c = forget_less c.args.key c.in-Some.number _ c.loop-number.queue c.requests.result.now c.remove.new.self c.loop-number.invariant.rises c.requests.ensures.value c.in-Some.ensures.found c.remove.ensures

pub loop-number-preserved : goal.loop-number-preserved
loop-number-preserved c = record {
  same = forget_one c.args.key c.in-Some.number _ c.loop-number.queue c.requests.result.now c.remove.new.self _ c.loop-number.invariant.rises c.requests.ensures.value c.in-Some.ensures.found c.remove.ensures c.loop-number.invariant.same;
  rises = c.numbers_rise-in-Some.ensures;
}

pub returns : goal.returns
returns c = forgotten c.args.key c.loop-number.queue c.requests.result.now _ c.requests.ensures.value c.in_default.ensures.none c.loop-number.invariant.same
