use Rattle.std.proofs.Common.{arith, refl, sym, ◌∙◌, map}
use Rattle.contents.proofs.HalfSteps.{end_below, below_at, past_at, same_at, goes_there}
use Rattle.contents.proofs.halves.place_by_halves.Goals as goal

pub loop-low-init : goal.loop-low-init
loop-low-init g c = record {
  order = omega arith;
  within = omega arith;
  past = tt;
  below = end_below g.T.Named.name c.args.things.now _ c.args.name.now refl;
}

pub loop-low-preserved-in-Less : goal.loop-low-preserved-in-Less
loop-low-preserved-in-Less g c = record {
  order = c.middle_of-middle.ensures.low;
  within = omega (arith, c.middle_of-middle.ensures.high, c.loop-low.invariant.within);
  past = c.loop-low.invariant.past;
  below = below_at (map g.T.Named.name c.args.things.now) _ c.args.name.now _ c.name_at.ensures (sym c.cmp.ensures ∙ c.in-Less.is);
}

pub loop-low-preserved : goal.loop-low-preserved
loop-low-preserved g c = record {
  order = omega (arith, c.middle_of-middle.ensures.high);
  within = c.loop-low.invariant.within;
  past = past_at (map g.T.Named.name c.args.things.now) _ _ c.args.name.now _ (omega arith) c.name_at.ensures (sym c.cmp.ensures ∙ c.in-Greater.is);
  below = c.loop-low.invariant.below;
}

pub returns-in-Equal-clause-found : goal.returns-in-Equal-clause-found
returns-in-Equal-clause-found g c = same_at (map g.T.Named.name c.args.things.now) _ c.args.name.now _ c.name_at.ensures (sym c.cmp.ensures ∙ c.in-Equal.is)

pub returns-clause-free : goal.returns-clause-free
returns-clause-free g c = goes_there g.T.Named.name c.args.things.now c.loop-low.low c.loop-low.high c.args.name.now c.loop-low.invariant.order (omega arith) c.loop-low.invariant.within c.loop-low.invariant.past c.loop-low.invariant.below
