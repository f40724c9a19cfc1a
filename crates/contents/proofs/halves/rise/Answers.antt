use Rattle.std.proofs.Common.{arith, sym, ap, ◌∙◌, map}
use Rattle.std.specs.Ordering.{is_lt}
use Rattle.contents.proofs.HalfSteps.{rise_more, rise_ends, rise_all}
use Rattle.contents.proofs.halves.rise.Goals as goal

pub loop-at-preserved : goal.loop-at-preserved
loop-at-preserved g c = record {
  low = omega arith;
  so_far = rise_more (map g.T.Named.name c.args.things.now) c.loop-at.at _ _ _ c.loop-at.invariant.low c.name_at.ensures c.name_at-in-loop-at.ensures (ap is_lt (sym c.cmp.ensures ∙ c.in-Less.is)) c.loop-at.invariant.so_far;
}

pub returns-in-Equal : goal.returns-in-Equal
returns-in-Equal g c = rise_ends (map g.T.Named.name c.args.things.now) c.loop-at.at _ _ _ c.loop-at.invariant.low c.name_at.ensures c.name_at-in-loop-at.ensures (ap is_lt (sym c.cmp.ensures ∙ c.in-Equal.is)) c.loop-at.invariant.so_far

pub returns-in-Greater : goal.returns-in-Greater
returns-in-Greater g c = rise_ends (map g.T.Named.name c.args.things.now) c.loop-at.at _ _ _ c.loop-at.invariant.low c.name_at.ensures c.name_at-in-loop-at.ensures (ap is_lt (sym c.cmp.ensures ∙ c.in-Greater.is)) c.loop-at.invariant.so_far

pub returns : goal.returns
returns g c = rise_all g.T.Named.name c.args.things.now c.loop-at.at _ (omega arith) c.loop-at.invariant.low c.loop-at.invariant.so_far
