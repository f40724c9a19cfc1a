use Rattle.std.proofs.Common.{refl, ap, ◌∙◌, arith}
use Rattle.std.proofs.lemmas.List.{length-map}
use Rattle.std.proofs.lemmas.Result.{IfOk-weaker}
use Rattle.std.proofs.Math.Seq.{map-set_same}
use Rattle.xlator_law.specs.Law.Cause.{Enter}
use Rattle.frame_driver.proofs.Taking.{node_there, step_there}
use Rattle.frame_driver.proofs.nodes.enter_at.Goals as goal

pub returns-clause-same : goal.returns-clause-same
returns-clause-same g c = map-set_same g.X.Xlator.promise c.args.nodes.now.items c.args.at c.enter.new.self c.index_mut.result.now (c.enter.ensures.promise ∙ ap g.X.Xlator.promise c.index_mut.ensures.value)

pub index_mut-requires : goal.index_mut-requires
index_mut-requires g c = let l = length-map c.args.nodes.now.items g.X.Xlator.promise in let ok = c.args.nodes.now.ok.0 in let a = c.requires.at in omega (arith, l, ok, a)

pub returns-clause-step : goal.returns-clause-step
returns-clause-step g c = step_there g.X.Xlator.promise c.args.nodes.now.items c.args.at c.index_mut.result.now _ c.requires.at c.index_mut.ensures.value (Enter c.args.entry c.args.fop) c.enter.result c.enter.ensures.step

pub returns-clause-made : goal.returns-clause-made
returns-clause-made g c = IfOk-weaker c.enter.result _ _ (λ step made. record {
  before = c.index_mut.result.now;
  after = c.enter.new.self;
  there = node_there g.X.Xlator.promise c.args.nodes.now.items c.args.at c.index_mut.result.now _ c.requires.at c.index_mut.ensures.value;
  made = made;
  changed = refl;
}) c.enter.ensures.made
