use Rattle.std.proofs.Common.{◌≡◌, true, refl, ap, ◌∙◌, arith}
use Rattle.std.proofs.lemmas.List.{length-map}
use Rattle.std.proofs.lemmas.Result.{IfOk-weaker}
use Rattle.std.proofs.Math.Seq.{map-set_same}
use Rattle.xlator_law.specs.Law.Cause.{Go}
use Rattle.frame_driver.proofs.Taking.{node_there, fact_there, step_there}
use Rattle.frame_driver.proofs.nodes.go_on_at.Goals as goal

pub returns-clause-same : goal.returns-clause-same
returns-clause-same g c = map-set_same g.X.Xlator.promise c.args.nodes.now.items c.args.at c.go_on.new.self c.index_mut.result.now (c.go_on.ensures.promise ∙ ap g.X.Xlator.promise c.index_mut.ensures.value)

pub index_mut-requires : goal.index_mut-requires
index_mut-requires g c = let l = length-map c.args.nodes.now.items g.X.Xlator.promise in let ok = c.args.nodes.now.ok.0 in let a = c.requires.at in omega (arith, l, ok, a)

pub go_on-requires : goal.go_on-requires
go_on-requires g c = record { own = fact_there g.X.Xlator.promise c.args.nodes.now.items c.args.at c.index_mut.result.now _ c.requires.at c.index_mut.ensures.value (λ q. q.owns c.args.local ≡ true) c.requires.own }

pub returns-clause-step : goal.returns-clause-step
returns-clause-step g c = step_there g.X.Xlator.promise c.args.nodes.now.items c.args.at c.index_mut.result.now _ c.requires.at c.index_mut.ensures.value (Go c.args.local) c.go_on.result (c.go_on.ensures.step (fact_there g.X.Xlator.promise c.args.nodes.now.items c.args.at c.index_mut.result.now _ c.requires.at c.index_mut.ensures.value (λ q. q.waits c.args.local ≡ true) c.requires.waits))

pub returns-clause-made : goal.returns-clause-made
returns-clause-made g c = IfOk-weaker c.go_on.result _ _ (λ step made. record {
  before = c.index_mut.result.now;
  after = c.go_on.new.self;
  there = node_there g.X.Xlator.promise c.args.nodes.now.items c.args.at c.index_mut.result.now _ c.requires.at c.index_mut.ensures.value;
  made = made;
  changed = refl;
}) (c.go_on.ensures.made (fact_there g.X.Xlator.promise c.args.nodes.now.items c.args.at c.index_mut.result.now _ c.requires.at c.index_mut.ensures.value (λ q. q.waits c.args.local ≡ true) c.requires.waits))
