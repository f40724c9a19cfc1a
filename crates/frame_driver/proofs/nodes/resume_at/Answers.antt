use Rattle.std.proofs.Common.{◌≡◌, true, refl, ap, ◌∙◌, arith}
use Rattle.std.proofs.lemmas.List.{length-map}
use Rattle.std.proofs.lemmas.Result.{IfOk-weaker}
use Rattle.std.proofs.Math.Seq.{map-set_same}
use Rattle.xlator_law.specs.Law.Cause.{Reply}
use Rattle.frame_driver.proofs.Taking.{node_there, fact_there, step_there}
use Rattle.frame_driver.proofs.nodes.resume_at.Goals as goal

pub returns-clause-same : goal.returns-clause-same
returns-clause-same g c = map-set_same g.X.Xlator.promise c.args.nodes.now.items c.args.at c.resume.new.self c.index_mut.result.now (c.resume.ensures.promise ∙ ap g.X.Xlator.promise c.index_mut.ensures.value)

pub index_mut-requires : goal.index_mut-requires
index_mut-requires g c = let l = length-map c.args.nodes.now.items g.X.Xlator.promise in let ok = c.args.nodes.now.ok.0 in let a = c.requires.at in omega (arith, l, ok, a)

pub resume-requires-clause-own : goal.resume-requires-clause-own
resume-requires-clause-own g c = fact_there g.X.Xlator.promise c.args.nodes.now.items c.args.at c.index_mut.result.now _ c.requires.at c.index_mut.ensures.value (λ q. q.owns c.args.local ≡ true) c.requires.own

pub resume-requires-clause-slot : goal.resume-requires-clause-slot
resume-requires-clause-slot g c = fact_there g.X.Xlator.promise c.args.nodes.now.items c.args.at c.index_mut.result.now _ c.requires.at c.index_mut.ensures.value (λ q. q.unanswered c.args.local c.args.slot ≡ true) c.requires.slot

pub returns-clause-step : goal.returns-clause-step
returns-clause-step g c = step_there g.X.Xlator.promise c.args.nodes.now.items c.args.at c.index_mut.result.now _ c.requires.at c.index_mut.ensures.value (Reply c.args.local c.args.slot c.args.reply) c.resume.result c.resume.ensures.step

pub returns-clause-made : goal.returns-clause-made
returns-clause-made g c = IfOk-weaker c.resume.result _ _ (λ step made. record {
  before = c.index_mut.result.now;
  after = c.resume.new.self;
  there = node_there g.X.Xlator.promise c.args.nodes.now.items c.args.at c.index_mut.result.now _ c.requires.at c.index_mut.ensures.value;
  made = made;
  changed = refl;
}) c.resume.ensures.made
