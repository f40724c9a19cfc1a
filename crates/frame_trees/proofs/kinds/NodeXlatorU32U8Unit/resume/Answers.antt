use Rattle.std.proofs.Common.{sym, subst}
use Rattle.xlator_law.specs.Law.{IsStep}
use Rattle.xlator_law.specs.Law.Cause.{Reply}
use Rattle.frame_trees.specs.Kinds.{node_promise}
use Rattle.frame_trees.proofs.kinds.NodeXlatorU32U8Unit.resume.Goals as goal

pub returns-in-Pair-clause-step : goal.returns-in-Pair-clause-step
returns-in-Pair-clause-step c = subst (λ l. IsStep (node_promise c.args.self.now) (Reply l c.args.slot c.args.reply) c.pair_answered-step.result) (sym c.in-Pair.is) (c.pair_answered-step.ensures.lawful c.args.self.now)
