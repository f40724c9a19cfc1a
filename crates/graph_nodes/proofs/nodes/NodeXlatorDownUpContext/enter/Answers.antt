use Rattle.std.proofs.Common.{refl}
use Rattle.std.proofs.lemmas.Result.{IfOk-weaker}
use Rattle.graph_nodes.specs.declared.kinds.Kind.TheVariants as kind
use Rattle.graph_nodes.proofs.NodeSteps.{same_kind, kind_promise, queue_promise, cache_promise, root_step, root_entered, pass_step, pass_entered, queue_step, queue_entered, cache_step, cache_entered, fop_step, fop_entered, job_step, job_entered, client_step, client_entered}
use Rattle.graph_nodes.proofs.nodes.NodeXlatorDownUpContext.enter.Goals as goal

pub returns-in-Root-clause-step : goal.returns-in-Root-clause-step
returns-in-Root-clause-step c = IfOk-weaker c.enter.result _ _ (λ step move. root_step c.args.self.now c.args.cx.now c.args.entry c.args.fop step c.in-Root.is move) c.enter.ensures

pub returns-in-Root-clause-made : goal.returns-in-Root-clause-made
returns-in-Root-clause-made c = IfOk-weaker c.enter.result _ _ (λ step move. root_entered c.args.self.now c.args.cx.now c.args.entry c.args.fop step _ _ c.in-Root.is move refl refl) c.enter.ensures

pub returns-in-Root-clause-promise : goal.returns-in-Root-clause-promise
returns-in-Root-clause-promise c = refl

pub returns-in-Pass-clause-step : goal.returns-in-Pass-clause-step
returns-in-Pass-clause-step c = IfOk-weaker c.enter-in-Pass.result _ _ (λ step move. pass_step c.args.self.now c.args.cx.now c.args.entry c.args.fop step c.in-Pass.is move) c.enter-in-Pass.ensures

pub returns-in-Pass-clause-made : goal.returns-in-Pass-clause-made
returns-in-Pass-clause-made c = IfOk-weaker c.enter-in-Pass.result _ _ (λ step move. pass_entered c.args.self.now c.args.cx.now c.args.entry c.args.fop step _ _ c.in-Pass.is move refl refl) c.enter-in-Pass.ensures

pub returns-in-Pass-clause-promise : goal.returns-in-Pass-clause-promise
returns-in-Pass-clause-promise c = refl

pub returns-in-IoThreads-clause-step : goal.returns-in-IoThreads-clause-step
returns-in-IoThreads-clause-step c = IfOk-weaker c.enter-in-IoThreads.result _ _ (λ step h. queue_step c.args.self.now c.args.cx.now c.args.entry c.args.fop step c.in-IoThreads.node c.enter-in-IoThreads.new.self c.enter-in-IoThreads.new.cx c.in-IoThreads.is h) c.enter-in-IoThreads.ensures

pub returns-in-IoThreads-clause-made : goal.returns-in-IoThreads-clause-made
returns-in-IoThreads-clause-made c = IfOk-weaker c.enter-in-IoThreads.result _ _ (λ step h. queue_entered c.args.self.now c.args.cx.now c.args.entry c.args.fop step c.in-IoThreads.node c.enter-in-IoThreads.new.self _ _ c.in-IoThreads.is h refl) c.enter-in-IoThreads.ensures

pub returns-in-IoThreads-clause-promise : goal.returns-in-IoThreads-clause-promise
returns-in-IoThreads-clause-promise c = queue_promise c.args.self.now c.in-IoThreads.node c.enter-in-IoThreads.new.self c.in-IoThreads.is

pub returns-in-IoCache-clause-step : goal.returns-in-IoCache-clause-step
returns-in-IoCache-clause-step c = IfOk-weaker c.enter-in-IoCache.result _ _ (λ step h. cache_step c.args.self.now c.args.cx.now c.args.entry c.args.fop step c.in-IoCache.node c.enter-in-IoCache.new.self c.in-IoCache.is h) c.enter-in-IoCache.ensures

pub returns-in-IoCache-clause-made : goal.returns-in-IoCache-clause-made
returns-in-IoCache-clause-made c = IfOk-weaker c.enter-in-IoCache.result _ _ (λ step h. cache_entered c.args.self.now c.args.cx.now c.args.entry c.args.fop step c.in-IoCache.node c.enter-in-IoCache.new.self _ _ c.in-IoCache.is h refl refl) c.enter-in-IoCache.ensures

pub returns-in-IoCache-clause-promise : goal.returns-in-IoCache-clause-promise
returns-in-IoCache-clause-promise c = cache_promise c.args.self.now c.in-IoCache.node c.enter-in-IoCache.new.self c.in-IoCache.is

pub returns-in-Distribute-clause-step : goal.returns-in-Distribute-clause-step
returns-in-Distribute-clause-step c = IfOk-weaker c.enter_fop.result _ _ (λ step h. fop_step c.args.self.now c.args.cx.now c.args.entry c.args.fop step c.in-Distribute.node c.in-Distribute.is h) c.enter_fop.ensures.lawful

pub returns-in-Distribute-clause-made : goal.returns-in-Distribute-clause-made
returns-in-Distribute-clause-made c = IfOk-weaker c.enter_fop.result _ _ (λ step h. fop_entered c.args.self.now c.args.cx.now c.args.entry c.args.fop step c.in-Distribute.node _ _ c.in-Distribute.is h (same_kind c.args.self.now (kind.Distribute c.in-Distribute.node) c.in-Distribute.is)) c.enter_fop.ensures.made

pub returns-in-Distribute-clause-promise : goal.returns-in-Distribute-clause-promise
returns-in-Distribute-clause-promise c = kind_promise c.args.self.now (kind.Distribute c.in-Distribute.node) c.in-Distribute.is

pub returns-in-Replicate-clause-step : goal.returns-in-Replicate-clause-step
returns-in-Replicate-clause-step c = IfOk-weaker c.enter_job.result _ _ (λ step h. job_step c.args.self.now c.args.cx.now c.args.entry c.args.fop step c.in-Replicate.node c.in-Replicate.is h) c.enter_job.ensures.lawful

pub returns-in-Replicate-clause-made : goal.returns-in-Replicate-clause-made
returns-in-Replicate-clause-made c = IfOk-weaker c.enter_job.result _ _ (λ step h. job_entered c.args.self.now c.args.cx.now c.args.entry c.args.fop step c.in-Replicate.node _ _ c.in-Replicate.is h (same_kind c.args.self.now (kind.Replicate c.in-Replicate.node) c.in-Replicate.is)) c.enter_job.ensures.made

pub returns-in-Replicate-clause-promise : goal.returns-in-Replicate-clause-promise
returns-in-Replicate-clause-promise c = kind_promise c.args.self.now (kind.Replicate c.in-Replicate.node) c.in-Replicate.is

pub returns-in-Client-clause-step : goal.returns-in-Client-clause-step
returns-in-Client-clause-step c = IfOk-weaker c.enter-in-Client.result _ _ (λ step move. client_step c.args.self.now c.args.cx.now c.args.entry c.args.fop step c.in-Client.node c.in-Client.is move) c.enter-in-Client.ensures

pub returns-in-Client-clause-made : goal.returns-in-Client-clause-made
returns-in-Client-clause-made c = IfOk-weaker c.enter-in-Client.result _ _ (λ step move. client_entered c.args.self.now c.args.cx.now c.args.entry c.args.fop step c.in-Client.node _ _ c.in-Client.is move (same_kind c.args.self.now (kind.Client c.in-Client.node) c.in-Client.is) refl) c.enter-in-Client.ensures

pub returns-in-Client-clause-promise : goal.returns-in-Client-clause-promise
returns-in-Client-clause-promise c = kind_promise c.args.self.now (kind.Client c.in-Client.node) c.in-Client.is
