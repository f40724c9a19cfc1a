use Rattle.std.proofs.Common.{refl}
use Rattle.std.proofs.lemmas.Result.{IfOk-weaker}
use Rattle.xlator_law.specs.declared.step.Step.TheVariants as step
use Rattle.graph_nodes.proofs.NodeSteps.{owned_fop, root_go_step, root_went, pass_go_step, pass_went, cache_go_step, cache_went, job_go_step, job_went, client_go_step, client_went, queue_go_step, queue_went, fop_go_step, fop_went}
use Rattle.graph_nodes.proofs.nodes.NodeXlatorDownUpContext.go_on.Goals as goal

pub go_on_fop-requires : goal.go_on_fop-requires
go_on_fop-requires c = record { own = owned_fop c.args.self.now c.in-Distribute.node c.args.local c.in-Distribute.is c.requires.own }

pub returns-in-Distribute-clause-step : goal.returns-in-Distribute-clause-step
returns-in-Distribute-clause-step c = λ waits. IfOk-weaker c.go_on_fop.result _ _ (λ step h. fop_go_step c.args.self.now c.args.local step c.requires.own waits c.in-Distribute.node c.in-Distribute.is h) c.go_on_fop.ensures.lawful

pub returns-in-Distribute-clause-made : goal.returns-in-Distribute-clause-made
returns-in-Distribute-clause-made c = λ waits. IfOk-weaker c.go_on_fop.result _ _ (λ step h. fop_went c.args.self.now c.args.cx.now c.args.local step c.in-Distribute.node _ c.go_on_fop.new.cx c.in-Distribute.is h refl) c.go_on_fop.ensures.made

pub returns-in-IoThreads-clause-step : goal.returns-in-IoThreads-clause-step
returns-in-IoThreads-clause-step c = λ waits. IfOk-weaker c.go_on.result _ _ (λ step move. queue_go_step c.args.self.now c.args.local step c.requires.own waits c.in-IoThreads.field-0 c.in-IoThreads.is move) c.go_on.ensures

pub returns-in-IoThreads-clause-made : goal.returns-in-IoThreads-clause-made
returns-in-IoThreads-clause-made c = λ waits. IfOk-weaker c.go_on.result _ _ (λ step move. queue_went c.args.self.now c.args.cx.now c.args.local step c.in-IoThreads.field-0 _ _ c.in-IoThreads.is move refl refl) c.go_on.ensures

pub returns-in-Root-clause-step : goal.returns-in-Root-clause-step
returns-in-Root-clause-step c = λ waits. root_go_step c.args.self.now c.args.local c.requires.own waits (step.Wait c.args.local) c.in-Root.is

pub returns-in-Root-clause-made : goal.returns-in-Root-clause-made
returns-in-Root-clause-made c = λ waits. root_went c.args.self.now c.args.local c.requires.own waits c.args.cx.now (step.Wait c.args.local) c.args.self.now c.args.cx.now c.in-Root.is

pub returns-in-Pass-clause-step : goal.returns-in-Pass-clause-step
returns-in-Pass-clause-step c = λ waits. pass_go_step c.args.self.now c.args.local c.requires.own waits (step.Wait c.args.local) c.in-Pass.is

pub returns-in-Pass-clause-made : goal.returns-in-Pass-clause-made
returns-in-Pass-clause-made c = λ waits. pass_went c.args.self.now c.args.local c.requires.own waits c.args.cx.now (step.Wait c.args.local) c.args.self.now c.args.cx.now c.in-Pass.is

pub returns-in-IoCache-clause-step : goal.returns-in-IoCache-clause-step
returns-in-IoCache-clause-step c = λ waits. cache_go_step c.args.self.now c.args.local c.requires.own waits (step.Wait c.args.local) c.in-IoCache.field-0 c.in-IoCache.is

pub returns-in-IoCache-clause-made : goal.returns-in-IoCache-clause-made
returns-in-IoCache-clause-made c = λ waits. cache_went c.args.self.now c.args.local c.requires.own waits c.args.cx.now (step.Wait c.args.local) c.args.self.now c.args.cx.now c.in-IoCache.field-0 c.in-IoCache.is

pub returns-in-Replicate-clause-step : goal.returns-in-Replicate-clause-step
returns-in-Replicate-clause-step c = λ waits. job_go_step c.args.self.now c.args.local c.requires.own waits (step.Wait c.args.local) c.in-Replicate.field-0 c.in-Replicate.is

pub returns-in-Replicate-clause-made : goal.returns-in-Replicate-clause-made
returns-in-Replicate-clause-made c = λ waits. job_went c.args.self.now c.args.local c.requires.own waits c.args.cx.now (step.Wait c.args.local) c.args.self.now c.args.cx.now c.in-Replicate.field-0 c.in-Replicate.is

pub returns-in-Client-clause-step : goal.returns-in-Client-clause-step
returns-in-Client-clause-step c = λ waits. client_go_step c.args.self.now c.args.local c.requires.own waits (step.Wait c.args.local) c.in-Client.field-0 c.in-Client.is

pub returns-in-Client-clause-made : goal.returns-in-Client-clause-made
returns-in-Client-clause-made c = λ waits. client_went c.args.self.now c.args.local c.requires.own waits c.args.cx.now (step.Wait c.args.local) c.args.self.now c.args.cx.now c.in-Client.field-0 c.in-Client.is
