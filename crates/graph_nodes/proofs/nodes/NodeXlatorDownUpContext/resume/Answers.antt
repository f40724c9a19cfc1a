use Rattle.std.proofs.Common.{refl}
use Rattle.std.proofs.lemmas.Result.{IfOk-weaker}
use Rattle.graph_nodes.specs.declared.kinds.Kind.TheVariants as kind
use Rattle.graph_nodes.proofs.NodeSteps.{same_kind, kind_promise, cache_promise, fop_promise, owned_fop, owned_job, root_reply_step, root_replied, pass_reply_step, pass_replied, queue_reply_step, queue_replied, cache_reply_step, cache_replied, fop_reply_step, fop_replied, job_reply_step, job_replied, client_reply_step, client_replied}
use Rattle.graph_nodes.proofs.nodes.NodeXlatorDownUpContext.resume.Goals as goal

pub returns-in-Root-clause-step : goal.returns-in-Root-clause-step
returns-in-Root-clause-step c = root_reply_step c.args.self.now c.args.local c.args.slot c.args.reply c.resume.result c.requires.own c.requires.slot c.args.cx.now c.in-Root.is c.resume.ensures

pub returns-in-Root-clause-made : goal.returns-in-Root-clause-made
returns-in-Root-clause-made c = root_replied c.args.self.now c.args.cx.now c.args.local c.args.slot c.args.reply c.resume.result _ _ c.in-Root.is c.resume.ensures refl refl

pub returns-in-Root-clause-promise : goal.returns-in-Root-clause-promise
returns-in-Root-clause-promise c = refl

pub returns-in-Pass-clause-step : goal.returns-in-Pass-clause-step
returns-in-Pass-clause-step c = pass_reply_step c.args.self.now c.args.local c.args.slot c.args.reply c.resume-in-Pass.result c.requires.own c.requires.slot c.in-Pass.is c.resume-in-Pass.ensures

pub returns-in-Pass-clause-made : goal.returns-in-Pass-clause-made
returns-in-Pass-clause-made c = pass_replied c.args.self.now c.args.cx.now c.args.local c.args.slot c.args.reply c.resume-in-Pass.result _ _ c.in-Pass.is c.resume-in-Pass.ensures refl refl

pub returns-in-Pass-clause-promise : goal.returns-in-Pass-clause-promise
returns-in-Pass-clause-promise c = refl

pub returns-in-IoThreads-clause-step : goal.returns-in-IoThreads-clause-step
returns-in-IoThreads-clause-step c = queue_reply_step c.args.self.now c.args.local c.args.slot c.args.reply c.resume-in-IoThreads.result c.requires.own c.requires.slot c.in-IoThreads.field-0 c.in-IoThreads.is c.resume-in-IoThreads.ensures

pub returns-in-IoThreads-clause-made : goal.returns-in-IoThreads-clause-made
returns-in-IoThreads-clause-made c = queue_replied c.args.self.now c.args.cx.now c.args.local c.args.slot c.args.reply c.resume-in-IoThreads.result c.in-IoThreads.field-0 _ _ c.in-IoThreads.is c.resume-in-IoThreads.ensures refl refl

pub returns-in-IoThreads-clause-promise : goal.returns-in-IoThreads-clause-promise
returns-in-IoThreads-clause-promise c = refl

pub returns-in-Client-clause-step : goal.returns-in-Client-clause-step
returns-in-Client-clause-step c = client_reply_step c.args.self.now c.args.local c.args.slot c.args.reply c.resume-in-Client.result c.requires.own c.requires.slot c.in-Client.field-0 c.in-Client.is c.resume-in-Client.ensures

pub returns-in-Client-clause-made : goal.returns-in-Client-clause-made
returns-in-Client-clause-made c = client_replied c.args.self.now c.args.cx.now c.args.local c.args.slot c.args.reply c.resume-in-Client.result c.in-Client.field-0 _ _ c.in-Client.is c.resume-in-Client.ensures refl refl

pub returns-in-Client-clause-promise : goal.returns-in-Client-clause-promise
returns-in-Client-clause-promise c = refl

pub returns-in-IoCache-clause-step : goal.returns-in-IoCache-clause-step
returns-in-IoCache-clause-step c = IfOk-weaker c.resume-in-IoCache.result _ _ (λ step h. cache_reply_step c.args.self.now c.args.local c.args.slot c.args.reply step c.requires.own c.requires.slot c.in-IoCache.node c.resume-in-IoCache.new.self c.in-IoCache.is h) c.resume-in-IoCache.ensures

pub returns-in-IoCache-clause-made : goal.returns-in-IoCache-clause-made
returns-in-IoCache-clause-made c = IfOk-weaker c.resume-in-IoCache.result _ _ (λ step h. cache_replied c.args.self.now c.args.cx.now c.args.local c.args.slot c.args.reply step c.in-IoCache.node c.resume-in-IoCache.new.self _ _ c.in-IoCache.is h refl refl) c.resume-in-IoCache.ensures

pub returns-in-IoCache-clause-promise : goal.returns-in-IoCache-clause-promise
returns-in-IoCache-clause-promise c = cache_promise c.args.self.now c.in-IoCache.node c.resume-in-IoCache.new.self c.in-IoCache.is

pub resume_fop-requires-clause-own : goal.resume_fop-requires-clause-own
resume_fop-requires-clause-own c = owned_fop c.args.self.now c.in-Distribute.node c.args.local c.in-Distribute.is c.requires.own

pub returns-in-Distribute-clause-step : goal.returns-in-Distribute-clause-step
returns-in-Distribute-clause-step c = IfOk-weaker c.resume_fop.result _ _ (λ step h. fop_reply_step c.args.self.now c.args.local c.args.slot c.args.reply step c.requires.own c.requires.slot c.in-Distribute.node c.in-Distribute.is h) c.resume_fop.ensures.lawful

pub returns-in-Distribute-clause-made : goal.returns-in-Distribute-clause-made
returns-in-Distribute-clause-made c = IfOk-weaker c.resume_fop.result _ _ (λ step h. fop_replied c.args.self.now c.args.cx.now c.args.local c.args.slot c.args.reply step c.in-Distribute.node c.resume_fop.new.node _ c.resume_fop.new.cx c.in-Distribute.is h refl) c.resume_fop.ensures.made

pub returns-in-Distribute-clause-promise : goal.returns-in-Distribute-clause-promise
returns-in-Distribute-clause-promise c = fop_promise c.args.self.now c.in-Distribute.node c.resume_fop.new.node c.in-Distribute.is c.resume_fop.ensures.sets

pub resume_job-requires-clause-own : goal.resume_job-requires-clause-own
resume_job-requires-clause-own c = owned_job c.args.self.now c.in-Replicate.node c.args.local c.in-Replicate.is c.requires.own

pub returns-in-Replicate-clause-step : goal.returns-in-Replicate-clause-step
returns-in-Replicate-clause-step c = IfOk-weaker c.resume_job.result _ _ (λ step h. job_reply_step c.args.self.now c.args.local c.args.slot c.args.reply step c.requires.own c.requires.slot c.in-Replicate.node c.in-Replicate.is h) c.resume_job.ensures.lawful

pub returns-in-Replicate-clause-made : goal.returns-in-Replicate-clause-made
returns-in-Replicate-clause-made c = IfOk-weaker c.resume_job.result _ _ (λ step h. job_replied c.args.self.now c.args.cx.now c.args.local c.args.slot c.args.reply step c.in-Replicate.node _ c.resume_job.new.cx c.in-Replicate.is h (same_kind c.args.self.now (kind.Replicate c.in-Replicate.node) c.in-Replicate.is)) c.resume_job.ensures.made

pub returns-in-Replicate-clause-promise : goal.returns-in-Replicate-clause-promise
returns-in-Replicate-clause-promise c = kind_promise c.args.self.now (kind.Replicate c.in-Replicate.node) c.in-Replicate.is
