use Rattle.std.proofs.Common.{ℕ, IfOk, ◌∙◌, ap, length, subst}
use Rattle.fop_types.specs.declared.messages.BrickRep.{BrickRep}
use Rattle.self_heal.specs.Runs.{answered as copy_answered}
use Rattle.self_heal.specs.declared.run.CopyRun.{CopyRun}
use Rattle.self_heal.specs.declared.stage.CopyNeed.{CopyNeed}
use Rattle.graph_nodes.specs.Replicate.{IsTurn, on_copy}
use Rattle.graph_nodes.proofs.AskedSlots.{copying_of}
use Rattle.graph_nodes.proofs.kinds.Replicate.copy_answered.Goals as goal

pub go_on_copying-requires-clause-copying : goal.go_on_copying-requires-clause-copying
go_on_copying-requires-clause-copying c = copying_of (length c.args.self.now.plan.bricks) c.args.txn c.args.run c.requires.way

pub returns-in-Ok : goal.returns-in-Ok
returns-in-Ok c = subst (λ (t : CopyRun × CopyNeed). IfOk c.go_on_copying.result (λ step. IsTurn (on_copy c.args.self.now.plan c.args.requests c.args.cx.now c.args.txn t) step c.go_on_copying.new.cx))
    (c.in-Ok.ensures.made
    ∙ ap (λ (rep : BrickRep). copy_answered c.args.run c.args.replica rep c.mark-mark.result) c.into_rep-rep.ensures.is
    ∙ ap (λ (mark : ℕ). copy_answered c.args.run c.args.replica c.args.said.rep mark) c.mark-mark.ensures) c.go_on_copying.ensures
