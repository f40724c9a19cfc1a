use Rattle.std.proofs.Common.{◌≡◌, sym, subst}
use Rattle.std.specs.Prelude.{List}
use Rattle.std.specs.List.{AllByRecursion}
use Rattle.mount_log.specs.Causes.{IsCaused}
use Rattle.mount_log.specs.declared.logs.ReplyLine.{ReplyLine}
use Rattle.error_audit.specs.Finding.{IsReplyFound}
use Rattle.error_audit.proofs.Evidenced.{all_caused}
use Rattle.error_audit.proofs.io_causes.all_caused.Goals as goal

pub returns-clause-sound : goal.returns-clause-sound
returns-clause-sound c = λ yes.
    all_caused c.args.script.now c.args.plans.now c.args.log.now
    (subst (λ (l : List ReplyLine). AllByRecursion (λ (r : ReplyLine). IsCaused c.args.script.now c.args.plans.now c.args.log.now r r.answer) l) c.as_slice-replies.ensures (c.in_ok-yes.ensures.sound yes))

pub returns-clause-complete : goal.returns-clause-complete
returns-clause-complete c = λ all.
    c.in_ok-yes.ensures.complete
    (subst (λ (l : List ReplyLine). AllByRecursion (λ (r : ReplyLine). IsReplyFound c.args.script.now c.args.plans.now c.args.log.now c.args.tables.now r r.answer) l) (sym c.as_slice-replies.ensures) all)
