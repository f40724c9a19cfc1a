use Rattle.std.proofs.Common.{◌≡◌, subst}
use Rattle.std.specs.Prelude.{List}
use Rattle.std.specs.List.{AllByRecursion}
use Rattle.mount_log.specs.declared.logs.ReplyLine.{ReplyLine}
use Rattle.error_audit.specs.IoCauses.{IsPlain}
use Rattle.error_audit.proofs.Evidenced.{all_plain}
use Rattle.error_audit.proofs.io_causes.have_none.Goals as goal

pub returns-clause-sound : goal.returns-clause-sound
returns-clause-sound c = λ yes.
    all_plain c.args.script.now c.args.plans.now c.args.log.now (subst (λ (l : List ReplyLine). AllByRecursion (λ (r : ReplyLine). IsPlain r.answer) l) c.as_slice.ensures (c.are_plain.ensures.0 yes))
