use Rattle.std.proofs.Common.{sym, subst}
use Rattle.std.specs.Prelude.{List, take}
use Rattle.std.proofs.lemmas.List.{take_more}
use Rattle.std.proofs.lemmas.Option.{slice_get-get_or}
use Rattle.mount_log.specs.declared.logs.WindLine.{WindLine}
use Rattle.log_audit.specs.Agreeing.{Agree}
use Rattle.log_audit.specs.Following.{WindsFollow}
use Rattle.log_audit.proofs.Steps.{taken}
use Rattle.log_audit.proofs.Following.{follow_more, none_refused}
use Rattle.log_audit.proofs.winds.slots_after.Goals as goal

pub loop-line-preserved : goal.loop-line-preserved
loop-line-preserved c =
    let takes = c.in_ok-take.ensures.taken c.if-not-branch.false in (
      subst (λ (ls : List WindLine). Agree c.take.new.self ls) (sym (take_more c.args.lines.now c.loop-line.line-index _ c.loop-line-test.true))
          (taken c.loop-line.slots c.take.new.self (take c.loop-line.line-index c.args.lines.now) _ takes c.loop-line.invariant.0),
      subst (λ (ls : List WindLine). WindsFollow ls) (sym (take_more c.args.lines.now c.loop-line.line-index _ c.loop-line-test.true))
          (follow_more c.loop-line.slots (take c.loop-line.line-index c.args.lines.now) _ takes.next takes.own c.loop-line.invariant.0 c.loop-line.invariant.1),
    )

pub returns-then-not-branch-clause-complete : goal.returns-then-not-branch-clause-complete
returns-then-not-branch-clause-complete c = λ once follow.
    none_refused c.loop-line.slots c.args.lines.now c.loop-line.line-index _ (slice_get-get_or c.args.lines.now c.loop-line.line-index _ c.loop-line-test.true) c.loop-line.invariant.0 once follow
    (c.in_ok-take.ensures.refused c.if-not-branch.true)
