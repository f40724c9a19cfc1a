use Rattle.std.proofs.Common.{sym, ap, subst, ◌∙◌}
use Rattle.std.specs.Prelude.{length}
use Rattle.script_lang.specs.Accepted.{calls_of}
use Rattle.mount_log.specs.Logs.{submits_in}
use Rattle.log_audit.specs.Replied.{HaveOne}
use Rattle.log_audit.proofs.Endings.{finished, submits_are}
use Rattle.log_audit.proofs.ended.is_finished.Goals as goal

pub returns-clause-sound : goal.returns-clause-sound
returns-clause-sound c = λ yes order.
    let calls = c.count_calls-calls.ensures ∙ ap (λ l. length (calls_of l)) c.as_slice.ensures in
    finished c.args.script.now c.args.log.now order
    (sym (c.count_submits.ensures ∙ ap submits_in c.as_slice-2.ensures) ∙ c.if-count_submits-calls.false ∙ calls)
    (subst (λ n. HaveOne n c.args.log.now.replies) calls (subst (λ rs. HaveOne c.count_calls-calls.result rs) c.as_slice-3.ensures (c.in_ok-one.ensures.0 yes)))

pub returns-then-count_submits-calls-clause-complete : goal.returns-then-count_submits-calls-clause-complete
returns-then-count_submits-calls-clause-complete c = λ order is.
    let calls = c.count_calls-calls.ensures ∙ ap (λ l. length (calls_of l)) c.as_slice.ensures in
    absurd (c.if-count_submits-calls.true (c.count_submits.ensures ∙ ap submits_in c.as_slice-2.ensures ∙ submits_are c.args.script.now c.args.log.now order is ∙ sym calls))
