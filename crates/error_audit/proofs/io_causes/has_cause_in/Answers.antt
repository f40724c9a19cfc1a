use Rattle.std.proofs.Common.{◌≡◌, sym, ap, subst, ◌∙◌}
use Rattle.std.specs.Prelude.{ℕ, Option, None, Some}
use Rattle.fop_types.specs.declared.jobs.SetPlan.{SetPlan}
use Rattle.mount_log.specs.Causes.{set_of_call}
use Rattle.mount_log.proofs.Items.{some_is}
use Rattle.error_audit.specs.Finding.{IsFound}
use Rattle.error_audit.proofs.io_causes.has_cause_in.Goals as goal

pub returns-clause-sound : goal.returns-clause-sound
returns-clause-sound c = λ yes. record {
  plan = c.in-Some.plan.now;
  set = ap (λ (n : ℕ). set_of_call c.args.script.now c.args.plans.now c.args.log.now c.args.reply.now.call n) (sym c.set_named.ensures) ∙ sym c.in-Some.ensures;
  evidence = c.in_ok-yes.ensures.sound yes;
}

pub returns-clause-complete : goal.returns-clause-complete
returns-clause-complete c = λ plan set found.
    let there : set_of_call c.args.script.now c.args.plans.now c.args.log.now c.args.reply.now.call c.set_named.result ≡ Some plan =
    ap (λ (n : ℕ). set_of_call c.args.script.now c.args.plans.now c.args.log.now c.args.reply.now.call n) c.set_named.ensures ∙ set in
    c.in_ok-yes.ensures.complete
    (subst (λ (p : SetPlan). IsFound c.args.log.now c.args.tables.now p c.args.span c.args.reply.now.call c.args.reply.now.event c.args.error.now)
    (some_is plan c.in-Some.plan.now (sym there ∙ sym c.in-Some.ensures)) found)

pub returns-in_default-clause-complete : goal.returns-in_default-clause-complete
returns-in_default-clause-complete c = λ plan set found.
    let there : set_of_call c.args.script.now c.args.plans.now c.args.log.now c.args.reply.now.call c.set_named.result ≡ Some plan =
    ap (λ (n : ℕ). set_of_call c.args.script.now c.args.plans.now c.args.log.now c.args.reply.now.call n) c.set_named.ensures ∙ set in
    let none : ◌≡◌ {A = Option SetPlan} None (Some plan) = c.in_default.ensures ∙ there in absurd cc
