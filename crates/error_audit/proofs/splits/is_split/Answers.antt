use Rattle.std.proofs.Common.{◌≡◌, sym, ap, subst, ◌∙◌, map}
use Rattle.std.specs.Prelude.{Option, None, Some}
use Rattle.mount_log.proofs.Items.{some_is}
use Rattle.error_audit.specs.Finding.{IsSplitIn}
use Rattle.error_audit.specs.LockTable.{locks_at}
use Rattle.error_audit.specs.code.Searches.{first_lock, phase_at}
use Rattle.error_audit.specs.declared.grants.LockPhase.{LockPhase}
use Rattle.error_audit.proofs.splits.is_split.Goals as goal

pub returns-in_ok-yes-in-Some-clause-complete : goal.returns-in_ok-yes-in-Some-clause-complete
returns-in_ok-yes-in-Some-clause-complete c = λ split.
    let there : c.in_ok-found.found ≡ Some split.phase =
    c.in_ok-found.ensures ∙ ap (λ l. phase_at c.args.log.now c.args.reply.now.call (first_lock c.args.rows.now (locks_at (map (λ v. v.items) l) c.args.reply.now.call) None)) c.as_slice.ensures.value ∙ split.phase_is in
    c.in_ok-yes-in-Some.ensures.complete
    (subst (λ (p : LockPhase). IsSplitIn c.args.log.now c.args.tables.now c.args.plan.now c.args.span c.args.reply.now.call c.args.reply.now.event p c.args.rows.now)
    (some_is split.phase c.in-Some.phase (sym there ∙ c.in-Some.is)) split.split)

pub returns-in-None-clause-complete : goal.returns-in-None-clause-complete
returns-in-None-clause-complete c = λ split.
    let there : c.in_ok-found.found ≡ Some split.phase =
    c.in_ok-found.ensures ∙ ap (λ l. phase_at c.args.log.now c.args.reply.now.call (first_lock c.args.rows.now (locks_at (map (λ v. v.items) l) c.args.reply.now.call) None)) c.as_slice.ensures.value ∙ split.phase_is in
    let none : ◌≡◌ {A = Option LockPhase} None (Some split.phase) = sym c.in-None.is ∙ there in absurd cc
