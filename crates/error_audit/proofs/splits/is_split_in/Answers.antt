use Rattle.std.proofs.Common.{◌≡◌, sym, ap, subst, ◌∙◌, arith, length}
use Rattle.std.specs.List.{AllZip}
use Rattle.mount_log.specs.Causes.{HasShown}
use Rattle.error_audit.specs.LockTable.{AreOfCalls}
use Rattle.error_audit.proofs.Locking.{same_locks}
use Rattle.error_audit.proofs.Searching.{same_lists, from_some, none_some}
use Rattle.error_audit.proofs.splits.is_split_in.Goals as goal

pub is_last_phase-requires : goal.is_last_phase-requires
is_last_phase-requires c = same_locks c.args.log.now (λ l. l.items) c.args.tables.now.locks.items c.as_slice.result.now c.as_slice.ensures.value c.requires.locks

pub is_answered-requires-clause-phase : goal.is_answered-requires-clause-phase
is_answered-requires-clause-phase c = c.is_last_phase.ensures.sound c.if-not-is_last_phase.false

pub returns-then-not-is_last_phase-clause-complete : goal.returns-then-not-is_last_phase-clause-complete
returns-then-not-is_last_phase-clause-complete c = λ split.
    let only = same_lists (λ l. l.items) (AreOfCalls c.args.log.now) c.args.tables.now.locks.items c.as_slice.result.now c.as_slice.ensures.value split.only in
    let long = ap length c.as_slice.ensures.value in let low = split.low in
    sym c.if-not-is_last_phase.true ∙ c.is_last_phase.ensures.complete only (omega (arith, long, low)) split.last_phase

pub returns-in_ok-yes-in-Some-clause-complete : goal.returns-in_ok-yes-in-Some-clause-complete
returns-in_ok-yes-in-Some-clause-complete c = λ split.
    let Shown = AllZip (HasShown c.args.log.now c.args.plan.now c.args.reply.now.call c.args.reply.now.event c.args.phase.now.from c.args.phase.now.cells) c.args.plan.now.bricks in
    let each = subst Shown (sym c.as_slice-in-Some.ensures.value) (from_some (λ v. v.items) Shown c.in_ok-found.found c.in-Some.shown c.in-Some.is c.in_ok-found.ensures.sound) in
    c.in_ok-yes-in-Some.ensures.complete split.sized split.marks (split.answered c.as_slice-in-Some.result.now each)

pub returns-in-None-clause-complete : goal.returns-in-None-clause-complete
returns-in-None-clause-complete c = λ split. none_some c.in_ok-found.found c.in-None.is (c.in_ok-found.ensures.complete split.each)
