use Rattle.std.proofs.Common.{◌≡◌, ◌<◌, ◌≤◌, sym, subst, ◌∙◌, arith}
use Rattle.std.specs.Prelude.{ℕ, ◌+◌, ◌-◌, length, slice_get}
use Rattle.std.proofs.lemmas.Option.{slice_get_within}
use Rattle.run_audit.specs.CallPhases.{AreReplied}
use Rattle.log_audit.specs.declared.calls_made.CallMade.{CallMade}
use Rattle.mount_log.proofs.Lists.{each_next, got}
use Rattle.run_audit.proofs.alone.are_one_by_one.Goals as goal

pub loop-n-preserved : goal.loop-n-preserved
loop-n-preserved c =
    each_next (λ (n : ℕ) (call : CallMade). AreReplied c.args.log.now c.args.calls.now call.session n (call.event - 1)) c.args.calls.now c.loop-n.n c.in-Some.call.now
    (got c.args.calls.now c.loop-n.n c.in-Some.call.now c.in-Some.ensures.lookup.0 c.in-Some.ensures.lookup.1)
    (subst (λ (k : ℕ). AreReplied c.args.log.now c.args.calls.now c.in-Some.call.now.session c.loop-n.n k) c.saturating_sub.ensures (c.are_replied.ensures.sound c.if-not-are_replied.false)) c.loop-n.invariant

pub returns-clause-sound : goal.returns-clause-sound
returns-clause-sound c = λ _ n call is. c.loop-n.invariant n call (let lt = slice_get_within c.args.calls.now n call is in omega (arith, lt, c.loop-n-test.false)) is

pub returns-then-not-are_replied-clause-complete : goal.returns-then-not-are_replied-clause-complete
returns-then-not-are_replied-clause-complete c = λ many places all.
    sym c.if-not-are_replied.true
    ∙ c.are_replied.ensures.complete many places
    (subst (λ (k : ℕ). AreReplied c.args.log.now c.args.calls.now c.in-Some.call.now.session c.loop-n.n k) (sym c.saturating_sub.ensures)
    (all c.loop-n.n c.in-Some.call.now (got c.args.calls.now c.loop-n.n c.in-Some.call.now c.in-Some.ensures.lookup.0 c.in-Some.ensures.lookup.1)))
