use Rattle.std.proofs.Common.{◌≡◌, ◌<◌, ◌≤◌, refl, sym, ◌∙◌, arith}
use Rattle.std.specs.Prelude.{ℕ, ◌+◌, length, slice_get}
use Rattle.std.proofs.lemmas.Option.{slice_get_within}
use Rattle.run_audit.specs.Noted.{IsWithin}
use Rattle.log_audit.specs.declared.calls_made.CallMade.{CallMade}
use Rattle.mount_log.proofs.Lists.{each_next, got}
use Rattle.run_audit.proofs.call_phases.are_in_phases.Goals as goal

pub loop-k-preserved : goal.loop-k-preserved
loop-k-preserved c =
    each_next (λ (n : ℕ) (call : CallMade). IsWithin c.args.ended.now c.args.last call.phase call.event) c.args.calls.now c.loop-k.k c.in-Some.call.now
    (got c.args.calls.now c.loop-k.k c.in-Some.call.now c.in-Some.ensures.lookup.0 c.in-Some.ensures.lookup.1) (c.is_within.ensures.0 c.if-not-is_within.false) c.loop-k.invariant

pub returns : goal.returns
returns c = (λ _ k call is. c.loop-k.invariant k call (let lt = slice_get_within c.args.calls.now k call is in omega (arith, lt, c.loop-k-test.false)) is, λ _. refl)

pub returns-then-not-is_within : goal.returns-then-not-is_within
returns-then-not-is_within c = (
  λ no. absurd cc,
  λ all. sym c.if-not-is_within.true ∙ c.is_within.ensures.1 (all c.loop-k.k c.in-Some.call.now (got c.args.calls.now c.loop-k.k c.in-Some.call.now c.in-Some.ensures.lookup.0 c.in-Some.ensures.lookup.1)),
)
