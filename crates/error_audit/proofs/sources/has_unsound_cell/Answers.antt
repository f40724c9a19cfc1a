use Rattle.std.proofs.Common.{◌≡◌, refl}
use Rattle.std.specs.Prelude.{ℕ}
use Rattle.mount_log.specs.Causes.{IsSoundAt}
use Rattle.error_audit.proofs.Different.{none_next, none_all}
use Rattle.error_audit.proofs.Sourcing.{unsound}
use Rattle.error_audit.proofs.sources.has_unsound_cell.Goals as goal

pub returns-then-is_none : goal.returns-then-is_none
returns-then-is_none c = (
  λ _. unsound c.args.plan.now c.args.shown.now c.args.places.now c.loop-place.place-index _ c.loop-place-test.true (λ k s. c.is_none.ensures.0 c.if-is_none.true k ((c.in_ok-mask.ensures k).0 s)),
  λ _. refl,
)

pub loop-place-preserved : goal.loop-place-preserved
loop-place-preserved c =
    none_next (λ (place : ℕ). (k : ℕ) → IsSoundAt c.args.plan.now c.args.shown.now k place → ⊥) c.args.places.now c.loop-place.place-index _ c.loop-place-test.true c.loop-place.invariant
    (λ none. let yes = c.is_none.ensures.1 (λ k own. none k ((c.in_ok-mask.ensures k).1 own)) in let no = c.if-is_none.false in absurd cc)

pub returns : goal.returns
returns c = (
  λ no. absurd cc,
  λ has. absurd (none_all (λ (place : ℕ). (k : ℕ) → IsSoundAt c.args.plan.now c.args.shown.now k place → ⊥) c.args.places.now c.loop-place.place-index c.loop-place-test.false c.loop-place.invariant has.place has.among has.none),
)
