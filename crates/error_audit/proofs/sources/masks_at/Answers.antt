use Rattle.std.proofs.Common.{◌≡◌, sym, subst}
use Rattle.std.specs.Prelude.{ℕ, List, Contains}
use Rattle.std.proofs.lemmas.List.{take_all}
use Rattle.error_audit.proofs.Sourcing.{next_mask, next_sound}
use Rattle.error_audit.proofs.sources.masks_at.Goals as goal

pub loop-place-preserved : goal.loop-place-preserved
loop-place-preserved c = record {
  common = next_mask c.args.plan.now c.args.shown.now c.args.places.now c.loop-place.place-index _ c.loop-place.masks.items c.push.new.self.items c.in_ok-mask.mask c.loop-place-test.true c.in_ok-push.ensures.items
      c.loop-place.invariant.common (λ k. (c.in_ok-mask.ensures k).0);
  sound = next_sound c.args.plan.now c.args.shown.now c.args.places.now c.loop-place.place-index _ c.loop-place.masks.items c.push.new.self.items c.in_ok-mask.mask c.loop-place-test.true c.in_ok-push.ensures.items
      c.loop-place.invariant.sound (λ k. (c.in_ok-mask.ensures k).1);
}

pub returns : goal.returns
returns c = λ k. (
  c.loop-place.invariant.common k,
  λ common place among. c.loop-place.invariant.sound k common place (subst (λ (l : List ℕ). Contains l place) (sym (take_all c.loop-place.place-index c.args.places.now c.loop-place-test.false)) among),
)
