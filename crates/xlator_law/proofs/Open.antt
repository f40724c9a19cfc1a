-- No more winds are open than a node's breadth.
use Rattle.std.proofs.Common.{arith, add-mul}
use Rattle.std.proofs.lemmas.Nat.{mul-le}
use Rattle.std.specs.Prelude.{ℕ, ◌+◌, ◌*◌, ◌≤◌}
use Rattle.xlator_law.specs.Law.{Promise, breadth}
use Rattle.xlator_law.specs.Open.{AreOpen, OpenWindsAreBounded}
use Rattle.xlator_law.specs.Open.AreOpen.{NoWind, WithoutFrame, WithFrame}

module _ {F L : Type 0} where
  -- each wind of the frame counts as one, and as those below it
  widest : (p : Promise F L) (own all : ℕ) → AreOpen p own all → all ≤ own * (1 + p.below)
  widest _ _ _ (NoWind p) = omega (arith)
  widest _ _ _ (WithoutFrame p own all are) =
      let ih = widest p own all are in
      let e = add-mul own 1 (1 + p.below) in
      omega (arith, ih, e)
  widest _ _ _ (WithFrame p q own all own_below all_below are below few fits) =
      let ih = widest p own all are in
      let e = add-mul own 1 (1 + p.below) in
      let under = widest q own_below all_below below in
      let most = mul-le own_below (1 + q.below) q.slots (1 + q.below) few (omega (arith)) in
      let fit : q.slots * (1 + q.below) ≤ p.below = fits in
      omega (arith, ih, e, under, most, fit)

  bounded : (p : Promise F L) (own all : ℕ) → AreOpen p own all → own ≤ p.slots → all ≤ breadth p
  bounded p own all are few =
      let most = widest p own all are in
      let more = mul-le own (1 + p.below) p.slots (1 + p.below) few (omega (arith)) in
      omega (arith, most, more)

pub open_bounded : (F L : Type 0) → OpenWindsAreBounded F L
open_bounded F L = bounded {F = F} {L = L}
