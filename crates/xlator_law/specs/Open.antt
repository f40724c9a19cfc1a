-- The winds that are open at one moment in a frame and in all frames below it. Each open wind opened one
-- frame below at most, and that frame's node fits below: its breadth is at most what the node above says of
-- its children. Ours.
use Rattle.std.specs.Prelude.{ℕ, ◌≤◌, ◌+◌}
use Rattle.xlator_law.specs.Law.{Promise, breadth}

-- A frame of the node with this promise has so many winds open (the first number), and with all frames below
-- it so many (the second).
pub data AreOpen {F L : Type 0} : Promise F L → ℕ → ℕ → Type 0 where
  NoWind : (p : Promise F L) → AreOpen p 0 0
  WithoutFrame : (p : Promise F L) → (own all : ℕ) → AreOpen p own all → AreOpen p (own + 1) (all + 1)
  WithFrame : (p q : Promise F L) → (own all own_below all_below : ℕ) → AreOpen p own all →
      AreOpen q own_below all_below → own_below ≤ q.slots → breadth q ≤ p.below →
      AreOpen p (own + 1) (all + 1 + all_below)

abbrev pub OpenWindsAreBounded : Type 0 → Type 0 → Type 0
OpenWindsAreBounded F L = (p : Promise F L) (own all : ℕ) → AreOpen p own all → own ≤ p.slots → all ≤ breadth p
