-- What the law of a translator gives for a whole frame. A frame's trace is the list of its events, in order:
-- the winds of each of its steps, the replies that resumed it, and the ends of its waits. Ours.
use Rattle.std.specs.Prelude.{ℕ, ◌≡◌, ◌≤◌, ◌<◌, ◌+◌, ◌==◌, Bool, true, false, List, [], ◌∷◌, ◌++◌}
use Rattle.xlator_law.specs.declared.step.Step.{Step}
use Rattle.xlator_law.specs.declared.step.Step.TheVariants.{Wind, Wait, Unwind}
use Rattle.xlator_law.specs.declared.winds.Entry.{Entry}
use Rattle.xlator_law.specs.Law.{Slots, no_slots, Promise, Cause, IsStep, AreWithin, wind_cost}
use Rattle.xlator_law.specs.Law.Cause.{Enter, Reply, Go}

-- one for a yes, nothing for a no
abbrev pub one_if : Bool → ℕ
one_if true = 1
one_if false = 0

-- how many of these replies, each with the slot that it answers, are of that slot
abbrev pub times_answered : {R : Type 0} → ℕ → List (ℕ × R) → ℕ
times_answered s [] = 0
times_answered s (x ∷ xs) = one_if (s == x.0) + times_answered s xs

abbrev pub times_wound : {F : Type 0} → ℕ → List (ℕ × ℕ × F) → ℕ
times_wound s [] = 0
times_wound s (w ∷ ws) = one_if (s == w.1) + times_wound s ws

-- What happens to a frame: a step of it winds these, or the wind in a slot is answered with this reply, or
-- what it waited for has come.
pub data Event (F R : Type 0) : Type 0 where
  Wound : (winds : List (ℕ × ℕ × F)) → Event F R
  Answered : (slot : ℕ) → (reply : R) → Event F R
  WentOn : Event F R

module _ {F R : Type 0} where
  -- the winds of all steps, in order
  abbrev pub winds_in : List (Event F R) → List (ℕ × ℕ × F)
  winds_in [] = []
  winds_in (Wound winds ∷ es) = winds ++ winds_in es
  winds_in (Answered slot reply ∷ es) = winds_in es
  winds_in (WentOn ∷ es) = winds_in es

  -- the replies, each with the slot that it answers, in order
  abbrev pub replies_in : List (Event F R) → List (ℕ × R)
  replies_in [] = []
  replies_in (Wound winds ∷ es) = replies_in es
  replies_in (Answered slot reply ∷ es) = (slot, reply) ∷ replies_in es
  replies_in (WentOn ∷ es) = replies_in es

module _ {F R L : Type 0} where
  -- the winds of a step
  abbrev pub winds_of : Step F R L → List (ℕ × ℕ × F)
  winds_of (Wind winds local) = winds.items
  winds_of (Wait local) = []
  winds_of (Unwind reply) = []

  module _ (p : Promise F L) where
    -- the slots that are unanswered after a step, and what may be spent after it
    abbrev pub unanswered_after : Step F R L → Slots
    unanswered_after (Wind winds local) = p.unanswered local
    unanswered_after (Wait local) = p.unanswered local
    unanswered_after (Unwind reply) = no_slots

    abbrev pub left_after : Step F R L → ℕ
    left_after (Wind winds local) = p.left local
    left_after (Wait local) = p.left local
    left_after (Unwind reply) = 0

    -- The frame was entered so with this fop, these are its events, and this is its last step. Each of its
    -- steps meets the law of its node, and is one that its node makes.
    pub data IsTrace (made : Cause F R L → Step F R L → Type 0) (entry : Entry) (fop : F) : List (Event F R) → Step F R L → Type 0 where
      Entered : (step : Step F R L) → IsStep p (Enter entry fop) step → made (Enter entry fop) step →
          IsTrace made entry fop (Wound (winds_of step) ∷ []) step
      Resumed : (events : List (Event F R)) → (sent : _) → (local : L) → (slot : ℕ) → (reply : R) → (step : Step F R L) →
          IsTrace made entry fop events (Wind sent local) → p.unanswered local slot ≡ true →
          IsStep p (Reply local slot reply) step → made (Reply local slot reply) step →
          IsTrace made entry fop (events ++ Answered slot reply ∷ Wound (winds_of step) ∷ []) step
      Continued : (events : List (Event F R)) → (local : L) → (step : Step F R L) →
          IsTrace made entry fop events (Wait local) → IsStep p (Go local) step → made (Go local) step →
          IsTrace made entry fop (events ++ WentOn ∷ Wound (winds_of step) ∷ []) step

    -- All winds of the frame and what is left are paid by the cost of its fop. They go to children that
    -- there are. Each slot was wound as often as it was answered, and once more where it is unanswered;
    -- so a frame has at most as many winds open as there are slots.
    pub record IsBounded (fop : F) (winds : List (ℕ × ℕ × F)) (replies : List (ℕ × R)) (step : Step F R L) : Type 0 where
      pub paid : wind_cost p.child_cost winds + left_after step ≤ p.cost fop
      pub within : AreWithin p.children p.slots winds
      pub answered : (s : ℕ) → times_wound s winds ≡ times_answered s replies + one_if (unanswered_after step s)
      pub narrow : (s : ℕ) → unanswered_after step s ≡ true → s < p.slots

-- whatever a node makes
abbrev pub any_step : {F R L : Type 0} → Cause F R L → Step F R L → Type 0
any_step cause step = Unit {0}

abbrev pub FramesAreBounded : Type 0 → Type 0 → Type 0 → Type 0
FramesAreBounded F R L = (p : Promise F L) (entry : Entry) (fop : F) (events : List (Event F R)) (step : Step F R L) →
    IsTrace p any_step entry fop events step → IsBounded p fop (winds_in events) (replies_in events) step
