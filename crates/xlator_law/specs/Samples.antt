-- What the sample translators promise, and what their steps make of what causes them.
use Rattle.std.specs.Prelude.{ℕ, ◌≡◌, Bool, true, false, not, ◌+◌, ◌==◌, ◌&&◌, ◌||◌, [], ◌∷◌}
use Rattle.xlator_law.specs.declared.step.Step.{Step}
use Rattle.xlator_law.specs.declared.step.Step.TheVariants.{Wait, Unwind}
use Rattle.xlator_law.specs.declared.samples.Relay.{Relay}
use Rattle.xlator_law.specs.declared.samples.Pair.{Pair}
use Rattle.xlator_law.specs.declared.samples.Waits.{Waits}
use Rattle.xlator_law.specs.declared.samples.Gate.{Gate}
use Rattle.xlator_law.specs.declared.samples.Gated.{Gated}
use Rattle.xlator_law.specs.declared.samples.Gated.TheVariants.{Held, Passed}
use Rattle.xlator_law.specs.Law.{Promise, Slots, Cause, WindsThese}
use Rattle.xlator_law.specs.Law.Cause.{Enter, Reply, Go}

-- slot 0 waits for the first child, slot 1 for the second
abbrev pub waits : Waits → Slots
waits w s = (w.first && s == 0) || (w.second && s == 1)

abbrev pub is_some : Waits → Bool
is_some w = w.first || w.second

-- what still waits once this slot was answered
abbrev pub rest_of : Waits → ℕ → Waits
rest_of w slot = record { first = w.first && not (slot == 0); second = w.second && not (slot == 1) }

module _ {F : Type 0} where
  abbrev pub relay_promise : Relay → Promise F (Unit {0})
  relay_promise r = record {
    children = 1;
    slots = 1;
    below = r.breadth;
    cost = λ _. r.below + 1;
    child_cost = λ _ _. r.below;
    owns = λ _. true;
    unanswered = λ _ s. s == 0;
    waits = λ _. false;
    left = λ _. 0;
  }

  abbrev pub pair_promise : Pair → Promise F Waits
  pair_promise p = record {
    children = 2;
    slots = 2;
    below = p.breadth;
    cost = λ _. p.below + p.below + 2;
    child_cost = λ _ _. p.below;
    owns = is_some;
    unanswered = waits;
    waits = λ _. false;
    left = λ _. 0;
  }

  abbrev pub is_held : Gated F → Bool
  is_held (Held fop) = true
  is_held Passed = false

  abbrev pub gate_slots : Gated F → Slots
  gate_slots (Held fop) s = false
  gate_slots Passed s = s == 0

  abbrev pub gate_left : ℕ → Gated F → ℕ
  gate_left below (Held fop) = below + 1
  gate_left below Passed = 0

  abbrev pub gate_promise : Gate → Promise F (Gated F)
  gate_promise g = record {
    children = 1;
    slots = 1;
    below = g.breadth;
    cost = λ _. g.below + 1;
    child_cost = λ _ _. g.below;
    owns = λ _. true;
    unanswered = gate_slots;
    waits = is_held;
    left = gate_left g.below;
  }

module _ {F R : Type 0} where
  -- a relay hands the fop on, and the reply back
  abbrev pub RelaySteps : Cause F R (Unit {0}) → Step F R (Unit {0}) → Type 0
  RelaySteps (Enter entry fop) step = WindsThese ((0, 0, fop) ∷ []) tt step
  RelaySteps (Reply local slot reply) step = step ≡ Unwind reply
  RelaySteps (Go local) step = Unit {0}

  -- after an answer a pair waits on while it has to, and else hands the reply back
  abbrev pub PairAnswers : Bool → Waits → R → Step F R Waits → Type 0
  PairAnswers true rest reply step = WindsThese [] rest step
  PairAnswers false rest reply step = step ≡ Unwind reply

  -- a pair hands the fop on to both of its children
  abbrev pub PairSteps : Cause F R Waits → Step F R Waits → Type 0
  PairSteps (Enter entry fop) step = WindsThese ((0, 0, fop) ∷ (1, 1, fop) ∷ []) (record { first = true; second = true }) step
  PairSteps (Reply local slot reply) step = PairAnswers (is_some (rest_of local slot)) (rest_of local slot) reply step
  PairSteps (Go local) step = Unit {0}

  -- a gate that goes on hands on the fop that it held
  abbrev pub GateGoes : Gated F → Step F R (Gated F) → Type 0
  GateGoes (Held fop) step = WindsThese ((0, 0, fop) ∷ []) Passed step
  GateGoes Passed step = Unit {0}

  abbrev pub GateSteps : Cause F R (Gated F) → Step F R (Gated F) → Type 0
  GateSteps (Enter entry fop) step = step ≡ Wait (Held fop)
  GateSteps (Reply local slot reply) step = step ≡ Unwind reply
  GateSteps (Go local) step = GateGoes local step

  module _ {C : Type 0} where
    -- no sample changes itself or the context
    abbrev pub relay_makes : Relay → C → Cause F R (Unit {0}) → Step F R (Unit {0}) → Relay → C → Type 0
    relay_makes old cx cause step new cx_new = RelaySteps cause step × (new ≡ old) × (cx_new ≡ cx)

    abbrev pub pair_makes : Pair → C → Cause F R Waits → Step F R Waits → Pair → C → Type 0
    pair_makes old cx cause step new cx_new = PairSteps cause step × (new ≡ old) × (cx_new ≡ cx)

    abbrev pub gate_makes : Gate → C → Cause F R (Gated F) → Step F R (Gated F) → Gate → C → Type 0
    gate_makes old cx cause step new cx_new = GateSteps cause step × (new ≡ old) × (cx_new ≡ cx)
