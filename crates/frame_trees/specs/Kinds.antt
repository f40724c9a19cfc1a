-- What a node of each kind promises, and what its steps make, in the words of the sample translators.
use Rattle.std.specs.Prelude.{ℕ, ◌≡◌, ◌+◌, ◌==◌, Bool, true, false, [], ◌∷◌}
use Rattle.xlator_law.specs.declared.step.Step.{Step}
use Rattle.xlator_law.specs.declared.step.Step.TheVariants.{Wind, Wait, Unwind}
use Rattle.xlator_law.specs.declared.samples.Waits.{Waits}
use Rattle.xlator_law.specs.declared.samples.Gated.{Gated}
use Rattle.xlator_law.specs.declared.samples.Gated.TheVariants.{Held, Passed}
use Rattle.xlator_law.specs.Law.{Promise, Slots, Cause, WindsThese}
use Rattle.xlator_law.specs.Law.Cause.{Enter, Reply, Go}
use Rattle.xlator_law.specs.Samples.{waits, is_some, rest_of, is_held, gate_slots, gate_left}
use Rattle.frame_trees.specs.declared.kinds.Kind.{Kind}
use Rattle.frame_trees.specs.declared.kinds.Kind.TheVariants as kind
use Rattle.frame_trees.specs.declared.kinds.Kept.{Kept}
use Rattle.frame_trees.specs.declared.kinds.Kept.TheVariants as kept
use Rattle.frame_trees.specs.declared.kinds.Node.{Node}

abbrev pub slots_of : Kept → Slots
slots_of kept.Relay s = s == 0
slots_of (kept.Pair w) s = waits w s
slots_of (kept.Gate g) s = gate_slots g s

abbrev pub is_owned : Kept → Bool
is_owned kept.Relay = true
is_owned (kept.Pair w) = is_some w
is_owned (kept.Gate g) = true

abbrev pub is_waiting : Kept → Bool
is_waiting kept.Relay = false
is_waiting (kept.Pair w) = false
is_waiting (kept.Gate g) = is_held g

abbrev pub left_of : ℕ → Kept → ℕ
left_of below kept.Relay = 0
left_of below (kept.Pair w) = 0
left_of below (kept.Gate g) = gate_left below g

-- how many children a node of this kind has, and as many slots
abbrev pub children_of : Kind → ℕ
children_of kind.Relay = 1
children_of kind.Pair = 2
children_of kind.Gate = 1

abbrev pub cost_of : Kind → ℕ → ℕ
cost_of kind.Relay below = below + 1
cost_of kind.Pair below = below + below + 2
cost_of kind.Gate below = below + 1

abbrev pub node_promise : Node → Promise ℕ Kept
node_promise n = record {
  children = children_of n.kind;
  slots = children_of n.kind;
  below = n.breadth;
  cost = λ _. cost_of n.kind n.below;
  child_cost = λ _ _. n.below;
  owns = is_owned;
  unanswered = slots_of;
  waits = is_waiting;
  left = left_of n.below;
}

abbrev pub PairAnswers : Bool → Waits → ℕ → Step ℕ ℕ Kept → Type 0
PairAnswers true rest reply step = WindsThese [] (kept.Pair rest) step
PairAnswers false rest reply step = step ≡ Unwind reply

abbrev pub Enters : Kind → ℕ → Step ℕ ℕ Kept → Type 0
Enters kind.Relay fop step = WindsThese ((0, 0, fop) ∷ []) kept.Relay step
Enters kind.Pair fop step = WindsThese ((0, 0, fop) ∷ (1, 1, fop) ∷ []) (kept.Pair (record { first = true; second = true })) step
Enters kind.Gate fop step = step ≡ Wait (kept.Gate (Held fop))

abbrev pub Answers : Kept → ℕ → ℕ → Step ℕ ℕ Kept → Type 0
Answers kept.Relay slot reply step = step ≡ Unwind reply
Answers (kept.Pair w) slot reply step = PairAnswers (is_some (rest_of w slot)) (rest_of w slot) reply step
Answers (kept.Gate g) slot reply step = step ≡ Unwind reply

abbrev pub GateGoes : Gated ℕ → Step ℕ ℕ Kept → Type 0
GateGoes (Held fop) step = WindsThese ((0, 0, fop) ∷ []) (kept.Gate Passed) step
GateGoes Passed step = Unit {0}

abbrev pub Goes : Kept → Step ℕ ℕ Kept → Type 0
Goes kept.Relay step = Unit {0}
Goes (kept.Pair w) step = Unit {0}
Goes (kept.Gate g) step = GateGoes g step

abbrev pub NodeSteps : Kind → Cause ℕ ℕ Kept → Step ℕ ℕ Kept → Type 0
NodeSteps k (Enter entry fop) step = Enters k fop step
NodeSteps k (Reply local slot reply) step = Answers local slot reply step
NodeSteps k (Go local) step = Goes local step

-- no node changes itself
abbrev pub node_makes : Node → Unit {0} → Cause ℕ ℕ Kept → Step ℕ ℕ Kept → Node → Unit {0} → Type 0
node_makes old cx cause step new cx_new = NodeSteps old.kind cause step × (new ≡ old)
