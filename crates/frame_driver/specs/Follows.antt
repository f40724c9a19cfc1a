-- Frames that follow their nodes. Each graph has a list of what its nodes promise. A frame expects exactly the
-- slots that its local has unanswered: the wind of each is open, or a task has its answer. It keeps a local that
-- its node owns, and waits for winds, or for one thing that is no wind.
use Rattle.std.specs.Prelude.{ℕ, ◌≡◌, ◌⊎◌, ◌<◌, ◌≤◌, ◌+◌, Bool, true, false, List, length, Option, Some, None, slice_index_or, count_by}
use Rattle.xlator_law.specs.Law.{Promise, Slots, no_slots, IsNone, IsSomeSlot, breadth}
use Rattle.xlator_law.specs.declared.winds.Place.{Place}
use Rattle.frame_stack.specs.declared.frame.Frame.{Frame}
use Rattle.frame_stack.specs.Stack.{frame_at, awaits}
use Rattle.frame_driver.specs.declared.board.Board.{Board}
use Rattle.frame_driver.specs.declared.wiring.Wiring.{Wiring}
use Rattle.frame_driver.specs.declared.wiring.Child.TheVariants.{Node}
use Rattle.frame_driver.specs.Tasks.{one, is_due, is_going}
use Rattle.frame_driver.specs.Wiring.{below, IsWired}

module _ {F L : Type 0} where
  -- a number that is no node's promises nothing and owns no local
  abbrev pub no_promise : Promise F L
  no_promise = record { children = 0; slots = 0; below = 0; cost = λ _. 0; child_cost = λ _ _. 0; owns = λ _. false; unanswered = λ _. no_slots; waits = λ _. false; left = λ _. 0 }

  abbrev pub promise_at : List (Promise F L) → ℕ → Promise F L
  promise_at ps at = slice_index_or ps at no_promise

  -- what the node at a place promises, by the lists of all graphs
  abbrev pub promise_of : (ℕ → List (Promise F L)) → Place → Promise F L
  promise_of ps place = promise_at (ps place.graph) place.node

  abbrev pub slots_by : Promise F L → Option L → Slots
  slots_by p None = no_slots
  slots_by p (Some l) = p.unanswered l

  -- the slots that a frame has to expect
  abbrev pub slots_in : (ℕ → List (Promise F L)) → Option (Frame L) → Slots
  slots_in ps None = no_slots
  slots_in ps (Some f) = slots_by (promise_of ps f.place) f.local

  abbrev pub waits_by : Promise F L → Option L → Bool
  waits_by p None = false
  waits_by p (Some l) = p.waits l

  -- whether the frame waits for something that is no wind
  abbrev pub waits_in : (ℕ → List (Promise F L)) → Option (Frame L) → Bool
  waits_in ps None = false
  waits_in ps (Some f) = waits_by (promise_of ps f.place) f.local

  abbrev pub StandsBy : Promise F L → Option L → Type 0
  StandsBy p None = ⊥
  StandsBy p (Some l) = (p.owns l ≡ true) × (((p.waits l ≡ true) × IsNone (p.unanswered l)) ⊎ ((p.waits l ≡ false) × IsSomeSlot (p.unanswered l)))

  abbrev pub Stands : (ℕ → List (Promise F L)) → Option (Frame L) → Type 0
  Stands ps None = Unit {0}
  Stands ps (Some f) = StandsBy (promise_of ps f.place) f.local

module _ {F R L : Type 0} where
  -- how many winds of this slot of a frame are open, and how many answers of it the tasks have
  abbrev pub expected : Board F R L → ℕ → ℕ → ℕ
  expected b key n = one (awaits b.stack key n) + count_by (is_due key n) b.queue

  pub record FollowsAt (ps : ℕ → List (Promise F L)) (b : Board F R L) (key : ℕ) : Type 0 where
    pub expects : (n : ℕ) → expected b key n ≡ one (slots_in ps (frame_at b.stack key) n)
    pub going : count_by (is_going key) b.queue ≤ one (waits_in ps (frame_at b.stack key))
    pub stands : Stands ps (frame_at b.stack key)

module _ {F L : Type 0} where
  -- A node that is wired below another one is a node, costs at most what the upper one counts for it, and
  -- its frames have no more winds open than the upper one counts.
  pub record FitsAt (ps : List (Promise F L)) (node child to : ℕ) : Type 0 where
    pub there : to < length ps
    pub cost : (fop : F) → (promise_at ps to).cost fop ≤ (promise_at ps node).child_cost child fop
    pub breadth : breadth (promise_at ps to) ≤ (promise_at ps node).below

  -- the wiring has each child that a node has, as a node that fits there, or outside
  pub record Fits (ps : List (Promise F L)) (w : Wiring) : Type 0 where
    pub wired : (node child : ℕ) → child < (promise_at ps node).children → IsWired (below w node child)
    pub fit : (node child to : ℕ) → below w node child ≡ Node to → FitsAt ps node child to
