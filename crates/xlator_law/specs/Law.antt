-- The law of a translator. A node promises how many children it has, how many slots its frames use, and
-- what a fop costs. A step of a frame is caused by a fop that enters, by the reply of a wind, or by the end
-- of a wait. A step that winds pays for its winds out of what the frame may still spend; a step that waits
-- or unwinds finds no slot unanswered. Ours, after the frames, winds and unwinds of GlusterFS.
use Rattle.std.specs.Prelude.{ℕ, ◌≡◌, ◌<◌, ◌≤◌, ◌+◌, ◌*◌, ◌==◌, ◌&&◌, ◌||◌, Bool, true, false, not, List, [], ◌∷◌}
use Rattle.xlator_law.specs.declared.step.Step.{Step}
use Rattle.xlator_law.specs.declared.step.Step.TheVariants.{Wind, Wait, Unwind}
use Rattle.xlator_law.specs.declared.winds.Entry.{Entry}

-- a set of slots, as a test of each number
abbrev pub Slots : Type 0
Slots = ℕ → Bool

abbrev pub no_slots : Slots
no_slots _ = false

abbrev pub IsNone : Slots → Type 0
IsNone slots = (s : ℕ) → slots s ≡ false

abbrev pub IsSomeSlot : Slots → Type 0
IsSomeSlot slots = (s : ℕ) × (slots s ≡ true)

abbrev pub without : ℕ → Slots → Slots
without slot slots s = slots s && not (s == slot)

-- What a node promises of its frames and expects of its children.
-- children: how many children it has, which are numbered from 0
-- slots: how many slots a frame uses, which are numbered from 0
-- below: the most winds that a frame of a child and all frames below it have open at once
-- cost: the most winds that a fop causes, in its frame here and in all frames below it
-- child_cost: the same at a child
-- owns: the local is one that a frame of this node keeps
-- unanswered: the slots of a local that wait for a reply
-- waits: the frame with this local waits for something that is no wind
-- left: what the frame with this local may still spend on winds
pub record Promise (F L : Type 0) : Type 0 where
  pub children : ℕ
  pub slots : ℕ
  pub below : ℕ
  pub cost : F → ℕ
  pub child_cost : ℕ → F → ℕ
  pub owns : L → Bool
  pub unanswered : L → Slots
  pub waits : L → Bool
  pub left : L → ℕ

-- The most winds that a frame and all frames below it have open at once: in each slot one, and what the
-- frame that it opens has open.
abbrev pub breadth : {F L : Type 0} → Promise F L → ℕ
breadth p = p.slots * (1 + p.below)

-- Why a frame takes a step: a fop enters, the wind in a slot is answered, or what it waited for has come.
pub data Cause (F R L : Type 0) : Type 0 where
  Enter : (entry : Entry) → (fop : F) → Cause F R L
  Reply : (local : L) → (slot : ℕ) → (reply : R) → Cause F R L
  Go : (local : L) → Cause F R L

module _ {F : Type 0} where
  -- whether one of these winds is in that slot
  abbrev pub is_wound : List (ℕ × ℕ × F) → Slots
  is_wound [] s = false
  is_wound (w ∷ ws) s = (s == w.1) || is_wound ws s

  abbrev pub with_winds : Slots → List (ℕ × ℕ × F) → Slots
  with_winds slots ws s = slots s || is_wound ws s

  -- each wind's slot is free before it: not unanswered, and not that of an earlier wind of the step
  abbrev pub AreFresh : Slots → List (ℕ × ℕ × F) → Type 0
  AreFresh slots [] = Unit {0}
  AreFresh slots (w ∷ ws) = (slots w.1 ≡ false) × (is_wound ws w.1 ≡ false) × AreFresh slots ws

  -- each wind names one of so many children and one of so many slots
  abbrev pub AreWithin : ℕ → ℕ → List (ℕ × ℕ × F) → Type 0
  AreWithin children slots [] = Unit {0}
  AreWithin children slots (w ∷ ws) = (w.0 < children) × (w.1 < slots) × AreWithin children slots ws

  -- what winds cost: each counts as one, and its fop costs what it costs at its child
  abbrev pub wind_cost : (ℕ → F → ℕ) → List (ℕ × ℕ × F) → ℕ
  wind_cost child [] = 0
  wind_cost child (w ∷ ws) = 1 + child w.0 w.2 + wind_cost child ws

module _ {F R L : Type 0} (p : Promise F L) where
  -- the slots that stay unanswered whatever the step does
  abbrev pub before : Cause F R L → Slots
  before (Enter entry fop) = no_slots
  before (Reply local slot reply) = without slot (p.unanswered local)
  before (Go local) = p.unanswered local

  -- what the step may spend
  abbrev pub most : Cause F R L → ℕ
  most (Enter entry fop) = p.cost fop
  most (Reply local slot reply) = p.left local
  most (Go local) = p.left local

module _ {F L : Type 0} (p : Promise F L) (before : Slots) (most : ℕ) where
  -- The frame winds these, and goes on with this local: its unanswered slots are those from before and
  -- those of the winds, of which there is one at least, and it waits for nothing else.
  pub record IsWinding (winds : List (ℕ × ℕ × F)) (local : L) : Type 0 where
    pub fresh : AreFresh before winds
    pub within : AreWithin p.children p.slots winds
    pub paid : wind_cost p.child_cost winds + p.left local ≤ most
    pub kept : (s : ℕ) → p.unanswered local s ≡ with_winds before winds s
    pub some : IsSomeSlot (p.unanswered local)
    pub going : p.waits local ≡ false
    pub own : p.owns local ≡ true

  -- The frame has no unanswered slot and waits for something else with this local.
  pub record IsWaiting (local : L) : Type 0 where
    pub answered : IsNone before
    pub paid : p.left local ≤ most
    pub kept : IsNone (p.unanswered local)
    pub waits : p.waits local ≡ true
    pub own : p.owns local ≡ true

module _ {F R L : Type 0} (p : Promise F L) where
  abbrev pub IsStepFrom : Slots → ℕ → Step F R L → Type 0
  IsStepFrom before most (Wind winds local) = IsWinding p before most winds.items local
  IsStepFrom before most (Wait local) = IsWaiting p before most local
  IsStepFrom before most (Unwind reply) = IsNone before

  -- the step meets the law
  abbrev pub IsStep : Cause F R L → Step F R L → Type 0
  IsStep cause step = IsStepFrom (before p cause) (most p cause) step

module _ {F R L : Type 0} where
  -- the step winds these and keeps this local
  abbrev pub WindsThese : List (ℕ × ℕ × F) → L → Step F R L → Type 0
  WindsThese ws local (Wind winds kept) = (winds.items ≡ ws) × (kept ≡ local)
  WindsThese ws local (Wait kept) = ⊥
  WindsThese ws local (Unwind reply) = ⊥
