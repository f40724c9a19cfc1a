-- Each open frame has a trace: a fop entered its node as this frame, of this call; then come the winds,
-- replies and ends of waits in order; and the last step left the local that the frame keeps. Each step meets
-- the law of the frame's node, and is one that a node which promises the same makes.
use Rattle.std.specs.Prelude.{ℕ, ◌≡◌, List, Option, Some, None}
use Rattle.xlator_law.specs.declared.step.Step.{Step}
use Rattle.xlator_law.specs.declared.step.Step.TheVariants.{Wind, Wait, Unwind}
use Rattle.xlator_law.specs.Law.{Promise, Cause}
use Rattle.xlator_law.specs.Frames.{Event, IsTrace}
use Rattle.frame_stack.specs.declared.frame.Frame.{Frame}
use Rattle.frame_stack.specs.Stack.{frame_at}
use Rattle.frame_driver.specs.declared.board.Board.{Board}
use Rattle.frame_driver.specs.Follows.{promise_of}

-- the local that a step leaves
abbrev pub Leaves : {F R L : Type 0} → Step F R L → L → Type 0
Leaves (Wind winds kept) local = kept ≡ local
Leaves (Wait kept) local = kept ≡ local
Leaves (Unwind reply) local = ⊥

module _ {X C F R L : Type 0} (promise : X → Promise F L) (makes : X → C → Cause F R L → Step F R L → X → C → Type 0) where
  -- a node with this promise makes this step, in some state of it and of the context
  pub record SomeMakes (p : Promise F L) (cause : Cause F R L) (step : Step F R L) : Type 0 where
    pub before : X
    pub after : X
    pub cx : C
    pub cx_after : C
    pub promised : promise before ≡ p
    pub made : makes before cx cause step after cx_after

  pub record Trace (p : Promise F L) (key call : ℕ) (local : L) : Type 0 where
    pub fop : F
    pub events : List (Event F R)
    pub step : Step F R L
    pub trace : IsTrace p (SomeMakes p) (record { frame = key; call = call }) fop events step
    pub leaves : Leaves step local

  abbrev pub TracedBy : Promise F L → ℕ → ℕ → Option L → Type 0
  TracedBy p key call None = Unit {0}
  TracedBy p key call (Some local) = Trace p key call local

  abbrev pub IsTraced : (ℕ → List (Promise F L)) → ℕ → Option (Frame L) → Type 0
  IsTraced ps key None = Unit {0}
  IsTraced ps key (Some f) = TracedBy (promise_of ps f.place) key f.place.call f.local

  abbrev pub AreTraced : (ℕ → List (Promise F L)) → Board F R L → Type 0
  AreTraced ps b = (key : ℕ) → IsTraced ps key (frame_at b.stack key)
