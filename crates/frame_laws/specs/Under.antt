-- The frames at or under a frame: itself, and those to which its open winds lead, one after another. Ours.
use Rattle.std.specs.Prelude.{ℕ, ◌≡◌, Some, IsSomeAnd}
use Rattle.xlator_law.specs.declared.winds.WindNo.{WindNo}
use Rattle.frame_stack.specs.declared.frame.Frame.{Frame}
use Rattle.frame_stack.specs.declared.frame.Opener.{Opener}
use Rattle.frame_stack.specs.Stack.{Stack, frame_at, opener_of}

module _ {L : Type 0} (s : Stack L) where
  -- the frame is open, in this graph and of this call
  abbrev pub IsOpenIn : ℕ → ℕ → ℕ → Type 0
  IsOpenIn g call key = IsSomeAnd (frame_at s key) (λ f. (f.place.graph ≡ g) × (f.place.call ≡ call))

  -- the wind is open, and the frame opened it
  pub record IsWoundBy (key : ℕ) (w : WindNo) : Type 0 where
    pub opener : Opener
    pub opened : opener_of s w ≡ Some opener
    pub own : opener.frame ≡ key

  -- the first frame is open, and was opened by an open wind of the second
  pub record IsOpenedBy (low high : ℕ) : Type 0 where
    pub wind : WindNo
    pub wound : IsWoundBy high wind
    pub frame : Frame L
    pub there : frame_at s low ≡ Some frame
    pub parent : frame.place.parent ≡ Some wind

  -- the first frame is the second one, or open winds lead to it from there
  pub data IsUnder (low : ℕ) : ℕ → Type 0 where
    Itself : IsUnder low low
    Further : (mid : ℕ) → (high : ℕ) → IsUnder low mid → IsOpenedBy mid high → IsUnder low high
