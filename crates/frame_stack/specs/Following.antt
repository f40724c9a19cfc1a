-- A frame's open winds follow its translator: where the frame awaits exactly the slots that its local has
-- unanswered, a step that meets the law of a translator keeps it so. Each wind of the step may be opened
-- in turn, an answered slot is one less, and a frame that unwinds has no open wind and may be ended.
use Rattle.std.specs.Prelude.{ℕ, ◌≡◌, false, List, [], ◌∷◌, Some}
use Rattle.xlator_law.specs.Law.{Slots, Promise, IsWinding, without}
use Rattle.frame_stack.specs.Stack.{Stack, awaits, HasNoWind, AwaitsMore, AwaitsLess}

module _ {L : Type 0} where
  -- the frame awaits exactly these slots
  abbrev pub Awaits : Stack L → ℕ → Slots → Type 0
  Awaits s key slots = (n : ℕ) → awaits s key n ≡ slots n

  -- These winds may be opened in turn: each finds its slot free. After them the frame awaits the slots of
  -- its local, `now`.
  abbrev pub MayOpen : {F : Type 0} → Slots → Stack L → ℕ → List (ℕ × ℕ × F) → Type 0
  MayOpen now s key [] = Awaits s key now
  MayOpen now s key (w ∷ ws) = (awaits s key w.1 ≡ false) × ((t : Stack L) → AwaitsMore s t key w.1 → MayOpen now t key ws)

  pub record FrameFollows (F : Type 0) (s : Stack L) (key : ℕ) (slots : Slots) : Type 0 where
    pub winds : (p : Promise F L) (most : ℕ) (ws : List (ℕ × ℕ × F)) (local : L) → IsWinding p slots most ws local → MayOpen (p.unanswered local) s key ws
    pub answered : (t : Stack L) (slot : ℕ) → AwaitsLess s t (Some (record { frame = key; slot = slot })) → Awaits t key (without slot slots)
    pub unwound : ((n : ℕ) → slots n ≡ false) → HasNoWind s key

abbrev pub FramesFollow : Type 0 → Type 0 → Type 0
FramesFollow F L = (s : Stack L) (key : ℕ) (slots : Slots) → Awaits s key slots → FrameFollows F s key slots
