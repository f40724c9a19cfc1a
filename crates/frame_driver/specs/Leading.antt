-- What a call of a graph leads to, also one that was cut short. Whatever moves of winds the stack was reached by,
-- it is reached by those and further ones; so the law of the stack holds of all of them. And the frames and
-- winds of other graphs are as before. Ours.
use Rattle.std.specs.Prelude.{ℕ, ◌≡◌, ◌≢◌, List, ◌++◌, Some, count_by}
use Rattle.xlator_law.specs.declared.winds.WindNo.{WindNo}
use Rattle.frame_stack.specs.declared.frame.Frame.{Frame}
use Rattle.frame_stack.specs.declared.frame.Opener.{Opener}
use Rattle.frame_stack.specs.Moves.{Move}
use Rattle.frame_stack.specs.Reached.{IsReached}
use Rattle.frame_stack.specs.Stack.{Stack, Line, frame_at, opener_of}
use Rattle.frame_driver.specs.declared.board.Board.{Board}
use Rattle.frame_driver.specs.Sound.{is_of}

module _ {L : Type 0} where
  -- frames and open winds of all graphs but this one are as before, and no further ones came
  pub record KeepsOthers (g : ℕ) (s t : Stack L) : Type 0 where
    pub frames : (key : ℕ) (f : Frame L) → f.place.graph ≢ g → frame_at s key ≡ Some f → frame_at t key ≡ Some f
    pub framed : (key : ℕ) (f : Frame L) → f.place.graph ≢ g → frame_at t key ≡ Some f → frame_at s key ≡ Some f
    pub winds : (w : WindNo) (o : Opener) → o.graph ≢ g → opener_of s w ≡ Some o → opener_of t w ≡ Some o
    pub wound : (w : WindNo) (o : Opener) → o.graph ≢ g → opener_of t w ≡ Some o → opener_of s w ≡ Some o
    pub counts : (h : ℕ) → h ≢ g → count_by (is_of h) t.frames ≡ count_by (is_of h) s.frames

  abbrev pub ReachesOn : Stack L → Stack L → Type 0
  ReachesOn old new = (moves : List Move) (handed : List Line) → IsReached old moves handed → (more : List Move) × IsReached new (moves ++ more) handed

module _ {F R L : Type 0} where
  pub record Leads (old new : Board F R L) : Type 0 where
    pub same : new.graph ≡ old.graph
    pub reaches : ReachesOn old.stack new.stack
    pub others : KeepsOthers old.graph old.stack new.stack
