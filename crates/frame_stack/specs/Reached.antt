-- The stacks that calls lead to from the new one, each with the moves of its winds so far and the lines
-- that were handed over. Every call that changes a stack is one of these steps.
use Rattle.std.specs.Prelude.{ℕ, ◌≡◌, ◌≢◌, ◌==◌, cond, true, false, List, [], ◌∷◌, ◌++◌, map, length, Option, Some, None, IsSome, IfSome, IsSomeAnd, slice_get, slice_set}
use Rattle.xlator_law.specs.declared.winds.WindNo.{WindNo}
use Rattle.frame_stack.specs.declared.frame.Frame.{Frame}
use Rattle.frame_stack.specs.declared.frame.Opener.{Opener}
use Rattle.frame_stack.specs.Cells.{cell_at, IsInserted}
use Rattle.frame_stack.specs.Stack.{Stack, Line, empty_stack, HasParent, frame_at, word_at, awaits, HasNoWind, with_local, without_frame, opener_at, opener_of, IsWound, pending, replied, resumed}
use Rattle.frame_stack.specs.Moves.{Move, line_of, AreOrderly, openings, opened_in, ended_in}

abbrev pub opening : WindNo → Opener → Move
opening w o = record { wind = w; graph = o.graph; call = o.call; opened = true }

abbrev pub ending : WindNo → Opener → Move
ending w o = record { wind = w; graph = o.graph; call = o.call; opened = false }

abbrev pub end_of : WindNo → Option Opener → List Move
end_of w None = []
end_of w (Some o) = ending w o ∷ []

module _ {L : Type 0} where
  pub data IsReached : Stack L → List Move → List Line → Type 0 where
    Started : IsReached empty_stack [] []
    Opened : (s t : Stack L) → (moves : List Move) → (handed : List Line) → (key : ℕ) → (f : Frame L) →
        IsReached s moves handed → HasParent s f.place.graph f.place.call f.place.parent → IsInserted s.frames t.frames key f → t ≡ record s { frames = t.frames } →
        IsReached t moves handed
    Wound : (s t : Stack L) → (moves : List Move) → (handed : List Line) → (key slot : ℕ) → (w : WindNo) →
        IsReached s moves handed → IsSome (frame_at s key) → awaits s key slot ≡ false → IsWound s t key slot w →
        IsReached t (moves ++ opening w (opener_at s key slot) ∷ []) handed
    Handed : (s t : Stack L) → (moves : List Move) → (handed : List Line) →
        IsReached s moves handed → t ≡ record s { lines = [] } →
        IsReached t moves (handed ++ s.lines)
    Settled : (s t : Stack L) → (moves : List Move) → (handed : List Line) → (w : WindNo) →
        IsReached s moves handed → word_at s w.slot ≡ pending w → t ≡ record s { words = slice_set s.words w.slot (replied w) } →
        IsReached t moves handed
    Resumed : (s t : Stack L) → (moves : List Move) → (handed : List Line) → (w : WindNo) → (o : Opener) →
        IsReached s moves handed → word_at s w.slot ≡ replied w → cell_at s.openers w.slot ≡ Some o → t ≡ resumed s w (Some o) →
        IsReached t (moves ++ ending w o ∷ []) handed
    Kept : (s t : Stack L) → (moves : List Move) → (handed : List Line) → (key : ℕ) → (local : Option L) →
        IsReached s moves handed → t ≡ with_local s key local →
        IsReached t moves handed
    Freed : (s t : Stack L) → (moves : List Move) → (handed : List Line) → (key : ℕ) →
        IsReached s moves handed → HasNoWind s key → t ≡ without_frame s key →
        IsReached t moves handed

  -- the call makes these moves and hands these lines over
  abbrev pub Leads : Stack L → Stack L → List Move → List Line → Type 0
  Leads s t made out = (moves : List Move) (handed : List Line) → IsReached s moves handed → IsReached t (moves ++ made) (handed ++ out)

  -- the move that a `resume` makes: none, where the wind is not settled
  abbrev pub ended_by : Stack L → WindNo → List Move
  ended_by s w = cond (word_at s w.slot == replied w) (end_of w (cell_at s.openers w.slot)) []

  -- the frame of an opener is open, in the graph and call that the opener has
  abbrev pub IsOpenAs : List (Option (Frame L)) → Opener → Type 0
  IsOpenAs frames o = IsSomeAnd (cell_at frames o.frame) (λ f. (f.place.graph ≡ o.graph) × (f.place.call ≡ o.call))

  abbrev pub HasNoFrame : Stack L → ℕ → Type 0
  HasNoFrame s g = (key : ℕ) (f : Frame L) → frame_at s key ≡ Some f → f.place.graph ≢ g

  -- The lines that were handed over, and those that were not yet, are those of the moves of the winds; these are
  -- orderly; a graph without an open frame has ended all winds that it opened; the frame that opened a wind
  -- stays open until the wind is resumed; the wind that opened a frame, while it is open, is of the frame's
  -- graph and call; as many winds are counted as were opened; and an open wind's number is its place among
  -- the openings.
  pub record IsBalanced (s : Stack L) (moves : List Move) (handed : List Line) : Type 0 where
    pub reported : handed ++ s.lines ≡ map line_of moves
    pub orderly : AreOrderly [] moves
    pub drained : (g : ℕ) → HasNoFrame s g → opened_in g moves ≡ ended_in g moves
    pub held : (w : WindNo) (o : Opener) → opener_of s w ≡ Some o → IsOpenAs s.frames o
    pub parents : (key : ℕ) (f : Frame L) → frame_at s key ≡ Some f → IfSome f.place.parent (λ w. IfSome (opener_of s w) (λ o. (o.graph ≡ f.place.graph) × (o.call ≡ f.place.call)))
    pub counted : length (openings moves) ≡ s.opened
    pub numbered : (w : WindNo) (o : Opener) → opener_of s w ≡ Some o → slice_get (openings moves) o.number ≡ Some (opening w o)

abbrev pub WindsAreBalanced : Type 0 → Type 0
WindsAreBalanced L = (s : Stack L) (moves : List Move) (handed : List Line) → IsReached s moves handed → IsBalanced s moves handed
