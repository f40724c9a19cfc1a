-- What a board keeps between its calls: the frames of all graphs follow their nodes, the tasks of the queue are
-- of the board's graph, the stack was reached by its calls, and the board counts the frames of its graph. Ours.
use Rattle.std.specs.Prelude.{ℕ, ◌≡◌, ◌==◌, Bool, false, List, length, Option, Some, None, count_by}
use Rattle.xlator_law.specs.Law.{Promise}
use Rattle.frame_stack.specs.declared.frame.Frame.{Frame}
use Rattle.frame_stack.specs.Moves.{Move}
use Rattle.frame_stack.specs.Reached.{IsReached}
use Rattle.frame_stack.specs.Stack.{Stack, Line}
use Rattle.frame_driver.specs.declared.board.Board.{Board}
use Rattle.frame_driver.specs.Follows.{FollowsAt}
use Rattle.frame_driver.specs.Tasks.{AreTasks}

module _ {L : Type 0} where
  abbrev pub is_of : ℕ → Option (Frame L) → Bool
  is_of g None = false
  is_of g (Some f) = f.place.graph == g

  -- calls led to this stack
  pub record IsReachable (s : Stack L) : Type 0 where
    pub moves : List Move
    pub handed : List Line
    pub reached : IsReached s moves handed

module _ {F R L : Type 0} where
  pub record Sound (ps : ℕ → List (Promise F L)) (b : Board F R L) : Type 0 where
    pub follows : (key : ℕ) → FollowsAt ps b key
    pub tasks : AreTasks (length (ps b.graph)) b.graph b.stack b.queue
    pub reachable : IsReachable b.stack
    pub counted : b.frames ≡ count_by (is_of b.graph) b.stack.frames

  -- the board is sound, whatever the nodes of other graphs promise, where those of its own promise this
  pub record SoundWith (own : List (Promise F L)) (b : Board F R L) : Type 0 where
    pub all : ℕ → List (Promise F L)
    pub ours : all b.graph ≡ own
    pub sound : Sound all b
