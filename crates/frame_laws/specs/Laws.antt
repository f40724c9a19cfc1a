-- The laws of boards with nothing to do.
use Rattle.std.specs.Prelude.{ℕ, ◌≡◌, List, IsSome}
use Rattle.xlator_law.specs.Law.{Promise}
use Rattle.xlator_law.specs.declared.winds.WindNo.{WindNo}
use Rattle.frame_stack.specs.Stack.{Stack, frame_at}
use Rattle.frame_driver.specs.declared.board.Board.{Board}
use Rattle.frame_driver.specs.Sound.{IsReachable}
use Rattle.frame_laws.specs.Under.{IsOpenIn, IsWoundBy, IsUnder}
use Rattle.frame_laws.specs.Resting.{IsAtRest, AwaitsOutside, AwaitsNothing}

-- Each frame under an open one is open, in its graph and of its call.
abbrev pub FramesUnderAreOfTheCall : Type 0 → Type 0
FramesUnderAreOfTheCall L = (s : Stack L) → IsReachable s → (g call low high : ℕ) → IsOpenIn s g call high → IsUnder s low high → IsOpenIn s g call low

-- Each open wind of a frame is of its graph and call.
abbrev pub WindsAreOfTheCall : Type 0 → Type 0
WindsAreOfTheCall L = (s : Stack L) → IsReachable s → (g call key : ℕ) (w : WindNo) → IsOpenIn s g call key → (wound : IsWoundBy s key w) → (wound.opener.graph ≡ g) × (wound.opener.call ≡ call)

-- Where a board has nothing to do, each open frame awaits something outside.
abbrev pub RestingBoardsAwait : Type 0 → Type 0 → Type 0 → Type 0
RestingBoardsAwait F R L = (ps : ℕ → List (Promise F L)) (outer : WindNo → ℕ) (b : Board F R L) → IsAtRest ps outer b → (key : ℕ) → IsSome (frame_at b.stack key) → AwaitsOutside ps outer b key

-- Where a board has nothing to do, a call that awaits nothing in a graph has no open frame there.
abbrev pub RestingCallsHaveNoFrame : Type 0 → Type 0 → Type 0 → Type 0
RestingCallsHaveNoFrame F R L = (ps : ℕ → List (Promise F L)) (outer : WindNo → ℕ) (b : Board F R L) → IsAtRest ps outer b → (g call : ℕ) → AwaitsNothing ps outer b g call → (key : ℕ) → IsOpenIn b.stack g call key → ⊥

-- Where a board has nothing to do, and each call awaits nothing in its graph, the graph has no open frame.
abbrev pub RestingBoardsHaveNoFrame : Type 0 → Type 0 → Type 0 → Type 0
RestingBoardsHaveNoFrame F R L = (ps : ℕ → List (Promise F L)) (outer : WindNo → ℕ) (b : Board F R L) → IsAtRest ps outer b → ((call : ℕ) → AwaitsNothing ps outer b b.graph call) → b.frames ≡ 0
