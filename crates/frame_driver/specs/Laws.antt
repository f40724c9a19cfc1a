-- Laws of boards for those that have several, and of the traces of their frames.
use Rattle.std.specs.Prelude.{ℕ, ◌≡◌, ◌≢◌, ◌≤◌, List, [], count_by}
use Rattle.std.specs.List.{sum_by}
use Rattle.xlator_law.specs.declared.winds.WindNo.{WindNo}
use Rattle.xlator_law.specs.declared.step.Step.{Step}
use Rattle.xlator_law.specs.Law.{Promise, Cause}
use Rattle.xlator_law.specs.Frames.{IsBounded, winds_in, replies_in}
use Rattle.frame_stack.specs.Stack.{Stack, frame_at}
use Rattle.frame_driver.specs.declared.board.Board.{Board}
use Rattle.frame_driver.specs.Leading.{KeepsOthers}
use Rattle.frame_driver.specs.Roots.{IsRooted}
use Rattle.frame_driver.specs.Sound.{is_of, Sound}
use Rattle.frame_driver.specs.Breadth.{is_open_for, own_breadth, Nests}
use Rattle.frame_driver.specs.Parts.{IsParted}
use Rattle.frame_driver.specs.Traces.{Trace, AreTraced}

-- Where a board with nothing to do is sound, so is every other one with nothing to do on the same stack that counts
-- the frames of its graph.
abbrev pub BoardsShareAStack : Type 0 → Type 0 → Type 0 → Type 0
BoardsShareAStack F R L = (ps : ℕ → List (Promise F L)) (b c : Board F R L) → Sound ps b → b.queue ≡ [] → c.queue ≡ [] → c.stack ≡ b.stack → c.frames ≡ count_by (is_of c.graph) c.stack.frames → Sound ps c

-- The winds of a frame with a trace are paid by the cost of its fop.
abbrev pub TracesAreBounded : {X C F R L : Type 0} → (X → Promise F L) → (X → C → Cause F R L → Step F R L → X → C → Type 0) → Type 0
TracesAreBounded {F = F} {L = L} promise makes = (p : Promise F L) (key call : ℕ) (local : L) → (t : Trace promise makes p key call local) → IsBounded p t.fop (winds_in t.events) (replies_in t.events) t.step

-- As many winds of a call are open as its own frames have breadth, at most.
abbrev pub OpenWindsAreWithin : {X C F R L : Type 0} → (X → Promise F L) → (X → C → Cause F R L → Step F R L → X → C → Type 0) → Type 0
OpenWindsAreWithin {F = F} {R = R} {L = L} promise makes = (ps : ℕ → List (Promise F L)) (outer : WindNo → ℕ) (b : Board F R L) → Sound ps b → AreTraced promise makes ps b → IsParted outer b → Nests ps b → (call : ℕ) → count_by (is_open_for call) b.stack.openers ≤ sum_by (own_breadth ps call) b.stack.frames

-- What is at the root of a graph stays there where another graph's board is changed.
abbrev pub RootsStay : Type 0 → Type 0
RootsStay L = (root g h : ℕ) (s t : Stack L) → g ≢ h → KeepsOthers h s t → ((key : ℕ) → IsRooted g root (frame_at s key)) → (key : ℕ) → IsRooted g root (frame_at t key)
