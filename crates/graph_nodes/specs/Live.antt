-- What a graph keeps from call to call, and what its calls keep of the mount. Between two calls of any graph nothing is
-- left to do, each frame of the mount's stack follows its node, and the frames that wait for what is no wind are exactly
-- those that are parked. Ours.
use Rattle.std.specs.Prelude.{ℕ, ◌≡◌, ◌<◌, ◌≤◌, ◌+◌, List, [], None, Some, length, map}
use Rattle.std.specs.BTreeMap.{BTreeMap, get}
use Rattle.std.specs.Ordering.{nat_cmp}
use Rattle.xlator_law.specs.Law.{Promise}
use Rattle.frame_stack.specs.Stack.{Stack, frame_at}
use Rattle.frame_driver.specs.declared.board.Board.{Board}
use Rattle.frame_driver.specs.declared.wiring.Wiring.{Wiring}
use Rattle.frame_driver.specs.Follows.{Fits, waits_in}
use Rattle.frame_driver.specs.Leading.{KeepsOthers}
use Rattle.frame_driver.specs.Machine.{empty_board}
use Rattle.frame_driver.specs.Sound.{Sound}
use Rattle.frame_driver.specs.Tasks.{one}
use Rattle.frame_driver.specs.Waits.{times, AreHeld}
use Rattle.graph_items.specs.declared.items.Down.{Down}
use Rattle.graph_items.specs.declared.items.Up.{Up}
use Rattle.graph_nodes.specs.declared.graph.Graph.{Graph}
use Rattle.graph_nodes.specs.declared.kinds.Node.{Node}
use Rattle.graph_nodes.specs.declared.locals.Local.{Local}
use Rattle.graph_nodes.specs.declared.moved.Mount.{Mount}
use Rattle.graph_nodes.specs.Promises.{node_promise}

-- no frame is noted twice, by those that began to wait and those that are parked
abbrev pub AreOnce : List ℕ → List ℕ → Type 0
AreOnce waiting parked = (key : ℕ) → times key waiting + times key parked ≤ 1

-- The nodes fit their places, the board is sound for what the nodes of all graphs promise, and each frame that waits for
-- what is no wind is noted once: it began to wait, or is parked, or a task has it go on.
pub record IsAtWork (ps : ℕ → List (Promise Down Local)) (nodes : List Node) (wiring : Wiring) (b : Board Down Up Local) (parked : List ℕ) : Type 0 where
  pub ours : ps b.graph ≡ map node_promise nodes
  pub fits : Fits (map node_promise nodes) wiring
  pub sound : Sound ps b
  pub held : AreHeld ps (λ key. times key parked) b

-- no task is left, and nothing that came out of the graph
pub record HasNothingLeft (b : Board Down Up Local) : Type 0 where
  pub queue : b.queue ≡ []
  pub sent : b.sent ≡ []
  pub answers : b.answers ≡ []
  pub waiting : b.waiting ≡ []

-- the board with this stack
abbrev pub lent : Board Down Up Local → Stack Local → Board Down Up Local
lent b s = record b { stack = s }

-- ---- between two calls

-- the graph with the stack of the mount, where these are the promises of all graphs by number
pub record IsLive (ps : ℕ → List (Promise Down Local)) (g : Graph) (mount : Mount) : Type 0 where
  pub works : IsAtWork ps g.nodes.items g.wiring (lent g.board mount.frames) mount.parked.keys
  pub top : g.top < length g.nodes.items
  pub rest : HasNothingLeft g.board

-- the same, whatever the nodes of other graphs promise
pub record HasLive (g : Graph) (mount : Mount) : Type 0 where
  pub all : ℕ → List (Promise Down Local)
  pub live : IsLive all g mount

-- ---- in a call, while the graph has the mount's stack

pub record HasWork (g : Graph) (parked : List ℕ) : Type 0 where
  pub all : ℕ → List (Promise Down Local)
  pub works : IsAtWork all g.nodes.items g.wiring g.board parked

abbrev pub KeepsWork : Graph → List ℕ → Graph → List ℕ → Type 0
KeepsWork old parked new parked_new = (ps : ℕ → List (Promise Down Local)) → IsAtWork ps old.nodes.items old.wiring old.board parked → IsAtWork ps new.nodes.items new.wiring new.board parked_new

-- the same of a board alone, where the nodes stay
abbrev pub KeepsBoard : Board Down Up Local → List ℕ → Board Down Up Local → List ℕ → Type 0
KeepsBoard old parked new parked_new = (ps : ℕ → List (Promise Down Local)) (nodes : List Node) (wiring : Wiring) → IsAtWork ps nodes wiring old parked → IsAtWork ps nodes wiring new parked_new

-- a part of a call that does all tasks and takes what comes out
pub record Settles (old : Graph) (parked : List ℕ) (new : Graph) (parked_new : List ℕ) : Type 0 where
  pub works : KeepsWork old parked new parked_new
  pub rest : HasNothingLeft new.board

-- what each part of a call leaves of the graph and of the stack, also one that was cut short
pub record KeepsGraph (old new : Graph) : Type 0 where
  pub number : new.board.graph ≡ old.board.graph
  pub top : new.top ≡ old.top
  pub wiring : new.wiring ≡ old.wiring
  pub promises : map node_promise new.nodes.items ≡ map node_promise old.nodes.items
  pub others : KeepsOthers old.board.graph old.board.stack new.board.stack

-- the board after what came out of it was taken
abbrev pub shown : Board Down Up Local → Board Down Up Local
shown b = record b { stack = record b.stack { lines = [] }; sent = []; answers = []; waiting = [] }

-- ---- the mount's stack and ledger go to the graph, and come back

abbrev pub exchanged : Graph → Mount → Graph
exchanged g mount = record g { board = lent g.board mount.frames; cx = record g.cx { ledger = mount.ledger } }

-- the graph that learns too how many sets the first one has
abbrev pub borrowing : Graph → Mount → Graph
borrowing g mount = record g { board = lent g.board mount.frames; cx = record g.cx { ledger = mount.ledger; root_sets = mount.root_sets } }

abbrev pub lending : Graph → Mount → Mount
lending g mount = record mount { frames = g.board.stack; ledger = g.cx.ledger }

-- what a call leaves of the graph and of the mount, also one that was cut short
pub record KeepsMount (old : Graph) (mount : Mount) (new : Graph) (mount_new : Mount) : Type 0 where
  pub number : new.board.graph ≡ old.board.graph
  pub others : KeepsOthers old.board.graph mount.frames mount_new.frames
  pub inodes : mount_new.inodes ≡ mount.inodes
  pub root_sets : mount_new.root_sets ≡ mount.root_sets

-- a call that was not cut short leaves the graph live
abbrev pub StaysLive : Graph → Mount → Graph → Mount → Type 0
StaysLive old mount new mount_new = (ps : ℕ → List (Promise Down Local)) → IsLive ps old mount → IsLive ps new mount_new

-- ---- all graphs

-- a number of which no graph is, and no frame: a graph without frames would be sound there
pub record IsVacant (ps : ℕ → List (Promise Down Local)) (number : ℕ) (mount : Mount) : Type 0 where
  pub sound : Sound ps (lent (empty_board number) mount.frames)
  pub held : (key : ℕ) → times key mount.parked.keys ≡ one (waits_in ps (frame_at mount.frames key))

-- each graph has its number and is live, and each other number is vacant
pub record AreLive (ps : ℕ → List (Promise Down Local)) (live : BTreeMap ℕ Graph) (mount : Mount) : Type 0 where
  pub number : (n : ℕ) (g : Graph) → get nat_cmp live n ≡ Some g → g.board.graph ≡ n
  pub each : (n : ℕ) (g : Graph) → get nat_cmp live n ≡ Some g → IsLive ps g mount
  pub others : (n : ℕ) → get nat_cmp live n ≡ None → IsVacant ps n mount

-- there is one list of promises for which all graphs are live
pub record AllLive (live : BTreeMap ℕ Graph) (mount : Mount) : Type 0 where
  pub all : ℕ → List (Promise Down Local)
  pub are : AreLive all live mount
