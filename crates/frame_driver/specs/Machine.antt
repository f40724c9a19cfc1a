-- What each task makes of the board: the frames, the queue, and what came out of the graph. Ours.
use Rattle.std.specs.Prelude.{ℕ, ◌≡◌, ◌≢◌, ◌<◌, ◌+◌, ◌-◌, ◌==◌, Bool, true, false, List, [], ◌∷◌, ◌++◌, Option, Some, None, IsSomeAnd, slice_get, slice_set}
use Rattle.xlator_law.specs.declared.step.Step.{Step}
use Rattle.xlator_law.specs.declared.step.Step.TheVariants.{Wind, Wait, Unwind}
use Rattle.xlator_law.specs.declared.winds.WindNo.{WindNo}
use Rattle.xlator_law.specs.declared.winds.Place.{Place}
use Rattle.xlator_law.specs.Law.{Promise, IsStep}
use Rattle.xlator_law.specs.Law.{Cause}
use Rattle.xlator_law.specs.Law.Cause.{Enter as ByFop, Reply as ByReply, Go as ByGo}
use Rattle.frame_stack.specs.Cells.{IsInserted, taken}
use Rattle.frame_stack.specs.Changes.{ChangesOpener}
use Rattle.frame_stack.specs.Stack.{Stack, empty_stack, begun, frame_at, word_at, pending, awaits, with_local, without_frame, IsWound, AwaitsMore, AwaitsLess, HasNoWind, opener_at, opener_of, after_settle, after_resume}
use Rattle.frame_stack.specs.declared.frame.Opener.{Opener}
use Rattle.frame_driver.specs.declared.board.Board.{Board}
use Rattle.frame_driver.specs.declared.items.Task.{Task}
use Rattle.frame_driver.specs.declared.items.Task.TheVariants.{Enter, Resume, Go}
use Rattle.frame_driver.specs.declared.wiring.Child.{Child}
use Rattle.frame_driver.specs.declared.wiring.Child.TheVariants.{Node, Outside, Nothing}
use Rattle.frame_driver.specs.declared.wiring.Wiring.{Wiring}
use Rattle.frame_driver.specs.Wiring.{below, IsWired}
use Rattle.frame_driver.specs.Follows.{promise_at}
use Rattle.frame_driver.specs.Tasks.{ParentIsOurs}

module _ {F L : Type 0} where
  -- the winds find their slots free, in order
  abbrev pub MayWind : Stack L → ℕ → List (ℕ × ℕ × F) → Type 0
  MayWind s key [] = Unit {0}
  MayWind s key (x ∷ xs) = (awaits s key x.1 ≡ false) × ((t : Stack L) → AwaitsMore s t key x.1 → MayWind t key xs)

-- each wind goes to a child that the wiring has
abbrev pub AreWired : {F : Type 0} → Wiring → ℕ → List (ℕ × ℕ × F) → Type 0
AreWired wiring node [] = Unit {0}
AreWired wiring node (x ∷ xs) = IsWired (below wiring node x.0) × AreWired wiring node xs

-- a frame is open at this place
abbrev pub IsAt : {L : Type 0} → Stack L → ℕ → Place → Type 0
IsAt s key place = IsSomeAnd (frame_at s key) (λ f. f.place ≡ place)

module _ {F R L : Type 0} where
  abbrev pub empty_board : ℕ → Board F R L
  empty_board graph = record { graph = graph; frames = 0; stack = empty_stack; queue = []; sent = []; answers = []; waiting = [] }

  -- the board with a further task, the last one
  abbrev pub with_task : Board F R L → Task F R → Board F R L
  with_task b task = record b { queue = b.queue ++ task ∷ [] }

  -- the board before its first task was taken
  abbrev pub before_task : Board F R L → Task F R → Board F R L
  before_task b task = record b { queue = task ∷ b.queue }

  -- a wind that was opened goes to a node, as a task, or out of the graph
  abbrev pub handed_to : Board F R L → Child → Place → ℕ → WindNo → F → Board F R L
  handed_to b (Node to) place child w fop = with_task b (Enter to place.call (Some w) fop)
  handed_to b Outside place child w fop = record b { sent = b.sent ++ record { wind = w; node = place.node; child = child; fop = fop } ∷ [] }
  handed_to b Nothing place child w fop = b

  -- a frame opens this wind in this slot of its own
  pub record IsWindOpened (place : Place) (key slot : ℕ) (old new : Board F R L) (wind : WindNo) : Type 0 where
    pub there : IsAt old.stack key place
    pub free : awaits old.stack key slot ≡ false
    pub left : old.stack.opened ≢ 4294967295
    pub wound : IsWound old.stack new.stack key slot wind
    pub awaits : AwaitsMore old.stack new.stack key slot
    pub openers : ChangesOpener old.stack new.stack wind (Some (opener_at old.stack key slot))
    pub pending : word_at new.stack wind.slot ≡ pending wind
    pub rest : new ≡ record old { stack = new.stack }

  -- the frame opens this wind, and its fop is handed down
  pub record IsWoundDown (wiring : Wiring) (place : Place) (key : ℕ) (old new : Board F R L) (x : ℕ × ℕ × F) : Type 0 where
    pub wind : WindNo
    pub mid : Board F R L
    pub opened : IsWindOpened place key x.1 old mid wind
    pub wired : IsWired (below wiring place.node x.0)
    pub handed : new ≡ handed_to mid (below wiring place.node x.0) place x.0 wind x.2

  -- the frame opens these winds, in order
  pub data AreWoundDown (wiring : Wiring) (place : Place) (key : ℕ) (old : Board F R L) : List (ℕ × ℕ × F) → Board F R L → Type 0 where
    NoWind : AreWoundDown wiring place key old [] old
    OneMore : (xs : List (ℕ × ℕ × F)) → (x : ℕ × ℕ × F) → (mid new : Board F R L) →
        AreWoundDown wiring place key old xs mid → IsWoundDown wiring place key mid new x →
        AreWoundDown wiring place key old (xs ++ x ∷ []) new

  -- a frame is opened at this place under this number, and its local is still to come
  pub record IsOpened (place : Place) (key : ℕ) (old new : Board F R L) : Type 0 where
    pub inserted : IsInserted old.stack.frames new.stack.frames key (begun place.graph place.call place.node place.parent)
    pub rest : new ≡ record old { stack = record old.stack { frames = new.stack.frames }; frames = old.frames + 1 }

  -- A wind that is pending is ended, and the frame and slot that opened it get the reply, as a task.
  pub record Ends (w : WindNo) (reply : R) (old new : Board F R L) : Type 0 where
    pub opener : Opener
    pub opened : opener_of old.stack w ≡ Some opener
    pub there : awaits old.stack opener.frame opener.slot ≡ true
    pub less : AwaitsLess old.stack new.stack (Some (record { frame = opener.frame; slot = opener.slot }))
    pub taken : taken new.stack.openers + 1 ≡ taken old.stack.openers
    pub openers : ChangesOpener old.stack new.stack w None
    pub made : new ≡ with_task (record old { stack = after_resume (after_settle old.stack w) w }) (Resume opener.frame opener.slot reply)

  -- a wind that is not pending changes nothing
  abbrev pub EndsBy : Bool → WindNo → R → Board F R L → Board F R L → Type 0
  EndsBy true w reply old new = Ends w reply old new
  EndsBy false w reply old new = new ≡ old

  abbrev pub IsEnded : WindNo → R → Board F R L → Board F R L → Type 0
  IsEnded w reply old new = EndsBy (word_at old.stack w.slot == pending w) w reply old new

  -- an answer ends the wind that opened the frame, or goes out of the graph
  abbrev pub IsAnswered : Option WindNo → ℕ → R → Board F R L → Board F R L → Type 0
  IsAnswered None call reply old new = new ≡ record old { answers = old.answers ++ record { call = call; reply = reply } ∷ [] }
  IsAnswered (Some w) call reply old new = IsEnded w reply old new

  -- an open frame, whose local is out, winds these and keeps the local
  pub record GoesOnWinding (wiring : Wiring) (key : ℕ) (place : Place) (old : Board F R L) (winds : List (ℕ × ℕ × F)) (local : L) (new : Board F R L) : Type 0 where
    pub mid : Board F R L
    pub wound : AreWoundDown wiring place key old winds mid
    pub put : new ≡ record mid { stack = with_local mid.stack key (Some local) }

  -- an open frame, whose local is out, keeps this local, and is noted as one that waits for no wind
  abbrev pub waiting_with : Board F R L → ℕ → L → Board F R L
  waiting_with b key local = record b { stack = with_local b.stack key (Some local); waiting = b.waiting ++ key ∷ [] }

  -- the board without this frame
  abbrev pub freed : Board F R L → ℕ → Board F R L
  freed b key = record b { stack = without_frame b.stack key; frames = b.frames - 1 }

  -- What a step of the frame comes to. One that unwinds ends the frame.
  abbrev pub IsCarried : Wiring → ℕ → Place → Board F R L → Step F R L → Board F R L → Type 0
  IsCarried wiring key place old (Wind winds local) new = GoesOnWinding wiring key place old winds.items local new
  IsCarried wiring key place old (Wait local) new = new ≡ waiting_with old key local
  IsCarried wiring key place old (Unwind reply) new = IsAnswered place.parent place.call reply (freed old key) new

  -- The first of these winds were opened, and no number was left for the next one.
  pub record IsCutOff (wiring : Wiring) (key : ℕ) (place : Place) (old : Board F R L) (winds : List (ℕ × ℕ × F)) (new : Board F R L) : Type 0 where
    pub done : List (ℕ × ℕ × F)
    pub next : ℕ × ℕ × F
    pub rest : List (ℕ × ℕ × F)
    pub split : done ++ next ∷ rest ≡ winds
    pub wound : AreWoundDown wiring place key old done new
    pub full : new.stack.opened ≡ 4294967295

  -- a step that needs a further wind, where none is left
  abbrev pub IsCut : Wiring → ℕ → Place → Board F R L → Step F R L → Board F R L → Type 0
  IsCut wiring key place old (Wind winds local) new = IsCutOff wiring key place old winds.items new
  IsCut wiring key place old (Wait local) new = ⊥
  IsCut wiring key place old (Unwind reply) new = ⊥

  -- A step of a frame whose local is out may be carried out: its winds find their slots free and go to children
  -- that the wiring has; and a frame that ends has no open wind, is counted, and was opened in its graph.
  abbrev pub MayCarry : Wiring → Place → Board F R L → ℕ → Step F R L → Type 0
  MayCarry wiring place b key (Wind winds local) = MayWind b.stack key winds.items × AreWired wiring place.node winds.items
  MayCarry wiring place b key (Wait local) = Unit {0}
  MayCarry wiring place b key (Unwind reply) = HasNoWind b.stack key × (0 < b.frames) × ParentIsOurs b.stack b.graph place.parent

  -- the board where the local of this frame is out
  abbrev pub out_of : Board F R L → ℕ → Board F R L
  out_of b key = record b { stack = with_local b.stack key None }

-- whether the wind that a fop was to enter by has ended
abbrev pub is_ended : Option Opener → Bool
is_ended None = true
is_ended (Some o) = false

abbrev pub is_lost : {L : Type 0} → Stack L → Option WindNo → Bool
is_lost s None = false
is_lost s (Some w) = is_ended (opener_of s w)

-- the place of a new frame of the board's graph
abbrev pub place_for : {F R L : Type 0} → Board F R L → ℕ → ℕ → Option WindNo → Place
place_for b node call parent = record { graph = b.graph; call = call; node = node; parent = parent }

-- the nodes with the context that they share, and the board
pub record Graph (X C F R L : Type 0) : Type 0 where
  pub nodes : List X
  pub cx : C
  pub board : Board F R L

-- the graph where this is the queue
abbrev pub queued : {X C F R L : Type 0} → Graph X C F R L → List (Task F R) → Graph X C F R L
queued g tasks = record { nodes = g.nodes; cx = g.cx; board = record g.board { queue = tasks } }

-- A call of the node at this place made this step, by the node's own word for it; it changed itself and the
-- context, and no other node.
pub record Makes {X C F R L : Type 0} (makes : X → C → Cause F R L → Step F R L → X → C → Type 0) (at : ℕ) (cause : Cause F R L) (step : Step F R L) (nodes : List X) (cx : C) (nodes_new : List X) (cx_new : C) : Type 0 where
  pub before : X
  pub after : X
  pub there : slice_get nodes at ≡ Some before
  pub made : makes before cx cause step after cx_new
  pub changed : nodes_new ≡ slice_set nodes at after

-- The tasks of a graph. `carries` is what the steps come to: `IsCarried`, or `IsCut` where the last one is cut
-- short.
module _ {X C F R L : Type 0} (makes : X → C → Cause F R L → Step F R L → X → C → Type 0) (ps : List (Promise F L)) (carries : ℕ → Place → Board F R L → Step F R L → Board F R L → Type 0) where
  -- the node at this place takes a step, by its law and by its own word
  pub record Steps (at : ℕ) (cause : Cause F R L) (step : Step F R L) (old new : Graph X C F R L) : Type 0 where
    pub lawful : IsStep (promise_at ps at) cause step
    pub made : Makes makes at cause step old.nodes old.cx new.nodes new.cx

  -- a fop enters the node of a place, as a new frame, which takes its first step
  pub record IsEntered (place : Place) (fop : F) (old new : Graph X C F R L) : Type 0 where
    pub key : ℕ
    pub mid : Board F R L
    pub opened : IsOpened place key old.board mid
    pub step : Step F R L
    pub steps : Steps place.node (ByFop (record { frame = key; call = place.call }) fop) step old new
    pub carried : carries key place mid step new.board

  -- a frame of this graph takes a step by the answer of this slot
  pub record IsResumed (key slot : ℕ) (reply : R) (old new : Graph X C F R L) : Type 0 where
    pub place : Place
    pub local : L
    pub home : place.graph ≡ old.board.graph
    pub stood : frame_at old.board.stack key ≡ Some (record { place = place; local = Some local })
    pub step : Step F R L
    pub steps : Steps place.node (ByReply local slot reply) step old new
    pub carried : carries key place (out_of old.board key) step new.board

  -- a frame of this graph that waited for something that is no wind takes a step
  pub record GoesOn (key : ℕ) (old new : Graph X C F R L) : Type 0 where
    pub place : Place
    pub local : L
    pub home : place.graph ≡ old.board.graph
    pub stood : frame_at old.board.stack key ≡ Some (record { place = place; local = Some local })
    pub waits : (promise_at ps place.node).waits local ≡ true
    pub step : Step F R L
    pub steps : Steps place.node (ByGo local) step old new
    pub carried : carries key place (out_of old.board key) step new.board

  -- the task is done, where a fop's wind is open
  abbrev pub IsDoneSo : Task F R → Graph X C F R L → Graph X C F R L → Type 0
  IsDoneSo (Enter node call parent fop) old new = (is_lost old.board.stack parent ≡ false) × IsEntered (place_for old.board node call parent) fop old new
  IsDoneSo (Resume frame slot reply) old new = IsResumed frame slot reply old new
  IsDoneSo (Go frame) old new = GoesOn frame old new

module _ {X C F R L : Type 0} (makes : X → C → Cause F R L → Step F R L → X → C → Type 0) (ps : List (Promise F L)) (wiring : Wiring) where
  -- a fop whose wind has ended enters no node
  abbrev pub EntersBy : Bool → ℕ → ℕ → Option WindNo → F → Graph X C F R L → Graph X C F R L → Type 0
  EntersBy true node call parent fop old new = new ≡ old
  EntersBy false node call parent fop old new = IsEntered makes ps (IsCarried wiring) (place_for old.board node call parent) fop old new

  -- what a task comes to
  abbrev pub IsDone : Task F R → Graph X C F R L → Graph X C F R L → Type 0
  IsDone (Enter node call parent fop) old new = EntersBy (is_lost old.board.stack parent) node call parent fop old new
  IsDone (Resume frame slot reply) old new = IsResumed makes ps (IsCarried wiring) frame slot reply old new
  IsDone (Go frame) old new = GoesOn makes ps (IsCarried wiring) frame old new

  -- tasks were taken from the front of the queue, one after another
  pub data IsRun (old : Graph X C F R L) : Graph X C F R L → Type 0 where
    NoTask : IsRun old old
    OneTask : (mid new : Graph X C F R L) → (task : Task F R) → (rest : List (Task F R)) →
        IsRun old mid → mid.board.queue ≡ task ∷ rest → IsDone task (queued mid rest) new →
        IsRun old new

  -- a run that ended in a task of which a step needs a further wind, where none is left
  pub record IsCutShort (old new : Graph X C F R L) : Type 0 where
    pub mid : Graph X C F R L
    pub task : Task F R
    pub rest : List (Task F R)
    pub ran : IsRun old mid
    pub next : mid.board.queue ≡ task ∷ rest
    pub cut : IsDoneSo makes ps (IsCut wiring) task (queued mid rest) new
