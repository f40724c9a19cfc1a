-- What a call of a graph gives. The graph has the mount's stack and ledger. The call adds a task, or ends winds, which adds
-- one for each; then nodes take their steps until no task is left. What came out of that is given, and the graph and the
-- mount keep the rest. Ours.
use Rattle.std.specs.Prelude.{ℕ, ◌≡◌, ◌-◌, ◌==◌, ◌&&◌, nat_lt, Bool, true, false, List, [], ◌∷◌, ◌++◌, map, Option, None, Some, slice_get, slice_set, if◌then◌else◌}
use Rattle.std.specs.BTreeMap.{is_at}
use Rattle.std.specs.List.{list_any, flat_map}
use Rattle.std.specs.Ordering.{nat_cmp}
use Rattle.std.specs.Set.{remove_key}
use Rattle.std.specs.Option.{option_zip}
use Rattle.client_xlator.specs.Client.{ClientState}
use Rattle.client_xlator.specs.declared.sent.Sent.{Sent as Carried}
use Rattle.client_xlator.specs.declared.sent.Sent.TheVariants.{Messages, NotConnected}
use Rattle.fop_types.specs.declared.cells.Gfid.{Gfid}
use Rattle.fop_types.specs.declared.answers.FopAnswer.{FopAnswer}
use Rattle.fop_types.specs.declared.fops.Fop.{Fop}
use Rattle.fop_types.specs.declared.messages.BrickRep.{BrickRep}
use Rattle.fop_types.specs.declared.messages.BrickRep.TheVariants as rep
use Rattle.frame_driver.specs.Bailing.{IsBailed}
use Rattle.frame_driver.specs.Machine.{Graph as Machine, IsRun, IsCutShort, IsEnded, with_task}
use Rattle.frame_driver.specs.declared.board.Board.{Board}
use Rattle.frame_driver.specs.declared.items.Answered.{Answered}
use Rattle.frame_driver.specs.declared.items.Bailed.{Bailed}
use Rattle.frame_driver.specs.declared.items.Sent.{Sent}
use Rattle.frame_driver.specs.declared.items.Task.TheVariants.{Enter, Go}
use Rattle.frame_stack.specs.Stack.{Stack, frame_at, place_at, parent_of, opener_of, settled_as, word_at}
use Rattle.frame_stack.specs.declared.frame.Frame.{Frame}
use Rattle.frame_stack.specs.declared.frame.Opener.{Opener}
use Rattle.graph_items.specs.Clients.{last_at, ended_at, noted_at, sent_at}
use Rattle.graph_items.specs.Descriptors.{fd_of}
use Rattle.graph_items.specs.Items.{RequestValue}
use Rattle.graph_items.specs.declared.items.Down.{Down}
use Rattle.graph_items.specs.declared.items.Down.TheVariants as down
use Rattle.graph_items.specs.declared.items.Up.{Up}
use Rattle.graph_items.specs.declared.items.Up.TheVariants as up
use Rattle.io_threads.specs.Lanes.{first_of, in_turn, without_first}
use Rattle.xlator_law.specs.declared.winds.Parent.{Parent}
use Rattle.xlator_law.specs.declared.winds.Place.{Place}
use Rattle.xlator_law.specs.declared.winds.Settled.{Settled}
use Rattle.xlator_law.specs.declared.winds.Settled.TheVariants.{Lost}
use Rattle.xlator_law.specs.declared.winds.WindNo.{WindNo}
use Rattle.graph_nodes.specs.declared.opening.Asked.{Asked}
use Rattle.graph_nodes.specs.declared.context.Context.{Context}
use Rattle.graph_nodes.specs.declared.context.HoldWait.{HoldWait}
use Rattle.graph_nodes.specs.declared.graph.Graph.{Graph}
use Rattle.graph_nodes.specs.declared.kinds.IoThreads.{IoThreads}
use Rattle.graph_nodes.specs.declared.kinds.Kind.{Kind}
use Rattle.graph_nodes.specs.declared.kinds.Kind.TheVariants as kind
use Rattle.graph_nodes.specs.declared.kinds.Node.{Node}
use Rattle.graph_nodes.specs.declared.locals.Local.{Local}
use Rattle.graph_nodes.specs.declared.moved.HoldAsk.{HoldAsk}
use Rattle.graph_nodes.specs.declared.moved.HoldAsk.TheVariants.{Extend}
use Rattle.graph_nodes.specs.declared.moved.Mount.{Mount}
use Rattle.graph_nodes.specs.declared.moved.Moved.{Moved}
use Rattle.graph_nodes.specs.declared.outer.Waiting.{Waiting}
use Rattle.graph_nodes.specs.Costs.{at_most}
use Rattle.graph_nodes.specs.Live.{shown, borrowing, exchanged}
use Rattle.graph_nodes.specs.Nodes.{node_makes}
use Rattle.graph_nodes.specs.OpenWinds.{WindsState, waiting_in, opened_in, winds_at}
use Rattle.graph_nodes.specs.Promises.{node_promise}

-- the nodes of a graph with what they share, and the board
abbrev pub Running : Type 0
Running = Machine Node Context Down Up Local

abbrev pub running : Graph → Running
running g = record { nodes = g.nodes.items; cx = g.cx; board = g.board }

-- ---- what comes out of a run

abbrev pub brick_by : Kind → Option ℕ
brick_by kind.Root = None
brick_by kind.Pass = None
brick_by (kind.IoThreads node) = None
brick_by (kind.IoCache node) = None
brick_by (kind.Distribute node) = None
brick_by (kind.Replicate node) = None
brick_by (kind.Client node) = Some node.brick

abbrev pub brick_in : Option Node → Option ℕ
brick_in None = None
brick_in (Some node) = brick_by node.kind

-- the brick of the client with this number
abbrev pub brick_at : List Node → ℕ → Option ℕ
brick_at nodes number = brick_in (slice_get nodes number)

abbrev pub request_of : Down → Option RequestValue
request_of (down.Fop f) = None
request_of (down.Job j) = None
request_of (down.Request r) = Some r

abbrev pub messages_in : Carried → List (List ℕ)
messages_in (Messages ms) = ms
messages_in NotConnected = []

-- slots of winds are below 2147483648
abbrev pub request_messages : List ClientState → ℕ → WindNo → RequestValue → List (List ℕ)
request_messages cs brick w r = if nat_lt w.slot 2147483648 then messages_in (sent_at cs brick w r.bound (fd_of r.req) r.req) else []

abbrev pub messages_to : List ClientState → WindNo → Option (ℕ × RequestValue) → List (ℕ × List ℕ)
messages_to cs w None = []
messages_to cs w (Some b) = map (λ m. (b.0, m)) (request_messages cs b.0 w b.1)

-- the messages of a wind that a client handed out, each with its brick
abbrev pub sends_in : List Node → List ClientState → Sent Down → List (ℕ × List ℕ)
sends_in nodes cs s = messages_to cs s.wind (option_zip (brick_at nodes s.node) (request_of s.fop))

abbrev pub hold_of : HoldWait → ℕ × HoldAsk
hold_of w = (w.call, Extend w.gfid)

abbrev pub placed_answer : ℕ → FopAnswer → Option ℕ → Option (ℕ × FopAnswer × ℕ)
placed_answer call answer None = None
placed_answer call answer (Some place) = Some (call, answer, place)

-- the answer of a fop, with its place
abbrev pub answer_by : ℕ → Up → Option (ℕ × FopAnswer × ℕ)
answer_by call (up.Answer answer place) = placed_answer call answer place
answer_by call (up.Set said) = None
answer_by call (up.Brick said) = None

abbrev pub as_list : {A : Type 0} → Option A → List A
as_list None = []
as_list (Some x) = x ∷ []

abbrev pub answers_in : Answered Up → List (ℕ × FopAnswer × ℕ)
answers_in a = as_list (answer_by a.call a.reply)

-- what is given after a run
abbrev pub moved_of : Running → Moved
moved_of r = record {
  holds = map hold_of r.cx.holds;
  sends = flat_map (sends_in r.nodes r.cx.clients) r.board.sent;
  answers = flat_map answers_in r.board.answers;
  copies = r.cx.copies;
  skips = r.cx.skips;
  winds = r.board.stack.lines;
}

-- the same behind what was given before, but for the lines of the winds
abbrev pub moved_with : Moved → Running → Moved
moved_with m r = record {
  holds = m.holds ++ map hold_of r.cx.holds;
  sends = m.sends ++ flat_map (sends_in r.nodes r.cx.clients) r.board.sent;
  answers = m.answers ++ flat_map answers_in r.board.answers;
  copies = m.copies ++ r.cx.copies;
  skips = m.skips ++ r.cx.skips;
  winds = r.board.stack.lines;
}

-- what is kept after it
abbrev pub taken_from : Context → Context
taken_from cx = record cx { holds = []; copies = []; skips = [] }

abbrev pub kept_of : Running → Running
kept_of r = record r { cx = taken_from r.cx; board = shown r.board }

-- ---- a call, which starts so

-- From the start the tasks are done, until none is left. What came out is given, and the rest is kept.
pub record Gives (starts : Running → Type 0) (g : Graph) (moved : Moved) (after : Running) : Type 0 where
  pub start : Running
  pub started : starts start
  pub end : Running
  pub ran : IsRun node_makes (map node_promise g.nodes.items) g.wiring start end
  pub done : end.board.queue ≡ []
  pub moved_is : moved ≡ moved_of end
  pub after_is : after ≡ kept_of end

-- A wind was needed, and none was left.
pub record EndsEarly (starts : Running → Type 0) (g : Graph) (after : Running) : Type 0 where
  pub start : Running
  pub started : starts start
  pub cut : IsCutShort node_makes (map node_promise g.nodes.items) g.wiring start after

-- The same of a call of a graph and its mount, which exchange their stacks and ledgers before it and after it.
abbrev pub CallGives : (Graph → Running → Type 0) → Graph → Mount → Moved → Graph → Mount → Type 0
CallGives starts g mount moved new mount_new = Gives (starts (borrowing g mount)) g moved (running (exchanged new mount_new))

abbrev pub CallEndsEarly : (Graph → Running → Type 0) → Graph → Mount → Graph → Mount → Type 0
CallEndsEarly starts g mount new mount_new = EndsEarly (starts (borrowing g mount)) g (running (exchanged new mount_new))

-- a part of a call that begins where the graph is
abbrev pub Here : Graph → Running → Type 0
Here g start = start ≡ running g

-- ---- a fop, and a frame that waited for what is no wind

-- a fop of a call is to enter the root
abbrev pub Enters : ℕ → Fop → Graph → Running → Type 0
Enters call fop g start = start ≡ record { nodes = g.nodes.items; cx = g.cx; board = with_task g.board (Enter g.top call None (down.Fop fop)) }

abbrev pub is_home : ℕ → Option (Frame Local) → Bool
is_home graph None = false
is_home graph (Some f) = f.place.graph == graph

abbrev pub woken_by : Bool → ℕ → Board Down Up Local → Board Down Up Local
woken_by true key b = with_task b (Go key)
woken_by false key b = b

-- the board where the frame is to go on, if there is one, it is of the board's graph, and parked
abbrev pub woken : List ℕ → Option ℕ → Board Down Up Local → Board Down Up Local
woken parked None b = b
woken parked (Some key) b = woken_by (is_home b.graph (frame_at b.stack key) && list_any (is_at (nat_cmp key)) parked) key b

abbrev pub Wakes : List ℕ → Option ℕ → Graph → Running → Type 0
Wakes parked frame g start = start ≡ record { nodes = g.nodes.items; cx = g.cx; board = woken parked frame g.board }

-- ---- the turn of a frame in an io-threads node

-- the frame whose turn it is, if it is an io-threads node in which one waits
abbrev pub turn_by : Kind → Option ℕ
turn_by kind.Root = None
turn_by kind.Pass = None
turn_by (kind.IoThreads node) = first_of (in_turn node.queues)
turn_by (kind.IoCache node) = None
turn_by (kind.Distribute node) = None
turn_by (kind.Replicate node) = None
turn_by (kind.Client node) = None

abbrev pub turn_in : Option Node → Option ℕ
turn_in None = None
turn_in (Some node) = turn_by node.kind

-- the same of the node with this number
abbrev pub turn_at : List Node → ℕ → Option ℕ
turn_at nodes task = turn_in (slice_get nodes task)

-- the node once that frame was taken
abbrev pub after_turn : IoThreads → IoThreads
after_turn q = record q { queues = without_first q.queues; waiting = q.waiting - 1 }

-- a node in which nobody waits is ready no more
abbrev pub rested : IoThreads → Context → Context
rested q cx = if q.waiting == 0 then record cx { ready = record { keys = remove_key (is_at (nat_cmp q.number)) cx.ready.keys } } else cx

-- the io-threads node takes that frame
pub record TurnIs (old : Node) (cx : Context) (key : ℕ) (new : Node) (cx_new : Context) : Type 0 where
  pub queue : IoThreads
  pub kind_is : old.kind ≡ kind.IoThreads queue
  pub first : first_of (in_turn queue.queues) ≡ Some key
  pub node : new ≡ record old { kind = kind.IoThreads (after_turn queue) }
  pub cx_is : cx_new ≡ rested (after_turn queue) cx

-- the node with this number does, and no other changes
pub record TakesTurn (task : ℕ) (nodes : List Node) (cx : Context) (key : ℕ) (nodes_new : List Node) (cx_new : Context) : Type 0 where
  pub before : Node
  pub after : Node
  pub there : slice_get nodes task ≡ Some before
  pub turn : TurnIs before cx key after cx_new
  pub nodes_are : nodes_new ≡ slice_set nodes task after

-- the frame whose turn it is goes on
pub record RunsTask (task : ℕ) (parked : List ℕ) (g : Graph) (start : Running) : Type 0 where
  pub key : ℕ
  pub turn : TakesTurn task g.nodes.items g.cx key start.nodes start.cx
  pub woken_is : start.board ≡ woken parked (Some key) g.board

-- ---- an output of a brick

-- the request's wind, and whether an open that goes before it is meant
abbrev pub asked_by : WindNo → Asked
asked_by w = if nat_lt w.slot 2147483648 then record { wind = w; before = false } else record { wind = record w { slot = w.slot - 2147483648 }; before = true }

abbrev pub is_done : BrickRep → Bool
is_done (rep.Done arm) = true
is_done rep.Gone = false
is_done rep.Fault = false
is_done rep.Unfit = false
is_done rep.BadFd = false

abbrev pub noted_as : List ClientState → ℕ → Option (ℕ × Gfid) → List ClientState
noted_as cs brick None = cs
noted_as cs brick (Some f) = noted_at cs brick f.0 f.1

abbrev pub noted_by : List ClientState → ℕ → Bool → Option Waiting → List ClientState
noted_by cs brick before None = cs
noted_by cs brick before (Some w) = noted_as cs brick (opened_in w before)

abbrev pub noted_for : List ClientState → List WindsState → Option ℕ → Asked → List ClientState
noted_for cs outer None asked = cs
noted_for cs outer (Some brick) asked = noted_by cs brick asked.before (waiting_in (slice_get outer brick) asked.wind)

-- a descriptor whose open was answered Done is open on the connection
abbrev pub noted_of : Bool → List ClientState → List WindsState → Option ℕ → Asked → List ClientState
noted_of true cs outer brick asked = noted_for cs outer brick asked
noted_of false cs outer brick asked = cs

abbrev pub is_opener_ours : ℕ → Option Opener → Bool
is_opener_ours graph None = true
is_opener_ours graph (Some o) = o.graph == graph

-- whether a wind is one of the board's graph; one that is not open is of every graph
abbrev pub is_ours : Board Down Up Local → WindNo → Bool
is_ours b w = is_opener_ours b.graph (opener_of b.stack w)

abbrev pub brick_of_place : List Node → Option Place → Option ℕ
brick_of_place nodes None = None
brick_of_place nodes (Some place) = brick_at nodes place.node

abbrev pub brick_of_parent : List Node → Stack Local → Option Parent → Option ℕ
brick_of_parent nodes s None = None
brick_of_parent nodes s (Some p) = brick_of_place nodes (place_at s p.frame)

-- the brick at which a wind of the graph is open: that of the client which opened it
abbrev pub brick_of : Graph → WindNo → Option ℕ
brick_of g w = if is_ours g.board w then brick_of_parent g.nodes.items g.board.stack (parent_of (opener_of g.board.stack w)) else None

-- what a reply is marked with: its place in the brick's journal where it is a fault, else the last connection
abbrev pub mark_of : List ClientState → ℕ → BrickRep → ℕ → ℕ
mark_of cs brick (rep.Done arm) taken = last_at cs brick
mark_of cs brick rep.Gone taken = last_at cs brick
mark_of cs brick rep.Fault taken = taken
mark_of cs brick rep.Unfit taken = last_at cs brick
mark_of cs brick rep.BadFd taken = last_at cs brick

-- the wind ends with this reply, if it is open at a brick of the graph; else the reply is late
abbrev pub IsTaken : Option ℕ → WindNo → BrickRep → ℕ → List ClientState → Board Down Up Local → Settled → Board Down Up Local → Type 0
IsTaken None w r taken cs old settled new = (settled ≡ Lost (word_at old.stack w.slot)) × (new ≡ old)
IsTaken (Some brick) w r taken cs old settled new = (settled ≡ settled_as old.stack w) × IsEnded w (up.Brick (record { rep = r; mark = mark_of cs brick r taken })) old new

-- an output that is Done of an open before a request ends no wind
abbrev pub IsTakenBy : Bool → Option ℕ → WindNo → BrickRep → ℕ → List ClientState → Board Down Up Local → Option Settled → Board Down Up Local → Type 0
IsTakenBy true brick w r taken cs old settled new = (settled ≡ None) × (new ≡ old)
IsTakenBy false brick w r taken cs old None new = ⊥
IsTakenBy false brick w r taken cs old (Some s) new = IsTaken brick w r taken cs old s new

-- the graph takes a brick's output for a wind
pub record TakesOutput (w : WindNo) (r : BrickRep) (taken : ℕ) (settled : Option Settled) (g : Graph) (start : Running) : Type 0 where
  pub nodes : start.nodes ≡ g.nodes.items
  pub noted : start.cx ≡ record g.cx { clients = noted_of (is_done r) g.cx.clients g.outer.items (brick_of g (asked_by w).wind) (asked_by w) }
  pub ended : IsTakenBy ((asked_by w).before && is_done r) (brick_of g (asked_by w).wind) (asked_by w).wind r taken start.cx.clients g.board settled start.board

-- whatever came of it
abbrev pub TakesSome : WindNo → BrickRep → ℕ → Graph → Running → Type 0
TakesSome w r taken g start = (settled : Option Settled) × TakesOutput w r taken settled g start

-- ---- the end of a connection

abbrev pub gone_in : Bool → WindNo → ℕ → List (Bailed Up)
gone_in true w mark = record { wind = w; reply = up.Brick (record { rep = rep.Gone; mark = mark }) } ∷ []
gone_in false w mark = []

-- these winds, where they are of the board's graph, each with the answer of a brick that is gone
abbrev pub gone_of : Board Down Up Local → ℕ → List Waiting → List (Bailed Up)
gone_of b mark ws = flat_map (λ w. gone_in (is_ours b w.wind) w.wind mark) ws

-- The connection to a brick ends, with the winds that are open there; so many of them were pending.
pub record EndsAt (brick won : ℕ) (g : Graph) (start : Running) : Type 0 where
  pub nodes : start.nodes ≡ g.nodes.items
  pub cx_is : start.cx ≡ record g.cx { clients = ended_at g.cx.clients brick }
  pub ended : IsBailed (gone_of g.board (last_at (ended_at g.cx.clients brick) brick) (winds_at g.outer.items brick)) g.board start.board won

-- so many of them, as a number of 32 bits
pub record Bails (brick count : ℕ) (g : Graph) (start : Running) : Type 0 where
  pub won : ℕ
  pub count_is : count ≡ at_most 4294967295 won
  pub ends : EndsAt brick won g start

abbrev pub BailsSome : ℕ → Graph → Running → Type 0
BailsSome brick g start = (won : ℕ) × EndsAt brick won g start
