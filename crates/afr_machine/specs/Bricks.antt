-- A brick: its store, its locks, the graphs that are connected, and its two lines, each first in, first out. What it
-- makes of the front of its input line is a function of the brick alone. Ours; one case for each procedure.
use Rattle.std.specs.Prelude.{ℕ, zero, suc, ◌-◌, Bool, true, false, not, List, [], ◌∷◌, ◌++◌, map, Option, Some, None, if◌then◌else◌}
use Rattle.fop_types.specs.StoreOps.{fits}
use Rattle.afr_machine.specs.Replicas.{with_at}
use Rattle.afr_machine.specs.Copies.{Store, Fetched, contents_of, rows_of, fetched_of, on_cells, mark_of, post_of, settle_of, clear_of, replaced, after_op}
use Rattle.afr_machine.specs.Requests.{Sender, Ask, Control, Input, Answer, Output}
use Rattle.afr_machine.specs.Requests.Ask.{Lock, Unlock, Mark, Op, Post, Fetch, Replace, Clear, Settle, Index, Open, Release, OpenFirst}
use Rattle.afr_machine.specs.Requests.Answer.{Done, Rows, Content, Gone, Unfit}
use Rattle.afr_machine.specs.Requests.Output.{Answered, Closed, Opened, Connected}
use Rattle.afr_machine.specs.Locks.{BrickLock, conflicts_among, those, is_of_txn, is_of_graph, Queue, granted_in_order}

-- While it is down a brick may serve some requests late; `were` are the graphs that were connected when it went down.
pub data Power : Type 0 where
  IsUp : Power
  IsDown : (late : ℕ) → (were : ℕ → Bool) → Power

pub record Brick : Type 0 where
  pub store : Store
  pub held : List BrickLock
  pub waiting : List BrickLock
  pub power : Power
  pub connected : ℕ → Bool
  pub line : List Input
  pub outputs : List Output

-- ---- the store alone

-- what a request makes of the store; patch will have its place here, beside the replacement
abbrev pub stored_by : Ask → Store → Store
stored_by (Lock shared cells) store = store
stored_by Unlock store = store
stored_by (Mark change cells) store = on_cells cells mark_of store
stored_by (Op change op) store = after_op change op store
stored_by (Post change cells accused) store = on_cells cells (post_of accused) store
stored_by (Fetch cell) store = store
stored_by (Replace cell found) store = replaced cell found store
stored_by (Clear cells who) store = on_cells cells (clear_of who) store
stored_by (Settle change cells accused) store = on_cells cells (settle_of accused) store
stored_by Index store = store
stored_by Open store = store
stored_by Release store = store
stored_by OpenFirst store = store

abbrev pub answer_of_op : Bool → Answer
answer_of_op true = Done
answer_of_op false = Unfit

abbrev pub answer_of_fetch : Option Fetched → Answer
answer_of_fetch None = Unfit
answer_of_fetch (Some found) = Content found

-- what a request that is served is answered; a lock is answered when it is granted
abbrev pub answer_of : Ask → Store → Answer
answer_of (Lock shared cells) store = Rows (rows_of store)
answer_of Unlock store = Done
answer_of (Mark change cells) store = Done
answer_of (Op change op) store = answer_of_op (fits (contents_of store) op)
answer_of (Post change cells accused) store = Done
answer_of (Fetch cell) store = answer_of_fetch (fetched_of (store cell).copy (store cell).last)
answer_of (Replace cell found) store = Done
answer_of (Clear cells who) store = Done
answer_of (Settle change cells accused) store = Done
answer_of Index store = Done
answer_of Open store = Done
answer_of Release store = Done
answer_of OpenFirst store = Done

-- ---- locks

abbrev pub ask_of : BrickLock → Ask
ask_of lock = Lock lock.shared lock.cells

-- the grants of these locks, with the rows as they are
abbrev pub grants_of : Store → List BrickLock → List Output
grants_of store locks = map (λ l. Answered l.by (ask_of l) (Rows (rows_of store))) locks

-- the dropped locks that waited are answered Gone
abbrev pub gones_of : List BrickLock → List Output
gones_of locks = map (λ l. Answered l.by (ask_of l) Gone) locks

-- a lock waits where it conflicts with a held lock or with one that waits
abbrev pub locked : BrickLock → Brick → Brick
locked lock b =
    if conflicts_among (b.held ++ b.waiting) lock
    then record b { waiting = b.waiting ++ lock ∷ [] }
    else record b { held = b.held ++ lock ∷ []; outputs = b.outputs ++ grants_of b.store (lock ∷ []) }

-- the brick with a queue after locks were dropped: these outputs, and then the grants
abbrev pub requeued : Queue → List Output → Brick → Brick
requeued queue first b = record b { held = queue.held; waiting = queue.waiting; outputs = b.outputs ++ (first ++ grants_of b.store queue.granted) }

-- the transaction's lock is released; where it holds none, nothing changes
abbrev pub unlocked : Sender → Brick → Brick
unlocked by b =
    requeued (granted_in_order (those (λ l. not (is_of_txn by.txn l)) b.held) [] b.waiting) (Answered by Unlock Done ∷ []) b

-- the locks of a graph are dropped, held and waiting
abbrev pub without_graph : ℕ → Brick → Brick
without_graph g b =
    requeued
    (granted_in_order (those (λ l. not (is_of_graph g l)) b.held) [] (those (λ l. not (is_of_graph g l)) b.waiting))
    (gones_of (those (is_of_graph g) b.waiting)) b

-- ---- a request at the front, the line without it

abbrev pub answering : Sender → Ask → Answer → Brick → Brick
answering by ask answer b = record b { outputs = b.outputs ++ Answered by ask answer ∷ [] }

-- all requests but locks and unlocks change the store alone
abbrev pub with_stored : Sender → Ask → Brick → Brick
with_stored by ask b = answering by ask (answer_of ask b.store) (record b { store = stored_by ask b.store })

abbrev pub served_up : Sender → Ask → Brick → Brick
served_up by (Lock shared cells) b = locked (record { by = by; shared = shared; cells = cells }) b
served_up by Unlock b = unlocked by b
served_up by (Mark change cells) b = with_stored by (Mark change cells) b
served_up by (Op change op) b = with_stored by (Op change op) b
served_up by (Post change cells accused) b = with_stored by (Post change cells accused) b
served_up by (Fetch cell) b = with_stored by (Fetch cell) b
served_up by (Replace cell found) b = with_stored by (Replace cell found) b
served_up by (Clear cells who) b = with_stored by (Clear cells who) b
served_up by (Settle change cells accused) b = with_stored by (Settle change cells accused) b
served_up by Index b = with_stored by Index b
served_up by Open b = with_stored by Open b
served_up by Release b = with_stored by Release b
served_up by OpenFirst b = with_stored by OpenFirst b

-- one late service fewer
abbrev pub less_late : Power → Power
less_late IsUp = IsUp
less_late (IsDown late were) = IsDown (late - 1) were

-- late, the store is changed all the same, no lock is taken or released, and the answer is Gone
abbrev pub served_by : Power → Sender → Ask → Brick → Brick
served_by IsUp by ask b = served_up by ask b
served_by (IsDown late were) by ask b = answering by ask Gone (record b { store = stored_by ask b.store; power = less_late b.power })

-- the brick serves requests of this graph now
abbrev pub would_serve : Power → (ℕ → Bool) → ℕ → Bool
would_serve IsUp connected g = connected g
would_serve (IsDown zero were) connected g = false
would_serve (IsDown (suc late) were) connected g = were g

abbrev pub serves : Brick → ℕ → Bool
serves b g = would_serve b.power b.connected g

-- a request that is to be served is refused, by a fault that was named before or by its descriptor: nothing is done
abbrev pub refused : Sender → Ask → Answer → Brick → Brick
refused by ask answer b = answering by ask answer (record b { power = less_late b.power })

-- ---- a control at the front, the line without it

abbrev pub is_up : Power → Bool
is_up IsUp = true
is_up (IsDown late were) = false

-- a second Down ends the late services
abbrev pub power_after_down : ℕ → Brick → Power → Power
power_after_down late b IsUp = IsDown late b.connected
power_after_down late b (IsDown before were) = IsDown 0 were

abbrev pub steered : Control → Brick → Brick
steered (Control.Down late) b = record b {
  held = [];
  waiting = [];
  power = power_after_down late b b.power;
  connected = λ g. false;
  outputs = b.outputs ++ Closed ∷ gones_of b.waiting;
}
steered Control.Up b = record b { power = IsUp; outputs = b.outputs ++ Opened ∷ [] }
steered (Control.Connect g) b =
    if is_up b.power
    then (let c = without_graph g b in record c { connected = with_at c.connected g true; outputs = c.outputs ++ Connected g ∷ [] })
    else b
steered (Control.Disconnect g) b = let c = without_graph g b in record c { connected = with_at c.connected g false }

-- ---- the whole front

abbrev pub without_front : List Input → List Input
without_front [] = []
without_front (i ∷ is) = is

abbrev pub popped : Brick → Brick
popped b = record b { line = without_front b.line }

abbrev pub no_brick : Store → Brick
no_brick store = record { store = store; held = []; waiting = []; power = IsUp; connected = λ g. false; line = []; outputs = [] }
