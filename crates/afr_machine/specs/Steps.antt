-- The steps of one set, each with its guard and with what it makes of the state. Eight kinds: a request is sent, is
-- served, its reply or the Gone of a bailed wind is handed in, it is given up unserved; a connection is opened or ended,
-- by the hub or at the brick; a change becomes unsettled, is decided. Beside them stand the turns of transactions and the
-- drawing of numbers for other sets, which move no message. Ours.
use Rattle.std.specs.Prelude.{◌≡◌, ◌≢◌, ℕ, ◌+◌, ◌==◌, ◌<◌, ◌≤◌, ◌⊎◌, Bool, true, false, List, [], ◌∷◌, Option, Some, None, is_some}
use Rattle.fop_types.specs.StoreOps.{births, contents_after}
use Rattle.fop_types.specs.declared.cells.Cell.{Cell}
use Rattle.afr_machine.specs.Replicas.{Size, count, with_at}
use Rattle.afr_machine.specs.Touching.{has_cell, share}
use Rattle.afr_machine.specs.Requests.{Sender, Ask, Control, Input, Answer, Output}
use Rattle.afr_machine.specs.Requests.Input.{Asked, Steered}
use Rattle.afr_machine.specs.Requests.Answer.{Done, Rows, Content, Gone, Fault, Unfit, BadFd}
use Rattle.afr_machine.specs.Bricks.{Brick, popped, serves, served_by, refused, answering, steered}
use Rattle.afr_machine.specs.Changes.{Verdict, is_unsettled, any_touches}
use Rattle.afr_machine.specs.Transactions.{Stage, cells_of_job, settles_first, is_over}
pub use Rattle.afr_machine.specs.Transactions.{decided_by}
use Rattle.afr_machine.specs.Transactions.Stage.{Marking, Applying, Polling, Unlocking}
use Rattle.afr_machine.specs.States.{State, start, is_current, with_brick, with_link, with_txn, with_change, with_inputs, with_firm, link_of}
use Rattle.afr_machine.specs.Births.{AreAsFirst, with_births}
use Rattle.afr_machine.specs.Sending.{MayAsk, carries_fd, after_asking}
use Rattle.afr_machine.specs.Answering.{missing, taken_in, without_links, without_first_output}
use Rattle.afr_machine.specs.Turns.{Turn, IsAnswered, entering, open_grants, MayTurn, after_turn}

-- `first`: the request's descriptor is opened first. `Refuses` answers the front otherwise than by serving it, by a
-- fault or by its descriptor. `Steers` serves the control at the front. `Draws`: the numbers up to this one are drawn by
-- now, those between for changes of other sets.
pub data Step : Type 0 where
  Turns : (t : ℕ) → (turn : Turn) → Step
  Asks : (t k : ℕ) → (first : Bool) → (asked : Ask) → Step
  Controls : (k : ℕ) → (steering : Control) → Step
  Serves : (k : ℕ) → Step
  Refuses : (k : ℕ) → (answer : Answer) → Step
  GivesUp : (k : ℕ) → Step
  Steers : (k : ℕ) → Step
  HandsIn : (k : ℕ) → Step
  Bails : (t k : ℕ) → Step
  Misses : (t k : ℕ) → Step
  Connects : (k g : ℕ) → Step
  Cuts : (k g : ℕ) → Step
  Unsettles : (t : ℕ) → Step
  Decides : (t : ℕ) → Step
  Draws : (number : ℕ) → Step

-- ---- guards

-- Controls that go by themselves. A Connect goes with the opening of a connection, a Disconnect with the ending of one, or
-- alone where the graph has none open.
abbrev pub IsSentAlone : State → ℕ → Control → Type 0
IsSentAlone m k (Control.Down late) = Unit {0}
IsSentAlone m k Control.Up = Unit {0}
IsSentAlone m k (Control.Connect graph) = ⊥
IsSentAlone m k (Control.Disconnect graph) = (m.links k graph).is_open ≡ false

-- a request is at the front, and this is whether the brick would serve it
pub record HasRequest (b : Brick) (would : Bool) : Type 0 where
  pub by : Sender
  pub asked : Ask
  pub rest : List Input
  pub front : b.line ≡ Asked by asked ∷ rest
  pub served : serves b by.graph ≡ would

-- the answers of a request that was not served: a fault that was named, an op or a list that does not fit, a descriptor
-- that is not open
abbrev pub IsRefusal : Answer → Type 0
IsRefusal Done = ⊥
IsRefusal (Rows rows) = ⊥
IsRefusal (Content found) = ⊥
IsRefusal Gone = ⊥
IsRefusal Fault = Unit {0}
IsRefusal Unfit = Unit {0}
IsRefusal BadFd = Unit {0}

-- an unlock is never refused
abbrev pub may_be_refused : Ask → Bool
may_be_refused (Ask.Lock shared cells) = true
may_be_refused Ask.Unlock = false
may_be_refused (Ask.Mark change cells) = true
may_be_refused (Ask.Op change op) = true
may_be_refused (Ask.Post change cells accused) = true
may_be_refused (Ask.Fetch cell) = true
may_be_refused (Ask.Replace cell found) = true
may_be_refused (Ask.Clear cells who) = true
may_be_refused (Ask.Settle change cells accused) = true
may_be_refused Ask.Index = true
may_be_refused Ask.Open = true
may_be_refused Ask.Release = true
may_be_refused Ask.OpenFirst = true

pub record MayRefuse (b : Brick) (answer : Answer) : Type 0 where
  pub request : HasRequest b true
  pub refusable : may_be_refused request.asked ≡ true
  pub refusal : IsRefusal answer

pub record HasControl (b : Brick) : Type 0 where
  pub steering : Control
  pub rest : List Input
  pub front : b.line ≡ Steered steering ∷ rest

pub record HasOutput (b : Brick) : Type 0 where
  pub first : Output
  pub rest : List Output
  pub front : b.outputs ≡ first ∷ rest

-- the connection on which it asked has ended, and the answer is missing
pub record MayBail (m : State) (t k : ℕ) : Type 0 where
  pub waits : (m.txns t).waits k ≡ true
  pub ended : is_current (link_of m t k) ((m.txns t).asked_on k) ≡ false

-- A request of this phase cannot be sent: the brick is out, or the connection of its grant has ended, or none is open. A
-- lock is released also where the brick is out, while the connection of its grant is open.
pub record MayMiss (m : State) (t k : ℕ) : Type 0 where
  pub is_left : (m.txns t).left k ≡ true
  pub answered : (m.txns t).waits k ≡ false
  pub lost : ((m.txns t).out k ≡ true) ⊎ ((open_grants m t k ≡ false) × (((m.txns t).stage ≡ Polling) → (link_of m t k).is_open ≡ false))
  pub released : (m.txns t).stage ≡ Unlocking → open_grants m t k ≡ false

-- no other read or change whose settling has ended has a cell in common
abbrev pub KeepsApart : State → ℕ → List Cell → Type 0
KeepsApart m t cells =
    (other : ℕ) → other ≢ t → is_over (m.txns other).stage ≡ false → settles_first (m.txns other).job ≡ true → (m.txns other).settled ≡ true →
    share cells (cells_of_job (m.txns other).job) ≡ false

-- A change becomes unsettled once a quorum confirmed its mark: no other unsettled change touches its cells, no other read
-- or change that has settled rests on them, each of its cells has an adopted content, and its births are as all births of their
-- cells. The last three are kept by whoever runs the transactions.
pub record MayUnsettle (size : Size) (m : State) (t : ℕ) : Type 0 where
  pub change : ℕ
  pub turn : (m.txns t).stage ≡ Marking change
  pub answered : IsAnswered size (m.txns t)
  pub many : size.quorum ≤ count size.replicas (m.txns t).confirmed
  pub alone : any_touches m.changes m.drawn (m.changes change).cells ≡ false
  pub apart : KeepsApart m t (m.changes change).cells
  pub present : (cell : Cell) → has_cell (m.changes change).cells cell ≡ true → is_some (m.adopted cell) ≡ true
  pub as_first : AreAsFirst m.born (births (m.changes change).op)

pub record MayDecide (size : Size) (m : State) (t : ℕ) : Type 0 where
  pub change : ℕ
  pub adopts : Bool
  pub decision : decided_by (m.txns t).stage ≡ Some (change, adopts)
  pub many : size.quorum ≤ count size.replicas (m.txns t).confirmed

abbrev pub Allowed : Size → State → Step → Type 0
Allowed size m (Turns t turn) = MayTurn size m t turn
Allowed size m (Asks t k first asked) = MayAsk size m t k asked × (first ≡ true → carries_fd asked ≡ true)
Allowed size m (Controls k steering) = (k < size.replicas) × IsSentAlone m k steering
Allowed size m (Serves k) = HasRequest (m.bricks k) true
Allowed size m (Refuses k answer) = MayRefuse (m.bricks k) answer
Allowed size m (GivesUp k) = HasRequest (m.bricks k) false
Allowed size m (Steers k) = HasControl (m.bricks k)
Allowed size m (HandsIn k) = HasOutput (m.bricks k)
Allowed size m (Bails t k) = MayBail m t k
Allowed size m (Misses t k) = MayMiss m t k
Allowed size m (Connects k g) = (k < size.replicas) × ((m.links k g).is_open ≡ false)
Allowed size m (Cuts k g) = (m.links k g).is_open ≡ true
Allowed size m (Unsettles t) = MayUnsettle size m t
Allowed size m (Decides t) = MayDecide size m t
Allowed size m (Draws number) = m.drawn ≤ number

-- ---- what each makes of the state

abbrev pub served_front : List Input → Brick → Brick
served_front [] b = b
served_front (Asked by asked ∷ rest) b = served_by b.power by asked b
served_front (Steered steering ∷ rest) b = b

abbrev pub refused_front : List Input → Answer → Brick → Brick
refused_front [] answer b = b
refused_front (Asked by asked ∷ rest) answer b = refused by asked answer b
refused_front (Steered steering ∷ rest) answer b = b

abbrev pub given_up_front : List Input → Brick → Brick
given_up_front [] b = b
given_up_front (Asked by asked ∷ rest) b = answering by asked Gone b
given_up_front (Steered steering ∷ rest) b = b

abbrev pub steered_front : List Input → Brick → Brick
steered_front [] b = b
steered_front (Asked by asked ∷ rest) b = b
steered_front (Steered steering ∷ rest) b = steered steering b

abbrev pub take_in_front : State → ℕ → List Output → State
take_in_front m k [] = m
take_in_front m k (o ∷ os) = taken_in m k o

-- the next number, and Connect in the brick's line
abbrev pub connecting : State → ℕ → ℕ → State
connecting m k g = with_inputs (with_link m k g (record { last = (m.links k g).last + 1; is_open = true })) k (Steered (Control.Connect g) ∷ [])

abbrev pub unsettling : State → ℕ → Stage → State
unsettling m t (Marking u) =
    let change = m.changes u in
    with_births
    (with_firm
    (with_change
    (with_txn m t (entering (m.txns t) (Applying u) (m.txns t).confirmed))
    u (record change { verdict = Verdict.Unsettled })) change.cells) change.op
unsettling m t other = m

-- a decision changes what is adopted only the first time, and only where it adopts
abbrev pub deciding : State → ℕ → Bool → Bool → State
deciding m u adopts false = m
deciding m u false true = let change = m.changes u in with_change m u (record change { verdict = Verdict.Dropped })
deciding m u true true =
    let change = m.changes u in
    record (with_change m u (record change { verdict = Verdict.Adopted })) { adopted = contents_after m.adopted change.op }

abbrev pub decided : State → Option (ℕ × Bool) → State
decided m None = m
decided m (Some d) = deciding m d.0 d.1 (is_unsettled (m.changes d.0).verdict)

abbrev pub after : Size → State → Step → State
after size m (Turns t turn) = after_turn size m t turn
after size m (Asks t k first asked) = after_asking m t k first asked
after size m (Controls k steering) = with_inputs m k (Steered steering ∷ [])
after size m (Serves k) = with_brick m k (served_front (m.bricks k).line (popped (m.bricks k)))
after size m (Refuses k answer) = with_brick m k (refused_front (m.bricks k).line answer (popped (m.bricks k)))
after size m (GivesUp k) = with_brick m k (given_up_front (m.bricks k).line (popped (m.bricks k)))
after size m (Steers k) = with_brick m k (steered_front (m.bricks k).line (popped (m.bricks k)))
after size m (HandsIn k) = take_in_front (without_first_output m k) k (m.bricks k).outputs
after size m (Bails t k) = with_txn m t (missing (record (m.txns t) { waits = with_at (m.txns t).waits k false }) k)
after size m (Misses t k) = with_txn m t (record (m.txns t) { left = with_at (m.txns t).left k false; out = with_at (m.txns t).out k true })
after size m (Connects k g) = connecting m k g
after size m (Cuts k g) = with_inputs (without_links m k (λ other. other == g)) k (Steered (Control.Disconnect g) ∷ [])
after size m (Unsettles t) = unsettling m t (m.txns t).stage
after size m (Decides t) = decided m (decided_by (m.txns t).stage)
after size m (Draws number) = record m { drawn = number }

-- ---- runs

-- the states that allowed steps lead to, from the start
pub data IsReached (size : Size) : State → Type 0 where
  Start : IsReached size start
  Further : (m : State) → (step : Step) → IsReached size m → Allowed size m step → IsReached size (after size m step)
