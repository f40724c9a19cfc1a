-- What stands in the lines between the hub and a brick: requests and controls on the way to the brick, replies and
-- notices on the way back. A request names its transaction and the connection on which it was sent. Ours; the
-- requests are those of the wire, with what only the machine knows of them.
use Rattle.std.specs.Prelude.{ℕ, Bool, List}
use Rattle.fop_types.specs.declared.cells.Cell.{Cell}
use Rattle.fop_types.specs.declared.contents.Row.{Row}
use Rattle.fop_types.specs.declared.store_ops.StoreOp.{StoreOp}
use Rattle.afr_machine.specs.Replicas.{Replicas}
use Rattle.afr_machine.specs.Copies.{Fetched}

-- the transaction that sent it, in which graph, and the number of that graph's connection to the brick
pub record Sender : Type 0 where
  pub txn : ℕ
  pub graph : ℕ
  pub connection : ℕ

-- The requests of a transaction. `OpenFirst` opens the descriptor that the next request carries, on the same wind;
-- `accused` are the replicas whose counters rise, `who` those whose counters are set to zero.
pub data Ask : Type 0 where
  Lock : (shared : Bool) → (cells : List Cell) → Ask
  Unlock : Ask
  Mark : (change : ℕ) → (cells : List Cell) → Ask
  Op : (change : ℕ) → (op : StoreOp) → Ask
  Post : (change : ℕ) → (cells : List Cell) → (accused : Replicas) → Ask
  Fetch : (cell : Cell) → Ask
  Replace : (cell : Cell) → (found : Fetched) → Ask
  Clear : (cells : List Cell) → (who : Replicas) → Ask
  Settle : (change : ℕ) → (cells : List Cell) → (accused : Replicas) → Ask
  Index : Ask
  Open : Ask
  Release : Ask
  OpenFirst : Ask

-- `Down` is served with the number of requests that the brick still serves, and answers Gone, while it is down
pub data Control : Type 0 where
  Down : (late : ℕ) → Control
  Up : Control
  Connect : (graph : ℕ) → Control
  Disconnect : (graph : ℕ) → Control

pub data Input : Type 0 where
  Asked : (by : Sender) → (ask : Ask) → Input
  Steered : (control : Control) → Input

-- A grant shows the rows of all cells as they are when it is given; only those of the lock's cells are sent.
pub data Answer : Type 0 where
  Done : Answer
  Rows : (rows : Cell → Row) → Answer
  Content : (found : Fetched) → Answer
  Gone : Answer
  Fault : Answer
  Unfit : Answer
  BadFd : Answer

pub data Output : Type 0 where
  Answered : (by : Sender) → (ask : Ask) → (answer : Answer) → Output
  Closed : Output
  Opened : Output
  Connected : (graph : ℕ) → Output
