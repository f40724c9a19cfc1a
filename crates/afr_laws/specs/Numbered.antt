-- The numbers that messages carry: of transactions that have begun, and of connections that the hub has opened. Ours.
use Rattle.std.specs.Prelude.{◌≡◌, ℕ, ◌≤◌}
use Rattle.afr_machine.specs.Requests.{Sender, Ask}
use Rattle.afr_machine.specs.States.{State}
use Rattle.afr_laws.specs.Senders.{Each}

-- the sender has begun, in this graph, and its connection is no later than the last that the hub opened
pub record IsNumbered (m : State) (k : ℕ) (by : Sender) (ask : Ask) : Type 0 where
  pub begun : by.txn ≤ m.begun
  pub graph : by.graph ≡ (m.txns by.txn).graph
  pub connection : by.connection ≤ (m.links k by.graph).last

abbrev pub AreNumbered : State → Type 0
AreNumbered m = (k : ℕ) → Each (IsNumbered m k) (m.bricks k)

-- what no step takes back: transactions that have begun, their graphs, and the numbers of connections
pub record Further (m new : State) : Type 0 where
  pub begun : m.begun ≤ new.begun
  pub graph : (t : ℕ) → t ≤ m.begun → (new.txns t).graph ≡ (m.txns t).graph
  pub last : (k g : ℕ) → (m.links k g).last ≤ (new.links k g).last
