-- What is noted of a reply touches transactions, changes and lock phases alone.
use Rattle.std.proofs.Common.{◌≡◌, ℕ, Bool, true, false, refl}
use Rattle.std.specs.Prelude.{if◌then◌else◌}
use Rattle.afr_machine.specs.Requests.{Sender, Ask, Answer, Output}
use Rattle.afr_machine.specs.Requests.Ask.{Lock, Unlock, Mark, Op, Post, Fetch, Replace, Clear, Settle, Index, Open, Release, OpenFirst}
use Rattle.afr_machine.specs.Requests.Output.{Answered, Closed, Opened, Connected}
use Rattle.afr_machine.specs.Transactions.{Stage, Txn}
use Rattle.afr_machine.specs.Transactions.Stage.{Applying, Copying}
use Rattle.afr_machine.specs.States.{State, is_current, with_txn}
use Rattle.afr_machine.specs.Answering.{is_wanted, is_done, awaits, landed, at_rest, hearing, noted, noting, applied_by, cleared_for, confirmed_for, answered, opening, opened_first, replied, taken_in}

-- only transactions, changes and lock phases differ
pub record IsBeside (m new : State) : Type 0 where
  pub bricks : new.bricks ≡ m.bricks
  pub links : new.links ≡ m.links
  pub adopted : new.adopted ≡ m.adopted
  pub firm : new.firm ≡ m.firm
  pub born : new.born ≡ m.born
  pub begun : new.begun ≡ m.begun
  pub ended : new.ended ≡ m.ended
  pub drawn : new.drawn ≡ m.drawn

pub beside_same : (m : State) → IsBeside m m
beside_same m = record { bricks = refl; links = refl; adopted = refl; firm = refl; born = refl; begun = refl; ended = refl; drawn = refl }

-- a transaction more or less changes nothing of this
pub beside_txn : (m new : State) (t : ℕ) (x : Txn) → IsBeside m new → IsBeside m (with_txn new t x)
beside_txn m new t x b = record { bricks = b.bricks; links = b.links; adopted = b.adopted; firm = b.firm; born = b.born; begun = b.begun; ended = b.ended; drawn = b.drawn }

applied_beside : (m : State) (stage : Stage) (k : ℕ) → IsBeside m (applied_by m stage k)
applied_beside m (Applying u) k = record { bricks = refl; links = refl; adopted = refl; firm = refl; born = refl; begun = refl; ended = refl; drawn = refl }
applied_beside m other k = beside_same m

cleared_beside : (m : State) (x : Txn) (stage : Stage) (k : ℕ) → IsBeside m (cleared_for m x stage k)
cleared_beside m x (Copying run) k = record { bricks = refl; links = refl; adopted = refl; firm = refl; born = refl; begun = refl; ended = refl; drawn = refl }
cleared_beside m x other k = beside_same m

confirmed_beside : (m : State) (x : Txn) (k : ℕ) → IsBeside m (confirmed_for m x k)
confirmed_beside m x k = record { bricks = refl; links = refl; adopted = refl; firm = refl; born = refl; begun = refl; ended = refl; drawn = refl }

noting_beside : (m : State) (x : Txn) (k : ℕ) (ask : Ask) → IsBeside m (noting m x k ask)
noting_beside m x k (Op change op) = applied_beside m x.stage k
noting_beside m x k (Clear cells who) = cleared_beside m x x.stage k
noting_beside m x k (Post change cells accused) = confirmed_beside m x k
noting_beside m x k (Settle change cells accused) = confirmed_beside m x k
noting_beside m x k other = beside_same m

noted_beside : (m : State) (x : Txn) (k : ℕ) (ask : Ask) (answer : Answer) → IsBeside m (noted m x k ask answer)
noted_beside m x k ask answer = by_case (is_wanted ask answer) where
  by_case : (b : Bool) → IsBeside m (if b then noting m x k ask else m)
  by_case true = noting_beside m x k ask
  by_case false = beside_same m

answered_beside : (m : State) (k : ℕ) (by : Sender) (ask : Ask) (answer : Answer) → IsBeside m (answered m k by ask answer)
answered_beside m k by ask answer = by_case (awaits (m.txns by.txn) k) where
  by_case : (b : Bool) → IsBeside m (if b then with_txn (noted m (m.txns by.txn) k ask answer) by.txn (hearing (at_rest (m.txns by.txn) k) k by.connection ask answer) else with_txn m by.txn (landed (m.txns by.txn) k))
  by_case true = beside_txn m (noted m (m.txns by.txn) k ask answer) by.txn (hearing (at_rest (m.txns by.txn) k) k by.connection ask answer) (noted_beside m (m.txns by.txn) k ask answer)
  by_case false = beside_txn m m by.txn (landed (m.txns by.txn) k) (beside_same m)

opened_beside : (m : State) (k : ℕ) (by : Sender) (answer : Answer) → IsBeside m (opened_first m k by answer)
opened_beside m k by answer = beside_txn m m by.txn (opening (m.txns by.txn) k (is_done answer)) (beside_same m)

pub replied_beside : (m : State) (k : ℕ) (by : Sender) (ask : Ask) (answer : Answer) → IsBeside m (replied m k by ask answer)
replied_beside m k by OpenFirst answer = opened_beside m k by answer
replied_beside m k by (Lock shared cells) answer = answered_beside m k by (Lock shared cells) answer
replied_beside m k by Unlock answer = answered_beside m k by Unlock answer
replied_beside m k by (Mark change cells) answer = answered_beside m k by (Mark change cells) answer
replied_beside m k by (Op change op) answer = answered_beside m k by (Op change op) answer
replied_beside m k by (Post change cells accused) answer = answered_beside m k by (Post change cells accused) answer
replied_beside m k by (Fetch cell) answer = answered_beside m k by (Fetch cell) answer
replied_beside m k by (Replace cell found) answer = answered_beside m k by (Replace cell found) answer
replied_beside m k by (Clear cells who) answer = answered_beside m k by (Clear cells who) answer
replied_beside m k by (Settle change cells accused) answer = answered_beside m k by (Settle change cells accused) answer
replied_beside m k by Index answer = answered_beside m k by Index answer
replied_beside m k by Open answer = answered_beside m k by Open answer
replied_beside m k by Release answer = answered_beside m k by Release answer

-- all of it but the connections
pub record IsBesideLinks (m new : State) : Type 0 where
  pub bricks : new.bricks ≡ m.bricks
  pub adopted : new.adopted ≡ m.adopted
  pub firm : new.firm ≡ m.firm
  pub born : new.born ≡ m.born
  pub begun : new.begun ≡ m.begun
  pub ended : new.ended ≡ m.ended
  pub drawn : new.drawn ≡ m.drawn

pub but_links : (m new : State) → IsBeside m new → IsBesideLinks m new
but_links m new b = record { bricks = b.bricks; adopted = b.adopted; firm = b.firm; born = b.born; begun = b.begun; ended = b.ended; drawn = b.drawn }

pub taken_in_beside : (m : State) (k : ℕ) (o : Output) → IsBesideLinks m (taken_in m k o)
taken_in_beside m k (Answered by ask answer) = by_case (is_current (m.links k by.graph) by.connection) where
  by_case : (b : Bool) → IsBesideLinks m (if b then replied m k by ask answer else m)
  by_case true = but_links m (replied m k by ask answer) (replied_beside m k by ask answer)
  by_case false = but_links m m (beside_same m)
taken_in_beside m k Closed = record { bricks = refl; adopted = refl; firm = refl; born = refl; begun = refl; ended = refl; drawn = refl }
taken_in_beside m k Opened = but_links m m (beside_same m)
taken_in_beside m k (Connected graph) = but_links m m (beside_same m)
