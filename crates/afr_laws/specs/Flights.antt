-- The requests of a transaction that are on their way to a brick or back, on the connection that the hub has open. Ours.
use Rattle.std.specs.Prelude.{◌≡◌, ℕ, ◌==◌, Bool, true, false, ◌&&◌, ◌||◌, List, [], ◌∷◌, ◌++◌, if◌then◌else◌}
use Rattle.afr_machine.specs.Requests.{Sender, Ask, Input, Output}
use Rattle.afr_machine.specs.Requests.Ask.{Lock, Unlock, OpenFirst}
use Rattle.afr_machine.specs.Requests.Input.{Asked, Steered}
use Rattle.afr_machine.specs.Requests.Output.{Answered, Closed, Opened, Connected}
use Rattle.afr_machine.specs.Locks.{BrickLock}
use Rattle.afr_machine.specs.Bricks.{Brick, ask_of}
use Rattle.afr_machine.specs.Transactions.{Txn}
use Rattle.afr_machine.specs.States.{State, Link, is_current}
use Rattle.afr_machine.specs.Sending.{carries_fd}
use Rattle.afr_laws.specs.Numbered.{AreNumbered}
use Rattle.afr_laws.specs.Txns.{UnbegunAreOver}

-- sent by the transaction, on the connection that is open
abbrev pub is_mine : ℕ → Link → Sender → Bool
is_mine t link by = (by.txn == t) && is_current link by.connection

abbrev pub in_locks : (Sender → Bool) → List BrickLock → List Ask
in_locks mine [] = []
in_locks mine (l ∷ ls) = if mine l.by then ask_of l ∷ in_locks mine ls else in_locks mine ls

abbrev pub in_line : (Sender → Bool) → List Input → List Ask
in_line mine [] = []
in_line mine (Asked by ask ∷ is) = if mine by then ask ∷ in_line mine is else in_line mine is
in_line mine (Steered control ∷ is) = in_line mine is

abbrev pub in_outputs : (Sender → Bool) → List Output → List Ask
in_outputs mine [] = []
in_outputs mine (Answered by ask answer ∷ os) = if mine by then ask ∷ in_outputs mine os else in_outputs mine os
in_outputs mine (Closed ∷ os) = in_outputs mine os
in_outputs mine (Opened ∷ os) = in_outputs mine os
in_outputs mine (Connected graph ∷ os) = in_outputs mine os

-- those that are answered, then those that wait for a lock, then those in the input line
abbrev pub flight : (Sender → Bool) → Brick → List Ask
flight mine b = in_outputs mine b.outputs ++ (in_locks mine b.waiting ++ in_line mine b.line)

abbrev pub is_lock : Ask → Bool
is_lock (Lock shared cells) = true
is_lock other = false

abbrev pub any_lock : List Ask → Bool
any_lock [] = false
any_lock (ask ∷ asks) = is_lock ask || any_lock asks

-- What is on its way is what the transaction knows to be on its way; a request of a connection that has ended is
-- forgotten.
abbrev pub KnowsOf : (ℕ → Brick) → (ℕ → ℕ → Link) → ℕ → Txn → Type 0
KnowsOf bricks links t x = (k : ℕ) → flight (is_mine t (links k x.graph)) (bricks k) ≡ x.flying k

abbrev pub KnowsFlights : State → Type 0
KnowsFlights m = (t : ℕ) → KnowsOf m.bricks m.links t (m.txns t)

-- What may be on its way at once: nothing, one request, or an open and its request. Where the open was answered
-- otherwise than Done, the request is answered for the transaction, which is done with the brick but for its unlock.
pub data IsFlight (flying : List Ask) (waits out current : Bool) : Type 0 where
  NoFlight : flying ≡ [] → IsFlight flying waits out current
  OneFlight : (ask : Ask) → flying ≡ ask ∷ [] → waits ≡ true → current ≡ true → IsFlight flying waits out current
  OpensFirst : (ask : Ask) → flying ≡ OpenFirst ∷ ask ∷ [] → carries_fd ask ≡ true → waits ≡ true → current ≡ true → IsFlight flying waits out current
  Strayed : (ask : Ask) → flying ≡ ask ∷ [] → carries_fd ask ≡ true → out ≡ true → IsFlight flying waits out current
  StrayedThenUnlocks : (ask : Ask) → flying ≡ ask ∷ Unlock ∷ [] → carries_fd ask ≡ true → out ≡ true → waits ≡ true → current ≡ true → IsFlight flying waits out current

abbrev pub FewOf : (ℕ → ℕ → Link) → Txn → Type 0
FewOf links x = (k : ℕ) → IsFlight (x.flying k) (x.waits k) (x.out k) (is_current (links k x.graph) (x.asked_on k))

abbrev pub FlightsAreFew : State → Type 0
FlightsAreFew m = (t : ℕ) → FewOf m.links (m.txns t)

-- messages carry numbers that were given; what is on its way is known, and little
pub record AreOnTheirWay (m : State) : Type 0 where
  pub numbered : AreNumbered m
  pub unbegun : UnbegunAreOver m
  pub known : KnowsFlights m
  pub few : FlightsAreFew m
