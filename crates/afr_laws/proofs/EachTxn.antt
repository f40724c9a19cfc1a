-- What holds of each transaction by itself stays so where a step changes one transaction, or forgets what is on its way.
use Rattle.std.proofs.Common.{ℕ, Bool, true, false, sym, subst}
use Rattle.std.specs.Prelude.{if◌then◌else◌, List, [], ◌∷◌}
use Rattle.afr_machine.specs.Replicas.{with_at}
use Rattle.afr_machine.specs.Requests.{Sender, Ask, Answer, Output}
use Rattle.afr_machine.specs.Requests.Output.{Answered, Closed, Opened, Connected}
use Rattle.afr_machine.specs.Transactions.{Txn}
use Rattle.afr_machine.specs.States.{State, is_current}
use Rattle.afr_machine.specs.Answering.{forgetting, replied, taken_in, without_first_output}
use Rattle.afr_machine.specs.Steps.{take_in_front}
use Rattle.afr_laws.proofs.Carry.{at_case}
use Rattle.afr_laws.proofs.Heard.{Heard, replied_txns}

abbrev pub Stays : State → (ℕ → Txn → Type 0) → Type 0
Stays m holds = (i : ℕ) → holds i (m.txns i)

-- what is on its way to a brick is forgotten
abbrev pub StaysForgotten : State → (ℕ → Txn → Type 0) → Type 0
StaysForgotten m holds = (i k : ℕ) → holds i (record (m.txns i) { flying = with_at (m.txns i).flying k [] })

abbrev pub StaysHeard : State → (ℕ → Txn → Type 0) → Type 0
StaysHeard m holds = (t : ℕ) (y : Txn) (k connection : ℕ) (ask : Ask) (answer : Answer) → Heard (m.txns t) y k connection ask answer → holds t y

module _ (m : State) (holds : ℕ → Txn → Type 0) (stays : Stays m holds) where
  pub only : (t : ℕ) (y : Txn) → holds t y → (i : ℕ) → holds i (with_at m.txns t y i)
  only t y h i = at_case (λ j (z : Txn). holds j z) m.txns t y h i (λ ne. stays i)

module _ (m : State) (holds : ℕ → Txn → Type 0) (stays : Stays m holds) (forgets : StaysForgotten m holds) where
  pub forgotten : (ends : ℕ → Bool) (k i : ℕ) → holds i (forgetting ends k (m.txns i))
  forgotten ends k i = by_case (ends (m.txns i).graph) where
    by_case : (b : Bool) → holds i (if b then record (m.txns i) { flying = with_at (m.txns i).flying k [] } else m.txns i)
    by_case true = forgets i k
    by_case false = stays i

module _ (m : State) (holds : ℕ → Txn → Type 0) (stays : Stays m holds) (forgets : StaysForgotten m holds) (hears : StaysHeard m holds) where
  replied_one : (k : ℕ) (by : Sender) (ask : Ask) (answer : Answer) (i : ℕ) → holds i ((replied (without_first_output m k) k by ask answer).txns i)
  replied_one k by ask answer i =
      let p = replied_txns (without_first_output m k) k by ask answer in
      subst (λ (f : ℕ → Txn). holds i (f i)) (sym p.is) (only m holds stays by.txn p.after (hears by.txn p.after k by.connection ask answer p.heard) i)

  taken_one : (k : ℕ) (o : Output) (i : ℕ) → holds i ((taken_in (without_first_output m k) k o).txns i)
  taken_one k (Answered by ask answer) i = by_case (is_current (m.links k by.graph) by.connection) where
    by_case : (b : Bool) → holds i ((if b then replied (without_first_output m k) k by ask answer else without_first_output m k).txns i)
    by_case true = replied_one k by ask answer i
    by_case false = stays i
  taken_one k Closed i = forgotten m holds stays forgets (λ g. true) k i
  taken_one k Opened i = stays i
  taken_one k (Connected graph) i = stays i

  pub front_one : (k : ℕ) (os : List Output) (i : ℕ) → holds i ((take_in_front (without_first_output m k) k os).txns i)
  front_one k [] i = stays i
  front_one k (o ∷ os) i = taken_one k o i
