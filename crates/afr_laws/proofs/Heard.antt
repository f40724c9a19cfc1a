-- What a reply makes of its transaction's flights.
use Rattle.std.proofs.Common.{◌≡◌, ◌∙◌, ℕ, Bool, true, false, refl, sym, ap}
use Rattle.std.specs.Prelude.{if◌then◌else◌, List}
use Rattle.fop_types.specs.declared.cells.Cell.{Cell}
use Rattle.afr_machine.specs.Replicas.{with_at}
use Rattle.afr_machine.specs.Copies.{Fetched}
use Rattle.afr_machine.specs.Requests.{Sender, Ask, Answer}
use Rattle.afr_machine.specs.Requests.Ask.{Lock, Unlock, Mark, Op, Post, Fetch, Replace, Clear, Settle, Index, Open, Release, OpenFirst}
use Rattle.afr_machine.specs.Requests.Answer.{Rows, Content}
use Rattle.afr_machine.specs.Transactions.{Stage, Txn}
use Rattle.afr_machine.specs.Transactions.Stage.{Over, Applying, Copying}
use Rattle.afr_machine.specs.States.{State, with_txn}
use Rattle.afr_machine.specs.Answering.{is_wanted, is_done, passed, missing, granting, having, fetching, replacing, taking, hearing, applied_by, cleared_for, noting, noted, awaits, landed, at_rest, answered, opening, replied}
use Rattle.afr_machine.proofs.Tables.{at_each}
use Rattle.afr_laws.specs.Txns.{SameFlights}
use Rattle.afr_laws.proofs.Txns.{same_flights}

-- ---- the transaction

module _ (x : Txn) (k connection : ℕ) where
  missing_flights : SameFlights x (missing x k)
  missing_flights = record { graph = refl; flying = refl; waits = refl; asked_on = refl; out = λ j h. at_each (λ i b. x.out i ≡ true → b ≡ true) x.out k true (λ o. refl) j (λ o. o) h; over = λ o. ap passed o }

  granting_flights : (shared : Bool) (cells : List Cell) (answer : Answer) → SameFlights x (granting x k connection shared cells answer)
  granting_flights shared cells (Rows rows) = record { graph = refl; flying = refl; waits = refl; asked_on = refl; out = λ j h. h; over = λ o. ap passed o }
  granting_flights shared cells other = same_flights x

  fetching_flights : (stage : Stage) (cell : Cell) (found : Fetched) → x.stage ≡ stage → SameFlights x (fetching x stage cell found)
  fetching_flights (Copying run) cell found is = record { graph = refl; flying = refl; waits = refl; asked_on = refl; out = λ j h. h; over = λ o. absurd (let e : Over ≡ Copying run = sym o ∙ is in cc) }
  fetching_flights other cell found is = record { graph = refl; flying = refl; waits = refl; asked_on = refl; out = λ j h. h; over = λ o. o }

  having_flights : (cell : Cell) (answer : Answer) → SameFlights x (having x cell answer)
  having_flights cell (Content found) = fetching_flights x.stage cell found refl
  having_flights cell other = same_flights x

  replacing_flights : (stage : Stage) (cell : Cell) → x.stage ≡ stage → SameFlights x (replacing x stage k cell)
  replacing_flights (Copying run) cell is = record { graph = refl; flying = refl; waits = refl; asked_on = refl; out = λ j h. h; over = λ o. absurd (let e : Over ≡ Copying run = sym o ∙ is in cc) }
  replacing_flights other cell is = same_flights x

  taking_flights : (ask : Ask) (answer : Answer) → SameFlights x (taking x k connection ask answer)
  taking_flights (Lock shared cells) answer = granting_flights shared cells answer
  taking_flights (Fetch cell) answer = having_flights cell answer
  taking_flights (Replace cell found) answer = replacing_flights x.stage cell refl
  taking_flights other answer = record { graph = refl; flying = refl; waits = refl; asked_on = refl; out = λ j h. h; over = λ o. o }

  pub hearing_flights : (ask : Ask) (answer : Answer) → SameFlights x (hearing x k connection ask answer)
  hearing_flights ask answer = by_case (is_wanted ask answer) where
    by_case : (b : Bool) → SameFlights x (if b then taking x k connection ask answer else missing x k)
    by_case true = taking_flights ask answer
    by_case false = missing_flights

-- ---- the state

applied_txns : (m : State) (stage : Stage) (k : ℕ) → (applied_by m stage k).txns ≡ m.txns
applied_txns m (Applying u) k = refl
applied_txns m other k = refl

cleared_txns : (m : State) (x : Txn) (stage : Stage) (k : ℕ) → (cleared_for m x stage k).txns ≡ m.txns
cleared_txns m x (Copying run) k = refl
cleared_txns m x other k = refl

noting_txns : (m : State) (x : Txn) (k : ℕ) (ask : Ask) → (noting m x k ask).txns ≡ m.txns
noting_txns m x k (Op change op) = applied_txns m x.stage k
noting_txns m x k (Clear cells who) = cleared_txns m x x.stage k
noting_txns m x k other = refl

noted_txns : (m : State) (x : Txn) (k : ℕ) (ask : Ask) (answer : Answer) → (noted m x k ask answer).txns ≡ m.txns
noted_txns m x k ask answer = by_case (is_wanted ask answer) where
  by_case : (b : Bool) → (if b then noting m x k ask else m).txns ≡ m.txns
  by_case true = noting_txns m x k ask
  by_case false = refl

abbrev pub is_open_first : Ask → Bool
is_open_first OpenFirst = true
is_open_first other = false

-- the answer that the transaction waited for, or one for which it does not wait, or that of an open before a request
pub data Heard (x new : Txn) (k connection : ℕ) (ask : Ask) (answer : Answer) : Type 0 where
  Took : is_open_first ask ≡ false → awaits x k ≡ true → SameFlights (at_rest x k) new → new ≡ hearing (at_rest x k) k connection ask answer → Heard x new k connection ask answer
  Passed : is_open_first ask ≡ false → awaits x k ≡ false → new ≡ landed x k → Heard x new k connection ask answer
  OpenDone : ask ≡ OpenFirst → new ≡ landed x k → Heard x new k connection ask answer
  OpenMissed : ask ≡ OpenFirst → new ≡ record (landed x k) { waits = with_at x.waits k false; out = with_at x.out k true } → Heard x new k connection ask answer

pub record IsReplied (m new : State) (k : ℕ) (by : Sender) (ask : Ask) (answer : Answer) : Type 0 where
  pub after : Txn
  pub is : new.txns ≡ with_at m.txns by.txn after
  pub heard : Heard (m.txns by.txn) after k by.connection ask answer

module _ (m : State) (k : ℕ) (by : Sender) where
  answered_txns : (ask : Ask) (answer : Answer) → is_open_first ask ≡ false → IsReplied m (answered m k by ask answer) k by ask answer
  answered_txns ask answer plain = by_case (awaits (m.txns by.txn) k) refl where
    x : Txn
    x = m.txns by.txn

    y : Txn
    y = hearing (at_rest (m.txns by.txn) k) k by.connection ask answer

    by_case : (b : Bool) → awaits (m.txns by.txn) k ≡ b → IsReplied m (if b then with_txn (noted m (m.txns by.txn) k ask answer) by.txn (hearing (at_rest (m.txns by.txn) k) k by.connection ask answer) else with_txn m by.txn (landed (m.txns by.txn) k)) k by ask answer
    by_case true waits = record {
      after = y;
      is = ap (λ (f : ℕ → Txn). with_at f by.txn y) (noted_txns m x k ask answer);
      heard = Heard.Took plain waits (hearing_flights (at_rest x k) k by.connection ask answer) refl;
    }
    by_case false passes = record { after = landed x k; is = refl; heard = Heard.Passed plain passes refl }

  opened_txns : (done : Bool) (answer : Answer) → Heard (m.txns by.txn) (opening (m.txns by.txn) k done) k by.connection OpenFirst answer
  opened_txns true answer = Heard.OpenDone refl refl
  opened_txns false answer = Heard.OpenMissed refl refl

  pub replied_txns : (ask : Ask) (answer : Answer) → IsReplied m (replied m k by ask answer) k by ask answer
  replied_txns OpenFirst answer = record { after = opening (m.txns by.txn) k (is_done answer); is = refl; heard = opened_txns (is_done answer) answer }
  replied_txns (Lock shared cells) answer = answered_txns (Lock shared cells) answer refl
  replied_txns Unlock answer = answered_txns Unlock answer refl
  replied_txns (Mark change cells) answer = answered_txns (Mark change cells) answer refl
  replied_txns (Op change op) answer = answered_txns (Op change op) answer refl
  replied_txns (Post change cells accused) answer = answered_txns (Post change cells accused) answer refl
  replied_txns (Fetch cell) answer = answered_txns (Fetch cell) answer refl
  replied_txns (Replace cell found) answer = answered_txns (Replace cell found) answer refl
  replied_txns (Clear cells who) answer = answered_txns (Clear cells who) answer refl
  replied_txns (Settle change cells accused) answer = answered_txns (Settle change cells accused) answer refl
  replied_txns Index answer = answered_txns Index answer refl
  replied_txns Open answer = answered_txns Open answer refl
  replied_txns Release answer = answered_txns Release answer refl
