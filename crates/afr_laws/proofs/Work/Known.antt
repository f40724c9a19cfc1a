-- The locks of a transaction are those of its work, over every list of steps.
use Rattle.std.proofs.Common.{◌≡◌, ◌∙◌, ℕ, Bool, true, false, refl, sym, ap, subst, Option, Some, None}
use Rattle.std.specs.Prelude.{if◌then◌else◌, List, [], ◌∷◌, ◌==◌}
use Rattle.fop_types.specs.declared.cells.Cell.{Cell}
use Rattle.afr_machine.specs.Replicas.{Size, with_at}
use Rattle.afr_machine.specs.Requests.{Sender, Ask, Answer, Output}
use Rattle.afr_machine.specs.Requests.Ask.{Lock}
use Rattle.afr_machine.specs.Requests.Output.{Answered, Closed, Opened, Connected}
use Rattle.afr_machine.specs.Changes.{Change}
use Rattle.afr_machine.specs.Transactions.{Stage, Txn}
use Rattle.afr_machine.specs.Transactions.Stage.{Locking, Marking}
use Rattle.afr_machine.specs.States.{State, is_current}
use Rattle.afr_machine.specs.Births.{cells_of_work}
use Rattle.afr_machine.specs.Sending.{asking}
use Rattle.afr_machine.specs.Answering.{is_single, passed, missing, awaits, forgetting, replied, taken_in, without_first_output}
use Rattle.afr_machine.specs.Steps.{Step, Allowed, after, IsReached, take_in_front, unsettling, decided, decided_by}
use Rattle.afr_laws.specs.Senders.{EachOutput}
use Rattle.afr_laws.specs.Numbered.{IsNumbered}
use Rattle.afr_laws.specs.Flights.{AreOnTheirWay}
use Rattle.afr_laws.specs.Waiting.{Fits, LastFits, EachWaitsFit}
use Rattle.afr_laws.specs.Fresh.{EachKnowsPhase}
use Rattle.afr_laws.specs.Work.{shares_of, AreCellsOf, changes_in, KnowsWork, EachKnowsWork}
use Rattle.afr_laws.proofs.Bools.{both_left, both_right}
use Rattle.afr_laws.proofs.Carry.{at_case}
use Rattle.afr_laws.proofs.Heard.{replied_txns}
use Rattle.afr_laws.proofs.Stages.{StageGoes}
use Rattle.afr_laws.proofs.Goes.{decided_txns}
use Rattle.afr_laws.proofs.Flying.{on_their_way}
use Rattle.afr_laws.proofs.Waiting.{waits_fit}
use Rattle.afr_laws.proofs.Grants.{grants_are_held}
use Rattle.afr_laws.proofs.Drawn.{changes_are_drawn}
use Rattle.afr_laws.proofs.FlightHands.{first_flies, single_tail}
use Rattle.afr_laws.proofs.OwnChanges.Replies.{replied_table}
use Rattle.afr_laws.proofs.Newest.Stays.{decided_stays}
use Rattle.afr_laws.proofs.Fresh.Known.{phases_are_known}
use Rattle.afr_laws.proofs.Work.Same.{work_goes, work_carry}
use Rattle.afr_laws.proofs.Work.Replies.{passed_run, passed_shared, goes_changes, heard_work}
use Rattle.afr_laws.proofs.Work.Turns.{turned_work}

-- a lock whose answer is awaited is that which the lock phase asks
pub lock_asked : (size : Size) (m : State) → AreOnTheirWay m → EachWaitsFit size m → (k : ℕ) (by : Sender) (ask : Ask) (answer : Answer) (rest : List Output) → (m.bricks k).outputs ≡ Answered by ask answer ∷ rest → is_current (m.links k by.graph) by.connection ≡ true →
    awaits (m.txns by.txn) k ≡ true → (shared : Bool) (cells : List Cell) → ask ≡ Lock shared cells → (m.txns by.txn).stage ≡ Locking cells shared k
lock_asked size m way fit k by ask answer rest front connected waits shared cells is =
    let graph = (subst (EachOutput (IsNumbered m k)) front (way.numbered k).outputs).0.graph in
    let flies = first_flies m k by ask answer rest front graph way.known way.few connected in
    let single = single_tail ((m.txns by.txn).flying k) ask _ flies (both_right ((m.txns by.txn).waits k) (is_single ((m.txns by.txn).flying k)) waits) in
    let last : LastFits (ask ∷ []) (m.txns by.txn).stage k = subst (λ f. LastFits f (m.txns by.txn).stage k) (flies ∙ ap (λ z. ask ∷ z) single) (fit by.txn k (both_left ((m.txns by.txn).waits k) (is_single ((m.txns by.txn).flying k)) waits)).last in
    subst (λ q. Fits q (m.txns by.txn).stage k) is last

module _ (size : Size) (m : State) (a : EachKnowsWork m) where
  -- changes keep their cells
  carried : (new : State) → ((u : ℕ) → (new.changes u).cells ≡ (m.changes u).cells) → ((i : ℕ) → KnowsWork m.changes (new.txns i)) → EachKnowsWork new
  carried new cells known i = work_carry m.changes new.changes (new.txns i) (λ u is. cells u) (known i)

  one_work : (t : ℕ) (y : Txn) → KnowsWork m.changes y → (i : ℕ) → KnowsWork m.changes (with_at m.txns t y i)
  one_work t y n i = at_case (λ j z. KnowsWork m.changes z) m.txns t y n i (λ ne. a i)

  -- ---- what is handed in

  forgotten_work : (ends : ℕ → Bool) (k i : ℕ) → KnowsWork m.changes (forgetting ends k (m.txns i))
  forgotten_work ends k i = by_case (ends (m.txns i).graph) where
    n : KnowsWork m.changes (m.txns i)
    n = a i

    by_case : (b : Bool) → KnowsWork m.changes (if b then record (m.txns i) { flying = with_at (m.txns i).flying k [] } else m.txns i)
    by_case true = record { asks = n.asks; copies = n.copies; exclusive = n.exclusive; grants = n.grants }
    by_case false = n

  replied_work : (k : ℕ) (by : Sender) (ask : Ask) (answer : Answer) (rest : List Output) → (m.bricks k).outputs ≡ Answered by ask answer ∷ rest → is_current (m.links k by.graph) by.connection ≡ true → AreOnTheirWay m → EachWaitsFit size m → EachKnowsPhase m →
      EachKnowsWork (replied (without_first_output m k) k by ask answer)
  replied_work k by ask answer rest front connected way fit phases =
      let p = replied_txns (without_first_output m k) k by ask answer in
      carried (replied (without_first_output m k) k by ask answer) (λ u. (replied_table (without_first_output m k) k by ask answer u).cells)
      (λ i. subst (λ (f : ℕ → Txn). KnowsWork m.changes (f i)) (sym p.is)
      (one_work by.txn p.after (heard_work m.changes (m.txns by.txn) (a by.txn) (phases by.txn).asks k by.connection ask answer (lock_asked size m way fit k by ask answer rest front connected) p.after p.heard) i))

  taken_work : (k : ℕ) (o : Output) (rest : List Output) → (m.bricks k).outputs ≡ o ∷ rest → AreOnTheirWay m → EachWaitsFit size m → EachKnowsPhase m → EachKnowsWork (taken_in (without_first_output m k) k o)
  taken_work k (Answered by ask answer) rest front way fit phases = by_case (is_current (m.links k by.graph) by.connection) refl where
    by_case : (b : Bool) → is_current (m.links k by.graph) by.connection ≡ b → EachKnowsWork (if b then replied (without_first_output m k) k by ask answer else without_first_output m k)
    by_case true connected = replied_work k by ask answer rest front connected way fit phases
    by_case false connected = a
  taken_work k Closed rest front way fit phases = forgotten_work (λ g. true) k
  taken_work k Opened rest front way fit phases = a
  taken_work k (Connected graph) rest front way fit phases = a

  front_work : (k : ℕ) (os : List Output) → (m.bricks k).outputs ≡ os → AreOnTheirWay m → EachWaitsFit size m → EachKnowsPhase m → EachKnowsWork (take_in_front (without_first_output m k) k os)
  front_work k [] is way fit phases = a
  front_work k (o ∷ os) is way fit phases = taken_work k o os is way fit phases

  -- ---- other steps

  bailed_work : (t k : ℕ) → KnowsWork m.changes (missing (record (m.txns t) { waits = with_at (m.txns t).waits k false }) k)
  bailed_work t k =
      let n = a t in
      work_goes m.changes (m.txns t) (missing (record (m.txns t) { waits = with_at (m.txns t).waits k false }) k) refl refl (passed_shared (m.txns t).stage (shares_of (m.txns t).job (m.txns t).work) n.asks)
      (passed_run (AreCellsOf (cells_of_work m.changes (m.txns t) (m.txns t).work)) (m.txns t).stage n.copies) (λ c. n.exclusive (goes_changes (m.txns t).stage (passed (m.txns t).stage) (StageGoes.PassesOn refl) c)) n.grants

  verdict_cells : (v : ℕ) (c : Change) → c.cells ≡ (m.changes v).cells → (u : ℕ) → (with_at m.changes v c u).cells ≡ (m.changes u).cells
  verdict_cells v c cells u = at_case (λ n (d : Change). d.cells ≡ (m.changes n).cells) m.changes v c cells u (λ ne. refl)

  unsettled_work : (t : ℕ) (stage : Stage) → (m.txns t).stage ≡ stage → EachKnowsWork (unsettling m t stage)
  unsettled_work t (Marking u) is = carried (unsettling m t (Marking u)) (verdict_cells u _ refl) (one_work t _ (work_goes m.changes (m.txns t) _ refl refl tt tt (λ c. (a t).exclusive (ap changes_in is)) (a t).grants))
  unsettled_work t other is = a

  decided_work : (o : Option (ℕ × Bool)) → EachKnowsWork (decided m o)
  decided_work o = carried (decided m o) (decided_stays m o).cells (λ i. subst (λ (f : ℕ → Txn). KnowsWork m.changes (f i)) (sym (decided_txns m o)) (a i))

  asked_work : (t k : ℕ) (first : Bool) (ask : Ask) (i : ℕ) → KnowsWork m.changes (with_at m.txns t (asking (m.txns t) k (m.links k (m.txns t).graph).last first ask) i)
  asked_work t k first ask = one_work t _ (let n = a t in record { asks = n.asks; copies = n.copies; exclusive = n.exclusive; grants = n.grants })

  missed_work : (t k : ℕ) (i : ℕ) → KnowsWork m.changes (with_at m.txns t (record (m.txns t) { left = with_at (m.txns t).left k false; out = with_at (m.txns t).out k true }) i)
  missed_work t k = one_work t _ (let n = a t in record { asks = n.asks; copies = n.copies; exclusive = n.exclusive; grants = n.grants })

step_work : (size : Size) (m : State) (step : Step) → Allowed size m step → IsReached size m → EachKnowsWork m → EachKnowsWork (after size m step)
step_work size m (Step.Turns t turn) h r a = turned_work size m a t (grants_are_held size m r) (changes_are_drawn size m r) (phases_are_known size m r) turn h
step_work size m (Step.Asks t k first asked) h r a = asked_work size m a t k first asked
step_work size m (Step.HandsIn k) h r a = front_work size m a k (m.bricks k).outputs refl (on_their_way size m r) (waits_fit size m r) (phases_are_known size m r)
step_work size m (Step.Bails t k) h r a = one_work size m a t _ (bailed_work size m a t k)
step_work size m (Step.Misses t k) h r a = missed_work size m a t k
step_work size m (Step.Cuts k g) h r a = forgotten_work size m a (λ other. other == g) k
step_work size m (Step.Unsettles t) h r a = unsettled_work size m a t (m.txns t).stage refl
step_work size m (Step.Decides t) h r a = decided_work size m a (decided_by (m.txns t).stage)
step_work size m other h r a = a

pub works_are_known : (size : Size) (m : State) → IsReached size m → EachKnowsWork m
works_are_known size m IsReached.Start = λ t. record { asks = tt; copies = tt; exclusive = λ c. absurd cc; grants = λ k grant is. absurd (let no : None ≡ Some grant = is in cc) }
works_are_known size m (IsReached.Further old step reached allowed) = step_work size old step allowed reached (works_are_known size old reached)
