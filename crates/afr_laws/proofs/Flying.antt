-- Requests on their way, over every list of steps.
use Rattle.std.proofs.Common.{◌≡◌, ◌∙◌, ℕ, ◌+◌, ◌≤◌, ◌<◌, Bool, true, false, refl, sym, ap, subst, ◌⊎◌, inl, inr, arith}
use Rattle.std.specs.Prelude.{if◌then◌else◌, List, [], ◌∷◌, ◌==◌}
use Rattle.std.proofs.lemmas.Bool.{cases_lt}
use Rattle.fop_types.specs.declared.jobs.Job.{Job}
use Rattle.afr_machine.specs.Replicas.{Size, with_at}
use Rattle.afr_machine.specs.Requests.{Sender, Ask, Answer, Control, Input, Output}
use Rattle.afr_machine.specs.Requests.Input.{Steered}
use Rattle.afr_machine.specs.Requests.Answer.{Gone}
use Rattle.afr_machine.specs.Requests.Output.{Answered, Closed, Opened, Connected}
use Rattle.afr_machine.specs.Bricks.{Brick, less_late, popped, without_front}
use Rattle.afr_machine.specs.Transactions.{Stage, Txn, new_txn}
use Rattle.afr_machine.specs.Transactions.Stage.{Over, Marking}
use Rattle.afr_machine.specs.States.{State, Link, start, is_current, with_brick, with_inputs, with_link}
use Rattle.afr_machine.specs.Sending.{asks_of, inputs_of, sender_of}
use Rattle.afr_machine.specs.Answering.{without_first_output, replied, taken_in, without_links}
use Rattle.afr_machine.specs.Turns.{Turn, after_turn}
use Rattle.afr_machine.specs.Steps.{Step, HasRequest, HasControl, MayRefuse, Allowed, after, IsReached, served_front, refused_front, given_up_front, steered_front, take_in_front, unsettling, decided, decided_by}
use Rattle.afr_machine.specs.Moves.{IsTaken}
use Rattle.afr_machine.proofs.BrickMoves.{bricks_move, turn_bricks, decided_bricks}
use Rattle.afr_laws.specs.Senders.{EachInput, EachOutput}
use Rattle.afr_laws.specs.Numbered.{IsNumbered, AreNumbered, Further}
use Rattle.afr_laws.specs.Txns.{SameFlights, UnbegunAreOver}
use Rattle.afr_laws.specs.Flights.{is_mine, in_outputs, flight, KnowsOf, KnowsFlights, FewOf, FlightsAreFew, AreOnTheirWay}
use Rattle.afr_laws.specs.Flights.IsFlight.{NoFlight}
use Rattle.afr_laws.proofs.Senders.{moves_each}
use Rattle.afr_laws.proofs.FlightMoves.{IsAlone, serving_flies, answered_flies, steering_flies}
use Rattle.afr_laws.proofs.Carry.{at_case, few_carry, knows_carry, flight_alone, each_map}
use Rattle.afr_laws.proofs.FlightAsks.{AskNeeds, ask_needs, asked_knows, asked_few}
use Rattle.afr_laws.proofs.FlightHands.{notice_first, replied_knows, replied_few, late_knows}
use Rattle.afr_laws.proofs.FlightLinks.{controlled_knows, unlinked_knows, unlinked_few, linked_knows, linked_few, begun_knows, bailed_few}
use Rattle.afr_laws.proofs.Txns.{turn_flights}
use Rattle.afr_laws.proofs.Goes.{begins, step_goes, step_last, step_begun, turn_links, decided_txns, decided_links}

-- what is known and what is little, together
pub record Flies (m : State) : Type 0 where
  pub known : KnowsFlights m
  pub few : FlightsAreFew m

-- ---- a brick works at the front of its line

module _ (m : State) (f : Flies m) (k : ℕ) where
  alone_at : (t : ℕ) → IsAlone (flight (is_mine t (m.links k (m.txns t).graph)) (m.bricks k))
  alone_at t = subst IsAlone (sym (f.known t k)) (flight_alone ((m.txns t).flying k) ((m.txns t).waits k) ((m.txns t).out k) (is_current (m.links k (m.txns t).graph) ((m.txns t).asked_on k)) (f.few t k))

  works : (x : Brick) → ((mine : Sender → Bool) → IsAlone (flight mine (m.bricks k)) → flight mine x ≡ flight mine (m.bricks k)) → Flies (with_brick m k x)
  works x same = record {
    known = λ t j. at_case (λ n b. flight (is_mine t (m.links n (m.txns t).graph)) b ≡ (m.txns t).flying n) m.bricks k x (same (is_mine t (m.links k (m.txns t).graph)) (alone_at t) ∙ f.known t k) j (λ ne. f.known t j);
    few = f.few;
  }

  serves_flies : HasRequest (m.bricks k) true → Flies (with_brick m k (served_front (m.bricks k).line (popped (m.bricks k))))
  serves_flies h = let b = m.bricks k in
      works _ (λ mine alone. serving_flies mine b _ alone h.by h.asked h.rest h.front (ap (λ (l : List Input). served_front l (record b { line = without_front l })) h.front))

  refuses_flies : (answer : Answer) → MayRefuse (m.bricks k) answer → Flies (with_brick m k (refused_front (m.bricks k).line answer (popped (m.bricks k))))
  refuses_flies answer h = let b = m.bricks k in
      works _ (λ mine alone. answered_flies mine b _ alone h.request.by h.request.asked answer (less_late b.power) h.request.rest h.request.front (ap (λ (l : List Input). refused_front l answer (record b { line = without_front l })) h.request.front))

  gives_up_flies : HasRequest (m.bricks k) false → Flies (with_brick m k (given_up_front (m.bricks k).line (popped (m.bricks k))))
  gives_up_flies h = let b = m.bricks k in
      works _ (λ mine alone. answered_flies mine b _ alone h.by h.asked Gone b.power h.rest h.front (ap (λ (l : List Input). given_up_front l (record b { line = without_front l })) h.front))

  steers_flies : HasControl (m.bricks k) → Flies (with_brick m k (steered_front (m.bricks k).line (popped (m.bricks k))))
  steers_flies h = let b = m.bricks k in
      works _ (λ mine alone. steering_flies mine b _ alone h.steering h.rest h.front (ap (λ (l : List Input). steered_front l (record b { line = without_front l })) h.front))

  controls_flies : (control : Control) → Flies (with_inputs m k (Steered control ∷ []))
  controls_flies control = record { known = controlled_knows m k control f.known; few = f.few }

  unlinks_flies : (ends : ℕ → Bool) → Flies (without_links m k ends)
  unlinks_flies ends = record { known = unlinked_knows m k ends f.known f.few; few = unlinked_few m k ends f.known f.few }

-- ---- transactions alone

module _ (m : State) (f : Flies m) where
  -- the bricks and connections are the same, and each transaction has its flights
  carries : (new : State) → new.bricks ≡ m.bricks → new.links ≡ m.links → ((i : ℕ) → SameFlights (m.txns i) (new.txns i)) → Flies new
  carries new bricks links same = record {
    known = λ i. subst (λ (b : ℕ → Brick). KnowsOf b new.links i (new.txns i)) (sym bricks) (subst (λ (l : ℕ → ℕ → Link). KnowsOf m.bricks l i (new.txns i)) (sym links) (knows_carry m.links (m.txns i) (new.txns i) (same i) m.bricks i (f.known i)));
    few = λ i. subst (λ (l : ℕ → ℕ → Link). FewOf l (new.txns i)) (sym links) (few_carry m.links (m.txns i) (new.txns i) (same i) (f.few i));
  }

  same_txns : (new : State) → new.txns ≡ m.txns → (i : ℕ) → SameFlights (m.txns i) (new.txns i)
  same_txns new e i = subst (λ (y : Txn). SameFlights (m.txns i) y) (sym (ap (λ (g : ℕ → Txn). g i) e)) (record { graph = refl; flying = refl; waits = refl; asked_on = refl; out = λ k h. h; over = λ o. o })

  begins_flies : (t graph : ℕ) (own : Job) → t ≡ m.begun + 1 → AreNumbered m → (size : Size) → Flies (after_turn size m t (Turn.Begins graph own))
  begins_flies t graph own is numbered size = record {
    known = λ i. at_case (λ n y. KnowsOf m.bricks m.links n y) m.txns t (new_txn graph own) (begun_knows m t graph own is numbered) i (λ ne. f.known i);
    few = λ i. at_case (λ n y. FewOf m.links y) m.txns t (new_txn graph own) (λ k. NoFlight refl) i (λ ne. f.few i);
  }

  bails_flies : (t k : ℕ) → is_current (m.links k (m.txns t).graph) ((m.txns t).asked_on k) ≡ false → (size : Size) → Flies (after size m (Step.Bails t k))
  bails_flies t k over size = record {
    known = λ i. at_case (λ n y. KnowsOf m.bricks m.links n y) m.txns t _ (λ j. f.known t j) i (λ ne. f.known i);
    few = λ i. at_case (λ n y. FewOf m.links y) m.txns t _ (bailed_few m t k over (f.few t)) i (λ ne. f.few i);
  }

  missed_out : (t k j : ℕ) → (m.txns t).out j ≡ true → with_at (m.txns t).out k true j ≡ true
  missed_out t k j h = at_case (λ i b. (m.txns t).out i ≡ true → b ≡ true) (m.txns t).out k true (λ o. refl) j (λ ne o. o) h

  misses_flies : (t k : ℕ) (size : Size) → Flies (after size m (Step.Misses t k))
  misses_flies t k size = carries (after size m (Step.Misses t k)) refl refl (λ i. at_case (λ n y. SameFlights (m.txns n) y) m.txns t _ (record { graph = refl; flying = refl; waits = refl; asked_on = refl; out = missed_out t k; over = λ o. o }) i (λ ne. record { graph = refl; flying = refl; waits = refl; asked_on = refl; out = λ j h. h; over = λ o. o }))

  unsettles_flies : (t : ℕ) (stage : Stage) → (m.txns t).stage ≡ stage → Flies (unsettling m t stage)
  unsettles_flies t (Marking u) is = carries (unsettling m t (Marking u)) refl refl (λ i. at_case (λ n y. SameFlights (m.txns n) y) m.txns t _ (record { graph = refl; flying = refl; waits = refl; asked_on = refl; out = λ j h. h; over = λ o. absurd (let e : Over ≡ Marking u = sym o ∙ is in cc) }) i (λ ne. record { graph = refl; flying = refl; waits = refl; asked_on = refl; out = λ j h. h; over = λ o. o }))
  unsettles_flies t other is = f

-- ---- what is handed in

module _ (m : State) (numbered : AreNumbered m) (f : Flies m) (k : ℕ) where
  notice_flies : (o : Output) (rest : List Output) → (m.bricks k).outputs ≡ o ∷ rest → ((mine : Sender → Bool) → in_outputs mine (o ∷ rest) ≡ in_outputs mine rest) → Flies (without_first_output m k)
  notice_flies o rest front none = record {
    known = λ t j. at_case (λ n b. flight (is_mine t (m.links n (m.txns t).graph)) b ≡ (m.txns t).flying n) m.bricks k _
        (sym (notice_first (is_mine t (m.links k (m.txns t).graph)) (m.bricks k) o rest front (none (is_mine t (m.links k (m.txns t).graph)))) ∙ f.known t k) j (λ ne. f.known t j);
    few = f.few;
  }

  front_numbered : (by : Sender) (ask : Ask) (answer : Answer) (rest : List Output) → (m.bricks k).outputs ≡ Answered by ask answer ∷ rest → IsNumbered m k by ask
  front_numbered by ask answer rest front = (subst (EachOutput (IsNumbered m k)) front (numbered k).outputs).0

  hands_flies : (o : Output) (rest : List Output) → (m.bricks k).outputs ≡ o ∷ rest → Flies (taken_in (without_first_output m k) k o)
  hands_flies (Answered by ask answer) rest front = by_case (is_current (m.links k by.graph) by.connection) refl where
    graph : by.graph ≡ (m.txns by.txn).graph
    graph = (front_numbered by ask answer rest front).graph

    by_case : (b : Bool) → is_current (m.links k by.graph) by.connection ≡ b → Flies (if b then replied (without_first_output m k) k by ask answer else without_first_output m k)
    by_case true connected = record {
      known = replied_knows m k by ask answer rest front graph f.known f.few connected;
      few = replied_few m k by ask answer rest front graph f.known f.few connected;
    }
    by_case false late = record { known = late_knows m k by ask answer rest front graph f.known f.few late; few = f.few }
  hands_flies Closed rest front = unlinks_flies (without_first_output m k) (notice_flies Closed rest front (λ mine. refl)) k (λ g. true)
  hands_flies Opened rest front = notice_flies Opened rest front (λ mine. refl)
  hands_flies (Connected graph) rest front = notice_flies (Connected graph) rest front (λ mine. refl)

-- ---- each step

pub step_flies : (size : Size) (m : State) (step : Step) → AreNumbered m → Allowed size m step → Flies m → Flies (after size m step)
step_flies size m (Step.Turns t (Turn.Begins graph own)) numbered h f = begins_flies m f t graph own h.0 numbered size
step_flies size m (Step.Turns t turn) numbered h f = carries m f (after_turn size m t turn) (turn_bricks size m t turn) (turn_links m size t turn) (turn_flights size m t turn h refl)
step_flies size m (Step.Asks t k first asked) numbered h f = let needs = ask_needs size m t k asked h.0 in
    record { known = asked_knows size m t k first asked needs f.known; few = asked_few size m t k first asked needs h.1 f.few }
step_flies size m (Step.Controls k steering) numbered h f = controls_flies m f k steering
step_flies size m (Step.Serves k) numbered h f = serves_flies m f k h
step_flies size m (Step.Refuses k answer) numbered h f = refuses_flies m f k answer h
step_flies size m (Step.GivesUp k) numbered h f = gives_up_flies m f k h
step_flies size m (Step.Steers k) numbered h f = steers_flies m f k h
step_flies size m (Step.HandsIn k) numbered h f = subst (λ (os : List Output). Flies (take_in_front (without_first_output m k) k os)) (sym h.front) (hands_flies m numbered f k h.first h.rest h.front)
step_flies size m (Step.Bails t k) numbered h f = bails_flies m f t k h.ended size
step_flies size m (Step.Misses t k) numbered h f = misses_flies m f t k size
step_flies size m (Step.Connects k g) numbered h f =
    controls_flies (with_link m k g (record { last = (m.links k g).last + 1; is_open = true })) (record { known = linked_knows m k g h.1 numbered f.known f.few; few = linked_few m k g h.1 numbered f.known f.few }) k (Control.Connect g)
step_flies size m (Step.Cuts k g) numbered h f = controls_flies (without_links m k (λ other. other == g)) (unlinks_flies m f k (λ other. other == g)) k (Control.Disconnect g)
step_flies size m (Step.Draws number) numbered h f = record { known = f.known; few = f.few }
step_flies size m (Step.Unsettles t) numbered h f = unsettles_flies m f t (m.txns t).stage refl
step_flies size m (Step.Decides t) numbered h f = let d = decided_by (m.txns t).stage in carries m f (decided m d) (decided_bricks m d) (decided_links m d) (same_txns m f (decided m d) (decided_txns m d))

-- ---- numbers

-- what no step takes back
further : (size : Size) (m : State) (step : Step) → Allowed size m step → Further m (after size m step)
further size m step h = record { begun = grows (begins step) step refl h; graph = graphs (begins step) step refl h; last = step_last size m step } where
  grows : (b : Bool) (s : Step) → begins s ≡ b → Allowed size m s → m.begun ≤ (after size m s).begun
  grows true (Step.Turns t (Turn.Begins graph own)) is h = omega (arith, h.0)
  grows true (Step.Turns t turn) is h = absurd cc
  grows true other is h = absurd cc
  grows false s is h = omega (arith, step_begun size m s is)

  graphs : (b : Bool) (s : Step) → begins s ≡ b → Allowed size m s → (t : ℕ) → t ≤ m.begun → ((after size m s).txns t).graph ≡ (m.txns t).graph
  graphs true (Step.Turns t (Turn.Begins graph own)) is h i low = at_case (λ n (y : Txn). n ≤ m.begun → y.graph ≡ (m.txns n).graph) m.txns t (new_txn graph own) (λ l. absurd (omega (arith, h.0))) i (λ ne l. refl) low
  graphs true (Step.Turns t turn) is h i low = absurd cc
  graphs true other is h i low = absurd cc
  graphs false s is h i low = (step_goes size m s h is i).graph

numbered_further : (m new : State) → Further m new → (k : ℕ) (by : Sender) (ask : Ask) → IsNumbered m k by ask → IsNumbered new k by ask
numbered_further m new f k by ask n = record { begun = omega (arith, f.begun, n.begun); graph = n.graph ∙ sym (f.graph by.txn n.begun); connection = omega (arith, n.connection, f.last k by.graph) }

-- who is not over has begun
has_begun : (m : State) → UnbegunAreOver m → (t : ℕ) → ((m.txns t).stage ≡ Over → ⊥) → t ≤ m.begun
has_begun m unbegun t runs = by_case (cases_lt m.begun t) where
  by_case : (m.begun < t) ⊎ (t ≤ m.begun) → t ≤ m.begun
  by_case (inl late) = absurd (runs (unbegun t late))
  by_case (inr early) = early

taken_numbered : (size : Size) (m : State) (step : Step) → UnbegunAreOver m → Allowed size m step → (j : ℕ) (inputs : List Input) → IsTaken m step j inputs → EachInput (IsNumbered (after size m step) j) inputs
taken_numbered size m (Step.Asks t k first asked) unbegun h j inputs taken =
    subst (λ n. EachInput (IsNumbered (after size m (Step.Asks t k first asked)) n) inputs) (sym taken.0)
    (subst (EachInput (IsNumbered (after size m (Step.Asks t k first asked)) k)) (sym taken.1) (each (asks_of first asked)))
  where
    needs : AskNeeds m t k asked
    needs = ask_needs size m t k asked h.0

    here : (ask : Ask) → IsNumbered (after size m (Step.Asks t k first asked)) k (sender_of m t k) ask
    here ask = numbered_further m (after size m (Step.Asks t k first asked)) (further size m (Step.Asks t k first asked) h) k (sender_of m t k) ask (record { begun = has_begun m unbegun t needs.runs; graph = refl; connection = omega arith })

    each : (asks : List Ask) → EachInput (IsNumbered (after size m (Step.Asks t k first asked)) k) (inputs_of (sender_of m t k) asks)
    each [] = tt
    each (a ∷ rest) = (here a, each rest)
taken_numbered size m (Step.Controls k steering) unbegun h j inputs taken = subst (EachInput (IsNumbered (after size m (Step.Controls k steering)) j)) (sym taken.1) tt
taken_numbered size m (Step.Connects k g) unbegun h j inputs taken = subst (EachInput (IsNumbered (after size m (Step.Connects k g)) j)) (sym taken.1) tt
taken_numbered size m (Step.Cuts k g) unbegun h j inputs taken = subst (EachInput (IsNumbered (after size m (Step.Cuts k g)) j)) (sym taken.1) tt
taken_numbered size m other unbegun h j inputs taken = absurd taken

step_numbered : (size : Size) (m : State) (step : Step) → UnbegunAreOver m → Allowed size m step → AreNumbered m → AreNumbered (after size m step)
step_numbered size m step unbegun h numbered j =
    moves_each (IsNumbered (after size m step) j) (IsTaken m step j) (m.bricks j) ((after size m step).bricks j) (bricks_move size m step h j)
    (taken_numbered size m step unbegun h j)
    (each_map (IsNumbered m j) (IsNumbered (after size m step) j) (numbered_further m (after size m step) (further size m step h) j) (m.bricks j) (numbered j))

step_unbegun : (size : Size) (m : State) (step : Step) → Allowed size m step → UnbegunAreOver m → UnbegunAreOver (after size m step)
step_unbegun size m step h unbegun = by_case (begins step) step refl h where
  by_case : (b : Bool) (s : Step) → begins s ≡ b → Allowed size m s → UnbegunAreOver (after size m s)
  by_case true (Step.Turns t (Turn.Begins graph own)) is h i late = at_case (λ n (y : Txn). t < n → y.stage ≡ Over) m.txns t (new_txn graph own) (λ l. absurd (omega arith)) i (λ ne l. unbegun i (omega (arith, h.0))) late
  by_case true (Step.Turns t turn) is h i late = absurd cc
  by_case true other is h i late = absurd cc
  by_case false s is h i late = (step_goes size m s h is i).over (unbegun i (omega (arith, step_begun size m s is)))

-- ---- every state

start_on_their_way : AreOnTheirWay start
start_on_their_way = record {
  numbered = λ k. record { held = tt; waiting = tt; line = tt; outputs = tt };
  unbegun = λ t late. refl;
  known = λ t k. refl;
  few = λ t k. NoFlight refl;
}

pub step_on_their_way : (size : Size) (m : State) (step : Step) → Allowed size m step → AreOnTheirWay m → AreOnTheirWay (after size m step)
step_on_their_way size m step h a =
    let f = step_flies size m step a.numbered h (record { known = a.known; few = a.few }) in
    record { numbered = step_numbered size m step a.unbegun h a.numbered; unbegun = step_unbegun size m step h a.unbegun; known = f.known; few = f.few }

pub on_their_way : (size : Size) (m : State) → IsReached size m → AreOnTheirWay m
on_their_way size m IsReached.Start = start_on_their_way
on_their_way size m (IsReached.Further old step reached allowed) = step_on_their_way size old step allowed (on_their_way size old reached)
