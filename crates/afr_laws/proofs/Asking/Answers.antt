-- Where an answer is missing and nothing is on its way, the connection has ended, over every list of steps.
use Rattle.std.proofs.Common.{◌≡◌, ◌∙◌, ℕ, ◌+◌, Bool, true, false, refl, sym, ap, subst, ◌⊎◌, inl, inr, arith, Option}
use Rattle.std.specs.Prelude.{if◌then◌else◌, List, [], ◌∷◌, ◌++◌, ◌≢◌, ◌==◌}
use Rattle.std.proofs.lemmas.Bool.{cases_eq, ne_eqb}
use Rattle.afr_machine.specs.Replicas.{Size, with_at}
use Rattle.afr_machine.specs.Requests.{Sender, Ask, Answer, Output}
use Rattle.afr_machine.specs.Requests.Ask.{OpenFirst}
use Rattle.afr_machine.specs.Requests.Output.{Answered, Closed, Opened, Connected}
use Rattle.afr_machine.specs.Transactions.{Stage, Txn, new_txn}
use Rattle.afr_machine.specs.Transactions.Stage.{Marking}
use Rattle.afr_machine.specs.States.{State, Link, is_current, with_link}
use Rattle.afr_machine.specs.Sending.{asks_of, asking}
use Rattle.afr_machine.specs.Answering.{is_single, without_first, missing, landed, at_rest, forgetting, closed, without_links, replied, taken_in, without_output, without_first_output}
use Rattle.afr_machine.specs.Turns.{Turn, after_turn}
use Rattle.afr_machine.specs.Steps.{Step, Allowed, after, IsReached, take_in_front, unsettling, decided, decided_by}
use Rattle.afr_machine.proofs.Tables.{at_same, at_other}
use Rattle.afr_machine.proofs.Keeping.{replied_beside}
use Rattle.afr_laws.specs.Senders.{EachOutput}
use Rattle.afr_laws.specs.Numbered.{IsNumbered}
use Rattle.afr_laws.specs.Txns.{SameFlights}
use Rattle.afr_laws.specs.Flights.{is_mine, flight, AreOnTheirWay}
use Rattle.afr_laws.specs.Waiting.{Fits, LastFits, EachWaitsFit}
use Rattle.afr_laws.specs.Asking.{IsAnsweredOn, AnswersComeOn, EachAnswerComes}
use Rattle.afr_laws.proofs.Bools.{both, apart_bools}
use Rattle.afr_laws.proofs.Carry.{at_case}
use Rattle.afr_laws.proofs.Heard.{Heard, replied_txns}
use Rattle.afr_laws.proofs.Heard.Heard.{Took, Passed, OpenDone, OpenMissed}
use Rattle.afr_laws.proofs.Txns.{is_beginning, turn_flights}
use Rattle.afr_laws.proofs.Waiting.{waits_fit}
use Rattle.afr_laws.proofs.Goes.{turn_links, decided_txns, decided_links}
use Rattle.afr_laws.proofs.Flying.{on_their_way}
use Rattle.afr_laws.proofs.FlightHands.{first_flies, single_tail}

-- ---- one transaction

module _ (links : ℕ → ℕ → Link) (x : Txn) (old : AnswersComeOn links x) where
  same_comes : (y : Txn) → SameFlights x y → AnswersComeOn links y
  same_comes y s k is =
      let o = old k (sym (ap (λ (f : ℕ → Bool). f k) s.waits) ∙ is) in
      subst (λ g. IsAnsweredOn (links k g) (y.flying k) (y.asked_on k)) (sym s.graph)
      (subst (λ (f : ℕ → List Ask). IsAnsweredOn (links k x.graph) (f k) (y.asked_on k)) (sym s.flying) (subst (λ (f : ℕ → ℕ). IsAnsweredOn (links k x.graph) (x.flying k) (f k)) (sym s.asked_on) o))

  -- at one brick other requests are on their way
  flying_comes : (k : ℕ) (r : List Ask) → (x.waits k ≡ true → IsAnsweredOn (links k x.graph) r (x.asked_on k)) → AnswersComeOn links (record x { flying = with_at x.flying k r })
  flying_comes k r now j is = at_case (λ n f. x.waits n ≡ true → IsAnsweredOn (links n x.graph) f (x.asked_on n)) x.flying k r now j (λ ne w. old j w) is

  fewer_comes : (k : ℕ) (r : List Ask) → AnswersComeOn links (record x { flying = with_at x.flying k r; waits = with_at x.waits k false })
  fewer_comes k r j is = by_case (cases_eq j k) where
    by_case : (j ≡ k) ⊎ (j ≢ k) → IsAnsweredOn (links j x.graph) (with_at x.flying k r j) (x.asked_on j)
    by_case (inl same) = absurd (let no : false ≡ true = sym (ap (with_at x.waits k false) same ∙ at_same x.waits k false) ∙ is in cc)
    by_case (inr other) = subst (λ f. IsAnsweredOn (links j x.graph) f (x.asked_on j)) (sym (at_other x.flying k r j other)) (old j (sym (at_other x.waits k false j other) ∙ is))

  landed_on : (k : ℕ) (f : List Ask) → (is_single f ≡ true → ⊥) → IsAnsweredOn (links k x.graph) f (x.asked_on k) → IsAnsweredOn (links k x.graph) (without_first f) (x.asked_on k)
  landed_on k [] single o = o
  landed_on k (a ∷ []) single o = absurd (single refl)
  landed_on k (a ∷ (b ∷ rest)) single o = record { opened = o.opened; ended = λ e. absurd cc }

  landed_comes : (k : ℕ) → (x.waits k ≡ true → is_single (x.flying k) ≡ true → ⊥) → AnswersComeOn links (landed x k)
  landed_comes k single = flying_comes k (without_first (x.flying k)) (λ w. landed_on k (x.flying k) (single w) (old k w))

  took_comes : (k : ℕ) (y : Txn) → SameFlights (at_rest x k) y → AnswersComeOn links y
  took_comes k y same j w = by_case (cases_eq j k) where
    now : with_at x.waits k false j ≡ true
    now = sym (ap (λ (f : ℕ → Bool). f j) same.waits) ∙ w

    by_case : (j ≡ k) ⊎ (j ≢ k) → IsAnsweredOn (links j y.graph) (y.flying j) (y.asked_on j)
    by_case (inl equal) = absurd (let no : false ≡ true = sym (ap (with_at x.waits k false) equal ∙ at_same x.waits k false) ∙ now in cc)
    by_case (inr other) =
        let o = old j (sym (at_other x.waits k false j other) ∙ now) in
        subst (λ g. IsAnsweredOn (links j g) (y.flying j) (y.asked_on j)) (sym same.graph)
        (subst (λ f. IsAnsweredOn (links j x.graph) f (y.asked_on j)) (sym (ap (λ (f : ℕ → List Ask). f j) same.flying ∙ at_other x.flying k [] j other))
        (subst (λ (f : ℕ → ℕ). IsAnsweredOn (links j x.graph) (x.flying j) (f j)) (sym same.asked_on) o))

  -- a reply: what is awaited is more than an open
  heard_comes : (k connection : ℕ) (ask : Ask) (answer : Answer) (y : Txn) → (ask ≡ OpenFirst → x.waits k ≡ true → is_single (x.flying k) ≡ true → ⊥) → Heard x y k connection ask answer → AnswersComeOn links y
  heard_comes k connection ask answer y opens (Took plain waits same is) = took_comes k y same
  heard_comes k connection ask answer y opens (Passed plain passes is) = subst (AnswersComeOn links) (sym is) (landed_comes k (λ w s. apart_bools (both (x.waits k) (is_single (x.flying k)) w s) passes))
  heard_comes k connection ask answer y opens (OpenDone o is) = subst (AnswersComeOn links) (sym is) (landed_comes k (opens o))
  heard_comes k connection ask answer y opens (OpenMissed o is) = subst (AnswersComeOn links) (sym is) (λ j w. fewer_comes k (without_first (x.flying k)) j w)

module _ (size : Size) (m : State) (a : EachAnswerComes m) where
  -- ---- what is handed in

  replied_comes : (k : ℕ) (by : Sender) (ask : Ask) (answer : Answer) (rest : List Output) → (m.bricks k).outputs ≡ Answered by ask answer ∷ rest → is_current (m.links k by.graph) by.connection ≡ true → AreOnTheirWay m → EachWaitsFit size m →
      EachAnswerComes (replied (without_first_output m k) k by ask answer)
  replied_comes k by ask answer rest front connected way fit i =
      let p = replied_txns (without_first_output m k) k by ask answer in
      subst (λ (l : ℕ → ℕ → Link). AnswersComeOn l ((replied (without_first_output m k) k by ask answer).txns i)) (sym (replied_beside (without_first_output m k) k by ask answer).links)
      (subst (λ (f : ℕ → Txn). AnswersComeOn m.links (f i)) (sym p.is)
      (at_case (λ n y. AnswersComeOn m.links y) m.txns by.txn p.after (heard_comes m.links (m.txns by.txn) (a by.txn) k by.connection ask answer p.after opens p.heard) i (λ ne. a i)))
    where
      graph : by.graph ≡ (m.txns by.txn).graph
      graph = (subst (EachOutput (IsNumbered m k)) front (way.numbered k).outputs).0.graph

      flies : (m.txns by.txn).flying k ≡ ask ∷ flight (is_mine by.txn (m.links k (m.txns by.txn).graph)) (record (m.bricks k) { outputs = without_output (m.bricks k).outputs })
      flies = first_flies m k by ask answer rest front graph way.known way.few connected

      -- an open alone is no request that a stage sends
      opens : ask ≡ OpenFirst → (m.txns by.txn).waits k ≡ true → is_single ((m.txns by.txn).flying k) ≡ true → ⊥
      opens is waits single =
          let alone = single_tail ((m.txns by.txn).flying k) ask _ flies single in
          let last : LastFits (ask ∷ []) (m.txns by.txn).stage k = subst (λ f. LastFits f (m.txns by.txn).stage k) (flies ∙ ap (λ z. ask ∷ z) alone) (fit by.txn k waits).last in
          subst (λ z. Fits z (m.txns by.txn).stage k) is last

  -- ---- connections that end

  ended_comes : (k : ℕ) (ends : ℕ → Bool) (i : ℕ) → AnswersComeOn (without_links m k ends).links (forgetting ends k (m.txns i))
  ended_comes k ends i j = by_case (cases_eq j k) where
    x : Txn
    x = m.txns i

    link_now : ℕ → Link
    link_now = λ g. if ends g then closed (m.links k g) else m.links k g

    far : j ≢ k → (b : Bool) → (if b then record (m.txns i) { flying = with_at (m.txns i).flying k [] } else m.txns i).waits j ≡ true →
        IsAnsweredOn ((without_links m k ends).links j (if b then record (m.txns i) { flying = with_at (m.txns i).flying k [] } else m.txns i).graph) ((if b then record (m.txns i) { flying = with_at (m.txns i).flying k [] } else m.txns i).flying j) ((if b then record (m.txns i) { flying = with_at (m.txns i).flying k [] } else m.txns i).asked_on j)
    far ne true w = subst (λ (f : ℕ → Link). IsAnsweredOn (f (m.txns i).graph) (with_at (m.txns i).flying k [] j) ((m.txns i).asked_on j)) (sym (at_other m.links k (λ g. if ends g then closed (m.links k g) else m.links k g) j ne))
        (subst (λ f. IsAnsweredOn (m.links j (m.txns i).graph) f ((m.txns i).asked_on j)) (sym (at_other (m.txns i).flying k [] j ne)) (a i j w))
    far ne false w = subst (λ (f : ℕ → Link). IsAnsweredOn (f (m.txns i).graph) ((m.txns i).flying j) ((m.txns i).asked_on j)) (sym (at_other m.links k (λ g. if ends g then closed (m.links k g) else m.links k g) j ne)) (a i j w)

    here : (b : Bool) → ends (m.txns i).graph ≡ b → (if b then record (m.txns i) { flying = with_at (m.txns i).flying k [] } else m.txns i).waits k ≡ true →
        IsAnsweredOn ((without_links m k ends).links k (if b then record (m.txns i) { flying = with_at (m.txns i).flying k [] } else m.txns i).graph) ((if b then record (m.txns i) { flying = with_at (m.txns i).flying k [] } else m.txns i).flying k) ((if b then record (m.txns i) { flying = with_at (m.txns i).flying k [] } else m.txns i).asked_on k)
    here true e w =
        let now : (without_links m k ends).links k (m.txns i).graph ≡ closed (m.links k (m.txns i).graph) = ap (λ (f : ℕ → Link). f (m.txns i).graph) (at_same m.links k (λ g. if ends g then closed (m.links k g) else m.links k g)) ∙ ap (λ c. if c then closed (m.links k (m.txns i).graph) else m.links k (m.txns i).graph) e in
        subst (λ (l : Link). IsAnsweredOn l (with_at (m.txns i).flying k [] k) ((m.txns i).asked_on k)) (sym now) (record { opened = (a i k w).opened; ended = λ none. refl })
    here false e w =
        let now : (without_links m k ends).links k (m.txns i).graph ≡ m.links k (m.txns i).graph = ap (λ (f : ℕ → Link). f (m.txns i).graph) (at_same m.links k (λ g. if ends g then closed (m.links k g) else m.links k g)) ∙ ap (λ c. if c then closed (m.links k (m.txns i).graph) else m.links k (m.txns i).graph) e in
        subst (λ (l : Link). IsAnsweredOn l ((m.txns i).flying k) ((m.txns i).asked_on k)) (sym now) (a i k w)

    by_case : (j ≡ k) ⊎ (j ≢ k) → (forgetting ends k (m.txns i)).waits j ≡ true → IsAnsweredOn ((without_links m k ends).links j (forgetting ends k (m.txns i)).graph) ((forgetting ends k (m.txns i)).flying j) ((forgetting ends k (m.txns i)).asked_on j)
    by_case (inl same) = subst (λ n. (forgetting ends k (m.txns i)).waits n ≡ true → IsAnsweredOn ((without_links m k ends).links n (forgetting ends k (m.txns i)).graph) ((forgetting ends k (m.txns i)).flying n) ((forgetting ends k (m.txns i)).asked_on n)) (sym same) (here (ends (m.txns i).graph) refl)
    by_case (inr other) = far other (ends (m.txns i).graph)

  hands_comes : (k : ℕ) (o : Output) (rest : List Output) → (m.bricks k).outputs ≡ o ∷ rest → AreOnTheirWay m → EachWaitsFit size m → EachAnswerComes (taken_in (without_first_output m k) k o)
  hands_comes k (Answered by ask answer) rest front way fit = by_case (is_current (m.links k by.graph) by.connection) refl where
    by_case : (b : Bool) → is_current (m.links k by.graph) by.connection ≡ b → EachAnswerComes (if b then replied (without_first_output m k) k by ask answer else without_first_output m k)
    by_case true connected = replied_comes k by ask answer rest front connected way fit
    by_case false late = a
  hands_comes k Closed rest front way fit = ended_comes k (λ g. true)
  hands_comes k Opened rest front way fit = a
  hands_comes k (Connected graph) rest front way fit = a

  -- a new connection is none that was asked on before
  linked_comes : (k g i : ℕ) → AnswersComeOn (with_link m k g (record { last = (m.links k g).last + 1; is_open = true })).links (m.txns i)
  linked_comes k g i j w =
      at_case (λ n (f : ℕ → Link). IsAnsweredOn (m.links n (m.txns i).graph) ((m.txns i).flying j) ((m.txns i).asked_on j) → IsAnsweredOn (f (m.txns i).graph) ((m.txns i).flying j) ((m.txns i).asked_on j)) m.links k (with_at (m.links k) g (record { last = (m.links k g).last + 1; is_open = true }))
      (at_case (λ h (l : Link). IsAnsweredOn (m.links k h) ((m.txns i).flying j) ((m.txns i).asked_on j) → IsAnsweredOn l ((m.txns i).flying j) ((m.txns i).asked_on j)) (m.links k) g (record { last = (m.links k g).last + 1; is_open = true })
      (λ o. record { opened = omega (arith, o.opened); ended = λ none. ne_eqb ((m.txns i).asked_on j) ((m.links k g).last + 1) (λ e. absurd (omega (arith, e, o.opened))) }) (m.txns i).graph (λ ne o. o))
      j (λ ne o. o) (a i j w)

  -- ---- turns and requests

  turned_comes : (t : ℕ) (turn : Turn) → Allowed size m (Step.Turns t turn) → is_beginning turn ≡ false → EachAnswerComes (after size m (Step.Turns t turn))
  turned_comes t turn h b i = subst (λ (l : ℕ → ℕ → Link). AnswersComeOn l ((after_turn size m t turn).txns i)) (sym (turn_links m size t turn)) (same_comes m.links (m.txns i) (a i) _ (turn_flights size m t turn h b i))

  asked_comes : (t k : ℕ) (first : Bool) (ask : Ask) → AnswersComeOn m.links (asking (m.txns t) k (m.links k (m.txns t).graph).last first ask)
  asked_comes t k first ask j is = by_case (cases_eq j k) where
    some : (xs : List Ask) (f : Bool) → xs ++ asks_of f ask ≡ [] → ⊥
    some [] true e = absurd cc
    some [] false e = absurd cc
    some (x ∷ xs) f e = absurd cc

    by_case : (j ≡ k) ⊎ (j ≢ k) → IsAnsweredOn (m.links j (m.txns t).graph) (with_at (m.txns t).flying k ((m.txns t).flying k ++ asks_of first ask) j) (with_at (m.txns t).asked_on k (m.links k (m.txns t).graph).last j)
    by_case (inl same) =
        subst (λ n. IsAnsweredOn (m.links n (m.txns t).graph) (with_at (m.txns t).flying k ((m.txns t).flying k ++ asks_of first ask) n) (with_at (m.txns t).asked_on k (m.links k (m.txns t).graph).last n)) (sym same)
        (record { opened = omega (arith, at_same (m.txns t).asked_on k (m.links k (m.txns t).graph).last); ended = λ none. absurd (some ((m.txns t).flying k) first (sym (at_same (m.txns t).flying k ((m.txns t).flying k ++ asks_of first ask)) ∙ none)) })
    by_case (inr other) =
        subst (λ f. IsAnsweredOn (m.links j (m.txns t).graph) f (with_at (m.txns t).asked_on k (m.links k (m.txns t).graph).last j)) (sym (at_other (m.txns t).flying k ((m.txns t).flying k ++ asks_of first ask) j other))
        (subst (IsAnsweredOn (m.links j (m.txns t).graph) ((m.txns t).flying j)) (sym (at_other (m.txns t).asked_on k (m.links k (m.txns t).graph).last j other)) (a t j (sym (at_other (m.txns t).waits k true j other) ∙ is)))

  unsettled_comes : (t : ℕ) (stage : Stage) → EachAnswerComes (unsettling m t stage)
  unsettled_comes t (Marking u) = λ i. at_case (λ n y. AnswersComeOn m.links y) m.txns t _ (λ k is. a t k is) i (λ ne. a i)
  unsettled_comes t other = a

  bailed_comes : (t k : ℕ) → AnswersComeOn m.links (missing (record (m.txns t) { waits = with_at (m.txns t).waits k false }) k)
  bailed_comes t k j is = a t j (at_case (λ n b. b ≡ true → (m.txns t).waits n ≡ true) (m.txns t).waits k false (λ h. absurd cc) j (λ ne h. h) is)

  decided_comes : (o : Option (ℕ × Bool)) → EachAnswerComes (decided m o)
  decided_comes o i = subst (λ (l : ℕ → ℕ → Link). AnswersComeOn l ((decided m o).txns i)) (sym (decided_links m o)) (subst (λ (f : ℕ → Txn). AnswersComeOn m.links (f i)) (sym (decided_txns m o)) (a i))

step_comes : (size : Size) (m : State) (step : Step) → Allowed size m step → AreOnTheirWay m → EachWaitsFit size m → EachAnswerComes m → EachAnswerComes (after size m step)
step_comes size m (Step.Turns t (Turn.Begins graph own)) h way fit a = λ i. at_case (λ n y. AnswersComeOn m.links y) m.txns t (new_txn graph own) (λ k is. absurd cc) i (λ ne. a i)
step_comes size m (Step.Turns t turn) h way fit a = turned_comes size m a t turn h refl
step_comes size m (Step.Asks t k first asked) h way fit a = λ i. at_case (λ n y. AnswersComeOn m.links y) m.txns t _ (asked_comes size m a t k first asked) i (λ ne. a i)
step_comes size m (Step.HandsIn k) h way fit a = subst (λ (os : List Output). EachAnswerComes (take_in_front (without_first_output m k) k os)) (sym h.front) (hands_comes size m a k h.first h.rest h.front way fit)
step_comes size m (Step.Bails t k) h way fit a = λ i. at_case (λ n y. AnswersComeOn m.links y) m.txns t _ (bailed_comes size m a t k) i (λ ne. a i)
step_comes size m (Step.Misses t k) h way fit a = λ i. at_case (λ n y. AnswersComeOn m.links y) m.txns t _ (λ j is. a t j is) i (λ ne. a i)
step_comes size m (Step.Connects k g) h way fit a = linked_comes size m a k g
step_comes size m (Step.Cuts k g) h way fit a = ended_comes size m a k (λ other. other == g)
step_comes size m (Step.Unsettles t) h way fit a = unsettled_comes size m a t (m.txns t).stage
step_comes size m (Step.Decides t) h way fit a = decided_comes size m a (decided_by (m.txns t).stage)
step_comes size m other h way fit a = a

pub answers_come : (size : Size) (m : State) → IsReached size m → EachAnswerComes m
answers_come size m IsReached.Start = λ t k is. absurd cc
answers_come size m (IsReached.Further old step reached allowed) = step_comes size old step allowed (on_their_way size old reached) (waits_fit size old reached) (answers_come size old reached)
