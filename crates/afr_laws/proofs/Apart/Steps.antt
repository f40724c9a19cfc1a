-- Each step keeps granted locks apart.
use Rattle.std.proofs.Common.{◌≡◌, ◌∙◌, ℕ, ◌+◌, ◌≤◌, Bool, true, false, refl, sym, ap, subst, ◌⊎◌, inl, inr, arith, Option, Some, None}
use Rattle.std.specs.Prelude.{if◌then◌else◌, List, [], ◌∷◌, ◌++◌, ◌≢◌, ◌==◌}
use Rattle.std.proofs.lemmas.Bool.{cases_eq, eqb-true}
use Rattle.fop_types.specs.declared.jobs.Job.{Job}
use Rattle.afr_machine.specs.Replicas.{Size, with_at}
use Rattle.afr_machine.specs.Requests.{Sender, Ask, Answer, Control, Input, Output}
use Rattle.afr_machine.specs.Requests.Input.{Steered}
use Rattle.afr_machine.specs.Requests.Answer.{Gone}
use Rattle.afr_machine.specs.Requests.Output.{Answered, Closed, Opened, Connected}
use Rattle.afr_machine.specs.Locks.{BrickLock}
use Rattle.afr_machine.specs.Bricks.{Brick, without_front}
use Rattle.afr_machine.specs.Transactions.{Stage, Grant, Txn, new_txn}
use Rattle.afr_machine.specs.Transactions.Stage.{Marking}
use Rattle.afr_machine.specs.States.{State, Link, start, is_current, with_brick, with_inputs}
use Rattle.afr_machine.specs.Sending.{asks_of, inputs_of, sender_of}
use Rattle.afr_machine.specs.Answering.{passed, forgetting, closed, without_links, without_output, without_first_output, replied, taken_in}
use Rattle.afr_machine.specs.Turns.{Turn, after_turn}
use Rattle.afr_machine.specs.Steps.{Step, Allowed, after, IsReached, served_front, refused_front, given_up_front, steered_front, take_in_front, unsettling, decided, decided_by}
use Rattle.afr_machine.proofs.Tables.{at_same, at_other}
use Rattle.afr_machine.proofs.Keeping.{replied_beside}
use Rattle.afr_machine.proofs.BrickMoves.{turn_bricks, decided_bricks}
use Rattle.afr_laws.specs.Numbered.{AreNumbered}
use Rattle.afr_laws.specs.Grants.{has_closed, lock_of, is_unlocking, GrantsAreHeld}
use Rattle.afr_laws.specs.Apart.{IsGranting, Holds, IsGranted, GrantsApart}
use Rattle.afr_laws.specs.Apart.IsGranted.{HandedIn, OnItsWay}
use Rattle.afr_laws.proofs.Bools.{both_left}
use Rattle.afr_laws.proofs.Carry.{at_case}
use Rattle.afr_laws.proofs.Txns.{is_beginning}
use Rattle.afr_laws.proofs.Heard.{Heard, replied_txns}
use Rattle.afr_laws.proofs.Heard.Heard.{Took, Passed, OpenDone, OpenMissed}
use Rattle.afr_laws.proofs.Stages.{StageGoes}
use Rattle.afr_laws.proofs.Waiting.{turn_others}
use Rattle.afr_laws.proofs.Goes.{step_goes, turn_links, decided_txns, decided_links}
use Rattle.afr_laws.proofs.Flying.{on_their_way}
use Rattle.afr_laws.proofs.ConnectsFirst.{IsSameOrClosed, ended_link}
use Rattle.afr_laws.proofs.HeldApart.{held_apart}
use Rattle.afr_laws.proofs.Grants.{grants_are_held}
use Rattle.afr_laws.proofs.GrantTurns.{GrantsTurn, same_grants, turn_grants, goes_unlocks, goes_none}
use Rattle.afr_laws.proofs.GrantTurns.GrantsTurn.{KeepsGrants}
use Rattle.afr_laws.proofs.Apart.Outputs.{Adds, adds_back, answering_adds, served_adds, steered_adds}
use Rattle.afr_laws.proofs.Apart.Back.{GrantsBack, back_apart, LinksBack, came, turned_back, emptied_back, heard_back}

-- a connection that is as it was, or closed, was open before where it is now
pub open_before : (old new : Link) → IsSameOrClosed old new → (c : ℕ) → is_current new c ≡ true → is_current old c ≡ true
open_before old new (inl same) c current = subst (λ (l : Link). is_current l c ≡ true) same current
open_before old new (inr shut) c current = absurd (let no : true ≡ false = sym (both_left _ _ current) ∙ shut in cc)

heard_graph : {x y : Txn} {k connection : ℕ} {ask : Ask} {answer : Answer} → Heard x y k connection ask answer → y.graph ≡ x.graph
heard_graph (Took plain waits same is) = same.graph
heard_graph (Passed plain passes is) = ap (λ (z : Txn). z.graph) is
heard_graph (OpenDone opens is) = ap (λ (z : Txn). z.graph) is
heard_graph (OpenMissed opens is) = ap (λ (z : Txn). z.graph) is

forgetting_graph : (ends : ℕ → Bool) (k : ℕ) (x : Txn) → (forgetting ends k x).graph ≡ x.graph
forgetting_graph ends k x = by_case (ends x.graph) where
  by_case : (b : Bool) → (if b then record x { flying = with_at x.flying k [] } else x).graph ≡ x.graph
  by_case true = refl
  by_case false = refl

forgetting_turn : (ends : ℕ → Bool) (k : ℕ) (x : Txn) → GrantsTurn x (forgetting ends k x)
forgetting_turn ends k x = by_case (ends x.graph) where
  by_case : (b : Bool) → GrantsTurn x (if b then record x { flying = with_at x.flying k [] } else x)
  by_case true = KeepsGrants refl (λ h. h) (λ h. h)
  by_case false = same_grants x

-- at the start nothing is granted
pub start_none : (k : ℕ) (lock : BrickLock) → IsGranted start k lock → ⊥
start_none k lock (HandedIn t grant h is) = absurd (let no : None ≡ Some grant = h.granted in cc)
start_none k lock (OnItsWay h current) = h

module _ (size : Size) (m : State) (numbered : AreNumbered m) (g : GrantsAreHeld m) where
  -- outputs as they were, transactions that keep their grants
  quiet : (new : State) → ((k : ℕ) → (new.bricks k).outputs ≡ (m.bricks k).outputs) → LinksBack m new → ((t : ℕ) → (new.txns t).graph ≡ (m.txns t).graph) → ((t : ℕ) → GrantsTurn (m.txns t) (new.txns t)) → GrantsBack m new
  quiet new outputs links graphs turns = record {
    handed = λ t k grant h. turned_back m new numbered g links t k grant (graphs t) (turns t) h;
    coming = λ k lock closing h current. came m new numbered g links k lock (subst (IsGranting lock) (outputs k) h) current;
  }

  same_links : (new : State) → new.links ≡ m.links → LinksBack m new
  same_links new is k h c low current = subst (λ (f : ℕ → ℕ → Link). is_current (f k h) c ≡ true) is current

  same_outputs : (new : State) → new.bricks ≡ m.bricks → (k : ℕ) → (new.bricks k).outputs ≡ (m.bricks k).outputs
  same_outputs new is k = ap (λ (f : ℕ → Brick). (f k).outputs) is

  lined : (k : ℕ) (inputs : List Input) (j : ℕ) → ((with_inputs m k inputs).bricks j).outputs ≡ (m.bricks j).outputs
  lined k inputs j = at_case (λ n (b : Brick). b.outputs ≡ (m.bricks n).outputs) m.bricks k (record (m.bricks k) { line = (m.bricks k).line ++ inputs }) refl j (λ ne. refl)

  one_graph : (t : ℕ) (y : Txn) → y.graph ≡ (m.txns t).graph → (i : ℕ) → (with_at m.txns t y i).graph ≡ (m.txns i).graph
  one_graph t y graph i = at_case (λ n (z : Txn). z.graph ≡ (m.txns n).graph) m.txns t y graph i (λ ne. refl)

  one_turns : (t : ℕ) (y : Txn) → GrantsTurn (m.txns t) y → (i : ℕ) → GrantsTurn (m.txns i) (with_at m.txns t y i)
  one_turns t y turn i = at_case (λ n z. GrantsTurn (m.txns n) z) m.txns t y turn i (λ ne. same_grants (m.txns i))

  -- ---- a brick works at the front of its line

  works : (k : ℕ) (x : Brick) → Adds (m.bricks k).outputs x.outputs → GrantsBack m (with_brick m k x)
  works k x adds = record {
    handed = λ t j grant h. turned_back m (with_brick m k x) numbered g (same_links (with_brick m k x) refl) t j grant refl (same_grants (m.txns t)) h;
    coming = λ j lock closing h current. came m (with_brick m k x) numbered g (same_links (with_brick m k x) refl) j lock
        (at_case (λ n (b : Brick). has_closed b.outputs ≡ true → IsGranting lock b.outputs → IsGranting lock (m.bricks n).outputs) m.bricks k x (adds_back lock (m.bricks k).outputs x.outputs adds) j (λ ne c i. i) closing h) current;
  }

  -- ---- turns

  turns_back : (t : ℕ) (turn : Turn) → Allowed size m (Step.Turns t turn) → is_beginning turn ≡ false → GrantsBack m (after size m (Step.Turns t turn))
  turns_back t turn h b = quiet (after_turn size m t turn) (same_outputs (after_turn size m t turn) (turn_bricks size m t turn)) (same_links (after_turn size m t turn) (turn_links m size t turn)) (λ i. (step_goes size m (Step.Turns t turn) h b i).graph) turns
    where
      turns : (i : ℕ) → GrantsTurn (m.txns i) ((after_turn size m t turn).txns i)
      turns i = by_case (cases_eq i t) where
        by_case : (i ≡ t) ⊎ (i ≢ t) → GrantsTurn (m.txns i) ((after_turn size m t turn).txns i)
        by_case (inl same) = subst (λ n. GrantsTurn (m.txns n) ((after_turn size m t turn).txns n)) (sym same) (turn_grants size m t turn h)
        by_case (inr other) = subst (GrantsTurn (m.txns i)) (sym (turn_others size m t turn i other)) (same_grants (m.txns i))

  begins_back : (t graph : ℕ) (own : Job) → GrantsBack m (after size m (Step.Turns t (Turn.Begins graph own)))
  begins_back t graph own = record { handed = handed; coming = λ k lock closing h current. came m new numbered g (same_links new refl) k lock h current } where
    new : State
    new = after size m (Step.Turns t (Turn.Begins graph own))

    handed : (i k : ℕ) (grant : Grant) → Holds (after size m (Step.Turns t (Turn.Begins graph own))) i k grant → IsGranted m k (lock_of i ((after size m (Step.Turns t (Turn.Begins graph own))).txns i).graph grant)
    handed i k grant h = by_case (cases_eq i t) where
      by_case : (i ≡ t) ⊎ (i ≢ t) → IsGranted m k (lock_of i (with_at m.txns t (new_txn graph own) i).graph grant)
      by_case (inl same) = emptied_back m new numbered g (same_links new refl) i k grant (λ j. ap (λ n. (with_at m.txns t (new_txn graph own) n).grants j) same ∙ ap (λ (y : Txn). y.grants j) (at_same m.txns t (new_txn graph own))) h
      by_case (inr other) = let is = at_other m.txns t (new_txn graph own) i other in
          turned_back m new numbered g (same_links new refl) i k grant (ap (λ (y : Txn). y.graph) is) (subst (GrantsTurn (m.txns i)) (sym is) (same_grants (m.txns i))) h

  -- ---- connections

  cuts_back : (k g1 : ℕ) → GrantsBack m (after size m (Step.Cuts k g1))
  cuts_back k g1 = quiet (after size m (Step.Cuts k g1)) (lined k (Steered (Control.Disconnect g1) ∷ []))
      (λ j h c low current. open_before (m.links j h) _ (ended_link m k (λ other. other == g1) j h) c current)
      (λ i. forgetting_graph (λ other. other == g1) k (m.txns i)) (λ i. forgetting_turn (λ other. other == g1) k (m.txns i))

  connects_back : (k g1 : ℕ) → GrantsBack m (after size m (Step.Connects k g1))
  connects_back k g1 = quiet (after size m (Step.Connects k g1)) (lined k (Steered (Control.Connect g1) ∷ [])) links (λ i. refl) (λ i. same_grants (m.txns i)) where
    next : Link
    next = record { last = (m.links k g1).last + 1; is_open = true }

    links : LinksBack m (after size m (Step.Connects k g1))
    links j h c =
        at_case (λ n (f : ℕ → Link). c ≤ (m.links n h).last → is_current (f h) c ≡ true → is_current (m.links n h) c ≡ true) m.links k (with_at (m.links k) g1 (record { last = (m.links k g1).last + 1; is_open = true }))
        (at_case (λ i (x : Link). c ≤ (m.links k i).last → is_current x c ≡ true → is_current (m.links k i) c ≡ true) (m.links k) g1 (record { last = (m.links k g1).last + 1; is_open = true })
        (λ low current. absurd (omega (arith, low, eqb-true c ((m.links k g1).last + 1) current))) h (λ ne low current. current))
        j (λ ne low current. current)

  -- ---- what is handed in

  popped : (k : ℕ) (o : Output) (rest : List Output) → (m.bricks k).outputs ≡ o ∷ rest → ((lock : BrickLock) → IsGranting lock rest → IsGranting lock (o ∷ rest)) → (j : ℕ) (lock : BrickLock) → IsGranting lock ((without_first_output m k).bricks j).outputs → IsGranting lock (m.bricks j).outputs
  popped k o rest front more j lock =
      at_case (λ n (b : Brick). IsGranting lock b.outputs → IsGranting lock (m.bricks n).outputs) m.bricks k (record (m.bricks k) { outputs = without_output (m.bricks k).outputs })
      (λ h. subst (IsGranting lock) (sym front) (more lock (subst (IsGranting lock) (ap without_output front) h))) j (λ ne h. h)

  notice_back : (k : ℕ) (o : Output) (rest : List Output) → (m.bricks k).outputs ≡ o ∷ rest → ((lock : BrickLock) → IsGranting lock rest → IsGranting lock (o ∷ rest)) → GrantsBack m (without_first_output m k)
  notice_back k o rest front more = record {
    handed = λ t j grant h. turned_back m (without_first_output m k) numbered g (same_links (without_first_output m k) refl) t j grant refl (same_grants (m.txns t)) h;
    coming = λ j lock closing h current. came m (without_first_output m k) numbered g (same_links (without_first_output m k) refl) j lock (popped k o rest front more j lock h) current;
  }

  replied_back : (k : ℕ) (by : Sender) (ask : Ask) (answer : Answer) (rest : List Output) → (m.bricks k).outputs ≡ Answered by ask answer ∷ rest → is_current (m.links k by.graph) by.connection ≡ true → GrantsBack m (replied (without_first_output m k) k by ask answer)
  replied_back k by ask answer rest front connected = record { handed = handed; coming = coming } where
    m1 : State
    m1 = without_first_output m k

    new : State
    new = replied (without_first_output m k) k by ask answer

    links : (replied (without_first_output m k) k by ask answer).links ≡ m.links
    links = (replied_beside m1 k by ask answer).links

    after_is : (replied (without_first_output m k) k by ask answer).txns by.txn ≡ (replied_txns m1 k by ask answer).after
    after_is = ap (λ (f : ℕ → Txn). f by.txn) (replied_txns m1 k by ask answer).is ∙ at_same m.txns by.txn (replied_txns m1 k by ask answer).after

    heard : Heard (m.txns by.txn) ((replied (without_first_output m k) k by ask answer).txns by.txn) k by.connection ask answer
    heard = subst (λ (y : Txn). Heard (m.txns by.txn) y k by.connection ask answer) (sym after_is) (replied_txns m1 k by ask answer).heard

    handed : (t j : ℕ) (grant : Grant) → Holds (replied (without_first_output m k) k by ask answer) t j grant → IsGranted m j (lock_of t ((replied (without_first_output m k) k by ask answer).txns t).graph grant)
    handed t j grant h = by_case (cases_eq t by.txn) where
      by_case : (t ≡ by.txn) ⊎ (t ≢ by.txn) → IsGranted m j (lock_of t ((replied (without_first_output m k) k by ask answer).txns t).graph grant)
      by_case (inl same) =
          subst (λ n. IsGranted m j (lock_of n ((replied (without_first_output m k) k by ask answer).txns n).graph grant)) (sym same)
          (heard_back m new numbered g (same_links new links) k by ask answer rest front connected (heard_graph heard) heard j grant (subst (λ n. Holds (replied (without_first_output m k) k by ask answer) n j grant) same h))
      by_case (inr other) =
          let is : (replied (without_first_output m k) k by ask answer).txns t ≡ m.txns t = ap (λ (f : ℕ → Txn). f t) (replied_txns m1 k by ask answer).is ∙ at_other m.txns by.txn (replied_txns m1 k by ask answer).after t other in
          turned_back m new numbered g (same_links new links) t j grant (ap (λ (y : Txn). y.graph) is) (subst (GrantsTurn (m.txns t)) (sym is) (same_grants (m.txns t))) h

    coming : (j : ℕ) (lock : BrickLock) → has_closed ((replied (without_first_output m k) k by ask answer).bricks j).outputs ≡ true → IsGranting lock ((replied (without_first_output m k) k by ask answer).bricks j).outputs → is_current ((replied (without_first_output m k) k by ask answer).links j lock.by.graph) lock.by.connection ≡ true → IsGranted m j lock
    coming j lock closing h current =
        came m new numbered g (same_links new links) j lock
        (popped k (Answered by ask answer) rest front (λ l i. inr i) j lock (subst (λ (f : ℕ → Brick). IsGranting lock (f j).outputs) (replied_beside m1 k by ask answer).bricks h)) current

  closes_back : (k : ℕ) (rest : List Output) → (m.bricks k).outputs ≡ Closed ∷ rest → GrantsBack m (without_links (without_first_output m k) k (λ h. true))
  closes_back k rest front = record { handed = λ t j grant h. turned_back m new numbered g links t j grant refl (KeepsGrants refl (λ u. u) (λ u. u)) h; coming = coming } where
    new : State
    new = without_links (without_first_output m k) k (λ h. true)

    links : LinksBack m (without_links (without_first_output m k) k (λ h. true))
    links j h c low current = open_before (m.links j h) _ (ended_link m k (λ o. true) j h) c current

    shut : (h c : ℕ) → is_current ((without_links (without_first_output m k) k (λ o. true)).links k h) c ≡ true → ⊥
    shut h c current = absurd (let no : true ≡ false = sym (both_left _ _ current) ∙ ap (λ (f : ℕ → Link). (f h).is_open) (at_same m.links k (λ i. if true then closed (m.links k i) else m.links k i)) in cc)

    coming : (j : ℕ) (lock : BrickLock) → has_closed ((without_links (without_first_output m k) k (λ o. true)).bricks j).outputs ≡ true → IsGranting lock ((without_links (without_first_output m k) k (λ o. true)).bricks j).outputs → is_current ((without_links (without_first_output m k) k (λ o. true)).links j lock.by.graph) lock.by.connection ≡ true → IsGranted m j lock
    coming j lock closing h current = by_case (cases_eq j k) where
      by_case : (j ≡ k) ⊎ (j ≢ k) → IsGranted m j lock
      by_case (inl same) = absurd (shut lock.by.graph lock.by.connection (subst (λ n. is_current ((without_links (without_first_output m k) k (λ o. true)).links n lock.by.graph) lock.by.connection ≡ true) same current))
      by_case (inr other) = came m new numbered g links j lock (subst (λ (b : Brick). IsGranting lock b.outputs) (at_other m.bricks k _ j other) h) current

  hands_back : (k : ℕ) (o : Output) (rest : List Output) → (m.bricks k).outputs ≡ o ∷ rest → GrantsBack m (taken_in (without_first_output m k) k o)
  hands_back k (Answered by ask answer) rest front = by_case (is_current (m.links k by.graph) by.connection) refl where
    by_case : (b : Bool) → is_current (m.links k by.graph) by.connection ≡ b → GrantsBack m (if b then replied (without_first_output m k) k by ask answer else without_first_output m k)
    by_case true connected = replied_back k by ask answer rest front connected
    by_case false late = notice_back k (Answered by ask answer) rest front (λ l i. inr i)
  hands_back k Closed rest front = closes_back k rest front
  hands_back k Opened rest front = notice_back k Opened rest front (λ l i. i)
  hands_back k (Connected graph) rest front = notice_back k (Connected graph) rest front (λ l i. i)

  unsettles_back : (t : ℕ) (stage : Stage) → (m.txns t).stage ≡ stage → GrantsBack m (unsettling m t stage)
  unsettles_back t (Marking u) is = quiet (unsettling m t (Marking u)) (λ k. refl) (same_links (unsettling m t (Marking u)) refl) (one_graph t _ refl) (one_turns t _ (KeepsGrants refl (λ h. ap is_unlocking is) (λ h. absurd cc)))
  unsettles_back t other is = quiet m (λ k. refl) (same_links m refl) (λ i. refl) (λ i. same_grants (m.txns i))

  decides_back : (o : Option (ℕ × Bool)) → GrantsBack m (decided m o)
  decides_back o = quiet (decided m o) (same_outputs (decided m o) (decided_bricks m o)) (same_links (decided m o) (decided_links m o)) (λ i. ap (λ (f : ℕ → Txn). (f i).graph) (decided_txns m o)) (λ i. subst (λ (f : ℕ → Txn). GrantsTurn (m.txns i) (f i)) (sym (decided_txns m o)) (same_grants (m.txns i)))

  -- ---- each step

  pub step_back : (step : Step) → Allowed size m step → GrantsBack m (after size m step)
  step_back (Step.Turns t (Turn.Begins graph own)) h = begins_back t graph own
  step_back (Step.Turns t turn) h = turns_back t turn h refl
  step_back (Step.Asks t k first asked) h = quiet (after size m (Step.Asks t k first asked)) (lined k (inputs_of (sender_of m t k) (asks_of first asked))) (same_links (after size m (Step.Asks t k first asked)) refl) (one_graph t _ refl) (one_turns t _ (KeepsGrants refl (λ u. u) (λ u. u)))
  step_back (Step.Controls k steering) h = quiet (after size m (Step.Controls k steering)) (lined k (Steered steering ∷ [])) (same_links (after size m (Step.Controls k steering)) refl) (λ i. refl) (λ i. same_grants (m.txns i))
  step_back (Step.Serves k) h = let b = m.bricks k in
      works k _ (subst (λ (x : Brick). Adds b.outputs x.outputs) (sym (ap (λ (l : List Input). served_front l (record b { line = without_front l })) h.front)) (served_adds (record b { line = h.rest }) b.power h.by h.asked))
  step_back (Step.Refuses k answer) h = let b = m.bricks k in
      works k _ (subst (λ (x : Brick). Adds b.outputs x.outputs) (sym (ap (λ (l : List Input). refused_front l answer (record b { line = without_front l })) h.request.front)) (answering_adds b.outputs h.request.by h.request.asked answer))
  step_back (Step.GivesUp k) h = let b = m.bricks k in
      works k _ (subst (λ (x : Brick). Adds b.outputs x.outputs) (sym (ap (λ (l : List Input). given_up_front l (record b { line = without_front l })) h.front)) (answering_adds b.outputs h.by h.asked Gone))
  step_back (Step.Steers k) h = let b = m.bricks k in
      works k _ (subst (λ (x : Brick). Adds b.outputs x.outputs) (sym (ap (λ (l : List Input). steered_front l (record b { line = without_front l })) h.front)) (steered_adds (record b { line = h.rest }) h.steering))
  step_back (Step.HandsIn k) h = subst (λ (os : List Output). GrantsBack m (take_in_front (without_first_output m k) k os)) (sym h.front) (hands_back k h.first h.rest h.front)
  step_back (Step.Bails t k) h = quiet (after size m (Step.Bails t k)) (λ j. refl) (same_links (after size m (Step.Bails t k)) refl) (one_graph t _ refl)
      (one_turns t _ (KeepsGrants refl (goes_unlocks (m.txns t).stage (passed (m.txns t).stage) (StageGoes.PassesOn refl)) (goes_none (m.txns t).stage (passed (m.txns t).stage) (StageGoes.PassesOn refl))))
  step_back (Step.Misses t k) h = quiet (after size m (Step.Misses t k)) (λ j. refl) (same_links (after size m (Step.Misses t k)) refl) (one_graph t _ refl) (one_turns t _ (KeepsGrants refl (λ u. u) (λ u. u)))
  step_back (Step.Connects k g1) h = connects_back k g1
  step_back (Step.Cuts k g1) h = cuts_back k g1
  step_back (Step.Unsettles t) h = unsettles_back t (m.txns t).stage refl
  step_back (Step.Decides t) h = decides_back (decided_by (m.txns t).stage)
  step_back (Step.Draws number) h = quiet (after size m (Step.Draws number)) (λ k. refl) (same_links (after size m (Step.Draws number)) refl) (λ i. refl) (λ i. same_grants (m.txns i))

pub grants_apart : (size : Size) (m : State) → IsReached size m → GrantsApart m
grants_apart size m IsReached.Start = λ k a b differ x y. absurd (start_none k a x)
grants_apart size m (IsReached.Further old step reached allowed) =
    let next = IsReached.Further old step reached allowed in
    back_apart old (after size old step) (step_back size old (on_their_way size old reached).numbered (grants_are_held size old reached) step allowed) (grants_are_held size (after size old step) next) (held_apart size (after size old step) next) (grants_apart size old reached)
