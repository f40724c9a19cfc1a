-- Each step keeps what is asked what the phase sends.
use Rattle.std.proofs.Common.{◌≡◌, ◌∙◌, ℕ, ◌+◌, ◌≤◌, Bool, true, false, refl, sym, ap, subst, ◌⊎◌, inl, inr, arith, Option, Some, None}
use Rattle.std.specs.Prelude.{if◌then◌else◌, List, ◌∷◌, ◌≢◌, ◌==◌}
use Rattle.std.proofs.lemmas.Bool.{cases_eq}
use Rattle.fop_types.specs.declared.jobs.Job.{Job}
use Rattle.fop_types.specs.declared.jobs.Job.TheVariants as job
use Rattle.afr_machine.specs.Replicas.{Size, with_at}
use Rattle.afr_machine.specs.Requests.{Sender, Ask, Answer, Output}
use Rattle.afr_machine.specs.Requests.Output.{Answered, Closed, Opened, Connected}
use Rattle.afr_machine.specs.Changes.{Change, is_unsettled}
use Rattle.afr_machine.specs.Transactions.{Stage, Txn, new_txn}
use Rattle.afr_machine.specs.Transactions.Stage.{Marking, Applying, Posting}
use Rattle.afr_machine.specs.States.{State, is_current}
use Rattle.afr_machine.specs.Answering.{is_single, passed, missing, awaits, replied, taken_in, without_output, without_first_output}
use Rattle.afr_machine.specs.Turns.{Turn, after_turn, drawing}
use Rattle.afr_machine.specs.Steps.{Step, Allowed, after, IsReached, take_in_front, unsettling, deciding, decided, decided_by}
use Rattle.afr_machine.proofs.Tables.{at_same, at_other}
use Rattle.afr_laws.specs.Senders.{EachOutput}
use Rattle.afr_laws.specs.Numbered.{IsNumbered}
use Rattle.afr_laws.specs.Flights.{is_mine, flight, AreOnTheirWay}
use Rattle.afr_laws.specs.Drawn.{change_in, ChangesAreDrawn}
use Rattle.afr_laws.specs.OwnChanges.{was_unsettled, IsOwnStage, ChangesAreOwn}
use Rattle.afr_laws.specs.Waiting.{IsCopying, EachWaitsFit}
use Rattle.afr_laws.specs.Asking.{IsAskedBy, LastIs, AsksAre, EachAskIsOfItsPhase}
use Rattle.afr_laws.proofs.Bools.{both_left, both_right}
use Rattle.afr_laws.proofs.Carry.{at_case}
use Rattle.afr_laws.proofs.Heard.{replied_txns}
use Rattle.afr_laws.proofs.Stages.{StageGoes}
use Rattle.afr_laws.proofs.Stages.StageGoes.{StaysIn, PassesOn, CopiesOn}
use Rattle.afr_laws.proofs.Txns.{is_beginning, turn_flights}
use Rattle.afr_laws.proofs.Waiting.{is_confirming, not_answered, turn_idle, turn_others, waits_fit, passed_stays}
use Rattle.afr_laws.proofs.Flying.{on_their_way}
use Rattle.afr_laws.proofs.FlightHands.{first_flies, single_tail}
use Rattle.afr_laws.proofs.Drawn.{changes_are_drawn}
use Rattle.afr_laws.proofs.OwnChanges.Replies.{replied_table, heard_task}
use Rattle.afr_laws.proofs.OwnChanges.Steps.{changes_are_own}
use Rattle.afr_laws.proofs.Newest.Stays.{is_marking, turn_changes}
use Rattle.afr_laws.proofs.Asking.Carries.{last_map, SameAsked, asked_carry}
use Rattle.afr_laws.proofs.Asking.Sent.{asked_exactly}
use Rattle.afr_laws.proofs.Asking.Replies.{replied_done, heard_asks, forgotten_asks}

-- the changes go on, for one transaction
asks_carry : (size : Size) (old new : ℕ → Change) (x : Txn) → ((u : ℕ) → change_in x.stage ≡ u → SameAsked x.stage u (old u) (new u)) → AsksAre size old x → AsksAre size new x
asks_carry size old new x same a k is = last_map (IsAskedBy size old x.job x.stage k) (IsAskedBy size new x.job x.stage k) (x.flying k) (asked_carry size old new x.job k x.stage same) (a k is)

-- where no answer is missing
idle : (size : Size) (changes : ℕ → Change) (x : Txn) → ((k : ℕ) → x.waits k ≡ true → ⊥) → AsksAre size changes x
idle size changes x none k is = absurd (none k is)

module _ (size : Size) (m : State) (a : EachAskIsOfItsPhase size m) where
  -- ---- what is handed in

  module _ (k : ℕ) (by : Sender) (ask : Ask) (answer : Answer) (rest : List Output) (front : (m.bricks k).outputs ≡ Answered by ask answer ∷ rest) (connected : is_current (m.links k by.graph) by.connection ≡ true)
      (way : AreOnTheirWay m) (fit : EachWaitsFit size m) (own : ChangesAreOwn m) where
    abbrev x : Txn
    x = m.txns by.txn

    abbrev m1 : State
    m1 = without_first_output m k

    -- the reply is to the request that was awaited
    awaited : awaits x k ≡ true → IsAskedBy size m.changes x.job x.stage k ask
    awaited waits =
        let graph : by.graph ≡ x.graph = (subst (EachOutput (IsNumbered m k)) front (way.numbered k).outputs).0.graph in
        let flies = first_flies m k by ask answer rest front graph way.known way.few connected in
        let behind : List Ask = flight (is_mine by.txn (m.links k x.graph)) (record (m.bricks k) { outputs = without_output (m.bricks k).outputs }) in
        let single = single_tail (x.flying k) ask behind flies (both_right (x.waits k) (is_single (x.flying k)) waits) in
        subst (LastIs (IsAskedBy size m.changes x.job x.stage k)) (flies ∙ ap (λ z. ask ∷ z) single) (a by.txn k (both_left (x.waits k) (is_single (x.flying k)) waits))

    -- nobody posts a change that is applied
    applies_alone : (i u : ℕ) → ((replied m1 k by ask answer).txns i).stage ≡ Posting u → x.stage ≡ Applying u → ⊥
    applies_alone i u posts applies = by_case (cases_eq i by.txn) where
      p : ((replied m1 k by ask answer).txns by.txn) ≡ (replied_txns m1 k by ask answer).after
      p = ap (λ (f : ℕ → Txn). f by.txn) (replied_txns m1 k by ask answer).is ∙ at_same m.txns by.txn (replied_txns m1 k by ask answer).after

      goes : (old new : Stage) → StageGoes old new → old ≡ Applying u → new ≡ Posting u → ⊥
      goes old new (StaysIn is) from to = absurd (let no : Applying u ≡ Posting u = sym from ∙ sym is ∙ to in cc)
      goes old new (PassesOn is) from to = absurd (let no : Applying u ≡ Posting u = sym (ap passed from) ∙ sym is ∙ to in cc)
      goes old new (CopiesOn c d) from to = subst IsCopying from c

      mine : ((m.txns by.txn).own ≡ u) × ((1 ≤ u) × (was_unsettled (m.changes u).verdict ≡ true))
      mine = subst (λ s. IsOwnStage m.changes (m.txns by.txn).own s) applies (own.own by.txn).stage

      by_case : (i ≡ by.txn) ⊎ (i ≢ by.txn) → ⊥
      by_case (inl same) = goes x.stage _ (heard_task (m.txns by.txn) _ k by.connection ask answer (replied_txns m1 k by ask answer).heard).1 applies (sym (ap (λ (y : Txn). y.stage) p) ∙ sym (ap (λ n. ((replied m1 k by ask answer).txns n).stage) same) ∙ posts)
      by_case (inr other) =
          let is : (replied m1 k by ask answer).txns i ≡ m.txns i = ap (λ (f : ℕ → Txn). f i) (replied_txns m1 k by ask answer).is ∙ at_other m.txns by.txn (replied_txns m1 k by ask answer).after i other in
          let theirs = subst (λ s. IsOwnStage m.changes (m.txns i).own s) (sym (ap (λ (y : Txn). y.stage) is) ∙ posts) (own.own i).stage in
          let one = theirs.1.0 in
          other (sym ((own.own i).owns (subst (λ n. 1 ≤ n) (sym theirs.0) one)).by ∙ ap (λ n. (m.changes n).by) (theirs.0 ∙ sym mine.0) ∙ ((own.own by.txn).owns (subst (λ n. 1 ≤ n) (sym mine.0) one)).by)

    pub replied_asks : EachAskIsOfItsPhase size (replied m1 k by ask answer)
    replied_asks i =
        let p = replied_txns m1 k by ask answer in
        let s = replied_table m1 k by ask answer in
        asks_carry size m.changes (replied m1 k by ask answer).changes ((replied m1 k by ask answer).txns i)
        (λ u is. record { cells = (s u).cells; op = (s u).op; done = λ posts. replied_done m1 k u by (applies_alone i u posts) ask answer })
        (subst (λ (f : ℕ → Txn). AsksAre size m.changes (f i)) (sym p.is)
        (at_case (λ n y. AsksAre size m.changes y) m.txns by.txn p.after (heard_asks size m.changes x k (fit by.txn) (a by.txn) by.connection ask answer p.after awaited p.heard) i (λ ne. a i)))

  hands_asks : (k : ℕ) (o : Output) (rest : List Output) → (m.bricks k).outputs ≡ o ∷ rest → AreOnTheirWay m → EachWaitsFit size m → ChangesAreOwn m → EachAskIsOfItsPhase size (taken_in (without_first_output m k) k o)
  hands_asks k (Answered by ask answer) rest front way fit own = by_case (is_current (m.links k by.graph) by.connection) refl where
    by_case : (b : Bool) → is_current (m.links k by.graph) by.connection ≡ b → EachAskIsOfItsPhase size (if b then replied (without_first_output m k) k by ask answer else without_first_output m k)
    by_case true connected = replied_asks k by ask answer rest front connected way fit own
    by_case false late = a
  hands_asks k Closed rest front way fit own = λ i. forgotten_asks size m.changes (m.txns i) k (fit i) (a i) (λ g. true)
  hands_asks k Opened rest front way fit own = a
  hands_asks k (Connected graph) rest front way fit own = a

  -- ---- turns

  turn_asks : (t : ℕ) (turn : Turn) → Allowed size m (Step.Turns t turn) → is_beginning turn ≡ false → is_confirming turn ≡ false → EachWaitsFit size m → (i : ℕ) → AsksAre size m.changes ((after_turn size m t turn).txns i)
  turn_asks t turn h b c fit i = by_case (cases_eq i t) where
    by_case : (i ≡ t) ⊎ (i ≢ t) → AsksAre size m.changes ((after_turn size m t turn).txns i)
    by_case (inl same) = subst (λ n. AsksAre size m.changes ((after_turn size m t turn).txns n)) (sym same)
        (idle size m.changes ((after_turn size m t turn).txns t) (λ k is. let was : (m.txns t).waits k ≡ true = sym (ap (λ (f : ℕ → Bool). f k) (turn_flights size m t turn h b t).waits) ∙ is in turn_idle size m t turn k h b c was (fit t k was)))
    by_case (inr other) = subst (AsksAre size m.changes) (sym (turn_others size m t turn i other)) (a i)

  turned_asks : (t : ℕ) (turn : Turn) → Allowed size m (Step.Turns t turn) → is_beginning turn ≡ false → is_confirming turn ≡ false → is_marking turn ≡ false → EachWaitsFit size m → EachAskIsOfItsPhase size (after size m (Step.Turns t turn))
  turned_asks t turn h b c k fit i = subst (λ (f : ℕ → Change). AsksAre size f ((after_turn size m t turn).txns i)) (sym (turn_changes size m t turn k)) (turn_asks t turn h b c fit i)

  -- a change that is drawn is no stage's yet, but its own transaction's, which waits for nothing
  drawn_table : (d : ChangesAreDrawn m) (t : ℕ) (own : Job) (u : ℕ) (stage : Stage) → u ≤ m.drawn → SameAsked stage u (m.changes u) ((drawing m t own).changes u)
  drawn_table d t (job.Change cells fd op effect) u stage low = let e = at_other m.changes (m.drawn + 1) _ u (λ e. absurd (omega (arith, e, low))) in record { cells = ap (λ (c : Change). c.cells) e; op = ap (λ (c : Change). c.op) e; done = λ p. ap (λ (c : Change). c.done) e }
  drawn_table d t other u stage low = record { cells = refl; op = refl; done = λ p. refl }

  marks_asks : (t : ℕ) → Allowed size m (Step.Turns t Turn.Marks) → ChangesAreDrawn m → EachWaitsFit size m → EachAskIsOfItsPhase size (after size m (Step.Turns t Turn.Marks))
  marks_asks t h d fit i = by_case (cases_eq i t) where
    new : State
    new = after_turn size m t Turn.Marks

    by_case : (i ≡ t) ⊎ (i ≢ t) → AsksAre size (after_turn size m t Turn.Marks).changes ((after_turn size m t Turn.Marks).txns i)
    by_case (inl same) = subst (λ n. AsksAre size (after_turn size m t Turn.Marks).changes ((after_turn size m t Turn.Marks).txns n)) (sym same)
        (idle size (after_turn size m t Turn.Marks).changes ((after_turn size m t Turn.Marks).txns t) (λ k is. let was : (m.txns t).waits k ≡ true = sym (ap (λ (f : ℕ → Bool). f k) (turn_flights size m t Turn.Marks h refl t).waits) ∙ is in turn_idle size m t Turn.Marks k h refl refl was (fit t k was)))
    by_case (inr other) = subst (AsksAre size (after_turn size m t Turn.Marks).changes) (sym (turn_others size m t Turn.Marks i other))
        (asks_carry size m.changes (after_turn size m t Turn.Marks).changes (m.txns i) (λ u is. drawn_table d t (m.txns t).job u (m.txns i).stage (subst (λ n. n ≤ m.drawn) is (d.names i).stage)) (a i))

  -- ---- verdicts

  verdict_same : (v : ℕ) (c : Change) → c.cells ≡ (m.changes v).cells → c.op ≡ (m.changes v).op → c.done ≡ (m.changes v).done → (stage : Stage) (u : ℕ) → SameAsked stage u (m.changes u) (with_at m.changes v c u)
  verdict_same v c cells op done stage u = at_case (λ n (d : Change). SameAsked stage n (m.changes n) d) m.changes v c (record { cells = cells; op = op; done = λ p. done }) u (λ ne. record { cells = refl; op = refl; done = λ p. refl })

  unsettled_asks : (t : ℕ) (stage : Stage) → ((k : ℕ) → (m.txns t).waits k ≡ true → ⊥) → EachAskIsOfItsPhase size (unsettling m t stage)
  unsettled_asks t (Marking u) none i = at_case (λ n y. AsksAre size (unsettling m t (Marking u)).changes y) m.txns t _ (λ k is. absurd (none k is)) i (λ ne. asks_carry size m.changes (unsettling m t (Marking u)).changes (m.txns i) (λ v is. verdict_same u _ refl refl refl (m.txns i).stage v) (a i))
  unsettled_asks t other none i = a i

  decides_asks : (u : ℕ) (adopts first : Bool) → EachAskIsOfItsPhase size (deciding m u adopts first)
  decides_asks u adopts false i = a i
  decides_asks u true true i = asks_carry size m.changes _ (m.txns i) (λ v is. verdict_same u _ refl refl refl (m.txns i).stage v) (a i)
  decides_asks u false true i = asks_carry size m.changes _ (m.txns i) (λ v is. verdict_same u _ refl refl refl (m.txns i).stage v) (a i)

  decided_asks : (o : Option (ℕ × Bool)) → EachAskIsOfItsPhase size (decided m o)
  decided_asks None = a
  decided_asks (Some o) = decides_asks o.0 o.1 (is_unsettled (m.changes o.0).verdict)

  bailed_asks : (t k : ℕ) → EachWaitsFit size m → (m.txns t).waits k ≡ true → AsksAre size m.changes (missing (record (m.txns t) { waits = with_at (m.txns t).waits k false }) k)
  bailed_asks t k fit waiting j is = by_case (cases_eq j k) where
    by_case : (j ≡ k) ⊎ (j ≢ k) → LastIs (IsAskedBy size m.changes (m.txns t).job (passed (m.txns t).stage) j) ((m.txns t).flying j)
    by_case (inl same) = absurd (let no : false ≡ true = sym (ap (with_at (m.txns t).waits k false) same ∙ at_same (m.txns t).waits k false) ∙ is in cc)
    by_case (inr other) =
        let there : (m.txns t).waits j ≡ true = sym (at_other (m.txns t).waits k false j other) ∙ is in
        subst (λ s. LastIs (IsAskedBy size m.changes (m.txns t).job s j) ((m.txns t).flying j)) (sym (passed_stays (m.txns t).stage j k other (fit t j there).stage (fit t k waiting).stage)) (a t j there)

step_asks : (size : Size) (m : State) (step : Step) → Allowed size m step → AreOnTheirWay m → EachWaitsFit size m → ChangesAreDrawn m → ChangesAreOwn m → EachAskIsOfItsPhase size m → EachAskIsOfItsPhase size (after size m step)
step_asks size m (Step.Turns t (Turn.Begins graph own)) h way fit d o a = λ i. at_case (λ n y. AsksAre size m.changes y) m.txns t (new_txn graph own) (λ k is. absurd cc) i (λ ne. a i)
step_asks size m (Step.Turns t Turn.Confirms) h way fit d o a = a
step_asks size m (Step.Turns t Turn.Marks) h way fit d o a = marks_asks size m a t h d fit
step_asks size m (Step.Turns t turn) h way fit d o a = turned_asks size m a t turn h refl refl refl fit
step_asks size m (Step.Asks t k first asked) h way fit d o a = λ i. at_case (λ n y. AsksAre size m.changes y) m.txns t _ (asked_exactly size m t k first asked h.0 (a t)) i (λ ne. a i)
step_asks size m (Step.HandsIn k) h way fit d o a = subst (λ (os : List Output). EachAskIsOfItsPhase size (take_in_front (without_first_output m k) k os)) (sym h.front) (hands_asks size m a k h.first h.rest h.front way fit o)
step_asks size m (Step.Bails t k) h way fit d o a = λ i. at_case (λ n y. AsksAre size m.changes y) m.txns t _ (bailed_asks size m a t k fit h.waits) i (λ ne. a i)
step_asks size m (Step.Misses t k) h way fit d o a = λ i. at_case (λ n y. AsksAre size m.changes y) m.txns t _ (λ j is. a t j is) i (λ ne. a i)
step_asks size m (Step.Cuts k g) h way fit d o a = λ i. forgotten_asks size m.changes (m.txns i) k (fit i) (a i) (λ other. other == g)
step_asks size m (Step.Unsettles t) h way fit d o a = unsettled_asks size m a t (m.txns t).stage (λ k is. not_answered size (m.txns t) k h.answered is (fit t k is))
step_asks size m (Step.Decides t) h way fit d o a = decided_asks size m a (decided_by (m.txns t).stage)
step_asks size m other h way fit d o a = a

pub asks_are_of_phases : (size : Size) (m : State) → IsReached size m → EachAskIsOfItsPhase size m
asks_are_of_phases size m IsReached.Start = λ t k is. absurd cc
asks_are_of_phases size m (IsReached.Further old step reached allowed) =
    step_asks size old step allowed (on_their_way size old reached) (waits_fit size old reached) (changes_are_drawn size old reached) (changes_are_own size old reached) (asks_are_of_phases size old reached)
