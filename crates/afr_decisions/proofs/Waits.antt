-- Locks are asked brick by brick, over every list of steps.
use Rattle.std.proofs.Common.{◌≡◌, ◌∙◌, ℕ, ◌+◌, ◌≤◌, Bool, true, false, refl, sym, ap, subst, ◌⊎◌, inl, inr, arith, Option, Some, None}
use Rattle.std.specs.Prelude.{if◌then◌else◌, List, [], ◌∷◌, ◌||◌, ◌==◌, ◌≢◌, not}
use Rattle.fop_types.specs.declared.cells.Cell.{Cell}
use Rattle.fop_types.specs.declared.jobs.Job.{Job}
use Rattle.afr_machine.specs.Replicas.{Size, Replicas, outside, with_at}
use Rattle.afr_machine.specs.Requests.{Sender, Ask, Answer, Output}
use Rattle.afr_machine.specs.Requests.Ask.{Lock, Unlock}
use Rattle.afr_machine.specs.Requests.Answer.{Rows}
use Rattle.afr_machine.specs.Requests.Output.{Answered, Closed, Opened, Connected}
use Rattle.afr_machine.specs.Transactions.{Work, Stage, Grant, Txn, new_txn}
use Rattle.afr_machine.specs.Transactions.Work.{Own, Settles}
use Rattle.afr_machine.specs.Transactions.Stage.{Over, Choosing, Locking, Locked, Marking, Applying, Posting, Settling, Bearing, Copying, Polling, Unlocking}
use Rattle.afr_machine.specs.States.{State, is_current}
use Rattle.afr_machine.specs.Sending.{asking}
use Rattle.afr_machine.specs.Answering.{awaits, passed, missing, hearing, landed, at_rest, forgetting, replied, taken_in, without_first_output}
use Rattle.afr_machine.specs.Turns.{Turn, MayTurn, entering, members, open_grants, after_turn, locking_for, skipping, resting, drawing, posting, settling, bearing, clearing}
use Rattle.afr_machine.specs.Steps.{Step, Allowed, after, IsReached, take_in_front, unsettling, decided, decided_by}
use Rattle.afr_machine.proofs.Tables.{at_other}
use Rattle.afr_laws.specs.Waiting.{MayWait, IsCopying}
use Rattle.afr_laws.specs.Grants.{has_none}
use Rattle.afr_laws.proofs.Carry.{at_case}
use Rattle.afr_laws.proofs.EachTxn.{forgotten}
use Rattle.afr_laws.proofs.Flying.{on_their_way}
use Rattle.afr_laws.proofs.Goes.{decided_txns}
use Rattle.afr_laws.proofs.Grants.{grants_are_held}
use Rattle.afr_laws.proofs.Heard.{Heard, replied_txns}
use Rattle.afr_laws.proofs.Heard.Heard.{Took, Passed, OpenDone, OpenMissed}
use Rattle.afr_laws.proofs.Stages.{StageGoes, GrantsGo, hearing_stage, hearing_grants}
use Rattle.afr_laws.proofs.Stages.StageGoes.{StaysIn, PassesOn, CopiesOn}
use Rattle.afr_laws.proofs.Stages.GrantsGo.{SameGrants, Granted, Released}
use Rattle.afr_laws.proofs.Waiting.{waits_fit}
use Rattle.afr_laws.proofs.Work.Known.{lock_asked}
use Rattle.afr_decisions.specs.Asks.{HoldsBelow, WaitsBelow, EveryLockIsInOrder}

abbrev pub IsBelow : Txn → Type 0
IsBelow x = (next j : ℕ) (cells : List Cell) (shared : Bool) → x.stage ≡ Locking cells shared next → next ≤ j → x.grants j ≡ None

abbrev is_locking : Stage → Bool
is_locking (Locking cells shared next) = true
is_locking other = false

abbrev turn_of : Stage → ℕ
turn_of (Locking cells shared next) = next
turn_of other = 0

-- a stage without locks to ask
none_asked : (y : Txn) → is_locking y.stage ≡ false → IsBelow y
none_asked y free next j cells shared is least = absurd (let e : false ≡ true = sym free ∙ ap is_locking is in cc)

-- where the turn is passed on, it was that of the brick before
passed_turn : (old : Stage) (cells : List Cell) (shared : Bool) (next : ℕ) → passed old ≡ Locking cells shared next → (P : ℕ → Type 0) → ((c : List Cell) (s : Bool) (n : ℕ) → old ≡ Locking c s n → next ≡ n + 1 → P n) → P (turn_of old)
passed_turn (Locking c s n) cells shared next is P more = more c s n refl (sym (ap turn_of is))
passed_turn other cells shared next is P more = absurd (let e : false ≡ true = ap is_locking is in cc)

goes_below : (x y : Txn) → StageGoes x.stage y.stage → ((j : ℕ) → x.grants j ≡ None → y.grants j ≡ None) → IsBelow x → IsBelow y
goes_below x y (StaysIn is) grants below next j cells shared stage least = grants j (below next j cells shared (sym is ∙ stage) least)
goes_below x y (PassesOn is) grants below next j cells shared stage least =
    passed_turn x.stage cells shared next (sym is ∙ stage) (λ n. y.grants j ≡ None) (λ c s n old next_is. grants j (below n j c s old (let l : n ≤ j = omega (arith, next_is, least) in l)))
goes_below x y (CopiesOn a b) grants below next j cells shared stage least = absurd (subst IsCopying stage b)

module _ (size : Size) (m : State) (r : IsReached size m) (was : (t : ℕ) → IsBelow (m.txns t)) where
  only : (t : ℕ) (y : Txn) → IsBelow y → (i : ℕ) → IsBelow (with_at m.txns t y i)
  only t y h i = at_case (λ j (z : Txn). IsBelow z) m.txns t y h i (λ ne. was i)

  table : (f g : ℕ → Txn) → g ≡ f → ((i : ℕ) → IsBelow (f i)) → (i : ℕ) → IsBelow (g i)
  table f g is h i = subst (λ (f : ℕ → Txn). IsBelow (f i)) (sym is) (h i)

  quiet : (t : ℕ) (y : Txn) → is_locking y.stage ≡ false → (i : ℕ) → IsBelow (with_at m.txns t y i)
  quiet t y free = only t y (none_asked y free)

  -- ---- turns

  locks : (t : ℕ) → (m.txns t).stage ≡ Choosing → (work : Work) → IsBelow (locking_for m (m.txns t) work)
  locks t choosing Own next j cells shared is least = (grants_are_held size m r).none t (ap has_none choosing) j
  locks t choosing (Settles u) next j cells shared is least = (grants_are_held size m r).none t (ap has_none choosing) j

  skips : (t : ℕ) (stage : Stage) → (m.txns t).stage ≡ stage → IsBelow (skipping (m.txns t) stage)
  skips t (Locking cells shared next) is = goes_below (m.txns t) (skipping (m.txns t) (Locking cells shared next)) (PassesOn (sym (ap passed is))) (λ j h. h) (was t)
  skips t other is = was t

  choosing_of : (t : ℕ) (work : Work) → MayTurn size m t (Turn.LocksFor work) → (m.txns t).stage ≡ Choosing
  choosing_of t Own h = h.turn
  choosing_of t (Settles u) h = h.turn

  turned : (t : ℕ) (turn : Turn) → MayTurn size m t turn → (i : ℕ) → IsBelow ((after_turn size m t turn).txns i)
  turned t (Turn.Begins graph job) h = quiet t (new_txn graph job) refl
  turned t (Turn.LocksFor work) h = only t (locking_for m (m.txns t) work) (locks t (choosing_of t work h) work)
  turned t Turn.Skips h = only t (skipping (m.txns t) (m.txns t).stage) (skips t (m.txns t).stage refl)
  turned t Turn.Reaches h = quiet t (record (m.txns t) { stage = Locked; phase = m.ended + 1; out = λ k. (m.txns t).out k || not (open_grants m t k) }) refl
  turned t Turn.Marks h =
      table (with_at m.txns t (record (entering (m.txns t) (Marking (m.drawn + 1)) (members m t)) { own = m.drawn + 1 })) ((drawing m t (m.txns t).job).txns) (ap (λ j. (drawing m t j).txns) h.job_is)
      (quiet t (record (entering (m.txns t) (Marking (m.drawn + 1)) (members m t)) { own = m.drawn + 1 }) refl)
  turned t Turn.Posts h =
      table (with_at m.txns t (entering (m.txns t) (Posting h.change) (m.changes h.change).done)) ((posting size m t (m.txns t).stage).txns) (ap (λ s. (posting size m t s).txns) h.turn)
      (quiet t (entering (m.txns t) (Posting h.change) (m.changes h.change).done) refl)
  turned t (Turn.SettlesAs group adopts) h =
      table (with_at m.txns t (entering (m.txns t) (Settling h.change group adopts) (members m t))) ((settling size m t (m.txns t).work group adopts).txns) (ap (λ w. (settling size m t w group adopts).txns) h.work_is)
      (quiet t (entering (m.txns t) (Settling h.change group adopts) (members m t)) refl)
  turned t Turn.Bears h =
      table (with_at m.txns t (entering (m.txns t) Bearing (members m t))) ((bearing m t (m.txns t).job).txns) (ap (λ j. (bearing m t j).txns) h.job_is) (quiet t (entering (m.txns t) Bearing (members m t)) refl)
  turned t Turn.Confirms h = was
  turned t (Turn.Copies run) h = quiet t (entering (m.txns t) (Copying run) (λ k. false)) refl
  turned t Turn.Clears h =
      table (with_at m.txns t (entering (m.txns t) (Copying (record h.run { clears = true })) (members m t))) ((clearing m t (m.txns t).stage).txns) (ap (λ s. (clearing m t s).txns) h.turn)
      (quiet t (entering (m.txns t) (Copying (record h.run { clears = true })) (members m t)) refl)
  turned t Turn.Polls h = quiet t (entering (m.txns t) Polling (outside size (m.txns t).out)) refl
  turned t Turn.Unlocks h = quiet t (entering (m.txns t) Unlocking (open_grants m t)) refl
  turned t Turn.Rests h = quiet t (resting m t) refl
  turned t Turn.Ends h = quiet t (record (m.txns t) { stage = Over }) refl

  -- ---- replies

  module _ (k : ℕ) where
    module _ (by : Sender) (ask : Ask) (answer : Answer) (rest : List Output) (front : (m.bricks k).outputs ≡ Answered by ask answer ∷ rest) (current : is_current (m.links k by.graph) by.connection ≡ true) where
      abbrev y : Txn
      y = hearing (at_rest (m.txns by.txn) k) k by.connection ask answer

      same_below : (z : Txn) → z.stage ≡ (m.txns by.txn).stage → z.grants ≡ (m.txns by.txn).grants → IsBelow z
      same_below z stage grants = goes_below (m.txns by.txn) z (StaysIn stage) (λ j h. ap (λ (f : ℕ → Option Grant). f j) grants ∙ h) (was by.txn)

      granted : awaits (m.txns by.txn) k ≡ true → (shared : Bool) (cells : List Cell) (grant : Grant) → ask ≡ Lock shared cells → (z : Txn) → z.grants ≡ with_at (m.txns by.txn).grants k (Some grant) → z.stage ≡ passed (m.txns by.txn).stage → IsBelow z
      granted waits shared cells grant is_lock z grants stage next j c s is least =
          let locking : (m.txns by.txn).stage ≡ Locking cells shared k = lock_asked size m (on_their_way size m r) (waits_fit size m r) k by ask answer rest front current waits shared cells is_lock in
          let next_is : next ≡ k + 1 = ap turn_of (sym is ∙ stage ∙ ap passed locking) in
          let beyond : k ≤ j = omega (arith, next_is, least) in
          ap (λ (f : ℕ → Option Grant). f j) grants ∙ at_other (m.txns by.txn).grants k (Some grant) j (λ same. absurd (omega (arith, same, next_is, least))) ∙ was by.txn k j cells shared locking beyond

      released : (j : ℕ) → (m.txns by.txn).grants j ≡ None → with_at (m.txns by.txn).grants k None j ≡ None
      released j h = at_case (λ i (g : Option Grant). (m.txns by.txn).grants i ≡ None → g ≡ None) (m.txns by.txn).grants k None (λ e. refl) j (λ ne e. e) h

      by_grants : awaits (m.txns by.txn) k ≡ true → GrantsGo (at_rest (m.txns by.txn) k) y k by.connection ask answer → IsBelow y
      by_grants waits (SameGrants same) = goes_below (m.txns by.txn) y (hearing_stage (at_rest (m.txns by.txn) k) k by.connection ask answer) (λ j h. ap (λ (f : ℕ → Option Grant). f j) same ∙ h) (was by.txn)
      by_grants waits (Granted shared cells rows is_lock is_rows grants stage) = granted waits shared cells (record { connection = by.connection; shared = shared; cells = cells; rows = rows }) is_lock y grants stage
      by_grants waits (Released is_unlock grants) = goes_below (m.txns by.txn) y (hearing_stage (at_rest (m.txns by.txn) k) k by.connection ask answer) (λ j h. ap (λ (f : ℕ → Option Grant). f j) grants ∙ released j h) (was by.txn)

      hears : (z : Txn) → Heard (m.txns by.txn) z k by.connection ask answer → IsBelow z
      hears z (Took plain waits flights is) = subst IsBelow (sym is) (by_grants waits (hearing_grants (at_rest (m.txns by.txn) k) k by.connection ask answer))
      hears z (Passed plain late is) = subst IsBelow (sym is) (same_below (landed (m.txns by.txn) k) refl refl)
      hears z (OpenDone opens is) = subst IsBelow (sym is) (same_below (landed (m.txns by.txn) k) refl refl)
      hears z (OpenMissed opens is) = subst IsBelow (sym is) (same_below (record (landed (m.txns by.txn) k) { waits = with_at (m.txns by.txn).waits k false; out = with_at (m.txns by.txn).out k true }) refl refl)

      replies : (i : ℕ) → IsBelow ((replied (without_first_output m k) k by ask answer).txns i)
      replies i =
          let p = replied_txns (without_first_output m k) k by ask answer in
          subst (λ (f : ℕ → Txn). IsBelow (f i)) (sym p.is) (only by.txn p.after (hears p.after p.heard) i)

    forgets : (ends : ℕ → Bool) (i : ℕ) → IsBelow (forgetting ends k (m.txns i))
    forgets ends i = forgotten m (λ j (z : Txn). IsBelow z) was (λ j n next l cells shared is least. was j next l cells shared is least) ends k i

    taken : (o : Output) (rest : List Output) → (m.bricks k).outputs ≡ o ∷ rest → (i : ℕ) → IsBelow ((taken_in (without_first_output m k) k o).txns i)
    taken (Answered by ask answer) rest front i = by_case (is_current (m.links k by.graph) by.connection) refl where
      by_case : (b : Bool) → is_current (m.links k by.graph) by.connection ≡ b → IsBelow ((if b then replied (without_first_output m k) k by ask answer else without_first_output m k).txns i)
      by_case true current = replies by ask answer rest front current i
      by_case false late = was i
    taken Closed rest front i = forgets (λ g. true) i
    taken Opened rest front i = was i
    taken (Connected graph) rest front i = was i

    hands : (os : List Output) → (m.bricks k).outputs ≡ os → (i : ℕ) → IsBelow ((take_in_front (without_first_output m k) k os).txns i)
    hands [] front i = was i
    hands (o ∷ os) front i = taken o os front i

  -- ---- every step

  below_after : (step : Step) → Allowed size m step → (i : ℕ) → IsBelow ((after size m step).txns i)
  below_after (Step.Turns t turn) h = turned t turn h
  below_after (Step.Asks t k first ask) h = only t (asking (m.txns t) k (m.links k (m.txns t).graph).last first ask) (λ next j cells shared is least. was t next j cells shared is least)
  below_after (Step.HandsIn k) h = hands k (m.bricks k).outputs refl
  below_after (Step.Bails t k) h = only t (missing (record (m.txns t) { waits = with_at (m.txns t).waits k false }) k) (goes_below (m.txns t) (missing (record (m.txns t) { waits = with_at (m.txns t).waits k false }) k) (PassesOn refl) (λ j e. e) (was t))
  below_after (Step.Misses t k) h = only t (record (m.txns t) { left = with_at (m.txns t).left k false; out = with_at (m.txns t).out k true }) (λ next j cells shared is least. was t next j cells shared is least)
  below_after (Step.Cuts k g) h = forgets k (λ other. other == g)
  below_after (Step.Unsettles t) h = table (with_at m.txns t (entering (m.txns t) (Applying h.change) (m.txns t).confirmed)) ((unsettling m t (m.txns t).stage).txns) (ap (λ s. (unsettling m t s).txns) h.turn) (quiet t (entering (m.txns t) (Applying h.change) (m.txns t).confirmed) refl)
  below_after (Step.Decides t) h = table m.txns ((decided m (decided_by (m.txns t).stage)).txns) (decided_txns m (decided_by (m.txns t).stage)) was
  below_after other h = was

-- ---- every list of steps

below : (size : Size) (m : State) → IsReached size m → (t : ℕ) → IsBelow (m.txns t)
below size m IsReached.Start = λ t. none_asked (m.txns t) refl
below size m (IsReached.Further old step reached allowed) = below_after size old reached (below size old reached) step allowed

waits_below : (size : Size) (m : State) → IsReached size m → WaitsBelow m
waits_below size m r t k next j cells shared is waits least =
    let turn : k ≡ next = subst (λ s. MayWait s k) is (waits_fit size m r t k waits).stage in
    below size m r t next j cells shared is (let l : next ≤ j = omega (arith, turn, least) in l)

pub locks_in_order : EveryLockIsInOrder
locks_in_order size m r = record { holds = λ t next j cells shared is least. below size m r t next j cells shared is least; waits = waits_below size m r }
