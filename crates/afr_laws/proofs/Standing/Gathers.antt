-- Where a grant of a transaction that gathers rows comes from: it was there, or its reply is handed in now.
use Rattle.std.proofs.Common.{◌≡◌, ◌∙◌, ℕ, ◌+◌, Bool, true, false, refl, sym, ap, subst, inl, Some, None}
use Rattle.std.specs.Prelude.{if◌then◌else◌, List, [], ◌∷◌, ◌||◌, ◌==◌, not}
use Rattle.fop_types.specs.declared.cells.Cell.{Cell}
use Rattle.fop_types.specs.declared.contents.Row.{Row}
use Rattle.fop_types.specs.declared.jobs.Job.{Job}
use Rattle.fop_types.specs.declared.jobs.Job.TheVariants as job
use Rattle.afr_machine.specs.Replicas.{Size, Replicas, outside, with_at}
use Rattle.afr_machine.specs.Requests.{Sender, Ask, Answer, Output}
use Rattle.afr_machine.specs.Requests.Ask.{Lock}
use Rattle.afr_machine.specs.Requests.Answer.{Rows}
use Rattle.afr_machine.specs.Requests.Output.{Answered, Closed, Opened, Connected}
use Rattle.afr_machine.specs.Transactions.{Work, Stage, Txn, new_txn}
use Rattle.afr_machine.specs.Transactions.Work.{Own, Settles}
use Rattle.afr_machine.specs.Transactions.Stage.{Over, Locking, Locked, Marking, Applying, Posting, Settling, Bearing, Copying, Polling, Unlocking}
use Rattle.afr_machine.specs.States.{State, is_current}
use Rattle.afr_machine.specs.Sending.{asking}
use Rattle.afr_machine.specs.Answering.{missing, at_rest, forgetting, replied, taken_in, without_first_output}
use Rattle.afr_machine.specs.Turns.{Turn, MayLockFor, MayTurn, entering, members, open_grants, after_turn, locking_for, skipping, resting, drawing, posting, settling, bearing, clearing}
use Rattle.afr_machine.specs.Steps.{Step, Allowed, after, take_in_front, unsettling, decided_by}
use Rattle.afr_laws.specs.Senders.{EachOutput}
use Rattle.afr_laws.specs.Numbered.{IsNumbered, AreNumbered}
use Rattle.afr_laws.specs.Grants.{GrantsAreHeld, has_none, lock_of, lock_granted}
use Rattle.afr_laws.specs.Standing.{is_gathering, IsShowing}
use Rattle.afr_laws.proofs.Carry.{at_case}
use Rattle.afr_laws.proofs.Heard.{Heard, replied_txns}
use Rattle.afr_laws.proofs.Heard.Heard.{Took, Passed, OpenDone, OpenMissed}
use Rattle.afr_laws.proofs.Stages.{StageGoes, hearing_stage, GrantsGo, hearing_grants}
use Rattle.afr_laws.proofs.Stages.GrantsGo.{SameGrants, Granted, Released}
use Rattle.afr_laws.proofs.Goes.{decided_txns}
use Rattle.afr_laws.proofs.Standing.Calm.{passed_gathers, goes_gathers}

-- of a transaction after a step: it does not gather; it has no grants; it has those that it had; or it was handed a reply
pub data GathersFrom (m : State) (t : ℕ) (y : Txn) : Type 0 where
  NotNow : is_gathering y.stage ≡ false → GathersFrom m t y
  Empty : ((k : ℕ) → y.grants k ≡ None) → GathersFrom m t y
  Same : y.grants ≡ (m.txns t).grants → (is_gathering y.stage ≡ true → is_gathering (m.txns t).stage ≡ true) → y.graph ≡ (m.txns t).graph → GathersFrom m t y
  Hears : (k connection : ℕ) → (ask : Ask) → (answer : Answer) → GrantsGo (m.txns t) y k connection ask answer → (is_gathering y.stage ≡ true → is_gathering (m.txns t).stage ≡ true) → y.graph ≡ (m.txns t).graph →
      ((shared : Bool) (cells : List Cell) (rows : Cell → Row) → ask ≡ Lock shared cells → answer ≡ Rows rows → IsShowing (lock_of t y.graph (record { connection = connection; shared = shared; cells = cells; rows = rows })) rows (m.bricks k).outputs × (is_current (m.links k y.graph) connection ≡ true)) → GathersFrom m t y

pub same_gathers : (m : State) (t : ℕ) → GathersFrom m t (m.txns t)
same_gathers m t = GathersFrom.Same refl (λ h. h) refl

module _ (size : Size) (m : State) (t : ℕ) where
  abbrev x : Txn
  x = m.txns t

  only : (y : Txn) → GathersFrom m t y → (i : ℕ) → GathersFrom m i (with_at m.txns t y i)
  only y g i = at_case (λ j z. GathersFrom m j z) m.txns t y g i (λ ne. same_gathers m i)

  alike : (y : Txn) → y.grants ≡ x.grants → y.stage ≡ x.stage → y.graph ≡ x.graph → GathersFrom m t y
  alike y grants stage graph = GathersFrom.Same grants (λ h. sym (ap is_gathering stage) ∙ h) graph

  -- ---- turns

  skips_from : (stage : Stage) → x.stage ≡ stage → GathersFrom m t (skipping x stage)
  skips_from (Locking cells shared next) is = GathersFrom.Same refl (λ g. ap is_gathering is) refl
  skips_from other is = same_gathers m t

  draws_from : (own : Job) → (i : ℕ) → GathersFrom m i ((drawing m t own).txns i)
  draws_from (job.Change cells fd op effect) = only (record (entering (m.txns t) (Marking (m.drawn + 1)) (members m t)) { own = m.drawn + 1 }) (GathersFrom.NotNow refl)
  draws_from other = same_gathers m

  posts_from : (stage : Stage) → (i : ℕ) → GathersFrom m i ((posting size m t stage).txns i)
  posts_from (Applying u) = only (entering x (Posting u) (m.changes u).done) (GathersFrom.NotNow refl)
  posts_from other = same_gathers m

  settles_from : (work : Work) (group : Replicas) (adopts : Bool) → (i : ℕ) → GathersFrom m i ((settling size m t work group adopts).txns i)
  settles_from Own group adopts = same_gathers m
  settles_from (Settles u) group adopts = only (entering x (Settling u group adopts) (members m t)) (GathersFrom.NotNow refl)

  bears_from : (own : Job) → (i : ℕ) → GathersFrom m i ((bearing m t own).txns i)
  bears_from (job.Birth cells op) = only (entering x Bearing (members m t)) (GathersFrom.NotNow refl)
  bears_from other = same_gathers m

  clears_from : (stage : Stage) → (i : ℕ) → GathersFrom m i ((clearing m t stage).txns i)
  clears_from (Copying run) = only (entering x (Copying (record run { clears = true })) (members m t)) (GathersFrom.NotNow refl)
  clears_from other = same_gathers m

  locks_from : GrantsAreHeld m → (work : Work) → MayLockFor m t work → GathersFrom m t (locking_for m x work)
  locks_from g Own h = GathersFrom.Empty (g.none t (ap has_none h.turn))
  locks_from g (Settles u) h = GathersFrom.Empty (g.none t (ap has_none h.turn))

  turned_from : GrantsAreHeld m → (turn : Turn) → MayTurn size m t turn → (i : ℕ) → GathersFrom m i ((after_turn size m t turn).txns i)
  turned_from g (Turn.Begins graph own) h = only (new_txn graph own) (GathersFrom.Empty (λ k. refl))
  turned_from g (Turn.LocksFor work) h = only (locking_for m x work) (locks_from g work h)
  turned_from g Turn.Skips h = only (skipping x x.stage) (skips_from x.stage refl)
  turned_from g Turn.Reaches h = only (record x { stage = Locked; phase = m.ended + 1; out = λ k. x.out k || not (open_grants m t k) }) (GathersFrom.Same refl (λ e. ap is_gathering h.turn) refl)
  turned_from g Turn.Marks h = draws_from x.job
  turned_from g Turn.Posts h = posts_from x.stage
  turned_from g (Turn.SettlesAs group adopts) h = settles_from x.work group adopts
  turned_from g Turn.Bears h = bears_from x.job
  turned_from g Turn.Confirms h = same_gathers m
  turned_from g (Turn.Copies run) h = only (entering x (Copying run) (λ k. false)) (GathersFrom.NotNow refl)
  turned_from g Turn.Clears h = clears_from x.stage
  turned_from g Turn.Polls h = only (entering x Polling (outside size x.out)) (GathersFrom.NotNow refl)
  turned_from g Turn.Unlocks h = only (entering x Unlocking (open_grants m t)) (GathersFrom.NotNow refl)
  turned_from g Turn.Rests h = only (resting m t) (GathersFrom.NotNow refl)
  turned_from g Turn.Ends h = only (record x { stage = Over }) (GathersFrom.NotNow refl)

-- ---- what is handed in

module _ (m : State) (numbered : AreNumbered m) (k : ℕ) where
  forgotten_from : (ends : ℕ → Bool) (i : ℕ) → GathersFrom m i (forgetting ends k (m.txns i))
  forgotten_from ends i = by_case (ends (m.txns i).graph) where
    by_case : (b : Bool) → GathersFrom m i (if b then record (m.txns i) { flying = with_at (m.txns i).flying k [] } else m.txns i)
    by_case true = GathersFrom.Same refl (λ h. h) refl
    by_case false = same_gathers m i

  module _ (by : Sender) (ask : Ask) (answer : Answer) (rest : List Output) (front : (m.bricks k).outputs ≡ Answered by ask answer ∷ rest) (connected : is_current (m.links k by.graph) by.connection ≡ true) where
    own_graph : by.graph ≡ (m.txns by.txn).graph
    own_graph = (subst (EachOutput (IsNumbered m k)) front (numbered k).outputs).0.graph

    shows_now : (y : Txn) → y.graph ≡ (m.txns by.txn).graph → (shared : Bool) (cells : List Cell) (rows : Cell → Row) → ask ≡ Lock shared cells → answer ≡ Rows rows →
        IsShowing (lock_of by.txn y.graph (record { connection = by.connection; shared = shared; cells = cells; rows = rows })) rows (m.bricks k).outputs × (is_current (m.links k y.graph) by.connection ≡ true)
    shows_now y graph shared cells rows is_lock is_rows =
        let granted : lock_granted by ask answer ≡ Some (record { by = by; shared = shared; cells = cells }) = ap (λ a. lock_granted by a answer) is_lock ∙ ap (lock_granted by (Lock shared cells)) is_rows in
        let shown : IsShowing (record { by = by; shared = shared; cells = cells }) rows (m.bricks k).outputs = subst (IsShowing (record { by = by; shared = shared; cells = cells }) rows) (sym front) (inl (granted, is_rows)) in (
          subst (λ n. IsShowing (lock_of by.txn n (record { connection = by.connection; shared = shared; cells = cells; rows = rows })) rows (m.bricks k).outputs) (own_graph ∙ sym graph) shown,
          subst (λ n. is_current (m.links k n) by.connection ≡ true) (own_graph ∙ sym graph) connected,
        )

    heard_from : (y : Txn) → Heard (m.txns by.txn) y k by.connection ask answer → GathersFrom m by.txn y
    heard_from y (Took plain waits same is) =
        GathersFrom.Hears k by.connection ask answer (rest_goes (subst (λ (z : Txn). GrantsGo (at_rest (m.txns by.txn) k) z k by.connection ask answer) (sym is) (hearing_grants (at_rest (m.txns by.txn) k) k by.connection ask answer)))
        (goes_gathers (m.txns by.txn).stage y.stage (subst (λ (z : Txn). StageGoes (m.txns by.txn).stage z.stage) (sym is) (hearing_stage (at_rest (m.txns by.txn) k) k by.connection ask answer))) same.graph (shows_now y same.graph)
      where
        rest_goes : GrantsGo (at_rest (m.txns by.txn) k) y k by.connection ask answer → GrantsGo (m.txns by.txn) y k by.connection ask answer
        rest_goes (SameGrants e) = SameGrants e
        rest_goes (Granted shared cells rows is_lock is_rows grants stage) = Granted shared cells rows is_lock is_rows grants stage
        rest_goes (Released is_unlock grants) = Released is_unlock grants
    heard_from y (Passed plain passes is) = GathersFrom.Same (ap (λ (z : Txn). z.grants) is) (λ h. sym (ap (λ (z : Txn). is_gathering z.stage) is) ∙ h) (ap (λ (z : Txn). z.graph) is)
    heard_from y (OpenDone opens is) = GathersFrom.Same (ap (λ (z : Txn). z.grants) is) (λ h. sym (ap (λ (z : Txn). is_gathering z.stage) is) ∙ h) (ap (λ (z : Txn). z.graph) is)
    heard_from y (OpenMissed opens is) = GathersFrom.Same (ap (λ (z : Txn). z.grants) is) (λ h. sym (ap (λ (z : Txn). is_gathering z.stage) is) ∙ h) (ap (λ (z : Txn). z.graph) is)

    replied_from : (i : ℕ) → GathersFrom m i ((replied (without_first_output m k) k by ask answer).txns i)
    replied_from i =
        let p = replied_txns (without_first_output m k) k by ask answer in
        subst (λ (f : ℕ → Txn). GathersFrom m i (f i)) (sym p.is) (at_case (λ n z. GathersFrom m n z) m.txns by.txn p.after (heard_from p.after p.heard) i (λ ne. same_gathers m i))

  taken_from : (o : Output) (rest : List Output) → (m.bricks k).outputs ≡ o ∷ rest → (i : ℕ) → GathersFrom m i ((taken_in (without_first_output m k) k o).txns i)
  taken_from (Answered by ask answer) rest front i = by_case (is_current (m.links k by.graph) by.connection) refl where
    by_case : (b : Bool) → is_current (m.links k by.graph) by.connection ≡ b → GathersFrom m i ((if b then replied (without_first_output m k) k by ask answer else without_first_output m k).txns i)
    by_case true connected = replied_from by ask answer rest front connected i
    by_case false late = same_gathers m i
  taken_from Closed rest front i = forgotten_from (λ g. true) i
  taken_from Opened rest front i = same_gathers m i
  taken_from (Connected graph) rest front i = same_gathers m i

  front_from : (os : List Output) → (m.bricks k).outputs ≡ os → (i : ℕ) → GathersFrom m i ((take_in_front (without_first_output m k) k os).txns i)
  front_from [] is i = same_gathers m i
  front_from (o ∷ os) is i = taken_from o os is i

-- ---- each step

unsettled_from : (size : Size) (m : State) (t : ℕ) (stage : Stage) (i : ℕ) → GathersFrom m i ((unsettling m t stage).txns i)
unsettled_from size m t (Marking u) i = only size m t (entering (m.txns t) (Applying u) (m.txns t).confirmed) (GathersFrom.NotNow refl) i
unsettled_from size m t other i = same_gathers m i

pub gathers_from : (size : Size) (m : State) → AreNumbered m → GrantsAreHeld m → (step : Step) → Allowed size m step → (i : ℕ) → GathersFrom m i ((after size m step).txns i)
gathers_from size m n g (Step.Turns t turn) h = turned_from size m t g turn h
gathers_from size m n g (Step.Asks t k first asked) h = only size m t (asking (m.txns t) k (m.links k (m.txns t).graph).last first asked) (GathersFrom.Same refl (λ e. e) refl)
gathers_from size m n g (Step.HandsIn k) h = front_from m n k (m.bricks k).outputs refl
gathers_from size m n g (Step.Bails t k) h =
    only size m t (missing (record (m.txns t) { waits = with_at (m.txns t).waits k false }) k) (GathersFrom.Same refl (λ e. sym (passed_gathers (m.txns t).stage) ∙ e) refl)
gathers_from size m n g (Step.Misses t k) h = only size m t (record (m.txns t) { left = with_at (m.txns t).left k false; out = with_at (m.txns t).out k true }) (GathersFrom.Same refl (λ e. e) refl)
gathers_from size m n g (Step.Cuts k h1) h = forgotten_from m n k (λ other. other == h1)
gathers_from size m n g (Step.Unsettles t) h = unsettled_from size m t (m.txns t).stage
gathers_from size m n g (Step.Decides t) h = λ i. subst (λ (f : ℕ → Txn). GathersFrom m i (f i)) (sym (decided_txns m (decided_by (m.txns t).stage))) (same_gathers m i)
gathers_from size m n g other h = same_gathers m
