-- To which bricks the op of an unsettled change is still to be sent: they have not got it, over every list of steps.
use Rattle.std.proofs.Common.{◌≡◌, ◌∙◌, ℕ, ◌+◌, ◌≤◌, Bool, true, false, refl, sym, ap, subst, ◌⊎◌, inl, inr, arith}
use Rattle.std.specs.Prelude.{if◌then◌else◌, List, ◌||◌, ◌==◌, not}
use Rattle.fop_types.specs.declared.cells.Cell.{Cell}
use Rattle.afr_machine.specs.Replicas.{Size, Replicas, outside, with_at}
use Rattle.afr_machine.specs.Copies.{Fetched}
use Rattle.afr_machine.specs.Requests.{Ask, Answer}
use Rattle.afr_machine.specs.Requests.Ask.{Lock, Fetch, Replace, Op}
use Rattle.afr_machine.specs.Requests.Answer.{Rows, Content}
use Rattle.afr_machine.specs.Changes.{is_unsettled}
use Rattle.afr_machine.specs.Transactions.{Work, Stage, Txn, new_txn}
use Rattle.afr_machine.specs.Transactions.Work.{Own, Settles}
use Rattle.afr_machine.specs.Transactions.Stage.{Over, Locking, Locked, Marking, Applying, Posting, Settling, Bearing, Copying, Polling, Unlocking}
use Rattle.afr_machine.specs.States.{State}
use Rattle.afr_machine.specs.Sending.{MayAsk, asking}
use Rattle.afr_machine.specs.Answering.{is_wanted, passed, missing, granting, having, fetching, replacing, taking, hearing, landed, at_rest}
use Rattle.afr_machine.specs.Turns.{Turn, MayTurn, entering, members, open_grants, after_turn, locking_for, skipping, resting, drawing, posting, settling, bearing, clearing}
use Rattle.afr_machine.specs.Steps.{Step, MayUnsettle, Allowed, after, IsReached, unsettling, decided, decided_by}
use Rattle.afr_machine.proofs.Tables.{at_same}
use Rattle.afr_laws.specs.OwnChanges.{was_unsettled, IsOwnStage}
use Rattle.afr_laws.specs.Waiting.{IsCopying}
use Rattle.afr_laws.proofs.Bools.{apart_bools}
use Rattle.afr_laws.proofs.Carry.{at_case}
use Rattle.afr_laws.proofs.EachTxn.{forgotten, front_one}
use Rattle.afr_laws.proofs.Goes.{decided_txns}
use Rattle.afr_laws.proofs.Heard.{Heard}
use Rattle.afr_laws.proofs.Heard.Heard.{Took, Passed, OpenDone, OpenMissed}
use Rattle.afr_laws.proofs.OwnChanges.Steps.{changes_are_own}
use Rattle.afr_laws.proofs.Stages.{StageGoes, hearing_stage}
use Rattle.afr_laws.proofs.Stages.StageGoes.{StaysIn, PassesOn, CopiesOn}
use Rattle.afr_soundness.specs.CopyApart.{IsWithout}
use Rattle.afr_soundness.proofs.Deciding.Kept.{applying_own, drawn_by}
use Rattle.afr_soundness.proofs.Deciding.Whose.{decides_exactly}
use Rattle.afr_soundness.proofs.Unsettled.{UnsettledFrom, unsettled_from, becomes_own}
use Rattle.afr_soundness.proofs.CopyApart.Steps.{Sends, nowhere, stays_without, keeps_copies_apart}

-- ---- an answer leaves what is still to be sent

module _ (x : Txn) (k connection : ℕ) where
  granting_left : (shared : Bool) (cells : List Cell) (answer : Answer) → (granting x k connection shared cells answer).left ≡ x.left
  granting_left shared cells (Rows rows) = refl
  granting_left shared cells other = refl

  fetching_left : (stage : Stage) (cell : Cell) (found : Fetched) → (fetching x stage cell found).left ≡ x.left
  fetching_left (Copying run) cell found = refl
  fetching_left other cell found = refl

  having_left : (cell : Cell) (answer : Answer) → (having x cell answer).left ≡ x.left
  having_left cell (Content found) = fetching_left x.stage cell found
  having_left cell other = refl

  replacing_left : (stage : Stage) (cell : Cell) → (replacing x stage k cell).left ≡ x.left
  replacing_left (Copying run) cell = refl
  replacing_left other cell = refl

  taking_left : (ask : Ask) (answer : Answer) → (taking x k connection ask answer).left ≡ x.left
  taking_left (Lock shared cells) answer = granting_left shared cells answer
  taking_left (Fetch cell) answer = having_left cell answer
  taking_left (Replace cell found) answer = replacing_left x.stage cell
  taking_left other answer = refl

  hearing_left : (ask : Ask) (answer : Answer) → (hearing x k connection ask answer).left ≡ x.left
  hearing_left ask answer = by_case (is_wanted ask answer) where
    by_case : (b : Bool) → (if b then taking x k connection ask answer else missing x k).left ≡ x.left
    by_case true = taking_left ask answer
    by_case false = refl

abbrev is_applying : Stage → Bool
is_applying (Applying u) = true
is_applying other = false

passed_applying : (old : Stage) (u : ℕ) → passed old ≡ Applying u → old ≡ Applying u
passed_applying (Locking cells shared next) u is = absurd (let e : false ≡ true = ap is_applying is in cc)
passed_applying other u is = is

-- ---- who is left was left before

module _ (size : Size) (m : State) where
  abbrev LeftFrom : ℕ → Txn → Type 0
  LeftFrom t y = (u k : ℕ) → y.stage ≡ Applying u → y.left k ≡ true → ((m.txns t).stage ≡ Applying u) × ((m.txns t).left k ≡ true)

  stays : (t : ℕ) → LeftFrom t (m.txns t)
  stays t u k stage left = (stage, left)

  goes : (t : ℕ) (y : Txn) → StageGoes (m.txns t).stage y.stage → ((k : ℕ) → y.left k ≡ true → (m.txns t).left k ≡ true) → LeftFrom t y
  goes t y (StaysIn is) left u k stage h = (sym is ∙ stage, left k h)
  goes t y (PassesOn is) left u k stage h = (passed_applying (m.txns t).stage u (sym is ∙ stage), left k h)
  goes t y (CopiesOn a b) left u k stage h = absurd (subst IsCopying stage b)

  other_stage : (t : ℕ) (y : Txn) → is_applying y.stage ≡ false → LeftFrom t y
  other_stage t y free u k stage h = absurd (let e : false ≡ true = sym free ∙ ap is_applying stage in cc)

  only : (t : ℕ) (y : Txn) → LeftFrom t y → (i : ℕ) → LeftFrom i (with_at m.txns t y i)
  only t y h i = at_case (λ j (z : Txn). LeftFrom j z) m.txns t y h i (λ ne. stays i)

  table : (f g : ℕ → Txn) → g ≡ f → ((i : ℕ) → LeftFrom i (f i)) → (i : ℕ) → LeftFrom i (g i)
  table f g is h i = subst (λ (f : ℕ → Txn). LeftFrom i (f i)) (sym is) (h i)

  quiet : (t : ℕ) (y : Txn) → is_applying y.stage ≡ false → (i : ℕ) → LeftFrom i (with_at m.txns t y i)
  quiet t y free = only t y (other_stage t y free)

  less_left : (t j k : ℕ) → with_at (m.txns t).left j false k ≡ true → (m.txns t).left k ≡ true
  less_left t j k h = at_case (λ i b. b ≡ true → (m.txns t).left i ≡ true) (m.txns t).left j false (λ no. absurd (let e : false ≡ true = no in cc)) k (λ ne e. e) h

  locks : (t : ℕ) (work : Work) → LeftFrom t (locking_for m (m.txns t) work)
  locks t Own = other_stage t (locking_for m (m.txns t) Own) refl
  locks t (Settles u) = other_stage t (locking_for m (m.txns t) (Settles u)) refl

  skips : (t : ℕ) (stage : Stage) → (m.txns t).stage ≡ stage → LeftFrom t (skipping (m.txns t) stage)
  skips t (Locking cells shared next) is = other_stage t (skipping (m.txns t) (Locking cells shared next)) refl
  skips t other is = stays t

  turned : (t : ℕ) (turn : Turn) → MayTurn size m t turn → (i : ℕ) → LeftFrom i ((after_turn size m t turn).txns i)
  turned t (Turn.Begins graph job) h = quiet t (new_txn graph job) refl
  turned t (Turn.LocksFor work) h = only t (locking_for m (m.txns t) work) (locks t work)
  turned t Turn.Skips h = only t (skipping (m.txns t) (m.txns t).stage) (skips t (m.txns t).stage refl)
  turned t Turn.Reaches h = quiet t (record (m.txns t) { stage = Locked; phase = m.ended + 1; out = λ k. (m.txns t).out k || not (open_grants m t k) }) refl
  turned t Turn.Marks h =
      table (with_at m.txns t (record (entering (m.txns t) (Marking (m.drawn + 1)) (members m t)) { own = m.drawn + 1 })) ((drawing m t (m.txns t).job).txns) (ap (λ j. (drawing m t j).txns) h.job_is)
      (quiet t (record (entering (m.txns t) (Marking (m.drawn + 1)) (members m t)) { own = m.drawn + 1 }) refl)
  turned t Turn.Posts h =
      table (with_at m.txns t (entering (m.txns t) (Posting h.change) (m.changes h.change).done)) ((posting size m t (m.txns t).stage).txns) (ap (λ s. (posting size m t s).txns) h.turn)
      (quiet t (entering (m.txns t) (Posting h.change) (m.changes h.change).done) refl)
  turned t (Turn.SettlesAs group adopts) h =
      table (with_at m.txns t (entering (m.txns t) (Settling h.change group adopts) (members m t))) ((settling size m t (m.txns t).work group adopts).txns) (ap (λ w. (settling size m t w group adopts).txns) h.work_is)
      (quiet t (entering (m.txns t) (Settling h.change group adopts) (members m t)) refl)
  turned t Turn.Bears h =
      table (with_at m.txns t (entering (m.txns t) Bearing (members m t))) ((bearing m t (m.txns t).job).txns) (ap (λ j. (bearing m t j).txns) h.job_is) (quiet t (entering (m.txns t) Bearing (members m t)) refl)
  turned t Turn.Confirms h = stays
  turned t (Turn.Copies run) h = quiet t (entering (m.txns t) (Copying run) (λ k. false)) refl
  turned t Turn.Clears h =
      table (with_at m.txns t (entering (m.txns t) (Copying (record h.run { clears = true })) (members m t))) ((clearing m t (m.txns t).stage).txns) (ap (λ s. (clearing m t s).txns) h.turn)
      (quiet t (entering (m.txns t) (Copying (record h.run { clears = true })) (members m t)) refl)
  turned t Turn.Polls h = quiet t (entering (m.txns t) Polling (outside size (m.txns t).out)) refl
  turned t Turn.Unlocks h = quiet t (entering (m.txns t) Unlocking (open_grants m t)) refl
  turned t Turn.Rests h = quiet t (resting m t) refl
  turned t Turn.Ends h = quiet t (record (m.txns t) { stage = Over }) refl

  heard : (t : ℕ) (y : Txn) (k connection : ℕ) (ask : Ask) (answer : Answer) → Heard (m.txns t) y k connection ask answer → LeftFrom t y
  heard t y k connection ask answer (Took plain waits same is) =
      subst (LeftFrom t) (sym is) (goes t (hearing (at_rest (m.txns t) k) k connection ask answer) (hearing_stage (at_rest (m.txns t) k) k connection ask answer) (λ j h. sym (ap (λ (f : Replicas). f j) (hearing_left (at_rest (m.txns t) k) k connection ask answer)) ∙ h))
  heard t y k connection ask answer (Passed plain late is) = subst (LeftFrom t) (sym is) (goes t (landed (m.txns t) k) (StaysIn refl) (λ j h. h))
  heard t y k connection ask answer (OpenDone opens is) = subst (LeftFrom t) (sym is) (goes t (landed (m.txns t) k) (StaysIn refl) (λ j h. h))
  heard t y k connection ask answer (OpenMissed opens is) = subst (LeftFrom t) (sym is) (goes t (record (landed (m.txns t) k) { waits = with_at (m.txns t).waits k false; out = with_at (m.txns t).out k true }) (StaysIn refl) (λ j h. h))

  -- its change becomes unsettled now
  pub record BeginsNow (step : Step) (t u : ℕ) : Type 0 where
    pub is : step ≡ Step.Unsettles t
    pub may : MayUnsettle size m t
    pub change : u ≡ may.change

  abbrev FromEither : Step → ℕ → Txn → Type 0
  FromEither step i y = (v j : ℕ) → y.stage ≡ Applying v → y.left j ≡ true → (((m.txns i).stage ≡ Applying v) × ((m.txns i).left j ≡ true)) ⊎ BeginsNow step i v

  same_change : (u v : ℕ) → Applying u ≡ Applying v → v ≡ u
  same_change u v e = cc

  begins : (s : ℕ) (h : MayUnsettle size m s) (g : ℕ → Txn) → g ≡ with_at m.txns s (entering (m.txns s) (Applying h.change) (m.txns s).confirmed) → (i : ℕ) → FromEither (Step.Unsettles s) i (g i)
  begins s h g is i = subst (λ (f : ℕ → Txn). FromEither (Step.Unsettles s) i (f i)) (sym is)
      (at_case (λ j (z : Txn). FromEither (Step.Unsettles s) j z) m.txns s (entering (m.txns s) (Applying h.change) (m.txns s).confirmed) (λ v j e l. inr (record { is = refl; may = h; change = same_change h.change v e })) i (λ ne v j e l. inl (e, l)))

  pub left_from : (step : Step) → Allowed size m step → (t u k : ℕ) → ((after size m step).txns t).stage ≡ Applying u → ((after size m step).txns t).left k ≡ true → (((m.txns t).stage ≡ Applying u) × ((m.txns t).left k ≡ true)) ⊎ BeginsNow step t u
  left_from (Step.Turns s turn) h t u k stage left = inl (turned s turn h t u k stage left)
  left_from (Step.Asks s j first ask) h t u k stage left =
      inl (only s (asking (m.txns s) j (m.links j (m.txns s).graph).last first ask) (goes s (asking (m.txns s) j (m.links j (m.txns s).graph).last first ask) (StaysIn refl) (λ i e. less_left s j i e)) t u k stage left)
  left_from (Step.HandsIn j) h t u k stage left = inl (front_one m LeftFrom stays (λ i n a b c d. (c, d)) heard j (m.bricks j).outputs t u k stage left)
  left_from (Step.Bails s j) h t u k stage left = inl (only s (missing (record (m.txns s) { waits = with_at (m.txns s).waits j false }) j) (goes s (missing (record (m.txns s) { waits = with_at (m.txns s).waits j false }) j) (PassesOn refl) (λ i e. e)) t u k stage left)
  left_from (Step.Misses s j) h t u k stage left = inl (only s (record (m.txns s) { left = with_at (m.txns s).left j false; out = with_at (m.txns s).out j true }) (goes s (record (m.txns s) { left = with_at (m.txns s).left j false; out = with_at (m.txns s).out j true }) (StaysIn refl) (λ i e. less_left s j i e)) t u k stage left)
  left_from (Step.Cuts j g) h t u k stage left = inl (forgotten m LeftFrom stays (λ i n a b c d. (c, d)) (λ other. other == g) j t u k stage left)
  left_from (Step.Unsettles s) h t u k stage left = begins s h ((unsettling m s (m.txns s).stage).txns) (ap (λ st. (unsettling m s st).txns) h.turn) t u k stage left
  left_from (Step.Decides s) h t u k stage left = inl (table m.txns ((decided m (decided_by (m.txns s).stage)).txns) (decided_txns m (decided_by (m.txns s).stage)) stays t u k stage left)
  left_from other h t u k stage left = inl (stage, left)

-- ---- they have not got it

abbrev pub LeftAreWithout : State → Type 0
LeftAreWithout m = (t u k : ℕ) → (m.txns t).stage ≡ Applying u → (m.txns t).left k ≡ true → is_unsettled (m.changes u).verdict ≡ true → IsWithout m u k

module _ (size : Size) (m : State) (r : IsReached size m) (was : LeftAreWithout m) (step : Step) (allowed : Allowed size m step) (t u k : ℕ) where
  abbrev new : State
  new = after size m step

  module _ (left : (new.txns t).left k ≡ true) (applies : (m.txns t).stage ≡ Applying u) (left_then : (m.txns t).left k ≡ true) where
    sent : was_unsettled (m.changes u).verdict ≡ true
    sent = (subst (λ s. IsOwnStage m.changes (m.txns t).own s) applies ((changes_are_own size m r).own t).stage).1.1

    owner : (m.changes u).by ≡ t
    owner = (drawn_by size m r (decides_exactly size m r) step allowed t u (applying_own size m r (decides_exactly size m r) step allowed t u applies)).1

    -- it is not sent there now
    unsent : Sends size m r step allowed k u → ⊥
    unsent s = by_may (subst (Allowed size m) s.is allowed).0 where
      asked_left : (i : ℕ) → i ≡ t → step ≡ Step.Asks i k s.first (Op u s.op) → ⊥
      asked_left i same is =
          apart_bools left
          (ap (λ n. (new.txns n).left k) (sym same) ∙ ap (λ st. ((after size m st).txns i).left k) is ∙ ap (λ (z : Txn). z.left k) (at_same m.txns i (asking (m.txns i) k (m.links k (m.txns i).graph).last s.first (Op u s.op))) ∙ at_same (m.txns i).left k false)

      by_may : MayAsk size m s.txn k (Op u s.op) → ⊥
      by_may (inl h) = asked_left s.txn (sym (drawn_by size m r (decides_exactly size m r) step allowed s.txn u (applying_own size m r (decides_exactly size m r) step allowed s.txn u h.turn)).1 ∙ owner) s.is
      by_may (inr h) = let o : 1 ≤ u = (applying_own size m r (decides_exactly size m r) step allowed t u applies).1 in absurd (omega (arith, h.no_number, o))

    unsettled_then : UnsettledFrom size m r step allowed u → is_unsettled (m.changes u).verdict ≡ true
    unsettled_then (UnsettledFrom.Was h) = h
    unsettled_then (UnsettledFrom.Becomes s step_is h at) = apart_bools sent (ap (λ n. was_unsettled (m.changes n).verdict) at ∙ ap was_unsettled (becomes_own size m r step allowed s h).1.1)

    still_without : is_unsettled (m.changes u).verdict ≡ true → IsWithout new u k
    still_without before = stays_without size m r step allowed (keeps_copies_apart size m r).replaces u before k unsent (was t u k applies left_then before)

  without_after : (new.txns t).left k ≡ true → is_unsettled (new.changes u).verdict ≡ true → (((m.txns t).stage ≡ Applying u) × ((m.txns t).left k ≡ true)) ⊎ BeginsNow size m step t u → IsWithout new u k
  without_after left unsettled (inl old) = still_without left old.0 old.1 (unsettled_then left old.0 old.1 (unsettled_from size m r step allowed u unsettled))
  without_after left unsettled (inr now) = nowhere size m r step allowed t u now.is now.may now.change k

pub left_are_without : (size : Size) (m : State) → IsReached size m → LeftAreWithout m
left_are_without size m IsReached.Start = λ t u k stage. absurd (let e : false ≡ true = ap is_applying stage in cc)
left_are_without size m (IsReached.Further old step reached allowed) = λ t u k stage left unsettled.
    without_after size old reached (left_are_without size old reached) step allowed t u k left unsettled (left_from size old step allowed t u k stage left)
