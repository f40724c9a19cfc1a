-- A lock phase accuses whom its transaction's posts and settles accuse, over every list of steps.
use Rattle.std.proofs.Common.{◌≡◌, ◌∙◌, ℕ, ◌+◌, ◌≤◌, Bool, true, false, refl, sym, ap, subst, ◌⊎◌, inl, inr}
use Rattle.std.specs.Prelude.{[], ◌||◌, ◌==◌, not, nat_lt}
use Rattle.afr_machine.specs.Replicas.{Size, Replicas, outside, with_at}
use Rattle.afr_machine.specs.Requests.{Ask, Answer}
use Rattle.afr_machine.specs.Changes.{Change}
use Rattle.afr_machine.specs.Phases.{Phase}
use Rattle.afr_machine.specs.Phases.Deciding.{BySettles}
use Rattle.afr_machine.specs.Transactions.{Work, Stage, Txn, new_txn}
use Rattle.afr_machine.specs.Transactions.Work.{Own, Settles}
use Rattle.afr_machine.specs.Transactions.Stage.{Over, Locking, Locked, Marking, Applying, Posting, Settling, Bearing, Copying, Polling, Unlocking}
use Rattle.afr_machine.specs.States.{State, phase_of}
use Rattle.afr_machine.specs.Sending.{asking}
use Rattle.afr_machine.specs.Answering.{passed, missing}
use Rattle.afr_machine.specs.Turns.{Turn, entering, members, open_grants, locking_for, skipping, resting, drawing, deciding_now, posting, settling, bearing, clearing}
use Rattle.afr_machine.specs.Steps.{Step, Allowed, after, IsReached, unsettling, decided_by}
use Rattle.afr_machine.proofs.Tables.{at_same}
use Rattle.afr_laws.specs.Waiting.{IsCopying}
use Rattle.afr_laws.specs.OwnChanges.{IsOwnStage, ChangesAreOwn}
use Rattle.afr_laws.specs.Fresh.{EachKnowsPhase}
use Rattle.afr_laws.specs.Sound.{IsAccusedIn, EachAccusedIsKnown}
use Rattle.afr_laws.proofs.Bools.{is_or_not, apart_bools, both, both_left, both_right, not_true, or_last}
use Rattle.afr_laws.proofs.Carry.{at_case}
use Rattle.afr_laws.proofs.EachTxn.{only, forgotten, front_one}
use Rattle.afr_laws.proofs.Heard.{Heard}
use Rattle.afr_laws.proofs.Stages.{StageGoes}
use Rattle.afr_laws.proofs.Stages.StageGoes.{StaysIn, PassesOn, CopiesOn}
use Rattle.afr_laws.proofs.Goes.{decided_txns}
use Rattle.afr_laws.proofs.OwnChanges.Replies.{heard_task}
use Rattle.afr_laws.proofs.OwnChanges.Steps.{changes_are_own}
use Rattle.afr_laws.proofs.Fresh.Known.{phases_are_known}
use Rattle.afr_laws.proofs.Fresh.Steps.{step_phases}
use Rattle.afr_laws.proofs.LastPhase.Done.{step_done}

abbrev accuses_in : Stage → Bool
accuses_in (Posting u) = true
accuses_in (Settling u group adopts) = true
accuses_in other = false

-- ---- one transaction

passed_accused : (size : Size) (changes : ℕ → Change) (stage : Stage) (phase : Phase) → IsAccusedIn size changes stage phase → IsAccusedIn size changes (passed stage) phase
passed_accused size changes (Posting u) phase h = h
passed_accused size changes (Settling u group adopts) phase h = h
passed_accused size changes other phase h = tt

copying_accused : (size : Size) (changes : ℕ → Change) (stage : Stage) (phase : Phase) → IsCopying stage → IsAccusedIn size changes stage phase
copying_accused size changes (Copying run) phase h = tt
copying_accused size changes other phase h = absurd h

goes_accused : (size : Size) (changes : ℕ → Change) (old new : Stage) (phase : Phase) → StageGoes old new → IsAccusedIn size changes old phase → IsAccusedIn size changes new phase
goes_accused size changes old new phase (StaysIn is) h = subst (λ s. IsAccusedIn size changes s phase) (sym is) h
goes_accused size changes old new phase (PassesOn is) h = subst (λ s. IsAccusedIn size changes s phase) (sym is) (passed_accused size changes old phase h)
goes_accused size changes old new phase (CopiesOn c d) h = copying_accused size changes new phase d

quiet_accused : (size : Size) (changes : ℕ → Change) (stage : Stage) (phase : Phase) → accuses_in stage ≡ false → IsAccusedIn size changes stage phase
quiet_accused size changes (Posting u) phase h = absurd cc
quiet_accused size changes (Settling u group adopts) phase h = absurd cc
quiet_accused size changes other phase h = tt

-- who is outside a larger set is outside the smaller one
outside_less : (size : Size) (old new : Replicas) (i : ℕ) → (old i ≡ true → new i ≡ true) → outside size new i ≡ true → outside size old i ≡ true
outside_less size old new i more h = both (nat_lt i size.replicas) (not (old i)) (both_left (nat_lt i size.replicas) (not (new i)) h) (by_case (is_or_not (old i))) where
  by_case : (old i ≡ true) ⊎ (old i ≡ false) → not (old i) ≡ true
  by_case (inl has) = apart_bools (more has) (not_true (new i) (both_right (nat_lt i size.replicas) (not (new i)) h))
  by_case (inr lacks) = ap not lacks

-- ---- one step

module _ (size : Size) (m : State) (own : ChangesAreOwn m) (known : EachKnowsPhase m) (a : EachAccusedIsKnown size m) (step : Step) where
  abbrev new : State
  new = after size m step

  -- phases and changes go on
  carried : (p : ℕ) (stage : Stage) → p ≤ m.ended → ((u : ℕ) → stage ≡ Posting u → u ≤ m.drawn) → IsAccusedIn size m.changes stage (m.phases p) → IsAccusedIn size new.changes stage (new.phases p)
  carried p (Posting u) low named h = λ i out. (step_phases size m step).accused p low i (h i (outside_less size (m.changes u).done (new.changes u).done i ((step_done size m step u (named u refl)).done i) out))
  carried p (Settling u group adopts) low named h = λ i out. (step_phases size m step).accused p low i (h i out)
  carried p other low named h = tt

  posting_named : (t : ℕ) (u : ℕ) → (m.txns t).stage ≡ Posting u → u ≤ m.drawn
  posting_named t u is =
      let s = subst (λ s. IsOwnStage m.changes (m.txns t).own s) is (own.own t).stage in
      subst (λ n. n ≤ m.drawn) s.0 ((own.own t).owns (subst (λ n. 1 ≤ n) (sym s.0) s.1.0)).drawn_yet

  passed_posting : (stage : Stage) (u : ℕ) → passed stage ≡ Posting u → stage ≡ Posting u
  passed_posting (Locking cells shared next) u is = absurd cc
  passed_posting (Posting v) u is = is
  passed_posting other u is = absurd cc

  copying_posting : (stage : Stage) (u : ℕ) → IsCopying stage → stage ≡ Posting u → ⊥
  copying_posting (Copying run) u h is = absurd cc
  copying_posting other u h is = h

  goes_named : (t : ℕ) (stage : Stage) → StageGoes (m.txns t).stage stage → (u : ℕ) → stage ≡ Posting u → u ≤ m.drawn
  goes_named t stage (StaysIn same) u is = posting_named t u (sym same ∙ is)
  goes_named t stage (PassesOn passes) u is = posting_named t u (passed_posting (m.txns t).stage u (sym passes ∙ is))
  goes_named t stage (CopiesOn c d) u is = absurd (copying_posting stage u d is)

  goes : (t : ℕ) (y : Txn) → StageGoes (m.txns t).stage y.stage → y.phase ≡ (m.txns t).phase → IsAccusedIn size new.changes y.stage (new.phases y.phase)
  goes t y stage phase =
      subst (λ p. IsAccusedIn size new.changes y.stage (new.phases p)) (sym phase)
      (carried (m.txns t).phase y.stage (known t).low (goes_named t y.stage stage) (goes_accused size m.changes (m.txns t).stage y.stage (m.phases (m.txns t).phase) stage (a t)))

  stays : (t : ℕ) → IsAccusedIn size new.changes (m.txns t).stage (new.phases (m.txns t).phase)
  stays t = goes t (m.txns t) (StageGoes.StaysIn refl) refl

  quiet : (y : Txn) → accuses_in y.stage ≡ false → IsAccusedIn size new.changes y.stage (new.phases y.phase)
  quiet y none = quiet_accused size new.changes y.stage (new.phases y.phase) none

  abbrev pub holds : Txn → Type 0
  holds y = IsAccusedIn size new.changes y.stage (new.phases y.phase)

  forgets : (i k : ℕ) → holds (record (m.txns i) { flying = with_at (m.txns i).flying k [] })
  forgets i k = stays i

  hears : (t : ℕ) (y : Txn) (k connection : ℕ) (ask : Ask) (answer : Answer) → Heard (m.txns t) y k connection ask answer → holds y
  hears t y k connection ask answer h = let task = heard_task (m.txns t) y k connection ask answer h in goes t y task.1 task.0.phase

-- ---- turns

module _ (size : Size) (m : State) (own : ChangesAreOwn m) (known : EachKnowsPhase m) (a : EachAccusedIsKnown size m) (t : ℕ) where
  abbrev x : Txn
  x = m.txns t

  -- where the table of transactions has one more entry, and the other tables are those after the step
  one : (step : Step) (y : Txn) → (after size m step).txns ≡ with_at m.txns t y → IsAccusedIn size (after size m step).changes y.stage ((after size m step).phases y.phase) → EachAccusedIsKnown size (after size m step)
  one step y is h i = subst (λ (f : ℕ → Txn). IsAccusedIn size (after size m step).changes (f i).stage ((after size m step).phases (f i).phase)) (sym is) (only m (λ i. holds size m own known a step) (stays size m own known a step) t y h i)

  all_stay : (step : Step) → (after size m step).txns ≡ m.txns → EachAccusedIsKnown size (after size m step)
  all_stay step is i = subst (λ (f : ℕ → Txn). IsAccusedIn size (after size m step).changes (f i).stage ((after size m step).phases (f i).phase)) (sym is) (stays size m own known a step i)

  quiet_turn : (turn : Turn) (y : Txn) → (after size m (Step.Turns t turn)).txns ≡ with_at m.txns t y → accuses_in y.stage ≡ false → EachAccusedIsKnown size (after size m (Step.Turns t turn))
  quiet_turn turn y is none = one (Step.Turns t turn) y is (quiet size m own known a (Step.Turns t turn) y none)

  -- the posts are about to be sent, and the phase accuses whom they accuse
  posts_known : (u : ℕ) → (m.txns t).stage ≡ Applying u → EachAccusedIsKnown size (after size m (Step.Turns t Turn.Posts))
  posts_known u e = subst (EachAccusedIsKnown size) (sym (ap (posting size m t) e))
      (λ i. at_case (λ j (z : Txn). IsAccusedIn size m.changes z.stage ((posting size m t (Applying u)).phases z.phase)) m.txns t (entering (m.txns t) (Posting u) (m.changes u).done) now i (λ ne. beside i)) where
        beside : (i : ℕ) → IsAccusedIn size m.changes (m.txns i).stage ((posting size m t (Applying u)).phases (m.txns i).phase)
        beside i = subst (λ (n : State). IsAccusedIn size n.changes (m.txns i).stage (n.phases (m.txns i).phase)) (ap (posting size m t) e) (stays size m own known a (Step.Turns t Turn.Posts) i)

        now : (i : ℕ) → outside size (m.changes u).done i ≡ true → ((posting size m t (Applying u)).phases (m.txns t).phase).accused i ≡ true
        now i out =
            ap (λ (q : Phase). q.accused i) (at_same m.phases (m.txns t).phase (record (phase_of m t) { accused = λ j. (phase_of m t).accused j || outside size (m.changes u).done j }))
            ∙ or_last ((phase_of m t).accused i) (outside size (m.changes u).done i) out

  settles_known : (u : ℕ) (group : Replicas) (adopts : Bool) → (m.txns t).work ≡ Settles u → EachAccusedIsKnown size (after size m (Step.Turns t (Turn.SettlesAs group adopts)))
  settles_known u group adopts e = subst (EachAccusedIsKnown size) (sym (ap (λ w. settling size m t w group adopts) e))
      (λ i. at_case (λ j (z : Txn). IsAccusedIn size m.changes z.stage ((settling size m t (Settles u) group adopts).phases z.phase)) m.txns t (entering (m.txns t) (Settling u group adopts) (members m t)) now i (λ ne. beside i)) where
        beside : (i : ℕ) → IsAccusedIn size m.changes (m.txns i).stage ((settling size m t (Settles u) group adopts).phases (m.txns i).phase)
        beside i = subst (λ (n : State). IsAccusedIn size n.changes (m.txns i).stage (n.phases (m.txns i).phase)) (ap (λ w. settling size m t w group adopts) e) (stays size m own known a (Step.Turns t (Turn.SettlesAs group adopts)) i)

        middle : State
        middle = deciding_now m t (BySettles u group adopts)

        now : (i : ℕ) → outside size group i ≡ true → ((settling size m t (Settles u) group adopts).phases (m.txns t).phase).accused i ≡ true
        now i out =
            ap (λ (q : Phase). q.accused i) (at_same (deciding_now m t (BySettles u group adopts)).phases (m.txns t).phase (record (phase_of (deciding_now m t (BySettles u group adopts)) t) { accused = λ j. (phase_of (deciding_now m t (BySettles u group adopts)) t).accused j || outside size group j }))
            ∙ or_last ((phase_of (deciding_now m t (BySettles u group adopts)) t).accused i) (outside size group i) out

  locking_quiet : (work : Work) → accuses_in (locking_for m x work).stage ≡ false
  locking_quiet Own = refl
  locking_quiet (Settles u) = refl

  turned_known : (turn : Turn) → Allowed size m (Step.Turns t turn) → EachAccusedIsKnown size (after size m (Step.Turns t turn))
  turned_known (Turn.Begins graph own1) h = quiet_turn (Turn.Begins graph own1) (new_txn graph own1) refl refl
  turned_known (Turn.LocksFor work) h = quiet_turn (Turn.LocksFor work) (locking_for m x work) refl (locking_quiet work)
  turned_known Turn.Skips h = quiet_turn Turn.Skips (skipping x x.stage) refl (ap (λ s. accuses_in (skipping x s).stage) h.turn)
  turned_known Turn.Reaches h = quiet_turn Turn.Reaches (record x { stage = Locked; phase = m.ended + 1; out = λ k. x.out k || not (open_grants m t k) }) refl refl
  turned_known Turn.Marks h = quiet_turn Turn.Marks (record (entering (m.txns t) (Marking (m.drawn + 1)) (members m t)) { own = m.drawn + 1 }) (ap (λ j. (drawing m t j).txns) h.job_is) refl
  turned_known Turn.Posts h = posts_known h.change h.turn
  turned_known (Turn.SettlesAs group adopts) h = settles_known h.change group adopts h.work_is
  turned_known Turn.Bears h = quiet_turn Turn.Bears (entering (m.txns t) Bearing (members m t)) (ap (λ j. (bearing m t j).txns) h.job_is) refl
  turned_known Turn.Confirms h = all_stay (Step.Turns t Turn.Confirms) refl
  turned_known (Turn.Copies run) h = quiet_turn (Turn.Copies run) (entering x (Copying run) (λ k. false)) refl refl
  turned_known Turn.Clears h = quiet_turn Turn.Clears (entering x (Copying (record h.run { clears = true })) (members m t)) (ap (λ s. (clearing m t s).txns) h.turn) refl
  turned_known Turn.Polls h = quiet_turn Turn.Polls (entering x Polling (outside size x.out)) refl refl
  turned_known Turn.Unlocks h = quiet_turn Turn.Unlocks (entering x Unlocking (open_grants m t)) refl refl
  turned_known Turn.Rests h = quiet_turn Turn.Rests (resting m t) refl refl
  turned_known Turn.Ends h = quiet_turn Turn.Ends (record x { stage = Over }) refl refl

-- ---- each step

passes : (m : State) (t k : ℕ) → StageGoes (m.txns t).stage (missing (record (m.txns t) { waits = with_at (m.txns t).waits k false }) k).stage
passes m t k = StageGoes.PassesOn refl

step_accused : (size : Size) (m : State) (step : Step) → Allowed size m step → ChangesAreOwn m → EachKnowsPhase m → EachAccusedIsKnown size m → EachAccusedIsKnown size (after size m step)
step_accused size m (Step.Turns t turn) h own known a = turned_known size m own known a t turn h
step_accused size m (Step.Asks t k first asked) h own known a =
    one size m own known a t (Step.Asks t k first asked) (asking (m.txns t) k (m.links k (m.txns t).graph).last first asked) refl (goes size m own known a (Step.Asks t k first asked) t (asking (m.txns t) k (m.links k (m.txns t).graph).last first asked) (StageGoes.StaysIn refl) refl)
step_accused size m (Step.HandsIn k) h own known a = front_one m (λ i. holds size m own known a (Step.HandsIn k)) (stays size m own known a (Step.HandsIn k)) (forgets size m own known a (Step.HandsIn k)) (hears size m own known a (Step.HandsIn k)) k (m.bricks k).outputs
step_accused size m (Step.Bails t k) h own known a =
    one size m own known a t (Step.Bails t k) (missing (record (m.txns t) { waits = with_at (m.txns t).waits k false }) k) refl (goes size m own known a (Step.Bails t k) t (missing (record (m.txns t) { waits = with_at (m.txns t).waits k false }) k) (passes m t k) refl)
step_accused size m (Step.Misses t k) h own known a =
    one size m own known a t (Step.Misses t k) (record (m.txns t) { left = with_at (m.txns t).left k false; out = with_at (m.txns t).out k true }) refl (goes size m own known a (Step.Misses t k) t (record (m.txns t) { left = with_at (m.txns t).left k false; out = with_at (m.txns t).out k true }) (StageGoes.StaysIn refl) refl)
step_accused size m (Step.Cuts k g) h own known a = forgotten m (λ i. holds size m own known a (Step.Cuts k g)) (stays size m own known a (Step.Cuts k g)) (forgets size m own known a (Step.Cuts k g)) (λ other. other == g) k
step_accused size m (Step.Unsettles t) h own known a =
    one size m own known a t (Step.Unsettles t) (entering (m.txns t) (Applying h.change) (m.txns t).confirmed) (ap (λ s. (unsettling m t s).txns) h.turn) (quiet size m own known a (Step.Unsettles t) (entering (m.txns t) (Applying h.change) (m.txns t).confirmed) refl)
step_accused size m (Step.Decides t) h own known a = all_stay size m own known a t (Step.Decides t) (decided_txns m (decided_by (m.txns t).stage))
step_accused size m (Step.Controls k steering) h own known a = stays size m own known a (Step.Controls k steering)
step_accused size m (Step.Serves k) h own known a = stays size m own known a (Step.Serves k)
step_accused size m (Step.Refuses k answer) h own known a = stays size m own known a (Step.Refuses k answer)
step_accused size m (Step.GivesUp k) h own known a = stays size m own known a (Step.GivesUp k)
step_accused size m (Step.Steers k) h own known a = stays size m own known a (Step.Steers k)
step_accused size m (Step.Connects k g) h own known a = stays size m own known a (Step.Connects k g)
step_accused size m (Step.Draws number) h own known a = stays size m own known a (Step.Draws number)

pub accused_are_known : (size : Size) (m : State) → IsReached size m → EachAccusedIsKnown size m
accused_are_known size m IsReached.Start = λ t. tt
accused_are_known size m (IsReached.Further old step reached allowed) = step_accused size old step allowed (changes_are_own size old reached) (phases_are_known size old reached) (accused_are_known size old reached)
