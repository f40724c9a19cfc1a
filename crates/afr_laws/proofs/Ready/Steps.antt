-- Each step keeps ready who takes a change.
use Rattle.std.proofs.Common.{◌≡◌, ◌∙◌, ℕ, ◌+◌, ◌≤◌, Bool, true, false, refl, sym, ap, subst, arith}
use Rattle.std.specs.Prelude.{[], ◌||◌, ◌==◌, not}
use Rattle.afr_machine.specs.Replicas.{Size, Replicas, outside, count, with_at}
use Rattle.afr_machine.specs.Requests.{Ask, Answer}
use Rattle.afr_machine.specs.Changes.{Change}
use Rattle.afr_machine.specs.Phases.{Phase}
use Rattle.afr_machine.specs.Transactions.{Work, Stage, Txn, new_txn}
use Rattle.afr_machine.specs.Transactions.Work.{Own, Settles}
use Rattle.afr_machine.specs.Transactions.Stage.{Over, Locked, Marking, Applying, Posting, Settling, Bearing, Copying, Polling, Unlocking}
use Rattle.afr_machine.specs.States.{State, phase_of}
use Rattle.afr_machine.specs.Sending.{asking}
use Rattle.afr_machine.specs.Answering.{passed, missing}
use Rattle.afr_machine.specs.Turns.{Turn, MayMarkNow, MaySettleNow, entering, members, open_grants, locking_for, skipping, resting, drawing, posting, settling, bearing, clearing}
use Rattle.afr_machine.specs.Steps.{Step, Allowed, after, IsReached, unsettling, decided_by}
use Rattle.afr_machine.proofs.Tables.{at_same}
use Rattle.afr_laws.specs.Waiting.{IsCopying}
use Rattle.afr_laws.specs.Drawn.{change_in, change_of, ChangesAreDrawn}
use Rattle.afr_laws.specs.Fresh.{EachKnowsPhase}
use Rattle.afr_laws.specs.Ready.{AreReady, IsReadyFor, MembersAreReady, EveryMemberIsReady}
use Rattle.afr_laws.proofs.Bools.{both}
use Rattle.afr_laws.proofs.Carry.{at_case}
use Rattle.afr_laws.proofs.Counts.{count_within}
use Rattle.afr_laws.proofs.EachTxn.{only, forgotten, front_one}
use Rattle.afr_laws.proofs.Heard.{Heard}
use Rattle.afr_laws.proofs.Heard.Heard.{Took, Passed, OpenDone, OpenMissed}
use Rattle.afr_laws.proofs.Stages.{StageGoes}
use Rattle.afr_laws.proofs.Stages.StageGoes.{StaysIn, PassesOn, CopiesOn}
use Rattle.afr_laws.proofs.Goes.{decided_txns}
use Rattle.afr_laws.proofs.OwnChanges.Replies.{heard_task}
use Rattle.afr_laws.proofs.Drawn.{changes_are_drawn}
use Rattle.afr_laws.proofs.Fresh.Phased.{PhasesGo}
use Rattle.afr_laws.proofs.Fresh.Known.{phases_are_known}
use Rattle.afr_laws.proofs.Fresh.Steps.{step_phases}
use Rattle.afr_laws.proofs.LastPhase.Done.{step_done}
use Rattle.afr_laws.proofs.Ready.Carry.{are_carry, group_carry}

abbrev takes_change : Stage → Bool
takes_change (Marking u) = true
takes_change (Applying u) = true
takes_change (Posting u) = true
takes_change (Settling u group adopts) = true
takes_change other = false

-- ---- one transaction

module _ (size : Size) (changes : ℕ → Change) (out : Replicas) (phase : Phase) where
  passed_ready : (stage : Stage) → IsReadyFor size changes stage out phase → IsReadyFor size changes (passed stage) out phase
  passed_ready (Marking u) h = h
  passed_ready (Applying u) h = h
  passed_ready (Posting u) h = h
  passed_ready (Settling u group adopts) h = h
  passed_ready other h = tt

  copying_ready : (stage : Stage) → IsCopying stage → IsReadyFor size changes stage out phase
  copying_ready (Copying run) h = tt
  copying_ready other h = absurd h

  goes_ready : (old new : Stage) → StageGoes old new → IsReadyFor size changes old out phase → IsReadyFor size changes new out phase
  goes_ready old new (StaysIn is) h = subst (λ s. IsReadyFor size changes s out phase) (sym is) h
  goes_ready old new (PassesOn is) h = subst (λ s. IsReadyFor size changes s out phase) (sym is) (passed_ready old h)
  goes_ready old new (CopiesOn c d) h = copying_ready new d

  quiet_ready : (stage : Stage) → takes_change stage ≡ false → IsReadyFor size changes stage out phase
  quiet_ready (Marking u) h = absurd cc
  quiet_ready (Applying u) h = absurd cc
  quiet_ready (Posting u) h = absurd cc
  quiet_ready (Settling u group adopts) h = absurd cc
  quiet_ready other h = tt

missed_out : (out : Replicas) (k j : ℕ) → out j ≡ true → with_at out k true j ≡ true
missed_out out k j h = at_case (λ i b. out i ≡ true → b ≡ true) out k true (λ o. refl) j (λ ne o. o) h

-- who is out stays out
heard_out : (x y : Txn) (k connection : ℕ) (ask : Ask) (answer : Answer) → Heard x y k connection ask answer → (j : ℕ) → x.out j ≡ true → y.out j ≡ true
heard_out x y k connection ask answer (Took plain waits same is) j h = same.out j h
heard_out x y k connection ask answer (Passed plain passes is) j h = ap (λ (z : Txn). z.out j) is ∙ h
heard_out x y k connection ask answer (OpenDone opens is) j h = ap (λ (z : Txn). z.out j) is ∙ h
heard_out x y k connection ask answer (OpenMissed opens is) j h = ap (λ (z : Txn). z.out j) is ∙ missed_out x.out k j h

more_done : (size : Size) (old new : Replicas) → ((k : ℕ) → old k ≡ true → new k ≡ true) → size.quorum ≤ count size.replicas old → size.quorum ≤ count size.replicas new
more_done size old new more many = omega (arith, many, count_within size.replicas old new (λ k low. more k))

-- ---- one step

module _ (size : Size) (m : State) (drawn : ChangesAreDrawn m) (known : EachKnowsPhase m) (a : MembersAreReady size m) (step : Step) where
  abbrev new : State
  new = after size m step

  abbrev pub holds : Txn → Type 0
  holds y = IsReadyFor size new.changes y.stage y.out (new.phases y.phase)

  carried : (t : ℕ) (stage : Stage) (gone : Replicas) → change_in stage ≤ m.drawn → ((j : ℕ) → (m.txns t).out j ≡ true → gone j ≡ true) →
      IsReadyFor size m.changes stage (m.txns t).out (phase_of m t) → IsReadyFor size new.changes stage gone (new.phases (m.txns t).phase)
  carried t stage gone named more h = by_case stage named h where
    g : PhasesGo m.ended m.phases new.phases
    g = step_phases size m step

    these : (u : ℕ) → u ≤ m.drawn → AreReady size (phase_of m t) (m.txns t).out (m.changes u).cells → AreReady size (new.phases (m.txns t).phase) gone (new.changes u).cells
    these u low h1 =
        are_carry size (phase_of m t) (new.phases (m.txns t).phase) (g.reached (m.txns t).phase (known t).low) (g.rows (m.txns t).phase (known t).low) (g.cleared (m.txns t).phase (known t).low)
        (m.txns t).out gone (m.changes u).cells (new.changes u).cells (step_done size m step u low).cells more h1

    by_case : (st : Stage) → change_in st ≤ m.drawn → IsReadyFor size m.changes st (m.txns t).out (phase_of m t) → IsReadyFor size new.changes st gone (new.phases (m.txns t).phase)
    by_case (Marking u) low h1 = these u low h1
    by_case (Applying u) low h1 = these u low h1
    by_case (Posting u) low h1 = (these u low h1.0, more_done size (m.changes u).done (new.changes u).done (step_done size m step u low).done h1.1)
    by_case (Settling u group adopts) low h1 =
        group_carry size (phase_of m t) (new.phases (m.txns t).phase) (g.reached (m.txns t).phase (known t).low) (g.rows (m.txns t).phase (known t).low)
        u (m.changes u).cells (new.changes u).cells adopts group (step_done size m step u low).cells h1
    by_case other low h1 = tt

  goes : (t : ℕ) (y : Txn) → StageGoes (m.txns t).stage y.stage → ((j : ℕ) → (m.txns t).out j ≡ true → y.out j ≡ true) → y.phase ≡ (m.txns t).phase → holds y
  goes t y stage more phase =
      subst (λ p. IsReadyFor size new.changes y.stage y.out (new.phases p)) (sym phase)
      (goes_ready size new.changes y.out (new.phases (m.txns t).phase) (m.txns t).stage y.stage stage (carried t (m.txns t).stage y.out (drawn.names t).stage more (a t)))

  stays : (i : ℕ) → holds (m.txns i)
  stays i = goes i (m.txns i) (StageGoes.StaysIn refl) (λ j h. h) refl

  forgets : (i k : ℕ) → holds (record (m.txns i) { flying = with_at (m.txns i).flying k [] })
  forgets i k = stays i

  hears : (t : ℕ) (y : Txn) (k connection : ℕ) (ask : Ask) (answer : Answer) → Heard (m.txns t) y k connection ask answer → holds y
  hears t y k connection ask answer h =
      let task = heard_task (m.txns t) y k connection ask answer h in
      goes t y task.1 (heard_out (m.txns t) y k connection ask answer h) task.0.phase

  quiet : (y : Txn) → takes_change y.stage ≡ false → holds y
  quiet y none = quiet_ready size new.changes y.out (new.phases y.phase) y.stage none

  -- the next stage of a change
  next : (t : ℕ) (stage : Stage) → (m.txns t).stage ≡ stage → IsReadyFor size new.changes stage (m.txns t).out (new.phases (m.txns t).phase)
  next t stage is = carried t stage (m.txns t).out (subst (λ s. change_in s ≤ m.drawn) is (drawn.names t).stage) (λ j h. h) (subst (λ s. IsReadyFor size m.changes s (m.txns t).out (phase_of m t)) is (a t))

-- ---- each step

module _ (size : Size) (m : State) (drawn : ChangesAreDrawn m) (known : EachKnowsPhase m) (a : MembersAreReady size m) where
  -- where the table of transactions has one more entry
  one : (step : Step) (t : ℕ) (y : Txn) → (after size m step).txns ≡ with_at m.txns t y → holds size m drawn known a step y → MembersAreReady size (after size m step)
  one step t y is h i = subst (λ (f : ℕ → Txn). holds size m drawn known a step (f i)) (sym is) (only m (λ i. holds size m drawn known a step) (stays size m drawn known a step) t y h i)

  quiet_turn : (t : ℕ) (turn : Turn) (y : Txn) → (after size m (Step.Turns t turn)).txns ≡ with_at m.txns t y → takes_change y.stage ≡ false → MembersAreReady size (after size m (Step.Turns t turn))
  quiet_turn t turn y is none = one (Step.Turns t turn) t y is (quiet size m drawn known a (Step.Turns t turn) y none)

  marks_ready : (t : ℕ) → MayMarkNow size m t → MembersAreReady size (after size m (Step.Turns t Turn.Marks))
  marks_ready t h = one (Step.Turns t Turn.Marks) t (record (entering (m.txns t) (Marking (m.drawn + 1)) (members m t)) { own = m.drawn + 1 }) (ap (λ j. (drawing m t j).txns) h.job_is) now where
    g : PhasesGo m.ended m.phases (drawing m t (m.txns t).job).phases
    g = step_phases size m (Step.Turns t Turn.Marks)

    cells_are : ((drawing m t (m.txns t).job).changes (m.drawn + 1)).cells ≡ h.cells
    cells_are = ap (λ j. ((drawing m t j).changes (m.drawn + 1)).cells) h.job_is ∙ ap (λ (c : Change). c.cells) (at_same m.changes (m.drawn + 1) _)

    now : AreReady size ((drawing m t (m.txns t).job).phases (m.txns t).phase) (m.txns t).out ((drawing m t (m.txns t).job).changes (m.drawn + 1)).cells
    now = are_carry size (phase_of m t) ((drawing m t (m.txns t).job).phases (m.txns t).phase) (g.reached (m.txns t).phase (known t).low) (g.rows (m.txns t).phase (known t).low) (g.cleared (m.txns t).phase (known t).low)
        (m.txns t).out (m.txns t).out h.cells ((drawing m t (m.txns t).job).changes (m.drawn + 1)).cells cells_are (λ j o. o)
        (λ k low there used cell has. h.ready k low (both ((phase_of m t).reached k) (not ((m.txns t).out k)) there (ap not used)) cell has)

  settles_ready : (t : ℕ) (group : Replicas) (adopts : Bool) → MaySettleNow size m t group adopts → MembersAreReady size (after size m (Step.Turns t (Turn.SettlesAs group adopts)))
  settles_ready t group adopts h =
      one (Step.Turns t (Turn.SettlesAs group adopts)) t (entering (m.txns t) (Settling h.change group adopts) (members m t)) (ap (λ w. (settling size m t w group adopts).txns) h.work_is)
      (group_carry size (phase_of m t) ((settling size m t (m.txns t).work group adopts).phases (m.txns t).phase) (g.reached (m.txns t).phase (known t).low) (g.rows (m.txns t).phase (known t).low)
      h.change (m.changes h.change).cells ((settling size m t (m.txns t).work group adopts).changes h.change).cells adopts group
      (step_done size m (Step.Turns t (Turn.SettlesAs group adopts)) h.change (subst (λ w. change_of w ≤ m.drawn) h.work_is (drawn.names t).work)).cells h.group_is) where
        g : PhasesGo m.ended m.phases (settling size m t (m.txns t).work group adopts).phases
        g = step_phases size m (Step.Turns t (Turn.SettlesAs group adopts))

  locking_quiet : (t : ℕ) (work : Work) → takes_change (locking_for m (m.txns t) work).stage ≡ false
  locking_quiet t Own = refl
  locking_quiet t (Settles u) = refl

  turned : (t : ℕ) (turn : Turn) → Allowed size m (Step.Turns t turn) → MembersAreReady size (after size m (Step.Turns t turn))
  turned t (Turn.Begins graph job) h = quiet_turn t (Turn.Begins graph job) (new_txn graph job) refl refl
  turned t (Turn.LocksFor work) h = quiet_turn t (Turn.LocksFor work) (locking_for m (m.txns t) work) refl (locking_quiet t work)
  turned t Turn.Skips h = quiet_turn t Turn.Skips (skipping (m.txns t) (m.txns t).stage) refl (ap (λ s. takes_change (skipping (m.txns t) s).stage) h.turn)
  turned t Turn.Reaches h = quiet_turn t Turn.Reaches (record (m.txns t) { stage = Locked; phase = m.ended + 1; out = λ k. (m.txns t).out k || not (open_grants m t k) }) refl refl
  turned t Turn.Marks h = marks_ready t h
  turned t Turn.Posts h = one (Step.Turns t Turn.Posts) t (entering (m.txns t) (Posting h.change) (m.changes h.change).done) (ap (λ s. (posting size m t s).txns) h.turn) (
    next size m drawn known a (Step.Turns t Turn.Posts) t (Applying h.change) h.turn,
    more_done size (m.changes h.change).done ((posting size m t (m.txns t).stage).changes h.change).done (step_done size m (Step.Turns t Turn.Posts) h.change (subst (λ s. change_in s ≤ m.drawn) h.turn (drawn.names t).stage)).done h.many,
  )
  turned t (Turn.SettlesAs group adopts) h = settles_ready t group adopts h
  turned t Turn.Bears h = quiet_turn t Turn.Bears (entering (m.txns t) Bearing (members m t)) (ap (λ j. (bearing m t j).txns) h.job_is) refl
  turned t Turn.Confirms h = stays size m drawn known a (Step.Turns t Turn.Confirms)
  turned t (Turn.Copies run) h = quiet_turn t (Turn.Copies run) (entering (m.txns t) (Copying run) (λ k. false)) refl refl
  turned t Turn.Clears h = quiet_turn t Turn.Clears (entering (m.txns t) (Copying (record h.run { clears = true })) (members m t)) (ap (λ s. (clearing m t s).txns) h.turn) refl
  turned t Turn.Polls h = quiet_turn t Turn.Polls (entering (m.txns t) Polling (outside size (m.txns t).out)) refl refl
  turned t Turn.Unlocks h = quiet_turn t Turn.Unlocks (entering (m.txns t) Unlocking (open_grants m t)) refl refl
  turned t Turn.Rests h = quiet_turn t Turn.Rests (resting m t) refl refl
  turned t Turn.Ends h = quiet_turn t Turn.Ends (record (m.txns t) { stage = Over }) refl refl

step_ready : (size : Size) (m : State) (step : Step) → Allowed size m step → ChangesAreDrawn m → EachKnowsPhase m → MembersAreReady size m → MembersAreReady size (after size m step)
step_ready size m (Step.Turns t turn) h drawn known a = turned size m drawn known a t turn h
step_ready size m (Step.Asks t k first asked) h drawn known a =
    one size m drawn known a (Step.Asks t k first asked) t (asking (m.txns t) k (m.links k (m.txns t).graph).last first asked) refl
    (goes size m drawn known a (Step.Asks t k first asked) t (asking (m.txns t) k (m.links k (m.txns t).graph).last first asked) (StageGoes.StaysIn refl) (λ j o. o) refl)
step_ready size m (Step.HandsIn k) h drawn known a =
    front_one m (λ i. holds size m drawn known a (Step.HandsIn k)) (stays size m drawn known a (Step.HandsIn k)) (forgets size m drawn known a (Step.HandsIn k)) (hears size m drawn known a (Step.HandsIn k)) k (m.bricks k).outputs
step_ready size m (Step.Bails t k) h drawn known a =
    one size m drawn known a (Step.Bails t k) t (missing (record (m.txns t) { waits = with_at (m.txns t).waits k false }) k) refl
    (goes size m drawn known a (Step.Bails t k) t (missing (record (m.txns t) { waits = with_at (m.txns t).waits k false }) k) (StageGoes.PassesOn refl) (missed_out (m.txns t).out k) refl)
step_ready size m (Step.Misses t k) h drawn known a =
    one size m drawn known a (Step.Misses t k) t (record (m.txns t) { left = with_at (m.txns t).left k false; out = with_at (m.txns t).out k true }) refl
    (goes size m drawn known a (Step.Misses t k) t (record (m.txns t) { left = with_at (m.txns t).left k false; out = with_at (m.txns t).out k true }) (StageGoes.StaysIn refl) (missed_out (m.txns t).out k) refl)
step_ready size m (Step.Cuts k g) h drawn known a = forgotten m (λ i. holds size m drawn known a (Step.Cuts k g)) (stays size m drawn known a (Step.Cuts k g)) (forgets size m drawn known a (Step.Cuts k g)) (λ other. other == g) k
step_ready size m (Step.Unsettles t) h drawn known a =
    one size m drawn known a (Step.Unsettles t) t (entering (m.txns t) (Applying h.change) (m.txns t).confirmed) (ap (λ s. (unsettling m t s).txns) h.turn) (next size m drawn known a (Step.Unsettles t) t (Marking h.change) h.turn)
step_ready size m (Step.Decides t) h drawn known a = λ i. subst (λ (f : ℕ → Txn). holds size m drawn known a (Step.Decides t) (f i)) (sym (decided_txns m (decided_by (m.txns t).stage))) (stays size m drawn known a (Step.Decides t) i)
step_ready size m (Step.Controls k steering) h drawn known a = stays size m drawn known a (Step.Controls k steering)
step_ready size m (Step.Serves k) h drawn known a = stays size m drawn known a (Step.Serves k)
step_ready size m (Step.Refuses k answer) h drawn known a = stays size m drawn known a (Step.Refuses k answer)
step_ready size m (Step.GivesUp k) h drawn known a = stays size m drawn known a (Step.GivesUp k)
step_ready size m (Step.Steers k) h drawn known a = stays size m drawn known a (Step.Steers k)
step_ready size m (Step.Connects k g) h drawn known a = stays size m drawn known a (Step.Connects k g)
step_ready size m (Step.Draws number) h drawn known a = stays size m drawn known a (Step.Draws number)

pub members_are_ready : EveryMemberIsReady
members_are_ready size m IsReached.Start = λ t. tt
members_are_ready size m (IsReached.Further old step reached allowed) = step_ready size old step allowed (changes_are_drawn size old reached) (phases_are_known size old reached) (members_are_ready size old reached)
