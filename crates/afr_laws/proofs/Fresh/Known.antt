-- Each step keeps what is known of lock phases.
use Rattle.std.proofs.Common.{◌≡◌, ◌∙◌, ℕ, ◌≤◌, Bool, true, false, refl, sym, ap, subst, ◌⊎◌, inl, inr, arith, Option, Some, None}
use Rattle.std.specs.Prelude.{if◌then◌else◌, List, [], ◌∷◌, ◌==◌}
use Rattle.fop_types.specs.declared.cells.Cell.{Cell}
use Rattle.afr_machine.specs.Replicas.{Size, with_at}
use Rattle.afr_machine.specs.Touching.{has_cell}
use Rattle.afr_machine.specs.Requests.{Sender, Ask, Answer, Output}
use Rattle.afr_machine.specs.Requests.Ask.{Lock, Unlock, Mark, Op, Post, Fetch, Replace, Clear, Settle, Index, Open, Release, OpenFirst}
use Rattle.afr_machine.specs.Requests.Output.{Answered, Closed, Opened, Connected}
use Rattle.afr_machine.specs.Changes.{Change}
use Rattle.afr_machine.specs.Phases.{Phase}
use Rattle.afr_machine.specs.Transactions.{Stage, Txn}
use Rattle.afr_machine.specs.Transactions.Work.{Own, Settles}
use Rattle.afr_machine.specs.Transactions.Stage.{Locking, Locked, Marking, Applying, Bearing, Copying, Polling, Unlocking}
use Rattle.afr_machine.specs.States.{State, is_current, phase_of}
use Rattle.afr_machine.specs.Births.{cells_of_work}
use Rattle.afr_machine.specs.Sending.{MayAsk, writes, wrote_if, asks_of, inputs_of, asking, after_asking}
use Rattle.afr_machine.specs.Answering.{missing, forgetting, replied, taken_in, without_first_output}
use Rattle.afr_machine.specs.Steps.{Step, Allowed, after, IsReached, take_in_front, unsettling, deciding, decided, decided_by}
use Rattle.afr_machine.proofs.Tables.{at_same}
use Rattle.afr_machine.proofs.Keeping.{replied_beside}
use Rattle.afr_laws.specs.Senders.{EachInput}
use Rattle.afr_laws.specs.Rows.{adds}
use Rattle.afr_laws.specs.Drawn.{ChangesAreDrawn}
use Rattle.afr_laws.specs.OwnChanges.{IsOwnStage, ChangesAreOwn}
use Rattle.afr_laws.specs.Waiting.{EachWaitsFit}
use Rattle.afr_laws.specs.Fresh.{is_behind, IsWorkOf, AsksFor, HasWritten, KnowsPhase, EachKnowsPhase, IsWritten}
use Rattle.afr_laws.proofs.Bools.{both_left}
use Rattle.afr_laws.proofs.Carry.{at_case}
use Rattle.afr_laws.proofs.Heard.{Heard, replied_txns}
use Rattle.afr_laws.proofs.Heard.Heard.{Took, Passed, OpenDone, OpenMissed}
use Rattle.afr_laws.proofs.Stages.{StageGoes}
use Rattle.afr_laws.proofs.Goes.{decided_txns}
use Rattle.afr_laws.proofs.Waiting.{waits_fit}
use Rattle.afr_laws.proofs.Drawn.{changes_are_drawn}
use Rattle.afr_laws.proofs.OwnChanges.Replies.{replied_table, heard_task}
use Rattle.afr_laws.proofs.Newest.Stays.{decided_stays}
use Rattle.afr_laws.proofs.Fresh.Phased.{PhasesGo, same_phases, phase_carry, SamePhase, same_cells, restaged, goes_work, goes_asks, goes_behind, written_goes_on}
use Rattle.afr_laws.proofs.Fresh.Phases.{replied_phases, asked_phases, decided_phases}
use Rattle.afr_laws.proofs.Fresh.Turns.{turned_known}
use Rattle.afr_laws.proofs.Fresh.Moves.{AddsOn}

-- ---- one transaction goes on

module _ (changes : ℕ → Change) (phases : ℕ → Phase) (ended : ℕ) (x y : Txn) (k : KnowsPhase changes phases ended x) where
  -- its stage goes on; who confirms was asked, or it waited for a brick
  known_goes : SamePhase x y → StageGoes x.stage y.stage → ((j : ℕ) → y.waits j ≡ true → x.waits j ≡ true) → ((j : ℕ) → y.confirmed j ≡ true → (x.confirmed j ≡ true) ⊎ ((i : ℕ) × (x.waits i ≡ true))) → KnowsPhase changes phases ended y
  known_goes s goes waits confirmed =
      restaged changes phases ended x y s (subst (IsWorkOf y.stage) (sym s.work) (goes_work x.stage y.stage x.work goes k.work))
      (subst (AsksFor y.stage) (sym (same_cells changes x y s)) (goes_asks x.stage y.stage (cells_of_work changes x x.work) goes k.asks))
      (goes_behind x.stage y.stage goes)
      (subst (λ p. HasWritten y y.stage (phases p).wrote) (sym s.phase) (written_goes_on x y (phases x.phase).wrote x.stage y.stage goes waits written k.wrote)) k
    where
      written : (u j : ℕ) → x.stage ≡ Marking u → y.confirmed j ≡ true → (phases x.phase).wrote ≡ true
      written u j is c = by_case (confirmed j c) where
        w : HasWritten x (Marking u) (phases x.phase).wrote
        w = subst (λ s. HasWritten x s (phases x.phase).wrote) is k.wrote

        by_case : (x.confirmed j ≡ true) ⊎ ((i : ℕ) × (x.waits i ≡ true)) → (phases x.phase).wrote ≡ true
        by_case (inl before) = w.1 j before
        by_case (inr waited) = w.0 waited.0 waited.1

  fewer : (n j : ℕ) → with_at x.waits n false j ≡ true → x.waits j ≡ true
  fewer n j = at_case (λ i b. b ≡ true → x.waits i ≡ true) x.waits n false (λ h. absurd cc) j (λ ne h. h)

  heard_known : (n connection : ℕ) (ask : Ask) (answer : Answer) → Heard x y n connection ask answer → KnowsPhase changes phases ended y
  heard_known n connection ask answer h = known_goes same (heard_task x y n connection ask answer h).1 (waits h) (confirmed h) where
    same : SamePhase x y
    same = let t = (heard_task x y n connection ask answer h).0 in record { job = t.own.job; work = t.work; phase = t.phase }

    waits : Heard x y n connection ask answer → (j : ℕ) → y.waits j ≡ true → x.waits j ≡ true
    waits (Took plain w s is) j h = fewer n j (sym (ap (λ (f : ℕ → Bool). f j) s.waits) ∙ h)
    waits (Passed plain passes is) j h = sym (ap (λ (z : Txn). z.waits j) is) ∙ h
    waits (OpenDone opens is) j h = sym (ap (λ (z : Txn). z.waits j) is) ∙ h
    waits (OpenMissed opens is) j h = fewer n j (sym (ap (λ (z : Txn). z.waits j) is) ∙ h)

    confirmed : Heard x y n connection ask answer → (j : ℕ) → y.confirmed j ≡ true → (x.confirmed j ≡ true) ⊎ ((i : ℕ) × (x.waits i ≡ true))
    confirmed (Took plain w s is) j h = inr (n, both_left _ _ w)
    confirmed (Passed plain passes is) j h = inl (sym (ap (λ (z : Txn). z.confirmed j) is) ∙ h)
    confirmed (OpenDone opens is) j h = inl (sym (ap (λ (z : Txn). z.confirmed j) is) ∙ h)
    confirmed (OpenMissed opens is) j h = inl (sym (ap (λ (z : Txn). z.confirmed j) is) ∙ h)

-- ---- what is sent

module _ (size : Size) (m : State) (t k : ℕ) (a : EachKnowsPhase m) where
  abbrev x : Txn
  x = m.txns t

  -- in the stage of marks only marks are sent
  marking_writes : (ask : Ask) → MayAsk size m t k ask → (u : ℕ) → x.stage ≡ Marking u → writes ask ≡ true
  marking_writes (Mark v cells) h u is = refl
  marking_writes (Post v cells accused) h u is = refl
  marking_writes (Replace cell found) h u is = refl
  marking_writes (Clear cells who) h u is = refl
  marking_writes (Settle v cells accused) h u is = refl
  marking_writes (Lock shared cells) h u is = absurd (let no : Locking cells shared k ≡ Marking u = sym h.turn ∙ is in cc)
  marking_writes Unlock h u is = absurd (let no : Unlocking ≡ Marking u = sym h.turn ∙ is in cc)
  marking_writes (Op v op) (inl h) u is = absurd (let no : Applying v ≡ Marking u = sym h.turn ∙ is in cc)
  marking_writes (Op v op) (inr h) u is = absurd (let no : Bearing ≡ Marking u = sym h.turn ∙ is in cc)
  marking_writes (Fetch cell) (inl h) u is = absurd (let no : Locked ≡ Marking u = sym h.turn ∙ is in cc)
  marking_writes (Fetch cell) (inr h) u is = absurd (let no : Copying h.run ≡ Marking u = sym h.turn ∙ is in cc)
  marking_writes Index h u is = absurd (let no : Polling ≡ Marking u = sym h.poll.turn ∙ is in cc)
  marking_writes Open h u is = absurd (let no : Polling ≡ Marking u = sym h.poll.turn ∙ is in cc)
  marking_writes Release h u is = absurd h
  marking_writes OpenFirst h u is = absurd h

  module _ (first : Bool) (ask : Ask) (h : MayAsk size m t k ask) where
    abbrev phases : ℕ → Phase
    phases = (after_asking m t k first ask).phases

    abbrev y : Txn
    y = asking x k (m.links k x.graph).last first ask

    wrote_now : writes ask ≡ true → (phases x.phase).wrote ≡ true
    wrote_now w = ap (λ (p : Phase). p.wrote) (at_same m.phases x.phase (wrote_if (writes ask) (phase_of m t))) ∙ ap (λ b. (wrote_if b (phase_of m t)).wrote) w

    asked_written : (stage : Stage) → x.stage ≡ stage → HasWritten y stage (phases x.phase).wrote
    asked_written (Marking u) is = (λ j w. wrote_now (marking_writes ask h u is), λ j c. wrote_now (marking_writes ask h u is))
    asked_written other is = tt

    asked_known : (i : ℕ) → KnowsPhase m.changes phases m.ended (with_at m.txns t y i)
    asked_known i = at_case (λ n z. KnowsPhase m.changes phases m.ended z) m.txns t y mine i (λ ne. phase_carry m.changes m.changes m.phases phases m.ended m.ended (omega arith) (asked_phases m t k first ask) (m.txns i) (λ u e. refl) (a i)) where
      n : KnowsPhase m.changes m.phases m.ended (m.txns t)
      n = a t

      mine : KnowsPhase m.changes (after_asking m t k first ask).phases m.ended (asking (m.txns t) k (m.links k (m.txns t).graph).last first ask)
      mine = record {
        low = (a t).low;
        work = (a t).work;
        asks = (a t).asks;
        cells = λ b. (asked_phases m t k first ask).cells (m.txns t).phase (a t).low ∙ (a t).cells b;
        wrote = asked_written (m.txns t).stage refl;
      }

    -- the lock phase that wrote is over the cells of the change
    written_over : (cells : List Cell) (cell : Cell) → writes ask ≡ true → is_behind x.stage ≡ true → cells_of_work m.changes x x.work ≡ cells → has_cell cells cell ≡ true → IsWritten phases m.ended cell
    written_over cells cell w behind over covers = record {
      phase = x.phase;
      low = (a t).low;
      wrote = wrote_now w;
      covers = ap (λ cs. has_cell cs cell) ((asked_phases m t k first ask).cells x.phase (a t).low ∙ (a t).cells behind ∙ over) ∙ covers;
    }

  pub own_cells : ChangesAreOwn m → (u : ℕ) → x.own ≡ u → 1 ≤ u → x.work ≡ Own → cells_of_work m.changes x x.work ≡ (m.changes u).cells
  own_cells o u own one work = ap (cells_of_work m.changes x) work ∙ ((o.own t).owns (subst (λ n. 1 ≤ n) (sym own) one)).cells ∙ ap (λ n. (m.changes n).cells) own

  asked_adds : ChangesAreOwn m → (first : Bool) (ask : Ask) → MayAsk size m t k ask → (cell : Cell) (i : ℕ) → adds ask cell i ≡ true → IsWritten (after_asking m t k first ask).phases m.ended cell
  asked_adds o first (Post u cells accused) h cell i added =
      let s = subst (λ s. IsOwnStage m.changes x.own s) h.turn (o.own t).stage in
      let work : x.work ≡ Own = subst (λ s. IsWorkOf s x.work) h.turn (a t).work in
      written_over first (Post u cells accused) h cells cell refl (ap is_behind h.turn) (own_cells o u s.0 s.1.0 work ∙ sym h.cells_are) (both_left _ _ added)
  asked_adds o first (Settle u cells accused) h cell i added =
      let work : x.work ≡ Settles u = subst (λ s. IsWorkOf s x.work) h.turn (a t).work in
      written_over first (Settle u cells accused) h cells cell refl (ap is_behind h.turn) (ap (cells_of_work m.changes x) work ∙ sym h.cells_are) (both_left _ _ added)
  asked_adds o first other h cell i added = absurd cc

  pub asked_inputs : ChangesAreOwn m → (by : Sender) (first : Bool) (ask : Ask) → MayAsk size m t k ask → EachInput (AddsOn (IsWritten (after_asking m t k first ask).phases m.ended)) (inputs_of by (asks_of first ask))
  asked_inputs o by true ask h = (λ cell i added. absurd cc, (asked_adds o true ask h, tt))
  asked_inputs o by false ask h = (asked_adds o false ask h, tt)

-- ---- each step: what is known of lock phases

module _ (m : State) (a : EachKnowsPhase m) where
  -- phases go on, and changes keep their cells
  carried : (new : State) → new.ended ≡ m.ended → PhasesGo m.ended m.phases new.phases → ((u : ℕ) → (new.changes u).cells ≡ (m.changes u).cells) → ((i : ℕ) → KnowsPhase m.changes m.phases m.ended (new.txns i)) → EachKnowsPhase new
  carried new ended phases cells known i = subst (λ e. KnowsPhase new.changes new.phases e (new.txns i)) (sym ended) (phase_carry m.changes new.changes m.phases new.phases m.ended m.ended (omega arith) phases (new.txns i) (λ u is. cells u) (known i))

  forgotten_known : (ends : ℕ → Bool) (k i : ℕ) → KnowsPhase m.changes m.phases m.ended (forgetting ends k (m.txns i))
  forgotten_known ends k i = by_case (ends (m.txns i).graph) where
    by_case : (b : Bool) → KnowsPhase m.changes m.phases m.ended (if b then record (m.txns i) { flying = with_at (m.txns i).flying k [] } else m.txns i)
    by_case true = known_goes m.changes m.phases m.ended (m.txns i) (record (m.txns i) { flying = with_at (m.txns i).flying k [] }) (a i) (record { job = refl; work = refl; phase = refl }) (StageGoes.StaysIn refl) (λ j h. h) (λ j h. inl h)
    by_case false = a i

  replied_known : (k : ℕ) (by : Sender) (ask : Ask) (answer : Answer) → EachKnowsPhase (replied m k by ask answer)
  replied_known k by ask answer =
      let p = replied_txns m k by ask answer in
      carried (replied m k by ask answer) (replied_beside m k by ask answer).ended (replied_phases m k by ask answer) (λ u. (replied_table m k by ask answer u).cells)
      (λ i. subst (λ (f : ℕ → Txn). KnowsPhase m.changes m.phases m.ended (f i)) (sym p.is)
      (at_case (λ n y. KnowsPhase m.changes m.phases m.ended y) m.txns by.txn p.after (heard_known m.changes m.phases m.ended (m.txns by.txn) p.after (a by.txn) k by.connection ask answer p.heard) i (λ ne. a i)))

  taken_known : (k : ℕ) (o : Output) → EachKnowsPhase (taken_in m k o)
  taken_known k (Answered by ask answer) = by_case (is_current (m.links k by.graph) by.connection) where
    by_case : (b : Bool) → EachKnowsPhase (if b then replied m k by ask answer else m)
    by_case true = replied_known k by ask answer
    by_case false = a
  taken_known k Closed = forgotten_known (λ g. true) k
  taken_known k Opened = a
  taken_known k (Connected graph) = a

  front_known : (k : ℕ) (os : List Output) → EachKnowsPhase (take_in_front m k os)
  front_known k [] = a
  front_known k (o ∷ os) = taken_known k o

  -- one transaction, with everything else as it was
  one_known : (t : ℕ) (y : Txn) → KnowsPhase m.changes m.phases m.ended y → (i : ℕ) → KnowsPhase m.changes m.phases m.ended (with_at m.txns t y i)
  one_known t y n i = at_case (λ j z. KnowsPhase m.changes m.phases m.ended z) m.txns t y n i (λ ne. a i)

  verdict_cells : (v : ℕ) (c : Change) → c.cells ≡ (m.changes v).cells → (u : ℕ) → (with_at m.changes v c u).cells ≡ (m.changes u).cells
  verdict_cells v c cells u = at_case (λ n (d : Change). d.cells ≡ (m.changes n).cells) m.changes v c cells u (λ ne. refl)

  unsettled_known : (t : ℕ) (stage : Stage) → (m.txns t).stage ≡ stage → EachKnowsPhase (unsettling m t stage)
  unsettled_known t (Marking u) is =
      carried (unsettling m t (Marking u)) refl (same_phases m.ended m.phases) (verdict_cells u _ refl)
      (one_known t _ (record { low = (a t).low; work = subst (λ s. IsWorkOf s (m.txns t).work) is (a t).work; asks = tt; cells = λ b. (a t).cells (ap is_behind is); wrote = tt }))
  unsettled_known t other is = a

  decided_known : (o : Option (ℕ × Bool)) → EachKnowsPhase (decided m o)
  decided_known o = carried (decided m o) (decided_ended o) (subst (PhasesGo m.ended m.phases) (sym (decided_phases m o)) (same_phases m.ended m.phases)) (decided_stays m o).cells (λ i. subst (λ (f : ℕ → Txn). KnowsPhase m.changes m.phases m.ended (f i)) (sym (decided_txns m o)) (a i)) where
    decided_ended : (d : Option (ℕ × Bool)) → (decided m d).ended ≡ m.ended
    decided_ended None = refl
    decided_ended (Some d) = by_case d.1 _ where
      by_case : (adopts first : Bool) → (deciding m d.0 adopts first).ended ≡ m.ended
      by_case adopts false = refl
      by_case true true = refl
      by_case false true = refl

bailed : (m : State) (t k : ℕ) → EachKnowsPhase m → KnowsPhase m.changes m.phases m.ended (missing (record (m.txns t) { waits = with_at (m.txns t).waits k false }) k)
bailed m t k a = known_goes m.changes m.phases m.ended (m.txns t) (missing (record (m.txns t) { waits = with_at (m.txns t).waits k false }) k) (a t) (record { job = refl; work = refl; phase = refl }) (StageGoes.PassesOn refl)
    (λ j h. at_case (λ n b. b ≡ true → (m.txns t).waits n ≡ true) (m.txns t).waits k false (λ e. absurd cc) j (λ ne e. e) h) (λ j h. inl h)

step_known : (size : Size) (m : State) (step : Step) → Allowed size m step → ChangesAreDrawn m → EachWaitsFit size m → EachKnowsPhase m → EachKnowsPhase (after size m step)
step_known size m (Step.Turns t turn) h d fit a = turned_known size m a t d fit turn h
step_known size m (Step.Asks t k first asked) h d fit a = λ i. asked_known size m t k a first asked h.0 i
step_known size m (Step.HandsIn k) h d fit a = front_known (without_first_output m k) a k (m.bricks k).outputs
step_known size m (Step.Bails t k) h d fit a = one_known m a t _ (bailed m t k a)
step_known size m (Step.Misses t k) h d fit a = one_known m a t (record (m.txns t) { left = with_at (m.txns t).left k false; out = with_at (m.txns t).out k true })
    (known_goes m.changes m.phases m.ended (m.txns t) (record (m.txns t) { left = with_at (m.txns t).left k false; out = with_at (m.txns t).out k true }) (a t) (record { job = refl; work = refl; phase = refl }) (StageGoes.StaysIn refl) (λ j w. w) (λ j c. inl c))
step_known size m (Step.Cuts k g) h d fit a = forgotten_known m a (λ other. other == g) k
step_known size m (Step.Unsettles t) h d fit a = unsettled_known m a t (m.txns t).stage refl
step_known size m (Step.Decides t) h d fit a = decided_known m a (decided_by (m.txns t).stage)
step_known size m other h d fit a = a

pub phases_are_known : (size : Size) (m : State) → IsReached size m → EachKnowsPhase m
phases_are_known size m IsReached.Start = λ t. record { low = omega arith; work = tt; asks = tt; cells = λ b. absurd cc; wrote = tt }
phases_are_known size m (IsReached.Further old step reached allowed) = step_known size old step allowed (changes_are_drawn size old reached) (waits_fit size old reached) (phases_are_known size old reached)
