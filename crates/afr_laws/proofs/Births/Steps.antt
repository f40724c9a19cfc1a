-- Each step keeps births as the first ones.
use Rattle.std.proofs.Common.{◌≡◌, ◌∙◌, ℕ, ◌+◌, Bool, true, false, refl, sym, ap, subst, inl, inr, Option, Some, None}
use Rattle.std.specs.Prelude.{if◌then◌else◌, List, [], ◌∷◌, ◌==◌}
use Rattle.fop_types.specs.StoreOps.{Contents, births}
use Rattle.fop_types.specs.declared.cells.Cell.{Cell}
use Rattle.fop_types.specs.declared.contents.Content.{Content}
use Rattle.fop_types.specs.declared.jobs.Job.{Job}
use Rattle.fop_types.specs.declared.jobs.Job.TheVariants as job
use Rattle.afr_machine.specs.Replicas.{Size, with_at}
use Rattle.afr_machine.specs.Requests.{Ask, Input, Output}
use Rattle.afr_machine.specs.Requests.Ask.{Op}
use Rattle.afr_machine.specs.Requests.Output.{Answered}
use Rattle.afr_machine.specs.Changes.{Change, is_unsettled}
use Rattle.afr_machine.specs.Transactions.{Stage, Txn, Work}
use Rattle.afr_machine.specs.Transactions.Work.{Own, Settles}
use Rattle.afr_machine.specs.Transactions.Stage.{Marking, Applying, Bearing, Copying}
use Rattle.afr_machine.specs.States.{State, is_current}
use Rattle.afr_machine.specs.Births.{AreAsFirst}
use Rattle.afr_machine.specs.Sending.{MayAsk, asks_of, inputs_of, sender_of}
use Rattle.afr_machine.specs.Answering.{missing, replied, taken_in, without_first_output}
use Rattle.afr_machine.specs.Turns.{Turn, MayBearNow, after_turn, drawing, posting, settling, bearing, clearing}
use Rattle.afr_machine.specs.Steps.{Step, MayUnsettle, Allowed, after, IsReached, take_in_front, unsettling, deciding, decided, decided_by}
use Rattle.afr_machine.specs.Moves.{IsTaken}
use Rattle.afr_machine.proofs.BrickMoves.{bricks_move}
use Rattle.afr_machine.proofs.Keeping.{replied_beside}
use Rattle.afr_laws.specs.Senders.{EachInput}
use Rattle.afr_laws.specs.OwnChanges.{was_unsettled}
use Rattle.afr_laws.specs.OneBirth.{AreBorn, BearsAsBorn, IsBornBy, OneBirth, BornStays, EveryCellIsBornOnce}
use Rattle.afr_laws.proofs.Carry.{at_case, each_map}
use Rattle.afr_laws.proofs.Senders.{moves_each}
use Rattle.afr_laws.proofs.Stages.{StageGoes}
use Rattle.afr_laws.proofs.Goes.{decided_txns}
use Rattle.afr_laws.proofs.Copies.Asks.{sent_is}
use Rattle.afr_laws.proofs.Newest.Stays.{turn_changes}
use Rattle.afr_laws.proofs.OwnChanges.Replies.{replied_table}
use Rattle.afr_laws.proofs.Births.Born.{births_stay, births_born, born_more}
use Rattle.afr_laws.proofs.Births.Stages.{BearsStill, bears_still, goes_bears, at_bears, forgotten_bears, front_bears, turned_bears}

-- ---- what cells were born with

taken_born : (m : State) (k : ℕ) (o : Output) → (taken_in m k o).born ≡ m.born
taken_born m k (Answered by ask answer) = by_case (is_current (m.links k by.graph) by.connection) where
  by_case : (b : Bool) → (if b then replied m k by ask answer else m).born ≡ m.born
  by_case true = (replied_beside m k by ask answer).born
  by_case false = refl
taken_born m k other = refl

front_born : (m : State) (k : ℕ) (os : List Output) → (take_in_front m k os).born ≡ m.born
front_born m k [] = refl
front_born m k (o ∷ os) = taken_born m k o

decided_born : (m : State) (d : Option (ℕ × Bool)) → (decided m d).born ≡ m.born
decided_born m None = refl
decided_born m (Some d) = by_case d.1 _ where
  by_case : (adopts first : Bool) → (deciding m d.0 adopts first).born ≡ m.born
  by_case adopts false = refl
  by_case true true = refl
  by_case false true = refl

same_born : (m new : State) → new.born ≡ m.born → BornStays m new
same_born m new is cell content h = ap (λ (f : Contents). f cell) is ∙ h

bears_born : (m : State) (t : ℕ) (own : Job) → BornStays m (bearing m t own)
bears_born m t (job.Birth cells op) = λ cell content h. births_stay (births op) m.born cell content h
bears_born m t other = λ cell content h. h

unsettles_born : (m : State) (t : ℕ) (stage : Stage) → BornStays m (unsettling m t stage)
unsettles_born m t (Marking u) = λ cell content h. births_stay (births (m.changes u).op) m.born cell content h
unsettles_born m t other = λ cell content h. h

turns_born : (size : Size) (m : State) (t : ℕ) (turn : Turn) → BornStays m (after_turn size m t turn)
turns_born size m t Turn.Bears = bears_born m t (m.txns t).job
turns_born size m t Turn.Marks = drawn (m.txns t).job where
  drawn : (j : Job) → BornStays m (drawing m t j)
  drawn (job.Change cells fd op effect) = λ cell content h. h
  drawn other = λ cell content h. h
turns_born size m t Turn.Posts = posted (m.txns t).stage where
  posted : (stage : Stage) → BornStays m (posting size m t stage)
  posted (Applying u) = λ cell content h. h
  posted other = λ cell content h. h
turns_born size m t (Turn.SettlesAs group adopts) = settled (m.txns t).work where
  settled : (work : Work) → BornStays m (settling size m t work group adopts)
  settled Own = λ cell content h. h
  settled (Settles u) = λ cell content h. h
turns_born size m t Turn.Clears = cleared (m.txns t).stage where
  cleared : (stage : Stage) → BornStays m (clearing m t stage)
  cleared (Copying run) = λ cell content h. h
  cleared other = λ cell content h. h
turns_born size m t other = λ cell content h. h

step_born : (size : Size) (m : State) (step : Step) → BornStays m (after size m step)
step_born size m (Step.Turns t turn) = turns_born size m t turn
step_born size m (Step.HandsIn k) = same_born m (take_in_front (without_first_output m k) k (m.bricks k).outputs) (front_born (without_first_output m k) k (m.bricks k).outputs)
step_born size m (Step.Unsettles t) = unsettles_born m t (m.txns t).stage
step_born size m (Step.Decides t) = same_born m (decided m (decided_by (m.txns t).stage)) (decided_born m (decided_by (m.txns t).stage))
step_born size m other = λ cell content h. h

-- ---- the ops of changes

-- what became unsettled then was so before, with its op
abbrev OpBack : (ℕ → Change) → (ℕ → Change) → Type 0
OpBack old new = (u : ℕ) → was_unsettled (new u).verdict ≡ true → (was_unsettled (old u).verdict ≡ true) × ((new u).op ≡ (old u).op)

equal_back : (old new : ℕ → Change) → new ≡ old → OpBack old new
equal_back old new is u h = (sym (ap (λ (f : ℕ → Change). was_unsettled (f u).verdict) is) ∙ h, ap (λ (f : ℕ → Change). (f u).op) is)

taken_back : (m : State) (k : ℕ) (o : Output) → OpBack m.changes (taken_in m k o).changes
taken_back m k (Answered by ask answer) = by_case (is_current (m.links k by.graph) by.connection) where
  by_case : (b : Bool) → OpBack m.changes (if b then replied m k by ask answer else m).changes
  by_case true = λ u h. let s = replied_table m k by ask answer u in (sym (ap was_unsettled s.verdict) ∙ h, s.op)
  by_case false = equal_back m.changes m.changes refl
taken_back m k other = equal_back m.changes m.changes refl

front_back : (m : State) (k : ℕ) (os : List Output) → OpBack m.changes (take_in_front m k os).changes
front_back m k [] = equal_back m.changes m.changes refl
front_back m k (o ∷ os) = taken_back m k o

draws_back : (m : State) (t : ℕ) (own : Job) → OpBack m.changes (drawing m t own).changes
draws_back m t (job.Change cells fd op effect) = λ u. at_case (λ n (c : Change). was_unsettled c.verdict ≡ true → (was_unsettled (m.changes n).verdict ≡ true) × (c.op ≡ (m.changes n).op)) m.changes (m.drawn + 1) _ (λ h. absurd cc) u (λ ne h. (h, refl))
draws_back m t other = equal_back m.changes m.changes refl

decides_back : (m : State) (o : Option (ℕ × Bool)) → OpBack m.changes (decided m o).changes
decides_back m None = equal_back m.changes m.changes refl
decides_back m (Some o) = by_case o.1 (is_unsettled (m.changes o.0).verdict) refl where
  by_case : (adopts first : Bool) → is_unsettled (m.changes o.0).verdict ≡ first → OpBack m.changes (deciding m o.0 adopts first).changes
  by_case adopts false is = equal_back m.changes m.changes refl
  by_case true true is = λ u. at_case (λ n (c : Change). was_unsettled c.verdict ≡ true → (was_unsettled (m.changes n).verdict ≡ true) × (c.op ≡ (m.changes n).op)) m.changes o.0 _ (λ h. (sent_is (m.changes o.0).verdict is, refl)) u (λ ne h. (h, refl))
  by_case false true is = λ u. at_case (λ n (c : Change). was_unsettled c.verdict ≡ true → (was_unsettled (m.changes n).verdict ≡ true) × (c.op ≡ (m.changes n).op)) m.changes o.0 _ (λ h. (sent_is (m.changes o.0).verdict is, refl)) u (λ ne h. (h, refl))

turns_back : (size : Size) (m : State) (t : ℕ) (turn : Turn) → OpBack m.changes (after_turn size m t turn).changes
turns_back size m t Turn.Marks = draws_back m t (m.txns t).job
turns_back size m t turn = equal_back m.changes _ (turn_changes size m t turn refl)

module _ (size : Size) (m : State) (o : OneBirth m) where
  carried : (new : State) → BornStays m new → OpBack m.changes new.changes → (u : ℕ) → was_unsettled (new.changes u).verdict ≡ true → AreBorn new.born (births (new.changes u).op)
  carried new stays back u sent = let b = back u sent in subst (λ p. AreBorn new.born (births p)) (sym b.1) (born_more m.born new.born stays (births (m.changes u).op) (o.changes u b.0))

  unsettled : (t : ℕ) → (h : MayUnsettle size m t) → (u : ℕ) → was_unsettled ((unsettling m t (Marking h.change)).changes u).verdict ≡ true → AreBorn (unsettling m t (Marking h.change)).born (births ((unsettling m t (Marking h.change)).changes u).op)
  unsettled t h u =
      at_case (λ n (c : Change). was_unsettled c.verdict ≡ true → AreBorn (unsettling m t (Marking h.change)).born (births c.op)) m.changes h.change _ (λ sent. births_born m.born (m.changes h.change).op h.as_first) u
      (λ ne sent. born_more m.born (unsettling m t (Marking h.change)).born (unsettles_born m t (Marking h.change)) (births (m.changes u).op) (o.changes u sent))

  step_ops : (step : Step) → Allowed size m step → (u : ℕ) → was_unsettled ((after size m step).changes u).verdict ≡ true → AreBorn (after size m step).born (births ((after size m step).changes u).op)
  step_ops (Step.Turns t turn) h = carried (after size m (Step.Turns t turn)) (step_born size m (Step.Turns t turn)) (turns_back size m t turn)
  step_ops (Step.HandsIn k) h = carried (after size m (Step.HandsIn k)) (step_born size m (Step.HandsIn k)) (front_back (without_first_output m k) k (m.bricks k).outputs)
  step_ops (Step.Unsettles t) h = subst (λ s. (u : ℕ) → was_unsettled ((unsettling m t s).changes u).verdict ≡ true → AreBorn (unsettling m t s).born (births ((unsettling m t s).changes u).op)) (sym h.turn) (unsettled t h)
  step_ops (Step.Decides t) h = carried (after size m (Step.Decides t)) (step_born size m (Step.Decides t)) (decides_back m (decided_by (m.txns t).stage))
  step_ops other h = carried (after size m other) (step_born size m other) (equal_back m.changes m.changes refl)

  -- ---- births under way

  unsettled_bears : (t : ℕ) (stage : Stage) (i : ℕ) → BearsStill (m.txns i) ((unsettling m t stage).txns i)
  unsettled_bears t (Marking u) i = at_bears m t _ (λ h. absurd cc) i
  unsettled_bears t other i = bears_still (m.txns i)

  born_by : (new : State) → BornStays m new → (own : Job) → IsBornBy m.born own → IsBornBy new.born own
  born_by new stays (job.Birth cells op) a = born_more m.born new.born stays (births op) a
  born_by new stays other a = tt

  still_under_way : (new : State) → BornStays m new → ((t : ℕ) → BearsStill (m.txns t) (new.txns t)) → (t : ℕ) → (new.txns t).stage ≡ Bearing → IsBornBy new.born (new.txns t).job
  still_under_way new stays bears t is = let b = bears t is in subst (IsBornBy new.born) (sym b.1) (born_by new stays (m.txns t).job (o.under_way t b.0))

  begun : (t : ℕ) (own : Job) → (m.txns t).job ≡ own → (h : MayBearNow size m t) → (i : ℕ) → ((bearing m t own).txns i).stage ≡ Bearing → IsBornBy (bearing m t own).born ((bearing m t own).txns i).job
  begun t (job.Birth cells op) is h = λ i.
      at_case (λ n (y : Txn). y.stage ≡ Bearing → IsBornBy (bearing m t (job.Birth cells op)).born y.job) m.txns t _
      (λ b. subst (IsBornBy (bearing m t (job.Birth cells op)).born) (sym is) (births_born m.born op (subst (λ p. AreAsFirst m.born (births p)) same h.as_first))) i
      (λ ne b. born_by (bearing m t (job.Birth cells op)) (bears_born m t (job.Birth cells op)) (m.txns i).job (o.under_way i b))
    where
      jobs : job.Birth h.cells h.op ≡ job.Birth cells op
      jobs = sym h.job_is ∙ is

      same : h.op ≡ op
      same = cc
  begun t other is h = λ i b. o.under_way i b

  step_under_way : (step : Step) → Allowed size m step → (t : ℕ) → ((after size m step).txns t).stage ≡ Bearing → IsBornBy (after size m step).born ((after size m step).txns t).job
  step_under_way (Step.Turns t Turn.Bears) h = begun t (m.txns t).job refl h
  step_under_way (Step.Turns t turn) h = still_under_way (after size m (Step.Turns t turn)) (step_born size m (Step.Turns t turn)) (turned_bears size m t turn refl)
  step_under_way (Step.Asks t k first asked) h = still_under_way (after size m (Step.Asks t k first asked)) (step_born size m (Step.Asks t k first asked)) (at_bears m t _ (λ b. (b, refl)))
  step_under_way (Step.HandsIn k) h = still_under_way (after size m (Step.HandsIn k)) (step_born size m (Step.HandsIn k)) (front_bears (without_first_output m k) k (m.bricks k).outputs)
  step_under_way (Step.Bails t k) h = still_under_way (after size m (Step.Bails t k)) (step_born size m (Step.Bails t k)) (at_bears m t _ (goes_bears (m.txns t) (missing (record (m.txns t) { waits = with_at (m.txns t).waits k false }) k) refl (StageGoes.PassesOn refl)))
  step_under_way (Step.Misses t k) h = still_under_way (after size m (Step.Misses t k)) (step_born size m (Step.Misses t k)) (at_bears m t _ (λ b. (b, refl)))
  step_under_way (Step.Cuts k g) h = still_under_way (after size m (Step.Cuts k g)) (step_born size m (Step.Cuts k g)) (forgotten_bears m (λ other. other == g) k)
  step_under_way (Step.Unsettles t) h = still_under_way (after size m (Step.Unsettles t)) (step_born size m (Step.Unsettles t)) (unsettled_bears t (m.txns t).stage)
  step_under_way (Step.Decides t) h = still_under_way (after size m (Step.Decides t)) (step_born size m (Step.Decides t)) (λ i. subst (λ (f : ℕ → Txn). BearsStill (m.txns i) (f i)) (sym (decided_txns m (decided_by (m.txns t).stage))) (bears_still (m.txns i)))
  step_under_way other h = still_under_way (after size m other) (step_born size m other) (λ i. bears_still (m.txns i))

  -- ---- bricks

  asked_bears : (t k : ℕ) (ask : Ask) → MayAsk size m t k ask → BearsAsBorn m.born ask
  asked_bears t k (Op u op) (inl h) = subst (λ p. AreBorn m.born (births p)) (sym h.op_is) (o.changes u (sent_is (m.changes u).verdict h.unsettled))
  asked_bears t k (Op u op) (inr h) = subst (IsBornBy m.born) h.job_is (o.under_way t h.turn)
  asked_bears t k other h = tt

  takes : (step : Step) → Allowed size m step → (j : ℕ) (inputs : List Input) → IsTaken m step j inputs → EachInput (λ by ask. BearsAsBorn m.born ask) inputs
  takes (Step.Asks t k first asked) h j inputs taken = subst (EachInput (λ by ask. BearsAsBorn m.born ask)) (sym taken.1) (each first) where
    each : (f : Bool) → EachInput (λ by ask. BearsAsBorn m.born ask) (inputs_of (sender_of m t k) (asks_of f asked))
    each true = (tt, (asked_bears t k asked h.0, tt))
    each false = (asked_bears t k asked h.0, tt)
  takes (Step.Controls k steering) h j inputs taken = subst (EachInput (λ by ask. BearsAsBorn m.born ask)) (sym taken.1) tt
  takes (Step.Connects k g) h j inputs taken = subst (EachInput (λ by ask. BearsAsBorn m.born ask)) (sym taken.1) tt
  takes (Step.Cuts k g) h j inputs taken = subst (EachInput (λ by ask. BearsAsBorn m.born ask)) (sym taken.1) tt
  takes other h j inputs taken = absurd taken

  more_ask : (new : Contents) → ((cell : Cell) (content : Content) → m.born cell ≡ Some content → new cell ≡ Some content) → (ask : Ask) → BearsAsBorn m.born ask → BearsAsBorn new ask
  more_ask new stays (Op u op) a = born_more m.born new stays (births op) a
  more_ask new stays other a = tt

  step_births : (step : Step) → Allowed size m step → OneBirth (after size m step)
  step_births step h = record {
    bricks = λ k. each_map (λ by ask. BearsAsBorn m.born ask) (λ by ask. BearsAsBorn (after size m step).born ask) (λ by ask. more_ask (after size m step).born (step_born size m step) ask) ((after size m step).bricks k)
        (moves_each (λ by ask. BearsAsBorn m.born ask) (IsTaken m step k) (m.bricks k) ((after size m step).bricks k) (bricks_move size m step h k) (takes step h k) (o.bricks k));
    changes = step_ops step h;
    under_way = step_under_way step h;
  }

births_are_one : (size : Size) (m : State) → IsReached size m → OneBirth m
births_are_one size m IsReached.Start = record { bricks = λ k. record { held = tt; waiting = tt; line = tt; outputs = tt }; changes = λ u sent. absurd cc; under_way = λ t is. absurd cc }
births_are_one size m (IsReached.Further old step reached allowed) = step_births size old (births_are_one size old reached) step allowed

pub every_cell_is_born_once : EveryCellIsBornOnce
every_cell_is_born_once size m reached = record { one = births_are_one size m reached; stays = λ step h. step_born size m step }
