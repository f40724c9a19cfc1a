-- What a step makes of a change: it stays, is drawn, becomes unsettled, is decided, or one more replica has applied it.
use Rattle.std.proofs.Common.{◌≡◌, ◌∙◌, ℕ, ◌+◌, ◌≤◌, Bool, true, false, refl, sym, ap, subst, arith}
use Rattle.std.specs.Prelude.{if◌then◌else◌, List, [], ◌∷◌}
use Rattle.fop_types.specs.declared.store_ops.StoreOp.{StoreOp}
use Rattle.afr_machine.specs.Replicas.{Size, nobody, with_at}
use Rattle.afr_machine.specs.Requests.{Sender, Ask, Answer, Output}
use Rattle.afr_machine.specs.Requests.Ask.{Op, Clear, OpenFirst}
use Rattle.afr_machine.specs.Requests.Output.{Answered, Closed, Opened, Connected}
use Rattle.afr_machine.specs.Changes.{Change, Verdict, is_unsettled, verdict_of}
use Rattle.afr_machine.specs.Transactions.{Stage, decided_by}
use Rattle.afr_machine.specs.Transactions.Stage.{Applying, Copying}
use Rattle.afr_machine.specs.States.{State, is_current, with_txn}
use Rattle.afr_machine.specs.Answering.{is_wanted, awaits, landed, at_rest, hearing, applied_by, cleared_for, noting, answered, replied, taken_in, without_first_output}
use Rattle.afr_machine.specs.Turns.{Turn, MayTurn, MayMarkNow, after_turn, drawing, posting, settling, bearing, clearing}
use Rattle.afr_machine.specs.Steps.{Step, Allowed, MayUnsettle, MayDecide, after, take_in_front, unsettling, deciding, decided}
use Rattle.afr_laws.specs.OwnChanges.{was_unsettled}
use Rattle.afr_laws.proofs.Carry.{at_case}
use Rattle.afr_soundness.proofs.PhaseMoves.{IsHandedIn}

pub data ChangeMove (size : Size) (m : State) (step : Step) (u : ℕ) (new : Change) : Type 0 where
  Same : new ≡ m.changes u → ChangeMove size m step u new
  Marks : (t : ℕ) → step ≡ Step.Turns t Turn.Marks → (h : MayMarkNow size m t) → u ≡ m.drawn + 1 → new ≡ record { by = t; cells = h.cells; op = h.op; effect = h.effect; verdict = Verdict.Drawn; done = nobody } → ChangeMove size m step u new
  Unsettles : (t : ℕ) → step ≡ Step.Unsettles t → (h : MayUnsettle size m t) → u ≡ h.change → new ≡ record (m.changes u) { verdict = Verdict.Unsettled } → ChangeMove size m step u new
  Applies : (k : ℕ) → (by : Sender) → (v : ℕ) → (op : StoreOp) → (answer : Answer) → step ≡ Step.HandsIn k → IsHandedIn m k by (Op v op) answer → (m.txns by.txn).stage ≡ Applying u → new ≡ record (m.changes u) { done = with_at (m.changes u).done k true } → ChangeMove size m step u new
  Decides : (t : ℕ) → step ≡ Step.Decides t → (h : MayDecide size m t) → u ≡ h.change → is_unsettled (m.changes u).verdict ≡ true → new ≡ record (m.changes u) { verdict = verdict_of h.adopts } → ChangeMove size m step u new

module _ (size : Size) (m : State) where
  abbrev pub Moves : Step → ℕ → Change → Type 0
  Moves step u c = ChangeMove size m step u c

  same : (step : Step) (u : ℕ) → Moves step u (m.changes u)
  same step u = ChangeMove.Same refl

  one : (step : Step) (u : ℕ) (change : Change) → Moves step u change → (i : ℕ) → Moves step i (with_at m.changes u change i)
  one step u change h i = at_case (λ j (c : Change). Moves step j c) m.changes u change h i (λ ne. same step i)

  table : (step : Step) (f g : ℕ → Change) → g ≡ f → ((i : ℕ) → Moves step i (f i)) → (i : ℕ) → Moves step i (g i)
  table step f g is h i = subst (λ (f : ℕ → Change). Moves step i (f i)) (sym is) (h i)

  turned : (t : ℕ) (turn : Turn) → MayTurn size m t turn → (i : ℕ) → Moves (Step.Turns t turn) i ((after_turn size m t turn).changes i)
  turned t Turn.Marks h =
      table (Step.Turns t Turn.Marks) _ ((drawing m t (m.txns t).job).changes) (ap (λ j. (drawing m t j).changes) h.job_is)
      (one (Step.Turns t Turn.Marks) (m.drawn + 1) (record { by = t; cells = h.cells; op = h.op; effect = h.effect; verdict = Verdict.Drawn; done = nobody }) (ChangeMove.Marks t refl h refl refl))
  turned t Turn.Posts h = table (Step.Turns t Turn.Posts) m.changes ((posting size m t (m.txns t).stage).changes) (ap (λ s. (posting size m t s).changes) h.turn) (same (Step.Turns t Turn.Posts))
  turned t (Turn.SettlesAs group adopts) h = table (Step.Turns t (Turn.SettlesAs group adopts)) m.changes ((settling size m t (m.txns t).work group adopts).changes) (ap (λ w. (settling size m t w group adopts).changes) h.work_is) (same (Step.Turns t (Turn.SettlesAs group adopts)))
  turned t Turn.Bears h = table (Step.Turns t Turn.Bears) m.changes ((bearing m t (m.txns t).job).changes) (ap (λ j. (bearing m t j).changes) h.job_is) (same (Step.Turns t Turn.Bears))
  turned t Turn.Clears h = table (Step.Turns t Turn.Clears) m.changes ((clearing m t (m.txns t).stage).changes) (ap (λ s. (clearing m t s).changes) h.turn) (same (Step.Turns t Turn.Clears))
  turned t other h = same (Step.Turns t other)

  unsettles : (t : ℕ) → MayUnsettle size m t → (i : ℕ) → Moves (Step.Unsettles t) i ((unsettling m t (m.txns t).stage).changes i)
  unsettles t h =
      table (Step.Unsettles t) _ ((unsettling m t (m.txns t).stage).changes) (ap (λ s. (unsettling m t s).changes) h.turn)
      (one (Step.Unsettles t) h.change (record (m.changes h.change) { verdict = Verdict.Unsettled }) (ChangeMove.Unsettles t refl h refl refl))

  decides : (t : ℕ) → MayDecide size m t → (i : ℕ) → Moves (Step.Decides t) i ((decided m (decided_by (m.txns t).stage)).changes i)
  decides t h =
      table (Step.Decides t) _ ((decided m (decided_by (m.txns t).stage)).changes) (ap (λ d. (decided m d).changes) h.decision)
      (by_case h.adopts refl (is_unsettled (m.changes h.change).verdict) refl) where
        by_case : (a : Bool) → h.adopts ≡ a → (b : Bool) → is_unsettled (m.changes h.change).verdict ≡ b → (i : ℕ) → Moves (Step.Decides t) i ((deciding m h.change a b).changes i)
        by_case a a_is false is = same (Step.Decides t)
        by_case true a_is true is = one (Step.Decides t) h.change (record (m.changes h.change) { verdict = Verdict.Adopted }) (ChangeMove.Decides t refl h refl is (ap (λ a. record (m.changes h.change) { verdict = verdict_of a }) (sym a_is)))
        by_case false a_is true is = one (Step.Decides t) h.change (record (m.changes h.change) { verdict = Verdict.Dropped }) (ChangeMove.Decides t refl h refl is (ap (λ a. record (m.changes h.change) { verdict = verdict_of a }) (sym a_is)))

-- ---- replies

module _ (size : Size) (m : State) (k : ℕ) where
  applies : (by : Sender) (v : ℕ) (op : StoreOp) (answer : Answer) → IsHandedIn m k by (Op v op) answer → (stage : Stage) → (m.txns by.txn).stage ≡ stage → (i : ℕ) → ChangeMove size m (Step.HandsIn k) i ((applied_by (without_first_output m k) stage k).changes i)
  applies by v op answer h (Applying u) is = one size m (Step.HandsIn k) u (record (m.changes u) { done = with_at (m.changes u).done k true }) (ChangeMove.Applies k by v op answer refl h is refl)
  applies by v op answer h other is = same size m (Step.HandsIn k)

  clears : (by : Sender) (stage : Stage) (i : ℕ) → ChangeMove size m (Step.HandsIn k) i ((cleared_for (without_first_output m k) (m.txns by.txn) stage k).changes i)
  clears by (Copying run) = same size m (Step.HandsIn k)
  clears by other = same size m (Step.HandsIn k)

  notes : (by : Sender) (ask : Ask) (answer : Answer) → IsHandedIn m k by ask answer → (i : ℕ) → ChangeMove size m (Step.HandsIn k) i ((noting (without_first_output m k) (m.txns by.txn) k ask).changes i)
  notes by (Op u op) answer h = applies by u op answer h (m.txns by.txn).stage refl
  notes by (Clear cells who) answer h = clears by (m.txns by.txn).stage
  notes by other answer h = same size m (Step.HandsIn k)

  module _ (by : Sender) (ask : Ask) (answer : Answer) (rest : List Output) (front : (m.bricks k).outputs ≡ Answered by ask answer ∷ rest) (current : is_current (m.links k by.graph) by.connection ≡ true) where
    answers : (i : ℕ) → ChangeMove size m (Step.HandsIn k) i ((answered (without_first_output m k) k by ask answer).changes i)
    answers i = by_case (awaits (m.txns by.txn) k) refl (is_wanted ask answer) refl where
      wants : (c : Bool) → is_wanted ask answer ≡ c → awaits (m.txns by.txn) k ≡ true → ChangeMove size m (Step.HandsIn k) i ((if c then noting (without_first_output m k) (m.txns by.txn) k ask else without_first_output m k).changes i)
      wants true wanted waits = notes by ask answer (record { rest = rest; front = front; current = current; awaited = waits; wanted = wanted }) i
      wants false wanted waits = same size m (Step.HandsIn k) i

      by_case : (b : Bool) → awaits (m.txns by.txn) k ≡ b → (c : Bool) → is_wanted ask answer ≡ c →
          ChangeMove size m (Step.HandsIn k) i ((if b then with_txn (if c then noting (without_first_output m k) (m.txns by.txn) k ask else without_first_output m k) by.txn (hearing (at_rest (m.txns by.txn) k) k by.connection ask answer) else with_txn (without_first_output m k) by.txn (landed (m.txns by.txn) k)).changes i)
      by_case true waits c is = wants c is waits
      by_case false waits c is = same size m (Step.HandsIn k) i

  replies : (by : Sender) (ask : Ask) (answer : Answer) (rest : List Output) → (m.bricks k).outputs ≡ Answered by ask answer ∷ rest → is_current (m.links k by.graph) by.connection ≡ true → (i : ℕ) → ChangeMove size m (Step.HandsIn k) i ((replied (without_first_output m k) k by ask answer).changes i)
  replies by OpenFirst answer rest front current = same size m (Step.HandsIn k)
  replies by other answer rest front current = answers by other answer rest front current

  takes : (o : Output) (rest : List Output) → (m.bricks k).outputs ≡ o ∷ rest → (i : ℕ) → ChangeMove size m (Step.HandsIn k) i ((taken_in (without_first_output m k) k o).changes i)
  takes (Answered by ask answer) rest front i = by_case (is_current (m.links k by.graph) by.connection) refl where
    by_case : (b : Bool) → is_current (m.links k by.graph) by.connection ≡ b → ChangeMove size m (Step.HandsIn k) i ((if b then replied (without_first_output m k) k by ask answer else without_first_output m k).changes i)
    by_case true current = replies by ask answer rest front current i
    by_case false current = same size m (Step.HandsIn k) i
  takes Closed rest front i = same size m (Step.HandsIn k) i
  takes Opened rest front i = same size m (Step.HandsIn k) i
  takes (Connected graph) rest front i = same size m (Step.HandsIn k) i

  hands : (os : List Output) → (m.bricks k).outputs ≡ os → (i : ℕ) → ChangeMove size m (Step.HandsIn k) i ((take_in_front (without_first_output m k) k os).changes i)
  hands [] front i = same size m (Step.HandsIn k) i
  hands (o ∷ os) front i = takes o os front i

pub change_moves : (size : Size) (m : State) (step : Step) → Allowed size m step → (u : ℕ) → ChangeMove size m step u ((after size m step).changes u)
change_moves size m (Step.Turns t turn) h = turned size m t turn h
change_moves size m (Step.HandsIn k) h = hands size m k (m.bricks k).outputs refl
change_moves size m (Step.Unsettles t) h = unsettles size m t h
change_moves size m (Step.Decides t) h = decides size m t h
change_moves size m other h = same size m other

-- ---- what stays of a change that was drawn

pub decided_was : (b : Bool) → was_unsettled (verdict_of b) ≡ true
decided_was true = refl
decided_was false = refl

module _ (size : Size) (m : State) (step : Step) (allowed : Allowed size m step) (u : ℕ) (drawn : u ≤ m.drawn) where
  -- its cells
  pub cells_stay : ((after size m step).changes u).cells ≡ (m.changes u).cells
  cells_stay = by_case (change_moves size m step allowed u) where
    by_case : ChangeMove size m step u ((after size m step).changes u) → ((after size m step).changes u).cells ≡ (m.changes u).cells
    by_case (ChangeMove.Same is) = ap (λ (c : Change). c.cells) is
    by_case (ChangeMove.Marks t step_is h at is) = absurd (omega (arith, at, drawn))
    by_case (ChangeMove.Unsettles t step_is h at is) = ap (λ (c : Change). c.cells) is
    by_case (ChangeMove.Applies k by v op answer step_is handed stage is) = ap (λ (c : Change). c.cells) is
    by_case (ChangeMove.Decides t step_is h at unsettled is) = ap (λ (c : Change). c.cells) is

  -- and that it became unsettled once
  pub sent_stays : was_unsettled (m.changes u).verdict ≡ true → was_unsettled ((after size m step).changes u).verdict ≡ true
  sent_stays sent = by_case (change_moves size m step allowed u) where
    by_case : ChangeMove size m step u ((after size m step).changes u) → was_unsettled ((after size m step).changes u).verdict ≡ true
    by_case (ChangeMove.Same is) = ap (λ (c : Change). was_unsettled c.verdict) is ∙ sent
    by_case (ChangeMove.Marks t step_is h at is) = absurd (omega (arith, at, drawn))
    by_case (ChangeMove.Unsettles t step_is h at is) = ap (λ (c : Change). was_unsettled c.verdict) is
    by_case (ChangeMove.Applies k by v op answer step_is handed stage is) = ap (λ (c : Change). was_unsettled c.verdict) is ∙ sent
    by_case (ChangeMove.Decides t step_is h at unsettled is) = ap (λ (c : Change). was_unsettled c.verdict) is ∙ decided_was h.adopts
