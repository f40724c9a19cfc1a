-- Each step moves at most one brick.
use Rattle.std.proofs.Common.{◌≡◌, ℕ, Bool, true, false, refl, sym, ap, subst}
use Rattle.std.specs.Prelude.{List, [], ◌∷◌, Option}
use Rattle.fop_types.specs.declared.jobs.Job.{Job}
use Rattle.fop_types.specs.declared.jobs.Job.TheVariants as job
use Rattle.afr_machine.specs.Replicas.{Size, Replicas}
use Rattle.afr_machine.specs.Requests.{Control, Input, Answer, Output}
use Rattle.afr_machine.specs.Requests.Input.{Steered}
use Rattle.afr_machine.specs.Bricks.{Brick, without_front, popped}
use Rattle.afr_machine.specs.Transactions.{Stage, Work}
use Rattle.afr_machine.specs.Transactions.Stage.{Applying, Copying, Marking}
use Rattle.afr_machine.specs.Transactions.Work.{Own, Settles}
use Rattle.afr_machine.specs.States.{State, with_brick, with_inputs}
use Rattle.afr_machine.specs.Sending.{sender_of, asks_of, inputs_of}
use Rattle.afr_machine.specs.Answering.{without_output, without_first_output}
use Rattle.afr_machine.specs.Turns.{Turn, after_turn, drawing, posting, settling, bearing, clearing}
use Rattle.afr_machine.specs.Steps.{Step, HasRequest, MayRefuse, HasControl, HasOutput, served_front, refused_front, given_up_front, steered_front, take_in_front, decided, deciding, decided_by, unsettling}
use Rattle.afr_machine.specs.Moves.{IsTaken, BrickMove, BricksMove}
use Rattle.afr_machine.proofs.Tables.{at_each}
use Rattle.afr_machine.proofs.Keeping.{taken_in_beside}

-- ---- turns move no brick

drawing_bricks : (m : State) (t : ℕ) (j : Job) → (drawing m t j).bricks ≡ m.bricks
drawing_bricks m t (job.Change cells fd op effect) = refl
drawing_bricks m t other = refl

posting_bricks : (size : Size) (m : State) (t : ℕ) (stage : Stage) → (posting size m t stage).bricks ≡ m.bricks
posting_bricks size m t (Applying u) = refl
posting_bricks size m t other = refl

settling_bricks : (size : Size) (m : State) (t : ℕ) (work : Work) (group : Replicas) (adopts : Bool) → (settling size m t work group adopts).bricks ≡ m.bricks
settling_bricks size m t Own group adopts = refl
settling_bricks size m t (Settles u) group adopts = refl

bearing_bricks : (m : State) (t : ℕ) (j : Job) → (bearing m t j).bricks ≡ m.bricks
bearing_bricks m t (job.Birth cells op) = refl
bearing_bricks m t other = refl

clearing_bricks : (m : State) (t : ℕ) (stage : Stage) → (clearing m t stage).bricks ≡ m.bricks
clearing_bricks m t (Copying run) = refl
clearing_bricks m t other = refl

pub turn_bricks : (size : Size) (m : State) (t : ℕ) (turn : Turn) → (after_turn size m t turn).bricks ≡ m.bricks
turn_bricks size m t Turn.Marks = drawing_bricks m t (m.txns t).job
turn_bricks size m t Turn.Posts = posting_bricks size m t (m.txns t).stage
turn_bricks size m t (Turn.SettlesAs group adopts) = settling_bricks size m t (m.txns t).work group adopts
turn_bricks size m t Turn.Bears = bearing_bricks m t (m.txns t).job
turn_bricks size m t Turn.Clears = clearing_bricks m t (m.txns t).stage
turn_bricks size m t other = refl

-- ---- decisions move no brick

unsettling_bricks : (m : State) (t : ℕ) (stage : Stage) → (unsettling m t stage).bricks ≡ m.bricks
unsettling_bricks m t (Marking u) = refl
unsettling_bricks m t other = refl

deciding_bricks : (m : State) (u : ℕ) (adopts first : Bool) → (deciding m u adopts first).bricks ≡ m.bricks
deciding_bricks m u adopts false = refl
deciding_bricks m u true true = refl
deciding_bricks m u false true = refl

pub decided_bricks : (m : State) (d : Option (ℕ × Bool)) → (decided m d).bricks ≡ m.bricks
decided_bricks m Option.None = refl
decided_bricks m (Option.Some d) = deciding_bricks m d.0 d.1 _

-- ---- the brick that is moved

module _ (m : State) (k : ℕ) (T : ℕ → List Input → Type 0) where
  -- the state with another brick at k moves brick k, and no other
  one_moves : (x : Brick) → BrickMove (T k) (m.bricks k) x → (j : ℕ) → BrickMove (T j) (m.bricks j) ((with_brick m k x).bricks j)
  one_moves x move j = at_each (λ i b. BrickMove (T i) (m.bricks i) b) m.bricks k x move j (BrickMove.Stays refl)

  takes : (inputs : List Input) → T k inputs → (j : ℕ) → BrickMove (T j) (m.bricks j) ((with_inputs m k inputs).bricks j)
  takes inputs may = one_moves _ (BrickMove.Takes inputs may refl)

  served_moves : HasRequest (m.bricks k) true → BrickMove (T k) (m.bricks k) (served_front (m.bricks k).line (popped (m.bricks k)))
  served_moves h = let b = m.bricks k in
      BrickMove.Serves h.by h.asked h.rest h.front h.served (ap (λ (l : List Input). served_front l (record b { line = without_front l })) h.front)

  refused_moves : (answer : Answer) → MayRefuse (m.bricks k) answer → BrickMove (T k) (m.bricks k) (refused_front (m.bricks k).line answer (popped (m.bricks k)))
  refused_moves answer h = let b = m.bricks k in
      BrickMove.Refuses h.request.by h.request.asked answer h.request.rest h.request.front h.refusable h.refusal (ap (λ (l : List Input). refused_front l answer (record b { line = without_front l })) h.request.front)

  given_up_moves : HasRequest (m.bricks k) false → BrickMove (T k) (m.bricks k) (given_up_front (m.bricks k).line (popped (m.bricks k)))
  given_up_moves h = let b = m.bricks k in
      BrickMove.GivesUp h.by h.asked h.rest h.front h.served (ap (λ (l : List Input). given_up_front l (record b { line = without_front l })) h.front)

  steered_moves : HasControl (m.bricks k) → BrickMove (T k) (m.bricks k) (steered_front (m.bricks k).line (popped (m.bricks k)))
  steered_moves h = let b = m.bricks k in
      BrickMove.Steers h.steering h.rest h.front (ap (λ (l : List Input). steered_front l (record b { line = without_front l })) h.front)

  front_taken : (new : State) (os : List Output) → (take_in_front new k os).bricks ≡ new.bricks
  front_taken new [] = refl
  front_taken new (o ∷ os) = (taken_in_beside new k o).bricks

  hands_over : HasOutput (m.bricks k) → (j : ℕ) → BrickMove (T j) (m.bricks j) ((take_in_front (without_first_output m k) k (m.bricks k).outputs).bricks j)
  hands_over h j = let b = m.bricks k in
      subst (λ (f : ℕ → Brick). BrickMove (T j) (m.bricks j) (f j)) (sym (front_taken (without_first_output m k) b.outputs))
      (one_moves _ (BrickMove.Hands h.first h.rest h.front (ap (λ (os : List Output). record b { outputs = without_output os }) h.front)) j)

still : (T : ℕ → List Input → Type 0) (m new : State) → new.bricks ≡ m.bricks → (j : ℕ) → BrickMove (T j) (m.bricks j) (new.bricks j)
still T m new same j = BrickMove.Stays (ap (λ (f : ℕ → Brick). f j) same)

pub bricks_move : BricksMove
bricks_move size m (Step.Turns t turn) h = still (IsTaken m (Step.Turns t turn)) m (after_turn size m t turn) (turn_bricks size m t turn)
bricks_move size m (Step.Asks t k first asked) h = takes m k (IsTaken m (Step.Asks t k first asked)) (inputs_of (sender_of m t k) (asks_of first asked)) (refl, refl)
bricks_move size m (Step.Controls k steering) h = takes m k (IsTaken m (Step.Controls k steering)) (Steered steering ∷ []) (refl, refl)
bricks_move size m (Step.Serves k) h = one_moves m k (IsTaken m (Step.Serves k)) _ (served_moves m k (IsTaken m (Step.Serves k)) h)
bricks_move size m (Step.Refuses k answer) h = one_moves m k (IsTaken m (Step.Refuses k answer)) _ (refused_moves m k (IsTaken m (Step.Refuses k answer)) answer h)
bricks_move size m (Step.GivesUp k) h = one_moves m k (IsTaken m (Step.GivesUp k)) _ (given_up_moves m k (IsTaken m (Step.GivesUp k)) h)
bricks_move size m (Step.Steers k) h = one_moves m k (IsTaken m (Step.Steers k)) _ (steered_moves m k (IsTaken m (Step.Steers k)) h)
bricks_move size m (Step.HandsIn k) h = hands_over m k (IsTaken m (Step.HandsIn k)) h
bricks_move size m (Step.Bails t k) h = λ j. BrickMove.Stays refl
bricks_move size m (Step.Misses t k) h = λ j. BrickMove.Stays refl
bricks_move size m (Step.Connects k g) h = takes m k (IsTaken m (Step.Connects k g)) (Steered (Control.Connect g) ∷ []) (refl, refl)
bricks_move size m (Step.Cuts k g) h = takes m k (IsTaken m (Step.Cuts k g)) (Steered (Control.Disconnect g) ∷ []) (refl, refl)
bricks_move size m (Step.Draws number) h = λ j. BrickMove.Stays refl
bricks_move size m (Step.Unsettles t) h = still (IsTaken m (Step.Unsettles t)) m (unsettling m t (m.txns t).stage) (unsettling_bricks m t (m.txns t).stage)
bricks_move size m (Step.Decides t) h = still (IsTaken m (Step.Decides t)) m (decided m (decided_by (m.txns t).stage)) (decided_bricks m (decided_by (m.txns t).stage))
