-- Each step but a beginning keeps the graphs of transactions, and whether they are over; connections keep their numbers.
use Rattle.std.proofs.Common.{◌≡◌, ◌∙◌, ℕ, ◌+◌, ◌≤◌, Bool, true, false, refl, sym, ap, subst, arith, Option, Some, None}
use Rattle.std.specs.Prelude.{if◌then◌else◌, List, [], ◌∷◌, ◌==◌}
use Rattle.fop_types.specs.declared.jobs.Job.{Job}
use Rattle.fop_types.specs.declared.jobs.Job.TheVariants as job
use Rattle.afr_machine.specs.Replicas.{Size, with_at}
use Rattle.afr_machine.specs.Requests.{Sender, Ask, Answer, Output}
use Rattle.afr_machine.specs.Requests.Output.{Answered, Closed, Opened, Connected}
use Rattle.afr_machine.specs.Transactions.{Stage, Txn, Work}
use Rattle.afr_machine.specs.Transactions.Stage.{Over, Marking, Applying, Copying}
use Rattle.afr_machine.specs.Transactions.Work.{Own, Settles}
use Rattle.afr_machine.specs.States.{State, Link, is_current, with_link}
use Rattle.afr_machine.specs.Answering.{passed, closed, forgetting, without_links, replied, taken_in, without_first_output}
use Rattle.afr_machine.specs.Turns.{Turn, after_turn, drawing, posting, settling, bearing, clearing}
use Rattle.afr_machine.specs.Steps.{Step, Allowed, after, take_in_front, unsettling, deciding, decided, decided_by}
use Rattle.afr_machine.proofs.Tables.{at_each}
use Rattle.afr_machine.proofs.Keeping.{replied_beside, taken_in_beside}
use Rattle.afr_laws.specs.Txns.{SameFlights, Goes}
use Rattle.afr_laws.proofs.Txns.{is_beginning, turn_flights}
use Rattle.afr_laws.proofs.Heard.{Heard, replied_txns}
use Rattle.afr_laws.proofs.Heard.Heard.{Took, Passed, OpenDone, OpenMissed}

pub goes : (x : Txn) → Goes x x
goes x = record { graph = refl; over = λ o. o }

of_flights : (x y : Txn) → SameFlights x y → Goes x y
of_flights x y s = record { graph = s.graph; over = s.over }

same_goes : (x y : Txn) → y ≡ x → Goes x y
same_goes x y e = record { graph = ap (λ (z : Txn). z.graph) e; over = λ o. ap (λ (z : Txn). z.stage) e ∙ o }

heard_goes : (x y : Txn) (k connection : ℕ) (ask : Ask) (answer : Answer) → Heard x y k connection ask answer → Goes x y
heard_goes x y k connection ask answer (Took plain waits same is) = record { graph = same.graph; over = same.over }
heard_goes x y k connection ask answer (Passed plain passes is) = record { graph = ap (λ (z : Txn). z.graph) is; over = λ o. ap (λ (z : Txn). z.stage) is ∙ o }
heard_goes x y k connection ask answer (OpenDone opens is) = record { graph = ap (λ (z : Txn). z.graph) is; over = λ o. ap (λ (z : Txn). z.stage) is ∙ o }
heard_goes x y k connection ask answer (OpenMissed opens is) = record { graph = ap (λ (z : Txn). z.graph) is; over = λ o. ap (λ (z : Txn). z.stage) is ∙ o }

module _ (m : State) where
  at_goes : (t : ℕ) (x : Txn) → Goes (m.txns t) x → (i : ℕ) → Goes (m.txns i) (with_at m.txns t x i)
  at_goes t x g i = at_each (λ n y. Goes (m.txns n) y) m.txns t x g i (goes (m.txns i))

  forgetting_goes : (ends : ℕ → Bool) (k : ℕ) (x : Txn) → Goes x (forgetting ends k x)
  forgetting_goes ends k x = by_case (ends x.graph) where
    by_case : (b : Bool) → Goes x (if b then record x { flying = with_at x.flying k [] } else x)
    by_case true = record { graph = refl; over = λ o. o }
    by_case false = goes x

  replied_goes : (k : ℕ) (by : Sender) (ask : Ask) (answer : Answer) (i : ℕ) → Goes (m.txns i) ((replied m k by ask answer).txns i)
  replied_goes k by ask answer i =
      let r = replied_txns m k by ask answer in
      subst (λ (txns : ℕ → Txn). Goes (m.txns i) (txns i)) (sym r.is) (at_goes by.txn r.after (heard_goes (m.txns by.txn) r.after k by.connection ask answer r.heard) i)

  taken_goes : (k : ℕ) (o : Output) (i : ℕ) → Goes (m.txns i) ((taken_in m k o).txns i)
  taken_goes k (Answered by ask answer) i = by_case (is_current (m.links k by.graph) by.connection) where
    by_case : (b : Bool) → Goes (m.txns i) ((if b then replied m k by ask answer else m).txns i)
    by_case true = replied_goes k by ask answer i
    by_case false = goes (m.txns i)
  taken_goes k Closed i = forgetting_goes (λ g. true) k (m.txns i)
  taken_goes k Opened i = goes (m.txns i)
  taken_goes k (Connected graph) i = goes (m.txns i)

  front_goes : (k : ℕ) (os : List Output) (i : ℕ) → Goes (m.txns i) ((take_in_front m k os).txns i)
  front_goes k [] i = goes (m.txns i)
  front_goes k (o ∷ os) i = taken_goes k o i

  unsettling_goes : (t : ℕ) (stage : Stage) → (m.txns t).stage ≡ stage → (i : ℕ) → Goes (m.txns i) ((unsettling m t stage).txns i)
  unsettling_goes t (Marking u) is i = at_goes t _ (record { graph = refl; over = λ o. absurd (let e : Over ≡ Marking u = sym o ∙ is in cc) }) i
  unsettling_goes t other is i = goes (m.txns i)

  pub decided_txns : (d : Option (ℕ × Bool)) → (decided m d).txns ≡ m.txns
  decided_txns None = refl
  decided_txns (Some d) = by_case d.1 _ where
    by_case : (a b : Bool) → (deciding m d.0 a b).txns ≡ m.txns
    by_case a false = refl
    by_case true true = refl
    by_case false true = refl

abbrev pub begins : Step → Bool
begins (Step.Turns t turn) = is_beginning turn
begins other = false

pub step_goes : (size : Size) (m : State) (step : Step) → Allowed size m step → begins step ≡ false → (i : ℕ) → Goes (m.txns i) ((after size m step).txns i)
step_goes size m (Step.Turns t turn) h b i = of_flights (m.txns i) _ (turn_flights size m t turn h b i)
step_goes size m (Step.Asks t k first asked) h b i = at_goes m t _ (record { graph = refl; over = λ o. o }) i
step_goes size m (Step.Bails t k) h b i = at_goes m t _ (record { graph = refl; over = λ o. ap passed o }) i
step_goes size m (Step.Misses t k) h b i = at_goes m t _ (record { graph = refl; over = λ o. o }) i
step_goes size m (Step.HandsIn k) h b i = front_goes (without_first_output m k) k (m.bricks k).outputs i
step_goes size m (Step.Cuts k g) h b i = forgetting_goes m (λ other. other == g) k (m.txns i)
step_goes size m (Step.Unsettles t) h b i = unsettling_goes m t (m.txns t).stage refl i
step_goes size m (Step.Decides t) h b i = same_goes (m.txns i) _ (ap (λ (f : ℕ → Txn). f i) (decided_txns m (decided_by (m.txns t).stage)))
step_goes size m other h b i = goes (m.txns i)

-- ---- connections

module _ (m : State) where
  pub turn_links : (size : Size) (t : ℕ) (turn : Turn) → (after_turn size m t turn).links ≡ m.links
  turn_links size t Turn.Marks = drawn (m.txns t).job where
    drawn : (j : Job) → (drawing m t j).links ≡ m.links
    drawn (job.Change cells fd op effect) = refl
    drawn other = refl
  turn_links size t Turn.Posts = posted (m.txns t).stage where
    posted : (stage : Stage) → (posting size m t stage).links ≡ m.links
    posted (Applying u) = refl
    posted other = refl
  turn_links size t (Turn.SettlesAs group adopts) = settled (m.txns t).work where
    settled : (work : Work) → (settling size m t work group adopts).links ≡ m.links
    settled Own = refl
    settled (Settles u) = refl
  turn_links size t Turn.Bears = born (m.txns t).job where
    born : (j : Job) → (bearing m t j).links ≡ m.links
    born (job.Birth cells op) = refl
    born other = refl
  turn_links size t Turn.Clears = cleared (m.txns t).stage where
    cleared : (stage : Stage) → (clearing m t stage).links ≡ m.links
    cleared (Copying run) = refl
    cleared other = refl
  turn_links size t other = refl

  turn_begun : (size : Size) (t : ℕ) (turn : Turn) → is_beginning turn ≡ false → (after_turn size m t turn).begun ≡ m.begun
  turn_begun size t (Turn.Begins graph own) b = absurd cc
  turn_begun size t Turn.Marks b = drawn (m.txns t).job where
    drawn : (j : Job) → (drawing m t j).begun ≡ m.begun
    drawn (job.Change cells fd op effect) = refl
    drawn other = refl
  turn_begun size t Turn.Posts b = posted (m.txns t).stage where
    posted : (stage : Stage) → (posting size m t stage).begun ≡ m.begun
    posted (Applying u) = refl
    posted other = refl
  turn_begun size t (Turn.SettlesAs group adopts) b = settled (m.txns t).work where
    settled : (work : Work) → (settling size m t work group adopts).begun ≡ m.begun
    settled Own = refl
    settled (Settles u) = refl
  turn_begun size t Turn.Bears b = born (m.txns t).job where
    born : (j : Job) → (bearing m t j).begun ≡ m.begun
    born (job.Birth cells op) = refl
    born other = refl
  turn_begun size t Turn.Clears b = cleared (m.txns t).stage where
    cleared : (stage : Stage) → (clearing m t stage).begun ≡ m.begun
    cleared (Copying run) = refl
    cleared other = refl
  turn_begun size t other b = refl

  pub unsettling_links : (t : ℕ) (stage : Stage) → (unsettling m t stage).links ≡ m.links
  unsettling_links t (Marking u) = refl
  unsettling_links t other = refl

  unsettling_begun : (t : ℕ) (stage : Stage) → (unsettling m t stage).begun ≡ m.begun
  unsettling_begun t (Marking u) = refl
  unsettling_begun t other = refl

  pub decided_links : (d : Option (ℕ × Bool)) → (decided m d).links ≡ m.links
  decided_links None = refl
  decided_links (Some d) = by_case d.1 _ where
    by_case : (a b : Bool) → (deciding m d.0 a b).links ≡ m.links
    by_case a false = refl
    by_case true true = refl
    by_case false true = refl

  decided_begun : (d : Option (ℕ × Bool)) → (decided m d).begun ≡ m.begun
  decided_begun None = refl
  decided_begun (Some d) = by_case d.1 _ where
    by_case : (a b : Bool) → (deciding m d.0 a b).begun ≡ m.begun
    by_case a false = refl
    by_case true true = refl
    by_case false true = refl

  pub ended_last : (k : ℕ) (ends : ℕ → Bool) (j g : ℕ) → (m.links j g).last ≤ ((without_links m k ends).links j g).last
  ended_last k ends j g = at_each (λ n (f : ℕ → Link). (m.links n g).last ≤ (f g).last) m.links k _ (by_case (ends g)) j (omega arith) where
    by_case : (b : Bool) → (m.links k g).last ≤ (if b then closed (m.links k g) else m.links k g).last
    by_case true = omega arith
    by_case false = omega arith

  linked_last : (k h j g : ℕ) → (m.links j g).last ≤ ((with_link m k h (record { last = (m.links k h).last + 1; is_open = true })).links j g).last
  linked_last k h j g =
      at_each (λ n (f : ℕ → Link). (m.links n g).last ≤ (f g).last) m.links k _
      (at_each (λ n (l : Link). (m.links k n).last ≤ l.last) (m.links k) h _ (omega arith) g (omega arith)) j (omega arith)

  pub taken_last : (k : ℕ) (o : Output) (j g : ℕ) → (m.links j g).last ≤ ((taken_in m k o).links j g).last
  taken_last k (Answered by ask answer) j g = by_case (is_current (m.links k by.graph) by.connection) where
    by_case : (b : Bool) → (m.links j g).last ≤ ((if b then replied m k by ask answer else m).links j g).last
    by_case true = subst (λ (links : ℕ → ℕ → Link). (m.links j g).last ≤ (links j g).last) (sym (replied_beside m k by ask answer).links) (omega arith)
    by_case false = omega arith
  taken_last k Closed j g = ended_last k (λ h. true) j g
  taken_last k Opened j g = omega arith
  taken_last k (Connected graph) j g = omega arith

  front_last : (k : ℕ) (os : List Output) (j g : ℕ) → (m.links j g).last ≤ ((take_in_front m k os).links j g).last
  front_last k [] j g = omega arith
  front_last k (o ∷ os) j g = taken_last k o j g

  front_begun : (k : ℕ) (os : List Output) → (take_in_front m k os).begun ≡ m.begun
  front_begun k [] = refl
  front_begun k (o ∷ os) = (taken_in_beside m k o).begun

same_last : (f g : ℕ → ℕ → Link) → g ≡ f → (j h : ℕ) → (f j h).last ≤ (g j h).last
same_last f g e j h = omega (arith, ap (λ (l : ℕ → ℕ → Link). (l j h).last) e)

pub step_last : (size : Size) (m : State) (step : Step) (j g : ℕ) → (m.links j g).last ≤ ((after size m step).links j g).last
step_last size m (Step.Turns t turn) j g = same_last m.links _ (turn_links m size t turn) j g
step_last size m (Step.HandsIn k) j g = front_last (without_first_output m k) k (m.bricks k).outputs j g
step_last size m (Step.Connects k h) j g = linked_last m k h j g
step_last size m (Step.Cuts k h) j g = ended_last m k (λ other. other == h) j g
step_last size m (Step.Unsettles t) j g = same_last m.links _ (unsettling_links m t (m.txns t).stage) j g
step_last size m (Step.Decides t) j g = same_last m.links _ (decided_links m (decided_by (m.txns t).stage)) j g
step_last size m other j g = omega arith

pub step_begun : (size : Size) (m : State) (step : Step) → begins step ≡ false → (after size m step).begun ≡ m.begun
step_begun size m (Step.Turns t turn) b = turn_begun m size t turn b
step_begun size m (Step.HandsIn k) b = front_begun (without_first_output m k) k (m.bricks k).outputs
step_begun size m (Step.Unsettles t) b = unsettling_begun m t (m.txns t).stage
step_begun size m (Step.Decides t) b = decided_begun m (decided_by (m.txns t).stage)
step_begun size m other b = refl
