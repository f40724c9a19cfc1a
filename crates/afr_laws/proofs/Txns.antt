-- Turns other than a beginning leave every transaction its flights.
use Rattle.std.proofs.Common.{◌≡◌, ◌∙◌, ℕ, Bool, true, false, refl, sym, ap, subst, ◌⊎◌, inl, inr, Option, Some, None, is_some}
use Rattle.std.specs.Prelude.{not, ◌||◌}
use Rattle.fop_types.specs.declared.jobs.Job.{Job}
use Rattle.fop_types.specs.declared.jobs.Job.TheVariants as job
use Rattle.afr_machine.specs.Replicas.{Size, Replicas, with_at, outside, nobody}
use Rattle.afr_machine.specs.Transactions.{Stage, Txn, Work}
use Rattle.afr_machine.specs.Transactions.Stage.{Over, Choosing, Locking, Locked, Applying, Posting, Settling, Bearing, Copying, Polling, Unlocking}
use Rattle.afr_machine.specs.Transactions.Work.{Own, Settles}
use Rattle.afr_machine.specs.States.{State}
use Rattle.afr_machine.specs.Turns.{Turn, IsCopied, FollowsSettling, MayCopyAs, may_hold, MayTurn, after_turn, entering, locking_for, skipping, resting, reaching, drawing, posting, settling, bearing, clearing, open_grants, members}
use Rattle.afr_machine.proofs.Tables.{at_each}
use Rattle.afr_laws.specs.Txns.{SameFlights}

pub same_flights : (x : Txn) → SameFlights x x
same_flights x = record { graph = refl; flying = refl; waits = refl; asked_on = refl; out = λ k h. h; over = λ o. o }

-- ---- one transaction is another one

module _ (m : State) (t : ℕ) where
  pub at_flights : (x : Txn) → SameFlights (m.txns t) x → (j : ℕ) → SameFlights (m.txns j) (with_at m.txns t x j)
  at_flights x s j = at_each (λ i y. SameFlights (m.txns i) y) m.txns t x s j (same_flights (m.txns j))

  module _ (runs : (m.txns t).stage ≡ Over → ⊥) where
    entering_flights : (stage : Stage) (to : Replicas) → SameFlights (m.txns t) (entering (m.txns t) stage to)
    entering_flights stage to = record { graph = refl; flying = refl; waits = refl; asked_on = refl; out = λ k h. h; over = λ o. absurd (runs o) }

    locking_flights : (work : Work) → SameFlights (m.txns t) (locking_for m (m.txns t) work)
    locking_flights Own = record { graph = refl; flying = refl; waits = refl; asked_on = refl; out = λ k h. h; over = λ o. absurd (runs o) }
    locking_flights (Settles u) = record { graph = refl; flying = refl; waits = refl; asked_on = refl; out = λ k h. h; over = λ o. absurd (runs o) }

    out_at : (next k : ℕ) → (m.txns t).out k ≡ true → with_at (m.txns t).out next true k ≡ true
    out_at next k h = at_each (λ i b. (m.txns t).out i ≡ true → b ≡ true) (m.txns t).out next true (λ o. refl) k (λ o. o) h

    skipping_flights : (stage : Stage) → SameFlights (m.txns t) (skipping (m.txns t) stage)
    skipping_flights (Locking cells shared next) = record { graph = refl; flying = refl; waits = refl; asked_on = refl; out = out_at next; over = λ o. absurd (runs o) }
    skipping_flights other = same_flights (m.txns t)

    reaching_flights : (j : ℕ) → SameFlights (m.txns j) ((reaching m t).txns j)
    reaching_flights = at_flights _ (record { graph = refl; flying = refl; waits = refl; asked_on = refl; out = λ k h. ap (λ b. b || not (open_grants m t k)) h; over = λ o. absurd (runs o) })

    drawing_flights : (own : Job) (j : ℕ) → SameFlights (m.txns j) ((drawing m t own).txns j)
    drawing_flights (job.Change cells fd op effect) = at_flights _ (record { graph = refl; flying = refl; waits = refl; asked_on = refl; out = λ k h. h; over = λ o. absurd (runs o) })
    drawing_flights other = λ j. same_flights (m.txns j)

    posting_flights : (size : Size) (stage : Stage) (j : ℕ) → SameFlights (m.txns j) ((posting size m t stage).txns j)
    posting_flights size (Applying u) = at_flights _ (entering_flights (Posting u) (m.changes u).done)
    posting_flights size other = λ j. same_flights (m.txns j)

    settling_flights : (size : Size) (work : Work) (group : Replicas) (adopts : Bool) (j : ℕ) → SameFlights (m.txns j) ((settling size m t work group adopts).txns j)
    settling_flights size Own group adopts = λ j. same_flights (m.txns j)
    settling_flights size (Settles u) group adopts = at_flights _ (entering_flights (Settling u group adopts) (members m t))

    bearing_flights : (own : Job) (j : ℕ) → SameFlights (m.txns j) ((bearing m t own).txns j)
    bearing_flights (job.Birth cells op) = at_flights _ (entering_flights Bearing (members m t))
    bearing_flights other = λ j. same_flights (m.txns j)

    clearing_flights : (stage : Stage) (j : ℕ) → SameFlights (m.txns j) ((clearing m t stage).txns j)
    clearing_flights (Copying run) = at_flights _ (entering_flights (Copying (record run { clears = true })) (members m t))
    clearing_flights other = λ j. same_flights (m.txns j)

    resting_flights : SameFlights (m.txns t) (resting m t)
    resting_flights = record { graph = refl; flying = refl; waits = refl; asked_on = refl; out = λ k h. ap (λ b. b || is_some ((m.txns t).grants k)) h; over = λ o. absurd (runs o) }

-- ---- who turns is not over

stays_over : (stage other : Stage) → stage ≡ other → stage ≡ Over → Over ≡ other
stays_over stage other p o = sym o ∙ p

copies_runs : (m : State) (t : ℕ) (work : Work) (group : Option Replicas) → MayCopyAs m t work group → (m.txns t).stage ≡ Over → ⊥
copies_runs m t Own None h o = subst IsCopied o h.0
copies_runs m t Own (Some sources) h o = h
copies_runs m t (Settles u) None h o = h
copies_runs m t (Settles u) (Some sources) h o = subst (λ stage. FollowsSettling m stage sources) o h

locks_runs : (m : State) (t : ℕ) (size : Size) (work : Work) → MayTurn size m t (Turn.LocksFor work) → (m.txns t).stage ≡ Over → ⊥
locks_runs m t size Own h o = absurd (let e : Over ≡ Choosing = stays_over _ _ h.turn o in cc)
locks_runs m t size (Settles u) h o = absurd (let e : Over ≡ Choosing = stays_over _ _ h.turn o in cc)

rests_runs : (stage : Stage) → (stage ≡ Unlocking) ⊎ (stage ≡ Polling) → stage ≡ Over → ⊥
rests_runs stage (inl h) o = absurd (let e : Over ≡ Unlocking = stays_over _ _ h o in cc)
rests_runs stage (inr h) o = absurd (let e : Over ≡ Polling = stays_over _ _ h o in cc)

abbrev pub is_beginning : Turn → Bool
is_beginning (Turn.Begins graph own) = true
is_beginning other = false

pub turn_flights : (size : Size) (m : State) (t : ℕ) (turn : Turn) → MayTurn size m t turn → is_beginning turn ≡ false → (j : ℕ) → SameFlights (m.txns j) ((after_turn size m t turn).txns j)
turn_flights size m t (Turn.Begins graph own) h b = absurd cc
turn_flights size m t (Turn.LocksFor work) h b = at_flights m t _ (locking_flights m t (locks_runs m t size work h) work)
turn_flights size m t Turn.Skips h b = at_flights m t _ (skipping_flights m t (λ o. absurd (let e : Over ≡ Locking h.cells h.shared h.next = stays_over _ _ h.turn o in cc)) (m.txns t).stage)
turn_flights size m t Turn.Reaches h b = reaching_flights m t (λ o. absurd (let e : Over ≡ Locking h.cells h.shared size.replicas = stays_over _ _ h.turn o in cc))
turn_flights size m t Turn.Marks h b = drawing_flights m t (λ o. subst IsCopied o h.copied) (m.txns t).job
turn_flights size m t Turn.Posts h b = posting_flights m t (λ o. absurd (let e : Over ≡ Applying h.change = stays_over _ _ h.turn o in cc)) size (m.txns t).stage
turn_flights size m t (Turn.SettlesAs group adopts) h b = settling_flights m t (λ o. absurd (let e : Over ≡ Locked = stays_over _ _ h.turn o in cc)) size (m.txns t).work group adopts
turn_flights size m t Turn.Bears h b = bearing_flights m t (λ o. absurd (let e : Over ≡ Locked = stays_over _ _ h.turn o in cc)) (m.txns t).job
turn_flights size m t Turn.Confirms h b = λ j. same_flights (m.txns j)
turn_flights size m t (Turn.Copies run) h b = at_flights m t _ (entering_flights m t (copies_runs m t (m.txns t).work run.group h.allowed) (Copying run) nobody)
turn_flights size m t Turn.Clears h b = clearing_flights m t (λ o. absurd (let e : Over ≡ Copying h.run = stays_over _ _ h.turn o in cc)) (m.txns t).stage
turn_flights size m t Turn.Polls h b = at_flights m t _ (entering_flights m t (λ o. absurd (let e : Over ≡ Choosing = stays_over _ _ h.turn o in cc)) Polling (outside size (m.txns t).out))
turn_flights size m t Turn.Unlocks h b = at_flights m t _ (entering_flights m t (λ o. absurd (let e : may_hold Over ≡ true = ap may_hold (sym o) ∙ h.turn in cc)) Unlocking (open_grants m t))
turn_flights size m t Turn.Rests h b = at_flights m t _ (resting_flights m t (rests_runs (m.txns t).stage h.turn))
turn_flights size m t Turn.Ends h b = at_flights m t _ (record { graph = refl; flying = refl; waits = refl; asked_on = refl; out = λ k p. p; over = λ o. refl })
