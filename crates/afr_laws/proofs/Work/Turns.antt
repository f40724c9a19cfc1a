-- Turns: what is known of a transaction's work.
use Rattle.std.proofs.Common.{◌≡◌, ◌∙◌, ℕ, ◌+◌, ◌≤◌, Bool, true, false, refl, sym, ap, subst, arith, Option, Some, None}
use Rattle.std.specs.Prelude.{List, ◌||◌, not}
use Rattle.fop_types.specs.declared.cells.Cell.{Cell}
use Rattle.fop_types.specs.declared.jobs.Job.{Job}
use Rattle.fop_types.specs.declared.jobs.Job.TheVariants as job
use Rattle.afr_machine.specs.Replicas.{Size, Replicas, outside, with_at}
use Rattle.afr_machine.specs.Touching.{has_cell}
use Rattle.afr_machine.specs.Changes.{Change}
use Rattle.afr_machine.specs.Transactions.{Work, Stage, Grant, CopyRun, Txn, locks_shared, new_txn}
use Rattle.afr_machine.specs.Transactions.Work.{Own, Settles}
use Rattle.afr_machine.specs.Transactions.Stage.{Over, Locking, Locked, Marking, Applying, Posting, Settling, Bearing, Copying, Polling, Unlocking}
use Rattle.afr_machine.specs.States.{State}
use Rattle.afr_machine.specs.Births.{cells_of_work}
use Rattle.afr_machine.specs.Turns.{Turn, MayCopyFor, MayCopyAs, MayLockFor, MayTurn, entering, members, open_grants, after_turn, locking_for, skipping, resting, drawing, posting, settling, bearing, clearing}
use Rattle.afr_machine.proofs.Tables.{at_other}
use Rattle.afr_laws.specs.Drawn.{change_of, ChangesAreDrawn}
use Rattle.afr_laws.specs.Fresh.{EachKnowsPhase}
use Rattle.afr_laws.specs.Grants.{GrantsAreHeld, has_none}
use Rattle.afr_laws.specs.Work.{shares_of, AsksShared, OnRun, AreCellsOf, changes_in, KnowsWork, EachKnowsWork}
use Rattle.afr_laws.proofs.Carry.{at_case}
use Rattle.afr_laws.proofs.Fresh.Turns.{copies_behind}
use Rattle.afr_laws.proofs.Work.Same.{AreOfWork, work_goes, work_carry}

-- a transaction without grants
no_grants : (cells : List Cell) (shares : Bool) (y : Txn) → ((k : ℕ) → y.grants k ≡ None) → AreOfWork cells shares y
no_grants cells shares y none k grant is = absurd (let no : None ≡ Some grant = sym (none k) ∙ is in cc)

module _ (size : Size) (m : State) (a : EachKnowsWork m) (t : ℕ) where
  abbrev x : Txn
  x = m.txns t

  n : KnowsWork m.changes (m.txns t)
  n = a t

  -- the state with one transaction changed
  only : (y : Txn) → KnowsWork m.changes y → (i : ℕ) → KnowsWork m.changes (with_at m.txns t y i)
  only y k i = at_case (λ j z. KnowsWork m.changes z) m.txns t y k i (λ ne. a i)

  -- another stage, with the job, the work and the grants as they are
  staged : (y : Txn) → y.job ≡ x.job → y.work ≡ x.work → y.grants ≡ x.grants → AsksShared y.stage (shares_of x.job x.work) → OnRun (AreCellsOf (cells_of_work m.changes x x.work)) y.stage → (changes_in y.stage ≡ true → shares_of x.job x.work ≡ false) → KnowsWork m.changes y
  staged y own work grants asks copies exclusive = work_goes m.changes x y own work asks copies exclusive (λ k grant is. n.grants k grant (sym (ap (λ (f : ℕ → Option Grant). f k) grants) ∙ is))

  locks_work : GrantsAreHeld m → (work : Work) → has_none x.stage ≡ true → KnowsWork m.changes (locking_for m x work)
  locks_work g Own none = record { asks = refl; copies = tt; exclusive = λ c. absurd cc; grants = no_grants _ _ (locking_for m x Own) (g.none t none) }
  locks_work g (Settles u) none = record { asks = refl; copies = tt; exclusive = λ c. absurd cc; grants = no_grants _ _ (locking_for m x (Settles u)) (g.none t none) }

  skips_work : (stage : Stage) → x.stage ≡ stage → KnowsWork m.changes (skipping x stage)
  skips_work (Locking cells shared next) is = staged _ refl refl refl (subst (λ s. AsksShared s (shares_of x.job x.work)) is n.asks) tt (λ c. absurd cc)
  skips_work other is = n

  -- a number is drawn: changes that are named by now keep their cells
  marks_work : ChangesAreDrawn m → (own : Job) → shares_of x.job x.work ≡ false → EachKnowsWork (drawing m t own)
  marks_work d (job.Change cells fd op effect) alone = λ i. work_carry m.changes (drawing m t (job.Change cells fd op effect)).changes ((drawing m t (job.Change cells fd op effect)).txns i) (named i) (only marked mine i) where
    marked : Txn
    marked = record (entering (m.txns t) (Marking (m.drawn + 1)) (members m t)) { own = m.drawn + 1 }

    mine : KnowsWork m.changes (record (entering (m.txns t) (Marking (m.drawn + 1)) (members m t)) { own = m.drawn + 1 })
    mine = staged _ refl refl refl tt tt (λ c. alone)

    old : (u : ℕ) → u ≤ m.drawn → ((drawing m t (job.Change cells fd op effect)).changes u).cells ≡ (m.changes u).cells
    old u low = ap (λ (c : Change). c.cells) (at_other m.changes (m.drawn + 1) _ u (λ e. absurd (omega (arith, e, low))))

    named : (i u : ℕ) → change_of ((drawing m t (job.Change cells fd op effect)).txns i).work ≡ u → ((drawing m t (job.Change cells fd op effect)).changes u).cells ≡ (m.changes u).cells
    named i u is = old u (subst (λ v. v ≤ m.drawn) is (at_case (λ v (y : Txn). change_of y.work ≤ m.drawn) m.txns t (record (entering (m.txns t) (Marking (m.drawn + 1)) (members m t)) { own = m.drawn + 1 }) (d.names t).work i (λ ne. (d.names i).work)))
  marks_work d other alone = a

  posts_work : (stage : Stage) → x.stage ≡ stage → EachKnowsWork (posting size m t stage)
  posts_work (Applying u) is = only _ (staged (entering x (Posting u) (m.changes u).done) refl refl refl tt tt (λ c. n.exclusive (ap changes_in is)))
  posts_work other is = a

  settles_work : (work : Work) (group : Replicas) (adopts : Bool) → x.work ≡ work → EachKnowsWork (settling size m t work group adopts)
  settles_work Own group adopts is = a
  settles_work (Settles u) group adopts is = only _ (staged (entering x (Settling u group adopts) (members m t)) refl refl refl tt tt (λ c. ap (shares_of x.job) is))

  bears_work : (own : Job) → shares_of x.job x.work ≡ false → EachKnowsWork (bearing m t own)
  bears_work (job.Birth cells op) alone = only _ (staged (entering x Bearing (members m t)) refl refl refl tt tt (λ c. alone))
  bears_work other alone = a

  clears_work : (stage : Stage) → x.stage ≡ stage → EachKnowsWork (clearing m t stage)
  clears_work (Copying run) is = only _ (staged (entering x (Copying (record run { clears = true })) (members m t)) refl refl refl tt (subst (OnRun (AreCellsOf (cells_of_work m.changes x x.work))) is n.copies) (λ c. n.exclusive (ap changes_in is)))
  clears_work other is = a

  -- ---- a copy

  -- only changes and heals copy for their own job
  copies_alone : (own : Job) → MayCopyFor m t own → locks_shared own ≡ false
  copies_alone (job.Change cells fd op effect) h = refl
  copies_alone (job.Heal cell) h = refl
  copies_alone other h = absurd h

  copies_kind : (work : Work) (group : Option Replicas) → MayCopyAs m t work group → shares_of x.job work ≡ false
  copies_kind Own None h = copies_alone x.job h.1
  copies_kind Own (Some sources) h = absurd h
  copies_kind (Settles u) None h = absurd h
  copies_kind (Settles u) (Some sources) h = refl

  copies_work : EachKnowsPhase m → (run : CopyRun) → MayTurn size m t (Turn.Copies run) → EachKnowsWork (after_turn size m t (Turn.Copies run))
  copies_work p run h = only _ (staged (entering x (Copying run) (λ k. false)) refl refl refl tt within (λ c. copies_kind x.work run.group h.allowed)) where
    within : (cell : Cell) → has_cell run.cells cell ≡ true → has_cell (cells_of_work m.changes (m.txns t) (m.txns t).work) cell ≡ true
    within cell of_run = sym (ap (λ cs. has_cell cs cell) ((p t).cells (copies_behind m t (m.txns t).work run.group h.allowed))) ∙ h.within cell of_run

  locks_choosing : (work : Work) → MayLockFor m t work → has_none x.stage ≡ true
  locks_choosing Own h = ap has_none h.turn
  locks_choosing (Settles u) h = ap has_none h.turn

  pub turned_work : GrantsAreHeld m → ChangesAreDrawn m → EachKnowsPhase m → (turn : Turn) → MayTurn size m t turn → EachKnowsWork (after_turn size m t turn)
  turned_work g d p (Turn.Begins graph own) h = only _ (record { asks = tt; copies = tt; exclusive = λ c. absurd cc; grants = no_grants _ _ (new_txn graph own) (λ k. refl) })
  turned_work g d p (Turn.LocksFor work) h = only _ (locks_work g work (locks_choosing work h))
  turned_work g d p Turn.Skips h = only _ (skips_work x.stage refl)
  turned_work g d p Turn.Reaches h = only _ (staged (record x { stage = Locked; phase = m.ended + 1; out = λ k. x.out k || not (open_grants m t k) }) refl refl refl tt tt (λ c. absurd cc))
  turned_work g d p Turn.Marks h = marks_work d x.job (ap (shares_of x.job) h.work_is ∙ ap locks_shared h.job_is)
  turned_work g d p Turn.Posts h = posts_work x.stage refl
  turned_work g d p (Turn.SettlesAs group adopts) h = settles_work x.work group adopts refl
  turned_work g d p Turn.Bears h = bears_work x.job (ap (shares_of x.job) h.work_is ∙ ap locks_shared h.job_is)
  turned_work g d p Turn.Confirms h = a
  turned_work g d p (Turn.Copies run) h = copies_work p run h
  turned_work g d p Turn.Clears h = clears_work x.stage refl
  turned_work g d p Turn.Polls h = only _ (staged (entering x Polling (outside size x.out)) refl refl refl tt tt (λ c. absurd cc))
  turned_work g d p Turn.Unlocks h = only _ (staged (entering x Unlocking (open_grants m t)) refl refl refl tt tt (λ c. absurd cc))
  turned_work g d p Turn.Rests h = only _ (record { asks = tt; copies = tt; exclusive = λ c. absurd cc; grants = no_grants _ _ (resting m t) (λ k. refl) })
  turned_work g d p Turn.Ends h = only _ (staged (record x { stage = Over }) refl refl refl tt tt (λ c. absurd cc))
