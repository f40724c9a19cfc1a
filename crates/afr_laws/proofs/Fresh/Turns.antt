-- Turns: what is known of a transaction's lock phase.
use Rattle.std.proofs.Common.{◌≡◌, ◌∙◌, ℕ, ◌+◌, ◌≤◌, Bool, true, refl, ap, subst, arith, Option, Some, None}
use Rattle.std.specs.Prelude.{List, ◌||◌, not}
use Rattle.fop_types.specs.declared.cells.Cell.{Cell}
use Rattle.fop_types.specs.declared.jobs.Job.{Job}
use Rattle.fop_types.specs.declared.jobs.Job.TheVariants as job
use Rattle.afr_machine.specs.Replicas.{Size, Replicas, nobody, outside, with_at}
use Rattle.afr_machine.specs.Changes.{Change}
use Rattle.afr_machine.specs.Phases.{Phase}
use Rattle.afr_machine.specs.Transactions.{Work, Stage, Txn}
use Rattle.afr_machine.specs.Transactions.Work.{Own, Settles}
use Rattle.afr_machine.specs.Transactions.Stage.{Over, Locking, Locked, Marking, Applying, Posting, Settling, Bearing, Copying, Polling, Unlocking}
use Rattle.afr_machine.specs.States.{State}
use Rattle.afr_machine.specs.Births.{cells_of_work}
use Rattle.afr_machine.specs.Turns.{Turn, IsCopied, FollowsSettling, MayCopyAs, MayTurn, entering, members, open_grants, cells_locked, phase_reached, after_turn, locking_for, skipping, drawing, posting, settling, bearing, clearing}
use Rattle.afr_machine.proofs.Tables.{at_same, at_other}
use Rattle.afr_laws.specs.Drawn.{change_of, ChangesAreDrawn}
use Rattle.afr_laws.specs.Waiting.{EachWaitsFit}
use Rattle.afr_laws.specs.Fresh.{is_behind, IsWorkOf, AsksFor, HasWritten, KnowsPhase, EachKnowsPhase}
use Rattle.afr_laws.proofs.Carry.{at_case}
use Rattle.afr_laws.proofs.Waiting.{turn_idle}
use Rattle.afr_laws.proofs.Fresh.Phased.{PhasesGo, phase_carry, SamePhase, restaged}
use Rattle.afr_laws.proofs.Fresh.Phases.{turn_phases}

pub copied_behind : (stage : Stage) → IsCopied stage → is_behind stage ≡ true
copied_behind Locked h = refl
copied_behind (Copying run) h = refl
copied_behind other h = absurd h

follows_behind : (m : State) (stage : Stage) (sources : Replicas) → FollowsSettling m stage sources → is_behind stage ≡ true
follows_behind m (Settling u group adopts) sources h = refl
follows_behind m (Copying run) sources h = refl
follows_behind m other sources h = absurd h

pub copies_behind : (m : State) (t : ℕ) (work : Work) (group : Option Replicas) → MayCopyAs m t work group → is_behind (m.txns t).stage ≡ true
copies_behind m t Own None h = copied_behind (m.txns t).stage h.0
copies_behind m t Own (Some sources) h = absurd h
copies_behind m t (Settles u) None h = absurd h
copies_behind m t (Settles u) (Some sources) h = follows_behind m (m.txns t).stage sources h

module _ (size : Size) (m : State) (a : EachKnowsPhase m) (t : ℕ) where
  abbrev x : Txn
  x = m.txns t

  k : KnowsPhase m.changes m.phases m.ended (m.txns t)
  k = a t

  -- the state with one transaction changed
  only : (y : Txn) → KnowsPhase m.changes m.phases m.ended y → (i : ℕ) → KnowsPhase m.changes m.phases m.ended (with_at m.txns t y i)
  only y n i = at_case (λ j z. KnowsPhase m.changes m.phases m.ended z) m.txns t y n i (λ ne. a i)

  -- phases go on beside it
  beside : (new : ℕ → Phase) → PhasesGo m.ended m.phases new → (y : Txn) → KnowsPhase m.changes m.phases m.ended y → (i : ℕ) → KnowsPhase m.changes new m.ended (with_at m.txns t y i)
  beside new g y n i = phase_carry m.changes m.changes m.phases new m.ended m.ended (omega arith) g (with_at m.txns t y i) (λ u is. refl) (only y n i)

  -- another stage, of which nothing is to be known but its cells
  plain : (y : Txn) → SamePhase x y → IsWorkOf y.stage y.work → AsksFor y.stage (cells_of_work m.changes y y.work) → (is_behind y.stage ≡ true → is_behind x.stage ≡ true) → HasWritten y y.stage (m.phases y.phase).wrote → KnowsPhase m.changes m.phases m.ended y
  plain y s work asks behind wrote = restaged m.changes m.phases m.ended x y s work asks behind wrote k

  locks_known : (work : Work) → KnowsPhase m.changes m.phases m.ended (locking_for m x work)
  locks_known Own = record { low = k.low; work = tt; asks = refl; cells = λ h. absurd cc; wrote = tt }
  locks_known (Settles u) = record { low = k.low; work = tt; asks = refl; cells = λ h. absurd cc; wrote = tt }

  skips_known : (stage : Stage) → x.stage ≡ stage → KnowsPhase m.changes m.phases m.ended (skipping x stage)
  skips_known (Locking cells shared next) is = plain _ (record { job = refl; work = refl; phase = refl }) tt (subst (λ s. AsksFor s (cells_of_work m.changes x x.work)) is k.asks) (λ h. absurd cc) tt
  skips_known other is = k

  -- ---- the lock phase ends

  abbrev reached_txn : Txn
  reached_txn = record (m.txns t) { stage = Locked; phase = m.ended + 1; out = λ j. (m.txns t).out j || not (open_grants m t j) }

  abbrev reached_phases : ℕ → Phase
  reached_phases = with_at m.phases (m.ended + 1) (phase_reached m t)

  reached_known : (cells : List Cell) (shared : Bool) (next : ℕ) → x.stage ≡ Locking cells shared next → KnowsPhase m.changes reached_phases (m.ended + 1) reached_txn
  reached_known cells shared next is = record {
    low = omega arith;
    work = tt;
    asks = tt;
    cells = λ h. ap (λ (p : Phase). p.cells) (at_same m.phases (m.ended + 1) (phase_reached m t)) ∙ ap cells_locked is ∙ subst (λ s. AsksFor s (cells_of_work m.changes x x.work)) is k.asks;
    wrote = tt;
  }

  reaches_known : (cells : List Cell) (shared : Bool) (next : ℕ) → x.stage ≡ Locking cells shared next → EachKnowsPhase (after_turn size m t Turn.Reaches)
  reaches_known cells shared next is i =
      at_case (λ n y. KnowsPhase m.changes reached_phases (m.ended + 1) y) m.txns t reached_txn (reached_known cells shared next is) i
      (λ ne. phase_carry m.changes m.changes m.phases reached_phases m.ended (m.ended + 1) (omega arith) (turn_phases m size t Turn.Reaches) (m.txns i) (λ u e. refl) (a i))

  -- ---- a number is drawn

  marks_known : ChangesAreDrawn m → (own : Job) → x.work ≡ Own → is_behind x.stage ≡ true → ((j : ℕ) → x.waits j ≡ true → ⊥) → PhasesGo m.ended m.phases (drawing m t own).phases → EachKnowsPhase (drawing m t own)
  marks_known d (job.Change cells fd op effect) work behind none g = λ i.
      phase_carry m.changes (drawing m t (job.Change cells fd op effect)).changes m.phases (drawing m t (job.Change cells fd op effect)).phases m.ended m.ended (omega arith) g ((drawing m t (job.Change cells fd op effect)).txns i) (named i)
      (only (record (entering x (Marking (m.drawn + 1)) (members m t)) { own = m.drawn + 1 }) mine i)
    where
      mine : KnowsPhase m.changes m.phases m.ended (record (entering (m.txns t) (Marking (m.drawn + 1)) (members m t)) { own = m.drawn + 1 })
      mine = plain _ (record { job = refl; work = refl; phase = refl }) work tt (λ h. behind) (λ j w. absurd (none j w), λ j c. absurd cc)

      old : (u : ℕ) → u ≤ m.drawn → ((drawing m t (job.Change cells fd op effect)).changes u).cells ≡ (m.changes u).cells
      old u low = ap (λ (c : Change). c.cells) (at_other m.changes (m.drawn + 1) _ u (λ e. absurd (omega (arith, e, low))))

      named : (i u : ℕ) → change_of ((drawing m t (job.Change cells fd op effect)).txns i).work ≡ u → ((drawing m t (job.Change cells fd op effect)).changes u).cells ≡ (m.changes u).cells
      named i u is = old u (subst (λ n. n ≤ m.drawn) is (at_case (λ n (y : Txn). change_of y.work ≤ m.drawn) m.txns t (record (entering (m.txns t) (Marking (m.drawn + 1)) (members m t)) { own = m.drawn + 1 }) (d.names t).work i (λ ne. (d.names i).work)))
  marks_known d other work behind none g = a

  -- ---- other turns

  posts_known : (stage : Stage) → x.stage ≡ stage → PhasesGo m.ended m.phases (posting size m t stage).phases → EachKnowsPhase (posting size m t stage)
  posts_known (Applying u) is g = beside _ g (entering x (Posting u) (m.changes u).done) (plain _ (record { job = refl; work = refl; phase = refl }) (subst (λ s. IsWorkOf s x.work) is k.work) tt (λ h. ap is_behind is) tt)
  posts_known other is g = a

  settles_known : (work : Work) (group : Replicas) (adopts : Bool) → x.work ≡ work → x.stage ≡ Locked → PhasesGo m.ended m.phases (settling size m t work group adopts).phases → EachKnowsPhase (settling size m t work group adopts)
  settles_known Own group adopts is stage g = a
  settles_known (Settles u) group adopts is stage g = beside _ g (entering x (Settling u group adopts) (members m t)) (plain _ (record { job = refl; work = refl; phase = refl }) is tt (λ h. ap is_behind stage) tt)

  bears_known : (own : Job) → x.stage ≡ Locked → EachKnowsPhase (bearing m t own)
  bears_known (job.Birth cells op) is = only _ (plain (entering x Bearing (members m t)) (record { job = refl; work = refl; phase = refl }) tt tt (λ h. ap is_behind is) tt)
  bears_known other is = a

  clears_known : (stage : Stage) → x.stage ≡ stage → EachKnowsPhase (clearing m t stage)
  clears_known (Copying run) is = only _ (plain (entering x (Copying (record run { clears = true })) (members m t)) (record { job = refl; work = refl; phase = refl }) tt tt (λ h. ap is_behind is) tt)
  clears_known other is = a

  pub turned_known : ChangesAreDrawn m → EachWaitsFit size m → (turn : Turn) → MayTurn size m t turn → EachKnowsPhase (after_turn size m t turn)
  turned_known d fit (Turn.Begins graph own) h = only _ (record { low = omega arith; work = tt; asks = tt; cells = λ b. absurd cc; wrote = tt })
  turned_known d fit (Turn.LocksFor work) h = only _ (locks_known work)
  turned_known d fit Turn.Skips h = only _ (skips_known x.stage refl)
  turned_known d fit Turn.Reaches h = reaches_known h.cells h.shared size.replicas h.turn
  turned_known d fit Turn.Marks h = marks_known d x.job h.work_is (copied_behind x.stage h.copied) (λ j w. turn_idle size m t Turn.Marks j h refl refl w (fit t j w)) (turn_phases m size t Turn.Marks)
  turned_known d fit Turn.Posts h = posts_known x.stage refl (turn_phases m size t Turn.Posts)
  turned_known d fit (Turn.SettlesAs group adopts) h = settles_known x.work group adopts refl h.turn (turn_phases m size t (Turn.SettlesAs group adopts))
  turned_known d fit Turn.Bears h = bears_known x.job h.turn
  turned_known d fit Turn.Confirms h = a
  turned_known d fit (Turn.Copies run) h = only _ (plain (entering x (Copying run) nobody) (record { job = refl; work = refl; phase = refl }) tt tt (λ b. copies_behind m t x.work run.group h.allowed) tt)
  turned_known d fit Turn.Clears h = clears_known x.stage refl
  turned_known d fit Turn.Polls h = only _ (plain (entering x Polling (outside size x.out)) (record { job = refl; work = refl; phase = refl }) tt tt (λ b. absurd cc) tt)
  turned_known d fit Turn.Unlocks h = only _ (plain (entering x Unlocking (open_grants m t)) (record { job = refl; work = refl; phase = refl }) tt tt (λ b. absurd cc) tt)
  turned_known d fit Turn.Rests h = only _ (record { low = k.low; work = tt; asks = tt; cells = λ b. absurd cc; wrote = tt })
  turned_known d fit Turn.Ends h = only _ (plain (record x { stage = Over }) (record { job = refl; work = refl; phase = refl }) tt tt (λ b. absurd cc) tt)
