-- Turns: a number that is drawn is that of the job's change, and no other turn touches it.
use Rattle.std.proofs.Common.{◌≡◌, ◌∙◌, ℕ, ◌+◌, ◌≤◌, Bool, true, refl, sym, ap, subst, arith, Option, Some, None}
use Rattle.std.specs.Prelude.{List}
use Rattle.fop_types.specs.Jobs.{IsJob}
use Rattle.fop_types.specs.StoreOps.{needs}
use Rattle.fop_types.specs.declared.cells.Cell.{Cell}
use Rattle.fop_types.specs.declared.history.Entry.{Entry}
use Rattle.fop_types.specs.declared.store_ops.StoreOp.{StoreOp}
use Rattle.fop_types.specs.declared.jobs.Job.{Job}
use Rattle.fop_types.specs.declared.jobs.Job.TheVariants as job
use Rattle.afr_machine.specs.Replicas.{Size, Replicas, nobody, with_at}
use Rattle.afr_machine.specs.Changes.{Change}
use Rattle.afr_machine.specs.Changes.Verdict.{Drawn}
use Rattle.afr_machine.specs.Transactions.{Work, Stage, Txn, cells_of_job, settles_first, may_hold}
use Rattle.afr_machine.specs.Transactions.Work.{Own, Settles}
use Rattle.afr_machine.specs.Transactions.Stage.{Locking, Locked, Marking, Applying, Settling, Copying}
use Rattle.afr_machine.specs.States.{State}
use Rattle.afr_machine.specs.Turns.{Turn, IsCopied, FollowsSettling, MayCopyAs, MayLockFor, MayTurn, members, entering, after_turn, locking_for, skipping, drawing, posting, settling, bearing, clearing}
use Rattle.afr_machine.proofs.Tables.{at_same, at_other}
use Rattle.afr_laws.specs.OwnChanges.{IsOwnStage, KnowsOwn, ChangesFit, ChangesAreOwn}
use Rattle.afr_laws.proofs.Carry.{at_case}
use Rattle.afr_laws.proofs.OwnChanges.Carries.{ChangeGoes, same_goes, own_carry, restaged}

-- ---- stages in which locks are held

copied_holds : (stage : Stage) → IsCopied stage → may_hold stage ≡ true
copied_holds Locked h = refl
copied_holds (Copying run) h = refl
copied_holds other h = absurd h

follows_holds : (m : State) (stage : Stage) (sources : Replicas) → FollowsSettling m stage sources → may_hold stage ≡ true
follows_holds m (Settling u group adopts) sources h = refl
follows_holds m (Copying run) sources h = refl
follows_holds m other sources h = absurd h

copies_holds : (m : State) (t : ℕ) (work : Work) (group : Option Replicas) → MayCopyAs m t work group → may_hold (m.txns t).stage ≡ true
copies_holds m t Own None h = copied_holds (m.txns t).stage h.0
copies_holds m t Own (Some sources) h = absurd h
copies_holds m t (Settles u) None h = absurd h
copies_holds m t (Settles u) (Some sources) h = follows_holds m (m.txns t).stage sources h

module _ (size : Size) (m : State) (a : ChangesAreOwn m) (t : ℕ) where
  abbrev x : Txn
  x = m.txns t

  k : KnowsOwn m.changes m.drawn t (m.txns t)
  k = a.own t

  others : (y : Txn) → KnowsOwn m.changes m.drawn t y → (i : ℕ) → KnowsOwn m.changes m.drawn i (with_at m.txns t y i)
  others y n i = at_case (λ j z. KnowsOwn m.changes m.drawn j z) m.txns t y n i (λ ne. a.own i)

  -- another stage with locks, of no change of its own
  plain : (y : Txn) → y.job ≡ x.job → y.own ≡ x.own → y.settled ≡ x.settled → y.work ≡ x.work → IsOwnStage m.changes y.own y.stage → (y.work ≡ Own → may_hold y.stage ≡ true → may_hold x.stage ≡ true) → KnowsOwn m.changes m.drawn t y
  plain y job own settled work stage holds = restaged m.changes m.drawn t x y (record { job = job; own = own; settled = settled }) stage (λ w h. k.settled (sym work ∙ w) (holds w h)) k

  locks_own : (work : Work) → MayLockFor m t work → KnowsOwn m.changes m.drawn t (locking_for m x work)
  locks_own Own h = record { job = k.job; owns = λ one. absurd (omega (arith, one, h.unmarked)); stage = tt; settled = λ w e. refl }
  locks_own (Settles u) h = restaged m.changes m.drawn t x _ (record { job = refl; own = refl; settled = refl }) tt (λ w e. absurd cc) k

  skips_own : (stage : Stage) → x.stage ≡ stage → KnowsOwn m.changes m.drawn t (skipping x stage)
  skips_own (Locking cells shared next) is = plain _ refl refl refl refl tt (λ w e. ap may_hold is)
  skips_own other is = k

  -- ---- a number is drawn

  other_goes : (own : Change) (u : ℕ) → u ≤ m.drawn → ChangeGoes (m.changes u) (with_at m.changes (m.drawn + 1) own u)
  other_goes own u low = subst (ChangeGoes (m.changes u)) (sym (at_other m.changes (m.drawn + 1) own u (λ e. absurd (omega (arith, e))))) (same_goes (m.changes u))

  drawn_other : (own : Change) (i : ℕ) → KnowsOwn (with_at m.changes (m.drawn + 1) own) (m.drawn + 1) i (m.txns i)
  drawn_other own i =
      own_carry m.changes (with_at m.changes (m.drawn + 1) own) m.drawn (m.drawn + 1) i (m.txns i) (omega arith)
      (λ u one is. let o = (a.own i).owns (subst (λ n. 1 ≤ n) (sym is) one) in other_goes own u (subst (λ n. n ≤ m.drawn) is o.drawn_yet)) (a.own i)

  module _ (cells : List Cell) (fd : ℕ) (op : StoreOp) (effect : Option Entry) (is : x.job ≡ job.Change cells fd op effect) where
    abbrev new : Change
    new = record { by = t; cells = cells; op = op; effect = effect; verdict = Drawn; done = nobody }

    abbrev table : ℕ → Change
    table = with_at m.changes (m.drawn + 1) new

    here : table (m.drawn + 1) ≡ new
    here = at_same m.changes (m.drawn + 1) new

    drawn_fit : ChangesFit table
    drawn_fit = record {
      needs_are = λ u. at_case (λ n (c : Change). c.cells ≡ needs c.op) m.changes (m.drawn + 1) new (subst IsJob is k.job).3 u (λ ne. a.fit.needs_are u);
      none = ap (λ (c : Change). c.cells) (at_other m.changes (m.drawn + 1) new 0 (λ e. absurd (omega (arith, e)))) ∙ a.fit.none;
    }

    drawn_own : x.work ≡ Own → may_hold x.stage ≡ true → KnowsOwn table (m.drawn + 1) t (record (entering x (Marking (m.drawn + 1)) (members m t)) { own = m.drawn + 1 })
    drawn_own work holds = record {
      job = k.job;
      owns = λ one. record {
        drawn_yet = omega arith;
        by = ap (λ (c : Change). c.by) here;
        settled = k.settled work holds;
        first = ap settles_first is;
        cells = ap cells_of_job is ∙ sym (ap (λ (c : Change). c.cells) here);
      };
      stage = (refl, (omega arith, ap (λ (c : Change). c.verdict) here));
      settled = λ w h. k.settled work holds;
    }

  draws_own : (own : Job) → x.job ≡ own → x.work ≡ Own → may_hold x.stage ≡ true → ChangesAreOwn (drawing m t own)
  draws_own (job.Change cells fd op effect) is work holds = record {
    fit = drawn_fit cells fd op effect is;
    own = λ i. at_case (λ n y. KnowsOwn (table cells fd op effect is) (m.drawn + 1) n y) m.txns t _ (drawn_own cells fd op effect is work holds) i (λ ne. drawn_other (new cells fd op effect is) i);
  }
  draws_own other is work holds = a

  -- ---- other turns

  keeps : (new : State) → new.changes ≡ m.changes → new.drawn ≡ m.drawn → ((i : ℕ) → KnowsOwn m.changes m.drawn i (new.txns i)) → ChangesAreOwn new
  keeps new changes drawn own = record {
    fit = subst ChangesFit (sym changes) a.fit;
    own = λ i. subst (λ (c : ℕ → Change). KnowsOwn c new.drawn i (new.txns i)) (sym changes) (subst (λ n. KnowsOwn m.changes n i (new.txns i)) (sym drawn) (own i));
  }

  posts_own : (stage : Stage) → x.stage ≡ stage → ChangesAreOwn (posting size m t stage)
  posts_own (Applying u) is = keeps _ refl refl (others _ (plain _ refl refl refl refl (subst (IsOwnStage m.changes x.own) is k.stage) (λ w e. ap may_hold is)))
  posts_own other is = a

  settles_own : (work : Work) (group : Replicas) (adopts : Bool) → x.stage ≡ Locked → ChangesAreOwn (settling size m t work group adopts)
  settles_own Own group adopts is = a
  settles_own (Settles u) group adopts is = keeps _ refl refl (others _ (plain _ refl refl refl refl tt (λ w e. ap may_hold is)))

  bears_own : (own : Job) → x.stage ≡ Locked → ChangesAreOwn (bearing m t own)
  bears_own (job.Birth cells op) is = keeps _ refl refl (others _ (plain _ refl refl refl refl tt (λ w e. ap may_hold is)))
  bears_own other is = a

  clears_own : (stage : Stage) → x.stage ≡ stage → ChangesAreOwn (clearing m t stage)
  clears_own (Copying run) is = keeps _ refl refl (others _ (plain _ refl refl refl refl tt (λ w e. ap may_hold is)))
  clears_own other is = a

  pub turned_own : (turn : Turn) → MayTurn size m t turn → ChangesAreOwn (after_turn size m t turn)
  turned_own (Turn.Begins graph own) h = keeps _ refl refl (others _ (record { job = h.1; owns = λ one. absurd (omega (arith, one)); stage = tt; settled = λ w e. absurd cc }))
  turned_own (Turn.LocksFor work) h = keeps _ refl refl (others _ (locks_own work h))
  turned_own Turn.Skips h = keeps _ refl refl (others _ (skips_own x.stage refl))
  turned_own Turn.Reaches h = keeps _ refl refl (others _ (plain _ refl refl refl refl tt (λ w e. ap may_hold h.turn)))
  turned_own Turn.Marks h = draws_own x.job refl h.work_is (copied_holds x.stage h.copied)
  turned_own Turn.Posts h = posts_own x.stage refl
  turned_own (Turn.SettlesAs group adopts) h = settles_own x.work group adopts h.turn
  turned_own Turn.Bears h = bears_own x.job h.turn
  turned_own Turn.Confirms h = keeps _ refl refl a.own
  turned_own (Turn.Copies run) h = keeps _ refl refl (others _ (plain _ refl refl refl refl tt (λ w e. copies_holds m t x.work run.group h.allowed)))
  turned_own Turn.Clears h = clears_own x.stage refl
  turned_own Turn.Polls h = keeps _ refl refl (others _ (plain _ refl refl refl refl tt (λ w e. absurd cc)))
  turned_own Turn.Unlocks h = keeps _ refl refl (others _ (plain _ refl refl refl refl tt (λ w e. absurd cc)))
  turned_own Turn.Rests h = keeps _ refl refl (others _ (restaged m.changes m.drawn t x _ (record { job = refl; own = refl; settled = refl }) tt (λ w e. absurd cc) k))
  turned_own Turn.Ends h = keeps _ refl refl (others _ (plain _ refl refl refl refl tt (λ w e. absurd cc)))
