-- The numbers of changes that transactions name were drawn, over every list of steps.
use Rattle.std.proofs.Common.{◌≡◌, ◌∙◌, ℕ, ◌+◌, ◌≤◌, ◌<◌, Bool, true, false, refl, sym, ap, subst, ◌⊎◌, inl, inr, arith, Option, Some, None}
use Rattle.std.specs.Prelude.{if◌then◌else◌, List, [], ◌∷◌, ◌==◌}
use Rattle.std.proofs.lemmas.Bool.{cases_lt}
use Rattle.fop_types.specs.declared.jobs.Job.{Job}
use Rattle.fop_types.specs.declared.jobs.Job.TheVariants as job
use Rattle.afr_machine.specs.Replicas.{Size, Replicas, with_at}
use Rattle.afr_machine.specs.Requests.{Ask, Answer, Output}
use Rattle.afr_machine.specs.Requests.Output.{Answered, Closed, Opened, Connected}
use Rattle.afr_machine.specs.Changes.{Change, is_unsettled}
use Rattle.afr_machine.specs.Changes.Verdict.{Undrawn}
use Rattle.afr_machine.specs.Transactions.{Work, Stage, Txn}
use Rattle.afr_machine.specs.Transactions.Work.{Own, Settles}
use Rattle.afr_machine.specs.Transactions.Stage.{Over, Choosing, Locking, Locked, Marking, Applying, Posting, Settling, Bearing, Copying, Polling, Unlocking}
use Rattle.afr_machine.specs.States.{State, is_current}
use Rattle.afr_machine.specs.Answering.{passed, landed, at_rest, forgetting, replied, taken_in, without_first_output}
use Rattle.afr_machine.specs.Turns.{Turn, MayLockFor, MayTurn, after_turn, locking_for, skipping, drawing, posting, settling, bearing, clearing}
use Rattle.afr_machine.specs.Steps.{Step, Allowed, after, IsReached, take_in_front, unsettling, deciding, decided, decided_by}
use Rattle.afr_machine.proofs.Tables.{at_other}
use Rattle.afr_machine.proofs.Keeping.{replied_beside}
use Rattle.afr_laws.specs.Waiting.{IsCopying}
use Rattle.afr_laws.specs.Drawn.{change_in, change_of, NamesDrawn, ChangesAreDrawn}
use Rattle.afr_laws.proofs.Bools.{both_left}
use Rattle.afr_laws.proofs.Carry.{at_case}
use Rattle.afr_laws.proofs.Heard.{Heard, replied_txns}
use Rattle.afr_laws.proofs.Heard.Heard.{Took, Passed, OpenDone, OpenMissed}
use Rattle.afr_laws.proofs.Stages.{StageGoes, hearing_stage}
use Rattle.afr_laws.proofs.Stages.StageGoes.{StaysIn, PassesOn, CopiesOn}
use Rattle.afr_laws.proofs.OwnChanges.Replies.{replied_table, hearing_task}

-- ---- replies

passed_change : (stage : Stage) → change_in (passed stage) ≡ change_in stage
passed_change (Locking cells shared next) = refl
passed_change Over = refl
passed_change Choosing = refl
passed_change Locked = refl
passed_change (Marking u) = refl
passed_change (Applying u) = refl
passed_change (Posting u) = refl
passed_change (Settling u group adopts) = refl
passed_change Bearing = refl
passed_change (Copying run) = refl
passed_change Polling = refl
passed_change Unlocking = refl

copying_none : (stage : Stage) → IsCopying stage → change_in stage ≡ 0
copying_none (Copying run) h = refl
copying_none other h = absurd h

goes_drawn : (drawn : ℕ) (old new : Stage) → StageGoes old new → change_in old ≤ drawn → change_in new ≤ drawn
goes_drawn drawn old new (StaysIn is) h = omega (arith, ap change_in is, h)
goes_drawn drawn old new (PassesOn is) h = omega (arith, ap change_in is, passed_change old, h)
goes_drawn drawn old new (CopiesOn c d) h = omega (arith, copying_none new d)

same_names : (drawn : ℕ) (x y z : Txn) → y ≡ z → z.stage ≡ x.stage → z.work ≡ x.work → NamesDrawn drawn x → NamesDrawn drawn y
same_names drawn x y z is stage work n = record {
  stage = omega (arith, ap (λ (w : Txn). change_in w.stage) is, ap change_in stage, n.stage);
  work = omega (arith, ap (λ (w : Txn). change_of w.work) is, ap change_of work, n.work);
}

heard_drawn : (drawn : ℕ) (x y : Txn) (k c : ℕ) (ask : Ask) (answer : Answer) → Heard x y k c ask answer → NamesDrawn drawn x → NamesDrawn drawn y
heard_drawn drawn x y k c ask answer (Took plain waits same is) n = record {
  stage = goes_drawn drawn x.stage y.stage (subst (λ (z : Txn). StageGoes x.stage z.stage) (sym is) (hearing_stage (at_rest x k) k c ask answer)) n.stage;
  work = omega (arith, ap (λ (w : Txn). change_of w.work) is, ap change_of (hearing_task (at_rest x k) k c ask answer).work, n.work);
}
heard_drawn drawn x y k c ask answer (Passed plain passes is) n = same_names drawn x y (landed x k) is refl refl n
heard_drawn drawn x y k c ask answer (OpenDone opens is) n = same_names drawn x y (landed x k) is refl refl n
heard_drawn drawn x y k c ask answer (OpenMissed opens is) n = same_names drawn x y (record (landed x k) { waits = with_at x.waits k false; out = with_at x.out k true }) is refl refl n

-- ---- states where the numbers drawn are the same

module _ (m : State) (d : ChangesAreDrawn m) where
  forgotten : (ends : ℕ → Bool) (k i : ℕ) → NamesDrawn m.drawn (forgetting ends k (m.txns i))
  forgotten ends k i = by_case (ends (m.txns i).graph) where
    by_case : (b : Bool) → NamesDrawn m.drawn (if b then record (m.txns i) { flying = with_at (m.txns i).flying k [] } else m.txns i)
    by_case true = record { stage = (d.names i).stage; work = (d.names i).work }
    by_case false = d.names i

  taken_drawn : (k : ℕ) (o : Output) → ChangesAreDrawn (taken_in m k o)
  taken_drawn k (Answered by ask answer) = by_case (is_current (m.links k by.graph) by.connection) where
    reply : ChangesAreDrawn (replied m k by ask answer)
    reply = let p = replied_txns m k by ask answer in record {
      names = λ i. subst (λ n. NamesDrawn n ((replied m k by ask answer).txns i)) (sym (replied_beside m k by ask answer).drawn) (subst (λ (f : ℕ → Txn). NamesDrawn m.drawn (f i)) (sym p.is)
          (at_case (λ n y. NamesDrawn m.drawn y) m.txns by.txn p.after (heard_drawn m.drawn (m.txns by.txn) p.after k by.connection ask answer p.heard (d.names by.txn)) i (λ ne. d.names i)));
      beyond = λ u far. (replied_table m k by ask answer u).verdict ∙ d.beyond u (omega (arith, (replied_beside m k by ask answer).drawn));
    }

    by_case : (b : Bool) → ChangesAreDrawn (if b then replied m k by ask answer else m)
    by_case true = reply
    by_case false = d
  taken_drawn k Closed = record { names = forgotten (λ g. true) k; beyond = d.beyond }
  taken_drawn k Opened = d
  taken_drawn k (Connected graph) = d

  front_drawn : (k : ℕ) (os : List Output) → ChangesAreDrawn (take_in_front m k os)
  front_drawn k [] = d
  front_drawn k (o ∷ os) = taken_drawn k o

  same_bound : (t : ℕ) (y : Txn) → NamesDrawn m.drawn y → (i : ℕ) → NamesDrawn m.drawn (with_at m.txns t y i)
  same_bound t y n i = at_case (λ j x. NamesDrawn m.drawn x) m.txns t y n i (λ ne. d.names i)

  -- a change that is unsettled was drawn
  unsettled_drawn : (u : ℕ) → is_unsettled (m.changes u).verdict ≡ true → u ≤ m.drawn
  unsettled_drawn u h = by_case (cases_lt m.drawn u) where
    by_case : (m.drawn < u) ⊎ (u ≤ m.drawn) → u ≤ m.drawn
    by_case (inl far) = absurd (let never : false ≡ true = sym (ap is_unsettled (d.beyond u far)) ∙ h in cc)
    by_case (inr near) = near

  other_change : (v : ℕ) (c : Change) → v ≤ m.drawn → (u : ℕ) → m.drawn < u → (with_at m.changes v c u).verdict ≡ Undrawn
  other_change v c near u far = ap (λ (x : Change). x.verdict) (at_other m.changes v c u (λ e. absurd (omega arith))) ∙ d.beyond u far

  unsettled_names : (t : ℕ) (stage : Stage) → (m.txns t).stage ≡ stage → ChangesAreDrawn (unsettling m t stage)
  unsettled_names t (Marking v) is =
      let near : v ≤ m.drawn = omega (arith, ap change_in is, (d.names t).stage) in
      record { names = same_bound t _ (record { stage = near; work = (d.names t).work }); beyond = other_change v _ near }
  unsettled_names t other is = d

  decided_names : (u : ℕ) (adopts first : Bool) → is_unsettled (m.changes u).verdict ≡ first → ChangesAreDrawn (deciding m u adopts first)
  decided_names u adopts false is = d
  decided_names u true true is = record { names = λ t. record { stage = (d.names t).stage; work = (d.names t).work }; beyond = other_change u _ (unsettled_drawn u is) }
  decided_names u false true is = record { names = λ t. record { stage = (d.names t).stage; work = (d.names t).work }; beyond = other_change u _ (unsettled_drawn u is) }

  decision_names : (o : Option (ℕ × Bool)) → ChangesAreDrawn (decided m o)
  decision_names None = d
  decision_names (Some o) = decided_names o.0 o.1 (is_unsettled (m.changes o.0).verdict) refl

  -- ---- turns

  locks_names : (t : ℕ) (work : Work) → MayLockFor m t work → NamesDrawn m.drawn (locking_for m (m.txns t) work)
  locks_names t Own h = record { stage = omega arith; work = omega arith }
  locks_names t (Settles u) h = record { stage = omega arith; work = unsettled_drawn u (both_left _ _ h.touching) }

  skips_names : (t : ℕ) (stage : Stage) → NamesDrawn m.drawn (skipping (m.txns t) stage)
  skips_names t (Locking cells shared next) = record { stage = omega arith; work = (d.names t).work }
  skips_names t other = d.names t

  draws_names : (t : ℕ) (own : Job) → ChangesAreDrawn (drawing m t own)
  draws_names t (job.Change cells fd op effect) = record {
    names = λ i. at_case (λ n x. NamesDrawn (m.drawn + 1) x) m.txns t _ (record { stage = omega arith; work = omega (arith, (d.names t).work) }) i (λ ne. record { stage = omega (arith, (d.names i).stage); work = omega (arith, (d.names i).work) });
    beyond = λ u far. ap (λ (x : Change). x.verdict) (at_other m.changes (m.drawn + 1) _ u (λ e. absurd (omega arith))) ∙ d.beyond u (omega arith);
  }
  draws_names t other = d

  posts_names : (size : Size) (t : ℕ) (stage : Stage) → (m.txns t).stage ≡ stage → ChangesAreDrawn (posting size m t stage)
  posts_names size t (Applying u) is = record { names = same_bound t _ (record { stage = omega (arith, ap change_in is, (d.names t).stage); work = (d.names t).work }); beyond = d.beyond }
  posts_names size t other is = d

  settles_names : (size : Size) (t : ℕ) (work : Work) (group : Replicas) (adopts : Bool) → (m.txns t).work ≡ work → ChangesAreDrawn (settling size m t work group adopts)
  settles_names size t Own group adopts is = d
  settles_names size t (Settles u) group adopts is = record { names = same_bound t _ (record { stage = omega (arith, ap change_of is, (d.names t).work); work = (d.names t).work }); beyond = d.beyond }

  bears_names : (t : ℕ) (own : Job) → ChangesAreDrawn (bearing m t own)
  bears_names t (job.Birth cells op) = record { names = same_bound t _ (record { stage = omega arith; work = (d.names t).work }); beyond = d.beyond }
  bears_names t other = d

  clears_names : (t : ℕ) (stage : Stage) → ChangesAreDrawn (clearing m t stage)
  clears_names t (Copying run) = record { names = same_bound t _ (record { stage = omega arith; work = (d.names t).work }); beyond = d.beyond }
  clears_names t other = d

  turned_drawn : (size : Size) (t : ℕ) (turn : Turn) → MayTurn size m t turn → ChangesAreDrawn (after_turn size m t turn)
  turned_drawn size t (Turn.Begins graph own) h = record { names = same_bound t _ (record { stage = omega arith; work = omega arith }); beyond = d.beyond }
  turned_drawn size t (Turn.LocksFor work) h = record { names = same_bound t _ (locks_names t work h); beyond = d.beyond }
  turned_drawn size t Turn.Skips h = record { names = same_bound t _ (skips_names t (m.txns t).stage); beyond = d.beyond }
  turned_drawn size t Turn.Reaches h = record { names = same_bound t _ (record { stage = omega arith; work = (d.names t).work }); beyond = d.beyond }
  turned_drawn size t Turn.Marks h = draws_names t (m.txns t).job
  turned_drawn size t Turn.Posts h = posts_names size t (m.txns t).stage refl
  turned_drawn size t (Turn.SettlesAs group adopts) h = settles_names size t (m.txns t).work group adopts refl
  turned_drawn size t Turn.Bears h = bears_names t (m.txns t).job
  turned_drawn size t Turn.Confirms h = record { names = d.names; beyond = d.beyond }
  turned_drawn size t (Turn.Copies run) h = record { names = same_bound t _ (record { stage = omega arith; work = (d.names t).work }); beyond = d.beyond }
  turned_drawn size t Turn.Clears h = clears_names t (m.txns t).stage
  turned_drawn size t Turn.Polls h = record { names = same_bound t _ (record { stage = omega arith; work = (d.names t).work }); beyond = d.beyond }
  turned_drawn size t Turn.Unlocks h = record { names = same_bound t _ (record { stage = omega arith; work = (d.names t).work }); beyond = d.beyond }
  turned_drawn size t Turn.Rests h = record { names = same_bound t _ (record { stage = omega arith; work = omega arith }); beyond = d.beyond }
  turned_drawn size t Turn.Ends h = record { names = same_bound t _ (record { stage = omega arith; work = (d.names t).work }); beyond = d.beyond }

-- ---- each step

step_drawn : (size : Size) (m : State) (step : Step) → Allowed size m step → ChangesAreDrawn m → ChangesAreDrawn (after size m step)
step_drawn size m (Step.Turns t turn) h d = turned_drawn m d size t turn h
step_drawn size m (Step.Asks t k first asked) h d = record { names = same_bound m d t _ (record { stage = (d.names t).stage; work = (d.names t).work }); beyond = d.beyond }
step_drawn size m (Step.HandsIn k) h d = front_drawn (without_first_output m k) (record { names = d.names; beyond = d.beyond }) k (m.bricks k).outputs
step_drawn size m (Step.Bails t k) h d = record { names = same_bound m d t _ (record { stage = omega (arith, passed_change (m.txns t).stage, (d.names t).stage); work = (d.names t).work }); beyond = d.beyond }
step_drawn size m (Step.Misses t k) h d = record { names = same_bound m d t _ (record { stage = (d.names t).stage; work = (d.names t).work }); beyond = d.beyond }
step_drawn size m (Step.Cuts k g) h d = record { names = forgotten m d (λ other. other == g) k; beyond = d.beyond }
step_drawn size m (Step.Draws number) h d = record { names = λ t. record { stage = omega (arith, h, (d.names t).stage); work = omega (arith, h, (d.names t).work) }; beyond = λ u far. d.beyond u (omega (arith, h)) }
step_drawn size m (Step.Unsettles t) h d = unsettled_names m d t (m.txns t).stage refl
step_drawn size m (Step.Decides t) h d = decision_names m d (decided_by (m.txns t).stage)
step_drawn size m other h d = record { names = d.names; beyond = d.beyond }

pub changes_are_drawn : (size : Size) (m : State) → IsReached size m → ChangesAreDrawn m
changes_are_drawn size m IsReached.Start = record { names = λ t. record { stage = omega arith; work = omega arith }; beyond = λ u far. refl }
changes_are_drawn size m (IsReached.Further old step reached allowed) = step_drawn size old step allowed (changes_are_drawn size old reached)
