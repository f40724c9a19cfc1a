-- Who takes what a lock phase decides, and that it spares one of them, over every list of steps.
use Rattle.std.proofs.Common.{◌≡◌, ◌∙◌, ℕ, ◌+◌, ◌≤◌, ◌<◌, zero, suc, Bool, true, false, refl, sym, ap, subst, inl, arith}
use Rattle.std.specs.Prelude.{◌||◌, ◌&&◌, not, nat_lt}
use Rattle.fop_types.specs.declared.jobs.Job.TheVariants as job
use Rattle.afr_machine.specs.Replicas.{Size, IsSize, Replicas, nobody, outside, one_if, count}
use Rattle.afr_machine.specs.Touching.{has_cell}
use Rattle.afr_machine.specs.Changes.{Change}
use Rattle.afr_machine.specs.Phases.{Phase, Deciding, IsReadyIn}
use Rattle.afr_machine.specs.Phases.Deciding.{NoChange, ByPosts, BySettles}
use Rattle.afr_machine.specs.Transactions.{cells_of_job}
use Rattle.afr_machine.specs.Transactions.Stage.{Applying}
use Rattle.afr_machine.specs.States.{State, phase_of}
use Rattle.afr_machine.specs.Births.{cells_of_work}
use Rattle.afr_machine.specs.Answering.{is_single}
use Rattle.afr_machine.specs.Turns.{Turn, MayMarkNow, MayPostNow, MaySettleNow, IsInGroup, members, drawing}
use Rattle.afr_machine.specs.Steps.{Step, Allowed, after, IsReached}
use Rattle.afr_machine.proofs.Tables.{at_same}
use Rattle.afr_laws.specs.Fresh.{is_behind}
use Rattle.afr_laws.specs.Ready.{AreReady, IsReadyFor}
use Rattle.afr_laws.proofs.Bools.{both_left}
use Rattle.afr_laws.proofs.Carry.{at_case}
use Rattle.afr_laws.proofs.Waiting.{waits_fit}
use Rattle.afr_laws.proofs.Fresh.Known.{phases_are_known}
use Rattle.afr_laws.proofs.Fresh.Phased.{PhasesGo}
use Rattle.afr_laws.proofs.Fresh.Steps.{step_phases}
use Rattle.afr_laws.proofs.Fresh.Turns.{copied_behind}
use Rattle.afr_laws.proofs.Overtaken.Steps.{PhaseFrom, phase_from}
use Rattle.afr_laws.proofs.Overtaken.Steps.PhaseFrom.{Old, Now}
use Rattle.afr_laws.proofs.Ready.Carry.{ready_carry}
use Rattle.afr_laws.proofs.Ready.Steps.{members_are_ready}
use Rattle.afr_soundness.specs.Deciding.{AccusesNobody, IsMarkedIn, IsDecidedIn, DecidesExactly}
use Rattle.afr_soundness.specs.Takers.{IsMemberOf, IsTaker, HasSpared, TakersAre, EveryDecisionSparesATaker}
use Rattle.afr_soundness.proofs.PhaseMoves.{PhaseMove, phase_moves}
use Rattle.afr_soundness.proofs.ChangeMoves.{ChangeMove, change_moves}
use Rattle.afr_soundness.proofs.Deciding.Kept.{applying_own, drawn_by}
use Rattle.afr_soundness.proofs.Deciding.Steps.{nobody_in, marked_none, applies_nobody, locked_none}
use Rattle.afr_soundness.proofs.Deciding.Whose.{decides_exactly}
use Rattle.afr_soundness.proofs.Takers.Asked.{asked_are_members}

-- ---- members of sets

pub record IsSome (n : ℕ) (set : Replicas) : Type 0 where
  pub member : ℕ
  pub below : member < n
  pub is : set member ≡ true

-- a set that is not empty has a member
pub some_of : (n : ℕ) (set : Replicas) → 1 ≤ count n set → IsSome n set
some_of zero set h = absurd (omega (arith, h))
some_of (suc k) set h = by_case (some_of k set) (set k) refl where
  by_case : (1 ≤ count k set → IsSome k set) → (b : Bool) → set k ≡ b → IsSome (suc k) set
  by_case more true is = record { member = k; below = omega arith; is = is }
  by_case more false is = let s = more (omega (arith, h, ap one_if is)) in record { member = s.member; below = omega (arith, s.below); is = s.is }

pub and_none : (b : Bool) → (b && false) ≡ false
and_none true = refl
and_none false = refl

pub inside : (size : Size) (set : Replicas) (k : ℕ) → set k ≡ true → outside size set k ≡ false
inside size set k h = ap (λ b. nat_lt k size.replicas && not b) h ∙ and_none (nat_lt k size.replicas)

-- ---- one step

module _ (size : Size) (is_size : IsSize size) (m : State) (r : IsReached size m) (step : Step) (allowed : Allowed size m step) where
  abbrev new : State
  new = after size m step

  d : DecidesExactly size m
  d = decides_exactly size m r

  goes : PhasesGo m.ended m.phases (after size m step).phases
  goes = step_phases size m step

  module _ (p : ℕ) (one : 1 ≤ p) (low : p ≤ m.ended) (was : TakersAre size m.changes (m.phases p) (m.phases p).decides) where
    taker_stays : (k : ℕ) → IsTaker size (m.phases p) k → IsTaker size (new.phases p) k
    taker_stays k h = record {
      replica = h.replica;
      reached = ap (λ (f : Replicas). f k) (goes.reached p low) ∙ h.reached;
      ready = λ cell has. ready_carry size (m.phases p) (new.phases p) (goes.reached p low) (goes.rows p low) (goes.cleared p low) cell k (h.ready cell (sym (ap (λ cs. has_cell cs cell) (goes.cells p low)) ∙ has));
    }

    -- whoever applies the change now is a member, and ready
    applies_now : (t u k : ℕ) → IsMarkedIn m p u → (m.txns t).stage ≡ Applying u → (m.txns t).waits k ≡ true → IsTaker size (m.phases p) k
    applies_now t u k marked is waits =
        let by = drawn_by size m r d step allowed t u (applying_own size m r d step allowed t u is) in
        let txn : (m.phases p).by ≡ t = sym marked.by ∙ by.1 in
        let at : (m.txns t).phase ≡ p = ap (λ i. (m.txns i).phase) (sym txn) ∙ marked.phase in
        let member : IsMemberOf (phase_of m t) (m.txns t) k = asked_are_members size m r t k (ap is_behind is) waits in
        let are : AreReady size (phase_of m t) (m.txns t).out (m.changes u).cells = subst (λ s. IsReadyFor size m.changes s (m.txns t).out (phase_of m t)) is (members_are_ready size m r t) in
        let replica = (waits_fit size m r t k waits).replica in
        record {
          replica = replica;
          reached = sym (ap (λ q. (m.phases q).reached k) at) ∙ member.reached;
          ready = λ cell has. subst (λ q. IsReadyIn size (m.phases q) cell k) at (are k replica member.reached member.not_out cell (sym (ap (λ cs. has_cell cs cell) marked.cells) ∙ has));
        }

    done_takers : (u : ℕ) → IsMarkedIn m p u → ((k : ℕ) → (m.changes u).done k ≡ true → IsTaker size (m.phases p) k) → (k : ℕ) → (new.changes u).done k ≡ true → IsTaker size (m.phases p) k
    done_takers u marked old k done = by_case (change_moves size m step allowed u) where
      kept : (new.changes u).done ≡ (m.changes u).done → IsTaker size (m.phases p) k
      kept same = old k (sym (ap (λ (f : Replicas). f k) same) ∙ done)

      by_case : ChangeMove size m step u (new.changes u) → IsTaker size (m.phases p) k
      by_case (ChangeMove.Same is) = kept (ap (λ (c : Change). c.done) is)
      by_case (ChangeMove.Marks t step_is h at is) = absurd (omega (arith, at, marked.drawn))
      by_case (ChangeMove.Unsettles t step_is h at is) = kept (ap (λ (c : Change). c.done) is)
      by_case (ChangeMove.Applies j by v op answer step_is handed stage is) =
          at_case (λ i (b : Bool). b ≡ true → IsTaker size (m.phases p) i) (m.changes u).done j true
          (λ now. applies_now by.txn u j marked stage (both_left ((m.txns by.txn).waits j) (is_single ((m.txns by.txn).flying j)) handed.awaited)) k (λ ne before. old k before)
          (sym (ap (λ (c : Change). c.done k) is) ∙ done)
      by_case (ChangeMove.Decides t step_is h at unsettled is) = kept (ap (λ (c : Change). c.done) is)

    spared_stays : (new.phases p).accused ≡ (m.phases p).accused → HasSpared size (m.phases p) → HasSpared size (new.phases p)
    spared_stays same h = record { taker = h.taker; takes = taker_stays h.taker h.takes; spared = ap (λ (f : Replicas). f h.taker) same ∙ h.spared }

    marked_in : (u : ℕ) → (m.phases p).decides ≡ ByPosts u → IsMarkedIn m p u
    marked_in u is = subst (IsDecidedIn m p) is (d.decided p one low)

    same_by : (decides : Deciding) → (m.phases p).decides ≡ decides → (new.phases p).accused ≡ (m.phases p).accused → TakersAre size m.changes (m.phases p) decides → TakersAre size new.changes (new.phases p) decides
    same_by NoChange is same h = tt
    same_by (ByPosts u) is same h = (λ k done. taker_stays k (done_takers u (marked_in u is) h.0 k done), spared_stays same h.1)
    same_by (BySettles u group adopts) is same h = (λ k low in_it. taker_stays k (h.0 k low in_it), spared_stays same h.1)

    same_takers : (new.phases p).decides ≡ (m.phases p).decides → (new.phases p).accused ≡ (m.phases p).accused → TakersAre size new.changes (new.phases p) (new.phases p).decides
    same_takers decides accused = subst (TakersAre size new.changes (new.phases p)) (sym decides) (same_by (m.phases p).decides refl accused was)

    -- ---- the change is marked now

    marks_takers : (t : ℕ) → step ≡ Step.Turns t Turn.Marks → MayMarkNow size m t → p ≡ (m.txns t).phase → new.phases p ≡ record (m.phases p) { decides = ByPosts (m.drawn + 1) } → TakersAre size new.changes (new.phases p) (ByPosts (m.drawn + 1))
    marks_takers t step_is h at is = (λ k done. absurd (let e : false ≡ true = sym (ap (λ (f : Replicas). f k) none_done) ∙ done in cc), spared) where
      behind : is_behind (m.txns t).stage ≡ true
      behind = copied_behind (m.txns t).stage h.copied

      none_done : (new.changes (m.drawn + 1)).done ≡ nobody
      none_done = ap (λ st. ((after size m st).changes (m.drawn + 1)).done) step_is ∙ ap (λ j. ((drawing m t j).changes (m.drawn + 1)).done) h.job_is ∙ ap (λ (c : Change). c.done) (at_same m.changes (m.drawn + 1) _)

      cells_are : (phase_of m t).cells ≡ h.cells
      cells_are = (phases_are_known size m r t).cells behind ∙ ap (cells_of_work m.changes (m.txns t)) h.work_is ∙ ap cells_of_job h.job_is

      some : IsSome size.replicas (members m t)
      some = some_of size.replicas (members m t) (omega (arith, h.many, is_size.odd))

      takes : IsTaker size (phase_of m t) some.member
      takes = record {
        replica = some.below;
        reached = both_left ((phase_of m t).reached some.member) (not ((m.txns t).out some.member)) some.is;
        ready = λ cell has. h.ready some.member some.below some.is cell (sym (ap (λ cs. has_cell cs cell) cells_are) ∙ has);
      }

      spared : HasSpared size (new.phases p)
      spared = record {
        taker = some.member;
        takes = taker_stays some.member (subst (λ q. IsTaker size (m.phases q) some.member) (sym at) takes);
        spared = ap (λ (q : Phase). q.accused some.member) is ∙ ap (λ q. (m.phases q).accused some.member) at ∙ nobody_in size m r d step allowed t behind (marked_none size m r d step allowed t h) some.member;
      }

    -- ---- its posts are sent from now on

    posts_takers : (t : ℕ) → (h : MayPostNow size m t) → p ≡ (m.txns t).phase → new.phases p ≡ record (m.phases p) { accused = λ i. (m.phases p).accused i || outside size (m.changes h.change).done i } → TakersAre size new.changes (new.phases p) (new.phases p).decides
    posts_takers t h at is = subst (TakersAre size new.changes (new.phases p)) (sym (ap (λ (q : Phase). q.decides) is ∙ decides)) (λ k done. taker_stays k (done_takers h.change (marked_in h.change decides) old.0 k done), spared) where
      mine : ((phase_of m t).decides ≡ ByPosts h.change) × AccusesNobody (phase_of m t).accused
      mine = applies_nobody size m r d step allowed t h.change h.turn

      decides : (m.phases p).decides ≡ ByPosts h.change
      decides = ap (λ q. (m.phases q).decides) at ∙ mine.0

      old : TakersAre size m.changes (m.phases p) (ByPosts h.change)
      old = subst (TakersAre size m.changes (m.phases p)) decides was

      some : IsSome size.replicas (m.changes h.change).done
      some = some_of size.replicas (m.changes h.change).done (omega (arith, h.many, is_size.odd))

      spared : HasSpared size (new.phases p)
      spared = record {
        taker = some.member;
        takes = taker_stays some.member (old.0 some.member some.is);
        spared = ap (λ (q : Phase). q.accused some.member) is ∙ ap (λ b. b || outside size (m.changes h.change).done some.member) (ap (λ q. (m.phases q).accused some.member) at ∙ mine.1 some.member) ∙ inside size (m.changes h.change).done some.member some.is;
      }

    -- ---- it is settled from now on

    settles_takers : (t : ℕ) (group : Replicas) (adopts : Bool) (h : MaySettleNow size m t group adopts) → p ≡ (m.txns t).phase → new.phases p ≡ record (m.phases p) { decides = BySettles h.change group adopts; accused = λ i. (m.phases p).accused i || outside size group i } → TakersAre size new.changes (new.phases p) (BySettles h.change group adopts)
    settles_takers t group adopts h at is = (λ k low in_it. taker_stays k (takes k low in_it), spared) where
      behind : is_behind (m.txns t).stage ≡ true
      behind = ap is_behind h.turn

      cells_are : (m.phases p).cells ≡ (m.changes h.change).cells
      cells_are = ap (λ q. (m.phases q).cells) at ∙ (phases_are_known size m r t).cells behind ∙ ap (cells_of_work m.changes (m.txns t)) h.work_is

      takes : (k : ℕ) → k < size.replicas → group k ≡ true → IsTaker size (m.phases p) k
      takes k low in_it =
          let g : IsInGroup size (phase_of m t) h.change (m.changes h.change).cells adopts k = (h.group_is k low).0 in_it in
          record {
            replica = low;
            reached = ap (λ q. (m.phases q).reached k) at ∙ g.reached;
            ready = λ cell has. subst (λ q. IsReadyIn size (m.phases q) cell k) (sym at) (inl (g.sound cell (sym (ap (λ cs. has_cell cs cell) cells_are) ∙ has)));
          }

      spared : HasSpared size (new.phases p)
      spared = record {
        taker = h.source;
        takes = taker_stays h.source (takes h.source h.source_is h.source_in);
        spared = ap (λ (q : Phase). q.accused h.source) is ∙ ap (λ b. b || outside size group h.source) (ap (λ q. (m.phases q).accused h.source) at ∙ nobody_in size m r d step allowed t behind (locked_none size m r d step allowed t h.turn) h.source) ∙ inside size group h.source h.source_in;
      }

    old_takers : PhaseMove size m step p (new.phases p) → TakersAre size new.changes (new.phases p) (new.phases p).decides
    old_takers (PhaseMove.Same is) = same_takers (ap (λ (q : Phase). q.decides) is) (ap (λ (q : Phase). q.accused) is)
    old_takers (PhaseMove.Reaches t step_is may at is) = absurd (omega (arith, at, low))
    old_takers (PhaseMove.Marks t step_is h at is) = subst (TakersAre size new.changes (new.phases p)) (sym (ap (λ (q : Phase). q.decides) is)) (marks_takers t step_is h at is)
    old_takers (PhaseMove.Posts t step_is h at is) = posts_takers t h at is
    old_takers (PhaseMove.SettlesAs t group adopts step_is h at is) = subst (TakersAre size new.changes (new.phases p)) (sym (ap (λ (q : Phase). q.decides) is)) (settles_takers t group adopts h at is)
    old_takers (PhaseMove.Asks t k first ask step_is may w at is) = same_takers (ap (λ (q : Phase). q.decides) is) (ap (λ (q : Phase). q.accused) is)
    old_takers (PhaseMove.Clears k by cells who answer run step_is handed stage at is) = same_takers (ap (λ (q : Phase). q.decides) is) (ap (λ (q : Phase). q.accused) is)
    old_takers (PhaseMove.Confirms k by ask answer step_is handed at is) = same_takers (ap (λ (q : Phase). q.decides) is) (ap (λ (q : Phase). q.accused) is)

  takers_after : (p : ℕ) → 1 ≤ p → (p ≤ m.ended → TakersAre size m.changes (m.phases p) (m.phases p).decides) → PhaseFrom size m new p → TakersAre size new.changes (new.phases p) (new.phases p).decides
  takers_after p one was (Old low) = old_takers p one low (was low) (phase_moves size m step allowed p)
  takers_after p one was (Now t may at is bricks) = subst (TakersAre size new.changes (new.phases p)) (sym (ap (λ (q : Phase). q.decides) is)) tt

pub takers_are : (size : Size) (m : State) → IsSize size → IsReached size m → (p : ℕ) → 1 ≤ p → p ≤ m.ended → TakersAre size m.changes (m.phases p) (m.phases p).decides
takers_are size m is IsReached.Start = λ p one low. absurd (omega (arith, one, low))
takers_are size m is (IsReached.Further old step reached allowed) = λ p one low. takers_after size is old reached step allowed p one (takers_are size old is reached p one) (phase_from size old step allowed p low)

pub keeps_takers : EveryDecisionSparesATaker
keeps_takers size m is reached = record { asked = asked_are_members size m reached; takers = takers_are size m is reached }
