-- A lock phase that wrote and decides nothing found a sound replica on each of its cells, over every list of steps.
use Rattle.std.proofs.Common.{◌≡◌, ◌∙◌, ℕ, ◌+◌, ◌≤◌, true, false, refl, sym, ap, subst, arith, Option, Some, None}
use Rattle.afr_machine.specs.Replicas.{Size, Replicas}
use Rattle.afr_machine.specs.Requests.{Ask}
use Rattle.afr_machine.specs.Requests.Ask.{Mark, Post, Replace, Clear, Settle}
use Rattle.afr_machine.specs.Phases.{Phase, EachHasSound}
use Rattle.afr_machine.specs.Phases.Deciding.{NoChange, ByPosts, BySettles}
use Rattle.afr_machine.specs.Transactions.{Work, CopyRun, Stage}
use Rattle.afr_machine.specs.Transactions.Work.{Own, Settles}
use Rattle.afr_machine.specs.Transactions.Stage.{Marking, Posting, Settling, Copying}
use Rattle.afr_machine.specs.States.{State, phase_of}
use Rattle.afr_machine.specs.Sending.{MayAsk, writes}
use Rattle.afr_machine.specs.Turns.{IsNotSplit}
use Rattle.afr_machine.specs.Steps.{Step, Allowed, after, IsReached}
use Rattle.afr_laws.proofs.Fresh.Phased.{PhasesGo}
use Rattle.afr_laws.proofs.Fresh.Steps.{step_phases}
use Rattle.afr_laws.proofs.Overtaken.Steps.{PhaseFrom, phase_from}
use Rattle.afr_laws.proofs.Overtaken.Steps.PhaseFrom.{Old, Now}
use Rattle.afr_soundness.specs.Deciding.{IsCopiedFrom, DecidesIn}
use Rattle.afr_soundness.specs.Free.{WrittenHasSound}
use Rattle.afr_soundness.proofs.PhaseMoves.{PhaseMove, phase_moves}
use Rattle.afr_soundness.proofs.Deciding.Whose.{decides_exactly}
use Rattle.afr_soundness.proofs.Runs.{has_sound_stays, runs_are_known}

module _ (size : Size) (m : State) (r : IsReached size m) (t : ℕ) (none : (phase_of m t).decides ≡ NoChange) where
  in_stage : (stage : Stage) → (m.txns t).stage ≡ stage → DecidesIn size m.changes (m.txns t).work stage (phase_of m t)
  in_stage stage is = subst (λ s. DecidesIn size m.changes (m.txns t).work s (phase_of m t)) is ((decides_exactly size m r).transactions t).decides

  of_group : (work : Work) (group : Option Replicas) → IsCopiedFrom work group NoChange → IsNotSplit size (phase_of m t) group → EachHasSound size (phase_of m t)
  of_group work None copied h = h
  of_group Own (Some g) copied h = absurd copied
  of_group (Settles u) (Some g) copied h = absurd copied

  copies : (run : CopyRun) → (m.txns t).stage ≡ Copying run → EachHasSound size (phase_of m t)
  copies run is = of_group (m.txns t).work run.group (subst (IsCopiedFrom (m.txns t).work run.group) none (in_stage (Copying run) is)) (runs_are_known size m r t run is).not_split

  -- whoever writes decides a change, or copies
  writes_sound : (k : ℕ) (ask : Ask) → MayAsk size m t k ask → writes ask ≡ true → EachHasSound size (phase_of m t)
  writes_sound k (Mark u cells) h w = absurd (let e : NoChange ≡ ByPosts u = sym none ∙ (in_stage (Marking u) h.turn).0 in cc)
  writes_sound k (Post u cells accused) h w = absurd (let e : NoChange ≡ ByPosts u = sym none ∙ (in_stage (Posting u) h.turn).0 in cc)
  writes_sound k (Settle u cells accused) h w = absurd (let e : NoChange ≡ BySettles u h.group h.adopts = sym none ∙ in_stage (Settling u h.group h.adopts) h.turn in cc)
  writes_sound k (Replace cell found) h w = copies h.run h.turn
  writes_sound k (Clear cells who) h w = copies h.run h.turn
  writes_sound k other h w = absurd (let e : false ≡ true = w in cc)

module _ (size : Size) (m : State) (r : IsReached size m) (was : WrittenHasSound size m) (step : Step) (allowed : Allowed size m step) (p : ℕ) (one : 1 ≤ p) where
  abbrev new : State
  new = after size m step

  goes : PhasesGo m.ended m.phases (after size m step).phases
  goes = step_phases size m step

  module _ (wrote : (new.phases p).wrote ≡ true) (none : (new.phases p).decides ≡ NoChange) where
    stays : p ≤ m.ended → EachHasSound size (m.phases p) → EachHasSound size (new.phases p)
    stays low h = has_sound_stays size (m.phases p) (new.phases p) (goes.cells p low) (goes.reached p low) (goes.rows p low) h

    same : (q : Phase) → new.phases p ≡ q → p ≤ m.ended → q.wrote ≡ (m.phases p).wrote → q.decides ≡ (m.phases p).decides → EachHasSound size (new.phases p)
    same q is low w e = stays low (was p one low (sym (ap (λ (x : Phase). x.wrote) is ∙ w) ∙ wrote) (sym (ap (λ (x : Phase). x.decides) is ∙ e) ∙ none))

    by_move : p ≤ m.ended → PhaseMove size m step p (new.phases p) → EachHasSound size (new.phases p)
    by_move low (PhaseMove.Same is) = same _ is low refl refl
    by_move low (PhaseMove.Reaches t step_is may at is) = absurd (omega (arith, at, low))
    by_move low (PhaseMove.Marks t step_is h at is) = absurd (let e : NoChange ≡ ByPosts (m.drawn + 1) = sym none ∙ ap (λ (x : Phase). x.decides) is in cc)
    by_move low (PhaseMove.Posts t step_is h at is) = same _ is low refl refl
    by_move low (PhaseMove.SettlesAs t group adopts step_is h at is) = absurd (let e : NoChange ≡ BySettles h.change group adopts = sym none ∙ ap (λ (x : Phase). x.decides) is in cc)
    by_move low (PhaseMove.Asks t k first ask step_is may w at is) =
        let before : (phase_of m t).decides ≡ NoChange = sym (ap (λ q. (m.phases q).decides) at) ∙ sym (ap (λ (x : Phase). x.decides) is) ∙ none in
        stays low (subst (λ q. EachHasSound size (m.phases q)) (sym at) (writes_sound size m r t before k ask may w))
    by_move low (PhaseMove.Clears k by cells who answer run step_is handed stage at is) = same _ is low refl refl
    by_move low (PhaseMove.Confirms k by ask answer step_is handed at is) = same _ is low refl refl

    sound_after : PhaseFrom size m new p → EachHasSound size (new.phases p)
    sound_after (Old low) = by_move low (phase_moves size m step allowed p)
    sound_after (Now t may at is bricks) = absurd (let e : false ≡ true = sym (ap (λ (q : Phase). q.wrote) is) ∙ wrote in cc)

pub written_has_sound : (size : Size) (m : State) → IsReached size m → WrittenHasSound size m
written_has_sound size m IsReached.Start = λ p one low. absurd (omega (arith, one, low))
written_has_sound size m (IsReached.Further old step reached allowed) = λ p one low wrote none. sound_after size old reached (written_has_sound size old reached) step allowed p one wrote none (phase_from size old step allowed p low)
