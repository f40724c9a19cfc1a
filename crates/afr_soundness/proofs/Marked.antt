-- Each change that became unsettled was marked in a lock phase, over every list of steps.
use Rattle.std.proofs.Common.{◌≡◌, ◌∙◌, ℕ, true, false, refl, sym, ap, subst, arith}
use Rattle.afr_machine.specs.Replicas.{Size}
use Rattle.afr_machine.specs.Changes.{Change}
use Rattle.afr_machine.specs.Phases.{Phase}
use Rattle.afr_machine.specs.Phases.Deciding.{NoChange, ByPosts}
use Rattle.afr_machine.specs.States.{State}
use Rattle.afr_machine.specs.Steps.{Step, MayUnsettle, Allowed, after, IsReached}
use Rattle.afr_laws.specs.OwnChanges.{was_unsettled}
use Rattle.afr_laws.specs.Fresh.{is_behind}
use Rattle.afr_laws.proofs.Fresh.Known.{phases_are_known}
use Rattle.afr_laws.proofs.Fresh.Steps.{ended_goes}
use Rattle.afr_soundness.specs.Deciding.{DecidesIn, DecidesExactly}
use Rattle.afr_soundness.specs.Later.{IsMarked, EachIsMarked}
use Rattle.afr_soundness.proofs.PhaseMoves.{PhaseMove, phase_moves}
use Rattle.afr_soundness.proofs.ChangeMoves.{ChangeMove, change_moves}
use Rattle.afr_soundness.proofs.Deciding.Steps.{marked_none, locked_none}
use Rattle.afr_soundness.proofs.Deciding.Whose.{decides_exactly, unsettled_was}

module _ (size : Size) (m : State) (r : IsReached size m) (step : Step) (allowed : Allowed size m step) (u : ℕ) where
  abbrev new : State
  new = after size m step

  d : DecidesExactly size m
  d = decides_exactly size m r

  -- a lock phase that marked the change decides nothing else
  stays : IsMarked m u → IsMarked new u
  stays h = record { phase = h.phase; one = h.one; low = omega (arith, h.low, ended_goes size m step); decides = by_move (phase_moves size m step allowed h.phase) } where
    same : (q : Phase) → new.phases h.phase ≡ q → q.decides ≡ (m.phases h.phase).decides → (new.phases h.phase).decides ≡ ByPosts u
    same q is e = ap (λ (x : Phase). x.decides) is ∙ e ∙ h.decides

    by_move : PhaseMove size m step h.phase (new.phases h.phase) → (new.phases h.phase).decides ≡ ByPosts u
    by_move (PhaseMove.Same is) = same _ is refl
    by_move (PhaseMove.Reaches t step_is may at is) = absurd (omega (arith, at, h.low))
    by_move (PhaseMove.Marks t step_is may at is) = absurd (let e : NoChange ≡ ByPosts u = sym (marked_none size m r d step allowed t may) ∙ sym (ap (λ q. (m.phases q).decides) at) ∙ h.decides in cc)
    by_move (PhaseMove.Posts t step_is may at is) = same _ is refl
    by_move (PhaseMove.SettlesAs t group adopts step_is may at is) = absurd (let e : NoChange ≡ ByPosts u = sym (locked_none size m r d step allowed t may.turn) ∙ sym (ap (λ q. (m.phases q).decides) at) ∙ h.decides in cc)
    by_move (PhaseMove.Asks t k first ask step_is may w at is) = same _ is refl
    by_move (PhaseMove.Clears k by cells who answer run step_is handed stage at is) = same _ is refl
    by_move (PhaseMove.Confirms k by ask answer step_is handed at is) = same _ is refl

  -- the change becomes unsettled now
  now : (t : ℕ) (h : MayUnsettle size m t) → u ≡ h.change → IsMarked m u
  now t h at =
      let behind : is_behind (m.txns t).stage ≡ true = ap is_behind h.turn in
      let k = subst (λ s. DecidesIn size m.changes (m.txns t).work s (m.phases (m.txns t).phase)) h.turn (d.transactions t).decides in
      record { phase = (m.txns t).phase; one = (d.transactions t).one behind; low = (phases_are_known size m r t).low; decides = k.0 ∙ ap ByPosts (sym at) }

  marked_after : EachIsMarked m → was_unsettled (new.changes u).verdict ≡ true → IsMarked new u
  marked_after was sent = by_case (change_moves size m step allowed u) where
    old : (c : Change) → new.changes u ≡ c → was_unsettled c.verdict ≡ was_unsettled (m.changes u).verdict → IsMarked new u
    old c is same = stays (was u (sym (ap (λ (x : Change). was_unsettled x.verdict) is ∙ same) ∙ sent))

    by_case : ChangeMove size m step u (new.changes u) → IsMarked new u
    by_case (ChangeMove.Same is) = old _ is refl
    by_case (ChangeMove.Marks t step_is h at is) = absurd (let e : false ≡ true = sym (ap (λ (x : Change). was_unsettled x.verdict) is) ∙ sent in cc)
    by_case (ChangeMove.Unsettles t step_is h at is) = stays (now t h at)
    by_case (ChangeMove.Applies k by v op answer step_is handed stage is) = old _ is refl
    by_case (ChangeMove.Decides t step_is h at unsettled is) = stays (was u (unsettled_was (m.changes u).verdict unsettled))

pub each_is_marked : (size : Size) (m : State) → IsReached size m → EachIsMarked m
each_is_marked size m IsReached.Start = λ u sent. absurd (let e : false ≡ true = sent in cc)
each_is_marked size m (IsReached.Further old step reached allowed) = λ u sent. marked_after size old reached step allowed u (each_is_marked size old reached) sent
