-- A settling copies once its change is decided, over every list of steps.
use Rattle.std.proofs.Common.{◌≡◌, ◌∙◌, ℕ, true, false, refl, sym, ap, subst, Option, Some, None}
use Rattle.afr_machine.specs.Replicas.{Size, Replicas}
use Rattle.afr_machine.specs.Changes.{Change, is_unsettled}
use Rattle.afr_machine.specs.Transactions.{Work, CopyRun, Stage}
use Rattle.afr_machine.specs.Transactions.Work.{Own, Settles}
use Rattle.afr_machine.specs.Transactions.Stage.{Settling, Copying}
use Rattle.afr_machine.specs.States.{State}
use Rattle.afr_machine.specs.Turns.{MayCopyAs, FollowsSettling}
use Rattle.afr_machine.specs.Steps.{Step, Allowed, after, IsReached}
use Rattle.afr_laws.specs.OwnChanges.{was_unsettled}
use Rattle.afr_laws.specs.Fresh.{is_behind, IsWorkOf}
use Rattle.afr_laws.proofs.Bools.{apart_bools}
use Rattle.afr_laws.proofs.Fresh.Known.{phases_are_known}
use Rattle.afr_soundness.specs.Runs.{SettledAreDecided, EveryCopyKnowsItsSources}
use Rattle.afr_soundness.specs.Copied.{is_copying}
use Rattle.afr_soundness.proofs.States.{work_stays}
use Rattle.afr_soundness.proofs.ChangeMoves.{ChangeMove, change_moves}
use Rattle.afr_soundness.proofs.Unsettled.{decided_is_not, becomes_own, settled_was}
use Rattle.afr_soundness.proofs.Runs.{runs_are_known}
use Rattle.afr_soundness.proofs.RunMoves.{RunMove, run_moves}

abbrev change_settled : Work → ℕ
change_settled Own = 0
change_settled (Settles u) = u

module _ (size : Size) (m : State) (r : IsReached size m) (was : SettledAreDecided m) (step : Step) (allowed : Allowed size m step) (t u : ℕ) where
  abbrev new : State
  new = after size m step

  -- what was settled does not become unsettled any more
  stays : (m.txns t).work ≡ Settles u → is_unsettled (m.changes u).verdict ≡ false → is_unsettled (new.changes u).verdict ≡ false
  stays work decided = by_move (change_moves size m step allowed u) where
    by_move : ChangeMove size m step u (new.changes u) → is_unsettled (new.changes u).verdict ≡ false
    by_move (ChangeMove.Same is) = ap (λ (c : Change). is_unsettled c.verdict) is ∙ decided
    by_move (ChangeMove.Marks s step_is h at is) = ap (λ (c : Change). is_unsettled c.verdict) is
    by_move (ChangeMove.Unsettles s step_is h at is) = apart_bools (settled_was size m r t u work) (ap (λ n. was_unsettled (m.changes n).verdict) at ∙ ap was_unsettled (becomes_own size m r step allowed s h).1.1)
    by_move (ChangeMove.Applies k by v op answer step_is handed stage is) = ap (λ (c : Change). is_unsettled c.verdict) is ∙ decided
    by_move (ChangeMove.Decides s step_is h at unsettled is) = ap (λ (c : Change). is_unsettled c.verdict) is ∙ decided_is_not h.adopts

  -- a copy begins behind the settling, or behind one that is cleared
  begins : (work : Work) (group : Option Replicas) (stage : Stage) → (m.txns t).work ≡ work → (m.txns t).stage ≡ stage → work ≡ Settles u → MayCopyAs m t work group → IsWorkOf stage work → is_unsettled (m.changes u).verdict ≡ false
  begins Own group stage work_is is same h of_work = absurd (let e : Own ≡ Settles u = same in cc)
  begins (Settles v) None stage work_is is same h of_work = absurd h
  begins (Settles v) (Some sources) stage work_is is same h of_work = by_stage stage is (subst (λ s. FollowsSettling m s sources) is h) of_work where
    by_stage : (s : Stage) → (m.txns t).stage ≡ s → FollowsSettling m s sources → IsWorkOf s (Settles v) → is_unsettled (m.changes u).verdict ≡ false
    by_stage (Settling change group adopts) s_is f w = ap (λ n. is_unsettled (m.changes n).verdict) (sym (ap change_settled same) ∙ ap change_settled w) ∙ f.0
    by_stage (Copying run) s_is f w = was t u run s_is (work_is ∙ same)
    by_stage other s_is f w = absurd f

  decided_after : (run : CopyRun) → RunMove size m step t run → (m.txns t).work ≡ Settles u → is_unsettled (new.changes u).verdict ≡ false
  decided_after run (RunMove.Stays is) work = stays work (was t u run is work)
  decided_after run (RunMove.Begins step_is h) work = stays work (begins (m.txns t).work run.group (m.txns t).stage refl refl work h.allowed (phases_are_known size m r t).work)
  decided_after run (RunMove.Clears step_is h is) work = stays work (was t u h.run h.turn work)
  decided_after run (RunMove.Fetches k by cell found before step_is handed txn stage is) work = stays work (was t u before stage work)
  decided_after run (RunMove.Replaces k by cell found answer before step_is handed txn stage is) work = stays work (was t u before stage work)

pub settled_are_decided : (size : Size) (m : State) → IsReached size m → SettledAreDecided m
settled_are_decided size m IsReached.Start = λ t u run copies. absurd (let e : false ≡ true = ap is_copying copies in cc)
settled_are_decided size m (IsReached.Further old step reached allowed) = λ t u run copies work.
    decided_after size old reached (settled_are_decided size old reached) step allowed t u run (run_moves size old step allowed t run copies) (sym (work_stays size old reached step allowed t (ap is_behind copies)) ∙ work)

pub knows_copies : EveryCopyKnowsItsSources
knows_copies size m r = record { runs = runs_are_known size m r; settled = settled_are_decided size m r }
