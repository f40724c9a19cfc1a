-- What a step makes of the fops under way: each stays, begins, or goes on by the step of its call.
use Rattle.std.proofs.Common.{◌≡◌, ℕ, ◌+◌, Bool, true, false, subst, ◌∷◌, ◌++◌, length, None}
use Rattle.std.specs.Prelude.{◌≢◌}
use Rattle.afr_machine.specs.Replicas.{with_at}
use Rattle.afr_machine.specs.Transactions.{cells_of_job}
use Rattle.dht_fops.specs.Courses.{Course}
use Rattle.dht_fops.specs.Handed.Event.{Replied, Held}
use Rattle.dht_fops.specs.Volumes.{Kept}
use Rattle.fop_types.specs.declared.answers.FopAnswer.{FopAnswer}
use Rattle.fop_types.specs.declared.answers.FopAnswer.TheVariants as fop_answer
use Rattle.fop_types.specs.declared.cells.Gfid.{Gfid}
use Rattle.fop_types.specs.declared.fops.Fop.{Fop}
use Rattle.fop_types.specs.declared.jobs.SetReply.{SetReply}
use Rattle.mount_laws.specs.Guards.{Allowed, MayBegin, MaySettle, MayEndSettling, MayBeginChange, MayDecide, MaySendBirths, MayConfirmBirths, MayHandIn, MayExtend, MayRelease}
use Rattle.mount_laws.specs.Runs.{Run, begun, going_on, held_longer, released}
use Rattle.mount_laws.specs.Runs.Stage.{Settled, Changing, Bearing, Decided}
use Rattle.mount_laws.specs.States.{State, Call, Runs}
use Rattle.mount_laws.specs.States.Status.{Running}
use Rattle.mount_laws.specs.Steps.{Step, Task, after, volume_of, status_after, is_lookup, deciding, adopting, sees, at_stage, number_after, sights_by}
use Rattle.mount_laws.proofs.Tables.{at_case}

pub data RunMove (m : State) : ℕ → Run → Type 0 where
  Stays : (c : ℕ) → (run : Run) → Runs m c run → RunMove m c run
  Begins : (c : ℕ) → (f : Fop) → (kept : Kept) → MayBegin m c f kept → RunMove m c (begun f (volume_of m c) (m.calls c).names kept)
  Settles : (t : Task) → (u : ℕ) → (adopts : Bool) → MaySettle m t u → RunMove m t.call (record t.run { saw = sees (deciding m u adopts).adopted (m.changes u) t.run.saw })
  EndsSettling : (t : Task) → MayEndSettling m t → RunMove m t.call (record t.run { stage = Settled (length m.history); settled = record { set = t.set; cells = cells_of_job t.job } ∷ t.run.settled })
  BeginsChange : (t : Task) → (u : ℕ) → MayBeginChange m t u → RunMove m t.call (at_stage t.run (Changing u))
  Decides : (t : Task) → (u : ℕ) → MayDecide m t u → RunMove m t.call (record t.run { stage = Decided (number_after m (m.changes u).effect); saw = sees (adopting m u).adopted (m.changes u) t.run.saw })
  SendsBirths : (t : Task) → MaySendBirths m t → RunMove m t.call (at_stage t.run Bearing)
  ConfirmsBirths : (t : Task) → MayConfirmBirths m t → RunMove m t.call (at_stage t.run (Decided None))
  HandsIn : (t : Task) → (shown : SetReply) → MayHandIn m t shown →
      RunMove m t.call (going_on t.run (Replied t.set t.job shown ∷ t.run.handed) (t.next shown) (sights_by t.set t.job shown ++ t.run.saw))
  Extends : (c : ℕ) → (run : Run) → (dir : Gfid) → (next : Course) → MayExtend m c run dir next → RunMove m c (held_longer (going_on run (Held dir ∷ run.handed) next run.saw) dir)
  Releases : (c : ℕ) → (run : Run) → (gfid : Gfid) → MayRelease m c run gfid → RunMove m c (released run gfid)

-- ---- by the call whose status changes

pub unwrap : (a b : Run) → Running a ≡ Running b → a ≡ b
unwrap a b e = cc

pub one_call : (m : State) (c : ℕ) (call : Call) → ((run : Run) → call.status ≡ Running run → RunMove m c run) → (i : ℕ) (run : Run) → (with_at m.calls c call i).status ≡ Running run → RunMove m i run
one_call m c call new i =
    at_case (λ j (one : Call). (run : Run) → one.status ≡ Running run → RunMove m j run) m.calls c call new i (λ other run e. Stays i run e)

one_run : (m : State) (c : ℕ) (run : Run) → RunMove m c run → (i : ℕ) (other : Run) → (with_at m.calls c (record (m.calls c) { status = Running run }) i).status ≡ Running other → RunMove m i other
one_run m c run move = one_call m c (record (m.calls c) { status = Running run }) (λ other e. subst (λ (r : Run). RunMove m c r) (unwrap run other e) move)

-- what holds of each fop under way, where one call's fop goes on, or its status is another
pub run_case : (P : ℕ → Run → Type 0) (calls : ℕ → Call) (c : ℕ) (run : Run) → P c run → ((i : ℕ) (other : Run) → i ≢ c → (calls i).status ≡ Running other → P i other)
    → (i : ℕ) (other : Run) → (with_at calls c (record (calls c) { status = Running run }) i).status ≡ Running other → P i other
run_case P calls c run new old i =
    at_case (λ j (call : Call). (other : Run) → call.status ≡ Running other → P j other) calls c (record (calls c) { status = Running run })
    (λ other e. subst (λ (r : Run). P c r) (unwrap run other e) new) i (λ differ other e. old i other differ e)

pub stop_case : (P : ℕ → Run → Type 0) (calls : ℕ → Call) (c : ℕ) (call : Call) → ((run : Run) → call.status ≡ Running run → ⊥) → ((i : ℕ) (other : Run) → (calls i).status ≡ Running other → P i other)
    → (i : ℕ) (other : Run) → (with_at calls c call i).status ≡ Running other → P i other
stop_case P calls c call none old i = at_case (λ j (one : Call). (other : Run) → one.status ≡ Running other → P j other) calls c call (λ other e. absurd (none other e)) i (λ differ other e. old i other e)

-- a call that was answered a fop has none
pub quiet : (is_lookup : Bool) (a : FopAnswer) (run : Run) → status_after is_lookup a ≡ Running run → ⊥
quiet true (fop_answer.Found set gfid kind) run e = absurd cc
quiet true (fop_answer.Call answer) run e = absurd cc
quiet false a run e = absurd cc

-- ---- each step

pub run_moves : (m : State) (step : Step) → Allowed m step → (c : ℕ) (run : Run) → Runs (after m step) c run → RunMove m c run
run_moves m (Step.Submits draws) h = one_call m (m.submitted + 1) _ (λ run e. absurd cc)
run_moves m (Step.Concludes c) h = one_call m c _ (λ run e. absurd cc)
run_moves m (Step.Switches names) h = λ c run e. Stays c run e
run_moves m (Step.Begins c f kept) h = one_run m c _ (Begins c f kept h)
run_moves m (Step.Settles t u true) h = one_run m t.call _ (Settles t u true h)
run_moves m (Step.Settles t u false) h = one_run m t.call _ (Settles t u false h)
run_moves m (Step.EndsSettling t) h = one_run m t.call _ (EndsSettling t h)
run_moves m (Step.BeginsChange t u) h = one_run m t.call _ (BeginsChange t u h)
run_moves m (Step.Decides t u) h = one_run m t.call _ (Decides t u h)
run_moves m (Step.SendsBirths t) h = one_run m t.call _ (SendsBirths t h)
run_moves m (Step.ConfirmsBirths t) h = one_run m t.call _ (ConfirmsBirths t h)
run_moves m (Step.HandsIn t shown) h = one_run m t.call _ (HandsIn t shown h)
run_moves m (Step.Extends c run dir next) h = one_run m c _ (Extends c run dir next h)
run_moves m (Step.Releases c run gfid) h = one_run m c _ (Releases c run gfid h)
run_moves m (Step.Learns c run dir spans) h = λ i other e. Stays i other e
run_moves m (Step.Answers c run answer place) h = one_call m c _ (λ other e. absurd (quiet (is_lookup run.fop) answer other e))
run_moves m (Step.AnswersAbove c run answer) h = one_call m c _ (λ other e. absurd (quiet (is_lookup run.fop) (fop_answer.Call answer) other e))
