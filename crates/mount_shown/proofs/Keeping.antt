-- Every step keeps the files, where the changes that begin fit.
use Rattle.std.proofs.Common.{ℕ, List, sym, subst, true, false}
use Rattle.dht_fops.specs.Standing.{Volumes}
use Rattle.mount_laws.specs.Guards.{Allowed, IsReached}
use Rattle.mount_laws.specs.Objects.{volumes}
use Rattle.mount_laws.specs.States.{State, set_count}
use Rattle.mount_laws.specs.Steps.{Step, Task, after, change_by}
use Rattle.mount_shown.proofs.Deciding.{dropped_stands, adopted_stands, begun_stands, more_stand}
use Rattle.mount_shown.proofs.Bearing.{births_stand}
use Rattle.mount_shown.proofs.Stepping.{adopted_is}
use Rattle.mount_shown.specs.Pending.{FilesStand, KeepsFiles, BeginsWell}

pub step_files : (first : List (List ℕ)) (m : State) (step : Step) → IsReached first m → Allowed m step → ((t : Task) (u : ℕ) → Allowed m (Step.BeginsChange t u) → BeginsWell m t) → KeepsFiles m → KeepsFiles (after m step)
step_files first m (Step.Settles t u true) reached h well a =
    subst (λ (s : Volumes). FilesStand s (set_count m) (after m (Step.Settles t u true)).changes) (sym (adopted_is m u)) (adopted_stands (volumes m) (set_count m) m.changes a u h.unsettled.verdict)
step_files first m (Step.Settles t u false) reached h well a = dropped_stands (volumes m) (set_count m) m.changes a u h.unsettled.verdict
step_files first m (Step.Decides t u) reached h well a =
    subst (λ (s : Volumes). FilesStand s (set_count m) (after m (Step.Decides t u)).changes) (sym (adopted_is m u)) (adopted_stands (volumes m) (set_count m) m.changes a u h.unsettled)
step_files first m (Step.BeginsChange t u) reached h well a = let w = well t u h in begun_stands (volumes m) (set_count m) m.changes a u (change_by t.call t.set t.job) w.fits w.apart
step_files first m (Step.SendsBirths t) reached h well a = births_stand first m reached t h a
step_files first m (Step.Switches names) reached h well a = more_stand (volumes m) (set_count m) m.changes a _ h.enough
step_files first m (Step.Submits draws) reached h well a = a
step_files first m (Step.Concludes c) reached h well a = a
step_files first m (Step.Begins c f kept) reached h well a = a
step_files first m (Step.EndsSettling t) reached h well a = a
step_files first m (Step.ConfirmsBirths t) reached h well a = a
step_files first m (Step.HandsIn t shown) reached h well a = a
step_files first m (Step.Extends c run dir next) reached h well a = a
step_files first m (Step.Releases c run gfid) reached h well a = a
step_files first m (Step.Learns c run dir spans) reached h well a = a
step_files first m (Step.Answers c run answer place) reached h well a = a
step_files first m (Step.AnswersAbove c run answer) reached h well a = a
