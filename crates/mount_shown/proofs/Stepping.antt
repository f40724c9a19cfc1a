-- What each step makes of the files of all sets.
use Rattle.std.proofs.Common.{◌≡◌, ℕ, true, false, List, [], ◌∷◌, ◌++◌, Option, Some, None, refl, ap}
use Rattle.dht_fops.specs.Answers.{change_of}
use Rattle.fop_types.specs.Files.{Files, first_files}
use Rattle.fop_types.specs.Flat.{flat_after}
use Rattle.fop_types.specs.History.{files_after}
use Rattle.fop_types.specs.StoreOps.{after_births}
use Rattle.fop_types.specs.declared.flat.FlatOp.{FlatOp}
use Rattle.fop_types.specs.declared.history.Entry.{Entry}
use Rattle.fop_types.specs.declared.jobs.Job.{Job}
use Rattle.fop_types.specs.declared.jobs.Job.TheVariants as job
use Rattle.fop_types.specs.declared.store_ops.StoreOp.TheVariants as op
use Rattle.afr_machine.specs.Replicas.{with_at}
use Rattle.mount_files.specs.Pairs.{after as after_on}
use Rattle.mount_files.specs.Showing.{files_with}
use Rattle.mount_laws.specs.Objects.{volumes}
use Rattle.mount_laws.specs.States.{State}
use Rattle.mount_laws.specs.Steps.{Step, Task, adopting, sending_births, by_effect, ops_with, applied, kinds_after, homes_after, births_by}
use Rattle.mount_shown.specs.Bridge.{op_of, AreAfterBirths, StepsAreOps}

files_push : (files : Files) (ops : List FlatOp) (o : FlatOp) → files_after files (ops ++ o ∷ []) ≡ flat_after (files_after files ops) o
files_push files [] o = refl
files_push files (one ∷ ops) o = files_push (flat_after files one) ops o

files_entered : (ops : List FlatOp) (o : Option FlatOp) (effect : Option Entry) → files_after first_files (by_effect effect ops (ops_with ops o)) ≡ by_effect effect (files_after first_files ops) (files_with (files_after first_files ops) o)
files_entered ops o None = refl
files_entered ops None (Some entry) = refl
files_entered ops (Some o) (Some entry) = files_push first_files ops o

pub adopted_is : (m : State) (u : ℕ) → volumes (adopting m u) ≡ after_on (volumes m) (op_of (m.changes u))
adopted_is m u =
    let change = m.changes u in
    ap (λ (files : Files). record {
      contents = with_at m.adopted change.set (applied (m.adopted change.set) change.op);
      homes = by_effect change.effect m.homes (homes_after m.homes change.set change.op);
      kinds = by_effect change.effect m.kinds (kinds_after m.kinds change.op);
      files = files;
    }) (files_entered m.ops (change_of change.op) change.effect)

pub sent_are : (m : State) (t : Task) (asked : Job) → t.job ≡ asked → AreAfterBirths (volumes m) t.set asked (volumes (sending_births m t))
sent_are m t (job.Birth cells (op.MakeCopy gfid span)) e =
    ap (λ (asked : Job). record { contents = with_at m.adopted t.set (after_births (m.adopted t.set) (births_by asked)); homes = m.homes; kinds = m.kinds; files = files_after first_files m.ops }) e
sent_are m t (job.Birth cells (op.Write gfid offset bytes)) e = tt
sent_are m t (job.Birth cells (op.Truncate gfid size)) e = tt
sent_are m t (job.Birth cells (op.SetMode gfid mode)) e = tt
sent_are m t (job.Birth cells (op.SetAttr gfid attr)) e = tt
sent_are m t (job.Birth cells (op.DelAttr gfid name)) e = tt
sent_are m t (job.Birth cells (op.AddName parent item mode span)) e = tt
sent_are m t (job.Birth cells (op.DropName parent name)) e = tt
sent_are m t (job.Birth cells (op.DropDir parent name gfid)) e = tt
sent_are m t (job.Birth cells (op.Move parent name target new_name)) e = tt
sent_are m t (job.Read cells fd dir) e = tt
sent_are m t (job.Change cells fd o effect) e = tt
sent_are m t (job.Open fd gfid) e = tt
sent_are m t job.Index e = tt
sent_are m t (job.Heal cell) e = tt

pub steps_ops : StepsAreOps
steps_ops m (Step.Settles t u true) = adopted_is m u
steps_ops m (Step.Settles t u false) = refl
steps_ops m (Step.Decides t u) = adopted_is m u
steps_ops m (Step.SendsBirths t) = sent_are m t t.job refl
steps_ops m (Step.Submits draws) = refl
steps_ops m (Step.Concludes c) = refl
steps_ops m (Step.Switches names) = refl
steps_ops m (Step.Begins c f kept) = refl
steps_ops m (Step.EndsSettling t) = refl
steps_ops m (Step.BeginsChange t u) = refl
steps_ops m (Step.ConfirmsBirths t) = refl
steps_ops m (Step.HandsIn t shown) = refl
steps_ops m (Step.Extends c run dir next) = refl
steps_ops m (Step.Releases c run gfid) = refl
steps_ops m (Step.Learns c run dir spans) = refl
steps_ops m (Step.Answers c run answer place) = refl
steps_ops m (Step.AnswersAbove c run answer) = refl
