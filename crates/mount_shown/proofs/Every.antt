-- Every state keeps the files: each change begins well, by what its fop knows, and every step keeps what fops know.
use Rattle.std.proofs.Common.{◌≡◌, ◌≢◌, ◌⊎◌, inl, inr, ◌∙◌, ℕ, true, false, ◌||◌, refl, sym, ap, subst, List, [], Option, Some, None, is_none}
use Rattle.std.proofs.lemmas.Bool.{or_parts}
use Rattle.afr_machine.specs.Changes.{Verdict}
use Rattle.afr_machine.specs.Changes.Verdict.{Undrawn, Unsettled, Adopted, Dropped}
use Rattle.afr_machine.specs.Replicas.{with_at}
use Rattle.dht_fops.specs.Standing.{HaveNoEffect}
use Rattle.fop_types.specs.Cells.{names_cell}
use Rattle.fop_types.specs.Names.{is_same_name}
use Rattle.fop_types.specs.StoreOps.{items_of, item_in, is_removed, is_directory_item, fits}
use Rattle.fop_types.specs.declared.cells.Cell.{Cell}
use Rattle.fop_types.specs.declared.cells.Gfid.{Gfid}
use Rattle.fop_types.specs.declared.cells.Kind.TheVariants as kind
use Rattle.fop_types.specs.declared.history.Entry.{Entry}
use Rattle.fop_types.specs.declared.jobs.Job.{Job}
use Rattle.fop_types.specs.declared.jobs.Job.TheVariants as job
use Rattle.fop_types.specs.declared.store_ops.StoreOp.{StoreOp}
use Rattle.fop_types.specs.declared.store_ops.StoreOp.TheVariants as op
use Rattle.mount_files.proofs.Ops.{fit_parts}
use Rattle.mount_files.specs.Pairs.{AreApart, Fits}
use Rattle.mount_laws.specs.Effects.{IsOfLink}
use Rattle.mount_laws.specs.Guards.{Allowed, IsReached, IsChange}
use Rattle.mount_laws.specs.Objects.{volumes}
use Rattle.mount_laws.specs.Runs.{Run}
use Rattle.mount_laws.specs.Settling.{StaysOrBorn}
use Rattle.mount_laws.specs.States.{State, Change, Runs, set_count}
use Rattle.mount_laws.specs.Steps.{Step, Task, after, change_by}
use Rattle.mount_laws.proofs.Entering.{own_job}
use Rattle.mount_laws.proofs.Tables.{at_case}
use Rattle.mount_shown.proofs.Beginning.{op_on, BeginsAs, asks}
use Rattle.mount_shown.proofs.Decided.{MovedStand, step_moved}
use Rattle.mount_shown.proofs.First.{adds, drops, removes, accepted}
use Rattle.mount_shown.proofs.Gone.{GoneStand, step_gone}
use Rattle.mount_shown.proofs.Keeping.{step_files}
use Rattle.mount_shown.proofs.Links.{MovesDiffer, adds_link, drops_link}
use Rattle.mount_shown.proofs.Listing.{NamesOfDirs, op_dirs}
use Rattle.mount_shown.proofs.Objects.{changes_object}
use Rattle.mount_shown.proofs.Renaming.{moves_first}
use Rattle.mount_shown.proofs.Second.{HadEffect, effect_before, moves_second}
use Rattle.mount_shown.proofs.Starting.{start_empty, bare, no_items}
use Rattle.mount_shown.proofs.Watching.{NamesStand, step_names, births_stay}
use Rattle.mount_shown.specs.Bridge.{op_of}
use Rattle.mount_shown.specs.Pending.{KeepsFiles, BeginsWell, EveryStateKeepsFiles, EveryChangeBeginsWell}

-- what every state keeps: the files, and what fops under way know of names
pub record Stands (m : State) : Type 0 where
  pub files : KeepsFiles m
  pub dirs : NamesOfDirs m.kinds m.adopted
  pub names : (c : ℕ) (run : Run) → Runs m c run → NamesStand m.adopted m.changes c run.handed
  pub moved : MovedStand m
  pub gone : GoneStand m
  pub differ : MovesDiffer m.changes

-- ---- a change begins

module _ (first : List (List ℕ)) (m : State) (reached : IsReached first m) (s : Stands m) (t : Task) (u : ℕ) (h : Allowed m (Step.BeginsChange t u)) where
  first_begins : (cells : List Cell) (fd : ℕ) (o : StoreOp) (entry : Entry) → t.job ≡ job.Change cells fd o (Some entry) → HaveNoEffect t.run.handed → BeginsAs m (op_on t.set o (Some entry))
  first_begins cells fd (op.AddName parent item mode span) entry is none = adds first m reached s.files t u h none cells fd parent item mode span entry is
  first_begins cells fd (op.DropName parent name) entry is none = drops first m reached s.files t u h none cells fd parent name entry is
  first_begins cells fd (op.DropDir parent name g) entry is none = removes first m reached s.files t u h none cells fd parent name g entry is
  first_begins cells fd (op.Move parent name target new_name) entry is none = moves_first first m reached s.files t u h cells fd parent name target new_name entry is none
  first_begins cells fd (op.Write g offset bytes) entry is none = changes_object first m reached s.files t u h none cells fd entry (op.Write g offset bytes) is tt
  first_begins cells fd (op.Truncate g size) entry is none = changes_object first m reached s.files t u h none cells fd entry (op.Truncate g size) is tt
  first_begins cells fd (op.SetMode g mode) entry is none = changes_object first m reached s.files t u h none cells fd entry (op.SetMode g mode) is tt
  first_begins cells fd (op.SetAttr g attr) entry is none = changes_object first m reached s.files t u h none cells fd entry (op.SetAttr g attr) is tt
  first_begins cells fd (op.DelAttr g name) entry is none = changes_object first m reached s.files t u h none cells fd entry (op.DelAttr g name) is tt
  first_begins cells fd (op.MakeCopy g span) entry is none = absurd (accepted first m reached s.files t u h none cells fd (op.MakeCopy g span) entry is)

  effect_begins : (cells : List Cell) (fd : ℕ) (o : StoreOp) (entry : Entry) → t.job ≡ job.Change cells fd o (Some entry) → BeginsAs m (op_on t.set o (Some entry))
  effect_begins cells fd o entry is = by_case (effect_before first m reached s.files s.dirs s.names s.gone t u h cells fd o entry is)
    where
      by_case : HaveNoEffect t.run.handed ⊎ HadEffect m.changes m.history t.call t.run.fop entry.part → BeginsAs m (op_on t.set o (Some entry))
      by_case (inl none) = first_begins cells fd o entry is none
      by_case (inr had) = moves_second first m reached s.files s.dirs s.names s.gone t u h cells fd o entry is had

  link_begins : (cells : List Cell) (fd : ℕ) (o : StoreOp) → t.job ≡ job.Change cells fd o None → IsOfLink o → BeginsAs m (op_on t.set o None)
  link_begins cells fd (op.AddName parent item mode span) is l = adds_link first m reached s.files s.dirs s.names s.moved s.differ t u h cells fd parent item mode span is
  link_begins cells fd (op.DropName parent name) is l = drops_link first m reached s.files s.dirs s.names s.moved s.differ t u h cells fd parent name is
  link_begins cells fd (op.DropDir parent name g) is l = absurd l
  link_begins cells fd (op.Move parent name target new_name) is l = absurd l
  link_begins cells fd (op.Write g offset bytes) is l = absurd l
  link_begins cells fd (op.Truncate g size) is l = absurd l
  link_begins cells fd (op.SetMode g mode) is l = absurd l
  link_begins cells fd (op.SetAttr g attr) is l = absurd l
  link_begins cells fd (op.DelAttr g name) is l = absurd l
  link_begins cells fd (op.MakeCopy g span) is l = absurd l

  begins_well : BeginsWell m t
  begins_well = by_job t.job refl h.is_change
    where
      well : (cells : List Cell) (fd : ℕ) (o : StoreOp) (effect : Option Entry) → t.job ≡ job.Change cells fd o effect → BeginsAs m (op_on t.set o effect) → BeginsWell m t
      well cells fd o effect is b = record {
        fits = subst (λ (j : Job). Fits (volumes m) (set_count m) (op_of (change_by t.call t.set j))) (sym is) b.fits;
        apart = λ w was. subst (λ (j : Job). AreApart (op_of (change_by t.call t.set j)) (op_of (m.changes w))) (sym is) (b.apart w was);
      }

      by_job : (asked : Job) → t.job ≡ asked → IsChange asked → BeginsWell m t
      by_job (job.Change cells fd o (Some entry)) is k = well cells fd o (Some entry) is (effect_begins cells fd o entry is)
      by_job (job.Change cells fd o None) is k =
          well cells fd o None is (link_begins cells fd o is
          (own_job first m reached t.call t.run t.set (job.Change cells fd o None) t.next h.under_way.runs (asks first m reached t u h cells fd o None is)))
      by_job (job.Read cells fd dir) is k = absurd k
      by_job (job.Birth cells o) is k = absurd k
      by_job (job.Open fd gfid) is k = absurd k
      by_job job.Index is k = absurd k
      by_job (job.Heal cell) is k = absurd k

-- ---- directories

born_dirs : (m : State) (t : Task) → NamesOfDirs m.kinds m.adopted → NamesOfDirs m.kinds (after m (Step.SendsBirths t)).adopted
born_dirs m t a g set = by_old (a g set)
  where
    by_old : (items_of (m.adopted set (names_cell g)) ≡ []) ⊎ (m.kinds g ≡ Some kind.Dir) → (items_of ((after m (Step.SendsBirths t)).adopted set (names_cell g)) ≡ []) ⊎ (m.kinds g ≡ Some kind.Dir)
    by_old (inr k) = inr k
    by_old (inl none) = inl (by_birth (births_stay m t set (names_cell g)))
      where
        by_birth : StaysOrBorn (m.adopted set (names_cell g)) ((after m (Step.SendsBirths t)).adopted set (names_cell g)) → items_of ((after m (Step.SendsBirths t)).adopted set (names_cell g)) ≡ []
        by_birth (inl e) = ap items_of e ∙ none
        by_birth (inr b) = b.1.none

step_dirs : (m : State) (step : Step) → Allowed m step → KeepsFiles m → NamesOfDirs m.kinds m.adopted → NamesOfDirs (after m step).kinds (after m step).adopted
step_dirs m (Step.Settles t u true) h f a = op_dirs (volumes m) (set_count m) (m.changes u).set f.shown (m.changes u).op (m.changes u).effect (f.alone u h.unsettled.verdict) a
step_dirs m (Step.Decides t u) h f a = op_dirs (volumes m) (set_count m) (m.changes u).set f.shown (m.changes u).op (m.changes u).effect (f.alone u h.unsettled) a
step_dirs m (Step.SendsBirths t) h f a = born_dirs m t a
step_dirs m (Step.Settles t u false) h f a = a
step_dirs m (Step.Submits draws) h f a = a
step_dirs m (Step.Concludes c) h f a = a
step_dirs m (Step.Switches names) h f a = a
step_dirs m (Step.Begins c fop kept) h f a = a
step_dirs m (Step.EndsSettling t) h f a = a
step_dirs m (Step.BeginsChange t u) h f a = a
step_dirs m (Step.ConfirmsBirths t) h f a = a
step_dirs m (Step.HandsIn t shown) h f a = a
step_dirs m (Step.Extends c run dir next) h f a = a
step_dirs m (Step.Releases c run gfid) h f a = a
step_dirs m (Step.Learns c run dir spans) h f a = a
step_dirs m (Step.Answers c run answer place) h f a = a
step_dirs m (Step.AnswersAbove c run answer) h f a = a

-- ---- moves

decided_differ : (changes : ℕ → Change) (u : ℕ) (verdict : Verdict) → (changes u).verdict ≡ Unsettled → MovesDiffer changes → MovesDiffer (with_at changes u (record (changes u) { verdict = verdict }))
decided_differ changes u verdict was a w =
    at_case (λ i (one : Change). one.verdict ≢ Undrawn → (parent : Gfid) (name : List ℕ) (target : Gfid) (new_name : List ℕ) → one.op ≡ op.Move parent name target new_name → is_same_name parent name target new_name ≡ false) changes u (record (changes u) { verdict = verdict })
    (λ drawn. a u (λ e. let clash : Unsettled ≡ Undrawn = sym was ∙ e in absurd cc)) w (λ differ. a w)

begun_differ : (m : State) (t : Task) (u : ℕ) → BeginsWell m t → MovesDiffer m.changes → MovesDiffer (with_at m.changes u (change_by t.call t.set t.job))
begun_differ m t u b a w =
    at_case (λ i (one : Change). one.verdict ≢ Undrawn → (parent : Gfid) (name : List ℕ) (target : Gfid) (new_name : List ℕ) → one.op ≡ op.Move parent name target new_name → is_same_name parent name target new_name ≡ false) m.changes u (change_by t.call t.set t.job)
    (λ drawn parent name target new_name is. by_fit (change_by t.call t.set t.job).set parent name target new_name (subst (λ (o : StoreOp). fits (m.adopted (change_by t.call t.set t.job).set) o ≡ true) is b.fits.fits_set)) w (λ differ. a w)
  where
    by_fit : (set : ℕ) (parent : Gfid) (name : List ℕ) (target : Gfid) (new_name : List ℕ) → fits (m.adopted set) (op.Move parent name target new_name) ≡ true → is_same_name parent name target new_name ≡ false
    by_fit set parent name target new_name fit =
        let unfit = (fit_parts (m.adopted set) (op.Move parent name target new_name) fit).1 in
        let outer = or_parts (is_none (item_in (m.adopted set) parent name) || is_removed (m.adopted set (names_cell target))) (is_directory_item (item_in (m.adopted set) target new_name) || is_same_name parent name target new_name) unfit in
        (or_parts (is_directory_item (item_in (m.adopted set) target new_name)) (is_same_name parent name target new_name) outer.1).1

step_differ : (m : State) (step : Step) → Allowed m step → ((t : Task) (u : ℕ) → Allowed m (Step.BeginsChange t u) → BeginsWell m t) → MovesDiffer m.changes → MovesDiffer (after m step).changes
step_differ m (Step.Settles t u true) h well a = decided_differ m.changes u Adopted h.unsettled.verdict a
step_differ m (Step.Settles t u false) h well a = decided_differ m.changes u Dropped h.unsettled.verdict a
step_differ m (Step.Decides t u) h well a = decided_differ m.changes u Adopted h.unsettled a
step_differ m (Step.BeginsChange t u) h well a = begun_differ m t u (well t u h) a
step_differ m (Step.SendsBirths t) h well a = a
step_differ m (Step.Submits draws) h well a = a
step_differ m (Step.Concludes c) h well a = a
step_differ m (Step.Switches names) h well a = a
step_differ m (Step.Begins c fop kept) h well a = a
step_differ m (Step.EndsSettling t) h well a = a
step_differ m (Step.ConfirmsBirths t) h well a = a
step_differ m (Step.HandsIn t shown) h well a = a
step_differ m (Step.Extends c run dir next) h well a = a
step_differ m (Step.Releases c run gfid) h well a = a
step_differ m (Step.Learns c run dir spans) h well a = a
step_differ m (Step.Answers c run answer place) h well a = a
step_differ m (Step.AnswersAbove c run answer) h well a = a

-- ---- all

pub every_stands : (first : List (List ℕ)) (m : State) → IsReached first m → Stands m
every_stands first _ (IsReached.Start planned) = record {
  files = record { shown = start_empty first planned.enough; alone = λ u e. absurd cc; apart = λ u w differ e. absurd cc };
  dirs = λ g set. inl (no_items _ (bare (names_cell g)));
  names = λ c run runs. absurd cc;
  moved = λ c run runs. absurd cc;
  gone = λ c run runs. absurd cc;
  differ = λ u drawn. absurd (drawn refl);
}
every_stands first _ (IsReached.Further old step reached allowed) =
    let s = every_stands first old reached in
    let well : (t : Task) (u : ℕ) → Allowed old (Step.BeginsChange t u) → BeginsWell old t = λ t u h. begins_well first old reached s t u h in
    record {
      files = step_files first old step reached allowed well s.files;
      dirs = step_dirs old step allowed s.files s.dirs;
      names = step_names first old reached s.files s.dirs s.names step allowed;
      moved = step_moved first old reached s.files s.dirs s.moved step allowed;
      gone = step_gone first old reached s.files s.gone step allowed;
      differ = step_differ old step allowed well s.differ;
    }

pub every_files : EveryStateKeepsFiles
every_files first m reached = (every_stands first m reached).files

pub every_change : EveryChangeBeginsWell
every_change first m reached t u h = begins_well first m reached (every_stands first m reached) t u h
