-- A move begins well, by what its fop knows of the two names.
use Rattle.std.proofs.Common.{◌≡◌, inl, inr, ◌∙◌, ℕ, zero, suc, true, false, ◌||◌, sym, ap, subst, List, Option, Some, is_none, arith}
use Rattle.afr_machine.specs.Changes.Verdict.{Unsettled}
use Rattle.dht_fops.specs.Answers.{Accepts, change_of}
use Rattle.dht_fops.specs.Founded.{SawFile, SawMovable, IsFree}
use Rattle.dht_fops.specs.Handed.{SawName, SawNowhere}
use Rattle.dht_fops.specs.Standing.{HaveNoEffect}
use Rattle.fop_types.specs.Cells.{names_cell}
use Rattle.fop_types.specs.Names.{is_link, is_directory, is_same_name}
use Rattle.fop_types.specs.StoreOps.{is_removed, is_taken, item_in, is_directory_item}
use Rattle.fop_types.specs.declared.cells.Cell.{Cell}
use Rattle.fop_types.specs.declared.cells.Gfid.{Gfid}
use Rattle.fop_types.specs.declared.cells.Kind.TheVariants as kind
use Rattle.fop_types.specs.declared.contents.Item.{Item}
use Rattle.fop_types.specs.declared.history.Entry.{Entry}
use Rattle.fop_types.specs.declared.jobs.Job.TheVariants as job
use Rattle.fop_types.specs.declared.store_ops.StoreOp.TheVariants as op
use Rattle.mount_files.proofs.Accepting.{moved_is}
use Rattle.mount_files.proofs.Families.{taken_some, untaken_by}
use Rattle.mount_files.proofs.Keeping.{both_first, both_second}
use Rattle.mount_files.proofs.Local.{to_local}
use Rattle.mount_files.proofs.Naming.{open_directory}
use Rattle.mount_files.proofs.Sentences.{name_here}
use Rattle.mount_files.specs.Pairs.{Touches, Removes, Fits}
use Rattle.mount_files.specs.Seen.{IsHere}
use Rattle.mount_files.specs.Showing.{ShownIsFlat, IsNowhereElse}
use Rattle.mount_laws.specs.Guards.{Allowed, IsReached}
use Rattle.mount_laws.specs.Objects.{volumes}
use Rattle.mount_laws.specs.States.{State}
use Rattle.mount_laws.specs.Steps.{Step, Task}
use Rattle.mount_shown.proofs.Beginning.{op_on, BeginsAs, low, low_run, fits_by, cells_apart}
use Rattle.mount_shown.proofs.First.{accepted, rests, untaken_at, untouched, named_on, here_at, none_dropped}
use Rattle.mount_shown.proofs.Founding.{flat_run, fits_run}
use Rattle.mount_shown.proofs.Names.{no_directory_untaken, either_no}
use Rattle.mount_shown.specs.Bridge.{op_of}
use Rattle.mount_shown.specs.Pending.{KeepsFiles}

-- what a move rests on: the old name is on the set; no other set has the new one, and the set no directory of it; and no unsettled change
-- touches the new name, or removes its directory
pub record MoveRests (m : State) (set : ℕ) (parent : Gfid) (name : List ℕ) (target : Gfid) (new_name : List ℕ) : Type 0 where
  pub item : Item
  pub item_is : item_in (m.adopted set) parent name ≡ Some item
  pub no_link : is_link item.kind ≡ false
  pub accept : Accepts (volumes m).files (change_of (op.Move parent name target new_name))
  pub elsewhere : IsNowhereElse (volumes m) set target new_name
  pub no_dir : is_directory_item (item_in (m.adopted set) target new_name) ≡ false
  pub untouched : (w : ℕ) → (m.changes w).verdict ≡ Unsettled → Touches (m.changes w).op (m.changes w).effect target new_name → ⊥
  pub stays : (w : ℕ) → (m.changes w).verdict ≡ Unsettled → Removes (m.changes w).op target → ⊥

module _ (first : List (List ℕ)) (m : State) (reached : IsReached first m) (a : KeepsFiles m) (t : Task) (u : ℕ) (h : Allowed m (Step.BeginsChange t u)) (cells : List Cell) (fd : ℕ) (parent : Gfid) (name : List ℕ) (target : Gfid) (new_name : List ℕ) (entry : Entry) (is : t.job ≡ job.Change cells fd (op.Move parent name target new_name) (Some entry)) where
  pub moves : MoveRests m t.set parent name target new_name → BeginsAs m (op_on t.set (op.Move parent name target new_name) (Some entry))
  moves r =
      let o = op.Move parent name target new_name in
      let flat_on = flat_run first m reached a t.call t.run h.under_way.runs in
      let fits_on = fits_run first m reached a t.call t.run h.under_way.runs in
      let w0 = moved_is (volumes m).files parent name target new_name r.accept.answer r.accept.after r.accept.accepted in
      let dir = open_directory (volumes m) t.run.volume.sets parent w0.open_at.names w0.open_at.mode w0.open_at.attrs (to_local (volumes m) t.run.volume.sets flat_on parent) w0.open_at.object_is in
      let to_dir = open_directory (volumes m) t.run.volume.sets target w0.target_open.names w0.target_open.mode w0.target_open.attrs (to_local (volumes m) t.run.volume.sets flat_on target) w0.target_open.object_is in
      let at = name_here (volumes m) t.run.volume.sets t.set parent name r.item flat_on dir.directory.kind_is r.item_is r.no_link in
      record {
        fits = record {
          on_set = low first m reached t u h cells fd o (Some entry) is;
          fits_set = fits_by first m reached t u h cells fd o (Some entry) is
              (either_no (is_none (item_in (m.adopted t.set) parent name) || is_removed (m.adopted t.set (names_cell target))) (is_directory_item (item_in (m.adopted t.set) target new_name) || is_same_name parent name target new_name)
              (either_no (is_none (item_in (m.adopted t.set) parent name)) (is_removed (m.adopted t.set (names_cell target))) (ap (λ (x : Option Item). is_none x) r.item_is) (kept flat_on to_dir.kept t.set))
              (either_no (is_directory_item (item_in (m.adopted t.set) target new_name)) (is_same_name parent name target new_name) r.no_dir w0.other));
          stands = (r.accept, (ap is_taken r.item_is ∙ taken_some r.item r.no_link, r.elsewhere));
        };
        apart = λ w was. record {
          names = λ dir2 n x y. not_named r fits_on at w was dir2 n x y;
          inside = λ dir2 n x y. absurd x;
          outside = λ dir2 n x y. not_removed r fits_on at w was dir2 n x y;
          born = λ g x y. absurd x;
          cells = cells_apart first m reached t u h cells fd o (Some entry) is w was;
        };
      }
    where
      kept : ShownIsFlat (volumes m) t.run.volume.sets → is_removed (m.adopted 0 (names_cell target)) ≡ false → (set : ℕ) → is_removed (m.adopted set (names_cell target)) ≡ false
      kept flat_on first_kept zero = first_kept
      kept flat_on first_kept (suc set) = flat_on.sound.marked target (suc set) (omega arith)

      renamed_touch : (w : ℕ) (d : Gfid) (l : List ℕ) (dir2 : Gfid) (n : List ℕ) → d ≡ dir2 → l ≡ n → Touches (m.changes w).op (m.changes w).effect dir2 n → Touches (m.changes w).op (m.changes w).effect d l
      renamed_touch w d l dir2 n e f y = subst (λ (g : Gfid). Touches (m.changes w).op (m.changes w).effect g l) (sym e) (subst (λ (k : List ℕ). Touches (m.changes w).op (m.changes w).effect dir2 k) (sym f) y)

      not_named : (r : MoveRests m t.set parent name target new_name) → ((w : ℕ) → (m.changes w).verdict ≡ Unsettled → Fits (volumes m) t.run.volume.sets (op_of (m.changes w))) → IsHere (volumes m) t.run.volume.sets t.set parent name r.item → (w : ℕ) → (m.changes w).verdict ≡ Unsettled
          → (dir2 : Gfid) (n : List ℕ) → Touches (op.Move parent name target new_name) (Some entry) dir2 n → Touches (m.changes w).op (m.changes w).effect dir2 n → ⊥
      not_named r fits_on at w was dir2 n (inl x) y =
          let k = at.touched (op_of (m.changes w)) (fits_on w was) (renamed_touch w parent name dir2 n x.0 x.1 y) in
          cells_apart first m reached t u h cells fd (op.Move parent name target new_name) (Some entry) is w was (sym k.0) (names_cell parent) (both_first parent target) k.1
      not_named r fits_on at w was dir2 n (inr x) y = r.untouched w was (renamed_touch w target new_name dir2 n x.0 x.1 y)

      not_removed : (r : MoveRests m t.set parent name target new_name) → ((w : ℕ) → (m.changes w).verdict ≡ Unsettled → Fits (volumes m) t.run.volume.sets (op_of (m.changes w))) → IsHere (volumes m) t.run.volume.sets t.set parent name r.item → (w : ℕ) → (m.changes w).verdict ≡ Unsettled
          → (dir2 : Gfid) (n : List ℕ) → Removes (m.changes w).op dir2 → Touches (op.Move parent name target new_name) (Some entry) dir2 n → ⊥
      not_removed r fits_on at w was dir2 n x (inl y) = at.stays (op_of (m.changes w)) (fits_on w was) (subst (λ (g : Gfid). Removes (m.changes w).op g) (sym y.0) x)
      not_removed r fits_on at w was dir2 n x (inr y) = r.stays w was (subst (λ (g : Gfid). Removes (m.changes w).op g) (sym y.0) x)

  -- ---- before the first effect

  module _ (none : HaveNoEffect t.run.handed) where
    from_rests : (gfid : Gfid) → SawName t.run.handed parent name t.set gfid kind.File → Accepts (volumes m).files (change_of (op.Move parent name target new_name)) → IsNowhereElse (volumes m) t.set target new_name → is_directory_item (item_in (m.adopted t.set) target new_name) ≡ false
        → ((w : ℕ) → (m.changes w).verdict ≡ Unsettled → Touches (m.changes w).op (m.changes w).effect target new_name → ⊥) → ((w : ℕ) → (m.changes w).verdict ≡ Unsettled → Removes (m.changes w).op target → ⊥) → MoveRests m t.set parent name target new_name
    from_rests gfid saw accept elsewhere no_dir untouched_by stays_by = record {
      item = saw.item;
      item_is = named_on first m reached a t u h none parent name t.set gfid kind.File saw;
      no_link = saw.is_object;
      accept = accept;
      elsewhere = elsewhere;
      no_dir = no_dir;
      untouched = untouched_by;
      stays = stays_by;
    }

    -- the new name was seen nowhere
    to_nowhere : SawMovable t.run.volume.sets t.run.handed parent name target new_name t.set → SawNowhere t.run.volume.sets t.run.handed target new_name → Accepts (volumes m).files (change_of (op.Move parent name target new_name)) → m.kinds target ≡ Some kind.Dir → MoveRests m t.set parent name target new_name
    to_nowhere saw free accept made =
        from_rests saw.from.gfid saw.from.saw accept
        (λ other differ. untaken_by (is_taken (item_in (m.adopted other) target new_name)) (λ e. taken_no other e))
        (no_directory_untaken (item_in (m.adopted t.set) target new_name) (untaken_at first m reached a t u h none target new_name free t.set (low_run first m reached t u h cells fd (op.Move parent name target new_name) (Some entry) is)))
        (λ w was k. untouched first m reached a t u h none target new_name free made w was new_name (inl k))
        (λ w was k. untouched first m reached a t u h none target new_name free made w was new_name (inr k))
      where
        taken_no : (other : ℕ) → is_taken (item_in (m.adopted other) target new_name) ≡ true → ⊥
        taken_no other e =
            let no_name = untaken_at first m reached a t u h none target new_name free other ((flat_run first m reached a t.call t.run h.under_way.runs).within target new_name other e) in absurd cc

    -- the new name is a file's on the set
    to_file : SawMovable t.run.volume.sets t.run.handed parent name target new_name t.set → SawFile t.run.handed target new_name t.set → Accepts (volumes m).files (change_of (op.Move parent name target new_name)) → m.kinds target ≡ Some kind.Dir → MoveRests m t.set parent name target new_name
    to_file saw there accept made =
        let item_is = named_on first m reached a t u h none target new_name t.set there.gfid kind.File there.saw in
        let at = here_at first m reached a t u h none target new_name t.set there.gfid kind.File there.saw made in
        let fits_on = fits_run first m reached a t.call t.run h.under_way.runs in
        from_rests saw.from.gfid saw.from.saw accept
        (λ other differ. untaken_by (is_taken (item_in (m.adopted other) target new_name))
        (λ e. differ ((flat_run first m reached a t.call t.run h.under_way.runs).sound.alone target new_name other t.set e (ap is_taken item_is ∙ taken_some there.saw.item there.saw.is_object))))
        (ap is_directory_item item_is ∙ ap is_directory there.saw.kind_is)
        (λ w was k.
        (let on = at.touched (op_of (m.changes w)) (fits_on w was) k in
        cells_apart first m reached t u h cells fd (op.Move parent name target new_name) (Some entry) is w was (sym on.0) (names_cell target) (both_second parent target) on.1))
        (λ w was k. at.stays (op_of (m.changes w)) (fits_on w was) k)

    pub moves_first : BeginsAs m (op_on t.set (op.Move parent name target new_name) (Some entry))
    moves_first =
        let accept = accepted first m reached a t u h none cells fd (op.Move parent name target new_name) entry is in
        let saw = (rests first m reached a t u h none cells fd (op.Move parent name target new_name) entry is).founded in
        let w0 = moved_is (volumes m).files parent name target new_name accept.answer accept.after accept.accepted in
        let to_dir = open_directory (volumes m) t.run.volume.sets target w0.target_open.names w0.target_open.mode w0.target_open.attrs (to_local (volumes m) t.run.volume.sets (flat_run first m reached a t.call t.run h.under_way.runs) target) w0.target_open.object_is in
        by_free saw accept to_dir.directory.kind_is saw.to
      where
        by_free : SawMovable t.run.volume.sets t.run.handed parent name target new_name t.set → Accepts (volumes m).files (change_of (op.Move parent name target new_name)) → m.kinds target ≡ Some kind.Dir → IsFree t.run.volume.sets t.run.handed target new_name t.set
            → BeginsAs m (op_on t.set (op.Move parent name target new_name) (Some entry))
        by_free saw accept made (inl free) = moves (to_nowhere saw free accept made)
        by_free saw accept made (inr (inl there)) = moves (to_file saw there accept made)
        by_free saw accept made (inr (inr w)) = absurd (none_dropped t.run.handed target new_name none w)
