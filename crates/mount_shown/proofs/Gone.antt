-- A file's name that a fop has dropped is nowhere, nothing else touches it, and its directory stays, as long as the fop is under way
-- and begins no other change of the name.
use Rattle.std.proofs.Common.{◌≡◌, ◌≢◌, ◌⊎◌, inl, inr, ◌∙◌, ℕ, Bool, true, false, nat_lt, refl, sym, ap, subst, List, [], ◌∷◌, length, Option, Some, None, if◌then◌else◌}
use Rattle.std.proofs.lemmas.Bool.{cases_eq}
use Rattle.afr_machine.specs.Changes.{Verdict}
use Rattle.afr_machine.specs.Changes.Verdict.{Undrawn, Unsettled, Adopted, Dropped}
use Rattle.afr_machine.specs.Replicas.{with_at}
use Rattle.afr_machine.specs.Touching.{has_cell, share}
use Rattle.afr_machine.specs.Transactions.{cells_of_job}
use Rattle.dht_fops.specs.Answers.{change_of, flat_op}
use Rattle.dht_fops.specs.Shown.{SetContents}
use Rattle.dht_fops.specs.Standing.{AreOnce}
use Rattle.fop_types.specs.Bounds.{Each}
use Rattle.fop_types.specs.Cells.{names_cell}
use Rattle.fop_types.specs.Flat.{name_limit}
use Rattle.fop_types.specs.Names.{item_named}
use Rattle.fop_types.specs.StoreOps.{Contents, items_of, item_in, is_removed, is_taken, needs, edited_if_present, contents_after}
use Rattle.fop_types.specs.StoreOps.Edit.{DropItem}
use Rattle.fop_types.specs.declared.cells.Cell.{Cell}
use Rattle.fop_types.specs.declared.cells.Gfid.{Gfid}
use Rattle.fop_types.specs.declared.cells.Kind.{Kind}
use Rattle.fop_types.specs.declared.cells.Kind.TheVariants as kind
use Rattle.fop_types.specs.declared.contents.Content.{Content}
use Rattle.fop_types.specs.declared.contents.Item.{Item}
use Rattle.fop_types.specs.declared.flat.FlatOp.TheVariants as flat
use Rattle.fop_types.specs.declared.fops.Fop.{Fop}
use Rattle.fop_types.specs.declared.history.Entry.{Entry}
use Rattle.fop_types.specs.declared.jobs.Job.{Job}
use Rattle.fop_types.specs.declared.jobs.Job.TheVariants as job
use Rattle.fop_types.specs.declared.store_ops.StoreOp.{StoreOp}
use Rattle.fop_types.specs.declared.store_ops.StoreOp.TheVariants as op
use Rattle.mount_files.proofs.Accepting.{dropped_is, IsDropped}
use Rattle.mount_files.proofs.Cells.{number_is, set_here, set_off, content_here}
use Rattle.mount_files.proofs.Families.{taken_some, taken_item, IsTaken, untaken_by}
use Rattle.mount_files.proofs.Keeping.{both_first, both_second, op_untaken, op_mark}
use Rattle.mount_files.proofs.Later.{puts_touched}
use Rattle.mount_files.proofs.Local.{to_local}
use Rattle.mount_files.proofs.Naming.{open_directory, drop_items}
use Rattle.mount_files.proofs.Ops.{applied_is}
use Rattle.mount_files.proofs.Rises.{same_self, named_without}
use Rattle.mount_files.proofs.Sentences.{name_here}
use Rattle.mount_files.specs.Pairs.{Touches, Removes, Needs, Fits}
use Rattle.mount_files.specs.Seen.{IsHere}
use Rattle.mount_files.specs.Showing.{FitsNow}
use Rattle.mount_laws.specs.Effects.{IsOwnEntry, IsOwnPart, IsOwnJob, IsOfLink, part_of}
use Rattle.mount_laws.specs.Guards.{Allowed, IsReached, IsChange}
use Rattle.mount_laws.specs.Holding.{IsHeldFor}
use Rattle.mount_laws.specs.Objects.{volumes}
use Rattle.mount_laws.specs.Runs.{Run, SettledJob}
use Rattle.mount_laws.specs.Seeing.{IsListed}
use Rattle.mount_laws.specs.Settling.{StaysOrBorn}
use Rattle.mount_laws.specs.States.{State, Change, Runs, set_count}
use Rattle.mount_laws.specs.Steps.{Step, Task, after, adopting, change_by, applied}
use Rattle.mount_laws.proofs.Entering.{began_is, own_job}
use Rattle.mount_laws.proofs.Firm.{are_whole}
use Rattle.mount_laws.proofs.Held.{holds_cover}
use Rattle.mount_laws.proofs.One.{one_unsettled, settling_ends}
use Rattle.mount_laws.proofs.Sharing.{shared_cell}
use Rattle.mount_laws.proofs.Tables.{at_case}
use Rattle.mount_shown.proofs.Beginning.{has_needed}
use Rattle.mount_shown.proofs.Decided.{WasRun, HasNone, run_before, own_entry, own_settled, none_adopted, not_adopted, adopted_begun, unsettled_begun}
use Rattle.mount_shown.proofs.Listing.{kind_grows}
use Rattle.mount_shown.proofs.Moving.{run_steps}
use Rattle.mount_shown.proofs.Parts.{no_rmdir}
use Rattle.mount_shown.proofs.Watching.{births_stay}
use Rattle.mount_shown.specs.Bridge.{op_of}
use Rattle.mount_shown.specs.Pending.{KeepsFiles}

-- ---- what is so

-- the call's own drop of a file's name was adopted
pub record IsDropBy (change : Change) (c : ℕ) (dir : Gfid) (name : List ℕ) : Type 0 where
  pub by : change.by ≡ c
  pub adopted : change.verdict ≡ Adopted
  pub entry : Entry
  pub effect : change.effect ≡ Some entry
  pub op_is : change.op ≡ op.DropName dir name

-- no other change of the call touches the name
abbrev pub IsOnly : (ℕ → Change) → ℕ → ℕ → Gfid → List ℕ → Type 0
IsOnly changes c u dir name = (v : ℕ) → (changes v).by ≡ c → (changes v).verdict ≢ Undrawn → Touches (changes v).op (changes v).effect dir name → v ≡ u

pub record IsGone (m : State) (dir : Gfid) (name : List ℕ) : Type 0 where
  pub free : (set : ℕ) → is_taken (item_in (m.adopted set) dir name) ≡ false
  pub kept : is_removed (m.adopted 0 (names_cell dir)) ≡ false
  pub made : m.kinds dir ≡ Some kind.Dir
  pub short : nat_lt name_limit (length name) ≡ false
  pub untouched : (w : ℕ) → (m.changes w).verdict ≡ Unsettled → Touches (m.changes w).op (m.changes w).effect dir name → ⊥
  pub stays : (w : ℕ) → (m.changes w).verdict ≡ Unsettled → Removes (m.changes w).op dir → ⊥

abbrev pub GoneStand : State → Type 0
GoneStand m = (c : ℕ) (run : Run) → Runs m c run → (u : ℕ) (dir : Gfid) (name : List ℕ) → IsDropBy (m.changes u) c dir name → IsOnly m.changes c u dir name → IsGone m dir name

-- the same sets and changes
same_gone : (m n : State) (dir : Gfid) (name : List ℕ) → n.adopted ≡ m.adopted → n.kinds ≡ m.kinds → n.changes ≡ m.changes → IsGone m dir name → IsGone n dir name
same_gone m n dir name sets kinds changes k = record {
  free = λ set. subst (λ (s : SetContents). is_taken (item_in (s set) dir name) ≡ false) (sym sets) (k.free set);
  kept = subst (λ (s : SetContents). is_removed (s 0 (names_cell dir)) ≡ false) (sym sets) k.kept;
  made = subst (λ (x : Gfid → Option Kind). x dir ≡ Some kind.Dir) (sym kinds) k.made;
  short = k.short;
  untouched = λ w. subst (λ (cs : ℕ → Change). (cs w).verdict ≡ Unsettled → Touches (cs w).op (cs w).effect dir name → ⊥) (sym changes) (k.untouched w);
  stays = λ w. subst (λ (cs : ℕ → Change). (cs w).verdict ≡ Unsettled → Removes (cs w).op dir → ⊥) (sym changes) (k.stays w);
}

-- ---- an op leaves it

-- what an op needs of the directories of its names
pub touched_needs : (o : StoreOp) (e : Option Entry) (dir : Gfid) (name : List ℕ) → Touches o e dir name → Needs (needs o) (names_cell dir)
touched_needs o None dir name t = absurd t
touched_needs (op.Write g offset bytes) (Some entry) dir name t = absurd t
touched_needs (op.Truncate g size) (Some entry) dir name t = absurd t
touched_needs (op.SetMode g mode) (Some entry) dir name t = absurd t
touched_needs (op.SetAttr g attr) (Some entry) dir name t = absurd t
touched_needs (op.DelAttr g n) (Some entry) dir name t = absurd t
touched_needs (op.AddName parent item mode span) (Some entry) dir name t = inl (ap names_cell t.0)
touched_needs (op.DropName parent n) (Some entry) dir name t = inl (ap names_cell t.0)
touched_needs (op.DropDir parent n g) (Some entry) dir name t = subst (λ (x : Gfid). Needs (needs (op.DropDir parent n g)) (names_cell x)) t.0 (both_first parent g)
touched_needs (op.Move parent n target k) (Some entry) dir name (inl t) = subst (λ (x : Gfid). Needs (needs (op.Move parent n target k)) (names_cell x)) t.0 (both_first parent target)
touched_needs (op.Move parent n target k) (Some entry) dir name (inr t) = subst (λ (x : Gfid). Needs (needs (op.Move parent n target k)) (names_cell x)) t.0 (both_second parent target)
touched_needs (op.MakeCopy g span) (Some entry) dir name t = absurd t

removed_needs : (o : StoreOp) (dir : Gfid) → Removes o dir → Needs (needs o) (names_cell dir)
removed_needs (op.Write g offset bytes) dir t = absurd t
removed_needs (op.Truncate g size) dir t = absurd t
removed_needs (op.SetMode g mode) dir t = absurd t
removed_needs (op.SetAttr g attr) dir t = absurd t
removed_needs (op.DelAttr g n) dir t = absurd t
removed_needs (op.AddName parent item mode span) dir t = absurd t
removed_needs (op.DropName parent n) dir t = absurd t
removed_needs (op.DropDir parent n g) dir t = subst (λ (x : Gfid). Needs (needs (op.DropDir parent n g)) (names_cell x)) t (both_second parent g)
removed_needs (op.Move parent n target k) dir t = absurd t
removed_needs (op.MakeCopy g span) dir t = absurd t

module _ (first : List (List ℕ)) (m : State) (reached : IsReached first m) (a : KeepsFiles m) where
  free_after : (v : ℕ) → (m.changes v).verdict ≡ Unsettled → (dir : Gfid) (name : List ℕ) → (Touches (m.changes v).op (m.changes v).effect dir name → ⊥) → (set : ℕ) → is_taken (item_in (m.adopted set) dir name) ≡ false → is_taken (item_in ((adopting m v).adopted set) dir name) ≡ false
  free_after v was dir name off set free = by_set (number_is set (m.changes v).set)
    where
      fit : Fits (volumes m) (set_count m) (op_of (m.changes v))
      fit = a.alone v was

      by_set : (set ≡ (m.changes v).set) ⊎ (set ≢ (m.changes v).set) → is_taken (item_in ((adopting m v).adopted set) dir name) ≡ false
      by_set (inr differ) = ap (λ (c : Contents). is_taken (item_in c dir name)) (set_off m.adopted (m.changes v).set set (applied (m.adopted (m.changes v).set) (m.changes v).op) differ) ∙ free
      by_set (inl same) =
          subst (λ (s : ℕ). is_taken (item_in ((adopting m v).adopted s) dir name) ≡ false) (sym same)
          (ap (λ (c : Contents). is_taken (item_in c dir name)) (set_here m.adopted (m.changes v).set (applied (m.adopted (m.changes v).set) (m.changes v).op) ∙ applied_is (m.adopted (m.changes v).set) (m.changes v).op fit.fits_set)
          ∙ op_untaken (m.adopted (m.changes v).set) (m.changes v).op dir name (λ p. off (puts_touched (volumes m) (m.changes v).set (m.changes v).op (m.changes v).effect dir name fit.stands p)) (a.shown.rising dir (m.changes v).set)
          (subst (λ (s : ℕ). is_taken (item_in (m.adopted s) dir name) ≡ false) same free))

  kept_after : (v : ℕ) → (m.changes v).verdict ≡ Unsettled → (dir : Gfid) → (Removes (m.changes v).op dir → ⊥) → (set : ℕ) → is_removed ((adopting m v).adopted set (names_cell dir)) ≡ is_removed (m.adopted set (names_cell dir))
  kept_after v was dir off set = by_set (number_is set (m.changes v).set)
    where
      fit : Fits (volumes m) (set_count m) (op_of (m.changes v))
      fit = a.alone v was

      by_set : (set ≡ (m.changes v).set) ⊎ (set ≢ (m.changes v).set) → is_removed ((adopting m v).adopted set (names_cell dir)) ≡ is_removed (m.adopted set (names_cell dir))
      by_set (inr differ) = ap (λ (c : Contents). is_removed (c (names_cell dir))) (set_off m.adopted (m.changes v).set set (applied (m.adopted (m.changes v).set) (m.changes v).op) differ)
      by_set (inl same) =
          subst (λ (s : ℕ). is_removed ((adopting m v).adopted s (names_cell dir)) ≡ is_removed (m.adopted s (names_cell dir))) (sym same)
          (ap (λ (c : Contents). is_removed (c (names_cell dir))) (set_here m.adopted (m.changes v).set (applied (m.adopted (m.changes v).set) (m.changes v).op) ∙ applied_is (m.adopted (m.changes v).set) (m.changes v).op fit.fits_set)
          ∙ op_mark (m.adopted (m.changes v).set) (m.changes v).op dir off)

  -- ---- the drop is adopted

  module _ (u : ℕ) (was : (m.changes u).verdict ≡ Unsettled) (c : ℕ) (dir : Gfid) (name : List ℕ) (k : IsDropBy (record (m.changes u) { verdict = Adopted }) c dir name) where
    fit_drop : FitsNow (volumes m) (set_count m) (m.changes u).set (op.DropName dir name) (Some k.entry)
    fit_drop = subst (λ (o : StoreOp). FitsNow (volumes m) (set_count m) (m.changes u).set o (Some k.entry)) k.op_is (subst (λ (e : Option Entry). FitsNow (volumes m) (set_count m) (m.changes u).set (m.changes u).op e) k.effect (a.alone u was))

    taken_at : IsTaken (item_in (m.adopted (m.changes u).set) dir name)
    taken_at = taken_item (item_in (m.adopted (m.changes u).set) dir name) fit_drop.stands.1

    dropped : IsDropped (volumes m).files dir name fit_drop.stands.0.after
    dropped = dropped_is (volumes m).files dir name fit_drop.stands.0.answer fit_drop.stands.0.after fit_drop.stands.0.accepted

    made_dir : m.kinds dir ≡ Some kind.Dir
    made_dir = (open_directory (volumes m) (set_count m) dir dropped.open_at.names dropped.open_at.mode dropped.open_at.attrs (to_local (volumes m) (set_count m) a.shown dir) dropped.open_at.object_is).directory.kind_is

    here_dir : IsHere (volumes m) (set_count m) (m.changes u).set dir name taken_at.item
    here_dir = name_here (volumes m) (set_count m) (m.changes u).set dir name taken_at.item a.shown made_dir taken_at.item_is taken_at.no_link

    -- where it was dropped it is not
    none_here : (contents : Contents) → AreOnce (items_of (contents (names_cell dir))) → item_in (contents_after contents (op.DropName dir name)) dir name ≡ None
    none_here contents once =
        ap (λ (x : Option Content). item_named (items_of x) name) (content_here contents (names_cell dir) (edited_if_present (DropItem name) (contents (names_cell dir))))
        ∙ ap (λ (l : List Item). item_named l name) (drop_items name (contents (names_cell dir)))
        ∙ named_without (items_of (contents (names_cell dir))) name name once
        ∙ ap (λ (b : Bool). if b then None else item_named (items_of (contents (names_cell dir))) name) (same_self name)

    free_now : (set : ℕ) → is_taken (item_in ((adopting m u).adopted set) dir name) ≡ false
    free_now set = by_set (number_is set (m.changes u).set)
      where
        by_set : (set ≡ (m.changes u).set) ⊎ (set ≢ (m.changes u).set) → is_taken (item_in ((adopting m u).adopted set) dir name) ≡ false
        by_set (inl same) =
            subst (λ (s : ℕ). is_taken (item_in ((adopting m u).adopted s) dir name) ≡ false) (sym same)
            (ap (λ (x : Contents). is_taken (item_in x dir name)) (set_here m.adopted (m.changes u).set (applied (m.adopted (m.changes u).set) (m.changes u).op))
            ∙ ap (λ (o : StoreOp). is_taken (item_in (applied (m.adopted (m.changes u).set) o) dir name)) k.op_is
            ∙ ap (λ (x : Contents). is_taken (item_in x dir name)) (applied_is (m.adopted (m.changes u).set) (op.DropName dir name) fit_drop.fits_set)
            ∙ ap is_taken (none_here (m.adopted (m.changes u).set) (a.shown.sound.once dir (m.changes u).set)))
        by_set (inr differ) =
            ap (λ (x : Contents). is_taken (item_in x dir name)) (set_off m.adopted (m.changes u).set set (applied (m.adopted (m.changes u).set) (m.changes u).op) differ)
            ∙ untaken_by (is_taken (item_in (m.adopted set) dir name)) (λ e. differ (a.shown.sound.alone dir name set (m.changes u).set e (ap is_taken taken_at.item_is ∙ taken_some taken_at.item taken_at.no_link)))

    no_other : (w : ℕ) → (with_at m.changes u (record (m.changes u) { verdict = Adopted }) w).verdict ≡ Unsettled → Touches (with_at m.changes u (record (m.changes u) { verdict = Adopted }) w).op (with_at m.changes u (record (m.changes u) { verdict = Adopted }) w).effect dir name → ⊥
    no_other w =
        at_case (λ i (one : Change). one.verdict ≡ Unsettled → Touches one.op one.effect dir name → ⊥) m.changes u (record (m.changes u) { verdict = Adopted }) (λ e t. absurd cc) w
        (λ differ is t.
        (let on = here_dir.touched (op_of (m.changes w)) (a.alone w is) t in
        let mine : Needs (needs (m.changes u).op) (names_cell dir) = subst (λ (o : StoreOp). Needs (needs o) (names_cell dir)) (sym k.op_is) (inl refl) in
        differ
        (sym (one_unsettled first m reached u w (names_cell dir) was is (sym on.0)
        (subst (λ (cs : List Cell). has_cell cs (names_cell dir) ≡ true) (sym (are_whole first m reached u (unsettled_begun (m.changes u).verdict was))) (has_needed (needs (m.changes u).op) (names_cell dir) mine))
        (subst (λ (cs : List Cell). has_cell cs (names_cell dir) ≡ true) (sym (are_whole first m reached w (unsettled_begun (m.changes w).verdict is))) (has_needed (needs (m.changes w).op) (names_cell dir) on.1))))))

    no_remove : (w : ℕ) → (with_at m.changes u (record (m.changes u) { verdict = Adopted }) w).verdict ≡ Unsettled → Removes (with_at m.changes u (record (m.changes u) { verdict = Adopted }) w).op dir → ⊥
    no_remove w =
        at_case (λ i (one : Change). one.verdict ≡ Unsettled → Removes one.op dir → ⊥) m.changes u (record (m.changes u) { verdict = Adopted }) (λ e t. absurd cc) w
        (λ differ is r. here_dir.stays (op_of (m.changes w)) (a.alone w is) r)

    just_gone : IsGone (adopting m u) dir name
    just_gone = record {
      free = free_now;
      kept = kept_after u was dir (λ r. subst (λ (o : StoreOp). Removes o dir) k.op_is r) 0 ∙ here_dir.kept;
      made = kind_grows (volumes m) (m.changes u).set (m.changes u).op (m.changes u).effect (a.alone u was).stands dir kind.Dir made_dir;
      short = dropped.open_at.short;
      untouched = no_other;
      stays = no_remove;
    }

  -- ---- another change is adopted

  still_gone : (v : ℕ) → (m.changes v).verdict ≡ Unsettled → (dir : Gfid) (name : List ℕ) → IsGone m dir name → IsGone (adopting m v) dir name
  still_gone v was dir name k = record {
    free = λ set. free_after v was dir name (k.untouched v was) set (k.free set);
    kept = kept_after v was dir (k.stays v was) 0 ∙ k.kept;
    made = kind_grows (volumes m) (m.changes v).set (m.changes v).op (m.changes v).effect (a.alone v was).stands dir kind.Dir k.made;
    short = k.short;
    untouched = λ w. at_case (λ i (one : Change). one.verdict ≡ Unsettled → Touches one.op one.effect dir name → ⊥) m.changes v (record (m.changes v) { verdict = Adopted }) (λ e t. absurd cc) w (λ differ is t. k.untouched w is t);
    stays = λ w. at_case (λ i (one : Change). one.verdict ≡ Unsettled → Removes one.op dir → ⊥) m.changes v (record (m.changes v) { verdict = Adopted }) (λ e t. absurd cc) w (λ differ is t. k.stays w is t);
  }

  table_gone : (v : ℕ) (new : Change) (dir : Gfid) (name : List ℕ) → IsGone m dir name → (new.verdict ≡ Unsettled → Touches new.op new.effect dir name → ⊥) → (new.verdict ≡ Unsettled → Removes new.op dir → ⊥) → IsGone (record m { changes = with_at m.changes v new }) dir name
  table_gone v new dir name k off stay = record {
    free = k.free;
    kept = k.kept;
    made = k.made;
    short = k.short;
    untouched = λ w. at_case (λ i (one : Change). one.verdict ≡ Unsettled → Touches one.op one.effect dir name → ⊥) m.changes v new off w (λ differ is t. k.untouched w is t);
    stays = λ w. at_case (λ i (one : Change). one.verdict ≡ Unsettled → Removes one.op dir → ⊥) m.changes v new stay w (λ differ is t. k.stays w is t);
  }

  born_gone : (t : Task) (dir : Gfid) (name : List ℕ) → IsGone m dir name → IsGone (after m (Step.SendsBirths t)) dir name
  born_gone t dir name k = record {
    free = λ set. by_free (births_stay m t set (names_cell dir)) (k.free set);
    kept = by_kept (births_stay m t 0 (names_cell dir));
    made = k.made;
    short = k.short;
    untouched = k.untouched;
    stays = k.stays;
  }
    where
      by_free : {old new : Option Content} → StaysOrBorn old new → is_taken (item_named (items_of old) name) ≡ false → is_taken (item_named (items_of new) name) ≡ false
      by_free (inl e) free = ap (λ (x : Option Content). is_taken (item_named (items_of x) name)) e ∙ free
      by_free (inr g) free = ap (λ (l : List Item). is_taken (item_named l name)) g.1.none

      by_kept : StaysOrBorn (m.adopted 0 (names_cell dir)) ((after m (Step.SendsBirths t)).adopted 0 (names_cell dir)) → is_removed ((after m (Step.SendsBirths t)).adopted 0 (names_cell dir)) ≡ false
      by_kept (inl e) = ap is_removed e ∙ k.kept
      by_kept (inr g) = g.1.kept

  -- ---- a change begins

  module _ (c : ℕ) (run : Run) (runs : Runs m c run) (t : Task) (v : ℕ) (h : Allowed m (Step.BeginsChange t v)) (u : ℕ) (dir : Gfid) (name : List ℕ) (k : IsDropBy (m.changes u) c dir name) where
    -- a change of another call needs no cell of the directory's
    others_no : c ≢ t.call → Needs (needs (change_by t.call t.set t.job).op) (names_cell dir) → ⊥
    others_no differ need =
        let begun = adopted_begun (m.changes u).verdict k.adopted in
        let mine : Needs (needs (m.changes u).op) (names_cell dir) = subst (λ (o : StoreOp). Needs (needs o) (names_cell dir)) (sym k.op_is) (inl refl) in
        let seen = own_settled first m reached c run runs u k.by begun (names_cell dir) mine in
        let apart = each_listed (m.changes u).set seen.cells run.settled ((settling_ends first m reached).settled c run t v differ h runs) seen.listed in
        let both = shared_cell (cells_of_job t.job) seen.cells (names_cell dir) (has_job t.job h.is_change ((holds_cover first m reached).asked t.call t.run t.set t.job t.next h.under_way.runs h.under_way.asks) need) seen.has in
        let clash : true ≡ false = sym both ∙ apart in absurd cc
      where
        each_listed : (set : ℕ) (cells : List Cell) (jobs : List SettledJob) → Each (λ (done : SettledJob). share (cells_of_job t.job) done.cells ≡ false) jobs → IsListed jobs (record { set = set; cells = cells }) → share (cells_of_job t.job) cells ≡ false
        each_listed set cells [] e l = absurd l
        each_listed set cells (one ∷ jobs) e (inl is) = subst (λ (done : SettledJob). share (cells_of_job t.job) done.cells ≡ false) is e.0
        each_listed set cells (one ∷ jobs) e (inr l) = each_listed set cells jobs e.1 l

        has_job : (asked : Job) → IsChange asked → IsHeldFor t.run.holds t.run.fop asked → Needs (needs (change_by t.call t.set asked).op) (names_cell dir) → has_cell (cells_of_job asked) (names_cell dir) ≡ true
        has_job (job.Change cells fd o effect) is held n = subst (λ (cs : List Cell). has_cell cs (names_cell dir) ≡ true) (sym held.whole) (has_needed (needs o) (names_cell dir) n)
        has_job (job.Read cells fd d) is held n = absurd is
        has_job (job.Birth cells o) is held n = absurd is
        has_job (job.Open fd gfid) is held n = absurd is
        has_job job.Index is held n = absurd is
        has_job (job.Heal cell) is held n = absurd is

    -- the fop's own removes no directory
    own_no : t.call ≡ c → Removes (change_by t.call t.set t.job).op dir → ⊥
    own_no same r = by_job t.job h.is_change (own_job first m reached t.call t.run t.set t.job t.next h.under_way.runs h.under_way.asks) r
      where
        mine : IsOwnEntry m.began (m.changes u) k.entry
        mine = own_entry first m reached u k.entry (adopted_begun (m.changes u).verdict k.adopted) k.effect

        one_fop : mine.fop ≡ t.run.fop
        one_fop = some_is mine.fop t.run.fop (sym mine.began_is ∙ ap m.began (k.by ∙ sym same) ∙ began_is first m reached t.call t.run h.under_way.runs)
          where
            some_is : (x y : Fop) → ◌≡◌ {A = Option Fop} (Some x) (Some y) → x ≡ y
            some_is x y e = cc

        of_op : (o : StoreOp) (entry : Entry) → IsOwnPart t.call t.run.fop t.run.handed t.set o entry → Removes o dir → ⊥
        of_op (op.DropDir parent n g) entry own x =
            no_rmdir (flat_op t.run.fop) k.entry.part entry.part dir name parent n
            (subst (λ (f : Fop). part_of (flat_op f) k.entry.part ≡ Some (flat.Unlink dir name)) one_fop (mine.part_is ∙ sym mine.makes ∙ ap change_of k.op_is)) (own.part_is ∙ sym own.makes)
        of_op (op.Write g offset bytes) entry own x = x
        of_op (op.Truncate g size) entry own x = x
        of_op (op.SetMode g mode) entry own x = x
        of_op (op.SetAttr g attr) entry own x = x
        of_op (op.DelAttr g n) entry own x = x
        of_op (op.AddName parent item mode span) entry own x = x
        of_op (op.DropName parent n) entry own x = x
        of_op (op.Move parent n target l) entry own x = x
        of_op (op.MakeCopy g span) entry own x = x

        of_link : (o : StoreOp) → IsOfLink o → Removes o dir → ⊥
        of_link (op.DropDir parent n g) l x = l
        of_link (op.Write g offset bytes) l x = x
        of_link (op.Truncate g size) l x = x
        of_link (op.SetMode g mode) l x = x
        of_link (op.SetAttr g attr) l x = x
        of_link (op.DelAttr g n) l x = x
        of_link (op.AddName parent item mode span) l x = x
        of_link (op.DropName parent n) l x = x
        of_link (op.Move parent n target l2) l x = x
        of_link (op.MakeCopy g span) l x = x

        by_job : (asked : Job) → IsChange asked → IsOwnJob t.call t.run.fop t.run.handed t.set asked → Removes (change_by t.call t.set asked).op dir → ⊥
        by_job (job.Change cells fd o None) is own x = of_link o own x
        by_job (job.Change cells fd o (Some entry)) is own x = of_op o entry own x
        by_job (job.Read cells fd d) is own x = absurd is
        by_job (job.Birth cells o) is own x = absurd is
        by_job (job.Open fd gfid) is own x = absurd is
        by_job job.Index is own x = absurd is
        by_job (job.Heal cell) is own x = absurd is

    begun_gone : (v ≡ u → ⊥) → IsOnly (with_at m.changes v (change_by t.call t.set t.job)) c u dir name → IsGone m dir name → IsGone (after m (Step.BeginsChange t v)) dir name
    begun_gone off only gone = record { free = g.free; kept = g.kept; made = g.made; short = g.short; untouched = g.untouched; stays = g.stays }
      where
        by_call : (P : Type 0) → (t.call ≡ c → P) → (c ≢ t.call → P) → (t.call ≡ c) ⊎ (t.call ≢ c) → P
        by_call P x y (inl e) = x e
        by_call P x y (inr n) = y (λ e. n (sym e))

        at_v : with_at m.changes v (change_by t.call t.set t.job) v ≡ change_by t.call t.set t.job
        at_v = set_here m.changes v (change_by t.call t.set t.job)

        made_by : (asked : Job) → IsChange asked → (change_by t.call t.set asked).by ≡ t.call
        made_by (job.Change cells fd o effect) is = refl
        made_by (job.Read cells fd d) is = absurd is
        made_by (job.Birth cells o) is = absurd is
        made_by (job.Open fd gfid) is = absurd is
        made_by job.Index is = absurd is
        made_by (job.Heal cell) is = absurd is

        off_name : (change_by t.call t.set t.job).verdict ≡ Unsettled → Touches (change_by t.call t.set t.job).op (change_by t.call t.set t.job).effect dir name → ⊥
        off_name is x =
            by_call ⊥
            (λ e. off (only v (ap (λ (y : Change). y.by) at_v ∙ made_by t.job h.is_change ∙ e) (λ f. unsettled_begun (change_by t.call t.set t.job).verdict is (sym (ap (λ (y : Change). y.verdict) at_v) ∙ f))
            (subst (λ (y : Change). Touches y.op y.effect dir name) (sym at_v) x)))
            (λ n. others_no n (touched_needs (change_by t.call t.set t.job).op (change_by t.call t.set t.job).effect dir name x)) (cases_eq t.call c)

        off_dir : (change_by t.call t.set t.job).verdict ≡ Unsettled → Removes (change_by t.call t.set t.job).op dir → ⊥
        off_dir is x = by_call ⊥ (λ e. own_no e x) (λ n. others_no n (removed_needs (change_by t.call t.set t.job).op dir x)) (cases_eq t.call c)

        g : IsGone (record m { changes = with_at m.changes v (change_by t.call t.set t.job) }) dir name
        g = table_gone v (change_by t.call t.set t.job) dir name gone off_name off_dir

  -- ---- each step

  -- a change that the call had begun is one of the new state's
  only_decided : (v : ℕ) (verdict : Verdict) → (m.changes v).verdict ≡ Unsettled → verdict ≢ Undrawn → (c u : ℕ) (dir : Gfid) (name : List ℕ) → IsOnly (with_at m.changes v (record (m.changes v) { verdict = verdict })) c u dir name → IsOnly m.changes c u dir name
  only_decided v verdict was drawn c u dir name only w =
      at_case (λ i (one : Change). (one.by ≡ c → one.verdict ≢ Undrawn → Touches one.op one.effect dir name → i ≡ u) → (m.changes i).by ≡ c → (m.changes i).verdict ≢ Undrawn → Touches (m.changes i).op (m.changes i).effect dir name → i ≡ u) m.changes v (record (m.changes v) { verdict = verdict })
      (λ f by begun x. f by drawn x) w (λ differ f. f) (only w)

  only_begun : (v : ℕ) (new : Change) → (m.changes v).verdict ≡ Undrawn → (c u : ℕ) (dir : Gfid) (name : List ℕ) → IsOnly (with_at m.changes v new) c u dir name → IsOnly m.changes c u dir name
  only_begun v new fresh c u dir name only w =
      at_case (λ i (one : Change). (one.by ≡ c → one.verdict ≢ Undrawn → Touches one.op one.effect dir name → i ≡ u) → (m.changes i).by ≡ c → (m.changes i).verdict ≢ Undrawn → Touches (m.changes i).op (m.changes i).effect dir name → i ≡ u) m.changes v new
      (λ f by begun x. absurd (begun fresh)) w (λ differ f. f) (only w)

  module _ (gone : GoneStand m) where
    adopts_gone : (c : ℕ) (run : Run) → Runs m c run → (v : ℕ) → (m.changes v).verdict ≡ Unsettled → (u : ℕ) (dir : Gfid) (name : List ℕ) → IsDropBy (with_at m.changes v (record (m.changes v) { verdict = Adopted }) u) c dir name
        → IsOnly (with_at m.changes v (record (m.changes v) { verdict = Adopted })) c u dir name → IsGone (adopting m v) dir name
    adopts_gone c run runs v was u dir name k only =
        at_case (λ i (one : Change). IsDropBy one c dir name → IsOnly m.changes c i dir name → IsGone (adopting m v) dir name) m.changes v (record (m.changes v) { verdict = Adopted })
        (λ x o. just_gone v was c dir name x) u (λ differ x o. still_gone v was dir name (gone c run runs u dir name x o)) k (only_decided v Adopted was (λ e. absurd cc) c u dir name only)

    drops_gone : (c : ℕ) (run : Run) → Runs m c run → (v : ℕ) → (m.changes v).verdict ≡ Unsettled → (u : ℕ) (dir : Gfid) (name : List ℕ) → IsDropBy (with_at m.changes v (record (m.changes v) { verdict = Dropped }) u) c dir name
        → IsOnly (with_at m.changes v (record (m.changes v) { verdict = Dropped })) c u dir name → IsGone (record m { changes = with_at m.changes v (record (m.changes v) { verdict = Dropped }) }) dir name
    drops_gone c run runs v was u dir name k only =
        at_case (λ i (one : Change). IsDropBy one c dir name → IsOnly m.changes c i dir name → IsGone (record m { changes = with_at m.changes v (record (m.changes v) { verdict = Dropped }) }) dir name) m.changes v (record (m.changes v) { verdict = Dropped })
        (λ x o. let clash : Dropped ≡ Adopted = x.adopted in absurd cc) u (λ differ x o. table_gone v (record (m.changes v) { verdict = Dropped }) dir name (gone c run runs u dir name x o) (λ e y. absurd cc) (λ e y. absurd cc)) k (only_decided v Dropped was (λ e. absurd cc) c u dir name only)

    begins_gone : (c : ℕ) (run : Run) → Runs m c run → (t : Task) (v : ℕ) → Allowed m (Step.BeginsChange t v) → (u : ℕ) (dir : Gfid) (name : List ℕ) → IsDropBy (with_at m.changes v (change_by t.call t.set t.job) u) c dir name
        → IsOnly (with_at m.changes v (change_by t.call t.set t.job)) c u dir name → IsGone (after m (Step.BeginsChange t v)) dir name
    begins_gone c run runs t v h u dir name k only =
        at_case (λ i (one : Change). i ≡ u → IsDropBy one c dir name → IsGone (after m (Step.BeginsChange t v)) dir name) m.changes v (change_by t.call t.set t.job)
        (λ e x. absurd (not_adopted t.call t.set t.job x.adopted)) u
        (λ differ e x. begun_gone c run runs t v h u dir name x (λ same. differ (sym same)) only (gone c run runs u dir name x (only_begun v (change_by t.call t.set t.job) h.fresh c u dir name only))) refl k

    goes_gone : (step : Step) → Allowed m step → (c : ℕ) (run : Run) → Runs m c run → (u : ℕ) (dir : Gfid) (name : List ℕ) → IsDropBy ((after m step).changes u) c dir name → IsOnly (after m step).changes c u dir name → IsGone (after m step) dir name
    goes_gone (Step.Settles t v true) h c run runs u dir name k only = same_gone (adopting m v) (after m (Step.Settles t v true)) dir name refl refl refl (adopts_gone c run runs v h.unsettled.verdict u dir name k only)
    goes_gone (Step.Decides t v) h c run runs u dir name k only = same_gone (adopting m v) (after m (Step.Decides t v)) dir name refl refl refl (adopts_gone c run runs v h.unsettled u dir name k only)
    goes_gone (Step.Settles t v false) h c run runs u dir name k only =
        let g = drops_gone c run runs v h.unsettled.verdict u dir name k only in record { free = g.free; kept = g.kept; made = g.made; short = g.short; untouched = g.untouched; stays = g.stays }
    goes_gone (Step.BeginsChange t v) h c run runs u dir name k only = begins_gone c run runs t v h u dir name k only
    goes_gone (Step.SendsBirths t) h c run runs u dir name k only = born_gone t dir name (gone c run runs u dir name k only)
    goes_gone (Step.Submits draws) h c run runs u dir name k only = same_gone m (after m (Step.Submits draws)) dir name refl refl refl (gone c run runs u dir name k only)
    goes_gone (Step.Concludes d) h c run runs u dir name k only = same_gone m (after m (Step.Concludes d)) dir name refl refl refl (gone c run runs u dir name k only)
    goes_gone (Step.Switches names) h c run runs u dir name k only = same_gone m (after m (Step.Switches names)) dir name refl refl refl (gone c run runs u dir name k only)
    goes_gone (Step.Begins d f kept) h c run runs u dir name k only = same_gone m (after m (Step.Begins d f kept)) dir name refl refl refl (gone c run runs u dir name k only)
    goes_gone (Step.EndsSettling t) h c run runs u dir name k only = same_gone m (after m (Step.EndsSettling t)) dir name refl refl refl (gone c run runs u dir name k only)
    goes_gone (Step.ConfirmsBirths t) h c run runs u dir name k only = same_gone m (after m (Step.ConfirmsBirths t)) dir name refl refl refl (gone c run runs u dir name k only)
    goes_gone (Step.HandsIn t shown) h c run runs u dir name k only = same_gone m (after m (Step.HandsIn t shown)) dir name refl refl refl (gone c run runs u dir name k only)
    goes_gone (Step.Extends d one x next) h c run runs u dir name k only = same_gone m (after m (Step.Extends d one x next)) dir name refl refl refl (gone c run runs u dir name k only)
    goes_gone (Step.Releases d one gfid) h c run runs u dir name k only = same_gone m (after m (Step.Releases d one gfid)) dir name refl refl refl (gone c run runs u dir name k only)
    goes_gone (Step.Learns d one x spans) h c run runs u dir name k only = same_gone m (after m (Step.Learns d one x spans)) dir name refl refl refl (gone c run runs u dir name k only)
    goes_gone (Step.Answers d one answer place) h c run runs u dir name k only = same_gone m (after m (Step.Answers d one answer place)) dir name refl refl refl (gone c run runs u dir name k only)
    goes_gone (Step.AnswersAbove d one answer) h c run runs u dir name k only = same_gone m (after m (Step.AnswersAbove d one answer)) dir name refl refl refl (gone c run runs u dir name k only)

    pub step_gone : (step : Step) → Allowed m step → GoneStand (after m step)
    step_gone step allowed c run runs u dir name k only = by_before (run_before first m reached step c run (run_steps m step allowed c run runs))
      where
        by_before : WasRun m c ⊎ HasNone m c → IsGone (after m step) dir name
        by_before (inl w) = goes_gone step allowed c w.run w.runs u dir name k only
        by_before (inr none) = absurd (none_adopted m step allowed c none u k.by k.adopted)
