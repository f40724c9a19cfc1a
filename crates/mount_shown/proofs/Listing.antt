-- Only directories that were made have names; and an op that fits keeps that.
use Rattle.std.proofs.Common.{◌≡◌, ◌≢◌, ◌⊎◌, inl, inr, ◌∙◌, ℕ, Bool, true, false, ◌||◌, refl, sym, ap, subst, List, [], ◌∷◌, Option, Some, None, if◌then◌else◌, is_none}
use Rattle.std.proofs.lemmas.Bool.{or_parts}
use Rattle.std.specs.Ordering.{is_eq}
use Rattle.afr_machine.specs.Replicas.{with_at}
use Rattle.dht_fops.specs.Shown.{SetContents}
use Rattle.dht_fops.specs.Standing.{Volumes}
use Rattle.fop_types.specs.Cells.{names_cell}
use Rattle.fop_types.specs.Files.{object_at}
use Rattle.fop_types.specs.Names.{item_named, is_same_name}
use Rattle.fop_types.specs.Orders.{gfid_cmp}
use Rattle.fop_types.specs.StoreOps.{Contents, items_of, item_in, is_removed, is_directory_item, fits}
use Rattle.fop_types.specs.declared.cells.Gfid.{Gfid}
use Rattle.fop_types.specs.declared.cells.Kind.{Kind}
use Rattle.fop_types.specs.declared.cells.Kind.TheVariants as kind
use Rattle.fop_types.specs.declared.contents.Item.{Item}
use Rattle.fop_types.specs.declared.history.Entry.{Entry}
use Rattle.fop_types.specs.declared.store_ops.StoreOp.{StoreOp}
use Rattle.fop_types.specs.declared.store_ops.StoreOp.TheVariants as op
use Rattle.mount_files.proofs.Accepting.{IsOpen, moved_is}
use Rattle.mount_files.proofs.Cells.{number_is, set_here, set_off}
use Rattle.mount_files.proofs.Local.{to_local, gfid_is}
use Rattle.mount_files.proofs.Naming.{open_directory}
use Rattle.mount_files.proofs.Ops.{fit_parts}
use Rattle.mount_files.proofs.Rises.{same_self}
use Rattle.mount_files.specs.Pairs.{TouchesBy}
use Rattle.mount_files.specs.Showing.{ShownIsFlat, FitsNow, Stands, after_op}
use Rattle.mount_laws.specs.Steps.{applied}
use Rattle.mount_laws.proofs.Releasing.{gfids_are}
use Rattle.mount_shown.proofs.Editing.{applied_item, that_there}
use Rattle.mount_shown.proofs.First.{open_add}

abbrev pub NamesOfDirs : (Gfid → Option Kind) → SetContents → Type 0
NamesOfDirs kinds contents = (g : Gfid) (set : ℕ) → (items_of (contents set (names_cell g)) ≡ []) ⊎ (kinds g ≡ Some kind.Dir)

-- ---- objects that were made

-- an object that was made keeps its kind
pub kind_grows : (s : Volumes) (set : ℕ) (o : StoreOp) (e : Option Entry) → Stands s set o e → (g : Gfid) (k : Kind) → s.kinds g ≡ Some k → (after_op s set o e).kinds g ≡ Some k
kind_grows s set o None st g k is = is
kind_grows s set (op.AddName parent item mode span) (Some entry) st g k is = by_same (is_eq (gfid_cmp g item.gfid)) refl
  where
    by_same : (b : Bool) → is_eq (gfid_cmp g item.gfid) ≡ b → (if b then Some item.kind else s.kinds g) ≡ Some k
    by_same true e = let clash : ◌≡◌ {A = Option Kind} None (Some k) = sym st.1.unmade ∙ sym (ap s.kinds (gfids_are g item.gfid e)) ∙ is in absurd cc
    by_same false e = is
kind_grows s set (op.Write gfid offset bytes) (Some entry) st g k is = is
kind_grows s set (op.Truncate gfid size) (Some entry) st g k is = is
kind_grows s set (op.SetMode gfid mode) (Some entry) st g k is = is
kind_grows s set (op.SetAttr gfid attr) (Some entry) st g k is = is
kind_grows s set (op.DelAttr gfid name) (Some entry) st g k is = is
kind_grows s set (op.DropName parent name) (Some entry) st g k is = is
kind_grows s set (op.DropDir parent name gfid) (Some entry) st g k is = is
kind_grows s set (op.Move parent name target new_name) (Some entry) st g k is = is
kind_grows s set (op.MakeCopy gfid span) (Some entry) st g k is = is

-- ---- directories whose names an op changes

pub record TouchesIn (o : StoreOp) (g : Gfid) : Type 0 where
  pub name : List ℕ
  pub by : TouchesBy o g name

touch_in : (o : StoreOp) (g : Gfid) → TouchesIn o g ⊎ ((name : List ℕ) → TouchesBy o g name → ⊥)
touch_in (op.Write x offset bytes) g = inr (λ name k. k)
touch_in (op.Truncate x size) g = inr (λ name k. k)
touch_in (op.SetMode x mode) g = inr (λ name k. k)
touch_in (op.SetAttr x attr) g = inr (λ name k. k)
touch_in (op.DelAttr x n) g = inr (λ name k. k)
touch_in (op.AddName parent item mode span) g = by_dir (gfid_is parent g)
  where
    by_dir : (parent ≡ g) ⊎ (parent ≢ g) → TouchesIn (op.AddName parent item mode span) g ⊎ ((name : List ℕ) → TouchesBy (op.AddName parent item mode span) g name → ⊥)
    by_dir (inl e) = inl (record { name = item.name; by = (e, refl) })
    by_dir (inr off) = inr (λ name k. off k.0)
touch_in (op.DropName parent n) g = by_dir (gfid_is parent g)
  where
    by_dir : (parent ≡ g) ⊎ (parent ≢ g) → TouchesIn (op.DropName parent n) g ⊎ ((name : List ℕ) → TouchesBy (op.DropName parent n) g name → ⊥)
    by_dir (inl e) = inl (record { name = n; by = (e, refl) })
    by_dir (inr off) = inr (λ name k. off k.0)
touch_in (op.DropDir parent n x) g = by_dir (gfid_is parent g)
  where
    by_dir : (parent ≡ g) ⊎ (parent ≢ g) → TouchesIn (op.DropDir parent n x) g ⊎ ((name : List ℕ) → TouchesBy (op.DropDir parent n x) g name → ⊥)
    by_dir (inl e) = inl (record { name = n; by = (e, refl) })
    by_dir (inr off) = inr (λ name k. off k.0)
touch_in (op.Move parent n target m) g = by_dir (gfid_is parent g) (gfid_is target g)
  where
    by_dir : (parent ≡ g) ⊎ (parent ≢ g) → (target ≡ g) ⊎ (target ≢ g) → TouchesIn (op.Move parent n target m) g ⊎ ((name : List ℕ) → TouchesBy (op.Move parent n target m) g name → ⊥)
    by_dir (inl e) y = inl (record { name = n; by = inl (e, refl) })
    by_dir (inr off) (inl e) = inl (record { name = m; by = inr (e, refl) })
    by_dir (inr off) (inr no_target) = inr (λ name k. either name k)
      where
        either : (name : List ℕ) → TouchesBy (op.Move parent n target m) g name → ⊥
        either name (inl k) = off k.0
        either name (inr k) = no_target k.0
touch_in (op.MakeCopy x span) g = inr (λ name k. k)

pub no_names : (items : List Item) → ((name : List ℕ) → item_named items name ≡ None) → items ≡ []
no_names [] none = refl
no_names (item ∷ items) none =
    let first_is : item_named (item ∷ items) item.name ≡ Some item = ap (λ (b : Bool). if b then Some item else item_named items item.name) (same_self item.name) in
    let clash : ◌≡◌ {A = Option Item} None (Some item) = sym (none item.name) ∙ first_is in absurd cc

module _ (s : Volumes) (count set : ℕ) (flat : ShownIsFlat s count) where
  open_kind : (dir : Gfid) (name : List ℕ) → IsOpen (object_at s.files dir) name → s.kinds dir ≡ Some kind.Dir
  open_kind dir name w = (open_directory s count dir w.names w.mode w.attrs (to_local s count flat dir) w.object_is).directory.kind_is

  -- an op that changes a directory's names, where the set has none of them
  touched_made : (o : StoreOp) (e : Option Entry) → fits (s.contents set) o ≡ true → Stands s set o e → (g : Gfid) (name : List ℕ) → items_of (s.contents set (names_cell g)) ≡ [] → TouchesBy o g name → s.kinds g ≡ Some kind.Dir
  touched_made (op.AddName parent item mode span) (Some entry) fit st g name none k = subst (λ (x : Gfid). s.kinds x ≡ Some kind.Dir) k.0 (open_kind parent item.name (open_add s.files parent item mode item.kind st.0))
  touched_made (op.AddName parent item mode span) None fit st g name none k = subst (λ (x : Gfid). s.kinds x ≡ Some kind.Dir) k.0 st.1
  touched_made (op.DropName parent n) e fit st g name none k =
      let no_item : item_in (s.contents set) parent n ≡ None = ap (λ (x : Gfid). item_in (s.contents set) x n) k.0 ∙ ap (λ (l : List Item). item_named l n) none in
      let clash : true ≡ false = sym (ap (λ (x : Option Item). is_none x) no_item) ∙ (fit_parts (s.contents set) (op.DropName parent n) fit).1 in absurd cc
  touched_made (op.DropDir parent n x) e fit st g name none k =
      let that = that_there (s.contents set) parent n x fit in
      let no_item : item_in (s.contents set) parent n ≡ None = ap (λ (y : Gfid). item_in (s.contents set) y n) k.0 ∙ ap (λ (l : List Item). item_named l n) none in
      let clash : ◌≡◌ {A = Option Item} None (Some that.item) = sym no_item ∙ that.item_is in absurd cc
  touched_made (op.Move parent n target m) e fit st g name none (inl k) =
      let no_item : item_in (s.contents set) parent n ≡ None = ap (λ (x : Gfid). item_in (s.contents set) x n) k.0 ∙ ap (λ (l : List Item). item_named l n) none in
      let unfit = (fit_parts (s.contents set) (op.Move parent n target m) fit).1 in
      let outer = or_parts (is_none (item_in (s.contents set) parent n) || is_removed (s.contents set (names_cell target))) (is_directory_item (item_in (s.contents set) target m) || is_same_name parent n target m) unfit in
      let there = (or_parts (is_none (item_in (s.contents set) parent n)) (is_removed (s.contents set (names_cell target))) outer.0).0 in
      let clash : true ≡ false = sym (ap (λ (x : Option Item). is_none x) no_item) ∙ there in absurd cc
  touched_made (op.Move parent n target m) None fit st g name none (inr k) = absurd st
  touched_made (op.Move parent n target m) (Some entry) fit st g name none (inr k) =
      let w = moved_is s.files parent n target m st.0.answer st.0.after st.0.accepted in
      subst (λ (x : Gfid). s.kinds x ≡ Some kind.Dir) k.0 (open_kind target m w.target_open)
  touched_made (op.Write x offset bytes) e fit st g name none k = absurd k
  touched_made (op.Truncate x size) e fit st g name none k = absurd k
  touched_made (op.SetMode x mode) e fit st g name none k = absurd k
  touched_made (op.SetAttr x attr) e fit st g name none k = absurd k
  touched_made (op.DelAttr x n) e fit st g name none k = absurd k
  touched_made (op.MakeCopy x span) e fit st g name none k = absurd k

  pub op_dirs : (o : StoreOp) (e : Option Entry) → FitsNow s count set o e → NamesOfDirs s.kinds s.contents → NamesOfDirs (after_op s set o e).kinds (after_op s set o e).contents
  op_dirs o e f a g x = by_old (a g x)
    where
      stays : items_of (s.contents x (names_cell g)) ≡ [] → (x ≡ set) → TouchesIn o g ⊎ ((name : List ℕ) → TouchesBy o g name → ⊥) → (items_of (applied (s.contents set) o (names_cell g)) ≡ []) ⊎ ((after_op s set o e).kinds g ≡ Some kind.Dir)
      stays none same_set (inl k) = inr (kind_grows s set o e f.stands g kind.Dir (touched_made o e f.fits_set f.stands g k.name (subst (λ (y : ℕ). items_of (s.contents y (names_cell g)) ≡ []) same_set none) k.by))
      stays none same_set (inr off) =
          inl (no_names (items_of (applied (s.contents set) o (names_cell g)))
          (λ name. applied_item (s.contents set) o g name (off name) ∙ ap (λ (l : List Item). item_named l name) (subst (λ (y : ℕ). items_of (s.contents y (names_cell g)) ≡ []) same_set none)))

      by_set : items_of (s.contents x (names_cell g)) ≡ [] → (x ≡ set) ⊎ (x ≢ set) → (items_of (with_at s.contents set (applied (s.contents set) o) x (names_cell g)) ≡ []) ⊎ ((after_op s set o e).kinds g ≡ Some kind.Dir)
      by_set none (inr differ) = inl (ap (λ (c : Contents). items_of (c (names_cell g))) (set_off s.contents set x (applied (s.contents set) o) differ) ∙ none)
      by_set none (inl same_set) = here (stays none same_set (touch_in o g))
        where
          here : (items_of (applied (s.contents set) o (names_cell g)) ≡ []) ⊎ ((after_op s set o e).kinds g ≡ Some kind.Dir) → (items_of (with_at s.contents set (applied (s.contents set) o) x (names_cell g)) ≡ []) ⊎ ((after_op s set o e).kinds g ≡ Some kind.Dir)
          here (inr k) = inr k
          here (inl k) = inl (subst (λ (y : ℕ). items_of (with_at s.contents set (applied (s.contents set) o) y (names_cell g)) ≡ []) (sym same_set) (ap (λ (c : Contents). items_of (c (names_cell g))) (set_here s.contents set (applied (s.contents set) o)) ∙ k))

      by_old : (items_of (s.contents x (names_cell g)) ≡ []) ⊎ (s.kinds g ≡ Some kind.Dir) → (items_of ((after_op s set o e).contents x (names_cell g)) ≡ []) ⊎ ((after_op s set o e).kinds g ≡ Some kind.Dir)
      by_old (inl none) = by_set none (number_is x set)
      by_old (inr k) = inr (kind_grows s set o e f.stands g kind.Dir k)

-- a directory that has a name was made
pub has_name_made : (kinds : Gfid → Option Kind) (contents : SetContents) → NamesOfDirs kinds contents → (set : ℕ) (dir : Gfid) (name : List ℕ) (item : Item) → item_in (contents set) dir name ≡ Some item → kinds dir ≡ Some kind.Dir
has_name_made kinds contents a set dir name item e = by_old (a dir set)
  where
    by_old : (items_of (contents set (names_cell dir)) ≡ []) ⊎ (kinds dir ≡ Some kind.Dir) → kinds dir ≡ Some kind.Dir
    by_old (inl none) = let clash : ◌≡◌ {A = Option Item} None (Some item) = sym (ap (λ (l : List Item). item_named l name) none) ∙ e in absurd cc
    by_old (inr k) = k
