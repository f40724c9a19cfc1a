-- What an op that fits leaves of a name on a set: an item that it does not name, a file's or directory's name that it does not touch,
-- and a link that it does not make anew.
use Rattle.std.proofs.Common.{◌≡◌, ◌≢◌, ◌⊎◌, inl, inr, ◌∙◌, ℕ, Bool, true, false, not, refl, sym, ap, subst, List, [], ◌∷◌, Option, Some, None, if◌then◌else◌}
use Rattle.std.proofs.lemmas.Bool.{or_parts}
use Rattle.std.specs.Ordering.{is_eq}
use Rattle.afr_machine.specs.Replicas.{with_at}
use Rattle.dht_fops.specs.Standing.{Volumes}
use Rattle.fop_types.specs.Bounds.{Each}
use Rattle.fop_types.specs.Cells.{names_cell}
use Rattle.fop_types.specs.Names.{item_named, without_item, is_link, has_real_name}
use Rattle.fop_types.specs.Orders.{cell_cmp}
use Rattle.fop_types.specs.StoreOps.{Contents, Edit, items_of, item_in, is_removed, is_taken, is_that_directory, births, edits, after_edits, edited_if_present, moved_in, with_content, contents_after, fits}
use Rattle.fop_types.specs.StoreOps.Edit.{PutBytes, Resize, PutMode, PutAttr, DropAttr, PutItem, DropItem, MarkRemoved}
use Rattle.fop_types.specs.declared.cells.Cell.{Cell}
use Rattle.fop_types.specs.declared.cells.Gfid.{Gfid}
use Rattle.fop_types.specs.declared.contents.Content.{Content}
use Rattle.fop_types.specs.declared.contents.Content.TheVariants.{Bytes, Meta, Names}
use Rattle.fop_types.specs.declared.contents.Item.{Item}
use Rattle.fop_types.specs.declared.history.Entry.{Entry}
use Rattle.fop_types.specs.declared.store_ops.StoreOp.{StoreOp}
use Rattle.fop_types.specs.declared.store_ops.StoreOp.TheVariants as op
use Rattle.mount_files.proofs.Cells.{number_is, set_here, set_off}
use Rattle.mount_files.proofs.Families.{taken_some}
use Rattle.mount_files.proofs.Local.{gfid_is}
use Rattle.mount_files.proofs.Ops.{cell_is, fit_parts, IsThat, that_directory, not_not}
use Rattle.mount_files.proofs.Rises.{same, same_is, same_self, not_same, named_with}
use Rattle.mount_files.specs.Pairs.{Touches, TouchesBy}
use Rattle.mount_files.specs.Showing.{FitsNow, Stands, after_op}
use Rattle.mount_laws.specs.Settling.{StaysOrBorn}
use Rattle.mount_laws.specs.Steps.{applied}
use Rattle.mount_laws.proofs.Contents.{births_have_none, births_leave}

-- ---- one edit

without_off : (items : List Item) (n m : List ℕ) → same n m ≡ false → item_named (without_item items n) m ≡ item_named items m
without_off [] n m off = refl
without_off (item ∷ items) n m off = by_case (same item.name n) refl (without_off items n m off)
  where
    by_case : (b : Bool) → same item.name n ≡ b → item_named (without_item items n) m ≡ item_named items m → item_named (if b then items else item ∷ without_item items n) m ≡ item_named (item ∷ items) m
    by_case true e rest = sym (ap (λ (b : Bool). if b then Some item else item_named items m) (subst (λ (k : List ℕ). same k m ≡ false) (sym (same_is item.name n e)) off))
    by_case false e rest = ap (λ (x : Option Item). if same item.name m then Some item else x) rest

abbrev KeepsItem : List ℕ → Edit → Type 0
KeepsItem name (PutItem item) = same item.name name ≡ false
KeepsItem name (DropItem n) = same n name ≡ false
KeepsItem name other = Unit {0}

edit_item : (name : List ℕ) (e : Edit) (c : Option Content) → KeepsItem name e → item_named (items_of (edited_if_present e c)) name ≡ item_named (items_of c) name
edit_item name e None k = refl
edit_item name (PutBytes offset bytes) (Some (Bytes b)) k = refl
edit_item name (PutBytes offset bytes) (Some (Meta mode attrs span)) k = refl
edit_item name (PutBytes offset bytes) (Some (Names removed items)) k = refl
edit_item name (Resize size) (Some (Bytes b)) k = refl
edit_item name (Resize size) (Some (Meta mode attrs span)) k = refl
edit_item name (Resize size) (Some (Names removed items)) k = refl
edit_item name (PutMode new) (Some (Bytes b)) k = refl
edit_item name (PutMode new) (Some (Meta mode attrs span)) k = refl
edit_item name (PutMode new) (Some (Names removed items)) k = refl
edit_item name (PutAttr attr) (Some (Bytes b)) k = refl
edit_item name (PutAttr attr) (Some (Meta mode attrs span)) k = refl
edit_item name (PutAttr attr) (Some (Names removed items)) k = refl
edit_item name (DropAttr n) (Some (Bytes b)) k = refl
edit_item name (DropAttr n) (Some (Meta mode attrs span)) k = refl
edit_item name (DropAttr n) (Some (Names removed items)) k = refl
edit_item name (PutItem item) (Some (Bytes b)) k = refl
edit_item name (PutItem item) (Some (Meta mode attrs span)) k = refl
edit_item name (PutItem item) (Some (Names removed items)) k = named_with items item name ∙ ap (λ (b : Bool). if b then Some item else item_named items name) k
edit_item name (DropItem n) (Some (Bytes b)) k = refl
edit_item name (DropItem n) (Some (Meta mode attrs span)) k = refl
edit_item name (DropItem n) (Some (Names removed items)) k = without_off items n name k
edit_item name MarkRemoved (Some (Bytes b)) k = refl
edit_item name MarkRemoved (Some (Meta mode attrs span)) k = refl
edit_item name MarkRemoved (Some (Names removed items)) k = refl

edits_item : (name : List ℕ) (cell : Cell) (es : List (Cell × Edit)) (contents : Contents) → Each (λ (e : Cell × Edit). cell ≡ e.0 → KeepsItem name e.1) es → item_named (items_of (after_edits contents es cell)) name ≡ item_named (items_of (contents cell)) name
edits_item name cell [] contents keep = refl
edits_item name cell (e ∷ es) contents keep = edits_item name cell es (with_content contents e.0 (edited_if_present e.1 (contents e.0))) keep.1 ∙ by_case (is_eq (cell_cmp cell e.0)) refl
  where
    by_case : (b : Bool) → is_eq (cell_cmp cell e.0) ≡ b → item_named (items_of (if b then edited_if_present e.1 (contents e.0) else contents cell)) name ≡ item_named (items_of (contents cell)) name
    by_case true f = let at = cell_is cell e.0 f in edit_item name e.1 (contents e.0) (keep.0 at) ∙ ap (λ (c : Cell). item_named (items_of (contents c)) name) (sym at)
    by_case false f = refl

-- ---- an op

same_dir : (a b : Gfid) → names_cell a ≡ names_cell b → b ≡ a
same_dir a b e = ap (λ (c : Cell). c.gfid) (sym e)

keeps : (contents : Contents) (o : StoreOp) (dir : Gfid) (name : List ℕ) → (TouchesBy o dir name → ⊥) → Each (λ (e : Cell × Edit). names_cell dir ≡ e.0 → KeepsItem name e.1) (edits contents o)
keeps contents (op.Write g offset bytes) dir name off = (λ e. tt, tt)
keeps contents (op.Truncate g size) dir name off = (λ e. tt, tt)
keeps contents (op.SetMode g mode) dir name off = (λ e. tt, tt)
keeps contents (op.SetAttr g attr) dir name off = (λ e. tt, tt)
keeps contents (op.DelAttr g n) dir name off = (λ e. tt, tt)
keeps contents (op.AddName parent item mode span) dir name off = (λ e. not_same item.name name (λ n. off (same_dir dir parent e, n)), tt)
keeps contents (op.DropName parent n) dir name off = (λ e. not_same n name (λ k. off (same_dir dir parent e, k)), tt)
keeps contents (op.DropDir parent n g) dir name off = (λ e. not_same n name (λ k. off (same_dir dir parent e, k)), (λ e. tt, tt))
keeps contents (op.Move parent n target m) dir name off = (λ e. not_same n name (λ k. off (inl (same_dir dir parent e, k))), moved (item_in contents parent n))
  where
    moved : (item : Option Item) → Each (λ (e : Cell × Edit). names_cell dir ≡ e.0 → KeepsItem name e.1) (moved_in item target m)
    moved None = tt
    moved (Some item) = (λ e. not_same m name (λ k. off (inr (same_dir dir target e, k))), tt)
keeps contents (op.MakeCopy g span) dir name off = tt

born_item : (name : List ℕ) (old new : Option Content) → StaysOrBorn old new → item_named (items_of new) name ≡ item_named (items_of old) name
born_item name old new (inl e) = ap (λ (c : Option Content). item_named (items_of c) name) e
born_item name old new (inr g) = ap (λ (l : List Item). item_named l name) g.1.none ∙ sym (ap (λ (c : Option Content). item_named (items_of c) name) g.0)

-- an item that the op does not name is the same after it
pub kept_item : (contents : Contents) (o : StoreOp) (dir : Gfid) (name : List ℕ) → (TouchesBy o dir name → ⊥) → item_in (contents_after contents o) dir name ≡ item_in contents dir name
kept_item contents o dir name off =
    born_item name (after_edits contents (edits contents o) (names_cell dir)) (contents_after contents o (names_cell dir)) (births_leave (births o) (after_edits contents (edits contents o)) (names_cell dir) (births_have_none o))
    ∙ edits_item name (names_cell dir) (edits contents o) contents (keeps contents o dir name off)

pub applied_item : (contents : Contents) (o : StoreOp) (dir : Gfid) (name : List ℕ) → (TouchesBy o dir name → ⊥) → item_in (applied contents o) dir name ≡ item_in contents dir name
applied_item contents o dir name off = by_case (fits contents o)
  where
    by_case : (b : Bool) → item_in (if b then contents_after contents o else contents) dir name ≡ item_in contents dir name
    by_case true = kept_item contents o dir name off
    by_case false = refl

-- ---- whether an op names it

name_is : (d : Gfid) (n : List ℕ) (dir : Gfid) (name : List ℕ) → ((d ≡ dir) × (n ≡ name)) ⊎ ((d ≡ dir) × (n ≡ name) → ⊥)
name_is d n dir name = by_dir (gfid_is d dir)
  where
    by_name : d ≡ dir → (b : Bool) → same n name ≡ b → ((d ≡ dir) × (n ≡ name)) ⊎ ((d ≡ dir) × (n ≡ name) → ⊥)
    by_name e true f = inl (e, same_is n name f)
    by_name e false f = inr (λ k. let yes : same n name ≡ true = subst (λ (l : List ℕ). same n l ≡ true) k.1 (same_self n) in absurd cc)

    by_dir : (d ≡ dir) ⊎ (d ≢ dir) → ((d ≡ dir) × (n ≡ name)) ⊎ ((d ≡ dir) × (n ≡ name) → ⊥)
    by_dir (inl e) = by_name e (same n name) refl
    by_dir (inr off) = inr (λ k. off k.0)

pub touch_is : (o : StoreOp) (dir : Gfid) (name : List ℕ) → TouchesBy o dir name ⊎ (TouchesBy o dir name → ⊥)
touch_is (op.Write g offset bytes) dir name = inr (λ k. k)
touch_is (op.Truncate g size) dir name = inr (λ k. k)
touch_is (op.SetMode g mode) dir name = inr (λ k. k)
touch_is (op.SetAttr g attr) dir name = inr (λ k. k)
touch_is (op.DelAttr g n) dir name = inr (λ k. k)
touch_is (op.AddName parent item mode span) dir name = name_is parent item.name dir name
touch_is (op.DropName parent n) dir name = name_is parent n dir name
touch_is (op.DropDir parent n g) dir name = name_is parent n dir name
touch_is (op.Move parent n target m) dir name = by_case (name_is parent n dir name) (name_is target m dir name)
  where
    by_case : ((parent ≡ dir) × (n ≡ name)) ⊎ ((parent ≡ dir) × (n ≡ name) → ⊥) → ((target ≡ dir) × (m ≡ name)) ⊎ ((target ≡ dir) × (m ≡ name) → ⊥)
        → TouchesBy (op.Move parent n target m) dir name ⊎ (TouchesBy (op.Move parent n target m) dir name → ⊥)
    by_case (inl k) y = inl (inl k)
    by_case (inr off) (inl k) = inl (inr k)
    by_case (inr off) (inr no_target) = inr (λ k. either k)
      where
        either : TouchesBy (op.Move parent n target m) dir name → ⊥
        either (inl k) = off k
        either (inr k) = no_target k
touch_is (op.MakeCopy g span) dir name = inr (λ k. k)

-- ---- names that stay

-- the item of a name, by another name that is the same
at_name : (contents : Contents) (d : Gfid) (n : List ℕ) (dir : Gfid) (name : List ℕ) → (d ≡ dir) × (n ≡ name) → item_in contents d n ≡ item_in contents dir name
at_name contents d n dir name k = ap (λ (g : Gfid). item_in contents g n) k.0 ∙ ap (λ (l : List ℕ). item_in contents dir l) k.1

pub that_there : (contents : Contents) (parent : Gfid) (n : List ℕ) (g : Gfid) → fits contents (op.DropDir parent n g) ≡ true → IsThat (item_in contents parent n) g
that_there contents parent n g fit =
    that_directory (item_in contents parent n) g (not_not (is_that_directory (item_in contents parent n) g) (or_parts (not (is_that_directory (item_in contents parent n) g)) (has_real_name (items_of (contents (names_cell g)))) (fit_parts contents (op.DropDir parent n g) fit).1).0)

module _ (s : Volumes) (count set : ℕ) (o : StoreOp) (e : Option Entry) (f : FitsNow s count set o e) (x : ℕ) (dir : Gfid) (name : List ℕ) where
  -- on another set, or not named
  pub same_else : (x ≡ set → TouchesBy o dir name → ⊥) → item_in ((after_op s set o e).contents x) dir name ≡ item_in (s.contents x) dir name
  same_else off = by_set (number_is x set)
    where
      by_set : (x ≡ set) ⊎ (x ≢ set) → item_in (with_at s.contents set (applied (s.contents set) o) x) dir name ≡ item_in (s.contents x) dir name
      by_set (inl same_set) =
          subst (λ (y : ℕ). item_in (with_at s.contents set (applied (s.contents set) o) y) dir name ≡ item_in (s.contents y) dir name) (sym same_set)
          (ap (λ (c : Contents). item_in c dir name) (set_here s.contents set (applied (s.contents set) o)) ∙ applied_item (s.contents set) o dir name (off same_set))
      by_set (inr differ) = ap (λ (c : Contents). item_in c dir name) (set_off s.contents set x (applied (s.contents set) o) differ)

  -- a file's or directory's name that the op does not touch
  pub real_stays : (item : Item) → item_in (s.contents x) dir name ≡ Some item → is_link item.kind ≡ false → (Touches o e dir name → ⊥) → item_in ((after_op s set o e).contents x) dir name ≡ Some item
  real_stays item is real off = same_else (λ same_set k. not_named e f.stands (subst (λ (y : ℕ). is_taken (item_in (s.contents y) dir name) ≡ true) same_set (ap is_taken is ∙ taken_some item real)) off k) ∙ is
    where
      by_op : (p : StoreOp) → fits (s.contents set) p ≡ true → Stands s set p None → is_taken (item_in (s.contents set) dir name) ≡ true → TouchesBy p dir name → ⊥
      by_op (op.AddName parent one mode span) fit st taken k =
          let no_taken = (or_parts (is_removed (s.contents set (names_cell parent))) (is_taken (item_in (s.contents set) parent one.name)) (fit_parts (s.contents set) (op.AddName parent one mode span) fit).1).1 in
          let clash : true ≡ false = sym taken ∙ sym (ap is_taken (at_name (s.contents set) parent one.name dir name k)) ∙ no_taken in absurd cc
      by_op (op.DropName parent n) fit st taken k = let clash : true ≡ false = sym taken ∙ sym (ap is_taken (at_name (s.contents set) parent n dir name k)) ∙ st in absurd cc
      by_op (op.DropDir parent n g) fit st taken k = st
      by_op (op.Move parent n target m) fit st taken k = st
      by_op (op.Write g offset bytes) fit st taken k = k
      by_op (op.Truncate g size) fit st taken k = k
      by_op (op.SetMode g mode) fit st taken k = k
      by_op (op.SetAttr g attr) fit st taken k = k
      by_op (op.DelAttr g n) fit st taken k = k
      by_op (op.MakeCopy g span) fit st taken k = k

      not_named : (effect : Option Entry) → Stands s set o effect → is_taken (item_in (s.contents set) dir name) ≡ true → (Touches o effect dir name → ⊥) → TouchesBy o dir name → ⊥
      not_named None st taken no_touch k = by_op o f.fits_set st taken k
      not_named (Some entry) st taken no_touch k = no_touch k

-- the op makes a link of the name anew, or drops it
abbrev pub Relinks : StoreOp → Option Entry → Gfid → List ℕ → Type 0
Relinks (op.AddName parent item mode span) e dir name = (parent ≡ dir) × (item.name ≡ name)
Relinks (op.Move parent one target another) e dir name = (target ≡ dir) × (another ≡ name)
Relinks (op.DropName parent one) e dir name = (e ≡ None) × ((parent ≡ dir) × (one ≡ name))
Relinks other e dir name = ⊥

module _ (s : Volumes) (count set : ℕ) (o : StoreOp) (e : Option Entry) (f : FitsNow s count set o e) (x : ℕ) (dir : Gfid) (name : List ℕ) where
  pub link_stays : (item : Item) → item_in (s.contents x) dir name ≡ Some item → is_link item.kind ≡ true → (x ≡ set → Relinks o e dir name → ⊥) → item_in ((after_op s set o e).contents x) dir name ≡ Some item
  link_stays item is link off = same_else s count set o e f x dir name (λ same_set k. not_named o e f.fits_set f.stands (subst (λ (y : ℕ). item_in (s.contents y) dir name ≡ Some item) same_set is) (off same_set) k) ∙ is
    where
      no_taken : (d : Gfid) (n : List ℕ) → item_in (s.contents set) dir name ≡ Some item → (d ≡ dir) × (n ≡ name) → is_taken (item_in (s.contents set) d n) ≡ true → ⊥
      no_taken d n here k taken =
          let clash : true ≡ false = sym taken ∙ ap is_taken (at_name (s.contents set) d n dir name k ∙ here) ∙ ap not link in absurd cc

      not_named : (p : StoreOp) (effect : Option Entry) → fits (s.contents set) p ≡ true → Stands s set p effect → item_in (s.contents set) dir name ≡ Some item → (Relinks p effect dir name → ⊥) → TouchesBy p dir name → ⊥
      not_named (op.AddName parent one mode span) effect fit st here no_link k = no_link k
      not_named (op.DropName parent n) None fit st here no_link k = no_link (refl, k)
      not_named (op.DropName parent n) (Some entry) fit st here no_link k = no_taken parent n here k st.1
      not_named (op.DropDir parent n g) None fit st here no_link k = st
      not_named (op.DropDir parent n g) (Some entry) fit st here no_link k = let that = that_there (s.contents set) parent n g fit in no_taken parent n here k (ap is_taken that.item_is ∙ taken_some that.item (ap is_link that.is_dir))
      not_named (op.Move parent n target m) None fit st here no_link k = st
      not_named (op.Move parent n target m) (Some entry) fit st here no_link (inl k) = no_taken parent n here k st.1.0
      not_named (op.Move parent n target m) (Some entry) fit st here no_link (inr k) = no_link k
      not_named (op.Write g offset bytes) effect fit st here no_link k = k
      not_named (op.Truncate g size) effect fit st here no_link k = k
      not_named (op.SetMode g mode) effect fit st here no_link k = k
      not_named (op.SetAttr g attr) effect fit st here no_link k = k
      not_named (op.DelAttr g n) effect fit st here no_link k = k
      not_named (op.MakeCopy g span) effect fit st here no_link k = k
