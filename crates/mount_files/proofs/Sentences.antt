-- What is so of a name that a set has, and of one that none has.
use Rattle.std.proofs.Common.{◌≡◌, ◌≢◌, ◌⊎◌, inl, inr, ◌∙◌, ℕ, ◌<◌, Bool, true, false, not, ◌||◌, List, [], Option, Some, None, refl, ap, sym, subst}
use Rattle.std.proofs.lemmas.Bool.{or_parts}
use Rattle.dht_fops.specs.Answers.{added, Accepts}
use Rattle.dht_fops.specs.Standing.{Volumes}
use Rattle.fop_types.specs.Cells.{names_cell}
use Rattle.fop_types.specs.Files.{Files, names_at, names_of, new_file, new_directory}
use Rattle.fop_types.specs.Flat.{item_of, with_new}
use Rattle.fop_types.specs.Names.{item_named, is_link, has_real_name}
use Rattle.fop_types.specs.StoreOps.{needs, is_removed, is_taken, is_that_directory, item_in, items_of, fits}
use Rattle.fop_types.specs.declared.cells.Gfid.{Gfid}
use Rattle.fop_types.specs.declared.cells.Kind.{Kind}
use Rattle.fop_types.specs.declared.cells.Kind.TheVariants as kind
use Rattle.fop_types.specs.declared.contents.Item.{Item}
use Rattle.fop_types.specs.declared.history.Entry.{Entry}
use Rattle.fop_types.specs.declared.store_ops.StoreOp.{StoreOp}
use Rattle.fop_types.specs.declared.store_ops.StoreOp.TheVariants as op
use Rattle.mount_files.proofs.Accepting.{added_is, removed_is}
use Rattle.mount_files.proofs.Cells.{number_is}
use Rattle.mount_files.proofs.Families.{taken_some, untaken_by}
use Rattle.mount_files.proofs.Keeping.{both_first, both_second}
use Rattle.mount_files.proofs.Later.{item_again, free_again}
use Rattle.mount_files.proofs.Local.{ShownOf, AllShown, to_local}
use Rattle.mount_files.proofs.Naming.{IsDirectory, directory_made, open_directory, kind_directory}
use Rattle.mount_files.proofs.Ops.{fit_parts, IsThat, that_directory, not_not, shown_item}
use Rattle.mount_files.specs.Pairs.{OpOn, Touches, Removes, Needs, Fits}
use Rattle.mount_files.specs.Seen.{IsHere, NameHere, IsNowhere, NameNowhere}
use Rattle.mount_files.specs.Showing.{ShownIsFlat, FitsNow, Stands}

-- what an op needs of the directories of its names
touched_needs : (o : StoreOp) (e : Option Entry) (dir : Gfid) (name : List ℕ) → Touches o e dir name → Needs (needs o) (names_cell dir)
touched_needs o None dir name t = absurd t
touched_needs (op.Write g offset bytes) (Some entry) dir name t = absurd t
touched_needs (op.Truncate g size) (Some entry) dir name t = absurd t
touched_needs (op.SetMode g mode) (Some entry) dir name t = absurd t
touched_needs (op.SetAttr g attr) (Some entry) dir name t = absurd t
touched_needs (op.DelAttr g n) (Some entry) dir name t = absurd t
touched_needs (op.AddName parent item mode span) (Some entry) dir name t = inl (ap names_cell t.0)
touched_needs (op.DropName parent n) (Some entry) dir name t = inl (ap names_cell t.0)
touched_needs (op.DropDir parent n g) (Some entry) dir name t = subst (λ (x : Gfid). Needs (needs (op.DropDir parent n g)) (names_cell x)) t.0 (both_first parent g)
touched_needs (op.Move parent n target m) (Some entry) dir name (inl t) = subst (λ (x : Gfid). Needs (needs (op.Move parent n target m)) (names_cell x)) t.0 (both_first parent target)
touched_needs (op.Move parent n target m) (Some entry) dir name (inr t) = subst (λ (x : Gfid). Needs (needs (op.Move parent n target m)) (names_cell x)) t.0 (both_second parent target)
touched_needs (op.MakeCopy g span) (Some entry) dir name t = absurd t

removed_needs : (o : StoreOp) (dir : Gfid) → Removes o dir → Needs (needs o) (names_cell dir)
removed_needs (op.Write g offset bytes) dir t = absurd t
removed_needs (op.Truncate g size) dir t = absurd t
removed_needs (op.SetMode g mode) dir t = absurd t
removed_needs (op.SetAttr g attr) dir t = absurd t
removed_needs (op.DelAttr g n) dir t = absurd t
removed_needs (op.AddName parent item mode span) dir t = absurd t
removed_needs (op.DropName parent n) dir t = absurd t
removed_needs (op.DropDir parent n g) dir t = subst (λ (x : Gfid). Needs (needs (op.DropDir parent n g)) (names_cell x)) t (both_second parent g)
removed_needs (op.Move parent n target m) dir t = absurd t
removed_needs (op.MakeCopy g span) dir t = absurd t

module _ (s : Volumes) (count set : ℕ) (dir : Gfid) (name : List ℕ) (item : Item) (flat : ShownIsFlat s count) (made : s.kinds dir ≡ Some kind.Dir) (here : item_in (s.contents set) dir name ≡ Some item) (no_link : is_link item.kind ≡ false) where
  taken : is_taken (item_in (s.contents set) dir name) ≡ true
  taken = ap is_taken here ∙ taken_some item no_link

  shown : item_named (names_at s.files dir) name ≡ Some item
  shown = item_again s count set dir name item (to_local s count flat) (directory_made s count dir (to_local s count flat dir) made) here no_link

  -- the name is not free
  not_free : (d : Gfid) (n : List ℕ) → d ≡ dir → n ≡ name → item_named (names_at s.files d) n ≡ None → ⊥
  not_free d n e f free =
      let none : item_named (names_at s.files dir) name ≡ None = subst (λ (x : Gfid). item_named (names_at s.files x) name ≡ None) e (subst (λ (m : List ℕ). item_named (names_at s.files d) m ≡ None) f free) in
      let some = shown in absurd cc

  -- another set that has the name is this one
  same_set : (x : ℕ) (d : Gfid) (n : List ℕ) → d ≡ dir → n ≡ name → is_taken (item_in (s.contents x) d n) ≡ true → x ≡ set
  same_set x d n e f t = flat.sound.alone dir name x set (subst (λ (y : Gfid). is_taken (item_in (s.contents x) y name) ≡ true) e (subst (λ (m : List ℕ). is_taken (item_in (s.contents x) d m) ≡ true) f t)) taken

  add_no : (parent : Gfid) (i : Item) (mode : ℕ) (k : Kind) → Accepts s.files (added parent i mode k) → parent ≡ dir → i.name ≡ name → ⊥
  add_no parent i mode kind.File a e f = not_free parent i.name e f (added_is s.files parent i.name (with_new s.files parent (item_of i.name i.gfid kind.File) (new_file mode)) a.answer a.after a.accepted).free
  add_no parent i mode kind.Dir a e f = not_free parent i.name e f (added_is s.files parent i.name (with_new s.files parent (item_of i.name i.gfid kind.Dir) (new_directory mode)) a.answer a.after a.accepted).free
  add_no parent i mode kind.Link a e f = absurd a

  that_there : (x : ℕ) (parent : Gfid) (n : List ℕ) (g : Gfid) → fits (s.contents x) (op.DropDir parent n g) ≡ true → IsThat (item_in (s.contents x) parent n) g
  that_there x parent n g fit =
      that_directory (item_in (s.contents x) parent n) g (not_not (is_that_directory (item_in (s.contents x) parent n) g) (or_parts (not (is_that_directory (item_in (s.contents x) parent n) g)) (has_real_name (items_of (s.contents x (names_cell g)))) (fit_parts (s.contents x) (op.DropDir parent n g) fit).1).0)

  on_set : (x : ℕ) (o : StoreOp) (e : Option Entry) → FitsNow s count x o e → Touches o e dir name → x ≡ set
  on_set x o None f t = absurd t
  on_set x (op.Write g offset bytes) (Some entry) f t = absurd t
  on_set x (op.Truncate g size) (Some entry) f t = absurd t
  on_set x (op.SetMode g mode) (Some entry) f t = absurd t
  on_set x (op.SetAttr g attr) (Some entry) f t = absurd t
  on_set x (op.DelAttr g n) (Some entry) f t = absurd t
  on_set x (op.AddName parent i mode span) (Some entry) f t = absurd (add_no parent i mode i.kind f.stands.0 t.0 t.1)
  on_set x (op.DropName parent n) (Some entry) f t = same_set x parent n t.0 t.1 f.stands.1
  on_set x (op.DropDir parent n g) (Some entry) f t =
      let that = that_there x parent n g f.fits_set in
      same_set x parent n t.0 t.1 (ap is_taken that.item_is ∙ taken_some that.item (ap is_link that.is_dir))
  on_set x (op.Move parent n target m) (Some entry) f (inl t) = same_set x parent n t.0 t.1 f.stands.1.0
  on_set x (op.Move parent n target m) (Some entry) f (inr t) = by_set (number_is set x)
    where
      by_set : (set ≡ x) ⊎ (set ≢ x) → x ≡ set
      by_set (inl e) = sym e
      by_set (inr d) =
          let free : is_taken (item_in (s.contents set) dir name) ≡ false = subst (λ (y : Gfid). is_taken (item_in (s.contents set) y name) ≡ false) t.0 (subst (λ (k : List ℕ). is_taken (item_in (s.contents set) target k) ≡ false) t.1 (f.stands.1.1 set d)) in
          let some = taken in absurd cc
  on_set x (op.MakeCopy g span) (Some entry) f t = absurd t

  stays_there : (x : ℕ) (o : StoreOp) (e : Option Entry) → FitsNow s count x o e → Removes o dir → ⊥
  stays_there x (op.Write g offset bytes) e f r = absurd r
  stays_there x (op.Truncate g size) e f r = absurd r
  stays_there x (op.SetMode g mode) e f r = absurd r
  stays_there x (op.SetAttr g attr) e f r = absurd r
  stays_there x (op.DelAttr g n) e f r = absurd r
  stays_there x (op.AddName parent i mode span) e f r = absurd r
  stays_there x (op.DropName parent n) e f r = absurd r
  stays_there x (op.DropDir parent n g) None f r = absurd f.stands
  stays_there x (op.DropDir parent n g) (Some entry) f r =
      let that = that_there x parent n g f.fits_set in
      let w = removed_is s.files parent n f.stands.0.answer f.stands.0.after f.stands.0.accepted in
      let dir_of = open_directory s count parent w.open_at.names w.open_at.mode w.open_at.attrs (to_local s count flat parent) w.open_at.object_is in
      let is = shown_item s count x parent n that.item w.item (to_local s count flat) dir_of.directory that.item_is (ap is_link that.is_dir) w.named in
      let same : w.item.gfid ≡ dir = ap (λ (i : Item). i.gfid) (sym is) ∙ that.gfid_is ∙ r in
      not_free w.item.gfid name same refl (ap (λ (l : List Item). item_named l name) w.empty)
  stays_there x (op.Move parent n target m) e f r = absurd r
  stays_there x (op.MakeCopy g span) e f r = absurd r

  is_here : IsHere s count set dir name item
  is_here = record {
    shown = shown;
    kept = untaken_by (is_removed (s.contents 0 (names_cell dir))) (λ e. let free = flat.sound.empty dir name set e in let some = taken in absurd cc);
    touched = λ o f t. (on_set o.set o.op o.effect f t, touched_needs o.op o.effect dir name t);
    stays = λ o f r. stays_there o.set o.op o.effect f r;
  }

pub name_here : NameHere
name_here s count set dir name item flat made here no_link = is_here s count set dir name item flat made here no_link

pub name_nowhere : NameNowhere
name_nowhere s count dir name flat made none = record {
  absent = free_again s count dir name (to_local s count flat) (directory_made s count dir (to_local s count flat dir) made) free;
  needed = λ o other f t. (f.on_set, by_case o other t);
}
  where
    free : (x : ℕ) → is_taken (item_in (s.contents x) dir name) ≡ false
    free x = untaken_by (is_taken (item_in (s.contents x) dir name)) (λ e. let no_name = none x (flat.within dir name x e) in absurd cc)

    by_case : (o : OpOn) (other : List ℕ) → Touches o.op o.effect dir other ⊎ Removes o.op dir → Needs (needs o.op) (names_cell dir)
    by_case o other (inl t) = touched_needs o.op o.effect dir other t
    by_case o other (inr r) = removed_needs o.op dir r
