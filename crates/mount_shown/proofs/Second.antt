-- A rename's move begins well after its part 1, the unlink of a file of the new name on another set.
use Rattle.std.proofs.Common.{◌≡◌, ◌≢◌, ◌⊎◌, inl, inr, ◌∙◌, ℕ, ◌<◌, ◌≤◌, Bool, true, false, ◌&&◌, nat_lt, refl, sym, ap, subst, List, [], ◌∷◌, length, Option, Some, None, IfSome, if◌then◌else◌, Result, Ok, nat_eq, arith}
use Rattle.std.proofs.lemmas.Bool.{ltb-true}
use Rattle.std.specs.Cmp.Lexicographic.{pointwise}
use Rattle.std.specs.Ordering.{is_eq}
use Rattle.afr_machine.specs.Changes.Verdict.{Undrawn}
use Rattle.dht_fops.proofs.Bounds.{answers_bounded}
use Rattle.dht_fops.specs.Answers.{change_of, flat_op, added}
use Rattle.dht_fops.specs.Founded.{SawMovable}
use Rattle.dht_fops.specs.Handed.{Handed, Event, AnyHold, AnyAnswer, HaveBounds, IsBounded, Saw, IsNamesOf, SawName}
use Rattle.dht_fops.specs.Handed.Event.{Replied, Held}
use Rattle.dht_fops.specs.Standing.{HaveNoEffect}
use Rattle.dht_linkto.specs.DirNames.{names_shown, names_in, first_content}
use Rattle.dht_linkto.specs.declared.names.DirNames.{DirNames}
use Rattle.fop_types.specs.Bounds.{Each, IsItem, IsContent}
use Rattle.fop_types.specs.Flat.{name_limit}
use Rattle.fop_types.specs.Jobs.{IsSetReply, AreContents}
use Rattle.fop_types.specs.Limits.{max_item_name}
use Rattle.fop_types.specs.Names.{item_named, is_directory, is_same_name}
use Rattle.fop_types.specs.Orders.{gfid_cmp}
use Rattle.fop_types.specs.StoreOps.{items_of, item_in, is_directory_item}
use Rattle.fop_types.specs.declared.answers.IoError.{IoError}
use Rattle.fop_types.specs.declared.cells.Cell.{Cell}
use Rattle.fop_types.specs.declared.cells.Gfid.{Gfid}
use Rattle.fop_types.specs.declared.cells.Kind.{Kind}
use Rattle.fop_types.specs.declared.cells.Kind.TheVariants as kind
use Rattle.fop_types.specs.declared.contents.Content.{Content}
use Rattle.fop_types.specs.declared.contents.Content.TheVariants.{Bytes, Meta, Names}
use Rattle.fop_types.specs.declared.contents.Item.{Item}
use Rattle.fop_types.specs.declared.flat.FlatOp.{FlatOp}
use Rattle.fop_types.specs.declared.flat.FlatOp.TheVariants as flat
use Rattle.fop_types.specs.declared.fops.Fop.{Fop}
use Rattle.fop_types.specs.declared.history.Entry.{Entry}
use Rattle.fop_types.specs.declared.jobs.Job.{Job}
use Rattle.fop_types.specs.declared.jobs.Job.TheVariants as job
use Rattle.fop_types.specs.declared.jobs.SetReply.{SetReply}
use Rattle.fop_types.specs.declared.jobs.SetReply.TheVariants as reply
use Rattle.fop_types.specs.declared.store_ops.StoreOp.{StoreOp}
use Rattle.fop_types.specs.declared.store_ops.StoreOp.TheVariants as op
use Rattle.mount_files.proofs.Later.{open_again, move_again, free_again}
use Rattle.mount_files.proofs.Local.{to_local}
use Rattle.mount_files.proofs.Naming.{directory_made}
use Rattle.mount_files.proofs.Rises.{same_is, same_self}
use Rattle.mount_files.proofs.Sentences.{name_here}
use Rattle.mount_files.specs.Pairs.{Touches}
use Rattle.mount_laws.specs.Effects.{IsOwnPart, AreEarlier, HasEffect, part_of, is_rename}
use Rattle.mount_laws.specs.Guards.{Allowed, IsReached}
use Rattle.mount_laws.specs.Objects.{volumes}
use Rattle.mount_laws.specs.Runs.{Run}
use Rattle.mount_laws.specs.States.{State, Change, Runs}
use Rattle.mount_laws.specs.Steps.{Step, Task, change_by}
use Rattle.mount_laws.proofs.Answering.{IsMadeChange, AreMade, runs_made}
use Rattle.mount_laws.proofs.Beyond.{in_its_graph}
use Rattle.mount_laws.proofs.Entering.{own_job, is_later, parts_in_order}
use Rattle.mount_laws.proofs.Owning.{IsOwn, courses_own}
use Rattle.mount_laws.proofs.Releasing.{gfid_itself}
use Rattle.mount_shown.proofs.Asked.{AllAsked, all_asked}
use Rattle.mount_shown.proofs.Beginning.{op_on, BeginsAs, asks}
use Rattle.mount_shown.proofs.Decided.{own_entry, entries_are, adopted_begun}
use Rattle.mount_shown.proofs.Founding.{flat_run, founded}
use Rattle.mount_shown.proofs.Gone.{IsGone, GoneStand}
use Rattle.mount_shown.proofs.Listing.{NamesOfDirs, has_name_made}
use Rattle.mount_shown.proofs.Names.{no_directory_untaken}
use Rattle.mount_shown.proofs.Parts.{IsWholePart, IsFirstPart, IsPart, fop_part, one_or_two}
use Rattle.mount_shown.proofs.Planned.{handed_bounded}
use Rattle.mount_shown.proofs.Renaming.{MoveRests, moves}
use Rattle.mount_shown.proofs.Watching.{OwnChange, NamesStand}
use Rattle.mount_shown.specs.Pending.{KeepsFiles}

-- ---- names that a read showed are short

if_same_short : (items : List Item) (name : List ℕ) (item : Item) → Each IsItem items → item_named items name ≡ Some item → length name ≤ max_item_name
if_same_short [] name item each e = absurd cc
if_same_short (one ∷ items) name item each e = by_same (pointwise nat_eq one.name name) refl (λ f. if_same_short items name item each.1 f) e
  where
    by_same : (b : Bool) → pointwise nat_eq one.name name ≡ b → (item_named items name ≡ Some item → length name ≤ max_item_name) → (if b then Some one else item_named items name) ≡ Some item → length name ≤ max_item_name
    by_same true f rest g = subst (λ (n : List ℕ). length n ≤ max_item_name) (same_is one.name name f) each.0.0.1
    by_same false f rest g = rest g

content_items : (content : Option Content) → IfSome content (IsContent true) → Each IsItem (items_of content)
content_items None b = tt
content_items (Some (Bytes bytes)) b = tt
content_items (Some (Meta mode attrs span)) b = tt
content_items (Some (Names removed items)) b = b.1

first_items : (contents : List (Option Content)) → AreContents contents → Each IsItem (items_of (first_content contents))
first_items [] b = tt
first_items (content ∷ contents) b = content_items content b.0

shown_items : (content : Option Content) (place : ℕ) (shown : DirNames) → ◌≡◌ {A = Result DirNames IoError} (Ok (names_shown content place)) (Ok shown) → Each IsItem (items_of content) → Each IsItem shown.items
shown_items content place shown e b = let same : names_shown content place ≡ shown = cc in subst (λ (d : DirNames). Each IsItem d.items) same b

reply_items : (said : SetReply) (shown : DirNames) → IsSetReply said → names_in said ≡ Ok shown → Each IsItem shown.items
reply_items (reply.Contents contents place) shown b e = shown_items (first_content contents) place shown e (first_items contents b)
reply_items (reply.Decided number) shown b e = shown_items None 0 shown e tt
reply_items reply.Opened shown b e = shown_items None 0 shown e tt
reply_items (reply.Listed listed answered short) shown b e = shown_items None 0 shown e tt
reply_items (reply.Healed records) shown b e = shown_items None 0 shown e tt
reply_items (reply.Skipped cause) shown b e = shown_items None 0 shown e tt
reply_items (reply.Io error) shown b e = absurd cc

saw_items : (handed : Handed) (dir : Gfid) (set : ℕ) (shown : DirNames) → HaveBounds handed → Saw handed dir set shown → Each IsItem shown.items
saw_items [] dir set shown b saw = absurd saw
saw_items (event ∷ handed) dir set shown b (inr saw) = saw_items handed dir set shown b.1 saw
saw_items (event ∷ handed) dir set shown b (inl k) = by_event event b.0 k
  where
    by_event : (e : Event) → IsBounded e → IsNamesOf e dir set shown → Each IsItem shown.items
    by_event (Replied one asked said) bound is = reply_items said shown bound is.2
    by_event (Held held) bound is = absurd is

not_long : (b : Bool) (n : List ℕ) → nat_lt name_limit (length n) ≡ b → length n ≤ max_item_name → b ≡ false
not_long true n e h = absurd (let more = ltb-true name_limit (length n) e in omega (arith, h, more))
not_long false n e h = refl

pub saw_short : (handed : Handed) (dir : Gfid) (name : List ℕ) (set : ℕ) (gfid : Gfid) (k : Kind) → HaveBounds handed → SawName handed dir name set gfid k → nat_lt name_limit (length name) ≡ false
saw_short handed dir name set gfid k b s = not_long (nat_lt name_limit (length name)) name refl (if_same_short s.shown.items name s.item (saw_items handed dir set s.shown b s.saw) s.named)

pub same_name : (a : Gfid) (x : List ℕ) (b : Gfid) (y : List ℕ) → a ≡ b → x ≡ y → is_same_name a x b y ≡ true
same_name a x b y e f =
    ap (λ (g : Gfid). is_eq (gfid_cmp a g) && pointwise nat_eq x y) (sym e)
    ∙ ap (λ (n : List ℕ). is_eq (gfid_cmp a a) && pointwise nat_eq x n) (sym f)
    ∙ ap (λ (c : Bool). c && pointwise nat_eq x x) (gfid_itself a) ∙ same_self x

-- ---- an effect that was handed in

-- a change with an effect was handed in, of an earlier part, with no failure; and it was a part of the fop
pub record HadEffect (changes : ℕ → Change) (history : List Entry) (c : ℕ) (f : Fop) (part : ℕ) : Type 0 where
  pub set : ℕ
  pub o : StoreOp
  pub entry : Entry
  pub before : entry.part < part
  pub call_is : entry.call ≡ c
  pub p : FlatOp
  pub part_is : part_of (flat_op f) entry.part ≡ Some p
  pub makes : change_of o ≡ Some p
  pub number : Option ℕ
  pub made : IsMadeChange changes history c set o entry number

effect_or_none : (changes : ℕ → Change) (history : List Entry) (c : ℕ) (f : Fop) (part : ℕ) (handed : Handed) → AllAsked (IsOwn c f) handed → AreEarlier handed part → AreMade changes history c handed → HaveNoEffect handed ⊎ HadEffect changes history c f part
effect_or_none changes history c f part [] own earlier made = inl tt
effect_or_none changes history c f part (Held dir ∷ handed) own earlier made = rest (effect_or_none changes history c f part handed own earlier.1 made.1)
  where
    rest : HaveNoEffect handed ⊎ HadEffect changes history c f part → HaveNoEffect (Held dir ∷ handed) ⊎ HadEffect changes history c f part
    rest (inl none) = inl (tt, none)
    rest (inr had) = inr had
effect_or_none changes history c f part (Replied set (job.Change cells fd o (Some entry)) shown ∷ handed) own earlier made =
    inr (record { set = set; o = o; entry = entry; before = earlier.0.0; call_is = own.0.call_is; p = own.0.part; part_is = own.0.part_is; makes = own.0.makes; number = _; made = made.0 earlier.0.1 })
effect_or_none changes history c f part (Replied set (job.Change cells fd o None) shown ∷ handed) own earlier made = rest (effect_or_none changes history c f part handed own.1 earlier.1 made.1)
  where
    rest : HaveNoEffect handed ⊎ HadEffect changes history c f part → HaveNoEffect (Replied set (job.Change cells fd o None) shown ∷ handed) ⊎ HadEffect changes history c f part
    rest (inl none) = inl (tt, none)
    rest (inr had) = inr had
effect_or_none changes history c f part (Replied set (job.Read cells fd dir) shown ∷ handed) own earlier made = rest (effect_or_none changes history c f part handed own.1 earlier.1 made.1)
  where
    rest : HaveNoEffect handed ⊎ HadEffect changes history c f part → HaveNoEffect (Replied set (job.Read cells fd dir) shown ∷ handed) ⊎ HadEffect changes history c f part
    rest (inl none) = inl (tt, none)
    rest (inr had) = inr had
effect_or_none changes history c f part (Replied set (job.Birth cells o) shown ∷ handed) own earlier made = rest (effect_or_none changes history c f part handed own.1 earlier.1 made.1)
  where
    rest : HaveNoEffect handed ⊎ HadEffect changes history c f part → HaveNoEffect (Replied set (job.Birth cells o) shown ∷ handed) ⊎ HadEffect changes history c f part
    rest (inl none) = inl (tt, none)
    rest (inr had) = inr had
effect_or_none changes history c f part (Replied set (job.Open fd gfid) shown ∷ handed) own earlier made = rest (effect_or_none changes history c f part handed own.1 earlier.1 made.1)
  where
    rest : HaveNoEffect handed ⊎ HadEffect changes history c f part → HaveNoEffect (Replied set (job.Open fd gfid) shown ∷ handed) ⊎ HadEffect changes history c f part
    rest (inl none) = inl (tt, none)
    rest (inr had) = inr had
effect_or_none changes history c f part (Replied set job.Index shown ∷ handed) own earlier made = rest (effect_or_none changes history c f part handed own.1 earlier.1 made.1)
  where
    rest : HaveNoEffect handed ⊎ HadEffect changes history c f part → HaveNoEffect (Replied set job.Index shown ∷ handed) ⊎ HadEffect changes history c f part
    rest (inl none) = inl (tt, none)
    rest (inr had) = inr had
effect_or_none changes history c f part (Replied set (job.Heal cell) shown ∷ handed) own earlier made = rest (effect_or_none changes history c f part handed own.1 earlier.1 made.1)
  where
    rest : HaveNoEffect handed ⊎ HadEffect changes history c f part → HaveNoEffect (Replied set (job.Heal cell) shown ∷ handed) ⊎ HadEffect changes history c f part
    rest (inl none) = inl (tt, none)
    rest (inr had) = inr had

-- ---- the ops of a rename's parts

same_op : (a b : FlatOp) → ◌≡◌ {A = Option FlatOp} (Some a) (Some b) → a ≡ b
same_op a b e = cc

added_no : (parent : Gfid) (item : Item) (mode : ℕ) (k : Kind) (p : FlatOp) → ((a : Gfid) (b : List ℕ) (x : ℕ) (d : Gfid) → p ≢ flat.Create a b x d) → ((a : Gfid) (b : List ℕ) (x : ℕ) (d : Gfid) → p ≢ flat.Mkdir a b x d) → added parent item mode k ≡ Some p → ⊥
added_no parent item mode kind.File p no_create no_mkdir e = no_create parent item.name mode item.gfid (sym (same_op (flat.Create parent item.name mode item.gfid) p e))
added_no parent item mode kind.Dir p no_create no_mkdir e = no_mkdir parent item.name mode item.gfid (sym (same_op (flat.Mkdir parent item.name mode item.gfid) p e))
added_no parent item mode kind.Link p no_create no_mkdir e = absurd cc

pub move_of : (o : StoreOp) (a : Gfid) (b : List ℕ) (c : Gfid) (d : List ℕ) → change_of o ≡ Some (flat.Rename a b c d) → o ≡ op.Move a b c d
move_of (op.Move parent name target new_name) a b c d e = let same : flat.Rename parent name target new_name ≡ flat.Rename a b c d = same_op (flat.Rename parent name target new_name) (flat.Rename a b c d) e in cc
move_of (op.AddName parent item mode span) a b c d e = absurd (added_no parent item mode item.kind (flat.Rename a b c d) (λ x y z w f. absurd cc) (λ x y z w f. absurd cc) e)
move_of (op.Write g offset bytes) a b c d e = absurd cc
move_of (op.Truncate g size) a b c d e = absurd cc
move_of (op.SetMode g mode) a b c d e = absurd cc
move_of (op.SetAttr g attr) a b c d e = absurd cc
move_of (op.DelAttr g n) a b c d e = absurd cc
move_of (op.DropName parent n) a b c d e = absurd cc
move_of (op.DropDir parent n g) a b c d e = absurd cc
move_of (op.MakeCopy g span) a b c d e = absurd cc

pub drop_of : (o : StoreOp) (a : Gfid) (b : List ℕ) → change_of o ≡ Some (flat.Unlink a b) → o ≡ op.DropName a b
drop_of (op.DropName parent n) a b e = let same : flat.Unlink parent n ≡ flat.Unlink a b = same_op (flat.Unlink parent n) (flat.Unlink a b) e in cc
drop_of (op.AddName parent item mode span) a b e = absurd (added_no parent item mode item.kind (flat.Unlink a b) (λ x y z w f. absurd cc) (λ x y z w f. absurd cc) e)
drop_of (op.Write g offset bytes) a b e = absurd cc
drop_of (op.Truncate g size) a b e = absurd cc
drop_of (op.SetMode g mode) a b e = absurd cc
drop_of (op.SetAttr g attr) a b e = absurd cc
drop_of (op.DelAttr g n) a b e = absurd cc
drop_of (op.Move parent n target m) a b e = absurd cc
drop_of (op.DropDir parent n g) a b e = absurd cc
drop_of (op.MakeCopy g span) a b e = absurd cc

-- of two parts the first is the unlink and the second the move
pub record AreTwoParts (fo : Option FlatOp) (one two : FlatOp) : Type 0 where
  pub parent : Gfid
  pub name : List ℕ
  pub target : Gfid
  pub new_name : List ℕ
  pub fop_is : fo ≡ Some (flat.Rename parent name target new_name)
  pub differ : is_same_name parent name target new_name ≡ false
  pub one_is : one ≡ flat.Unlink target new_name
  pub two_is : two ≡ flat.Rename parent name target new_name

two_parts : (fo : Option FlatOp) (one two : FlatOp) → part_of fo 1 ≡ Some one → part_of fo 2 ≡ Some two → AreTwoParts fo one two
two_parts fo one two h k = by_parts (fop_part fo 1 one h) (fop_part fo 2 two k)
  where
    renames : (o : FlatOp) → IsWholePart o 2 two ⊎ IsFirstPart o 2 two → (o ≡ two) × (is_rename o ≡ true)
    renames o (inl w) = (w.whole, by_bool (is_rename o) w.number_is)
      where
        by_bool : (b : Bool) → ◌≡◌ {A = ℕ} 2 (if b then 2 else 1) → b ≡ true
        by_bool true e = refl
        by_bool false e = absurd (omega (arith, e))
    renames o (inr f) = let n = f.number_is in absurd (omega (arith, n))

    first_of_two : (o : FlatOp) → is_rename o ≡ true → IsWholePart o 1 one ⊎ IsFirstPart o 1 one → IsFirstPart o 1 one
    first_of_two o r (inl w) = let n : ◌≡◌ {A = ℕ} 1 2 = w.number_is ∙ ap (λ (b : Bool). if b then 2 else 1) r in absurd (omega (arith, n))
    first_of_two o r (inr f) = f

    by_parts : IsPart fo 1 one → IsPart fo 2 two → AreTwoParts fo one two
    by_parts x y =
        let same : x.o ≡ y.o = same_op x.o y.o (sym x.fop_is ∙ y.fop_is) in
        let whole = renames y.o y.part in
        let f = first_of_two x.o (ap is_rename same ∙ whole.1) x.part in
        record {
          parent = f.parent;
          name = f.name;
          target = f.target;
          new_name = f.new_name;
          fop_is = x.fop_is ∙ ap (λ (o : FlatOp). Some o) f.whole;
          differ = f.differ;
          one_is = f.part_is;
          two_is = sym whole.0 ∙ sym same ∙ f.whole;
        }

-- ---- the move

module _ (first : List (List ℕ)) (m : State) (reached : IsReached first m) (a : KeepsFiles m) (dirs : NamesOfDirs m.kinds m.adopted) (names : (c : ℕ) (run : Run) → Runs m c run → NamesStand m.adopted m.changes c run.handed) (gone : GoneStand m)
    (t : Task) (u : ℕ) (h : Allowed m (Step.BeginsChange t u)) (cells : List Cell) (fd : ℕ) (o : StoreOp) (entry : Entry) (is : t.job ≡ job.Change cells fd o (Some entry)) where
  pub own_part_of : IsOwnPart t.call t.run.fop t.run.handed t.set o entry
  own_part_of = own_job first m reached t.call t.run t.set (job.Change cells fd o (Some entry)) t.next h.under_way.runs (asks first m reached t u h cells fd o (Some entry) is)

  pub effect_before : HaveNoEffect t.run.handed ⊎ HadEffect m.changes m.history t.call t.run.fop entry.part
  effect_before =
      effect_or_none m.changes m.history t.call t.run.fop entry.part t.run.handed
      (subst (λ (call : ℕ). AllAsked (IsOwn call t.run.fop) t.run.handed) ((in_its_graph first m reached).planned t.call t.run h.under_way.runs).call_is
      (all_asked first m reached t.call t.run h.under_way.runs (IsOwn t.run.volume.call t.run.fop) AnyHold AnyAnswer ((courses_own t.run.volume t.run.names t.run.kept t.run.fop).at [] tt)))
      own_part_of.earlier (runs_made first m reached t.call t.run h.under_way.runs).handed

  module _ (had : HadEffect m.changes m.history t.call t.run.fop entry.part) where
    pub parts_are : (had.entry.part ≡ 1) × (entry.part ≡ 2)
    parts_are = by_parts (one_or_two (flat_op t.run.fop) had.entry.part had.p had.part_is) (one_or_two (flat_op t.run.fop) entry.part own_part_of.part own_part_of.part_is)
      where
        by_parts : (had.entry.part ≡ 1) ⊎ (had.entry.part ≡ 2) → (entry.part ≡ 1) ⊎ (entry.part ≡ 2) → (had.entry.part ≡ 1) × (entry.part ≡ 2)
        by_parts (inl x) (inl y) = let k = had.before in absurd (omega (arith, x, y, k))
        by_parts (inl x) (inr y) = (x, y)
        by_parts (inr x) (inl y) = let k = had.before in absurd (omega (arith, x, y, k))
        by_parts (inr x) (inr y) = let k = had.before in absurd (omega (arith, x, y, k))

    two : AreTwoParts (flat_op t.run.fop) had.p own_part_of.part
    two = two_parts (flat_op t.run.fop) had.p own_part_of.part (subst (λ (n : ℕ). part_of (flat_op t.run.fop) n ≡ Some had.p) parts_are.0 had.part_is) (subst (λ (n : ℕ). part_of (flat_op t.run.fop) n ≡ Some own_part_of.part) parts_are.1 own_part_of.part_is)

    move_is : o ≡ op.Move two.parent two.name two.target two.new_name
    move_is = move_of o two.parent two.name two.target two.new_name (own_part_of.makes ∙ ap (λ (p : FlatOp). Some p) two.two_is)

    drop_is : (m.changes had.made.change).op ≡ op.DropName two.target two.new_name
    drop_is = had.made.op_is ∙ drop_of had.o two.target two.new_name (had.makes ∙ ap (λ (p : FlatOp). Some p) two.one_is)

    -- the call's only change so far is the unlink
    only_one : (v : ℕ) → (m.changes v).by ≡ t.call → (m.changes v).verdict ≢ Undrawn → (other : Entry) → (m.changes v).effect ≡ Some other → v ≡ had.made.change
    only_one v by begun other effect =
        let theirs = own_entry first m reached v other begun effect in
        let has : HasEffect (m.changes v) other = record { begun = begun; effect = effect } in
        let new : HasEffect (change_by t.call t.set t.job) entry = subst (λ (j : Job). HasEffect (change_by t.call t.set j) entry) (sym is) (record { begun = λ e. absurd cc; effect = refl }) in
        let call : other.call ≡ entry.call = theirs.call_is ∙ by ∙ sym own_part_of.call_is in
        let less = (is_later first m reached t u h v other entry has new call).0 in
        let last = parts_are.1 in
        let one_part : other.part ≡ 1 = by_part (one_or_two (flat_op theirs.fop) other.part theirs.part theirs.part_is) less last in
        let same : other ≡ had.entry = entries_are other had.entry (call ∙ own_part_of.call_is ∙ sym had.call_is) (one_part ∙ sym parts_are.0) in
        (parts_in_order first m reached).once v had.made.change other has (record { begun = adopted_begun (m.changes had.made.change).verdict had.made.adopted; effect = had.made.effect ∙ ap (λ (x : Entry). Some x) (sym same) })
      where
        by_part : (other.part ≡ 1) ⊎ (other.part ≡ 2) → other.part < entry.part → entry.part ≡ 2 → other.part ≡ 1
        by_part (inl x) less last = x
        by_part (inr x) less last = absurd (omega (arith, x, less, last))

    touch_one : (v : ℕ) → (m.changes v).by ≡ t.call → (m.changes v).verdict ≢ Undrawn → (dir : Gfid) (name : List ℕ) → Touches (m.changes v).op (m.changes v).effect dir name → v ≡ had.made.change
    touch_one v by begun dir name touches = by_effect (m.changes v).effect refl touches
      where
        by_effect : (e : Option Entry) → (m.changes v).effect ≡ e → Touches (m.changes v).op e dir name → v ≡ had.made.change
        by_effect None f x = absurd x
        by_effect (Some other) f x = only_one v by begun other f

    gone_name : IsGone m two.target two.new_name
    gone_name =
        gone t.call t.run h.under_way.runs had.made.change two.target two.new_name
        (record { by = had.made.by; adopted = had.made.adopted; entry = had.entry; effect = had.made.effect; op_is = drop_is })
        (λ v by begun touches. touch_one v by begun two.target two.new_name touches)

    movable : SawMovable t.run.volume.sets t.run.handed two.parent two.name two.target two.new_name t.set
    movable =
        (founded first m reached a t.call t.run h.under_way.runs t.set (job.Change cells fd (op.Move two.parent two.name two.target two.new_name) (Some entry)) t.next
        (asks first m reached t u h cells fd (op.Move two.parent two.name two.target two.new_name) (Some entry) (is ∙ ap (λ (x : StoreOp). job.Change cells fd x (Some entry)) move_is))).founded

    -- the old name still is there
    source_is : item_in (m.adopted t.set) two.parent two.name ≡ Some movable.from.saw.item
    source_is = by_stand (subst (λ (b : Bool). (item_in (m.adopted t.set) two.parent two.name ≡ Some movable.from.saw.item) ⊎ OwnChange b m.changes t.call t.set two.parent two.name) movable.from.saw.is_object
        (names t.call t.run h.under_way.runs two.parent t.set movable.from.saw.shown two.name movable.from.saw.item movable.from.saw.saw movable.from.saw.named))
      where
        by_stand : (item_in (m.adopted t.set) two.parent two.name ≡ Some movable.from.saw.item) ⊎ OwnChange false m.changes t.call t.set two.parent two.name → item_in (m.adopted t.set) two.parent two.name ≡ Some movable.from.saw.item
        by_stand (inl there) = there
        by_stand (inr own) =
            let one = touch_one own.change own.is.by own.is.begun two.parent two.name own.is.touches in
            let dropped = subst (λ (v : ℕ). Touches (m.changes v).op (m.changes v).effect two.parent two.name) one own.is.touches in
            let k : (two.target ≡ two.parent) × (two.new_name ≡ two.name) = subst (λ (x : StoreOp). Touches x (Some had.entry) two.parent two.name) drop_is (subst (λ (e : Option Entry). Touches (m.changes had.made.change).op e two.parent two.name) had.made.effect dropped) in
            let clash : true ≡ false = sym (same_name two.parent two.name two.target two.new_name (sym k.0) (sym k.1)) ∙ two.differ in absurd cc

    rests_on : MoveRests m t.set two.parent two.name two.target two.new_name
    rests_on =
        let flat_on = flat_run first m reached a t.call t.run h.under_way.runs in
        let local = to_local (volumes m) t.run.volume.sets flat_on in
        let made = has_name_made m.kinds m.adopted dirs t.set two.parent two.name movable.from.saw.item source_is in
        let dir = directory_made (volumes m) t.run.volume.sets two.parent (local two.parent) made in
        let to_dir = directory_made (volumes m) t.run.volume.sets two.target (local two.target) gone_name.made in
        let at = name_here (volumes m) t.run.volume.sets t.set two.parent two.name movable.from.saw.item flat_on made source_is movable.from.saw.is_object in
        let short = saw_short t.run.handed two.parent two.name t.set movable.from.gfid kind.File (handed_bounded answers_bounded first m reached t.call t.run h.under_way.runs) movable.from.saw in
        record {
          item = movable.from.saw.item;
          item_is = source_is;
          no_link = movable.from.saw.is_object;
          accept = move_again (volumes m).files two.parent two.name two.target two.new_name movable.from.saw.item (open_again (volumes m) t.run.volume.sets two.parent two.name dir at.kept short) at.shown (ap is_directory movable.from.saw.kind_is)
              (open_again (volumes m) t.run.volume.sets two.target two.new_name to_dir gone_name.kept gone_name.short)
              (ap is_directory_item (free_again (volumes m) t.run.volume.sets two.target two.new_name local to_dir gone_name.free)) two.differ;
          elsewhere = λ other differ. gone_name.free other;
          no_dir = no_directory_untaken (item_in (m.adopted t.set) two.target two.new_name) (gone_name.free t.set);
          untouched = gone_name.untouched;
          stays = gone_name.stays;
        }

    pub moves_second : BeginsAs m (op_on t.set o (Some entry))
    moves_second =
        subst (λ (x : StoreOp). BeginsAs m (op_on t.set x (Some entry))) (sym move_is)
        (moves first m reached a t u h cells fd two.parent two.name two.target two.new_name entry (is ∙ ap (λ (x : StoreOp). job.Change cells fd x (Some entry)) move_is) rests_on)
