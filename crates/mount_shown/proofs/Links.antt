-- A change of a link begins well: a link is added where a file was moved to on another set, and dropped where it was seen.
use Rattle.std.proofs.Common.{◌≡◌, ◌≢◌, ◌⊎◌, inl, inr, ◌∙◌, ℕ, zero, suc, ◌==◌, Bool, true, false, not, refl, sym, ap, subst, List, [], ◌∷◌, Option, Some, None, is_none, arith}
use Rattle.std.proofs.lemmas.Bool.{eqb-false}
use Rattle.afr_machine.specs.Changes.Verdict.{Undrawn}
use Rattle.dht_fops.specs.Answers.{change_of, flat_op}
use Rattle.dht_fops.specs.Courses.{Course}
use Rattle.dht_fops.specs.Founded.{IsNoError}
use Rattle.dht_fops.specs.Handed.{Handed, AnyHold, AnyAnswer}
use Rattle.dht_fops.specs.Handed.Event.{Replied, Held}
use Rattle.dht_laws.proofs.TracesOfFops.{fops_change_links}
use Rattle.dht_laws.specs.Links.{SawLink, IsMoveTo, WasMoved, RestsOnLinks}
use Rattle.fop_types.specs.Cells.{names_cell}
use Rattle.fop_types.specs.Names.{is_link, is_same_name}
use Rattle.fop_types.specs.StoreOps.{item_in, is_removed, is_taken, born}
use Rattle.fop_types.specs.declared.cells.Cell.{Cell}
use Rattle.fop_types.specs.declared.cells.Gfid.{Gfid}
use Rattle.fop_types.specs.declared.cells.Kind.{Kind}
use Rattle.fop_types.specs.declared.cells.Kind.TheVariants as kind
use Rattle.fop_types.specs.declared.contents.Item.{Item}
use Rattle.fop_types.specs.declared.contents.Span.{Span}
use Rattle.fop_types.specs.declared.flat.FlatOp.{FlatOp}
use Rattle.fop_types.specs.declared.flat.FlatOp.TheVariants as flat
use Rattle.fop_types.specs.declared.fops.Fop.{Fop}
use Rattle.fop_types.specs.declared.fops.Fop.TheVariants as fop
use Rattle.fop_types.specs.declared.history.Entry.{Entry}
use Rattle.fop_types.specs.declared.jobs.Job.{Job}
use Rattle.fop_types.specs.declared.jobs.Job.TheVariants as job
use Rattle.fop_types.specs.declared.jobs.SetReply.{SetReply}
use Rattle.fop_types.specs.declared.jobs.SetReply.TheVariants as reply
use Rattle.fop_types.specs.declared.store_ops.StoreOp.{StoreOp}
use Rattle.fop_types.specs.declared.store_ops.StoreOp.TheVariants as op
use Rattle.mount_files.proofs.Families.{taken_some, untaken_by}
use Rattle.mount_files.specs.Pairs.{BirthsOf}
use Rattle.mount_files.specs.Showing.{ShownIsFlat}
use Rattle.mount_laws.specs.Effects.{IsOwnEffect, IsOwnEntry, IsOfLink, DidNotFail, part_of}
use Rattle.mount_laws.specs.Guards.{Allowed, IsReached}
use Rattle.mount_laws.specs.Objects.{volumes}
use Rattle.mount_laws.specs.Runs.{Run, first_course, Leads}
use Rattle.mount_laws.specs.Runs.Leads.{Begun, Answered, Extended}
use Rattle.mount_laws.specs.States.{State, Change, Runs}
use Rattle.mount_laws.specs.Steps.{Step, Task}
use Rattle.mount_laws.proofs.Answering.{IsMadeChange, AreMade, runs_made}
use Rattle.mount_laws.proofs.Drawing.{is_make, added_makes}
use Rattle.mount_laws.proofs.Entering.{began_is, effect_own}
use Rattle.mount_laws.proofs.Held.{jobs_asked}
use Rattle.mount_shown.proofs.Asked.{AllAsked, all_asked}
use Rattle.mount_shown.proofs.Beginning.{op_on, BeginsAs, asks, low, fits_by, cells_apart}
use Rattle.mount_shown.proofs.Decided.{IsTakenOn, MovedStand, own_entry, adopted_begun}
use Rattle.mount_shown.proofs.Courses.{fops_drop_in_turn}
use Rattle.mount_shown.proofs.Founding.{flat_run}
use Rattle.mount_shown.proofs.Jobs.{at_job}
use Rattle.mount_shown.proofs.Listing.{NamesOfDirs, has_name_made}
use Rattle.mount_shown.proofs.Names.{either_no}
use Rattle.mount_shown.proofs.Owned.{WasAskedFor, own_stands, asked_before}
use Rattle.mount_shown.proofs.Parts.{IsWholePart, IsFirstPart, fop_part, rename_is_last}
use Rattle.mount_shown.proofs.Second.{same_name}
use Rattle.mount_shown.proofs.Watching.{OwnChange, Relinked, NamesStand}
use Rattle.mount_shown.proofs.Editing.{Relinks}
use Rattle.mount_shown.specs.Dropping.{TakesAway, IsEnd, IsLastDrop, IsDropInTurn, DropsInTurn}
use Rattle.mount_shown.specs.Pending.{KeepsFiles}

-- no move of a name to itself was begun
abbrev pub MovesDiffer : (ℕ → Change) → Type 0
MovesDiffer changes = (u : ℕ) → (changes u).verdict ≢ Undrawn → (parent : Gfid) (name : List ℕ) (target : Gfid) (new_name : List ℕ) → (changes u).op ≡ op.Move parent name target new_name → is_same_name parent name target new_name ≡ false

-- ---- a link is dropped last

abbrev IsNoDropOp : StoreOp → Type 0
IsNoDropOp (op.DropName parent name) = ⊥
IsNoDropOp other = Unit {0}

abbrev IsNoDrop : Job → Type 0
IsNoDrop (job.Change cells fd o None) = IsNoDropOp o
IsNoDrop (job.Change cells fd o (Some entry)) = Unit {0}
IsNoDrop (job.Read cells fd dir) = Unit {0}
IsNoDrop (job.Birth cells o) = Unit {0}
IsNoDrop (job.Open fd gfid) = Unit {0}
IsNoDrop job.Index = Unit {0}
IsNoDrop (job.Heal cell) = Unit {0}

abbrev NoDrops : Handed → Type 0
NoDrops [] = Unit {0}
NoDrops (Replied set asked shown ∷ handed) = IsNoDrop asked × NoDrops handed
NoDrops (Held dir ∷ handed) = NoDrops handed

drop_op : (f : Fop) (o : StoreOp) (next : SetReply → Course) (said : SetReply) → IsLastDrop f o next → IsNoDropOp o ⊎ IsEnd (next said)
drop_op f (op.DropName parent name) next said k = inr (k.1 said)
drop_op f (op.AddName parent item mode span) next said k = inl tt
drop_op f (op.DropDir parent name g) next said k = inl tt
drop_op f (op.Move parent name target new_name) next said k = inl tt
drop_op f (op.Write g offset bytes) next said k = inl tt
drop_op f (op.Truncate g size) next said k = inl tt
drop_op f (op.SetMode g mode) next said k = inl tt
drop_op f (op.SetAttr g attr) next said k = inl tt
drop_op f (op.DelAttr g name) next said k = inl tt
drop_op f (op.MakeCopy g span) next said k = inl tt

drop_job : (f : Fop) (asked : Job) (next : SetReply → Course) (said : SetReply) → IsDropInTurn f asked next → IsNoDrop asked ⊎ IsEnd (next said)
drop_job f (job.Change cells fd o None) next said k = drop_op f o next said k
drop_job f (job.Change cells fd o (Some entry)) next said k = inl tt
drop_job f (job.Read cells fd dir) next said k = inl tt
drop_job f (job.Birth cells o) next said k = inl tt
drop_job f (job.Open fd gfid) next said k = inl tt
drop_job f job.Index next said k = inl tt
drop_job f (job.Heal cell) next said k = inl tt

pub drops_led : (f : Fop) (first : Course) (handed : Handed) (course : Course) → Leads first handed course → DropsInTurn f first → DropsInTurn f course × (NoDrops handed ⊎ IsEnd course)
drops_led f first _ _ Begun d = (d, inl tt)
drops_led f first _ _ (Answered handed set asked next said l) d =
    let k = drops_led f first handed (Course.Asks set asked next) l d in
    (k.0.1 said, by_case (drop_job f asked next said k.0.0) k.1)
  where
    by_case : IsNoDrop asked ⊎ IsEnd (next said) → NoDrops handed ⊎ ⊥ → NoDrops (Replied set asked said ∷ handed) ⊎ IsEnd (next said)
    by_case (inr e) x = inr e
    by_case (inl n) (inl ns) = inl (n, ns)
    by_case (inl n) (inr x) = absurd x
drops_led f first _ _ (Extended handed dir next l) d =
    let k = drops_led f first handed (Course.Extends dir next) l d in
    (k.0, by_case k.1)
  where
    by_case : NoDrops handed ⊎ ⊥ → NoDrops (Held dir ∷ handed) ⊎ IsEnd next
    by_case (inl ns) = inl ns
    by_case (inr x) = absurd x

-- ---- what was asked

dropped_no : (handed : Handed) (set : ℕ) (cells : List Cell) (parent : Gfid) (name : List ℕ) → NoDrops handed → WasAskedFor handed set cells (op.DropName parent name) None → ⊥
dropped_no [] set cells parent name none w = w
dropped_no (Held dir ∷ handed) set cells parent name none (inl w) = w
dropped_no (Held dir ∷ handed) set cells parent name none (inr w) = dropped_no handed set cells parent name none w
dropped_no (Replied one asked shown ∷ handed) set cells parent name none (inr w) = dropped_no handed set cells parent name none.1 w
dropped_no (Replied one (job.Change own fd o effect) shown ∷ handed) set cells parent name none (inl w) =
    subst (λ (x : StoreOp). IsNoDropOp x) w.2 (subst (λ (e : Option Entry). IsNoDrop (job.Change own fd o e)) w.3 none.0)
dropped_no (Replied one (job.Read own fd dir) shown ∷ handed) set cells parent name none (inl w) = w
dropped_no (Replied one (job.Birth own o) shown ∷ handed) set cells parent name none (inl w) = w
dropped_no (Replied one (job.Open fd gfid) shown ∷ handed) set cells parent name none (inl w) = w
dropped_no (Replied one job.Index shown ∷ handed) set cells parent name none (inl w) = w
dropped_no (Replied one (job.Heal cell) shown ∷ handed) set cells parent name none (inl w) = w

-- a file was moved to the name by an adopted change of the call, on another set
pub record MovedBy (changes : ℕ → Change) (history : List Entry) (c set : ℕ) (dir : Gfid) (name : List ℕ) : Type 0 where
  pub one : ℕ
  pub o : StoreOp
  pub entry : Entry
  pub number : Option ℕ
  pub is_move : IsMoveTo o dir name
  pub made : IsMadeChange changes history c one o entry number
  pub differ : (set == one) ≡ false

did_not_fail : (said : SetReply) → IsNoError said → DidNotFail said
did_not_fail (reply.Contents contents place) k = tt
did_not_fail (reply.Decided number) k = tt
did_not_fail reply.Opened k = tt
did_not_fail (reply.Listed listed answered short) k = tt
did_not_fail (reply.Healed records) k = tt
did_not_fail (reply.Skipped cause) k = tt
did_not_fail (reply.Io error) k = k

moved_by : (changes : ℕ → Change) (history : List Entry) (c : ℕ) (handed : Handed) (set : ℕ) (dir : Gfid) (name : List ℕ) → AreMade changes history c handed → WasMoved handed dir name set → MovedBy changes history c set dir name
moved_by changes history c [] set dir name made w = absurd w
moved_by changes history c (Held d ∷ handed) set dir name made (inl w) = absurd w
moved_by changes history c (Held d ∷ handed) set dir name made (inr w) = moved_by changes history c handed set dir name made.1 w
moved_by changes history c (Replied one asked shown ∷ handed) set dir name made (inr w) = moved_by changes history c handed set dir name made.1 w
moved_by changes history c (Replied one (job.Change cells fd o (Some entry)) shown ∷ handed) set dir name made (inl w) =
    record { one = one; o = o; entry = entry; number = _; is_move = w.0; made = made.0 (did_not_fail shown w.1); differ = w.2 }
moved_by changes history c (Replied one (job.Change cells fd o None) shown ∷ handed) set dir name made (inl w) = absurd w
moved_by changes history c (Replied one (job.Read cells fd d) shown ∷ handed) set dir name made (inl w) = absurd w
moved_by changes history c (Replied one (job.Birth cells o) shown ∷ handed) set dir name made (inl w) = absurd w
moved_by changes history c (Replied one (job.Open fd gfid) shown ∷ handed) set dir name made (inl w) = absurd w
moved_by changes history c (Replied one job.Index shown ∷ handed) set dir name made (inl w) = absurd w
moved_by changes history c (Replied one (job.Heal cell) shown ∷ handed) set dir name made (inl w) = absurd w

-- where a link was added, a file was moved to its name
linked_by : (changes : ℕ → Change) (history : List Entry) (c : ℕ) (f : Fop) (handed : Handed) (set : ℕ) (cells : List Cell) (parent : Gfid) (item : Item) (mode : ℕ) (span : Option Span) → AllAsked (RestsOnLinks f) handed → AreMade changes history c handed
    → WasAskedFor handed set cells (op.AddName parent item mode span) None → MovedBy changes history c set parent item.name
linked_by changes history c f [] set cells parent item mode span rests made w = absurd w
linked_by changes history c f (Held d ∷ handed) set cells parent item mode span rests made (inl w) = absurd w
linked_by changes history c f (Held d ∷ handed) set cells parent item mode span rests made (inr w) = linked_by changes history c f handed set cells parent item mode span rests made.1 w
linked_by changes history c f (Replied one asked shown ∷ handed) set cells parent item mode span rests made (inr w) = linked_by changes history c f handed set cells parent item mode span rests.1 made.1 w
linked_by changes history c f (Replied one (job.Change own fd o effect) shown ∷ handed) set cells parent item mode span rests made (inl w) =
    let at = subst (λ (x : StoreOp). RestsOnLinks f handed one (job.Change own fd x None)) w.2 (subst (λ (e : Option Entry). RestsOnLinks f handed one (job.Change own fd o e)) w.3 rests.0) in
    moved_by changes history c handed set parent item.name made.1 (subst (λ (s : ℕ). WasMoved handed parent item.name s) w.0 at.1)
linked_by changes history c f (Replied one (job.Read own fd d) shown ∷ handed) set cells parent item mode span rests made (inl w) = absurd w
linked_by changes history c f (Replied one (job.Birth own o) shown ∷ handed) set cells parent item mode span rests made (inl w) = absurd w
linked_by changes history c f (Replied one (job.Open fd gfid) shown ∷ handed) set cells parent item mode span rests made (inl w) = absurd w
linked_by changes history c f (Replied one job.Index shown ∷ handed) set cells parent item mode span rests made (inl w) = absurd w
linked_by changes history c f (Replied one (job.Heal cell) shown ∷ handed) set cells parent item mode span rests made (inl w) = absurd w

-- ---- the fop that takes the name away

same_rename : (a : Gfid) (b : List ℕ) (c : Gfid) (d : List ℕ) (x : Gfid) (y : List ℕ) (z : Gfid) (w : List ℕ) → ◌≡◌ {A = Option FlatOp} (Some (flat.Rename a b c d)) (Some (flat.Rename x y z w)) → (a ≡ x) × (b ≡ y)
same_rename a b c d x y z w e = (of_gfid e, of_name e)
  where
    of_gfid : ◌≡◌ {A = Option FlatOp} (Some (flat.Rename a b c d)) (Some (flat.Rename x y z w)) → a ≡ x
    of_gfid k = cc

    of_name : ◌≡◌ {A = Option FlatOp} (Some (flat.Rename a b c d)) (Some (flat.Rename x y z w)) → b ≡ y
    of_name k = cc

takes_rename : (f : Fop) (parent : Gfid) (name : List ℕ) (x : Gfid) (y : List ℕ) (z : Gfid) (w : List ℕ) → TakesAway f parent name → flat_op f ≡ Some (flat.Rename x y z w) → (x ≡ parent) × (y ≡ name)
takes_rename (fop.Rename own old target new_name) parent name x y z w k e =
    let s = same_rename own.gfid old target.gfid new_name x y z w e in (sym s.0 ∙ k.0, sym s.1 ∙ k.1)
takes_rename (fop.Unlink own old) parent name x y z w k e = absurd cc
takes_rename (fop.Lookup own n) parent name x y z w k e = absurd k
takes_rename (fop.Mkdir own n mode drawn) parent name x y z w k e = absurd k
takes_rename (fop.Rmdir own n) parent name x y z w k e = absurd k
takes_rename (fop.Create fd own n mode drawn) parent name x y z w k e = absurd k
takes_rename (fop.Open fd object) parent name x y z w k e = absurd k
takes_rename (fop.Stat object) parent name x y z w k e = absurd k
takes_rename (fop.List object) parent name x y z w k e = absurd k
takes_rename (fop.Chmod object mode) parent name x y z w k e = absurd k
takes_rename (fop.Truncate object size) parent name x y z w k e = absurd k
takes_rename (fop.SetAttr object attr) parent name x y z w k e = absurd k
takes_rename (fop.GetAttr object n) parent name x y z w k e = absurd k
takes_rename (fop.DelAttr object n) parent name x y z w k e = absurd k
takes_rename (fop.Read fd object offset n) parent name x y z w k e = absurd k
takes_rename (fop.Write fd object offset bytes) parent name x y z w k e = absurd k
takes_rename (fop.Migrate fds) parent name x y z w k e = absurd k
takes_rename (fop.Heal n) parent name x y z w k e = absurd k

same_op : (a b : FlatOp) → ◌≡◌ {A = Option FlatOp} (Some a) (Some b) → a ≡ b
same_op a b e = cc

no_make : (o : FlatOp) (number : ℕ) (p : FlatOp) → is_make o ≡ false → is_make p ≡ true → IsWholePart o number p ⊎ IsFirstPart o number p → ⊥
no_make o number p none makes (inl w) = let clash : true ≡ false = sym makes ∙ ap is_make (sym w.whole) ∙ none in absurd cc
no_make o number p none makes (inr f) = let clash : true ≡ false = sym makes ∙ ap is_make f.part_is in absurd cc

makes_by : (o : FlatOp) (number : ℕ) (p : FlatOp) (fo : Option FlatOp) → fo ≡ Some o → is_make o ≡ false → is_make p ≡ true → part_of fo number ≡ Some p → ⊥
makes_by o number p fo is none makes h =
    let k = fop_part fo number p h in
    no_make k.o number p (ap is_make (same_op k.o o (sym k.fop_is ∙ is)) ∙ none) makes k.part

takes_no_make : (f : Fop) (parent : Gfid) (name : List ℕ) (number : ℕ) (p : FlatOp) → TakesAway f parent name → part_of (flat_op f) number ≡ Some p → is_make p ≡ true → ⊥
takes_no_make (fop.Rename own old target new_name) parent name number p k h makes = makes_by (flat.Rename own.gfid old target.gfid new_name) number p _ refl refl makes h
takes_no_make (fop.Unlink own old) parent name number p k h makes = makes_by (flat.Unlink own.gfid old) number p _ refl refl makes h
takes_no_make (fop.Lookup own n) parent name number p k h makes = k
takes_no_make (fop.Mkdir own n mode drawn) parent name number p k h makes = k
takes_no_make (fop.Rmdir own n) parent name number p k h makes = k
takes_no_make (fop.Create fd own n mode drawn) parent name number p k h makes = k
takes_no_make (fop.Open fd object) parent name number p k h makes = k
takes_no_make (fop.Stat object) parent name number p k h makes = k
takes_no_make (fop.List object) parent name number p k h makes = k
takes_no_make (fop.Chmod object mode) parent name number p k h makes = k
takes_no_make (fop.Truncate object size) parent name number p k h makes = k
takes_no_make (fop.SetAttr object attr) parent name number p k h makes = k
takes_no_make (fop.GetAttr object n) parent name number p k h makes = k
takes_no_make (fop.DelAttr object n) parent name number p k h makes = k
takes_no_make (fop.Read fd object offset n) parent name number p k h makes = k
takes_no_make (fop.Write fd object offset bytes) parent name number p k h makes = k
takes_no_make (fop.Migrate fds) parent name number p k h makes = k
takes_no_make (fop.Heal n) parent name number p k h makes = k

link_kind : (k : Kind) → is_link k ≡ true → k ≡ kind.Link
link_kind kind.File e = absurd cc
link_kind kind.Dir e = absurd cc
link_kind kind.Link e = refl

no_births : (k : Kind) (gfid : Gfid) (mode : ℕ) (span : Option Span) (g : Gfid) → is_link k ≡ true → BirthsOf (born k gfid mode span) g → ⊥
no_births kind.File gfid mode span g e b = absurd cc
no_births kind.Dir gfid mode span g e b = absurd cc
no_births kind.Link gfid mode span g e b = b

-- ---- a change of a link

module _ (first : List (List ℕ)) (m : State) (reached : IsReached first m) (a : KeepsFiles m) (dirs : NamesOfDirs m.kinds m.adopted) (names : (c : ℕ) (run : Run) → Runs m c run → NamesStand m.adopted m.changes c run.handed) (moved : MovedStand m) (differ : MovesDiffer m.changes)
    (t : Task) (u : ℕ) (h : Allowed m (Step.BeginsChange t u)) (cells : List Cell) (fd : ℕ) where
  rests : (o : StoreOp) → t.job ≡ job.Change cells fd o None → RestsOnLinks t.run.fop t.run.handed t.set (job.Change cells fd o None)
  rests o is = at_job first m reached t.call t.run h.under_way.runs (RestsOnLinks t.run.fop) AnyHold AnyAnswer (fops_change_links t.run.volume t.run.names t.run.kept t.run.fop) t.set (job.Change cells fd o None) t.next (asks first m reached t u h cells fd o None is)

  made_handed : AreMade m.changes m.history t.call t.run.handed
  made_handed = (runs_made first m reached t.call t.run h.under_way.runs).handed

  flat_on : ShownIsFlat (volumes m) t.run.volume.sets
  flat_on = flat_run first m reached a t.call t.run h.under_way.runs

  -- ---- it is added

  module _ (parent : Gfid) (item : Item) (mode : ℕ) (span : Option Span) (is : t.job ≡ job.Change cells fd (op.AddName parent item mode span) None) where
    by_move : MovedBy m.changes m.history t.call t.set parent item.name
    by_move = moved_by m.changes m.history t.call t.run.handed t.set parent item.name made_handed (rests (op.AddName parent item mode span) is).1

    there : IsTakenOn (m.adopted by_move.one) parent item.name
    there =
        subst (λ (s : ℕ). IsTakenOn (m.adopted s) parent item.name) by_move.made.set_is
        (moved t.call t.run h.under_way.runs by_move.made.change parent item.name
        (record {
          by = by_move.made.by;
          adopted = by_move.made.adopted;
          entry = by_move.entry;
          effect = by_move.made.effect;
          parent = by_move.is_move.parent;
          old = by_move.is_move.old;
          op_is = by_move.made.op_is ∙ by_move.is_move.is_move;
        }))

    taken_there : is_taken (item_in (m.adopted by_move.one) parent item.name) ≡ true
    taken_there = ap is_taken there.item_is ∙ taken_some there.item there.real

    kept : (set : ℕ) → is_removed (m.adopted set (names_cell parent)) ≡ false
    kept zero = untaken_by (is_removed (m.adopted 0 (names_cell parent))) (λ e. let free = flat_on.sound.empty parent item.name by_move.one e in let taken = taken_there in absurd cc)
    kept (suc set) = flat_on.sound.marked parent (suc set) (omega arith)

    free_here : is_taken (item_in (m.adopted t.set) parent item.name) ≡ false
    free_here = untaken_by (is_taken (item_in (m.adopted t.set) parent item.name)) (λ e. eqb-false t.set by_move.one by_move.differ (flat_on.sound.alone parent item.name t.set by_move.one e taken_there))

    pub adds_link : BeginsAs m (op_on t.set (op.AddName parent item mode span) None)
    adds_link =
        let link = (rests (op.AddName parent item mode span) is).0 in
        record {
          fits = record {
            on_set = low first m reached t u h cells fd (op.AddName parent item mode span) None is;
            fits_set = fits_by first m reached t u h cells fd (op.AddName parent item mode span) None is (either_no (is_removed (m.adopted t.set (names_cell parent))) (is_taken (item_in (m.adopted t.set) parent item.name)) (kept t.set) free_here);
            stands = (link_kind item.kind link, has_name_made m.kinds m.adopted dirs by_move.one parent item.name there.item there.item_is);
          };
          apart = λ w was. record {
            names = λ dir2 n x y. absurd x;
            inside = λ dir2 n x y. absurd x;
            outside = λ dir2 n x y. absurd y;
            born = λ g x y. no_births item.kind item.gfid mode span g link x;
            cells = cells_apart first m reached t u h cells fd (op.AddName parent item mode span) None is w was;
          };
        }

  -- ---- it is dropped

  module _ (parent : Gfid) (name : List ℕ) (is : t.job ≡ job.Change cells fd (op.DropName parent name) None) where
    drops : DropsInTurn t.run.fop t.run.course × (NoDrops t.run.handed ⊎ IsEnd t.run.course)
    drops = drops_led t.run.fop (first_course t.run) t.run.handed t.run.course (jobs_asked first m reached t.call t.run h.under_way.runs) (fops_drop_in_turn t.run.volume t.run.names t.run.kept t.run.fop)

    takes : TakesAway t.run.fop parent name
    takes = (subst (λ (course : Course). DropsInTurn t.run.fop course) (asks first m reached t u h cells fd (op.DropName parent name) None is) drops.0).0.0

    none_dropped : NoDrops t.run.handed
    none_dropped = by_case (subst (λ (course : Course). NoDrops t.run.handed ⊎ IsEnd course) (asks first m reached t u h cells fd (op.DropName parent name) None is) drops.1)
      where
        by_case : NoDrops t.run.handed ⊎ ⊥ → NoDrops t.run.handed
        by_case (inl k) = k
        by_case (inr x) = absurd x

    some_is : (x y : Fop) → ◌≡◌ {A = Option Fop} (Some x) (Some y) → x ≡ y
    some_is x y e = cc

    own_fop : (v : ℕ) (entry : Entry) → (k : IsOwnEntry m.began (m.changes v) entry) → (m.changes v).by ≡ t.call → k.fop ≡ t.run.fop
    own_fop v entry k by = some_is k.fop t.run.fop (sym k.began_is ∙ ap m.began by ∙ began_is first m reached t.call t.run h.under_way.runs)

    -- the fop moves no file to the name that it takes away
    no_move : (v : ℕ) → (m.changes v).by ≡ t.call → (m.changes v).verdict ≢ Undrawn → (entry : Entry) → (m.changes v).effect ≡ Some entry → (x : Gfid) (y : List ℕ) (z : Gfid) (w : List ℕ) → (m.changes v).op ≡ op.Move x y z w → z ≡ parent → w ≡ name → ⊥
    no_move v by begun entry effect x y z w op_is e f =
        let k = own_entry first m reached v entry begun effect in
        let whole = (rename_is_last (flat_op k.fop) entry.part x y z w (k.part_is ∙ sym k.makes ∙ ap change_of op_is)).0 in
        let at = takes_rename t.run.fop parent name x y z w takes (ap flat_op (sym (own_fop v entry k by)) ∙ whole) in
        let clash : true ≡ false = sym (same_name x y z w (at.0 ∙ sym e) (at.1 ∙ sym f)) ∙ differ v begun x y z w op_is in absurd cc

    relinked_no : (v : ℕ) → Relinked (m.changes v) t.call t.set parent name → ⊥
    relinked_no v k = by_effect (m.changes v).effect refl (m.changes v).op refl k.relinks
      where
        asked : WasAskedFor t.run.handed (m.changes v).set (m.changes v).cells (m.changes v).op (m.changes v).effect
        asked = asked_before t.run h.place (m.changes v).set (m.changes v).cells (m.changes v).op (m.changes v).effect h.settled (own_stands first m reached t.call t.run h.under_way.runs v k.by k.begun)

        asked_as : (o : StoreOp) (e : Option Entry) → (m.changes v).op ≡ o → (m.changes v).effect ≡ e → WasAskedFor t.run.handed (m.changes v).set (m.changes v).cells o e
        asked_as o e f g = subst (λ (x : StoreOp). WasAskedFor t.run.handed (m.changes v).set (m.changes v).cells x e) f (subst (λ (y : Option Entry). WasAskedFor t.run.handed (m.changes v).set (m.changes v).cells (m.changes v).op y) g asked)

        own_link : (o : StoreOp) → (m.changes v).effect ≡ None → (m.changes v).op ≡ o → IsOfLink o
        own_link o g f = subst (λ (x : StoreOp). IsOfLink x) f (subst (λ (e : Option Entry). IsOwnEffect m.began (m.changes v) e) g (effect_own first m reached v k.begun))

        by_none : (o : StoreOp) → (m.changes v).effect ≡ None → (m.changes v).op ≡ o → Relinks o None parent name → ⊥
        by_none (op.AddName dir item mode span) g f r =
            let from = linked_by m.changes m.history t.call t.run.fop t.run.handed (m.changes v).set (m.changes v).cells dir item mode span
            (all_asked first m reached t.call t.run h.under_way.runs (RestsOnLinks t.run.fop) AnyHold AnyAnswer (fops_change_links t.run.volume t.run.names t.run.kept t.run.fop)) made_handed (asked_as (op.AddName dir item mode span) None f g) in
            no_move from.made.change from.made.by (adopted_begun (m.changes from.made.change).verdict from.made.adopted) from.entry from.made.effect from.is_move.parent from.is_move.old dir item.name (from.made.op_is ∙ from.is_move.is_move) r.0 r.1
        by_none (op.DropName dir n) g f r = dropped_no t.run.handed (m.changes v).set (m.changes v).cells dir n none_dropped (asked_as (op.DropName dir n) None f g)
        by_none (op.Move x y z w) g f r = own_link (op.Move x y z w) g f
        by_none (op.DropDir dir n x) g f r = r
        by_none (op.Write x offset bytes) g f r = r
        by_none (op.Truncate x size) g f r = r
        by_none (op.SetMode x mode) g f r = r
        by_none (op.SetAttr x attr) g f r = r
        by_none (op.DelAttr x n) g f r = r
        by_none (op.MakeCopy x span) g f r = r

        by_some : (entry : Entry) (o : StoreOp) → (m.changes v).effect ≡ Some entry → (m.changes v).op ≡ o → Relinks o (Some entry) parent name → ⊥
        by_some entry (op.AddName dir item mode span) g f r =
            let own = own_entry first m reached v entry k.begun g in
            let makes = added_makes item.kind dir item mode own.part (sym (ap change_of f) ∙ own.makes) in
            takes_no_make t.run.fop parent name entry.part own.part takes (subst (λ (x : Fop). part_of (flat_op x) entry.part ≡ Some own.part) (own_fop v entry own k.by) own.part_is) makes.makes
        by_some entry (op.Move x y z w) g f r = no_move v k.by k.begun entry g x y z w f r.0 r.1
        by_some entry (op.DropName dir n) g f r = let clash : ◌≡◌ {A = Option Entry} (Some entry) None = r.0 in absurd cc
        by_some entry (op.DropDir dir n x) g f r = r
        by_some entry (op.Write x offset bytes) g f r = r
        by_some entry (op.Truncate x size) g f r = r
        by_some entry (op.SetMode x mode) g f r = r
        by_some entry (op.SetAttr x attr) g f r = r
        by_some entry (op.DelAttr x n) g f r = r
        by_some entry (op.MakeCopy x span) g f r = r

        by_effect : (e : Option Entry) → (m.changes v).effect ≡ e → (o : StoreOp) → (m.changes v).op ≡ o → Relinks (m.changes v).op (m.changes v).effect parent name → ⊥
        by_effect None g o f r = by_none o g f (subst (λ (x : StoreOp). Relinks x None parent name) f (subst (λ (e : Option Entry). Relinks (m.changes v).op e parent name) g r))
        by_effect (Some entry) g o f r = by_some entry o g f (subst (λ (x : StoreOp). Relinks x (Some entry) parent name) f (subst (λ (e : Option Entry). Relinks (m.changes v).op e parent name) g r))

    saw_link : SawLink t.run.handed parent name t.set
    saw_link = rests (op.DropName parent name) is

    link_there : item_in (m.adopted t.set) parent name ≡ Some saw_link.item
    link_there = by_stand (subst (λ (b : Bool). (item_in (m.adopted t.set) parent name ≡ Some saw_link.item) ⊎ OwnChange b m.changes t.call t.set parent name) saw_link.link
        (names t.call t.run h.under_way.runs parent t.set saw_link.shown name saw_link.item saw_link.saw saw_link.named))
      where
        by_stand : (item_in (m.adopted t.set) parent name ≡ Some saw_link.item) ⊎ OwnChange true m.changes t.call t.set parent name → item_in (m.adopted t.set) parent name ≡ Some saw_link.item
        by_stand (inl e) = e
        by_stand (inr own) = absurd (relinked_no own.change own.is)

    pub drops_link : BeginsAs m (op_on t.set (op.DropName parent name) None)
    drops_link = record {
      fits = record {
        on_set = low first m reached t u h cells fd (op.DropName parent name) None is;
        fits_set = fits_by first m reached t u h cells fd (op.DropName parent name) None is (ap (λ (x : Option Item). is_none x) link_there);
        stands = ap is_taken link_there ∙ ap not saw_link.link;
      };
      apart = λ w was. record {
        names = λ dir2 n x y. absurd x;
        inside = λ dir2 n x y. absurd x;
        outside = λ dir2 n x y. absurd y;
        born = λ g x y. absurd x;
        cells = cells_apart first m reached t u h cells fd (op.DropName parent name) None is w was;
      };
    }
