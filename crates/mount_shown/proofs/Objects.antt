-- A change of one object, a fop's first, begins well.
use Rattle.std.proofs.Common.{◌≡◌, inl, inr, ◌∙◌, ℕ, ◌+◌, Bool, true, false, nat_lt, refl, sym, ap, subst, List, length, Option, Some, None, if◌then◌else◌, is_none}
use Rattle.afr_machine.specs.Changes.Verdict.{Undrawn, Unsettled}
use Rattle.dht_fops.specs.Standing.{Volumes, HaveNoEffect}
use Rattle.dht_laws.proofs.HomesOfFops.{fops_change_on}
use Rattle.fop_types.specs.Cells.{meta_cell}
use Rattle.fop_types.specs.Files.{Files, object_at, object_attrs}
use Rattle.fop_types.specs.FileBytes.{file_limit}
use Rattle.fop_types.specs.Flat.{Outcome, write_outcome, truncate_outcome, delattr_outcome, where_attr, refused}
use Rattle.fop_types.specs.Flat.Outcome.{Changes}
use Rattle.fop_types.specs.Names.{attr_named}
use Rattle.fop_types.specs.StoreOps.{attrs_of, needs, is_unfit}
use Rattle.fop_types.specs.declared.answers.AppError.{AppError}
use Rattle.fop_types.specs.declared.cells.Cell.{Cell}
use Rattle.fop_types.specs.declared.cells.Gfid.{Gfid}
use Rattle.fop_types.specs.declared.cells.Kind.{Kind}
use Rattle.fop_types.specs.declared.cells.Kind.TheVariants as kind
use Rattle.fop_types.specs.declared.contents.Attr.{Attr}
use Rattle.fop_types.specs.declared.flat.FlatAnswer.{FlatAnswer}
use Rattle.fop_types.specs.declared.flat.FlatObject.{FlatObject}
use Rattle.fop_types.specs.declared.flat.FlatObject.TheVariants.{File, Directory}
use Rattle.fop_types.specs.declared.history.Entry.{Entry}
use Rattle.fop_types.specs.declared.jobs.Job.TheVariants as job
use Rattle.fop_types.specs.declared.store_ops.StoreOp.{StoreOp}
use Rattle.fop_types.specs.declared.store_ops.StoreOp.TheVariants as op
use Rattle.mount_files.proofs.Local.{ShownOf, to_local}
use Rattle.mount_files.proofs.Naming.{directory_made}
use Rattle.mount_files.proofs.Objects.{file_made}
use Rattle.mount_files.specs.Pairs.{OpOn, AreApart, Needs}
use Rattle.mount_files.specs.Showing.{IsOn, IsPlaced}
use Rattle.mount_laws.specs.Guards.{Allowed, IsReached}
use Rattle.mount_laws.specs.Homes.{IsObjectOn, IsChangedOn}
use Rattle.mount_laws.specs.Objects.{volumes, IsMadeOn}
use Rattle.mount_laws.specs.States.{State, Change}
use Rattle.mount_laws.specs.Steps.{Step, Task, after}
use Rattle.mount_laws.proofs.Homing.{changed_home}
use Rattle.mount_shown.proofs.Beginning.{op_on, BeginsAs, low, fits_by, cells_apart, here, reached_after}
use Rattle.mount_shown.proofs.First.{accepted, flat_on}
use Rattle.mount_shown.specs.Bridge.{op_of}
use Rattle.mount_shown.specs.Pending.{KeepsFiles}

-- ---- by what is accepted

bounded : (b : Bool) (o : Outcome) (a : FlatAnswer) (after : Files) (error : AppError) → (if b then refused error else o) ≡ Changes a after → b ≡ false
bounded true o a after error e = absurd cc
bounded false o a after error e = refl

write_small : (files : Files) (g : Gfid) (offset : ℕ) (new : List ℕ) (x : Option FlatObject) (a : FlatAnswer) (after : Files) → write_outcome files g offset new x ≡ Changes a after → nat_lt file_limit (offset + length new) ≡ false
write_small files g offset new None a after e = absurd cc
write_small files g offset new (Some (Directory names mode attrs removed)) a after e = absurd cc
write_small files g offset new (Some (File bytes mode attrs)) a after e = bounded (nat_lt file_limit (offset + length new)) _ a after _ e

truncate_small : (files : Files) (g : Gfid) (size : ℕ) (x : Option FlatObject) (a : FlatAnswer) (after : Files) → truncate_outcome files g size x ≡ Changes a after → nat_lt file_limit size ≡ false
truncate_small files g size None a after e = absurd cc
truncate_small files g size (Some (Directory names mode attrs removed)) a after e = absurd cc
truncate_small files g size (Some (File bytes mode attrs)) a after e = bounded (nat_lt file_limit size) _ a after _ e

attr_there : (x : Option Attr) (o : Outcome) (a : FlatAnswer) (after : Files) → where_attr x o ≡ Changes a after → is_none x ≡ false
attr_there None o a after e = absurd cc
attr_there (Some attr) o a after e = refl

-- the object has the attribute
pub record HasAttr (files : Files) (g : Gfid) (name : List ℕ) : Type 0 where
  pub object : FlatObject
  pub object_is : object_at files g ≡ Some object
  pub there : is_none (attr_named (object_attrs object) name) ≡ false

delattr_there : (files : Files) (g : Gfid) (name : List ℕ) (x : Option FlatObject) → object_at files g ≡ x → (a : FlatAnswer) (after : Files) → delattr_outcome files g name x ≡ Changes a after → HasAttr files g name
delattr_there files g name None is a after e = absurd cc
delattr_there files g name (Some object) is a after e = record { object = object; object_is = is; there = attr_there (attr_named (object_attrs object) name) _ a after e }

-- an object's attributes are those on the set that has it
same_attrs : (x y : FlatObject) (l : List Attr) → ◌≡◌ {A = Option FlatObject} (Some x) (Some y) → object_attrs x ≡ l → object_attrs y ≡ l
same_attrs x y l e f = let is : x ≡ y = cc in ap object_attrs (sym is) ∙ f

attrs_on : (s : Volumes) (count set : ℕ) (g : Gfid) (object : FlatObject) → ShownOf s count g → IsObjectOn s.kinds s.homes set g → object_at s.files g ≡ Some object → object_attrs object ≡ attrs_of (s.contents set (meta_cell g))
attrs_on s count set g object shown (inl d) e =
    let dir = directory_made s count g shown d.0 in
    subst (λ (x : ℕ). object_attrs object ≡ attrs_of (s.contents x (meta_cell g))) (sym d.1)
    (same_attrs _ object (attrs_of (s.contents 0 (meta_cell g))) (sym dir.object_is ∙ e) (sym (ap attrs_of dir.meta.content_is)))
attrs_on s count set g object shown (inr f) e =
    let file = file_made s count set g shown f.0 (f.1 refl) in
    same_attrs _ object (attrs_of (s.contents set (meta_cell g))) (sym file.object_is ∙ e) (sym (ap attrs_of file.meta.content_is))

file_on : (s : Volumes) (set : ℕ) (g : Gfid) → IsMadeOn s.kinds s.homes set g kind.File → IsOn s set g
file_on s set g k = record { file = λ e. k.1 refl; directory = λ e. let clash : ◌≡◌ {A = Option Kind} (Some kind.File) (Some kind.Dir) = sym k.0 ∙ e in absurd cc }

object_on : (s : Volumes) (set : ℕ) (g : Gfid) → IsObjectOn s.kinds s.homes set g → IsOn s set g
object_on s set g (inl d) = record { file = λ e. let clash : ◌≡◌ {A = Option Kind} (Some kind.Dir) (Some kind.File) = sym d.0 ∙ e in absurd cc; directory = λ e. d.1 }
object_on s set g (inr k) = file_on s set g k

-- ---- ops that touch no name

-- an op on an object's bytes, mode or attributes
abbrev pub IsOnObject : StoreOp → Type 0
IsOnObject (op.Write g offset bytes) = Unit {0}
IsOnObject (op.Truncate g size) = Unit {0}
IsOnObject (op.SetMode g mode) = Unit {0}
IsOnObject (op.SetAttr g attr) = Unit {0}
IsOnObject (op.DelAttr g name) = Unit {0}
IsOnObject other = ⊥

plain_apart : (set : ℕ) (o : StoreOp) (entry : Entry) (w : OpOn) → IsOnObject o → (set ≡ w.set → (cell : Cell) → Needs (needs o) cell → Needs (needs w.op) cell → ⊥) → AreApart (op_on set o (Some entry)) w
plain_apart set (op.Write g offset bytes) entry w is cells = record { names = λ d n x y. absurd x; inside = λ d n x y. absurd x; outside = λ d n x y. absurd y; born = λ d x y. absurd x; cells = cells }
plain_apart set (op.Truncate g size) entry w is cells = record { names = λ d n x y. absurd x; inside = λ d n x y. absurd x; outside = λ d n x y. absurd y; born = λ d x y. absurd x; cells = cells }
plain_apart set (op.SetMode g mode) entry w is cells = record { names = λ d n x y. absurd x; inside = λ d n x y. absurd x; outside = λ d n x y. absurd y; born = λ d x y. absurd x; cells = cells }
plain_apart set (op.SetAttr g attr) entry w is cells = record { names = λ d n x y. absurd x; inside = λ d n x y. absurd x; outside = λ d n x y. absurd y; born = λ d x y. absurd x; cells = cells }
plain_apart set (op.DelAttr g name) entry w is cells = record { names = λ d n x y. absurd x; inside = λ d n x y. absurd x; outside = λ d n x y. absurd y; born = λ d x y. absurd x; cells = cells }
plain_apart set (op.AddName parent item mode span) entry w is cells = absurd is
plain_apart set (op.DropName parent name) entry w is cells = absurd is
plain_apart set (op.DropDir parent name g) entry w is cells = absurd is
plain_apart set (op.Move parent name target new_name) entry w is cells = absurd is
plain_apart set (op.MakeCopy g span) entry w is cells = absurd is

module _ (first : List (List ℕ)) (m : State) (reached : IsReached first m) (a : KeepsFiles m) (t : Task) (u : ℕ) (h : Allowed m (Step.BeginsChange t u)) (none : HaveNoEffect t.run.handed) (cells : List Cell) (fd : ℕ) (entry : Entry) where
  changed_on : (o : StoreOp) → t.job ≡ job.Change cells fd o (Some entry) → IsChangedOn m.kinds m.homes t.set o
  changed_on o is =
      let at = here first m reached t u h cells fd o (Some entry) is in
      subst (λ (x : Change). IsChangedOn m.kinds m.homes x.set x.op) at
      (changed_home fops_change_on first (after m (Step.BeginsChange t u)) (reached_after first m reached t u h cells fd o (Some entry) is) u entry
      (λ e. let clash : Unsettled ≡ Undrawn = sym (ap (λ (x : Change). x.verdict) at) ∙ e in absurd cc) (ap (λ (x : Change). x.effect) at))

  begins : (o : StoreOp) → t.job ≡ job.Change cells fd o (Some entry) → IsOnObject o → is_unfit (m.adopted t.set) o ≡ false → IsPlaced (volumes m) t.set o → BeginsAs m (op_on t.set o (Some entry))
  begins o is plain unfit placed = record {
    fits = record {
      on_set = low first m reached t u h cells fd o (Some entry) is;
      fits_set = fits_by first m reached t u h cells fd o (Some entry) is unfit;
      stands = (accepted first m reached a t u h none cells fd o entry is, placed);
    };
    apart = λ w was. plain_apart t.set o entry (op_of (m.changes w)) plain (cells_apart first m reached t u h cells fd o (Some entry) is w was);
  }

  pub changes_object : (o : StoreOp) → t.job ≡ job.Change cells fd o (Some entry) → IsOnObject o → BeginsAs m (op_on t.set o (Some entry))
  changes_object (op.Write g offset bytes) is plain =
      let accept = accepted first m reached a t u h none cells fd (op.Write g offset bytes) entry is in
      begins (op.Write g offset bytes) is plain (write_small (volumes m).files g offset bytes (object_at (volumes m).files g) accept.answer accept.after accept.accepted) (file_on (volumes m) t.set g (changed_on (op.Write g offset bytes) is))
  changes_object (op.Truncate g size) is plain =
      let accept = accepted first m reached a t u h none cells fd (op.Truncate g size) entry is in
      begins (op.Truncate g size) is plain (truncate_small (volumes m).files g size (object_at (volumes m).files g) accept.answer accept.after accept.accepted) (file_on (volumes m) t.set g (changed_on (op.Truncate g size) is))
  changes_object (op.SetMode g mode) is plain = begins (op.SetMode g mode) is plain refl (object_on (volumes m) t.set g (changed_on (op.SetMode g mode) is))
  changes_object (op.SetAttr g attr) is plain = begins (op.SetAttr g attr) is plain refl (object_on (volumes m) t.set g (changed_on (op.SetAttr g attr) is))
  changes_object (op.DelAttr g name) is plain =
      let accept = accepted first m reached a t u h none cells fd (op.DelAttr g name) entry is in
      let has = delattr_there (volumes m).files g name (object_at (volumes m).files g) refl accept.answer accept.after accept.accepted in
      let on = changed_on (op.DelAttr g name) is in
      begins (op.DelAttr g name) is plain
      (ap (λ (l : List Attr). is_none (attr_named l name)) (sym (attrs_on (volumes m) t.run.volume.sets t.set g has.object (to_local (volumes m) t.run.volume.sets (flat_on first m reached a t u h none) g) on has.object_is)) ∙ has.there)
      (object_on (volumes m) t.set g on)
  changes_object (op.AddName parent item mode span) is plain = absurd plain
  changes_object (op.DropName parent name) is plain = absurd plain
  changes_object (op.DropDir parent name g) is plain = absurd plain
  changes_object (op.Move parent name target new_name) is plain = absurd plain
  changes_object (op.MakeCopy g span) is plain = absurd plain
