-- A fop's first change with an effect, where it is of names, begins well.
use Rattle.std.proofs.Common.{◌≡◌, ◌≢◌, ◌⊎◌, inl, inr, ◌∙◌, ℕ, ◌<◌, true, false, not, refl, sym, ap, subst, List, [], ◌∷◌, Option, Some, None, is_some, is_none, arith}
use Rattle.afr_machine.specs.Changes.Verdict.{Undrawn, Unsettled, Adopted}
use Rattle.dht_fops.proofs.Bounds.{answers_bounded}
use Rattle.dht_fops.specs.Answers.{Accepts, added, change_of, flat_op}
use Rattle.dht_fops.specs.Founded.{IsWellAsked, SawEmptied, WasDropped, IsDropOf}
use Rattle.dht_fops.specs.Handed.{Handed, Event, SawName, SawNowhere}
use Rattle.dht_fops.specs.Handed.Event.{Replied, Held}
use Rattle.dht_fops.specs.Standing.{HaveNoEffect, HasNoEffect}
use Rattle.dht_laws.proofs.EndingsOfFops.{fops_answer}
use Rattle.dht_laws.proofs.HomesOfFops.{fops_bear, fops_change_on}
use Rattle.dht_laws.proofs.TracesOfFops.{fops_change_links}
use Rattle.dht_laws.proofs.Unheeded.{bear_once}
use Rattle.fop_types.specs.Bounds.{IsTarget}
use Rattle.fop_types.specs.Cells.{root, names_cell}
use Rattle.fop_types.specs.Files.{Files, object_at, new_file, new_directory}
use Rattle.fop_types.specs.Flat.{item_of, with_new}
use Rattle.fop_types.specs.Names.{item_named, is_link, has_real_name}
use Rattle.fop_types.specs.StoreOps.{items_of, is_removed, is_taken, item_in, is_that_directory, born}
use Rattle.fop_types.specs.declared.cells.Aspect.{Aspect}
use Rattle.fop_types.specs.declared.cells.Cell.{Cell}
use Rattle.fop_types.specs.declared.cells.Gfid.{Gfid}
use Rattle.fop_types.specs.declared.cells.Kind.{Kind}
use Rattle.fop_types.specs.declared.cells.Kind.TheVariants as kind
use Rattle.fop_types.specs.declared.contents.Item.{Item}
use Rattle.fop_types.specs.declared.contents.Span.{Span}
use Rattle.fop_types.specs.declared.flat.FlatOp.{FlatOp}
use Rattle.fop_types.specs.declared.flat.FlatOp.TheVariants as flat
use Rattle.fop_types.specs.declared.fops.Fop.{Fop}
use Rattle.fop_types.specs.declared.fops.Fop.TheVariants as fop
use Rattle.fop_types.specs.declared.history.Entry.{Entry}
use Rattle.fop_types.specs.declared.jobs.Job.TheVariants as job
use Rattle.fop_types.specs.declared.store_ops.StoreOp.{StoreOp}
use Rattle.fop_types.specs.declared.store_ops.StoreOp.TheVariants as op
use Rattle.mount_files.proofs.Accepting.{IsOpen, added_is, dropped_is, removed_is}
use Rattle.mount_files.proofs.Families.{taken_some}
use Rattle.mount_files.proofs.Keeping.{both_first}
use Rattle.mount_files.proofs.Local.{to_local}
use Rattle.mount_files.proofs.Naming.{IsOpenDirectory, open_directory}
use Rattle.mount_files.proofs.Sentences.{name_here, name_nowhere}
use Rattle.mount_files.specs.Pairs.{Touches, Removes, BirthsOf, Fits}
use Rattle.mount_files.specs.Seen.{IsHere, IsNowhere}
use Rattle.mount_files.specs.Showing.{ShownIsFlat}
use Rattle.mount_laws.specs.Births.{IsBornOf, IsFreeBy, IsMkdir}
use Rattle.mount_laws.specs.Effects.{IsOwnPart, part_of}
use Rattle.mount_laws.specs.Guards.{Allowed, IsReached}
use Rattle.mount_laws.specs.Homes.{IsChangedOn}
use Rattle.mount_laws.specs.Objects.{volumes, IsMadeBy}
use Rattle.mount_laws.specs.States.{State, Change, Status}
use Rattle.mount_laws.specs.States.Status.{Running}
use Rattle.mount_laws.specs.Steps.{Step, Task, after}
use Rattle.mount_laws.proofs.Bearing.{CourseLaws, unconfirmed_born}
use Rattle.mount_laws.proofs.Drawing.{drawn_apart, began_in, adds_drawn, added_makes, makes_drawn, one_part}
use Rattle.mount_laws.proofs.Entering.{began_is, own_job}
use Rattle.mount_laws.proofs.Free.{drawn_free, some_or}
use Rattle.mount_laws.proofs.Homing.{changed_home}
use Rattle.mount_laws.proofs.Making.{made_by_change}
use Rattle.mount_shown.proofs.Asked.{none_begun, not_settled}
use Rattle.mount_shown.proofs.Bearing.{pending_add}
use Rattle.mount_shown.proofs.Beginning.{op_on, BeginsAs, asks, low, low_run, fits_by, cells_apart, here, reached_after}
use Rattle.mount_shown.proofs.Founding.{flat_run, fits_run, founded, names_are, nobody_on, accepts}
use Rattle.mount_shown.proofs.Names.{untaken_no, no_real, some_that, either_no, empty_by}
use Rattle.mount_shown.proofs.Planned.{handed_bounded}
use Rattle.mount_shown.specs.Bridge.{op_of}
use Rattle.mount_shown.specs.Pending.{KeepsFiles}

-- ---- operations that are accepted

pub open_add : (files : Files) (parent : Gfid) (item : Item) (mode : ℕ) (k : Kind) → Accepts files (added parent item mode k) → IsOpen (object_at files parent) item.name
open_add files parent item mode kind.File a = (added_is files parent item.name (with_new files parent (item_of item.name item.gfid kind.File) (new_file mode)) a.answer a.after a.accepted).open_at
open_add files parent item mode kind.Dir a = (added_is files parent item.name (with_new files parent (item_of item.name item.gfid kind.Dir) (new_directory mode)) a.answer a.after a.accepted).open_at
open_add files parent item mode kind.Link a = absurd a

no_link_add : (files : Files) (parent : Gfid) (item : Item) (mode : ℕ) (k : Kind) → Accepts files (added parent item mode k) → is_link k ≡ false
no_link_add files parent item mode kind.File a = refl
no_link_add files parent item mode kind.Dir a = refl
no_link_add files parent item mode kind.Link a = absurd a

no_target : (k : Kind) (target : List ℕ) → is_link k ≡ false → IsTarget k target → target ≡ []
no_target kind.File target l t = empty_by target t
no_target kind.Dir target l t = empty_by target t
no_target kind.Link target l t = absurd cc

born_gfid : (k : Kind) (gfid : Gfid) (mode : ℕ) (span : Option Span) (g : Gfid) → BirthsOf (born k gfid mode span) g → gfid ≡ g
born_gfid kind.File gfid mode span g (inl e) = e
born_gfid kind.File gfid mode span g (inr (inl e)) = e
born_gfid kind.File gfid mode span g (inr (inr x)) = absurd x
born_gfid kind.Dir gfid mode span g (inl e) = e
born_gfid kind.Dir gfid mode span g (inr (inl e)) = e
born_gfid kind.Dir gfid mode span g (inr (inr x)) = absurd x
born_gfid kind.Link gfid mode span g x = absurd x

-- a mkdir adds a directory
mkdir_dir : (f : Fop) (parent : Gfid) (item : Item) (mode : ℕ) (k : Kind) (number : ℕ) (p : FlatOp) → IsMkdir f → part_of (flat_op f) number ≡ Some p → added parent item mode k ≡ Some p → k ≡ kind.Dir
mkdir_dir (fop.Mkdir dir name new drawn) parent item mode kind.File number p is part e =
    let one = (one_part (flat.Mkdir dir.gfid name new drawn) number p refl part).0 in
    let clash : ◌≡◌ {A = Option FlatOp} (Some (flat.Create parent item.name mode item.gfid)) (Some (flat.Mkdir dir.gfid name new drawn)) = e ∙ ap (λ (x : FlatOp). Some x) (sym one) in absurd cc
mkdir_dir (fop.Mkdir dir name new drawn) parent item mode kind.Dir number p is part e = refl
mkdir_dir (fop.Mkdir dir name new drawn) parent item mode kind.Link number p is part e = absurd cc
mkdir_dir (fop.Lookup dir name) parent item mode k number p is part e = absurd is
mkdir_dir (fop.Rmdir dir name) parent item mode k number p is part e = absurd is
mkdir_dir (fop.Create fd dir name new drawn) parent item mode k number p is part e = absurd is
mkdir_dir (fop.Unlink dir name) parent item mode k number p is part e = absurd is
mkdir_dir (fop.Rename dir name target new_name) parent item mode k number p is part e = absurd is
mkdir_dir (fop.Open fd object) parent item mode k number p is part e = absurd is
mkdir_dir (fop.Stat object) parent item mode k number p is part e = absurd is
mkdir_dir (fop.List object) parent item mode k number p is part e = absurd is
mkdir_dir (fop.Chmod object new) parent item mode k number p is part e = absurd is
mkdir_dir (fop.Truncate object size) parent item mode k number p is part e = absurd is
mkdir_dir (fop.SetAttr object attr) parent item mode k number p is part e = absurd is
mkdir_dir (fop.GetAttr object name) parent item mode k number p is part e = absurd is
mkdir_dir (fop.DelAttr object name) parent item mode k number p is part e = absurd is
mkdir_dir (fop.Read fd object offset n) parent item mode k number p is part e = absurd is
mkdir_dir (fop.Write fd object offset bytes) parent item mode k number p is part e = absurd is
mkdir_dir (fop.Migrate fds) parent item mode k number p is part e = absurd is
mkdir_dir (fop.Heal n) parent item mode k number p is part e = absurd is

-- no drop was made before the first effect
pub none_dropped : (handed : Handed) (dir : Gfid) (name : List ℕ) → HaveNoEffect handed → WasDropped handed dir name → ⊥
none_dropped [] dir name none w = w
none_dropped (event ∷ handed) dir name none (inr w) = none_dropped handed dir name none.1 w
none_dropped (event ∷ handed) dir name none (inl k) = by_event event none.0 k
  where
    by_event : (e : Event) → HasNoEffect e → IsDropOf e dir name → ⊥
    by_event (Replied set (job.Change cells fd o (Some entry)) shown) n d = n
    by_event (Replied set (job.Change cells fd o None) shown) n d = d
    by_event (Replied set (job.Read cells fd x) shown) n d = d
    by_event (Replied set (job.Birth cells o) shown) n d = d
    by_event (Replied set (job.Open fd gfid) shown) n d = d
    by_event (Replied set job.Index shown) n d = d
    by_event (Replied set (job.Heal cell) shown) n d = d
    by_event (Held held) n d = d

laws : CourseLaws
laws = record { bear_first = fops_bear; bear_once = bear_once; links = fops_change_links; answers = fops_answer }

-- ---- before the first effect

module _ (first : List (List ℕ)) (m : State) (reached : IsReached first m) (a : KeepsFiles m) (t : Task) (u : ℕ) (h : Allowed m (Step.BeginsChange t u)) (none : HaveNoEffect t.run.handed) where
  pub nobody : (w : ℕ) → (m.changes w).by ≡ t.call → (m.changes w).verdict ≡ Undrawn
  nobody = none_begun first m reached t.call t.run h.under_way.runs none (not_settled t.run h.place h.settled)

  count : ℕ
  count = t.run.volume.sets

  pub flat_on : ShownIsFlat (volumes m) t.run.volume.sets
  flat_on = flat_run first m reached a t.call t.run h.under_way.runs

  fits_on : (w : ℕ) → (m.changes w).verdict ≡ Unsettled → Fits (volumes m) t.run.volume.sets (op_of (m.changes w))
  fits_on = fits_run first m reached a t.call t.run h.under_way.runs

  pub accepted : (cells : List Cell) (fd : ℕ) (o : StoreOp) (entry : Entry) → t.job ≡ job.Change cells fd o (Some entry) → Accepts (volumes m).files (change_of o)
  accepted cells fd o entry is = accepts first m reached a t.call t.run h.under_way.runs nobody none t.set cells fd o entry t.next (asks first m reached t u h cells fd o (Some entry) is)

  pub rests : (cells : List Cell) (fd : ℕ) (o : StoreOp) (entry : Entry) → t.job ≡ job.Change cells fd o (Some entry) → IsWellAsked t.run.volume.sets t.run.handed t.set (job.Change cells fd o (Some entry))
  rests cells fd o entry is = founded first m reached a t.call t.run h.under_way.runs t.set (job.Change cells fd o (Some entry)) t.next (asks first m reached t u h cells fd o (Some entry) is)

  open_dir : (dir : Gfid) (name : List ℕ) → (w : IsOpen (object_at (volumes m).files dir) name) → IsOpenDirectory (volumes m) t.run.volume.sets dir
  open_dir dir name w = open_directory (volumes m) t.run.volume.sets dir w.names w.mode w.attrs (to_local (volumes m) t.run.volume.sets flat_on dir) w.object_is

  -- ---- a name that was seen nowhere

  pub untaken_at : (dir : Gfid) (name : List ℕ) → SawNowhere t.run.volume.sets t.run.handed dir name → (set : ℕ) → set < t.run.volume.sets → is_taken (item_in (m.adopted set) dir name) ≡ false
  untaken_at dir name saw set k =
      let s = saw set k in
      ap (λ (items : List Item). is_taken (item_named items name)) (names_are first m reached a t.call t.run h.under_way.runs nobody dir set s.shown s.saw).items ∙ untaken_no (item_named s.shown.items name) s.none

  nowhere : (dir : Gfid) (name : List ℕ) → SawNowhere t.run.volume.sets t.run.handed dir name → m.kinds dir ≡ Some kind.Dir → IsNowhere (volumes m) t.run.volume.sets dir name
  nowhere dir name saw made = name_nowhere (volumes m) t.run.volume.sets dir name flat_on made (untaken_at dir name saw)

  -- no unsettled change touches a name of the directory, or removes it
  pub untouched : (dir : Gfid) (name : List ℕ) → SawNowhere t.run.volume.sets t.run.handed dir name → m.kinds dir ≡ Some kind.Dir → (w : ℕ) → (m.changes w).verdict ≡ Unsettled → (other : List ℕ) → Touches (m.changes w).op (m.changes w).effect dir other ⊎ Removes (m.changes w).op dir → ⊥
  untouched dir name saw made w was other k =
      let n = (nowhere dir name saw made).needed (op_of (m.changes w)) other (fits_on w was) k in
      let s = saw (m.changes w).set n.0 in
      nobody_on first m reached a t.call t.run h.under_way.runs nobody dir (m.changes w).set s.shown s.saw w was refl n.1

  -- ---- a name that was seen

  pub named_on : (dir : Gfid) (name : List ℕ) (set : ℕ) (gfid : Gfid) (k : Kind) → (s : SawName t.run.handed dir name set gfid k) → item_in (m.adopted set) dir name ≡ Some s.item
  named_on dir name set gfid k s = ap (λ (items : List Item). item_named items name) (names_are first m reached a t.call t.run h.under_way.runs nobody dir set s.shown s.saw).items ∙ s.named

  pub here_at : (dir : Gfid) (name : List ℕ) (set : ℕ) (gfid : Gfid) (k : Kind) → (s : SawName t.run.handed dir name set gfid k) → m.kinds dir ≡ Some kind.Dir → IsHere (volumes m) t.run.volume.sets set dir name s.item
  here_at dir name set gfid k s made = name_here (volumes m) t.run.volume.sets set dir name s.item flat_on made (named_on dir name set gfid k s) s.is_object

  -- ---- the gfid that the call drew

  module _ (cells : List Cell) (fd : ℕ) (parent : Gfid) (item : Item) (mode : ℕ) (span : Option Span) (entry : Entry) (is : t.job ≡ job.Change cells fd (op.AddName parent item mode span) (Some entry)) where
    own_part : IsOwnPart t.call t.run.fop t.run.handed t.set (op.AddName parent item mode span) entry
    own_part = own_job first m reached t.call t.run t.set (job.Change cells fd (op.AddName parent item mode span) (Some entry)) t.next h.under_way.runs (asks first m reached t u h cells fd (op.AddName parent item mode span) (Some entry) is)

    drawn_is : (m.calls t.call).drawn ≡ Some item.gfid
    drawn_is =
        let made = added_makes item.kind parent item mode own_part.part own_part.makes in
        (makes_drawn t.run.fop entry.part own_part.part made.makes own_part.part_is (m.calls t.call).drawn ((began_in first m reached).draws t.call t.run.fop (began_is first m reached t.call t.run h.under_way.runs))).0 ∙ made.gfid_is

    -- no change adds the object
    not_added : (w : ℕ) (other : Entry) (dir : Gfid) (one : Item) (new : ℕ) (range : Option Span) → (m.changes w).verdict ≢ Undrawn → (m.changes w).effect ≡ Some other → (m.changes w).op ≡ op.AddName dir one new range → one.gfid ≡ item.gfid → ⊥
    not_added w other dir one new range begun effect op_is same =
        let theirs = (adds_drawn first m reached w other dir one new range begun effect op_is).0 in
        begun (nobody w ((drawn_apart first m reached).apart (m.changes w).by t.call item.gfid (theirs ∙ ap (λ (g : Gfid). Some g) same) drawn_is))

    unmade : m.kinds item.gfid ≡ None
    unmade = by_kind (m.kinds item.gfid) refl
      where
        by_made : (k : Kind) → ((item.gfid ≡ root) × (k ≡ kind.Dir)) ⊎ IsMadeBy m.changes m.homes item.gfid k → ⊥
        by_made k (inl r) = (drawn_apart first m reached).no_root t.call item.gfid drawn_is r.0
        by_made k (inr b) = not_added b.change b.entry b.parent b.item b.mode b.span (λ e. let clash : Adopted ≡ Undrawn = sym b.adopted ∙ e in absurd cc) b.effect b.op_is b.gfid_is

        by_kind : (k : Option Kind) → m.kinds item.gfid ≡ k → k ≡ None
        by_kind None e = refl
        by_kind (Some k) e = absurd (by_made k (made_by_change first m reached item.gfid k e))

    unborn : (aspect : Aspect) → is_some (m.born t.set (record { gfid = item.gfid; aspect = aspect })) ≡ true → ⊥
    unborn aspect born_there = by_born (free t.set (record { gfid = item.gfid; aspect = aspect }) refl born_there)
      where
        free : IsFreeBy m.kinds m.changes m.born t.call (Running t.run) item.gfid
        free = subst (λ (s : Status). IsFreeBy m.kinds m.changes m.born t.call s item.gfid) h.under_way.runs ((drawn_free fops_bear fops_change_links first m reached).born t.call item.gfid drawn_is)

        by_born : IsBornOf m.kinds m.changes t.call t.run item.gfid t.set → ⊥
        by_born (inl made) = let no_kind = ap (λ (k : Option Kind). is_some k) unmade in absurd cc
        by_born (inr (inl b)) =
            let dir = mkdir_dir t.run.fop parent item mode item.kind entry.part own_part.part b.mkdir own_part.part_is own_part.makes in
            let zero_set = own_part.on_first dir in
            let more = b.further in absurd (omega (arith, zero_set, more))
        by_born (inr (inr k)) = k.begun (nobody k.change k.by)

    absent : (aspect : Aspect) → m.adopted t.set (record { gfid = item.gfid; aspect = aspect }) ≡ None
    absent aspect = by_some (some_or (m.adopted t.set (record { gfid = item.gfid; aspect = aspect })))
      where
        by_some : (m.adopted t.set (record { gfid = item.gfid; aspect = aspect }) ≡ None) ⊎ (is_some (m.adopted t.set (record { gfid = item.gfid; aspect = aspect })) ≡ true) → m.adopted t.set (record { gfid = item.gfid; aspect = aspect }) ≡ None
        by_some (inl e) = e
        by_some (inr e) = absurd (unborn aspect ((unconfirmed_born laws first m reached t.set (record { gfid = item.gfid; aspect = aspect })).there e))

    target_none : is_link item.kind ≡ false → item.target ≡ []
    target_none l =
        let job_is = (rests cells fd (op.AddName parent item mode span) entry is).whole (handed_bounded answers_bounded first m reached t.call t.run h.under_way.runs) in
        no_target item.kind item.target l job_is.2.1.2

    pub adds : BeginsAs m (op_on t.set (op.AddName parent item mode span) (Some entry))
    adds =
        let accept = accepted cells fd (op.AddName parent item mode span) entry is in
        let saw = (rests cells fd (op.AddName parent item mode span) entry is).founded in
        let dir = open_dir parent item.name (open_add (volumes m).files parent item mode item.kind accept) in
        let l = no_link_add (volumes m).files parent item mode item.kind accept in
        let low_set = low_run first m reached t u h cells fd (op.AddName parent item mode span) (Some entry) is in
        let s = saw t.set low_set in
        let kept = (names_are first m reached a t.call t.run h.under_way.runs nobody parent t.set s.shown s.saw).removed ∙ s.kept in
        record {
          fits = record {
            on_set = low first m reached t u h cells fd (op.AddName parent item mode span) (Some entry) is;
            fits_set = fits_by first m reached t u h cells fd (op.AddName parent item mode span) (Some entry) is
                (either_no (is_removed (m.adopted t.set (names_cell parent))) (is_taken (item_in (m.adopted t.set) parent item.name)) kept (untaken_at parent item.name saw t.set low_set));
            stands = (accept, record { target = target_none l; unmade = unmade; absent = absent; directory = own_part.on_first });
          };
          apart = λ w was. record {
            names = λ dir2 name x y. untouched parent item.name saw dir.directory.kind_is w was name (inl (subst (λ (g : Gfid). Touches (m.changes w).op (m.changes w).effect g name) (sym x.0) y));
            inside = λ dir2 name x y. absurd x;
            outside = λ dir2 name x y. untouched parent item.name saw dir.directory.kind_is w was name (inr (subst (λ (g : Gfid). Removes (m.changes w).op g) (sym y.0) x));
            born = λ g x y.
                (let k = pending_add first m reached a w was g y in
                not_added w k.entry k.add.parent k.add.item k.add.mode k.add.span (λ e. let clash : Unsettled ≡ Undrawn = sym was ∙ e in absurd cc) k.effect k.add.op_is
                (k.add.gfid_is ∙ sym (born_gfid item.kind item.gfid mode span g x)));
            cells = cells_apart first m reached t u h cells fd (op.AddName parent item mode span) (Some entry) is w was;
          };
        }

  -- ---- a file's name is dropped

  pub drops : (cells : List Cell) (fd : ℕ) (parent : Gfid) (name : List ℕ) (entry : Entry) → t.job ≡ job.Change cells fd (op.DropName parent name) (Some entry) → BeginsAs m (op_on t.set (op.DropName parent name) (Some entry))
  drops cells fd parent name entry is =
      let o = op.DropName parent name in
      let accept = accepted cells fd o entry is in
      let saw = (rests cells fd o entry is).founded in
      let w0 = dropped_is (volumes m).files parent name accept.answer accept.after accept.accepted in
      let dir = open_dir parent name w0.open_at in
      let item_is = named_on parent name t.set saw.gfid kind.File saw.saw in
      let at = here_at parent name t.set saw.gfid kind.File saw.saw dir.directory.kind_is in
      record {
        fits = record {
          on_set = low first m reached t u h cells fd o (Some entry) is;
          fits_set = fits_by first m reached t u h cells fd o (Some entry) is (ap (λ (x : Option Item). is_none x) item_is);
          stands = (accept, ap is_taken item_is ∙ taken_some saw.saw.item saw.saw.is_object);
        };
        apart = λ w was. record {
          names = λ dir2 n x y.
              (let k = at.touched (op_of (m.changes w)) (fits_on w was) (subst (λ (g : Gfid). Touches (m.changes w).op (m.changes w).effect g name) (sym x.0) (subst (λ (l : List ℕ). Touches (m.changes w).op (m.changes w).effect dir2 l) (sym x.1) y)) in
              cells_apart first m reached t u h cells fd o (Some entry) is w was (sym k.0) (names_cell parent) (inl refl) k.1);
          inside = λ dir2 n x y. absurd x;
          outside = λ dir2 n x y. at.stays (op_of (m.changes w)) (fits_on w was) (subst (λ (g : Gfid). Removes (m.changes w).op g) (sym y.0) x);
          born = λ g x y. absurd x;
          cells = cells_apart first m reached t u h cells fd o (Some entry) is w was;
        };
      }

  -- ---- a directory is removed

  pub removes : (cells : List Cell) (fd : ℕ) (parent : Gfid) (name : List ℕ) (gfid : Gfid) (entry : Entry) → t.job ≡ job.Change cells fd (op.DropDir parent name gfid) (Some entry) → BeginsAs m (op_on t.set (op.DropDir parent name gfid) (Some entry))
  removes cells fd parent name gfid entry is =
      let o = op.DropDir parent name gfid in
      let accept = accepted cells fd o entry is in
      let saw = (rests cells fd o entry is).founded in
      let w0 = removed_is (volumes m).files parent name accept.answer accept.after accept.accepted in
      let dir = open_dir parent name w0.open_at in
      let item_is = named_on parent name saw.set gfid kind.Dir saw.saw in
      let at = here_at parent name saw.set gfid kind.Dir saw.saw dir.directory.kind_is in
      let made = flat_on.sound.named parent name saw.set saw.saw.item item_is saw.saw.is_object in
      let gfid_made : m.kinds gfid ≡ Some kind.Dir = ap (λ (g : Gfid). m.kinds g) (sym saw.saw.gfid_is) ∙ made ∙ ap (λ (k : Kind). Some k) saw.saw.kind_is in
      let zero_here : t.set ≡ 0 =
      subst (λ (x : Change). IsChangedOn m.kinds m.homes x.set x.op) (here first m reached t u h cells fd o (Some entry) is)
      (changed_home fops_change_on first (after m (Step.BeginsChange t u)) (reached_after first m reached t u h cells fd o (Some entry) is) u entry
      (λ e. let clash : Unsettled ≡ Undrawn = sym (ap (λ (x : Change). x.verdict) (here first m reached t u h cells fd o (Some entry) is)) ∙ e in absurd cc)
      (ap (λ (x : Change). x.effect) (here first m reached t u h cells fd o (Some entry) is))) in
      let zero_seen : saw.set ≡ 0 = flat_on.on_first parent name saw.set saw.saw.item item_is saw.saw.kind_is in
      let same : saw.set ≡ t.set = zero_seen ∙ sym zero_here in
      let item_here : item_in (m.adopted t.set) parent name ≡ Some saw.saw.item = subst (λ (s : ℕ). item_in (m.adopted s) parent name ≡ Some saw.saw.item) same item_is in
      let low_set = low_run first m reached t u h cells fd o (Some entry) is in
      let bare = emptied saw in
      record {
        fits = record {
          on_set = low first m reached t u h cells fd o (Some entry) is;
          fits_set = fits_by first m reached t u h cells fd o (Some entry) is
              (either_no (not (is_that_directory (item_in (m.adopted t.set) parent name) gfid)) (has_real_name (items_of (m.adopted t.set (names_cell gfid))))
              (ap not (some_that (item_in (m.adopted t.set) parent name) saw.saw.item gfid item_here saw.saw.kind_is saw.saw.gfid_is)) (bare t.set low_set));
          stands = (accept, tt);
        };
        apart = λ w was. record {
          names = λ dir2 n x y.
              (let k = at.touched (op_of (m.changes w)) (fits_on w was) (subst (λ (g : Gfid). Touches (m.changes w).op (m.changes w).effect g name) (sym x.0) (subst (λ (l : List ℕ). Touches (m.changes w).op (m.changes w).effect dir2 l) (sym x.1) y)) in
              cells_apart first m reached t u h cells fd o (Some entry) is w was (sym same ∙ sym k.0) (names_cell parent) (both_first parent gfid) k.1);
          inside = λ dir2 n x y. not_inside saw gfid_made w was n (subst (λ (g : Gfid). Touches (m.changes w).op (m.changes w).effect g n) (sym x) y);
          outside = λ dir2 n x y. at.stays (op_of (m.changes w)) (fits_on w was) (subst (λ (g : Gfid). Removes (m.changes w).op g) (sym y.0) x);
          born = λ g x y. absurd x;
          cells = cells_apart first m reached t u h cells fd o (Some entry) is w was;
        };
      }
    where
      emptied : SawEmptied t.run.volume.sets t.run.handed parent name gfid → (set : ℕ) → set < t.run.volume.sets → has_real_name (items_of (m.adopted set (names_cell gfid))) ≡ false
      emptied saw set k = let s = saw.empty set k in ap has_real_name (names_are first m reached a t.call t.run h.under_way.runs nobody gfid set s.shown s.saw).items ∙ s.none

      -- no unsettled change touches a name in it
      not_inside : SawEmptied t.run.volume.sets t.run.handed parent name gfid → m.kinds gfid ≡ Some kind.Dir → (w : ℕ) → (m.changes w).verdict ≡ Unsettled → (n : List ℕ) → Touches (m.changes w).op (m.changes w).effect gfid n → ⊥
      not_inside saw made w was n k =
          let free = name_nowhere (volumes m) t.run.volume.sets gfid n flat_on made (λ set low_set. no_real (items_of (m.adopted set (names_cell gfid))) n (emptied saw set low_set)) in
          let need = free.needed (op_of (m.changes w)) n (fits_on w was) (inl k) in
          let s = saw.empty (m.changes w).set need.0 in
          nobody_on first m reached a t.call t.run h.under_way.runs nobody gfid (m.changes w).set s.shown s.saw w was refl need.1
