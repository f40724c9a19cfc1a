-- The cells of the object that a call makes are born by that call alone, until it is made.
use Rattle.std.proofs.Common.{◌≡◌, ◌∙◌, ◌⊎◌, ℕ, ◌+◌, ◌<◌, ◌≤◌, inl, inr, Bool, true, false, refl, sym, ap, subst, List, [], ◌∷◌, ◌++◌, length, Option, Some, None, is_some, if◌then◌else◌, arith}
use Rattle.std.specs.Prelude.{◌≢◌}
use Rattle.std.specs.Ordering.{is_eq}
use Rattle.afr_machine.specs.Changes.{Verdict}
use Rattle.afr_machine.specs.Changes.Verdict.{Undrawn, Unsettled, Adopted, Dropped}
use Rattle.afr_machine.specs.Copies.{root_alone, contents_of}
use Rattle.afr_machine.specs.Replicas.{with_at}
use Rattle.afr_machine.specs.Touching.{is_cell}
use Rattle.afr_machine.proofs.Tables.{at_same, at_other}
use Rattle.dht_fops.specs.Answers.{flat_op, added}
use Rattle.dht_fops.specs.Courses.{Course}
use Rattle.dht_fops.specs.Handed.{Handed, Event, Always, AnyHold, AnyAnswer}
use Rattle.dht_fops.specs.Handed.Event.{Replied, Held}
use Rattle.dht_fops.specs.Shown.{SetContents}
use Rattle.dht_laws.specs.Births.{IsBornAs, IsBornInTime, FopsBearFirst}
use Rattle.dht_laws.specs.Links.{RestsOnLinks, FopsChangeLinks}
use Rattle.dht_laws.specs.Links.{IsMadeBy as IsMadeByFop, SawNoCopy}
use Rattle.fop_types.specs.Cells.{root, meta_cell, names_cell}
use Rattle.fop_types.specs.Names.{is_link, is_directory}
use Rattle.fop_types.specs.Orders.{gfid_cmp}
use Rattle.fop_types.specs.StoreOps.{Contents, born, births, after_births}
use Rattle.fop_types.specs.declared.answers.FopAnswer.{FopAnswer}
use Rattle.fop_types.specs.declared.answers.FopAnswer.TheVariants as fop_answer
use Rattle.fop_types.specs.declared.cells.Cell.{Cell}
use Rattle.fop_types.specs.declared.cells.Gfid.{Gfid}
use Rattle.fop_types.specs.declared.cells.Kind.{Kind}
use Rattle.fop_types.specs.declared.cells.Kind.TheVariants as kind
use Rattle.fop_types.specs.declared.contents.Content.{Content}
use Rattle.fop_types.specs.declared.contents.Item.{Item}
use Rattle.fop_types.specs.declared.contents.Span.{Span}
use Rattle.fop_types.specs.declared.fops.Fop.{Fop}
use Rattle.fop_types.specs.declared.fops.Fop.TheVariants as fop
use Rattle.fop_types.specs.declared.fops.Object.{Object}
use Rattle.fop_types.specs.declared.flat.FlatOp.{FlatOp}
use Rattle.fop_types.specs.declared.flat.FlatOp.TheVariants as flat
use Rattle.fop_types.specs.declared.history.Entry.{Entry}
use Rattle.fop_types.specs.declared.jobs.Job.{Job}
use Rattle.fop_types.specs.declared.jobs.Job.TheVariants as job
use Rattle.fop_types.specs.declared.jobs.SetReply.{SetReply}
use Rattle.fop_types.specs.declared.store_ops.StoreOp.{StoreOp}
use Rattle.fop_types.specs.declared.store_ops.StoreOp.TheVariants as op
use Rattle.mount_laws.specs.Births.{given, WasAsked, HasSent, IsSending, IsMkdir, HasBorn, IsAdding, IsBornOf, IsFreeBy, DrawnIsFree, IsBeyond}
use Rattle.mount_laws.specs.Effects.{part_of, IsOfLink, IsOnFirst, IsOwnPart, IsOwnJob}
use Rattle.mount_laws.specs.Guards.{Allowed, IsReached, DrawsOwn, IsChange, IsBirth, IsUnderWay, IsSettling, MayBeginChange}
use Rattle.mount_laws.specs.Holding.{IsHeldFor, IsBornBy, IsCopyOf}
use Rattle.mount_laws.specs.Objects.{volumes, IsMadeBy}
use Rattle.mount_laws.specs.Runs.{Run, Stage, first_course, begun, going_on, held_longer}
use Rattle.mount_laws.specs.Runs.Stage.{Waiting, Settled, Changing, Bearing, Decided}
use Rattle.mount_laws.specs.States.{State, Change, Call, Status, Runs, has_begun, start}
use Rattle.mount_laws.specs.States.Status.{Unsubmitted, Ready, Running, Answered}
use Rattle.mount_laws.specs.Steps.{Step, Task, after, at_stage, is_lookup, volume_of, status_after, nth_gfid, sights_by, change_by, births_by, by_effect, kinds_after, with_kind}
use Rattle.mount_laws.specs.Within.{IsWithin}
use Rattle.mount_laws.proofs.Beside.{each_beside, one_job}
use Rattle.mount_laws.proofs.Beyond.{in_its_graph, job_within}
use Rattle.mount_laws.proofs.Born.{or_else, births_are, given_by_copy, given_by_add}
use Rattle.mount_laws.proofs.Copies.{in_time, seen_beyond, IsNewParent, parent_dir}
use Rattle.mount_laws.proofs.Drawing.{drawn_apart, adds_drawn, began_in, makes_drawn, added_makes, one_part, IsDrawn, drawn_in, numbers_are}
use Rattle.mount_laws.proofs.Entering.{began_is, own_job}
use Rattle.mount_laws.proofs.Held.{jobs_asked, holds_cover}
use Rattle.mount_laws.proofs.Leading.{led_always}
use Rattle.mount_laws.proofs.Making.{made_by_change, objects_made}
use Rattle.mount_laws.proofs.Moving.{quiet}
use Rattle.mount_laws.proofs.Sharing.{cells_are}
use Rattle.mount_laws.proofs.Tables.{at_case}

unwrap : {A : Type 0} (a b : A) → ◌≡◌ {A = Option A} (Some a) (Some b) → a ≡ b
unwrap a b e = cc

-- ---- what the births of a job are of

-- a mkdir's own directory, on a set after the first
pub record IsOwnSent (m : State) (t : Task) (cell : Cell) : Type 0 where
  pub mkdir : IsMkdir t.run.fop
  pub further : 0 < t.set
  pub within : t.set < t.run.volume.sets
  pub drawn : (m.calls t.call).drawn ≡ Some cell.gfid

-- a copy without a range of a rename's new parent, on a set that had none
pub record IsCopySent (m : State) (t : Task) (cell : Cell) (x : Content) : Type 0 where
  pub made : m.kinds cell.gfid ≡ Some kind.Dir
  pub beyond : IsBeyond m cell.gfid t.set
  pub content : given (births (op.MakeCopy cell.gfid None)) cell ≡ Some x

-- an object that is added
pub record IsAddBegun (m : State) (t : Task) (cell : Cell) : Type 0 where
  pub drawn : (m.calls t.call).drawn ≡ Some cell.gfid
  pub within : t.set < t.run.volume.sets
  pub cells : List Cell
  pub fd : ℕ
  pub entry : Entry
  pub parent : Gfid
  pub item : Item
  pub mode : ℕ
  pub span : Option Span
  pub job_is : t.job ≡ job.Change cells fd (op.AddName parent item mode span) (Some entry)
  pub gfid_is : item.gfid ≡ cell.gfid
  pub on_first : item.kind ≡ kind.Dir → t.set ≡ 0
  pub call_is : entry.call ≡ t.call
  pub part_is : entry.part ≡ 1
  pub is_dir : IsMkdir t.run.fop → item.kind ≡ kind.Dir

-- a mkdir's part adds a directory
dir_added : (k : Kind) (parent : Gfid) (item : Item) (mode : ℕ) (p : FlatOp) (dir : Gfid) (name : List ℕ) (more : ℕ) (drawn : Gfid) → added parent item mode k ≡ Some p → flat.Mkdir dir name more drawn ≡ p → k ≡ kind.Dir
dir_added kind.Dir parent item mode p dir name more drawn h is = refl
dir_added kind.File parent item mode p dir name more drawn h is = let clash : flat.Create parent item.name mode item.gfid ≡ flat.Mkdir dir name more drawn = unwrap (flat.Create parent item.name mode item.gfid) p h ∙ sym is in absurd cc
dir_added kind.Link parent item mode p dir name more drawn h is = absurd cc

dir_made : (f : Fop) (number : ℕ) (part : FlatOp) (parent : Gfid) (item : Item) (mode : ℕ) (k : Kind) → IsMkdir f → part_of (flat_op f) number ≡ Some part → added parent item mode k ≡ Some part → k ≡ kind.Dir
dir_made (fop.Mkdir dir name more drawn) number part parent item mode k mkdir p e = dir_added k parent item mode part dir.gfid name more drawn e (one_part (flat.Mkdir dir.gfid name more drawn) number part refl p).0
dir_made (fop.Lookup dir name) number part parent item mode k mkdir p e = absurd mkdir
dir_made (fop.Rmdir dir name) number part parent item mode k mkdir p e = absurd mkdir
dir_made (fop.Create fd dir name more drawn) number part parent item mode k mkdir p e = absurd mkdir
dir_made (fop.Unlink dir name) number part parent item mode k mkdir p e = absurd mkdir
dir_made (fop.Rename dir name target new_name) number part parent item mode k mkdir p e = absurd mkdir
dir_made (fop.Open fd object) number part parent item mode k mkdir p e = absurd mkdir
dir_made (fop.Stat object) number part parent item mode k mkdir p e = absurd mkdir
dir_made (fop.List object) number part parent item mode k mkdir p e = absurd mkdir
dir_made (fop.Chmod object more) number part parent item mode k mkdir p e = absurd mkdir
dir_made (fop.Truncate object size) number part parent item mode k mkdir p e = absurd mkdir
dir_made (fop.SetAttr object attr) number part parent item mode k mkdir p e = absurd mkdir
dir_made (fop.GetAttr object name) number part parent item mode k mkdir p e = absurd mkdir
dir_made (fop.DelAttr object name) number part parent item mode k mkdir p e = absurd mkdir
dir_made (fop.Read fd object offset count) number part parent item mode k mkdir p e = absurd mkdir
dir_made (fop.Write fd object offset bytes) number part parent item mode k mkdir p e = absurd mkdir
dir_made (fop.Migrate fds) number part parent item mode k mkdir p e = absurd mkdir
dir_made (fop.Heal count) number part parent item mode k mkdir p e = absurd mkdir

module _ (law : FopsBearFirst) (links : FopsChangeLinks) (first : List (List ℕ)) (m : State) (reached : IsReached first m) (t : Task) (way : IsUnderWay m t) where
  rests : RestsOnLinks t.run.fop t.run.handed t.set t.job
  rests = (subst (λ (course : Course). Always (RestsOnLinks t.run.fop) AnyHold AnyAnswer t.run.handed course) way.asks
      (led_always (RestsOnLinks t.run.fop) AnyHold AnyAnswer (first_course t.run) t.run.handed t.run.course (jobs_asked first m reached t.call t.run way.runs) (links t.run.volume t.run.names t.run.kept t.run.fop))).0

  inside : IsWithin t.run.volume.sets t.run.handed t.set t.job
  inside = job_within m (jobs_asked first m reached) (in_its_graph first m reached) t.call t.run way.runs t.set t.job t.next way.asks

  draws : (f : Fop) → t.run.fop ≡ f → (parent : Object) (name : List ℕ) (mode : ℕ) (drawn : Gfid) → f ≡ fop.Mkdir parent name mode drawn → (m.calls t.call).drawn ≡ Some drawn
  draws f is parent name mode drawn mkdir = subst (λ (x : Fop). DrawsOwn (m.calls t.call).drawn x) (is ∙ mkdir) ((began_in first m reached).draws t.call t.run.fop (began_is first m reached t.call t.run way.runs))

  pub sent_of : IsBirth t.job → (cell : Cell) (x : Content) → given (births_by t.job) cell ≡ Some x → IsOwnSent m t cell ⊎ IsCopySent m t cell x
  sent_of is cell x = of_job t.job is ((holds_cover first m reached).asked t.call t.run t.set t.job t.next way.runs way.asks) (in_time law first m reached t.call t.run t.set t.job t.next way.runs way.asks) rests inside
    where
      of_mkdir : (parent : Object) (name : List ℕ) (mode : ℕ) (drawn g : Gfid) (span : Option Span) → t.run.fop ≡ fop.Mkdir parent name mode drawn → g ≡ drawn → 0 < t.set → t.set < t.run.volume.sets
          → given (births (op.MakeCopy g span)) cell ≡ Some x → IsOwnSent m t cell
      of_mkdir parent name mode drawn g span f same further within e = record {
        mkdir = subst IsMkdir (sym f) tt;
        further = further;
        within = within;
        drawn = draws t.run.fop refl parent name mode drawn f ∙ ap (λ (y : Gfid). Some y) (sym (given_by_copy g span cell x e ∙ same));
      }

      of_rename : (parent : Object) (name : List ℕ) (target : Object) (new_name : List ℕ) (g : Gfid) (span : Option Span) → t.run.fop ≡ fop.Rename parent name target new_name → (g ≡ target.gfid) × (is_directory target.kind ≡ true)
          → span ≡ None → IsMadeByFop t.run.fop g ⊎ SawNoCopy t.run.handed g t.set → given (births (op.MakeCopy g span)) cell ≡ Some x → IsCopySent m t cell x
      of_rename parent name target new_name g span f of bare saw e =
          let own : cell.gfid ≡ g = given_by_copy g span cell x e in
          let new : IsNewParent t.run.fop g = subst (λ (y : Fop). IsNewParent y g) (sym f) of in
          record {
            made = subst (λ (y : Gfid). m.kinds y ≡ Some kind.Dir) (sym own) (parent_dir m t.run.fop g ((objects_made first m reached).fops t.call t.run way.runs) new);
            beyond = subst (λ (y : Gfid). IsBeyond m y t.set) (sym own) (by_saw new saw);
            content = subst (λ (y : Gfid). given (births (op.MakeCopy y None)) cell ≡ Some x) (sym own) (subst (λ (s : Option Span). given (births (op.MakeCopy g s)) cell ≡ Some x) bare e);
          }
        where
          by_saw : IsNewParent t.run.fop g → IsMadeByFop t.run.fop g ⊎ SawNoCopy t.run.handed g t.set → IsBeyond m g t.set
          by_saw new (inl made) = let clash : fop.Rename parent name target new_name ≡ fop.Mkdir made.parent made.name made.mode g = sym f ∙ made.is_mkdir in absurd cc
          by_saw new (inr s) = seen_beyond law first m reached t.call t.run way.runs g t.set s new

      of_op : (f : Fop) (o : StoreOp) → t.run.fop ≡ f → IsBornBy f o → IsBornAs t.run.volume f t.set o → ((g : Gfid) (span : Option Span) → o ≡ op.MakeCopy g span → IsMadeByFop t.run.fop g ⊎ SawNoCopy t.run.handed g t.set) → t.set < t.run.volume.sets
          → given (births o) cell ≡ Some x → IsOwnSent m t cell ⊎ IsCopySent m t cell x
      of_op (fop.Mkdir parent name mode drawn) (op.MakeCopy g span) f b range saw within e = inl (of_mkdir parent name mode drawn g span f b range.1 within e)
      of_op (fop.Rename parent name target new_name) (op.MakeCopy g span) f b range saw within e = inr (of_rename parent name target new_name g span f b range (saw g span refl) e)
      of_op (fop.Mkdir parent name mode drawn) (op.Write g offset bytes) f b range saw within e = absurd b
      of_op (fop.Mkdir parent name mode drawn) (op.Truncate g size) f b range saw within e = absurd b
      of_op (fop.Mkdir parent name mode drawn) (op.SetMode g new) f b range saw within e = absurd b
      of_op (fop.Mkdir parent name mode drawn) (op.SetAttr g attr) f b range saw within e = absurd b
      of_op (fop.Mkdir parent name mode drawn) (op.DelAttr g attr) f b range saw within e = absurd b
      of_op (fop.Mkdir parent name mode drawn) (op.AddName p item new span) f b range saw within e = absurd b
      of_op (fop.Mkdir parent name mode drawn) (op.DropName p n) f b range saw within e = absurd b
      of_op (fop.Mkdir parent name mode drawn) (op.DropDir p n g) f b range saw within e = absurd b
      of_op (fop.Mkdir parent name mode drawn) (op.Move p n g l) f b range saw within e = absurd b
      of_op (fop.Rename parent name target new_name) (op.Write g offset bytes) f b range saw within e = absurd b.0
      of_op (fop.Rename parent name target new_name) (op.Truncate g size) f b range saw within e = absurd b.0
      of_op (fop.Rename parent name target new_name) (op.SetMode g new) f b range saw within e = absurd b.0
      of_op (fop.Rename parent name target new_name) (op.SetAttr g attr) f b range saw within e = absurd b.0
      of_op (fop.Rename parent name target new_name) (op.DelAttr g attr) f b range saw within e = absurd b.0
      of_op (fop.Rename parent name target new_name) (op.AddName p item new span) f b range saw within e = absurd b.0
      of_op (fop.Rename parent name target new_name) (op.DropName p n) f b range saw within e = absurd b.0
      of_op (fop.Rename parent name target new_name) (op.DropDir p n g) f b range saw within e = absurd b.0
      of_op (fop.Rename parent name target new_name) (op.Move p n g l) f b range saw within e = absurd b.0
      of_op (fop.Lookup parent name) o f b range saw within e = absurd b
      of_op (fop.Rmdir parent name) o f b range saw within e = absurd b
      of_op (fop.Create fd parent name mode drawn) o f b range saw within e = absurd b
      of_op (fop.Unlink parent name) o f b range saw within e = absurd b
      of_op (fop.Open fd object) o f b range saw within e = absurd b
      of_op (fop.Stat object) o f b range saw within e = absurd b
      of_op (fop.List object) o f b range saw within e = absurd b
      of_op (fop.Chmod object mode) o f b range saw within e = absurd b
      of_op (fop.Truncate object size) o f b range saw within e = absurd b
      of_op (fop.SetAttr object attr) o f b range saw within e = absurd b
      of_op (fop.GetAttr object name) o f b range saw within e = absurd b
      of_op (fop.DelAttr object name) o f b range saw within e = absurd b
      of_op (fop.Read fd object offset count) o f b range saw within e = absurd b
      of_op (fop.Write fd object offset bytes) o f b range saw within e = absurd b
      of_op (fop.Migrate fds) o f b range saw within e = absurd b
      of_op (fop.Heal count) o f b range saw within e = absurd b

      copy_of : (cells : List Cell) (o : StoreOp) → RestsOnLinks t.run.fop t.run.handed t.set (job.Birth cells o) → (g : Gfid) (span : Option Span) → o ≡ op.MakeCopy g span → IsMadeByFop t.run.fop g ⊎ SawNoCopy t.run.handed g t.set
      copy_of cells o r g span e = subst (λ (y : StoreOp). RestsOnLinks t.run.fop t.run.handed t.set (job.Birth cells y)) e r

      of_job : (asked : Job) → IsBirth asked → IsHeldFor t.run.holds t.run.fop asked → IsBornInTime t.run.volume t.run.fop t.run.handed t.set asked → RestsOnLinks t.run.fop t.run.handed t.set asked → IsWithin t.run.volume.sets t.run.handed t.set asked
          → given (births_by asked) cell ≡ Some x → IsOwnSent m t cell ⊎ IsCopySent m t cell x
      of_job (job.Birth cells o) is k range r within e = of_op t.run.fop o refl k.1.1 range (copy_of cells o r) within e
      of_job (job.Read cells fd dir) is k range r within e = absurd is
      of_job (job.Change cells fd o effect) is k range r within e = absurd is
      of_job (job.Open fd gfid) is k range r within e = absurd is
      of_job job.Index is k range r within e = absurd is
      of_job (job.Heal one) is k range r within e = absurd is

  -- an added object has the gfid that the call drew
  pub begun_of : IsChange t.job → (cell : Cell) (x : Content) → given (births_by t.job) cell ≡ Some x → IsAddBegun m t cell
  begun_of is cell x = of_job t.job refl is (own_job first m reached t.call t.run t.set t.job t.next way.runs way.asks) inside
    where
      link_none : (k : Kind) (g : Gfid) (mode : ℕ) (span : Option Span) → is_link k ≡ true → given (born k g mode span) cell ≡ Some x → ⊥
      link_none kind.File g mode span l e = absurd cc
      link_none kind.Dir g mode span l e = absurd cc
      link_none kind.Link g mode span l e = absurd cc

      none_given : (o : StoreOp) → IsOfLink o → given (births o) cell ≡ Some x → ⊥
      none_given (op.AddName parent item mode span) l e = link_none item.kind item.gfid mode span l e
      none_given (op.DropName parent name) l e = absurd cc
      none_given (op.Write g offset bytes) l e = absurd l
      none_given (op.Truncate g size) l e = absurd l
      none_given (op.SetMode g mode) l e = absurd l
      none_given (op.SetAttr g attr) l e = absurd l
      none_given (op.DelAttr g name) l e = absurd l
      none_given (op.DropDir parent name g) l e = absurd l
      none_given (op.Move parent name target new_name) l e = absurd l
      none_given (op.MakeCopy g span) l e = absurd l

      of_op : (cells : List Cell) (fd : ℕ) (o : StoreOp) (entry : Entry) → t.job ≡ job.Change cells fd o (Some entry) → IsOwnPart t.call t.run.fop t.run.handed t.set o entry → t.set < t.run.volume.sets → given (births o) cell ≡ Some x → IsAddBegun m t cell
      of_op cells fd (op.AddName parent item mode span) entry is own within e =
          let made = added_makes item.kind parent item mode own.part own.makes in
          let k = makes_drawn t.run.fop entry.part own.part made.makes own.part_is (m.calls t.call).drawn ((began_in first m reached).draws t.call t.run.fop (began_is first m reached t.call t.run way.runs)) in
          let same : cell.gfid ≡ item.gfid = given_by_add parent item mode span cell x e in
          record {
            drawn = k.0 ∙ made.gfid_is ∙ ap (λ (g : Gfid). Some g) (sym same);
            within = within;
            cells = cells;
            fd = fd;
            entry = entry;
            parent = parent;
            item = item;
            mode = mode;
            span = span;
            job_is = is;
            gfid_is = sym same;
            on_first = own.on_first;
            call_is = own.call_is;
            part_is = k.1;
            is_dir = λ mkdir. dir_made t.run.fop entry.part own.part parent item mode item.kind mkdir own.part_is own.makes;
          }
      of_op cells fd (op.DropName parent name) entry is own within e = absurd cc
      of_op cells fd (op.Write g offset bytes) entry is own within e = absurd cc
      of_op cells fd (op.Truncate g size) entry is own within e = absurd cc
      of_op cells fd (op.SetMode g mode) entry is own within e = absurd cc
      of_op cells fd (op.SetAttr g attr) entry is own within e = absurd cc
      of_op cells fd (op.DelAttr g name) entry is own within e = absurd cc
      of_op cells fd (op.DropDir parent name g) entry is own within e = absurd cc
      of_op cells fd (op.Move parent name target new_name) entry is own within e = absurd cc
      of_op cells fd (op.MakeCopy g span) entry is own within e = let clash : ◌≡◌ {A = Option FlatOp} None (Some own.part) = own.makes in absurd cc

      of_job : (asked : Job) → t.job ≡ asked → IsChange asked → IsOwnJob t.call t.run.fop t.run.handed t.set asked → IsWithin t.run.volume.sets t.run.handed t.set asked → given (births_by asked) cell ≡ Some x → IsAddBegun m t cell
      of_job (job.Change cells fd o (Some entry)) e is own within g = of_op cells fd o entry e own within g
      of_job (job.Change cells fd o None) e is own within g = absurd (none_given o own g)
      of_job (job.Read cells fd dir) e is own within g = absurd is
      of_job (job.Birth cells o) e is own within g = absurd is
      of_job (job.Open fd gfid) e is own within g = absurd is
      of_job job.Index e is own within g = absurd is
      of_job (job.Heal one) e is own within g = absurd is

-- ---- what stays

abbrev MadeStill : (Gfid → Option Kind) → (Gfid → Option Kind) → Type 0
MadeStill old new = (gfid : Gfid) → is_some (old gfid) ≡ true → is_some (new gfid) ≡ true

kinds_still : (kinds : Gfid → Option Kind) (effect : Option Entry) (o : StoreOp) → MadeStill kinds (by_effect effect kinds (kinds_after kinds o))
kinds_still kinds None o = λ g h. h
kinds_still kinds (Some entry) (op.AddName parent item mode span) = λ g h. by_case g h (is_eq (gfid_cmp g item.gfid))
  where
    by_case : (g : Gfid) → is_some (kinds g) ≡ true → (b : Bool) → is_some (if b then Some item.kind else kinds g) ≡ true
    by_case g h true = refl
    by_case g h false = h
kinds_still kinds (Some entry) (op.Write gfid offset bytes) = λ g h. h
kinds_still kinds (Some entry) (op.Truncate gfid size) = λ g h. h
kinds_still kinds (Some entry) (op.SetMode gfid mode) = λ g h. h
kinds_still kinds (Some entry) (op.SetAttr gfid attr) = λ g h. h
kinds_still kinds (Some entry) (op.DelAttr gfid name) = λ g h. h
kinds_still kinds (Some entry) (op.DropName parent name) = λ g h. h
kinds_still kinds (Some entry) (op.DropDir parent name gfid) = λ g h. h
kinds_still kinds (Some entry) (op.Move parent name target new_name) = λ g h. h
kinds_still kinds (Some entry) (op.MakeCopy gfid span) = λ g h. h

-- a begun change stays as it was begun
record IsStill (old new : Change) : Type 0 where
  pub begun : new.verdict ≢ Undrawn
  pub by : new.by ≡ old.by
  pub set : new.set ≡ old.set
  pub effect : new.effect ≡ old.effect
  pub op : new.op ≡ old.op

abbrev BegunStill : (ℕ → Change) → (ℕ → Change) → Type 0
BegunStill old new = (u : ℕ) → (old u).verdict ≢ Undrawn → IsStill (old u) (new u)

same_still : (changes : ℕ → Change) → BegunStill changes changes
same_still changes u begun = record { begun = begun; by = refl; set = refl; effect = refl; op = refl }

decided_still : (changes : ℕ → Change) (u : ℕ) (verdict : Verdict) → verdict ≢ Undrawn → BegunStill changes (with_at changes u (record (changes u) { verdict = verdict }))
decided_still changes u verdict drawn w =
    at_case (λ i (one : Change). (changes i).verdict ≢ Undrawn → IsStill (changes i) one) changes u (record (changes u) { verdict = verdict }) (λ begun. record { begun = drawn; by = refl; set = refl; effect = refl; op = refl }) w (λ differ begun. same_still changes w begun)

new_still : (changes : ℕ → Change) (u : ℕ) (new : Change) → (changes u).verdict ≡ Undrawn → BegunStill changes (with_at changes u new)
new_still changes u new fresh w = at_case (λ i (one : Change). (changes i).verdict ≢ Undrawn → IsStill (changes i) one) changes u new (λ begun. absurd (begun fresh)) w (λ differ begun. same_still changes w begun)

adding_still : (old new : ℕ → Change) → BegunStill old new → (c set : ℕ) (gfid : Gfid) → IsAdding old c set gfid → IsAdding new c set gfid
adding_still old new still c set gfid a =
    let k = still a.change a.begun in
    record {
      change = a.change;
      begun = k.begun;
      by = k.by ∙ a.by;
      set_is = k.set ∙ a.set_is;
      entry = a.entry;
      effect = k.effect ∙ a.effect;
      parent = a.parent;
      item = a.item;
      mode = a.mode;
      span = a.span;
      op_is = k.op ∙ a.op_is;
      gfid_is = a.gfid_is;
    }

-- ---- a call, while cells are born

abbrev IsNewBy : (Gfid → Option Kind) → (ℕ → Change) → ℕ → Status → Gfid → ℕ → Type 0
IsNewBy kinds changes c Unsubmitted gfid set = ⊥
IsNewBy kinds changes c Ready gfid set = ⊥
IsNewBy kinds changes c (Running run) gfid set = IsBornOf kinds changes c run gfid set
IsNewBy kinds changes c Answered gfid set = Unit {0}

-- the cells of the object that are new in the second contents
abbrev AreNew : SetContents → SetContents → Gfid → (ℕ → Type 0) → Type 0
AreNew old new gfid P = (set : ℕ) (cell : Cell) → cell.gfid ≡ gfid → old set cell ≡ None → is_some (new set cell) ≡ true → P set

pub some_or : {A : Type 0} (a : Option A) → (a ≡ None) ⊎ (is_some a ≡ true)
some_or None = inl refl
some_or (Some x) = inr refl

still_none : (old new : SetContents) (gfid : Gfid) → AreNew old new gfid (λ set. ⊥) → ((set : ℕ) (cell : Cell) → cell.gfid ≡ gfid → old set cell ≡ None) → (set : ℕ) (cell : Cell) → cell.gfid ≡ gfid → new set cell ≡ None
still_none old new gfid news a set cell e = by_case (some_or (new set cell))
  where
    by_case : (new set cell ≡ None) ⊎ (is_some (new set cell) ≡ true) → new set cell ≡ None
    by_case (inl none) = none
    by_case (inr there) = absurd (news set cell e (a set cell e) there)

free_run : (kinds new_kinds : Gfid → Option Kind) (changes new_changes : ℕ → Change) (old new : SetContents) (c : ℕ) (run later : Run) (gfid : Gfid)
    → ((set : ℕ) → IsBornOf kinds changes c run gfid set → IsBornOf new_kinds new_changes c later gfid set) → AreNew old new gfid (IsBornOf new_kinds new_changes c later gfid) → IsFreeBy kinds changes old c (Running run) gfid → IsFreeBy new_kinds new_changes new c (Running later) gfid
free_run kinds new_kinds changes new_changes old new c run later gfid lift news a set cell e there = by_case (some_or (old set cell))
  where
    by_case : (old set cell ≡ None) ⊎ (is_some (old set cell) ≡ true) → IsBornOf new_kinds new_changes c later gfid set
    by_case (inl none) = news set cell e none there
    by_case (inr was) = lift set (a set cell e was)

born_of_still : (kinds new_kinds : Gfid → Option Kind) (changes new_changes : ℕ → Change) → MadeStill kinds new_kinds → BegunStill changes new_changes → (c : ℕ) (run : Run) (gfid : Gfid) (set : ℕ) → IsBornOf kinds changes c run gfid set → IsBornOf new_kinds new_changes c run gfid set
born_of_still kinds new_kinds changes new_changes made begun c run gfid set (inl k) = inl (made gfid k)
born_of_still kinds new_kinds changes new_changes made begun c run gfid set (inr (inl b)) = inr (inl b)
born_of_still kinds new_kinds changes new_changes made begun c run gfid set (inr (inr a)) = inr (inr (adding_still changes new_changes begun c set gfid a))

-- a call that does nothing itself
free_other : (kinds new_kinds : Gfid → Option Kind) (changes new_changes : ℕ → Change) (old new : SetContents) → MadeStill kinds new_kinds → BegunStill changes new_changes → (c : ℕ) (status : Status) (gfid : Gfid)
    → AreNew old new gfid (IsNewBy new_kinds new_changes c status gfid) → IsFreeBy kinds changes old c status gfid → IsFreeBy new_kinds new_changes new c status gfid
free_other kinds new_kinds changes new_changes old new made begun c Unsubmitted gfid news a = still_none old new gfid news a
free_other kinds new_kinds changes new_changes old new made begun c Ready gfid news a = still_none old new gfid news a
free_other kinds new_kinds changes new_changes old new made begun c (Running run) gfid news a =
    free_run kinds new_kinds changes new_changes old new c run run gfid (λ set b. born_of_still kinds new_kinds changes new_changes made begun c run gfid set b) news a
free_other kinds new_kinds changes new_changes old new made begun c Answered gfid news a = tt

none_new : (old : SetContents) (gfid : Gfid) (P : ℕ → Type 0) → AreNew old old gfid P
none_new old gfid P set cell e none there = let clash : false ≡ true = sym (ap is_some none) ∙ there in absurd cc

-- ---- all calls

abbrev pub FreeCall : (Gfid → Option Kind) → (ℕ → Change) → SetContents → ℕ → Call → Type 0
FreeCall kinds changes born c call = (gfid : Gfid) → call.drawn ≡ Some gfid → IsFreeBy kinds changes born c call.status gfid

abbrev pub FreeIn : State → Type 0
FreeIn m = (c : ℕ) → FreeCall m.kinds m.changes m.born c (m.calls c)

pub running : (m : State) (a : FreeIn m) (c : ℕ) (run : Run) → Runs m c run → (gfid : Gfid) → (m.calls c).drawn ≡ Some gfid → IsFreeBy m.kinds m.changes m.born c (Running run) gfid
running m a c run runs gfid drawn = subst (λ (s : Status). IsFreeBy m.kinds m.changes m.born c s gfid) runs (a c gfid drawn)

-- one call goes on, the tables stay
one_free : (m : State) (c : ℕ) (status : Status) → FreeIn m → ((gfid : Gfid) → (m.calls c).drawn ≡ Some gfid → IsFreeBy m.kinds m.changes m.born c status gfid) → (i : ℕ) → FreeCall m.kinds m.changes m.born i (with_at m.calls c (record (m.calls c) { status = status }) i)
one_free m c status a new i = at_case (λ j (call : Call). FreeCall m.kinds m.changes m.born j call) m.calls c (record (m.calls c) { status = status }) new i (λ differ. a i)

-- the births of a run whose job goes on without births of its own
keeps_sent : (c : ℕ) (run later : Run) (kinds : Gfid → Option Kind) (changes : ℕ → Change) (gfid : Gfid) (set : ℕ) → later.fop ≡ run.fop → (WasAsked run.handed set ⊎ IsSending run set → WasAsked later.handed set ⊎ IsSending later set) → IsBornOf kinds changes c run gfid set → IsBornOf kinds changes c later gfid set
keeps_sent c run later kinds changes gfid set same lift (inl k) = inl k
keeps_sent c run later kinds changes gfid set same lift (inr (inl b)) = inr (inl (record { mkdir = subst IsMkdir (sym same) b.mkdir; further = b.further; sent = lift b.sent }))
keeps_sent c run later kinds changes gfid set same lift (inr (inr a)) = inr (inr a)

-- no births were sent at these stages
unsent : (stage : Stage) → IsSettling stage → HasSent stage → ⊥
unsent Waiting s h = h
unsent (Settled place) s h = h
unsent (Changing u) s h = s
unsent Bearing s h = s
unsent (Decided number) s h = s

unsent_at : (run : Run) (stage : Stage) (set : ℕ) → run.stage ≡ stage → (HasSent stage → ⊥) → IsSending run set → ⊥
unsent_at run stage set e none s = none (subst HasSent e s.sent)

-- a job that is no birth
no_birth : (run : Run) (set other : ℕ) (asked : Job) (next : SetReply → Course) → run.course ≡ Course.Asks set asked next → IsChange asked → IsSending run other → ⊥
no_birth run set other asked next asks is s = by_job asked is (one_job run.course set other asked (job.Birth s.cells s.op) next s.next asks s.asks).job_is
  where
    by_job : (one : Job) → IsChange one → one ≡ job.Birth s.cells s.op → ⊥
    by_job (job.Change cells fd o effect) is e = absurd cc
    by_job (job.Read cells fd dir) is e = is
    by_job (job.Birth cells o) is e = is
    by_job (job.Open fd gfid) is e = is
    by_job job.Index is e = is
    by_job (job.Heal cell) is e = is

-- the change that a job decides is of a change
deciding_is_change : (c : ℕ) (set : ℕ) (asked : Job) (change : Change) → change ≡ change_by c set asked → change.verdict ≡ Unsettled → IsChange asked
deciding_is_change c set (job.Change cells fd o effect) change is was = tt
deciding_is_change c set (job.Read cells fd dir) change is was = let clash : Unsettled ≡ Undrawn = sym was ∙ ap (λ (x : Change). x.verdict) is in absurd cc
deciding_is_change c set (job.Birth cells o) change is was = let clash : Unsettled ≡ Undrawn = sym was ∙ ap (λ (x : Change). x.verdict) is in absurd cc
deciding_is_change c set (job.Open fd gfid) change is was = let clash : Unsettled ≡ Undrawn = sym was ∙ ap (λ (x : Change). x.verdict) is in absurd cc
deciding_is_change c set job.Index change is was = let clash : Unsettled ≡ Undrawn = sym was ∙ ap (λ (x : Change). x.verdict) is in absurd cc
deciding_is_change c set (job.Heal cell) change is was = let clash : Unsettled ≡ Undrawn = sym was ∙ ap (λ (x : Change). x.verdict) is in absurd cc

-- the reply of a birth was handed in
handed_sent : (t : Task) (shown : SetReply) (later : Run) (set : ℕ) → t.run.course ≡ Course.Asks t.set t.job t.next → later.handed ≡ Replied t.set t.job shown ∷ t.run.handed → WasAsked t.run.handed set ⊎ IsSending t.run set → WasAsked later.handed set
handed_sent t shown later set asks is (inl w) = subst (λ (h : Handed). WasAsked h set) (sym is) (more t.job)
  where
    more : (asked : Job) → WasAsked (Replied t.set asked shown ∷ t.run.handed) set
    more (job.Read cells fd dir) = w
    more (job.Change cells fd o effect) = w
    more (job.Birth cells o) = inr w
    more (job.Open fd gfid) = w
    more job.Index = w
    more (job.Heal cell) = w
handed_sent t shown later set asks is (inr s) =
    let same = one_job t.run.course t.set set t.job (job.Birth s.cells s.op) t.next s.next asks s.asks in
    subst (λ (h : Handed). WasAsked h set) (sym is) (subst (λ (j : Job). WasAsked (Replied t.set j shown ∷ t.run.handed) set) (sym same.job_is) (inl same.set_is))

-- ---- births of a step

-- the contents of a set with births
born_at : (born : SetContents) (s : ℕ) (bs : List (Cell × Content)) (set : ℕ) (cell : Cell) → born set cell ≡ None → is_some (with_at born s (after_births (born s) bs) set cell) ≡ true → (set ≡ s) × (is_some (given bs cell) ≡ true)
born_at born s bs set cell = at_case (λ i (one : Contents). born i cell ≡ None → is_some (one cell) ≡ true → (i ≡ s) × (is_some (given bs cell) ≡ true)) born s (after_births (born s) bs)
    (λ none there. (refl, or_given (born s cell) (given bs cell) none (subst (λ (c : Option Content). is_some c ≡ true) (births_are bs (born s) cell) there))) set
    (λ differ none there. let clash : false ≡ true = sym (ap is_some none) ∙ there in absurd cc)
  where
    or_given : (a b : Option Content) → a ≡ None → is_some (or_else a b) ≡ true → is_some b ≡ true
    or_given None b e h = h
    or_given (Some x) b e h = absurd cc

record IsGiven (bs : List (Cell × Content)) (cell : Cell) : Type 0 where
  pub content : Content
  pub is : given bs cell ≡ Some content

given_is : (bs : List (Cell × Content)) (cell : Cell) → is_some (given bs cell) ≡ true → IsGiven bs cell
given_is bs cell h = by_case (given bs cell) refl h
  where
    by_case : (a : Option Content) → given bs cell ≡ a → is_some a ≡ true → IsGiven bs cell
    by_case None e k = absurd cc
    by_case (Some x) e k = record { content = x; is = e }

-- a call that has begun nothing has no object made
unbegun_unmade : (first : List (List ℕ)) (m : State) → IsReached first m → (c : ℕ) (gfid : Gfid) (k : Kind) → has_begun (m.calls c).status ≡ false → (m.calls c).drawn ≡ Some gfid → m.kinds gfid ≡ Some k → ⊥
unbegun_unmade first m reached c gfid k none drawn made = by_made (made_by_change first m reached gfid k made)
  where
    by_made : ((gfid ≡ root) × (k ≡ kind.Dir)) ⊎ IsMadeBy m.changes m.homes gfid k → ⊥
    by_made (inl r) = (drawn_apart first m reached).no_root c gfid drawn r.0
    by_made (inr b) =
        let begun : (m.changes b.change).verdict ≢ Undrawn = λ e. (let clash : Adopted ≡ Undrawn = sym b.adopted ∙ e in absurd cc) in
        let theirs = adds_drawn first m reached b.change b.entry b.parent b.item b.mode b.span begun b.effect b.op_is in
        let by = (drawn_apart first m reached).apart (m.changes b.change).by c gfid (theirs.0 ∙ ap (λ (g : Gfid). Some g) b.gfid_is) drawn in
        begun ((each_beside first m reached).unbegun c none b.change by)

-- where a rename bears a copy, the object is made
made_new : (first : List (List ℕ)) (m : State) → IsReached first m → (new_kinds : Gfid → Option Kind) (new_changes : ℕ → Change) → MadeStill m.kinds new_kinds → (c : ℕ) (status : Status) (gfid : Gfid) (set : ℕ) → (m.calls c).status ≡ status → (m.calls c).drawn ≡ Some gfid → m.kinds gfid ≡ Some kind.Dir
    → IsNewBy new_kinds new_changes c status gfid set
made_new first m reached new_kinds new_changes still c Unsubmitted gfid set is drawn made = unbegun_unmade first m reached c gfid kind.Dir (ap has_begun is) drawn made
made_new first m reached new_kinds new_changes still c Ready gfid set is drawn made = unbegun_unmade first m reached c gfid kind.Dir (ap has_begun is) drawn made
made_new first m reached new_kinds new_changes still c (Running run) gfid set is drawn made = inl (still gfid (ap is_some made))
made_new first m reached new_kinds new_changes still c Answered gfid set is drawn made = tt

-- ---- a lookup makes nothing

lookup_none : (first : List (List ℕ)) (m : State) → IsReached first m → (c : ℕ) (run : Run) (gfid : Gfid) (set : ℕ) → Runs m c run → is_lookup run.fop ≡ true → (m.calls c).drawn ≡ Some gfid → IsBornOf m.kinds m.changes c run gfid set → ⊥
lookup_none first m reached c run gfid set runs is drawn (inr (inl b)) = by_fop run.fop is b.mkdir
  where
    by_fop : (f : Fop) → is_lookup f ≡ true → IsMkdir f → ⊥
    by_fop (fop.Mkdir parent name mode g) e k = absurd cc
    by_fop (fop.Lookup parent name) e k = k
    by_fop (fop.Rmdir parent name) e k = k
    by_fop (fop.Create fd parent name mode g) e k = k
    by_fop (fop.Unlink parent name) e k = k
    by_fop (fop.Rename parent name target new_name) e k = k
    by_fop (fop.Open fd object) e k = k
    by_fop (fop.Stat object) e k = k
    by_fop (fop.List object) e k = k
    by_fop (fop.Chmod object mode) e k = k
    by_fop (fop.Truncate object size) e k = k
    by_fop (fop.SetAttr object attr) e k = k
    by_fop (fop.GetAttr object name) e k = k
    by_fop (fop.DelAttr object name) e k = k
    by_fop (fop.Read fd object offset count) e k = k
    by_fop (fop.Write fd object offset bytes) e k = k
    by_fop (fop.Migrate fds) e k = k
    by_fop (fop.Heal count) e k = k
lookup_none first m reached c run gfid set runs is drawn (inr (inr a)) = a.begun (((each_beside first m reached).running c run runs a.change).lookup is a.by)
lookup_none first m reached c run gfid set runs is drawn (inl k) = by_kind (m.kinds gfid) refl k
  where
    by_made : (k : Kind) → ((gfid ≡ root) × (k ≡ kind.Dir)) ⊎ IsMadeBy m.changes m.homes gfid k → ⊥
    by_made k (inl r) = (drawn_apart first m reached).no_root c gfid drawn r.0
    by_made k (inr b) =
        let begun : (m.changes b.change).verdict ≢ Undrawn = λ e. (let clash : Adopted ≡ Undrawn = sym b.adopted ∙ e in absurd cc) in
        let theirs = adds_drawn first m reached b.change b.entry b.parent b.item b.mode b.span begun b.effect b.op_is in
        let by = (drawn_apart first m reached).apart (m.changes b.change).by c gfid (theirs.0 ∙ ap (λ (g : Gfid). Some g) b.gfid_is) drawn in
        begun (((each_beside first m reached).running c run runs b.change).lookup is by)

    by_kind : (k : Option Kind) → m.kinds gfid ≡ k → is_some k ≡ true → ⊥
    by_kind None e h = absurd cc
    by_kind (Some k) e h = by_made k (made_by_change first m reached gfid k e)

-- what is left of a call after an answer
answered_free : (first : List (List ℕ)) (m : State) → IsReached first m → FreeIn m → (c : ℕ) (run : Run) (answer : FopAnswer) → Runs m c run → (gfid : Gfid) → (m.calls c).drawn ≡ Some gfid → IsFreeBy m.kinds m.changes m.born c (status_after (is_lookup run.fop) answer) gfid
answered_free first m reached a c run answer runs gfid drawn = by_lookup (is_lookup run.fop) refl answer
  where
    none : is_lookup run.fop ≡ true → (set : ℕ) (cell : Cell) → cell.gfid ≡ gfid → m.born set cell ≡ None
    none is set cell e = by_case (some_or (m.born set cell))
      where
        by_case : (m.born set cell ≡ None) ⊎ (is_some (m.born set cell) ≡ true) → m.born set cell ≡ None
        by_case (inl k) = k
        by_case (inr there) = absurd (lookup_none first m reached c run gfid set runs is drawn (running m a c run runs gfid drawn set cell e there))

    by_lookup : (b : Bool) → is_lookup run.fop ≡ b → (one : FopAnswer) → IsFreeBy m.kinds m.changes m.born c (status_after b one) gfid
    by_lookup false e one = tt
    by_lookup true e (fop_answer.Found set g k) = none e
    by_lookup true e (fop_answer.Call x) = tt

-- ---- gfids that are not drawn yet

abbrev pub BornDrawn : State → Type 0
BornDrawn m = (set : ℕ) (cell : Cell) → is_some (m.born set cell) ≡ true → (cell.gfid ≡ root) ⊎ IsDrawn m.draws cell.gfid

drawn_later : (draws : ℕ) (gfid : Gfid) → IsDrawn draws gfid → IsDrawn (draws + 1) gfid
drawn_later draws gfid k = record { number = k.number; some = k.some; most = let most = k.most in omega (arith, most); is = k.is }

record AreDrawn (draws : ℕ) (bs : List (Cell × Content)) : Type 0 where
  pub each : (cell : Cell) (x : Content) → given bs cell ≡ Some x → IsDrawn draws cell.gfid

born_drawn_with : (m : State) (s : ℕ) (bs : List (Cell × Content)) → AreDrawn m.draws bs → BornDrawn m → (set : ℕ) (cell : Cell) → is_some (with_at m.born s (after_births (m.born s) bs) set cell) ≡ true → (cell.gfid ≡ root) ⊎ IsDrawn m.draws cell.gfid
born_drawn_with m s bs drawn a set cell there = by_case (some_or (m.born set cell))
  where
    by_case : (m.born set cell ≡ None) ⊎ (is_some (m.born set cell) ≡ true) → (cell.gfid ≡ root) ⊎ IsDrawn m.draws cell.gfid
    by_case (inr was) = a set cell was
    by_case (inl none) = let g = given_is bs cell (born_at m.born s bs set cell none there).1 in inr (drawn.each cell g.content g.is)

start_drawn : (first : List (List ℕ)) → BornDrawn (start first)
start_drawn first set cell = by_meta (is_cell cell (meta_cell root)) refl
  where
    by_names : (x : Bool) → is_cell cell (meta_cell root) ≡ false → is_cell cell (names_cell root) ≡ x → is_some (contents_of root_alone cell) ≡ true → (cell.gfid ≡ root) ⊎ IsDrawn 0 cell.gfid
    by_names true e f h = inl (ap (λ (c : Cell). c.gfid) (cells_are cell (names_cell root) f))
    by_names false e f h = absurd (let clash : false ≡ true = rw (e, f) at h in cc)

    by_meta : (x : Bool) → is_cell cell (meta_cell root) ≡ x → is_some (contents_of root_alone cell) ≡ true → (cell.gfid ≡ root) ⊎ IsDrawn 0 cell.gfid
    by_meta true e h = inl (ap (λ (c : Cell). c.gfid) (cells_are cell (meta_cell root) e))
    by_meta false e h = by_names (is_cell cell (names_cell root)) e refl h

-- ---- each step

module _ (law : FopsBearFirst) (links : FopsChangeLinks) (first : List (List ℕ)) where
  sent_drawn : (m : State) → IsReached first m → (t : Task) → IsUnderWay m t → IsBirth t.job → AreDrawn m.draws (births_by t.job)
  sent_drawn m reached t way is = record { each = λ cell x e. by_case cell x (sent_of law links first m reached t way is cell x e) }
    where
      by_case : (cell : Cell) (x : Content) → IsOwnSent m t cell ⊎ IsCopySent m t cell x → IsDrawn m.draws cell.gfid
      by_case cell x (inl own) = (drawn_in first m reached).drawn t.call cell.gfid own.drawn
      by_case cell x (inr copy) = (drawn_in first m reached).drawn copy.beyond.call cell.gfid copy.beyond.drawn

  begun_drawn : (m : State) → IsReached first m → (t : Task) → IsUnderWay m t → IsChange t.job → AreDrawn m.draws (births_by t.job)
  begun_drawn m reached t way is = record { each = λ cell x e. (drawn_in first m reached).drawn t.call cell.gfid (begun_of law links first m reached t way is cell x e).drawn }

  step_born_drawn : (m : State) (step : Step) → IsReached first m → Allowed m step → BornDrawn m → BornDrawn (after m step)
  step_born_drawn m (Step.Submits true) reached h a = λ set cell there. by_case cell (a set cell there)
    where
      by_case : (cell : Cell) → (cell.gfid ≡ root) ⊎ IsDrawn m.draws cell.gfid → (cell.gfid ≡ root) ⊎ IsDrawn (m.draws + 1) cell.gfid
      by_case cell (inl r) = inl r
      by_case cell (inr d) = inr (drawn_later m.draws cell.gfid d)
  step_born_drawn m (Step.Submits false) reached h a = a
  step_born_drawn m (Step.BeginsChange t u) reached h a = born_drawn_with m t.set (births_by t.job) (begun_drawn m reached t h.under_way h.is_change) a
  step_born_drawn m (Step.SendsBirths t) reached h a = born_drawn_with m t.set (births_by t.job) (sent_drawn m reached t h.under_way h.is_birth) a
  step_born_drawn m (Step.Concludes c) reached h a = a
  step_born_drawn m (Step.Switches names) reached h a = a
  step_born_drawn m (Step.Begins c f kept) reached h a = a
  step_born_drawn m (Step.Settles t u true) reached h a = a
  step_born_drawn m (Step.Settles t u false) reached h a = a
  step_born_drawn m (Step.EndsSettling t) reached h a = a
  step_born_drawn m (Step.Decides t u) reached h a = a
  step_born_drawn m (Step.ConfirmsBirths t) reached h a = a
  step_born_drawn m (Step.HandsIn t shown) reached h a = a
  step_born_drawn m (Step.Extends c run dir next) reached h a = a
  step_born_drawn m (Step.Releases c run gfid) reached h a = a
  step_born_drawn m (Step.Learns c run dir spans) reached h a = a
  step_born_drawn m (Step.Answers c run answer place) reached h a = a
  step_born_drawn m (Step.AnswersAbove c run answer) reached h a = a

  pub born_drawn : (m : State) → IsReached first m → BornDrawn m
  born_drawn _ (IsReached.Start planned) = start_drawn first
  born_drawn _ (IsReached.Further old step reached allowed) = step_born_drawn old step reached allowed (born_drawn old reached)

-- a new call's gfid has no cell
pub next_unborn : (m : State) → BornDrawn m → (set : ℕ) (cell : Cell) → cell.gfid ≡ nth_gfid (m.draws + 1) → m.born set cell ≡ None
next_unborn m a set cell is = by_case (some_or (m.born set cell))
  where
    by_drawn : (cell.gfid ≡ root) ⊎ IsDrawn m.draws cell.gfid → ⊥
    by_drawn (inl r) = let low : 1 ≡ 1 + (m.draws + 1) = ap (λ (g : Gfid). g.lo) (sym r ∙ is) in omega (arith, low)
    by_drawn (inr d) = let same : d.number ≡ m.draws + 1 = numbers_are d.number (m.draws + 1) (sym d.is ∙ is) in let most = d.most in omega (arith, same, most)

    by_case : (m.born set cell ≡ None) ⊎ (is_some (m.born set cell) ≡ true) → m.born set cell ≡ None
    by_case (inl none) = none
    by_case (inr there) = absurd (by_drawn (a set cell there))

-- the fop of one call goes on, and the tables grow
module _ (m : State) (a : FreeIn m) (nk : Gfid → Option Kind) (nc : ℕ → Change) (nb : SetContents) (made : MadeStill m.kinds nk) (begun : BegunStill m.changes nc) where
  run_free : (c : ℕ) (run later : Run) → Runs m c run → later.fop ≡ run.fop → ((set : ℕ) → WasAsked run.handed set ⊎ IsSending run set → WasAsked later.handed set ⊎ IsSending later set)
      → ((gfid : Gfid) → (m.calls c).drawn ≡ Some gfid → AreNew m.born nb gfid (IsBornOf nk nc c later gfid)) → ((i : ℕ) (gfid : Gfid) → i ≢ c → (m.calls i).drawn ≡ Some gfid → AreNew m.born nb gfid (IsNewBy nk nc i (m.calls i).status gfid))
      → (i : ℕ) → FreeCall nk nc nb i (with_at m.calls c (record (m.calls c) { status = Running later }) i)
  run_free c run later runs same lift own others i =
      at_case (λ j (call : Call). FreeCall nk nc nb j call) m.calls c (record (m.calls c) { status = Running later })
      (λ gfid drawn. free_run m.kinds nk m.changes nc m.born nb c run later gfid (λ set b. keeps_sent c run later nk nc gfid set same (lift set) (born_of_still m.kinds nk m.changes nc made begun c run gfid set b)) (own gfid drawn) (running m a c run runs gfid drawn)) i
      (λ differ gfid drawn. free_other m.kinds nk m.changes nc m.born nb made begun i (m.calls i).status gfid (others i gfid differ drawn) (a i gfid drawn))

-- with the same tables
still_free : (m : State) → FreeIn m → (nk : Gfid → Option Kind) (nc : ℕ → Change) → MadeStill m.kinds nk → BegunStill m.changes nc → (c : ℕ) (run later : Run) → Runs m c run → later.fop ≡ run.fop
    → ((set : ℕ) → WasAsked run.handed set ⊎ IsSending run set → WasAsked later.handed set ⊎ IsSending later set) → (i : ℕ) → FreeCall nk nc m.born i (with_at m.calls c (record (m.calls c) { status = Running later }) i)
still_free m a nk nc made begun c run later runs same lift =
    run_free m a nk nc m.born made begun c run later runs same lift (λ gfid drawn. none_new m.born gfid (IsBornOf nk nc c later gfid)) (λ i gfid differ drawn. none_new m.born gfid (IsNewBy nk nc i (m.calls i).status gfid))

all_made : (m : State) → MadeStill m.kinds m.kinds
all_made m gfid k = k

-- births go on as they were
lift_same : (run later : Run) → later.course ≡ run.course → later.handed ≡ run.handed → (HasSent run.stage → HasSent later.stage) → (set : ℕ) → WasAsked run.handed set ⊎ IsSending run set → WasAsked later.handed set ⊎ IsSending later set
lift_same run later course handed stage set (inl w) = inl (subst (λ (h : Handed). WasAsked h set) (sym handed) w)
lift_same run later course handed stage set (inr s) = inr (record { cells = s.cells; op = s.op; next = s.next; asks = course ∙ s.asks; sent = stage s.sent })

lift_none : (run later : Run) → later.handed ≡ run.handed → ((set : ℕ) → IsSending run set → ⊥) → (set : ℕ) → WasAsked run.handed set ⊎ IsSending run set → WasAsked later.handed set ⊎ IsSending later set
lift_none run later handed none set (inl w) = inl (subst (λ (h : Handed). WasAsked h set) (sym handed) w)
lift_none run later handed none set (inr s) = absurd (none set s)

module _ (law : FopsBearFirst) (links : FopsChangeLinks) (first : List (List ℕ)) where
  sending : (m : State) (t : Task) (asked : Job) → IsBirth asked → t.run.course ≡ Course.Asks t.set asked t.next → IsSending (at_stage t.run Bearing) t.set
  sending m t (job.Birth cells o) is asks = record { cells = cells; op = o; next = t.next; asks = asks; sent = tt }
  sending m t (job.Read cells fd dir) is asks = absurd is
  sending m t (job.Change cells fd o effect) is asks = absurd is
  sending m t (job.Open fd gfid) is asks = absurd is
  sending m t job.Index is asks = absurd is
  sending m t (job.Heal cell) is asks = absurd is

  -- births that are sent
  sent_own : (m : State) → IsReached first m → (t : Task) (way : IsUnderWay m t) → IsBirth t.job → (gfid : Gfid) → (m.calls t.call).drawn ≡ Some gfid
      → AreNew m.born (with_at m.born t.set (after_births (m.born t.set) (births_by t.job))) gfid (IsBornOf m.kinds m.changes t.call (at_stage t.run Bearing) gfid)
  sent_own m reached t way is gfid drawn set cell e none there =
      let at = born_at m.born t.set (births_by t.job) set cell none there in
      let g = given_is (births_by t.job) cell at.1 in
      subst (λ (s : ℕ). IsBornOf m.kinds m.changes t.call (at_stage t.run Bearing) gfid s) (sym at.0) (by_case (sent_of law links first m reached t way is cell g.content g.is))
    where
      by_case : {x : Content} → IsOwnSent m t cell ⊎ IsCopySent m t cell x → IsBornOf m.kinds m.changes t.call (at_stage t.run Bearing) gfid t.set
      by_case (inl own) = inr (inl (record { mkdir = own.mkdir; further = own.further; sent = inr (sending m t t.job is way.asks) }))
      by_case (inr copy) = inl (subst (λ (g : Gfid). is_some (m.kinds g) ≡ true) e (ap is_some copy.made))

  sent_others : (m : State) → IsReached first m → (t : Task) (way : IsUnderWay m t) → IsBirth t.job → (i : ℕ) (gfid : Gfid) → i ≢ t.call → (m.calls i).drawn ≡ Some gfid
      → AreNew m.born (with_at m.born t.set (after_births (m.born t.set) (births_by t.job))) gfid (IsNewBy m.kinds m.changes i (m.calls i).status gfid)
  sent_others m reached t way is i gfid differ drawn set cell e none there =
      let at = born_at m.born t.set (births_by t.job) set cell none there in
      let g = given_is (births_by t.job) cell at.1 in
      by_case (sent_of law links first m reached t way is cell g.content g.is)
    where
      by_case : {x : Content} → IsOwnSent m t cell ⊎ IsCopySent m t cell x → IsNewBy m.kinds m.changes i (m.calls i).status gfid set
      by_case (inl own) = absurd (differ ((drawn_apart first m reached).apart i t.call gfid drawn (own.drawn ∙ ap (λ (g : Gfid). Some g) e)))
      by_case (inr copy) = made_new first m reached m.kinds m.changes (all_made m) i (m.calls i).status gfid set refl drawn (subst (λ (g : Gfid). m.kinds g ≡ Some kind.Dir) e copy.made)

  -- births of a change that begins
  begun_own : (m : State) → IsReached first m → (t : Task) (u : ℕ) (way : IsUnderWay m t) → IsChange t.job → (gfid : Gfid) → (m.calls t.call).drawn ≡ Some gfid
      → AreNew m.born (with_at m.born t.set (after_births (m.born t.set) (births_by t.job))) gfid (IsBornOf m.kinds (with_at m.changes u (change_by t.call t.set t.job)) t.call (at_stage t.run (Changing u)) gfid)
  begun_own m reached t u way is gfid drawn set cell e none there =
      let at = born_at m.born t.set (births_by t.job) set cell none there in
      let g = given_is (births_by t.job) cell at.1 in
      let b = begun_of law links first m reached t way is cell g.content g.is in
      let new : Change = change_by t.call t.set (job.Change b.cells b.fd (op.AddName b.parent b.item b.mode b.span) (Some b.entry)) in
      let same : with_at m.changes u (change_by t.call t.set t.job) u ≡ new = at_same m.changes u (change_by t.call t.set t.job) ∙ ap (λ (j : Job). change_by t.call t.set j) b.job_is in
      inr (inr (record {
        change = u;
        begun = λ f. (let clash : Unsettled ≡ Undrawn = sym (ap (λ (x : Change). x.verdict) same) ∙ f in absurd cc);
        by = ap (λ (x : Change). x.by) same;
        set_is = ap (λ (x : Change). x.set) same ∙ sym at.0;
        entry = b.entry;
        effect = ap (λ (x : Change). x.effect) same;
        parent = b.parent;
        item = b.item;
        mode = b.mode;
        span = b.span;
        op_is = ap (λ (x : Change). x.op) same;
        gfid_is = b.gfid_is ∙ e;
      }))

  begun_others : (m : State) → IsReached first m → (t : Task) (nc : ℕ → Change) (way : IsUnderWay m t) → IsChange t.job → (i : ℕ) (gfid : Gfid) → i ≢ t.call → (m.calls i).drawn ≡ Some gfid
      → AreNew m.born (with_at m.born t.set (after_births (m.born t.set) (births_by t.job))) gfid (IsNewBy m.kinds nc i (m.calls i).status gfid)
  begun_others m reached t nc way is i gfid differ drawn set cell e none there =
      let at = born_at m.born t.set (births_by t.job) set cell none there in
      let g = given_is (births_by t.job) cell at.1 in
      let b = begun_of law links first m reached t way is cell g.content g.is in
      absurd (differ ((drawn_apart first m reached).apart i t.call gfid drawn (b.drawn ∙ ap (λ (g : Gfid). Some g) e)))

  step_free : (m : State) (step : Step) → IsReached first m → Allowed m step → FreeIn m → FreeIn (after m step)
  step_free m (Step.Submits true) reached h a = λ i.
      at_case (λ j (call : Call). FreeCall m.kinds m.changes m.born j call) m.calls (m.submitted + 1) _
      (λ gfid drawn set cell e. next_unborn m (born_drawn law links first m reached) set cell (e ∙ sym (unwrap (nth_gfid (m.draws + 1)) gfid drawn))) i (λ differ. a i)
  step_free m (Step.Submits false) reached h a = λ i. at_case (λ j (call : Call). FreeCall m.kinds m.changes m.born j call) m.calls (m.submitted + 1) _ (λ gfid drawn. absurd cc) i (λ differ. a i)
  step_free m (Step.Concludes c) reached h a = one_free m c Answered a (λ gfid drawn. tt)
  step_free m (Step.Switches names) reached h a = a
  step_free m (Step.Begins c f kept) reached h a = one_free m c (Running (begun f (volume_of m c) (m.calls c).names kept)) a (λ gfid drawn set cell e there. absurd (by_none (subst (λ (s : Status). IsFreeBy m.kinds m.changes m.born c s gfid) h.ready (a c gfid drawn) set cell e) there))
    where
      by_none : {o : Option Content} → o ≡ None → is_some o ≡ true → ⊥
      by_none none there = let clash : false ≡ true = sym (ap is_some none) ∙ there in absurd cc
  step_free m (Step.Settles t u true) reached h a =
      still_free m a (after m (Step.Settles t u true)).kinds (after m (Step.Settles t u true)).changes (kinds_still m.kinds (m.changes u).effect (m.changes u).op) (decided_still m.changes u Adopted (λ e. absurd cc)) t.call t.run _ h.under_way.runs refl (lift_same t.run _ refl refl (λ s. s))
  step_free m (Step.Settles t u false) reached h a = still_free m a (after m (Step.Settles t u false)).kinds (after m (Step.Settles t u false)).changes (all_made m) (decided_still m.changes u Dropped (λ e. absurd cc)) t.call t.run _ h.under_way.runs refl (lift_same t.run _ refl refl (λ s. s))
  step_free m (Step.EndsSettling t) reached h a =
      still_free m a m.kinds m.changes (all_made m) (same_still m.changes) t.call t.run _ h.under_way.runs refl (lift_none t.run _ refl (λ set s. unsent t.run.stage h.turn s.sent))
  step_free m (Step.BeginsChange t u) reached h a =
      run_free m a m.kinds (with_at m.changes u (change_by t.call t.set t.job)) (with_at m.born t.set (after_births (m.born t.set) (births_by t.job))) (all_made m) (new_still m.changes u (change_by t.call t.set t.job) h.fresh) t.call t.run (at_stage t.run (Changing u)) h.under_way.runs refl
      (lift_none t.run (at_stage t.run (Changing u)) refl (λ set s. unsent_at t.run (Settled h.place) set h.settled (λ none. none) s)) (begun_own m reached t u h.under_way h.is_change) (begun_others m reached t (with_at m.changes u (change_by t.call t.set t.job)) h.under_way h.is_change)
  step_free m (Step.Decides t u) reached h a =
      still_free m a (after m (Step.Decides t u)).kinds (after m (Step.Decides t u)).changes (kinds_still m.kinds (m.changes u).effect (m.changes u).op) (decided_still m.changes u Adopted (λ e. absurd cc)) t.call t.run _ h.under_way.runs refl
      (lift_none t.run _ refl (λ set s. no_birth t.run t.set set t.job t.next h.under_way.asks
      (deciding_is_change t.call t.set t.job (m.changes u) ((((each_beside first m reached).running t.call t.run h.under_way.runs u).running_is_unsettled h.turn).asked t.set t.job t.next h.under_way.asks) h.unsettled) s))
  step_free m (Step.SendsBirths t) reached h a =
      run_free m a m.kinds m.changes (with_at m.born t.set (after_births (m.born t.set) (births_by t.job))) (all_made m) (same_still m.changes) t.call t.run (at_stage t.run Bearing) h.under_way.runs refl
      (lift_none t.run (at_stage t.run Bearing) refl (λ set s. unsent_at t.run Waiting set h.waiting (λ none. none) s)) (sent_own m reached t h.under_way h.is_birth) (sent_others m reached t h.under_way h.is_birth)
  step_free m (Step.ConfirmsBirths t) reached h a = still_free m a m.kinds m.changes (all_made m) (same_still m.changes) t.call t.run _ h.under_way.runs refl (lift_same t.run _ refl refl (λ s. tt))
  step_free m (Step.HandsIn t shown) reached h a = still_free m a m.kinds m.changes (all_made m) (same_still m.changes) t.call t.run later h.under_way.runs refl (λ set s. inl (handed_sent t shown later set h.under_way.asks refl s))
    where
      later : Run
      later = going_on t.run (Replied t.set t.job shown ∷ t.run.handed) (t.next shown) (sights_by t.set t.job shown ++ t.run.saw)
  step_free m (Step.Extends c run dir next) reached h a = still_free m a m.kinds m.changes (all_made m) (same_still m.changes) c run _ h.runs refl by_case
    where
      later : Run
      later = held_longer (going_on run (Held dir ∷ run.handed) next run.saw) dir

      by_case : (set : ℕ) → WasAsked run.handed set ⊎ IsSending run set → WasAsked later.handed set ⊎ IsSending later set
      by_case set (inl w) = inl w
      by_case set (inr s) = let clash : Course.Extends dir next ≡ Course.Asks set (job.Birth s.cells s.op) s.next = sym h.extends ∙ s.asks in absurd cc
  step_free m (Step.Releases c run gfid) reached h a = still_free m a m.kinds m.changes (all_made m) (same_still m.changes) c run _ h.runs refl (lift_same run _ refl refl (λ s. s))
  step_free m (Step.Learns c run dir spans) reached h a = a
  step_free m (Step.Answers c run answer place) reached h a = one_free m c (status_after (is_lookup run.fop) answer) a (λ gfid drawn. answered_free first m reached a c run answer h.runs gfid drawn)
  step_free m (Step.AnswersAbove c run answer) reached h a = one_free m c (status_after (is_lookup run.fop) (fop_answer.Call answer)) a (λ gfid drawn. answered_free first m reached a c run (fop_answer.Call answer) h.runs gfid drawn)

  pub free_in : (m : State) → IsReached first m → FreeIn m
  free_in _ (IsReached.Start planned) = λ c gfid drawn. absurd cc
  free_in _ (IsReached.Further old step reached allowed) = step_free old step reached allowed (free_in old reached)

  pub drawn_free : (m : State) → IsReached first m → DrawnIsFree m
  drawn_free m reached = record { made = λ c gfid k drawn made. by_made c gfid k drawn (made_by_change first m reached gfid k made); born = λ c gfid drawn. free_in m reached c gfid drawn }
    where
      by_made : (c : ℕ) (gfid : Gfid) (k : Kind) → (m.calls c).drawn ≡ Some gfid → ((gfid ≡ root) × (k ≡ kind.Dir)) ⊎ IsMadeBy m.changes m.homes gfid k → IsAdding m.changes c (m.homes gfid) gfid
      by_made c gfid k drawn (inl r) = absurd ((drawn_apart first m reached).no_root c gfid drawn r.0)
      by_made c gfid k drawn (inr b) =
          let begun : (m.changes b.change).verdict ≢ Undrawn = λ e. (let clash : Adopted ≡ Undrawn = sym b.adopted ∙ e in absurd cc) in
          let theirs = adds_drawn first m reached b.change b.entry b.parent b.item b.mode b.span begun b.effect b.op_is in
          record {
            change = b.change;
            begun = begun;
            by = (drawn_apart first m reached).apart (m.changes b.change).by c gfid (theirs.0 ∙ ap (λ (g : Gfid). Some g) b.gfid_is) drawn;
            set_is = sym b.home_is;
            entry = b.entry;
            effect = b.effect;
            parent = b.parent;
            item = b.item;
            mode = b.mode;
            span = b.span;
            op_is = b.op_is;
            gfid_is = b.gfid_is;
          }
