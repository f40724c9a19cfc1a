-- Each job of a fop is on the home of the file that it reads or changes, and each change on the set of its object.
use Rattle.std.proofs.Common.{◌≡◌, ◌∙◌, ◌⊎◌, ℕ, ◌≤◌, length, inl, inr, Bool, true, false, refl, sym, ap, subst, List, [], ◌∷◌, Option, Some, None}
use Rattle.std.specs.Prelude.{◌≢◌}
use Rattle.afr_machine.specs.Changes.{Verdict}
use Rattle.afr_machine.specs.Changes.Verdict.{Undrawn, Unsettled, Adopted, Dropped}
use Rattle.afr_machine.specs.Replicas.{with_at}
use Rattle.dht_fops.specs.Answers.{AreMade, flat_op, change_of, added}
use Rattle.dht_fops.specs.Courses.{Course}
use Rattle.dht_fops.specs.Fops.{fop_course}
use Rattle.dht_fops.specs.Handed.{Handed, Always, AnyHold, AnyAnswer}
use Rattle.dht_fops.specs.Shown.{Homes}
use Rattle.dht_fops.specs.Standing.{Volumes, IsMade}
use Rattle.dht_laws.specs.Homes.{IsNamedBy, IsHome, IsOwnAtHome, IsFileOn, IsOwnDir, SawDirectory, IsInPlace, AreInPlace, IsChangedAt, IsJobAtHome, FopsChangeOnSets}
use Rattle.dht_laws.specs.Links.{IsMadeBy as IsMadeByFop}
use Rattle.fop_types.specs.Bounds.{Each}
use Rattle.fop_types.specs.Cells.{root}
use Rattle.fop_types.specs.Names.{is_link, is_directory}
use Rattle.fop_types.specs.declared.cells.Cell.{Cell}
use Rattle.fop_types.specs.declared.cells.Gfid.{Gfid}
use Rattle.fop_types.specs.declared.cells.Kind.{Kind}
use Rattle.fop_types.specs.declared.cells.Kind.TheVariants as kind
use Rattle.fop_types.specs.declared.contents.Item.{Item}
use Rattle.fop_types.specs.declared.flat.FlatOp.{FlatOp}
use Rattle.fop_types.specs.declared.flat.FlatOp.TheVariants as flat
use Rattle.fop_types.specs.declared.fops.Fop.{Fop}
use Rattle.fop_types.specs.declared.fops.Fop.TheVariants as fop
use Rattle.fop_types.specs.declared.fops.Object.{Object}
use Rattle.fop_types.specs.declared.history.Entry.{Entry}
use Rattle.fop_types.specs.declared.jobs.Job.{Job}
use Rattle.fop_types.specs.declared.jobs.Job.TheVariants as job
use Rattle.fop_types.specs.declared.jobs.SetReply.{SetReply}
use Rattle.fop_types.specs.declared.store_ops.StoreOp.{StoreOp}
use Rattle.fop_types.specs.declared.store_ops.StoreOp.TheVariants as op
use Rattle.mount_laws.specs.Effects.{part_of, IsOwnEntry, IsOwnEffect}
use Rattle.mount_laws.specs.Guards.{Allowed, IsReached, IsChange, DrawsOwn}
use Rattle.mount_laws.specs.Homes.{IsAtHome, AreAtHome, JobHome, IsObjectOn, IsChangedOn, ChangedAtHome}
use Rattle.mount_laws.specs.Objects.{volumes, IsMadeBy, IsMadeOn, AreEventsMade}
use Rattle.mount_laws.specs.Runs.{Run, first_course}
use Rattle.mount_laws.specs.States.{State, Change, Runs, is_unanswered}
use Rattle.mount_laws.specs.Steps.{Step, Task, after, change_by}
use Rattle.mount_laws.proofs.Beside.{each_map}
use Rattle.mount_laws.proofs.Beyond.{in_its_graph}
use Rattle.mount_laws.proofs.Drawing.{drawn_apart, adds_drawn, began_in, one_part}
use Rattle.mount_laws.proofs.Entering.{began_is, effect_own}
use Rattle.mount_laws.proofs.Held.{jobs_asked}
use Rattle.mount_laws.proofs.Leading.{led_always}
use Rattle.mount_laws.proofs.Making.{Grows, step_grows, made_by_change, objects_made, handed_made, found_made}
use Rattle.mount_laws.proofs.Tables.{at_case}

unwrap : {A : Type 0} (a b : A) → ◌≡◌ {A = Option A} (Some a) (Some b) → a ≡ b
unwrap a b e = cc

-- ---- objects of a fop

named_made : (s : Volumes) (f : Fop) (object : Object) → IsNamedBy f object → AreMade s f → IsMade s object
named_made s (fop.Lookup parent name) object n a = subst (IsMade s) (sym n) a
named_made s (fop.Mkdir parent name mode drawn) object n a = subst (IsMade s) (sym n) a
named_made s (fop.Rmdir parent name) object n a = subst (IsMade s) (sym n) a
named_made s (fop.Create fd parent name mode drawn) object n a = subst (IsMade s) (sym n) a
named_made s (fop.Unlink parent name) object n a = subst (IsMade s) (sym n) a
named_made s (fop.Rename parent name target new_name) object (inl n) a = subst (IsMade s) (sym n) a.0
named_made s (fop.Rename parent name target new_name) object (inr n) a = subst (IsMade s) (sym n) a.1
named_made s (fop.Open fd own) object n a = subst (IsMade s) (sym n) a
named_made s (fop.Stat own) object n a = subst (IsMade s) (sym n) a
named_made s (fop.List own) object n a = subst (IsMade s) (sym n) a
named_made s (fop.Chmod own mode) object n a = subst (IsMade s) (sym n) a
named_made s (fop.Truncate own size) object n a = subst (IsMade s) (sym n) a
named_made s (fop.SetAttr own attr) object n a = subst (IsMade s) (sym n) a
named_made s (fop.GetAttr own name) object n a = subst (IsMade s) (sym n) a
named_made s (fop.DelAttr own name) object n a = subst (IsMade s) (sym n) a
named_made s (fop.Read fd own offset count) object n a = subst (IsMade s) (sym n) a
named_made s (fop.Write fd own offset bytes) object n a = subst (IsMade s) (sym n) a
named_made s (fop.Migrate fds) object n a = absurd n
named_made s (fop.Heal count) object n a = absurd n

file_kind : (k : Kind) → is_link k ≡ false → is_directory k ≡ false → k ≡ kind.File
file_kind kind.File e f = refl
file_kind kind.Dir e f = absurd cc
file_kind kind.Link e f = absurd cc

dir_kind : (k : Kind) → is_directory k ≡ true → k ≡ kind.Dir
dir_kind kind.File e = absurd cc
dir_kind kind.Dir e = refl
dir_kind kind.Link e = absurd cc

-- a file that a fop names, and a directory
own_file : (s : Volumes) (f : Fop) (object : Object) (gfid : Gfid) → IsNamedBy f object → object.gfid ≡ gfid → is_directory object.kind ≡ false → AreMade s f → IsMadeOn s.kinds s.homes object.set gfid kind.File
own_file s f object gfid n same file a =
    let made = named_made s f object n a in
    let is = file_kind object.kind made.no_link file in
    subst (λ (g : Gfid). IsMadeOn s.kinds s.homes object.set g kind.File) same (made.kind_is ∙ ap (λ (k : Kind). Some k) is, λ e. made.home_is is)

pub own_dir : (s : Volumes) (f : Fop) (object : Object) (gfid : Gfid) → IsNamedBy f object → object.gfid ≡ gfid → is_directory object.kind ≡ true → AreMade s f → s.kinds gfid ≡ Some kind.Dir
own_dir s f object gfid n same dir a =
    let made = named_made s f object n a in subst (λ (g : Gfid). s.kinds g ≡ Some kind.Dir) same (made.kind_is ∙ ap (λ (k : Kind). Some k) (dir_kind object.kind dir))

-- ---- the object that a fop makes is no file of another

added_file : (k : Kind) (parent : Gfid) (item : Item) (mode : ℕ) (p : FlatOp) (dir : Gfid) (name : List ℕ) (more : ℕ) (drawn : Gfid) → k ≡ kind.File → added parent item mode k ≡ Some p → flat.Mkdir dir name more drawn ≡ p → ⊥
added_file kind.File parent item mode p dir name more drawn e h is = let clash : flat.Create parent item.name mode item.gfid ≡ flat.Mkdir dir name more drawn = unwrap (flat.Create parent item.name mode item.gfid) p h ∙ sym is in absurd cc
added_file kind.Dir parent item mode p dir name more drawn e h is = absurd cc
added_file kind.Link parent item mode p dir name more drawn e h is = absurd cc

mkdir_makes : (number : ℕ) (part : FlatOp) (f : Fop) (parent : Object) (name : List ℕ) (mode : ℕ) (gfid : Gfid) → f ≡ fop.Mkdir parent name mode gfid → part_of (flat_op f) number ≡ Some part → flat.Mkdir parent.gfid name mode gfid ≡ part
mkdir_makes number part f parent name mode gfid is h = (one_part (flat.Mkdir parent.gfid name mode gfid) number part refl (subst (λ (x : Fop). part_of (flat_op x) number ≡ Some part) is h)).0

made_no_file : (first : List (List ℕ)) (m : State) → IsReached first m → (c : ℕ) (run : Run) → Runs m c run → (gfid : Gfid) → IsMadeByFop run.fop gfid → m.kinds gfid ≡ Some kind.File → ⊥
made_no_file first m reached c run runs gfid made file = by_made (made_by_change first m reached gfid kind.File file)
  where
    began : m.began c ≡ Some run.fop
    began = began_is first m reached c run runs

    mine : (m.calls c).drawn ≡ Some gfid
    mine = subst (λ (f : Fop). DrawsOwn (m.calls c).drawn f) made.is_mkdir ((began_in first m reached).draws c run.fop began)

    by_made : ((gfid ≡ root) × (kind.File ≡ kind.Dir)) ⊎ IsMadeBy m.changes m.homes gfid kind.File → ⊥
    by_made (inl r) = let clash : kind.File ≡ kind.Dir = r.1 in absurd cc
    by_made (inr b) =
        let begun : (m.changes b.change).verdict ≢ Undrawn = λ e. (let clash : Adopted ≡ Undrawn = sym b.adopted ∙ e in absurd cc) in
        let theirs = adds_drawn first m reached b.change b.entry b.parent b.item b.mode b.span begun b.effect b.op_is in
        let by : (m.changes b.change).by ≡ c = (drawn_apart first m reached).apart (m.changes b.change).by c gfid (theirs.0 ∙ ap (λ (g : Gfid). Some g) b.gfid_is) mine in
        let own : IsOwnEntry m.began (m.changes b.change) b.entry = subst (λ (x : Option Entry). IsOwnEffect m.began (m.changes b.change) x) b.effect (effect_own first m reached b.change begun) in
        let same : own.fop ≡ run.fop = unwrap own.fop run.fop (sym own.began_is ∙ ap m.began by ∙ began) in
        added_file b.item.kind b.parent b.item b.mode own.part made.parent.gfid made.name made.mode gfid b.kind_is (sym (ap change_of b.op_is) ∙ own.makes)
        (mkdir_makes b.entry.part own.part own.fop made.parent made.name made.mode gfid (same ∙ made.is_mkdir) own.part_is)

-- ---- jobs

job_placed : FopsChangeOnSets → (first : List (List ℕ)) (m : State) → IsReached first m → (c : ℕ) (run : Run) (set : ℕ) (asked : Job) (next : SetReply → Course) → Runs m c run → run.course ≡ Course.Asks set asked next → IsJobAtHome run.fop run.handed set asked
job_placed law first m reached c run set asked next runs asks =
    let g = in_its_graph first m reached in
    let p = g.planned c run runs in
    let sets : length run.names ≡ run.volume.sets = ap (λ (n : List (List ℕ)). length n) p.names_are ∙ sym p.sets in
    let some : 1 ≤ run.volume.root_sets = subst (λ (n : ℕ). 1 ≤ n) (sym p.roots) g.some in
    let few : run.volume.root_sets ≤ run.volume.sets = subst (λ (n : ℕ). n ≤ run.volume.sets) (sym p.roots) (subst (λ (n : ℕ). m.root_sets ≤ n) (sym p.sets) (g.unanswered c (ap (λ s. is_unanswered s) runs)).0) in
    (subst (λ (course : Course). Always (IsJobAtHome run.fop) AnyHold AnyAnswer run.handed course) asks
    (led_always (IsJobAtHome run.fop) AnyHold AnyAnswer (first_course run) run.handed run.course (jobs_asked first m reached c run runs) (law run.volume run.names run.kept run.fop some few sets))).0

module _ (first : List (List ℕ)) (m : State) (reached : IsReached first m) (c : ℕ) (run : Run) (runs : Runs m c run) where
  at_home : (set : ℕ) (cell : Cell) → IsInPlace run.fop run.handed set cell.gfid → IsAtHome m.kinds m.homes set cell
  at_home set cell (inl f) file =
      let made = own_file (volumes m) run.fop f.object cell.gfid f.named f.gfid_is f.is_file ((objects_made first m reached).fops c run runs) in made.1 refl ∙ sym f.set_is
  at_home set cell (inr (inl d)) file =
      let dir = own_dir (volumes m) run.fop d.object cell.gfid d.named d.gfid_is d.is_dir ((objects_made first m reached).fops c run runs) in
      let clash : ◌≡◌ {A = Option Kind} (Some kind.Dir) (Some kind.File) = sym dir ∙ file in absurd cc
  at_home set cell (inr (inr (inl d))) file =
      let found = found_made m.kinds m.homes run.handed d.set cell.gfid kind.Dir (handed_made first m reached c run runs).0 (inl (record { dir = d.parent; name = d.name; saw = d.saw })) in
      let clash : ◌≡◌ {A = Option Kind} (Some kind.Dir) (Some kind.File) = sym found.made.0 ∙ file in absurd cc
  at_home set cell (inr (inr (inr made))) file = absurd (made_no_file first m reached c run runs cell.gfid made file)

  all_home : (set : ℕ) (cells : List Cell) → AreInPlace run.fop run.handed set cells → Each (IsAtHome m.kinds m.homes set) cells
  all_home set cells a = each_map (λ (cell : Cell). IsInPlace run.fop run.handed set cell.gfid) (IsAtHome m.kinds m.homes set) cells (λ cell k. at_home set cell k) a

  job_home : (set : ℕ) (asked : Job) → IsJobAtHome run.fop run.handed set asked → AreAtHome m.kinds m.homes set asked
  job_home set (job.Read cells fd dir) a = all_home set cells a.1
  job_home set (job.Change cells fd o (Some entry)) a = all_home set cells a.1
  job_home set (job.Change cells fd o None) a = all_home set cells a
  job_home set (job.Birth cells o) a = all_home set cells a
  job_home set (job.Open fd gfid) a = tt
  job_home set job.Index a = tt
  job_home set (job.Heal cell) a = tt

  object_on : (set : ℕ) (gfid : Gfid) → IsOwnAtHome run.fop set gfid → IsObjectOn m.kinds m.homes set gfid
  object_on set gfid a = by_kind (is_directory a.object.kind) refl
    where
      by_kind : (b : Bool) → is_directory a.object.kind ≡ b → IsObjectOn m.kinds m.homes set gfid
      by_kind true e = inl (own_dir (volumes m) run.fop a.object gfid a.named a.gfid_is e ((objects_made first m reached).fops c run runs), a.at_home.directory e)
      by_kind false e =
          inr (subst (λ (s : ℕ). IsMadeOn m.kinds m.homes s gfid kind.File) (sym (a.at_home.file e)) (own_file (volumes m) run.fop a.object gfid a.named a.gfid_is e ((objects_made first m reached).fops c run runs)))

  file_on : (set : ℕ) (gfid : Gfid) → IsFileOn run.fop set gfid → IsMadeOn m.kinds m.homes set gfid kind.File
  file_on set gfid a = subst (λ (s : ℕ). IsMadeOn m.kinds m.homes s gfid kind.File) (sym a.set_is) (own_file (volumes m) run.fop a.object gfid a.named a.gfid_is a.is_file ((objects_made first m reached).fops c run runs))

  changed_on : (set : ℕ) (o : StoreOp) → IsChangedAt run.fop set o → IsChangedOn m.kinds m.homes set o
  changed_on set (op.Write gfid offset bytes) a = file_on set gfid a
  changed_on set (op.Truncate gfid size) a = file_on set gfid a
  changed_on set (op.SetMode gfid mode) a = object_on set gfid a
  changed_on set (op.SetAttr gfid attr) a = object_on set gfid a
  changed_on set (op.DelAttr gfid name) a = object_on set gfid a
  changed_on set (op.AddName parent item mode span) a = tt
  changed_on set (op.DropName parent name) a = tt
  changed_on set (op.DropDir parent name gfid) a = a
  changed_on set (op.Move parent name target new_name) a = tt
  changed_on set (op.MakeCopy gfid span) a = absurd a

pub jobs_home : FopsChangeOnSets → (first : List (List ℕ)) (m : State) → IsReached first m → JobHome m
jobs_home law first m reached = λ c run set asked next runs asks. job_home first m reached c run runs set asked (job_placed law first m reached c run set asked next runs asks)

-- ---- changes

abbrev ChangedIn : (ℕ → Change) → (Gfid → Option Kind) → Homes → Type 0
ChangedIn changes kinds homes = (u : ℕ) (entry : Entry) → (changes u).verdict ≢ Undrawn → (changes u).effect ≡ Some entry → IsChangedOn kinds homes (changes u).set (changes u).op

object_grows : (kinds : Gfid → Option Kind) (homes : Homes) (new_kinds : Gfid → Option Kind) (new_homes : Homes) → Grows kinds homes new_kinds new_homes → (set : ℕ) (gfid : Gfid) → IsObjectOn kinds homes set gfid → IsObjectOn new_kinds new_homes set gfid
object_grows kinds homes new_kinds new_homes grows set gfid (inl d) = inl ((grows set gfid kind.Dir (d.0, λ e. absurd cc)).0, d.1)
object_grows kinds homes new_kinds new_homes grows set gfid (inr f) = inr (grows set gfid kind.File f)

changed_grows : (kinds : Gfid → Option Kind) (homes : Homes) (new_kinds : Gfid → Option Kind) (new_homes : Homes) → Grows kinds homes new_kinds new_homes → (set : ℕ) (o : StoreOp) → IsChangedOn kinds homes set o → IsChangedOn new_kinds new_homes set o
changed_grows kinds homes new_kinds new_homes grows set (op.Write gfid offset bytes) a = grows set gfid kind.File a
changed_grows kinds homes new_kinds new_homes grows set (op.Truncate gfid size) a = grows set gfid kind.File a
changed_grows kinds homes new_kinds new_homes grows set (op.SetMode gfid mode) a = object_grows kinds homes new_kinds new_homes grows set gfid a
changed_grows kinds homes new_kinds new_homes grows set (op.SetAttr gfid attr) a = object_grows kinds homes new_kinds new_homes grows set gfid a
changed_grows kinds homes new_kinds new_homes grows set (op.DelAttr gfid name) a = object_grows kinds homes new_kinds new_homes grows set gfid a
changed_grows kinds homes new_kinds new_homes grows set (op.AddName parent item mode span) a = tt
changed_grows kinds homes new_kinds new_homes grows set (op.DropName parent name) a = tt
changed_grows kinds homes new_kinds new_homes grows set (op.DropDir parent name gfid) a = a
changed_grows kinds homes new_kinds new_homes grows set (op.Move parent name target new_name) a = tt
changed_grows kinds homes new_kinds new_homes grows set (op.MakeCopy gfid span) a = absurd a

all_grow : (changes : ℕ → Change) (kinds : Gfid → Option Kind) (homes : Homes) (new_kinds : Gfid → Option Kind) (new_homes : Homes) → Grows kinds homes new_kinds new_homes → ChangedIn changes kinds homes → ChangedIn changes new_kinds new_homes
all_grow changes kinds homes new_kinds new_homes grows a u entry drawn effect = changed_grows kinds homes new_kinds new_homes grows (changes u).set (changes u).op (a u entry drawn effect)

decided_home : (m : State) (u : ℕ) (verdict : Verdict) → (m.changes u).verdict ≡ Unsettled → ChangedAtHome m → ChangedIn (with_at m.changes u (record (m.changes u) { verdict = verdict })) m.kinds m.homes
decided_home m u verdict was a w entry =
    at_case (λ i (one : Change). one.verdict ≢ Undrawn → one.effect ≡ Some entry → IsChangedOn m.kinds m.homes one.set one.op) m.changes u (record (m.changes u) { verdict = verdict })
    (λ drawn effect. a u entry (λ e. let clash : Unsettled ≡ Undrawn = sym was ∙ e in absurd cc) effect) w (λ differ. a w entry)

begun_home : FopsChangeOnSets → (first : List (List ℕ)) (m : State) → IsReached first m → (t : Task) → Runs m t.call t.run → t.run.course ≡ Course.Asks t.set t.job t.next → IsChange t.job → (entry : Entry)
    → (change_by t.call t.set t.job).effect ≡ Some entry → IsChangedOn m.kinds m.homes (change_by t.call t.set t.job).set (change_by t.call t.set t.job).op
begun_home law first m reached t runs asks is entry = of_job t.job is (job_placed law first m reached t.call t.run t.set t.job t.next runs asks)
  where
    of_job : (asked : Job) → IsChange asked → IsJobAtHome t.run.fop t.run.handed t.set asked → (change_by t.call t.set asked).effect ≡ Some entry → IsChangedOn m.kinds m.homes (change_by t.call t.set asked).set (change_by t.call t.set asked).op
    of_job (job.Change cells fd o (Some one)) is a e = changed_on first m reached t.call t.run runs t.set o a.0
    of_job (job.Change cells fd o None) is a e = absurd cc
    of_job (job.Read cells fd dir) is a e = absurd is
    of_job (job.Birth cells o) is a e = absurd is
    of_job (job.Open fd gfid) is a e = absurd is
    of_job job.Index is a e = absurd is
    of_job (job.Heal cell) is a e = absurd is

step_home : FopsChangeOnSets → (first : List (List ℕ)) (m : State) (step : Step) → IsReached first m → Allowed m step → ChangedAtHome m → ChangedAtHome (after m step)
step_home law first m (Step.Settles t u true) reached h a = all_grow (with_at m.changes u (record (m.changes u) { verdict = Adopted })) m.kinds m.homes (after m (Step.Settles t u true)).kinds (after m (Step.Settles t u true)).homes (step_grows first m (Step.Settles t u true) reached h) (decided_home m u Adopted h.unsettled.verdict a)
step_home law first m (Step.Decides t u) reached h a = all_grow (with_at m.changes u (record (m.changes u) { verdict = Adopted })) m.kinds m.homes (after m (Step.Decides t u)).kinds (after m (Step.Decides t u)).homes (step_grows first m (Step.Decides t u) reached h) (decided_home m u Adopted h.unsettled a)
step_home law first m (Step.Settles t u false) reached h a = decided_home m u Dropped h.unsettled.verdict a
step_home law first m (Step.BeginsChange t u) reached h a = λ w entry.
    at_case (λ i (one : Change). one.verdict ≢ Undrawn → one.effect ≡ Some entry → IsChangedOn m.kinds m.homes one.set one.op) m.changes u (change_by t.call t.set t.job)
    (λ drawn effect. begun_home law first m reached t h.under_way.runs h.under_way.asks h.is_change entry effect) w (λ differ. a w entry)
step_home law first m (Step.Submits draws) reached h a = a
step_home law first m (Step.Concludes c) reached h a = a
step_home law first m (Step.Switches names) reached h a = a
step_home law first m (Step.Begins c f kept) reached h a = a
step_home law first m (Step.EndsSettling t) reached h a = a
step_home law first m (Step.SendsBirths t) reached h a = a
step_home law first m (Step.ConfirmsBirths t) reached h a = a
step_home law first m (Step.HandsIn t shown) reached h a = a
step_home law first m (Step.Extends c run dir next) reached h a = a
step_home law first m (Step.Releases c run gfid) reached h a = a
step_home law first m (Step.Learns c run dir spans) reached h a = a
step_home law first m (Step.Answers c run answer place) reached h a = a
step_home law first m (Step.AnswersAbove c run answer) reached h a = a

pub changed_home : FopsChangeOnSets → (first : List (List ℕ)) (m : State) → IsReached first m → ChangedAtHome m
changed_home law first _ (IsReached.Start planned) = λ u entry drawn. absurd (drawn refl)
changed_home law first _ (IsReached.Further old step reached allowed) = step_home law first old step reached allowed (changed_home law first old reached)
