-- A fop's own operation is possible where its first change begins: of a rename that drops a file of its new name first, so is the
-- move.
use Rattle.std.proofs.Common.{◌≡◌, ◌≢◌, ◌⊎◌, inl, inr, ◌∙◌, ℕ, false, sym, ap, subst, List, ◌∷◌, Option, Some, None, arith}
use Rattle.dht_fops.proofs.AskFops.{asks_well}
use Rattle.dht_fops.proofs.Bounds.{answers_bounded}
use Rattle.dht_fops.specs.Answers.{IsAccepted, Accepts, change_of, flat_op}
use Rattle.dht_fops.specs.Courses.{Course}
use Rattle.dht_fops.specs.Founded.{SawMovable, AsksWell, IsWellAsked, IsWellHeld, IsWellFound}
use Rattle.dht_fops.specs.Handed.{Handed, Saw, SawName, IsNamesOf}
use Rattle.dht_fops.specs.Handed.Event.{Replied}
use Rattle.dht_fops.specs.Standing.{HaveNoEffect}
use Rattle.dht_linkto.specs.DirNames.{names_job}
use Rattle.fop_types.specs.Names.{is_directory, is_same_name}
use Rattle.fop_types.specs.StoreOps.{is_directory_item}
use Rattle.fop_types.specs.declared.cells.Cell.{Cell}
use Rattle.fop_types.specs.declared.cells.Gfid.{Gfid}
use Rattle.fop_types.specs.declared.cells.Kind.TheVariants as kind
use Rattle.fop_types.specs.declared.flat.FlatOp.{FlatOp}
use Rattle.fop_types.specs.declared.flat.FlatOp.TheVariants as flat
use Rattle.fop_types.specs.declared.fops.Fop.{Fop}
use Rattle.fop_types.specs.declared.fops.Fop.TheVariants as fop
use Rattle.fop_types.specs.declared.fops.Object.{Object}
use Rattle.fop_types.specs.declared.history.Entry.{Entry}
use Rattle.fop_types.specs.declared.jobs.Job.{Job}
use Rattle.fop_types.specs.declared.jobs.Job.TheVariants as job
use Rattle.fop_types.specs.declared.jobs.SetReply.{SetReply}
use Rattle.fop_types.specs.declared.jobs.SetReply.TheVariants as reply
use Rattle.fop_types.specs.declared.store_ops.StoreOp.{StoreOp}
use Rattle.fop_types.specs.declared.store_ops.StoreOp.TheVariants as op
use Rattle.mount_files.proofs.Accepting.{dropped_is}
use Rattle.mount_files.proofs.Later.{open_again, move_again}
use Rattle.mount_files.proofs.Local.{to_local}
use Rattle.mount_files.proofs.Naming.{directory_made}
use Rattle.mount_files.specs.Showing.{Stands}
use Rattle.mount_laws.specs.Effects.{IsOwnPart}
use Rattle.mount_laws.specs.Guards.{Allowed, IsReached}
use Rattle.mount_laws.specs.Objects.{volumes}
use Rattle.mount_laws.specs.Runs.{Run, first_course}
use Rattle.mount_laws.specs.States.{State, Runs}
use Rattle.mount_laws.specs.Steps.{Step, Task, change_by}
use Rattle.mount_laws.proofs.Held.{jobs_asked}
use Rattle.mount_laws.proofs.Leading.{led_always}
use Rattle.mount_shown.proofs.Beginning.{asks}
use Rattle.mount_shown.proofs.Courses.{fops_drop_in_turn}
use Rattle.mount_shown.proofs.First.{flat_on, accepted, named_on, here_at}
use Rattle.mount_shown.proofs.Founding.{names_within}
use Rattle.mount_shown.proofs.Gone.{GoneStand}
use Rattle.mount_shown.proofs.Jobs.{some_roots, roots_within, names_many}
use Rattle.mount_shown.proofs.Links.{drops_led}
use Rattle.mount_shown.proofs.Listing.{NamesOfDirs, has_name_made}
use Rattle.mount_shown.proofs.Parts.{IsWholePart, IsFirstPart, IsPart, fop_part}
use Rattle.mount_shown.proofs.Planned.{handed_bounded, run_sound}
use Rattle.mount_shown.proofs.Second.{effect_before, own_part_of, parts_are, HadEffect, drop_of, saw_short}
use Rattle.mount_shown.proofs.Watching.{NamesStand}
use Rattle.mount_shown.specs.Bridge.{op_of}
use Rattle.mount_shown.specs.Dropping.{IsMoveOf, LeadsToMove, IsRenameThen, DropsInTurn}
use Rattle.mount_shown.specs.Pending.{KeepsFiles, BeginsWell}

-- ---- the fop of a rename

record IsRenameOf (f : Fop) (parent : Gfid) (name : List ℕ) (target : Gfid) (new_name : List ℕ) : Type 0 where
  pub from : Object
  pub to : Object
  pub fop_is : f ≡ fop.Rename from name to new_name
  pub from_is : from.gfid ≡ parent

same_op : (a b : FlatOp) → ◌≡◌ {A = Option FlatOp} (Some a) (Some b) → a ≡ b
same_op a b e = cc

fop_renames : (f : Fop) (parent : Gfid) (name : List ℕ) (target : Gfid) (new_name : List ℕ) → flat_op f ≡ Some (flat.Rename parent name target new_name) → IsRenameOf f parent name target new_name
fop_renames (fop.Rename from own to own_new) parent name target new_name e =
    let same : flat.Rename from.gfid own to.gfid own_new ≡ flat.Rename parent name target new_name = same_op (flat.Rename from.gfid own to.gfid own_new) (flat.Rename parent name target new_name) e in
    record { from = from; to = to; fop_is = cc; from_is = cc }
fop_renames (fop.Lookup dir own) parent name target new_name e = absurd cc
fop_renames (fop.Mkdir dir own mode drawn) parent name target new_name e = absurd cc
fop_renames (fop.Rmdir dir own) parent name target new_name e = absurd cc
fop_renames (fop.Create fd dir own mode drawn) parent name target new_name e = absurd cc
fop_renames (fop.Unlink dir own) parent name target new_name e = absurd cc
fop_renames (fop.Open fd object) parent name target new_name e = absurd cc
fop_renames (fop.Stat object) parent name target new_name e = absurd cc
fop_renames (fop.List object) parent name target new_name e = absurd cc
fop_renames (fop.Chmod object mode) parent name target new_name e = absurd cc
fop_renames (fop.Truncate object size) parent name target new_name e = absurd cc
fop_renames (fop.SetAttr object attr) parent name target new_name e = absurd cc
fop_renames (fop.GetAttr object own) parent name target new_name e = absurd cc
fop_renames (fop.DelAttr object own) parent name target new_name e = absurd cc
fop_renames (fop.Read fd object offset n) parent name target new_name e = absurd cc
fop_renames (fop.Write fd object offset bytes) parent name target new_name e = absurd cc
fop_renames (fop.Migrate fds) parent name target new_name e = absurd cc
fop_renames (fop.Heal n) parent name target new_name e = absurd cc

-- ---- what a rename has seen when it drops a file of its new name

record SawSource (handed : Handed) (dir : Gfid) (name : List ℕ) : Type 0 where
  pub set : ℕ
  pub gfid : Gfid
  pub saw : SawName handed dir name set gfid kind.File

-- what was seen after one more reply to another job than a read of names was seen before
seen_before : (handed : Handed) (one : ℕ) (asked : Job) (said : SetReply) → ((dir : Gfid) → asked ≢ names_job dir) → (dir : Gfid) (name : List ℕ) → SawSource (Replied one asked said ∷ handed) dir name → SawSource handed dir name
seen_before handed one asked said other dir name s =
    record { set = s.set; gfid = s.gfid; saw = record { shown = s.saw.shown; saw = by_saw s.saw.saw; item = s.saw.item; named = s.saw.named; is_object = s.saw.is_object; gfid_is = s.saw.gfid_is; kind_is = s.saw.kind_is } }
  where
    by_saw : IsNamesOf (Replied one asked said) dir s.set s.saw.shown ⊎ Saw handed dir s.set s.saw.shown → Saw handed dir s.set s.saw.shown
    by_saw (inl k) = absurd (other dir k.1)
    by_saw (inr w) = w

module _ (n : ℕ) (from : Object) (name : List ℕ) (to : Object) (new_name : List ℕ) where
  by_move : (handed : Handed) (course : Course) → IsMoveOf (fop.Rename from name to new_name) course → AsksWell n handed course → SawSource handed from.gfid name
  by_move handed (Course.Asks set (job.Change cells fd (op.Move a b c d) (Some entry)) next) k w =
      let m : SawMovable n handed a b c d set = w.0.founded in
      subst (λ (g : Gfid). SawSource handed g name) (sym k.0.0) (subst (λ (l : List ℕ). SawSource handed a l) (sym k.0.1) (record { set = set; gfid = m.from.gfid; saw = m.from.saw }))
  by_move handed (Course.Asks set (job.Change cells fd (op.Move a b c d) None) next) k w = absurd k
  by_move handed (Course.Asks set (job.Change cells fd (op.AddName parent item mode span) effect) next) k w = absurd k
  by_move handed (Course.Asks set (job.Change cells fd (op.DropName parent own) effect) next) k w = absurd k
  by_move handed (Course.Asks set (job.Change cells fd (op.DropDir parent own g) effect) next) k w = absurd k
  by_move handed (Course.Asks set (job.Change cells fd (op.Write g offset bytes) effect) next) k w = absurd k
  by_move handed (Course.Asks set (job.Change cells fd (op.Truncate g size) effect) next) k w = absurd k
  by_move handed (Course.Asks set (job.Change cells fd (op.SetMode g mode) effect) next) k w = absurd k
  by_move handed (Course.Asks set (job.Change cells fd (op.SetAttr g attr) effect) next) k w = absurd k
  by_move handed (Course.Asks set (job.Change cells fd (op.DelAttr g own) effect) next) k w = absurd k
  by_move handed (Course.Asks set (job.Change cells fd (op.MakeCopy g span) effect) next) k w = absurd k
  by_move handed (Course.Asks set (job.Read cells fd dir) next) k w = absurd k
  by_move handed (Course.Asks set (job.Birth cells o) next) k w = absurd k
  by_move handed (Course.Asks set (job.Open fd gfid) next) k w = absurd k
  by_move handed (Course.Asks set job.Index next) k w = absurd k
  by_move handed (Course.Asks set (job.Heal cell) next) k w = absurd k
  by_move handed (Course.Extends dir next) k w = absurd k
  by_move handed (Course.Ends answer place) k w = absurd k

  by_lead : (handed : Handed) (course : Course) → LeadsToMove (fop.Rename from name to new_name) course → AsksWell n handed course → SawSource handed from.gfid name
  by_lead handed (Course.Asks set (job.Birth cells o) next) k w =
      seen_before handed set (job.Birth cells o) (reply.Decided None) (λ g e. let clash : job.Birth cells o ≡ names_job g = e in absurd cc) from.gfid name
      (by_move (Replied set (job.Birth cells o) (reply.Decided None) ∷ handed) (next (reply.Decided None)) k (w.1 (reply.Decided None)))
  by_lead handed (Course.Asks set (job.Change cells fd o effect) next) k w = by_move handed (Course.Asks set (job.Change cells fd o effect) next) k w
  by_lead handed (Course.Asks set (job.Read cells fd dir) next) k w = absurd k
  by_lead handed (Course.Asks set (job.Open fd gfid) next) k w = absurd k
  by_lead handed (Course.Asks set job.Index next) k w = absurd k
  by_lead handed (Course.Asks set (job.Heal cell) next) k w = absurd k
  by_lead handed (Course.Extends dir next) k w = absurd k
  by_lead handed (Course.Ends answer place) k w = absurd k

  at_drop : (handed : Handed) (set : ℕ) (cells : List Cell) (fd : ℕ) (o : StoreOp) (entry : Entry) (next : SetReply → Course) → IsRenameThen (fop.Rename from name to new_name) next
      → AsksWell n handed (Course.Asks set (job.Change cells fd o (Some entry)) next) → SawSource handed from.gfid name
  at_drop handed set cells fd o entry next k w =
      seen_before handed set (job.Change cells fd o (Some entry)) (reply.Decided None) (λ g e. let clash : job.Change cells fd o (Some entry) ≡ names_job g = e in absurd cc) from.gfid name
      (by_lead (Replied set (job.Change cells fd o (Some entry)) (reply.Decided None) ∷ handed) (next (reply.Decided None)) k (w.1 (reply.Decided None)))

-- ---- where a change begins

module _ (first : List (List ℕ)) (m : State) (reached : IsReached first m) (a : KeepsFiles m) (dirs : NamesOfDirs m.kinds m.adopted) (names : (c : ℕ) (run : Run) → Runs m c run → NamesStand m.adopted m.changes c run.handed) (gone : GoneStand m)
    (t : Task) (u : ℕ) (h : Allowed m (Step.BeginsChange t u)) (cells : List Cell) (fd : ℕ) (o : StoreOp) (entry : Entry) (is : t.job ≡ job.Change cells fd o (Some entry)) where
  -- a rename that drops a file of its new name has seen the file that it renames
  source_seen : (parent : Gfid) (name : List ℕ) (target : Gfid) (new_name : List ℕ) → o ≡ op.DropName target new_name → flat_op t.run.fop ≡ Some (flat.Rename parent name target new_name) → SawSource t.run.handed parent name
  source_seen parent name target new_name o_is whole =
      let r = fop_renames t.run.fop parent name target new_name whole in
      let drop : t.run.course ≡ Course.Asks t.set (job.Change cells fd (op.DropName target new_name) (Some entry)) t.next = asks first m reached t u h cells fd (op.DropName target new_name) (Some entry) (is ∙ ap (λ (x : StoreOp). job.Change cells fd x (Some entry)) o_is) in
      let turn : DropsInTurn t.run.fop t.run.course = (drops_led t.run.fop (first_course t.run) t.run.handed t.run.course (jobs_asked first m reached t.call t.run h.under_way.runs) (fops_drop_in_turn t.run.volume t.run.names t.run.kept t.run.fop)).0 in
      let then : IsRenameThen t.run.fop t.next = (subst (λ (course : Course). DropsInTurn t.run.fop course) drop turn).0 in
      let well : AsksWell t.run.volume.sets t.run.handed t.run.course =
      led_always (IsWellAsked t.run.volume.sets) IsWellHeld (IsWellFound t.run.volume.sets) (first_course t.run) t.run.handed t.run.course (jobs_asked first m reached t.call t.run h.under_way.runs)
      (asks_well t.run.volume t.run.names t.run.kept t.run.fop (some_roots first m reached t.call t.run h.under_way.runs) (roots_within first m reached t.call t.run h.under_way.runs) (names_many first m reached t.call t.run h.under_way.runs)
      (run_sound first m reached t.call t.run h.under_way.runs).named (names_within first m reached a t.call t.run h.under_way.runs) (run_sound first m reached t.call t.run h.under_way.runs).within) in
      subst (λ (g : Gfid). SawSource t.run.handed g name) r.from_is
      (at_drop t.run.volume.sets r.from name r.to new_name t.run.handed t.set cells fd (op.DropName target new_name) entry t.next (subst (λ (f : Fop). IsRenameThen f t.next) r.fop_is then)
      (subst (λ (course : Course). AsksWell t.run.volume.sets t.run.handed course) drop well))

  move_possible : HaveNoEffect t.run.handed → (parent : Gfid) (name : List ℕ) (target : Gfid) (new_name : List ℕ) → o ≡ op.DropName target new_name → flat_op t.run.fop ≡ Some (flat.Rename parent name target new_name) → is_same_name parent name target new_name ≡ false
      → IsAccepted (volumes m).files (flat.Rename parent name target new_name)
  move_possible none parent name target new_name o_is whole differ =
      let s = source_seen parent name target new_name o_is whole in
      let item_is = named_on first m reached a t u h none parent name s.set s.gfid kind.File s.saw in
      let made = has_name_made m.kinds m.adopted dirs s.set parent name s.saw.item item_is in
      let at = here_at first m reached a t u h none parent name s.set s.gfid kind.File s.saw made in
      let dir = directory_made (volumes m) t.run.volume.sets parent (to_local (volumes m) t.run.volume.sets (flat_on first m reached a t u h none) parent) made in
      let accept = accepted first m reached a t u h none cells fd (op.DropName target new_name) entry (is ∙ ap (λ (x : StoreOp). job.Change cells fd x (Some entry)) o_is) in
      let w = dropped_is (volumes m).files target new_name accept.answer accept.after accept.accepted in
      let short = saw_short t.run.handed parent name s.set s.gfid kind.File (handed_bounded answers_bounded first m reached t.call t.run h.under_way.runs) s.saw in
      move_again (volumes m).files parent name target new_name s.saw.item (open_again (volumes m) t.run.volume.sets parent name dir at.kept short) at.shown (ap is_directory s.saw.kind_is) w.open_at (ap is_directory_item w.named ∙ w.no_directory) differ

  pub whole_possible : BeginsWell m t → Accepts (volumes m).files (flat_op t.run.fop)
  whole_possible b = by_part (fop_part (flat_op t.run.fop) entry.part own.part own.part_is)
    where
      own : IsOwnPart t.call t.run.fop t.run.handed t.set o entry
      own = own_part_of first m reached a dirs names gone t u h cells fd o entry is

      stands : Accepts (volumes m).files (change_of o)
      stands = (subst (λ (j : Job). Stands (volumes m) (op_of (change_by t.call t.set j)).set (op_of (change_by t.call t.set j)).op (op_of (change_by t.call t.set j)).effect) is b.fits.stands).0

      no_effect : entry.part ≡ 1 → HaveNoEffect t.run.handed
      no_effect one = by_case (effect_before first m reached a dirs names gone t u h cells fd o entry is)
        where
          by_case : HaveNoEffect t.run.handed ⊎ HadEffect m.changes m.history t.call t.run.fop entry.part → HaveNoEffect t.run.handed
          by_case (inl none) = none
          by_case (inr had) = let two = (parts_are first m reached a dirs names gone t u h cells fd o entry is had).1 in absurd (omega (arith, one, two))

      by_part : IsPart (flat_op t.run.fop) entry.part own.part → Accepts (volumes m).files (flat_op t.run.fop)
      by_part x = by_one x.part
        where
          by_one : IsWholePart x.o entry.part own.part ⊎ IsFirstPart x.o entry.part own.part → Accepts (volumes m).files (flat_op t.run.fop)
          by_one (inl w) = subst (λ (one : Option FlatOp). Accepts (volumes m).files one) (own.makes ∙ ap (λ (p : FlatOp). Some p) (sym w.whole) ∙ sym x.fop_is) stands
          by_one (inr f) =
              let whole = x.fop_is ∙ ap (λ (p : FlatOp). Some p) f.whole in
              subst (λ (one : Option FlatOp). Accepts (volumes m).files one) (sym whole)
              (move_possible (no_effect f.number_is) f.parent f.name f.target f.new_name (drop_of o f.target f.new_name (own.makes ∙ ap (λ (p : FlatOp). Some p) f.part_is)) whole f.differ)
