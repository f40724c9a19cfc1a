-- What a fop knows at its first change with an effect: it has begun none, so what it read is adopted; it answers as the flat file
-- system; and no other change is unsettled on what it read.
use Rattle.std.proofs.Common.{◌≡◌, ◌≢◌, ◌⊎◌, inl, inr, ◌∙◌, ℕ, ◌<◌, Bool, true, refl, sym, ap, subst, List, [], ◌∷◌, Option, Some, Result, Ok, arith}
use Rattle.afr_machine.specs.Changes.Verdict.{Undrawn, Unsettled}
use Rattle.afr_machine.specs.Touching.{has_cell}
use Rattle.dht_fops.proofs.AskFops.{asks_well}
use Rattle.dht_fops.specs.Answers.{AreMade, FitsFlat, AnswersAsFlat, Accepts, change_of}
use Rattle.dht_fops.specs.Courses.{Course}
use Rattle.dht_fops.specs.Founded.{NamesSets, IsWellAsked, IsWellHeld, IsWellFound}
use Rattle.dht_fops.specs.Handed.{Handed, Event, AnyHold, Saw, IsNamesOf}
use Rattle.dht_fops.specs.Handed.Event.{Replied, Held}
use Rattle.dht_fops.specs.Shown.{SetContents}
use Rattle.dht_fops.specs.Standing.{HaveNoEffect, StillShown}
use Rattle.dht_laws.proofs.FlatFops.{answers_as_flat}
use Rattle.dht_linkto.specs.DirNames.{names_job, names_shown, names_in, first_content}
use Rattle.dht_linkto.specs.declared.names.DirNames.{DirNames}
use Rattle.fop_types.specs.Bounds.{Each}
use Rattle.fop_types.specs.Cells.{names_cell}
use Rattle.fop_types.specs.Jobs.{may_lack}
use Rattle.fop_types.specs.StoreOps.{items_of, is_removed, needs}
use Rattle.fop_types.specs.declared.answers.IoError.{IoError}
use Rattle.fop_types.specs.declared.cells.Cell.{Cell}
use Rattle.fop_types.specs.declared.cells.Gfid.{Gfid}
use Rattle.fop_types.specs.declared.contents.Content.{Content}
use Rattle.fop_types.specs.declared.fops.Fop.{Fop}
use Rattle.fop_types.specs.declared.fops.Fop.TheVariants as fop
use Rattle.fop_types.specs.declared.fops.Object.{Object}
use Rattle.fop_types.specs.declared.history.Entry.{Entry}
use Rattle.fop_types.specs.declared.jobs.Job.{Job}
use Rattle.fop_types.specs.declared.jobs.Job.TheVariants as job
use Rattle.fop_types.specs.declared.jobs.SetReply.{SetReply}
use Rattle.fop_types.specs.declared.jobs.SetReply.TheVariants as reply
use Rattle.fop_types.specs.declared.store_ops.StoreOp.{StoreOp}
use Rattle.mount_files.specs.Pairs.{Needs, Fits}
use Rattle.mount_files.specs.Showing.{ShownIsFlat}
use Rattle.mount_laws.specs.Graphs.{FirstSets}
use Rattle.mount_laws.specs.Guards.{IsReached, IsUnsettledOn, objects_of, IsOfCall}
use Rattle.mount_laws.specs.Objects.{volumes}
use Rattle.mount_laws.specs.Runs.{Run, SettledJob}
use Rattle.mount_laws.specs.Seeing.{IsListed, WasSettled}
use Rattle.mount_laws.specs.Settling.{IsSettledJob}
use Rattle.mount_laws.specs.States.{State, Change, Runs, Status, is_unanswered, set_count}
use Rattle.mount_laws.proofs.Beside.{each_beside}
use Rattle.mount_laws.proofs.Beyond.{beyond_old, in_its_graph}
use Rattle.mount_laws.proofs.Firm.{are_whole}
use Rattle.mount_laws.proofs.Making.{objects_made}
use Rattle.mount_laws.proofs.Sharing.{shared_cell}
use Rattle.mount_shown.proofs.Beginning.{has_needed}
use Rattle.mount_shown.proofs.Counts.{first_sets}
use Rattle.mount_shown.proofs.Jobs.{at_job, some_roots, roots_within, names_many, sets_within, sets_are}
use Rattle.mount_shown.proofs.Planned.{run_sound, IsReadListed, AreReadsListed, reads_listed}
use Rattle.mount_shown.proofs.Standing.{IsTouched, IsSameStill, CellsStand, ReplyStands, EventStands, HandedStands, handed_stands, still_shown}
use Rattle.mount_shown.specs.Bridge.{op_of}
use Rattle.mount_shown.specs.Pending.{KeepsFiles}

-- ---- sets that a fop names

names_sets : (count : ℕ) (f : Fop) → IsOfCall f → Each (λ (object : Object). object.set < count) (objects_of f) → NamesSets count f
names_sets count (fop.Lookup parent name) is e = tt
names_sets count (fop.Mkdir parent name mode drawn) is e = tt
names_sets count (fop.Rmdir parent name) is e = tt
names_sets count (fop.Create fd parent name mode drawn) is e = tt
names_sets count (fop.Unlink parent name) is e = tt
names_sets count (fop.Rename parent name target new_name) is e = tt
names_sets count (fop.Open fd object) is e = e.0
names_sets count (fop.Stat object) is e = e.0
names_sets count (fop.List object) is e = tt
names_sets count (fop.Chmod object mode) is e = e.0
names_sets count (fop.Truncate object size) is e = e.0
names_sets count (fop.SetAttr object attr) is e = e.0
names_sets count (fop.GetAttr object name) is e = e.0
names_sets count (fop.DelAttr object name) is e = e.0
names_sets count (fop.Read fd object offset n) is e = e.0
names_sets count (fop.Write fd object offset bytes) is e = e.0
names_sets count (fop.Migrate fds) is e = absurd is
names_sets count (fop.Heal n) is e = absurd is

-- ---- what a read showed of a directory's names

-- the names and the mark are those that were shown
pub record NamesAs (now : Option Content) (shown : DirNames) : Type 0 where
  pub items : items_of now ≡ shown.items
  pub removed : is_removed now ≡ shown.removed

pub names_as : (now x : Option Content) (place : ℕ) (shown : DirNames) → IsSameStill now x → ◌≡◌ {A = Result DirNames IoError} (Ok (names_shown x place)) (Ok shown) → NamesAs now shown
names_as now x place shown k e = by_case k
  where
    same : (a b : DirNames) → ◌≡◌ {A = Result DirNames IoError} (Ok a) (Ok b) → a ≡ b
    same a b f = cc

    is : names_shown x place ≡ shown
    is = same (names_shown x place) shown e

    by_case : IsSameStill now x → NamesAs now shown
    by_case (inl f) = record { items = ap items_of f ∙ ap (λ (d : DirNames). d.items) is; removed = ap is_removed f ∙ ap (λ (d : DirNames). d.removed) is }
    by_case (inr g) = record {
      items = g.1.none ∙ sym (ap items_of g.0) ∙ ap (λ (d : DirNames). d.items) is;
      removed = g.1.kept ∙ sym (ap is_removed g.0) ∙ ap (λ (d : DirNames). d.removed) is;
    }

-- the names on the set are those, or of a change of the fop's own; and the read's job has settled
pub record SawStands (adopted : SetContents) (changes : ℕ → Change) (c : ℕ) (jobs : List SettledJob) (dir : Gfid) (set : ℕ) (shown : DirNames) : Type 0 where
  pub names : NamesAs (adopted set (names_cell dir)) shown ⊎ IsTouched changes c set (names_cell dir)
  pub settled : WasSettled jobs set (names_cell dir)

module _ (adopted : SetContents) (changes : ℕ → Change) (c : ℕ) (jobs : List SettledJob) (dir : Gfid) (set : ℕ) (shown : DirNames) where
  one_cell : (may : Bool) (one : ℕ) (contents : List (Option Content)) (place : ℕ) → one ≡ set → CellsStand adopted changes c may one (names_cell dir ∷ []) contents → ◌≡◌ {A = Result DirNames IoError} (Ok (names_shown (first_content contents) place)) (Ok shown)
      → NamesAs (adopted set (names_cell dir)) shown ⊎ IsTouched changes c set (names_cell dir)
  one_cell may one [] place same a e = absurd a
  one_cell may one (x ∷ more) place same a e = by_case (subst (λ (s : ℕ). IsSameStill (adopted s (names_cell dir)) x ⊎ IsTouched changes c s (names_cell dir)) same a.0.content)
    where
      by_case : IsSameStill (adopted set (names_cell dir)) x ⊎ IsTouched changes c set (names_cell dir) → NamesAs (adopted set (names_cell dir)) shown ⊎ IsTouched changes c set (names_cell dir)
      by_case (inl k) = inl (names_as (adopted set (names_cell dir)) x place shown k e)
      by_case (inr k) = inr k

  of_reply : (one : ℕ) (said : SetReply) → one ≡ set → names_in said ≡ Ok shown → ReplyStands adopted changes c (may_lack one true) one (names_cell dir ∷ []) said → IsReadListed jobs (Replied one (names_job dir) said) → SawStands adopted changes c jobs dir set shown
  of_reply one (reply.Contents contents place) same e a l = record {
    names = one_cell (may_lack one true) one contents place same a e;
    settled = record { cells = names_cell dir ∷ []; listed = subst (λ (s : ℕ). IsListed jobs (record { set = s; cells = names_cell dir ∷ [] })) same l; has = has_needed (names_cell dir ∷ []) (names_cell dir) (inl refl) };
  }
  of_reply one (reply.Decided number) same e a l = absurd a
  of_reply one reply.Opened same e a l = absurd a
  of_reply one (reply.Listed listed answered short) same e a l = absurd a
  of_reply one (reply.Healed records) same e a l = absurd a
  of_reply one (reply.Skipped cause) same e a l = absurd a
  of_reply one (reply.Io error) same e a l = absurd cc

  of_event : (event : Event) → IsNamesOf event dir set shown → EventStands adopted changes c event → IsReadListed jobs event → SawStands adopted changes c jobs dir set shown
  of_event (Held held) k a l = absurd k
  of_event (Replied one asked said) k a l =
      of_reply one said k.0 k.2 (subst (λ (j : Job). EventStands adopted changes c (Replied one j said)) k.1 a) (subst (λ (j : Job). IsReadListed jobs (Replied one j said)) k.1 l)

  pub saw_stands : (handed : Handed) → Saw handed dir set shown → HandedStands adopted changes c handed → AreReadsListed jobs handed → SawStands adopted changes c jobs dir set shown
  saw_stands [] k a l = absurd k
  saw_stands (event ∷ handed) (inl k) a l = of_event event k a.0 l.0
  saw_stands (event ∷ handed) (inr k) a l = saw_stands handed k a.1 l.1

-- ---- unsettled changes on settled cells

-- an unsettled change on a cell that a fop has settled is its own call's
pub settled_own : (first : List (List ℕ)) (m : State) → IsReached first m → (c : ℕ) (run : Run) → Runs m c run → (set : ℕ) (cell : Cell) → WasSettled run.settled set cell → (w : ℕ) → (m.changes w).verdict ≡ Unsettled → (m.changes w).set ≡ set → Needs (needs (m.changes w).op) cell → (m.changes w).by ≡ c
settled_own first m reached c run runs set cell seen w was same need = each_listed run.settled ((each_beside first m reached).running c run runs w).settled seen.listed touches
  where
    drawn : (m.changes w).verdict ≢ Undrawn
    drawn e = let clash : Unsettled ≡ Undrawn = sym was ∙ e in absurd cc

    touches : IsUnsettledOn (m.changes w) set seen.cells
    touches = record {
      verdict = was;
      on_set = same;
      touches = shared_cell (m.changes w).cells seen.cells cell (subst (λ (cs : List Cell). has_cell cs cell ≡ true) (sym (are_whole first m reached w drawn)) (has_needed (needs (m.changes w).op) cell need)) seen.has;
    }

    each_listed : (jobs : List SettledJob) → Each (IsSettledJob c (m.changes w)) jobs → IsListed jobs (record { set = set; cells = seen.cells }) → IsUnsettledOn (m.changes w) set seen.cells → (m.changes w).by ≡ c
    each_listed [] e l k = absurd l
    each_listed (one ∷ jobs) e (inl is) k = subst (IsSettledJob c (m.changes w)) is e.0 k
    each_listed (one ∷ jobs) e (inr l) k = each_listed jobs e.1 l k

-- ---- a fop under way

module _ (first : List (List ℕ)) (m : State) (reached : IsReached first m) (a : KeepsFiles m) (c : ℕ) (run : Run) (runs : Runs m c run) where
  -- the sets of the call's graph show all files
  pub flat_run : ShownIsFlat (volumes m) run.volume.sets
  flat_run =
      let beyond = (beyond_old first m reached).unanswered c (ap (λ (s : Status). is_unanswered s) runs) in
      first_sets m run.volume.sets (set_count m) (subst (λ (n : ℕ). FirstSets m n) (sym (sets_are first m reached c run runs)) beyond) (sets_within first m reached c run runs) a.shown

  -- and an unsettled change fits on these
  pub fits_run : (w : ℕ) → (m.changes w).verdict ≡ Unsettled → Fits (volumes m) run.volume.sets (op_of (m.changes w))
  fits_run w was =
      let f = a.alone w was in
      let drawn : (m.changes w).verdict ≢ Undrawn = λ e. (let clash : Unsettled ≡ Undrawn = sym was ∙ e in absurd cc) in
      let low = ((beyond_old first m reached).unanswered c (ap (λ (s : Status). is_unanswered s) runs)).begun w drawn in
      let are = sets_are first m reached c run runs in
      record { on_set = omega (arith, low, are); fits_set = f.fits_set; stands = f.stands }

  pub are_made : AreMade (volumes m) run.fop
  are_made = (objects_made first m reached).fops c run runs

  pub names_within : NamesSets run.volume.sets run.fop
  names_within =
      let p = (in_its_graph first m reached).planned c run runs in
      names_sets run.volume.sets run.fop (run_sound first m reached c run runs).of_call (subst (λ (n : ℕ). Each (λ (object : Object). object.set < n) (objects_of run.fop)) (sym p.sets) p.objects)

  -- what a job rests on
  pub founded : (set : ℕ) (asked : Job) (next : SetReply → Course) → run.course ≡ Course.Asks set asked next → IsWellAsked run.volume.sets run.handed set asked
  founded =
      at_job first m reached c run runs (IsWellAsked run.volume.sets) IsWellHeld (IsWellFound run.volume.sets)
      (asks_well run.volume run.names run.kept run.fop (some_roots first m reached c run runs) (roots_within first m reached c run runs) (names_many first m reached c run runs) (run_sound first m reached c run runs).named names_within (run_sound first m reached c run runs).within)

  -- what was read of a directory's names
  pub saw_names : (dir : Gfid) (set : ℕ) (shown : DirNames) → Saw run.handed dir set shown → SawStands m.adopted m.changes c run.settled dir set shown
  saw_names dir set shown saw = saw_stands m.adopted m.changes c run.settled dir set shown run.handed saw (handed_stands first m reached c run runs) (reads_listed first m reached c run runs)

  -- ---- before the first change

  module _ (nobody : (u : ℕ) → (m.changes u).by ≡ c → (m.changes u).verdict ≡ Undrawn) where
    pub names_are : (dir : Gfid) (set : ℕ) (shown : DirNames) → Saw run.handed dir set shown → NamesAs (m.adopted set (names_cell dir)) shown
    names_are dir set shown saw = by_case (saw_names dir set shown saw).names
      where
        by_case : NamesAs (m.adopted set (names_cell dir)) shown ⊎ IsTouched m.changes c set (names_cell dir) → NamesAs (m.adopted set (names_cell dir)) shown
        by_case (inl k) = k
        by_case (inr k) = absurd (k.touches.begun (nobody k.change k.touches.by))

    pub nobody_on : (dir : Gfid) (set : ℕ) (shown : DirNames) → Saw run.handed dir set shown → (w : ℕ) → (m.changes w).verdict ≡ Unsettled → (m.changes w).set ≡ set → Needs (needs (m.changes w).op) (names_cell dir) → ⊥
    nobody_on dir set shown saw w was same need =
        let by = settled_own first m reached c run runs set (names_cell dir) (saw_names dir set shown saw).settled w was same need in
        let clash : Unsettled ≡ Undrawn = sym was ∙ nobody w by in absurd cc

    pub reads_stand : StillShown m.adopted run.handed
    reads_stand = still_shown m.adopted m.changes c nobody run.handed (handed_stands first m reached c run runs)

    pub accepts : HaveNoEffect run.handed → (set : ℕ) (cells : List Cell) (fd : ℕ) (o : StoreOp) (entry : Entry) (next : SetReply → Course) → run.course ≡ Course.Asks set (job.Change cells fd o (Some entry)) next → Accepts (volumes m).files (change_of o)
    accepts none set cells fd o entry next e =
        at_job first m reached c run runs (FitsFlat run.volume.sets run.fop) AnyHold (AnswersAsFlat run.volume.sets run.fop)
        (answers_as_flat run.volume run.names run.kept run.fop (some_roots first m reached c run runs) (roots_within first m reached c run runs) (names_many first m reached c run runs) names_within)
        set (job.Change cells fd o (Some entry)) next e none (volumes m) flat_run.sound are_made reads_stand
