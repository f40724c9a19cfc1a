-- A name that a fop saw on a set still is there, whatever it has changed since, but for the names that it changed itself: a file's
-- or a directory's until a change of its own touches the name, a link until it makes one of the name anew or drops it.
use Rattle.std.proofs.Common.{◌≡◌, ◌≢◌, ◌⊎◌, inl, inr, ◌∙◌, ℕ, Bool, true, false, refl, sym, ap, subst, List, [], ◌∷◌, Option, Some, None, Result, Ok}
use Rattle.afr_machine.specs.Changes.{Verdict}
use Rattle.afr_machine.specs.Changes.Verdict.{Undrawn, Unsettled, Adopted, Dropped}
use Rattle.afr_machine.specs.Replicas.{with_at}
use Rattle.dht_fops.specs.Courses.{Course}
use Rattle.dht_fops.specs.Handed.{Handed, Saw, IsNamesOf}
use Rattle.dht_fops.specs.Handed.Event.{Replied, Held}
use Rattle.dht_fops.specs.Shown.{SetContents}
use Rattle.dht_linkto.specs.DirNames.{names_job, names_shown, names_in, first_content}
use Rattle.dht_linkto.specs.declared.names.DirNames.{DirNames}
use Rattle.fop_types.specs.Cells.{names_cell}
use Rattle.fop_types.specs.Jobs.{IsAnsweredBy}
use Rattle.fop_types.specs.Names.{item_named, is_link}
use Rattle.fop_types.specs.StoreOps.{Contents, items_of, item_in, needs, after_births}
use Rattle.fop_types.specs.declared.answers.IoError.{IoError}
use Rattle.fop_types.specs.declared.cells.Cell.{Cell}
use Rattle.fop_types.specs.declared.cells.Gfid.{Gfid}
use Rattle.fop_types.specs.declared.contents.Content.{Content}
use Rattle.fop_types.specs.declared.contents.Item.{Item}
use Rattle.fop_types.specs.declared.history.Entry.{Entry}
use Rattle.fop_types.specs.declared.jobs.Job.{Job}
use Rattle.fop_types.specs.declared.jobs.Job.TheVariants as job
use Rattle.fop_types.specs.declared.jobs.SetReply.{SetReply}
use Rattle.fop_types.specs.declared.jobs.SetReply.TheVariants as reply
use Rattle.fop_types.specs.declared.store_ops.StoreOp.{StoreOp}
use Rattle.fop_types.specs.declared.store_ops.StoreOp.TheVariants as op
use Rattle.mount_files.proofs.Cells.{number_is}
use Rattle.mount_files.proofs.Keeping.{both_second}
use Rattle.mount_files.proofs.Sentences.{name_here}
use Rattle.mount_files.specs.Pairs.{Touches, Needs, Fits}
use Rattle.mount_laws.specs.Guards.{Allowed, IsReached, MayHandIn, MayExtend, IsReply, IsShown, AreShown, IsOpen}
use Rattle.mount_laws.specs.Guards.IsReply.{Shows, Enters, Fails, Opens}
use Rattle.mount_laws.specs.Objects.{volumes}
use Rattle.mount_laws.specs.Runs.{Run}
use Rattle.mount_laws.specs.Seeing.{WasSettled}
use Rattle.mount_laws.specs.States.{State, Change, Runs, set_count}
use Rattle.mount_laws.specs.Steps.{Step, Task, after, adopting, births_by, change_by}
use Rattle.mount_laws.proofs.Tables.{at_case}
use Rattle.mount_laws.specs.Settling.{StaysOrBorn}
use Rattle.mount_laws.proofs.Contents.{births_leave}
use Rattle.mount_laws.proofs.Firm.{firm_touched, jobs_have_none}
use Rattle.mount_shown.proofs.Editing.{Relinks, touch_is, real_stays, link_stays}
use Rattle.mount_shown.proofs.Founding.{NamesAs, names_as, settled_own, saw_names}
use Rattle.mount_shown.proofs.Listing.{NamesOfDirs, has_name_made}
use Rattle.mount_shown.proofs.Moving.{step_keeps_handed}
use Rattle.mount_shown.proofs.Standing.{IsSameStill}
use Rattle.mount_shown.specs.Bridge.{op_of}
use Rattle.mount_shown.specs.Pending.{KeepsFiles}

-- ---- a fop's own changes of a name

pub record Touched (change : Change) (c : ℕ) (dir : Gfid) (name : List ℕ) : Type 0 where
  pub by : change.by ≡ c
  pub begun : change.verdict ≢ Undrawn
  pub touches : Touches change.op change.effect dir name

pub record Relinked (change : Change) (c set : ℕ) (dir : Gfid) (name : List ℕ) : Type 0 where
  pub by : change.by ≡ c
  pub begun : change.verdict ≢ Undrawn
  pub on_set : change.set ≡ set
  pub relinks : Relinks change.op change.effect dir name

abbrev pub IsOwnChange : Bool → Change → ℕ → ℕ → Gfid → List ℕ → Type 0
IsOwnChange true change c set dir name = Relinked change c set dir name
IsOwnChange false change c set dir name = Touched change c dir name

pub record OwnChange (link : Bool) (changes : ℕ → Change) (c set : ℕ) (dir : Gfid) (name : List ℕ) : Type 0 where
  pub change : ℕ
  pub is : IsOwnChange link (changes change) c set dir name

-- a name that was seen still is on its set, or a change of the fop's own was of it
abbrev pub NamesStand : SetContents → (ℕ → Change) → ℕ → Handed → Type 0
NamesStand adopted changes c handed =
    (dir : Gfid) (set : ℕ) (shown : DirNames) (name : List ℕ) (item : Item) → Saw handed dir set shown → item_named shown.items name ≡ Some item → (item_in (adopted set) dir name ≡ Some item) ⊎ OwnChange (is_link item.kind) changes c set dir name

verdict_own : (link : Bool) (change : Change) (verdict : Verdict) → verdict ≢ Undrawn → (c set : ℕ) (dir : Gfid) (name : List ℕ) → IsOwnChange link change c set dir name → IsOwnChange link (record change { verdict = verdict }) c set dir name
verdict_own true change verdict drawn c set dir name k = record { by = k.by; begun = drawn; on_set = k.on_set; relinks = k.relinks }
verdict_own false change verdict drawn c set dir name k = record { by = k.by; begun = drawn; touches = k.touches }

own_begun : (link : Bool) (change : Change) (c set : ℕ) (dir : Gfid) (name : List ℕ) → IsOwnChange link change c set dir name → change.verdict ≢ Undrawn
own_begun true change c set dir name k = k.begun
own_begun false change c set dir name k = k.begun

decided_own : (link : Bool) (changes : ℕ → Change) (u : ℕ) (verdict : Verdict) → verdict ≢ Undrawn → (c set : ℕ) (dir : Gfid) (name : List ℕ) → OwnChange link changes c set dir name → OwnChange link (with_at changes u (record (changes u) { verdict = verdict })) c set dir name
decided_own link changes u verdict drawn c set dir name k = record {
  change = k.change;
  is = at_case (λ i (one : Change). IsOwnChange link (changes i) c set dir name → IsOwnChange link one c set dir name) changes u (record (changes u) { verdict = verdict }) (verdict_own link (changes u) verdict drawn c set dir name) k.change (λ differ t. t) k.is;
}

begun_own : (link : Bool) (changes : ℕ → Change) (u : ℕ) (new : Change) → (changes u).verdict ≡ Undrawn → (c set : ℕ) (dir : Gfid) (name : List ℕ) → OwnChange link changes c set dir name → OwnChange link (with_at changes u new) c set dir name
begun_own link changes u new fresh c set dir name k = record {
  change = k.change;
  is = at_case (λ i (one : Change). IsOwnChange link (changes i) c set dir name → IsOwnChange link one c set dir name) changes u new (λ t. absurd (own_begun link (changes u) c set dir name t fresh)) k.change (λ differ t. t) k.is;
}

-- ---- whether a change is of the name

relink_is : (o : StoreOp) (e : Option Entry) (dir : Gfid) (name : List ℕ) → Relinks o e dir name ⊎ (Relinks o e dir name → ⊥)
relink_is (op.AddName parent item mode span) e dir name = touch_is (op.AddName parent item mode span) dir name
relink_is (op.DropName parent n) (Some entry) dir name = inr (λ k. let clash : ◌≡◌ {A = Option Entry} (Some entry) None = k.0 in absurd cc)
relink_is (op.DropName parent n) None dir name = by_case (touch_is (op.DropName parent n) dir name)
  where
    by_case : ((parent ≡ dir) × (n ≡ name)) ⊎ ((parent ≡ dir) × (n ≡ name) → ⊥) → Relinks (op.DropName parent n) None dir name ⊎ (Relinks (op.DropName parent n) None dir name → ⊥)
    by_case (inl k) = inl (refl, k)
    by_case (inr off) = inr (λ k. off k.1)
relink_is (op.Move parent n target m) e dir name = touch_is (op.DropName target m) dir name
relink_is (op.DropDir parent n g) e dir name = inr (λ k. k)
relink_is (op.Write g offset bytes) e dir name = inr (λ k. k)
relink_is (op.Truncate g size) e dir name = inr (λ k. k)
relink_is (op.SetMode g mode) e dir name = inr (λ k. k)
relink_is (op.SetAttr g attr) e dir name = inr (λ k. k)
relink_is (op.DelAttr g n) e dir name = inr (λ k. k)
relink_is (op.MakeCopy g span) e dir name = inr (λ k. k)

relink_needs : (o : StoreOp) (e : Option Entry) (dir : Gfid) (name : List ℕ) → Relinks o e dir name → Needs (needs o) (names_cell dir)
relink_needs (op.AddName parent item mode span) e dir name k = inl (ap names_cell k.0)
relink_needs (op.DropName parent n) e dir name k = inl (ap names_cell k.1.0)
relink_needs (op.Move parent n target m) e dir name k = subst (λ (x : Gfid). Needs (needs (op.Move parent n target m)) (names_cell x)) k.0 (both_second parent target)
relink_needs (op.DropDir parent n g) e dir name k = absurd k
relink_needs (op.Write g offset bytes) e dir name k = absurd k
relink_needs (op.Truncate g size) e dir name k = absurd k
relink_needs (op.SetMode g mode) e dir name k = absurd k
relink_needs (op.SetAttr g attr) e dir name k = absurd k
relink_needs (op.DelAttr g n) e dir name k = absurd k
relink_needs (op.MakeCopy g span) e dir name k = absurd k

pub touches_is : (o : StoreOp) (e : Option Entry) (dir : Gfid) (name : List ℕ) → Touches o e dir name ⊎ (Touches o e dir name → ⊥)
touches_is o None dir name = inr (λ k. k)
touches_is o (Some entry) dir name = touch_is o dir name

pub births_stay : (m : State) (t : Task) (set : ℕ) (cell : Cell) → StaysOrBorn (m.adopted set cell) (with_at m.adopted t.set (after_births (m.adopted t.set) (births_by t.job)) set cell)
births_stay m t set cell =
    at_case (λ i (one : Contents). StaysOrBorn (m.adopted i cell) (one cell)) m.adopted t.set (after_births (m.adopted t.set) (births_by t.job)) (births_leave (births_by t.job) (m.adopted t.set) cell (jobs_have_none t.job)) set (λ differ. inl refl)

-- ---- a change is adopted

module _ (first : List (List ℕ)) (m : State) (reached : IsReached first m) (a : KeepsFiles m) (dirs : NamesOfDirs m.kinds m.adopted) where
  name_moves : (c : ℕ) (run : Run) (u : ℕ) → Runs m c run → (m.changes u).verdict ≡ Unsettled → (dir : Gfid) (set : ℕ) (name : List ℕ) (item : Item) → WasSettled run.settled set (names_cell dir) → item_in (m.adopted set) dir name ≡ Some item
      → (item_in ((adopting m u).adopted set) dir name ≡ Some item) ⊎ OwnChange (is_link item.kind) m.changes c set dir name
  name_moves c run u runs was dir set name item seen there = by_link (is_link item.kind) refl
    where
      fit : Fits (volumes m) (set_count m) (op_of (m.changes u))
      fit = a.alone u was

      begun : (m.changes u).verdict ≢ Undrawn
      begun e = let clash : Unsettled ≡ Undrawn = sym was ∙ e in absurd cc

      real_by : is_link item.kind ≡ false → Touches (m.changes u).op (m.changes u).effect dir name ⊎ (Touches (m.changes u).op (m.changes u).effect dir name → ⊥) → (item_in ((adopting m u).adopted set) dir name ≡ Some item) ⊎ OwnChange false m.changes c set dir name
      real_by real (inr off) = inl (real_stays (volumes m) (set_count m) (m.changes u).set (m.changes u).op (m.changes u).effect fit set dir name item there real off)
      real_by real (inl k) =
          let at = name_here (volumes m) (set_count m) set dir name item a.shown (has_name_made m.kinds m.adopted dirs set dir name item there) there real in
          let on = at.touched (op_of (m.changes u)) fit k in
          inr (record { change = u; is = record { by = settled_own first m reached c run runs set (names_cell dir) seen u was on.0 on.1; begun = begun; touches = k } })

      link_by : is_link item.kind ≡ true → ((m.changes u).set ≡ set) ⊎ ((m.changes u).set ≢ set) → Relinks (m.changes u).op (m.changes u).effect dir name ⊎ (Relinks (m.changes u).op (m.changes u).effect dir name → ⊥)
          → (item_in ((adopting m u).adopted set) dir name ≡ Some item) ⊎ OwnChange true m.changes c set dir name
      link_by link (inl same) (inl k) =
          inr (record { change = u; is = record { by = settled_own first m reached c run runs set (names_cell dir) seen u was same (relink_needs (m.changes u).op (m.changes u).effect dir name k); begun = begun; on_set = same; relinks = k } })
      link_by link (inr differ) (inl k) = inl (link_stays (volumes m) (set_count m) (m.changes u).set (m.changes u).op (m.changes u).effect fit set dir name item there link (λ same r. differ (sym same)))
      link_by link on (inr off) = inl (link_stays (volumes m) (set_count m) (m.changes u).set (m.changes u).op (m.changes u).effect fit set dir name item there link (λ same r. off r))

      by_link : (b : Bool) → is_link item.kind ≡ b → (item_in ((adopting m u).adopted set) dir name ≡ Some item) ⊎ OwnChange b m.changes c set dir name
      by_link true e = link_by e (number_is (m.changes u).set set) (relink_is (m.changes u).op (m.changes u).effect dir name)
      by_link false e = real_by e (touches_is (m.changes u).op (m.changes u).effect dir name)

  adopted_names : (c : ℕ) (run : Run) (u : ℕ) → Runs m c run → (m.changes u).verdict ≡ Unsettled → NamesStand m.adopted m.changes c run.handed → NamesStand (adopting m u).adopted (with_at m.changes u (record (m.changes u) { verdict = Adopted })) c run.handed
  adopted_names c run u runs was k dir set shown name item saw named = by_old (k dir set shown name item saw named)
    where
      later : OwnChange (is_link item.kind) m.changes c set dir name → OwnChange (is_link item.kind) (with_at m.changes u (record (m.changes u) { verdict = Adopted })) c set dir name
      later = decided_own (is_link item.kind) m.changes u Adopted (λ e. absurd cc) c set dir name

      by_new : (item_in ((adopting m u).adopted set) dir name ≡ Some item) ⊎ OwnChange (is_link item.kind) m.changes c set dir name → (item_in ((adopting m u).adopted set) dir name ≡ Some item) ⊎ OwnChange (is_link item.kind) (with_at m.changes u (record (m.changes u) { verdict = Adopted })) c set dir name
      by_new (inl there) = inl there
      by_new (inr own) = inr (later own)

      by_old : (item_in (m.adopted set) dir name ≡ Some item) ⊎ OwnChange (is_link item.kind) m.changes c set dir name → (item_in ((adopting m u).adopted set) dir name ≡ Some item) ⊎ OwnChange (is_link item.kind) (with_at m.changes u (record (m.changes u) { verdict = Adopted })) c set dir name
      by_old (inr own) = inr (later own)
      by_old (inl there) = by_new (name_moves c run u runs was dir set name item (saw_names first m reached a c run runs dir set shown saw).settled there)

  table_names : (c : ℕ) (handed : Handed) (new : ℕ → Change) → ((link : Bool) (set : ℕ) (dir : Gfid) (name : List ℕ) → OwnChange link m.changes c set dir name → OwnChange link new c set dir name) → NamesStand m.adopted m.changes c handed → NamesStand m.adopted new c handed
  table_names c handed new more k dir set shown name item saw named = by_old (k dir set shown name item saw named)
    where
      by_old : (item_in (m.adopted set) dir name ≡ Some item) ⊎ OwnChange (is_link item.kind) m.changes c set dir name → (item_in (m.adopted set) dir name ≡ Some item) ⊎ OwnChange (is_link item.kind) new c set dir name
      by_old (inl there) = inl there
      by_old (inr own) = inr (more (is_link item.kind) set dir name own)

  -- births give no names
  born_item : (t : Task) (set : ℕ) (dir : Gfid) (name : List ℕ) (item : Item) → item_in (m.adopted set) dir name ≡ Some item → item_in ((after m (Step.SendsBirths t)).adopted set) dir name ≡ Some item
  born_item t set dir name item there = by_case (births_stay m t set (names_cell dir))
    where
      by_case : StaysOrBorn (m.adopted set (names_cell dir)) ((after m (Step.SendsBirths t)).adopted set (names_cell dir)) → item_in ((after m (Step.SendsBirths t)).adopted set) dir name ≡ Some item
      by_case (inl e) = ap (λ (c : Option Content). item_named (items_of c) name) e ∙ there
      by_case (inr g) = let clash : ◌≡◌ {A = Option Item} None (Some item) = sym (ap (λ (c : Option Content). item_named (items_of c) name) g.0) ∙ there in absurd cc

  born_names : (t : Task) (c : ℕ) (handed : Handed) → NamesStand m.adopted m.changes c handed → NamesStand (after m (Step.SendsBirths t)).adopted m.changes c handed
  born_names t c handed k dir set shown name item saw named = by_old (k dir set shown name item saw named)
    where
      by_old : (item_in (m.adopted set) dir name ≡ Some item) ⊎ OwnChange (is_link item.kind) m.changes c set dir name → (item_in ((after m (Step.SendsBirths t)).adopted set) dir name ≡ Some item) ⊎ OwnChange (is_link item.kind) m.changes c set dir name
      by_old (inl there) = inl (born_item t set dir name item there)
      by_old (inr own) = inr own

  stays_named : (step : Step) → Allowed m step → (c : ℕ) (run : Run) → Runs m c run → NamesStand m.adopted m.changes c run.handed → NamesStand (after m step).adopted (after m step).changes c run.handed
  stays_named (Step.Settles t u true) h c run runs k = adopted_names c run u runs h.unsettled.verdict k
  stays_named (Step.Settles t u false) h c run runs k = table_names c run.handed _ (λ link set dir name. decided_own link m.changes u Dropped (λ e. absurd cc) c set dir name) k
  stays_named (Step.Decides t u) h c run runs k = adopted_names c run u runs h.unsettled k
  stays_named (Step.BeginsChange t u) h c run runs k = table_names c run.handed _ (λ link set dir name. begun_own link m.changes u (change_by t.call t.set t.job) h.fresh c set dir name) k
  stays_named (Step.SendsBirths t) h c run runs k = born_names t c run.handed k
  stays_named (Step.Submits draws) h c run runs k = k
  stays_named (Step.Concludes d) h c run runs k = k
  stays_named (Step.Switches names) h c run runs k = k
  stays_named (Step.Begins d f kept) h c run runs k = k
  stays_named (Step.EndsSettling t) h c run runs k = k
  stays_named (Step.ConfirmsBirths t) h c run runs k = k
  stays_named (Step.HandsIn t shown) h c run runs k = k
  stays_named (Step.Extends d one dir next) h c run runs k = k
  stays_named (Step.Releases d one gfid) h c run runs k = k
  stays_named (Step.Learns d one dir spans) h c run runs k = k
  stays_named (Step.Answers d one answer place) h c run runs k = k
  stays_named (Step.AnswersAbove d one answer) h c run runs k = k

  -- a read shows the names that the set has
  read_names : (t : Task) (shown : SetReply) → MayHandIn m t shown → (dir : Gfid) (set : ℕ) (names : DirNames) → IsNamesOf (Replied t.set t.job shown) dir set names → NamesAs (m.adopted set (names_cell dir)) names
  read_names t shown h dir set names k = by_reply shown h.is_reply h.fitting.answered k.2
    where
      one_cell : (d : Bool) (contents : List (Option Content)) (place : ℕ) → AreShown m t.set d (names_cell dir ∷ []) contents → ◌≡◌ {A = Result DirNames IoError} (Ok (names_shown (first_content contents) place)) (Ok names) → NamesAs (m.adopted set (names_cell dir)) names
      one_cell d [] place seen e = absurd seen
      one_cell d (x ∷ more) place seen e = names_as (m.adopted set (names_cell dir)) x place names (subst (λ (s : ℕ). IsSameStill (m.adopted s (names_cell dir)) x) k.0 (by_cases seen.0)) e
        where
          by_cases : IsShown m t.set d (names_cell dir) x → IsSameStill (m.adopted t.set (names_cell dir)) x
          by_cases (inl f) = inl f
          by_cases (inr l) = inr (l.nothing, (firm_touched first m reached).no_names t.set (names_cell dir) l.unconfirmed)

      cells_are : (cells : List Cell) (fd : ℕ) (d : Bool) → job.Read cells fd d ≡ names_job dir → cells ≡ names_cell dir ∷ []
      cells_are cells fd d e = cc

      by_reply : (one : SetReply) → IsReply m t one → IsAnsweredBy t.set h.fitting.quorum t.job one → names_in one ≡ Ok names → NamesAs (m.adopted set (names_cell dir)) names
      by_reply _ (Shows cells fd d contents place is stage seen) fitting e =
          one_cell d contents place (subst (λ (cs : List Cell). AreShown m t.set d cs contents) (cells_are cells fd d (sym is ∙ k.1)) seen) e
      by_reply _ (Enters number stage) fitting e = absurd (subst (λ (asked : Job). IsAnsweredBy t.set h.fitting.quorum asked (reply.Decided number)) k.1 fitting)
      by_reply _ (Fails error stage) fitting e = absurd cc
      by_reply one (Opens _ is) fitting e = absurd (subst (λ (asked : Job). IsOpen asked) k.1 is)

  reply_named : (t : Task) (shown : SetReply) → MayHandIn m t shown → NamesStand m.adopted m.changes t.call t.run.handed → NamesStand m.adopted m.changes t.call (Replied t.set t.job shown ∷ t.run.handed)
  reply_named t shown h k dir set names name item (inl new) named = inl (ap (λ (l : List Item). item_named l name) (read_names t shown h dir set names new).items ∙ named)
  reply_named t shown h k dir set names name item (inr old) named = k dir set names name item old named

  held_named : (c : ℕ) (run : Run) (dir0 : Gfid) (next : Course) → MayExtend m c run dir0 next → NamesStand m.adopted m.changes c run.handed → NamesStand m.adopted m.changes c (Held dir0 ∷ run.handed)
  held_named c run dir0 next h k dir set names name item (inl new) named = absurd new
  held_named c run dir0 next h k dir set names name item (inr old) named = k dir set names name item old named

  pub step_names : ((c : ℕ) (run : Run) → Runs m c run → NamesStand m.adopted m.changes c run.handed) → (step : Step) → Allowed m step → (c : ℕ) (run : Run) → Runs (after m step) c run → NamesStand (after m step).adopted (after m step).changes c run.handed
  step_names k = step_keeps_handed m (λ n c (handed : Handed). NamesStand n.adopted n.changes c handed) (λ n c dir set shown name item saw. absurd saw) stays_named reply_named held_named k
