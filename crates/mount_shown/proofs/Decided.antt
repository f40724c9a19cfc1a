-- Own changes that were decided: a file that a fop has moved is where it was moved to, and a file's name that it has dropped is
-- nowhere, as long as the fop is under way and makes no other change of the name.
use Rattle.std.proofs.Common.{◌≡◌, ◌≢◌, ◌⊎◌, inl, inr, ◌∙◌, ℕ, Bool, true, false, refl, sym, ap, subst, List, ◌∷◌, Option, Some, None, if◌then◌else◌, arith}
use Rattle.afr_machine.specs.Changes.{Verdict}
use Rattle.afr_machine.specs.Changes.Verdict.{Undrawn, Unsettled, Adopted, Dropped}
use Rattle.afr_machine.specs.Replicas.{with_at}
use Rattle.afr_machine.specs.Touching.{has_cell}
use Rattle.dht_fops.specs.Answers.{change_of, flat_op}
use Rattle.fop_types.specs.Cells.{names_cell}
use Rattle.fop_types.specs.Names.{item_named, is_link, renamed}
use Rattle.std.specs.Ordering.{is_eq}
use Rattle.fop_types.specs.Orders.{cell_cmp}
use Rattle.fop_types.specs.StoreOps.{Contents, after_edits, moved_in, items_of, item_in, holds_names, needs, edited_if_present, with_content, contents_after, fits}
use Rattle.fop_types.specs.StoreOps.Edit.{PutItem, DropItem}
use Rattle.fop_types.specs.declared.cells.Cell.{Cell}
use Rattle.fop_types.specs.declared.cells.Gfid.{Gfid}
use Rattle.fop_types.specs.declared.contents.Content.{Content}
use Rattle.fop_types.specs.declared.contents.Content.TheVariants.{Bytes, Meta, Names}
use Rattle.fop_types.specs.declared.contents.Item.{Item}
use Rattle.fop_types.specs.declared.history.Entry.{Entry}
use Rattle.fop_types.specs.declared.jobs.Job.{Job}
use Rattle.fop_types.specs.declared.jobs.Job.TheVariants as job
use Rattle.fop_types.specs.declared.store_ops.StoreOp.{StoreOp}
use Rattle.fop_types.specs.declared.store_ops.StoreOp.TheVariants as op
use Rattle.mount_files.proofs.Cells.{set_here, content_here}
use Rattle.mount_files.proofs.Families.{taken_item}
use Rattle.mount_files.proofs.Keeping.{both_second}
use Rattle.mount_files.proofs.Naming.{put_items}
use Rattle.mount_files.proofs.Ops.{fit_parts, both_present, applied_is}
use Rattle.mount_files.proofs.Rises.{same_self, named_with}
use Rattle.mount_files.proofs.Sentences.{name_here}
use Rattle.mount_files.specs.Pairs.{Touches, Needs, Fits}
use Rattle.mount_files.specs.Showing.{FitsNow}
use Rattle.mount_laws.specs.Effects.{IsOwnEffect, IsOwnEntry, HasEffect}
use Rattle.mount_laws.specs.Guards.{Allowed, IsReached}
use Rattle.mount_laws.specs.Objects.{volumes}
use Rattle.mount_laws.specs.Runs.{Run}
use Rattle.mount_laws.specs.Seeing.{WasSettled}
use Rattle.mount_laws.specs.Settling.{StaysOrBorn}
use Rattle.mount_laws.specs.States.{State, Change, Runs, set_count, has_begun}
use Rattle.mount_laws.specs.Steps.{Step, Task, after, adopting, change_by, applied}
use Rattle.mount_laws.proofs.Beside.{each_beside}
use Rattle.mount_laws.proofs.Entering.{effect_own, parts_in_order}
use Rattle.mount_laws.proofs.Firm.{are_whole}
use Rattle.mount_laws.proofs.Tables.{at_case}
use Rattle.mount_shown.proofs.Beginning.{has_needed}
use Rattle.mount_shown.proofs.Editing.{real_stays}
use Rattle.mount_shown.proofs.Founding.{settled_own}
use Rattle.mount_shown.proofs.Listing.{NamesOfDirs, has_name_made}
use Rattle.mount_shown.proofs.Moving.{RunStep, run_steps}
use Rattle.mount_shown.proofs.Moving.RunStep.{Stays, Begins, Settles, EndsSettling, BeginsChange, Decides, SendsBirths, ConfirmsBirths, HandsIn, Extends, Releases}
use Rattle.mount_shown.proofs.Owned.{own_stands}
use Rattle.mount_shown.proofs.Parts.{rename_is_last, one_or_two}
use Rattle.mount_shown.proofs.Watching.{touches_is, births_stay}
use Rattle.mount_shown.specs.Bridge.{op_of}
use Rattle.mount_shown.specs.Pending.{KeepsFiles}

-- ---- the fop before a step

pub record WasRun (m : State) (c : ℕ) : Type 0 where
  pub run : Run
  pub runs : Runs m c run

abbrev pub HasNone : State → ℕ → Type 0
HasNone m c = (u : ℕ) → (m.changes u).by ≡ c → (m.changes u).verdict ≡ Undrawn

pub run_before : (first : List (List ℕ)) (m : State) → IsReached first m → (step : Step) (c : ℕ) (run : Run) → RunStep m step c run → WasRun m c ⊎ HasNone m c
run_before first m reached _ _ _ (Stays _ c run runs differ) = inl (record { run = run; runs = runs })
run_before first m reached _ _ _ (Begins c f kept h) = inr (λ u by. (each_beside first m reached).unbegun c (ap (λ s. has_begun s) h.ready) u by)
run_before first m reached _ _ _ (Settles t u adopts h) = inl (record { run = t.run; runs = h.under_way.runs })
run_before first m reached _ _ _ (EndsSettling t h) = inl (record { run = t.run; runs = h.under_way.runs })
run_before first m reached _ _ _ (BeginsChange t u h) = inl (record { run = t.run; runs = h.under_way.runs })
run_before first m reached _ _ _ (Decides t u h) = inl (record { run = t.run; runs = h.under_way.runs })
run_before first m reached _ _ _ (SendsBirths t h) = inl (record { run = t.run; runs = h.under_way.runs })
run_before first m reached _ _ _ (ConfirmsBirths t h) = inl (record { run = t.run; runs = h.under_way.runs })
run_before first m reached _ _ _ (HandsIn t shown h) = inl (record { run = t.run; runs = h.under_way.runs })
run_before first m reached _ _ _ (Extends c run dir next h) = inl (record { run = run; runs = h.runs })
run_before first m reached _ _ _ (Releases c run gfid h) = inl (record { run = run; runs = h.runs })

-- ---- a file that was moved

pub record IsMoveOf (change : Change) (c : ℕ) (dir : Gfid) (name : List ℕ) : Type 0 where
  pub by : change.by ≡ c
  pub adopted : change.verdict ≡ Adopted
  pub entry : Entry
  pub effect : change.effect ≡ Some entry
  pub parent : Gfid
  pub old : List ℕ
  pub op_is : change.op ≡ op.Move parent old dir name

pub record IsTakenOn (contents : Contents) (dir : Gfid) (name : List ℕ) : Type 0 where
  pub item : Item
  pub item_is : item_in contents dir name ≡ Some item
  pub real : is_link item.kind ≡ false

abbrev pub MovedStand : State → Type 0
MovedStand m = (c : ℕ) (run : Run) → Runs m c run → (u : ℕ) (dir : Gfid) (name : List ℕ) → IsMoveOf (m.changes u) c dir name → IsTakenOn (m.adopted (m.changes u).set) dir name

drop_holds : (n : List ℕ) (c : Option Content) → holds_names c ≡ true → holds_names (edited_if_present (DropItem n) c) ≡ true
drop_holds n None h = absurd cc
drop_holds n (Some (Bytes bytes)) h = absurd cc
drop_holds n (Some (Meta mode attrs span)) h = absurd cc
drop_holds n (Some (Names removed items)) h = refl

-- after a move that fits, its file is there
moved_there : (contents : Contents) (parent : Gfid) (name : List ℕ) (target : Gfid) (new_name : List ℕ) (item : Item) → fits contents (op.Move parent name target new_name) ≡ true → item_in contents parent name ≡ Some item → is_link item.kind ≡ false
    → IsTakenOn (contents_after contents (op.Move parent name target new_name)) target new_name
moved_there contents parent name target new_name item fit there real = record {
  item = renamed item new_name;
  item_is =
      ap (λ (x : Option Item). item_named (items_of (after_edits contents ((names_cell parent, DropItem name) ∷ moved_in x target new_name) (names_cell target))) new_name) there
      ∙ ap (λ (c : Option Content). item_named (items_of c) new_name) (content_here dropped (names_cell target) (edited_if_present (PutItem (renamed item new_name)) (dropped (names_cell target))))
      ∙ ap (λ (l : List Item). item_named l new_name) (put_items (renamed item new_name) (dropped (names_cell target)) holds)
      ∙ named_with (items_of (dropped (names_cell target))) (renamed item new_name) new_name
      ∙ ap (λ (b : Bool). if b then Some (renamed item new_name) else item_named (items_of (dropped (names_cell target))) new_name) (same_self new_name);
  real = real;
}
  where
    dropped : Contents
    dropped = with_content contents (names_cell parent) (edited_if_present (DropItem name) (contents (names_cell parent)))

    both : (holds_names (contents (names_cell parent)) ≡ true) × (holds_names (contents (names_cell target)) ≡ true)
    both = both_present contents parent target (fit_parts contents (op.Move parent name target new_name) fit).0

    holds : holds_names (dropped (names_cell target)) ≡ true
    holds = by_same (is_eq (cell_cmp (names_cell target) (names_cell parent)))
      where
        by_same : (b : Bool) → holds_names (if b then edited_if_present (DropItem name) (contents (names_cell parent)) else contents (names_cell target)) ≡ true
        by_same true = drop_holds name (contents (names_cell parent)) both.0
        by_same false = both.1

-- ---- own changes

-- an entry of a call by its number and its part
pub entries_are : (one other : Entry) → one.call ≡ other.call → one.part ≡ other.part → one ≡ other
entries_are one other e f = ap (λ (c : ℕ). entry_of c one.part) e ∙ ap (λ (p : ℕ). entry_of other.call p) f
  where
    entry_of : ℕ → ℕ → Entry
    entry_of call part = record { call = call; part = part }

pub own_entry : (first : List (List ℕ)) (m : State) → IsReached first m → (u : ℕ) (entry : Entry) → (m.changes u).verdict ≢ Undrawn → (m.changes u).effect ≡ Some entry → IsOwnEntry m.began (m.changes u) entry
own_entry first m reached u entry begun effect = subst (λ (x : Option Entry). IsOwnEffect m.began (m.changes u) x) effect (effect_own first m reached u begun)

pub adopted_begun : (v : Verdict) → v ≡ Adopted → v ≢ Undrawn
adopted_begun v e f = let clash : Adopted ≡ Undrawn = sym e ∙ f in absurd cc

pub unsettled_begun : (v : Verdict) → v ≡ Unsettled → v ≢ Undrawn
unsettled_begun v e f = let clash : Unsettled ≡ Undrawn = sym e ∙ f in absurd cc

-- once a rename's move is adopted, no change of its call with an effect is unsettled
pub none_after_move : (first : List (List ℕ)) (m : State) → IsReached first m → (u w : ℕ) (c : ℕ) (dir : Gfid) (name : List ℕ) (other : Entry) → IsMoveOf (m.changes u) c dir name → (m.changes w).by ≡ c → (m.changes w).verdict ≡ Unsettled → (m.changes w).effect ≡ Some other → ⊥
none_after_move first m reached u w c dir name other k by was effect = by_part (one_or_two (flat_op theirs.fop) other.part theirs.part theirs.part_is)
  where
    begun : (m.changes u).verdict ≢ Undrawn
    begun = adopted_begun (m.changes u).verdict k.adopted

    mine : IsOwnEntry m.began (m.changes u) k.entry
    mine = own_entry first m reached u k.entry begun k.effect

    theirs : IsOwnEntry m.began (m.changes w) other
    theirs = own_entry first m reached w other (unsettled_begun (m.changes w).verdict was) effect

    last : k.entry.part ≡ 2
    last = (rename_is_last (flat_op mine.fop) k.entry.part k.parent k.old dir name (mine.part_is ∙ sym mine.makes ∙ ap change_of k.op_is)).1

    call : other.call ≡ k.entry.call
    call = theirs.call_is ∙ by ∙ sym k.by ∙ sym mine.call_is

    has : HasEffect (m.changes u) k.entry
    has = record { begun = begun; effect = k.effect }

    has_other : HasEffect (m.changes w) other
    has_other = record { begun = unsettled_begun (m.changes w).verdict was; effect = effect }

    by_part : (other.part ≡ 1) ⊎ (other.part ≡ 2) → ⊥
    by_part (inl one) =
        let done = (parts_in_order first m reached).after w u other k.entry has_other has call (omega (arith, one, last)) in
        let clash : Unsettled ≡ Adopted = sym was ∙ done in absurd cc
    by_part (inr two) =
        let same : other ≡ k.entry = entries_are other k.entry call (two ∙ sym last) in
        let one : w ≡ u = (parts_in_order first m reached).once w u other has_other (subst (λ (e : Entry). HasEffect (m.changes u) e) (sym same) has) in
        let clash : Unsettled ≡ Adopted = sym was ∙ ap (λ (i : ℕ). (m.changes i).verdict) one ∙ k.adopted in absurd cc

-- an own change's cells were settled
pub own_settled : (first : List (List ℕ)) (m : State) → IsReached first m → (c : ℕ) (run : Run) → Runs m c run → (u : ℕ) → (m.changes u).by ≡ c → (m.changes u).verdict ≢ Undrawn → (cell : Cell) → Needs (needs (m.changes u).op) cell → WasSettled run.settled (m.changes u).set cell
own_settled first m reached c run runs u by begun cell need = record {
  cells = (m.changes u).cells;
  listed = (own_stands first m reached c run runs u by begun).listed;
  has = subst (λ (cs : List Cell). has_cell cs cell ≡ true) (sym (are_whole first m reached u begun)) (has_needed (needs (m.changes u).op) cell need);
}

pub not_adopted : (c set : ℕ) (asked : Job) → (change_by c set asked).verdict ≡ Adopted → ⊥
not_adopted c set (job.Change cells fd o effect) e = let clash : Unsettled ≡ Adopted = e in absurd cc
not_adopted c set (job.Read cells fd dir) e = let clash : Undrawn ≡ Adopted = e in absurd cc
not_adopted c set (job.Birth cells o) e = let clash : Undrawn ≡ Adopted = e in absurd cc
not_adopted c set (job.Open fd gfid) e = let clash : Undrawn ≡ Adopted = e in absurd cc
not_adopted c set job.Index e = let clash : Undrawn ≡ Adopted = e in absurd cc
not_adopted c set (job.Heal cell) e = let clash : Undrawn ≡ Adopted = e in absurd cc

-- a call that has begun no change has none adopted after a step
adopts_no : (m : State) (v : ℕ) (verdict : Verdict) (c : ℕ) → (m.changes v).verdict ≡ Unsettled → HasNone m c → (u : ℕ) → (with_at m.changes v (record (m.changes v) { verdict = verdict }) u).by ≡ c → (with_at m.changes v (record (m.changes v) { verdict = verdict }) u).verdict ≡ Adopted → ⊥
adopts_no m v verdict c was none u =
    at_case (λ i (one : Change). one.by ≡ c → one.verdict ≡ Adopted → ⊥) m.changes v (record (m.changes v) { verdict = verdict })
    (λ by e. let clash : Unsettled ≡ Undrawn = sym was ∙ none v by in absurd cc) u (λ differ by e. let clash : Undrawn ≡ Adopted = sym (none u by) ∙ e in absurd cc)

pub none_adopted : (m : State) (step : Step) → Allowed m step → (c : ℕ) → HasNone m c → (u : ℕ) → ((after m step).changes u).by ≡ c → ((after m step).changes u).verdict ≡ Adopted → ⊥
none_adopted m (Step.Settles t v true) h c none = adopts_no m v Adopted c h.unsettled.verdict none
none_adopted m (Step.Settles t v false) h c none = adopts_no m v Dropped c h.unsettled.verdict none
none_adopted m (Step.Decides t v) h c none = adopts_no m v Adopted c h.unsettled none
none_adopted m (Step.BeginsChange t v) h c none = λ u.
    at_case (λ i (one : Change). one.by ≡ c → one.verdict ≡ Adopted → ⊥) m.changes v (change_by t.call t.set t.job) (λ by e. not_adopted t.call t.set t.job e) u
    (λ differ by e. let clash : Undrawn ≡ Adopted = sym (none u by) ∙ e in absurd cc)
none_adopted m (Step.Submits draws) h c none = λ u by e. let clash : Undrawn ≡ Adopted = sym (none u by) ∙ e in absurd cc
none_adopted m (Step.Concludes d) h c none = λ u by e. let clash : Undrawn ≡ Adopted = sym (none u by) ∙ e in absurd cc
none_adopted m (Step.Switches names) h c none = λ u by e. let clash : Undrawn ≡ Adopted = sym (none u by) ∙ e in absurd cc
none_adopted m (Step.Begins d f kept) h c none = λ u by e. let clash : Undrawn ≡ Adopted = sym (none u by) ∙ e in absurd cc
none_adopted m (Step.EndsSettling t) h c none = λ u by e. let clash : Undrawn ≡ Adopted = sym (none u by) ∙ e in absurd cc
none_adopted m (Step.SendsBirths t) h c none = λ u by e. let clash : Undrawn ≡ Adopted = sym (none u by) ∙ e in absurd cc
none_adopted m (Step.ConfirmsBirths t) h c none = λ u by e. let clash : Undrawn ≡ Adopted = sym (none u by) ∙ e in absurd cc
none_adopted m (Step.HandsIn t shown) h c none = λ u by e. let clash : Undrawn ≡ Adopted = sym (none u by) ∙ e in absurd cc
none_adopted m (Step.Extends d run dir next) h c none = λ u by e. let clash : Undrawn ≡ Adopted = sym (none u by) ∙ e in absurd cc
none_adopted m (Step.Releases d run gfid) h c none = λ u by e. let clash : Undrawn ≡ Adopted = sym (none u by) ∙ e in absurd cc
none_adopted m (Step.Learns d run dir spans) h c none = λ u by e. let clash : Undrawn ≡ Adopted = sym (none u by) ∙ e in absurd cc
none_adopted m (Step.Answers d run answer place) h c none = λ u by e. let clash : Undrawn ≡ Adopted = sym (none u by) ∙ e in absurd cc
none_adopted m (Step.AnswersAbove d run answer) h c none = λ u by e. let clash : Undrawn ≡ Adopted = sym (none u by) ∙ e in absurd cc

-- births give no names
pub born_item : (m : State) (t : Task) (set : ℕ) (dir : Gfid) (name : List ℕ) (item : Item) → item_in (m.adopted set) dir name ≡ Some item → item_in ((after m (Step.SendsBirths t)).adopted set) dir name ≡ Some item
born_item m t set dir name item there = by_case (births_stay m t set (names_cell dir))
  where
    by_case : StaysOrBorn (m.adopted set (names_cell dir)) ((after m (Step.SendsBirths t)).adopted set (names_cell dir)) → item_in ((after m (Step.SendsBirths t)).adopted set) dir name ≡ Some item
    by_case (inl e) = ap (λ (c : Option Content). item_named (items_of c) name) e ∙ there
    by_case (inr g) = let clash : ◌≡◌ {A = Option Item} None (Some item) = sym (ap (λ (c : Option Content). item_named (items_of c) name) g.0) ∙ there in absurd cc

-- ---- moves stand

module _ (first : List (List ℕ)) (m : State) (reached : IsReached first m) (a : KeepsFiles m) (dirs : NamesOfDirs m.kinds m.adopted) (moved : MovedStand m) where
  -- a move is adopted now
  just_moved : (u : ℕ) → (m.changes u).verdict ≡ Unsettled → (c : ℕ) (dir : Gfid) (name : List ℕ) → IsMoveOf (record (m.changes u) { verdict = Adopted }) c dir name → IsTakenOn ((adopting m u).adopted (m.changes u).set) dir name
  just_moved u was c dir name k = subst (λ (x : Contents). IsTakenOn x dir name) (sym (set_here m.adopted (m.changes u).set (applied (m.adopted (m.changes u).set) (m.changes u).op))) here
    where
      fit : FitsNow (volumes m) (set_count m) (m.changes u).set (op.Move k.parent k.old dir name) (Some k.entry)
      fit = subst (λ (o : StoreOp). FitsNow (volumes m) (set_count m) (m.changes u).set o (Some k.entry)) k.op_is (subst (λ (e : Option Entry). FitsNow (volumes m) (set_count m) (m.changes u).set (m.changes u).op e) k.effect (a.alone u was))

      here : IsTakenOn (applied (m.adopted (m.changes u).set) (m.changes u).op) dir name
      here =
          let t = taken_item (item_in (m.adopted (m.changes u).set) k.parent k.old) fit.stands.1.0 in
          subst (λ (o : StoreOp). IsTakenOn (applied (m.adopted (m.changes u).set) o) dir name) (sym k.op_is)
          (subst (λ (x : Contents). IsTakenOn x dir name) (sym (applied_is (m.adopted (m.changes u).set) (op.Move k.parent k.old dir name) fit.fits_set))
          (moved_there (m.adopted (m.changes u).set) k.parent k.old dir name t.item fit.fits_set t.item_is t.no_link))

  -- another change is adopted
  still_moved : (c : ℕ) (run : Run) → Runs m c run → (u v : ℕ) (dir : Gfid) (name : List ℕ) → IsMoveOf (m.changes u) c dir name → (m.changes v).verdict ≡ Unsettled → IsTakenOn ((adopting m v).adopted (m.changes u).set) dir name
  still_moved c run runs u v dir name k was = by_touch (touches_is (m.changes v).op (m.changes v).effect dir name)
    where
      t : IsTakenOn (m.adopted (m.changes u).set) dir name
      t = moved c run runs u dir name k

      fit : Fits (volumes m) (set_count m) (op_of (m.changes v))
      fit = a.alone v was

      entry_there : (e : Option Entry) → (m.changes v).effect ≡ e → Touches (m.changes v).op e dir name → (m.changes v).by ≡ c → ⊥
      entry_there None e x by = x
      entry_there (Some other) e x by = none_after_move first m reached u v c dir name other k by was e

      by_touch : Touches (m.changes v).op (m.changes v).effect dir name ⊎ (Touches (m.changes v).op (m.changes v).effect dir name → ⊥) → IsTakenOn ((adopting m v).adopted (m.changes u).set) dir name
      by_touch (inr off) = record { item = t.item; item_is = real_stays (volumes m) (set_count m) (m.changes v).set (m.changes v).op (m.changes v).effect fit (m.changes u).set dir name t.item t.item_is t.real off; real = t.real }
      by_touch (inl x) =
          let at = name_here (volumes m) (set_count m) (m.changes u).set dir name t.item a.shown (has_name_made m.kinds m.adopted dirs (m.changes u).set dir name t.item t.item_is) t.item_is t.real in
          let on = at.touched (op_of (m.changes v)) fit x in
          let need : Needs (needs (m.changes u).op) (names_cell dir) = subst (λ (o : StoreOp). Needs (needs o) (names_cell dir)) (sym k.op_is) (both_second k.parent dir) in
          let seen = own_settled first m reached c run runs u k.by (adopted_begun (m.changes u).verdict k.adopted) (names_cell dir) need in
          absurd (entry_there (m.changes v).effect refl x (settled_own first m reached c run runs (m.changes u).set (names_cell dir) seen v was on.0 on.1))

  adopts_moved : (c : ℕ) (run : Run) → Runs m c run → (v : ℕ) → (m.changes v).verdict ≡ Unsettled → (u : ℕ) (dir : Gfid) (name : List ℕ) → IsMoveOf (with_at m.changes v (record (m.changes v) { verdict = Adopted }) u) c dir name
      → IsTakenOn ((adopting m v).adopted (with_at m.changes v (record (m.changes v) { verdict = Adopted }) u).set) dir name
  adopts_moved c run runs v was u dir name =
      at_case (λ i (one : Change). IsMoveOf one c dir name → IsTakenOn ((adopting m v).adopted one.set) dir name) m.changes v (record (m.changes v) { verdict = Adopted })
      (λ k. just_moved v was c dir name k) u (λ differ k. still_moved c run runs u v dir name k was)

  born_moved : (t : Task) (set : ℕ) (dir : Gfid) (name : List ℕ) → IsTakenOn (m.adopted set) dir name → IsTakenOn ((after m (Step.SendsBirths t)).adopted set) dir name
  born_moved t set dir name k = record { item = k.item; item_is = born_item m t set dir name k.item k.item_is; real = k.real }

  -- of a fop that was under way before
  goes_moved : (step : Step) → Allowed m step → (c : ℕ) (run : Run) → Runs m c run → (u : ℕ) (dir : Gfid) (name : List ℕ) → IsMoveOf ((after m step).changes u) c dir name → IsTakenOn ((after m step).adopted ((after m step).changes u).set) dir name
  goes_moved (Step.Settles t v true) h c run runs = adopts_moved c run runs v h.unsettled.verdict
  goes_moved (Step.Decides t v) h c run runs = adopts_moved c run runs v h.unsettled
  goes_moved (Step.Settles t v false) h c run runs = λ u dir name.
      at_case (λ i (one : Change). IsMoveOf one c dir name → IsTakenOn (m.adopted one.set) dir name) m.changes v (record (m.changes v) { verdict = Dropped })
      (λ k. let clash : Dropped ≡ Adopted = k.adopted in absurd cc) u (λ differ k. moved c run runs u dir name k)
  goes_moved (Step.BeginsChange t v) h c run runs = λ u dir name.
      at_case (λ i (one : Change). IsMoveOf one c dir name → IsTakenOn (m.adopted one.set) dir name) m.changes v (change_by t.call t.set t.job)
      (λ k. absurd (not_adopted t.call t.set t.job k.adopted)) u (λ differ k. moved c run runs u dir name k)
  goes_moved (Step.SendsBirths t) h c run runs = λ u dir name k. born_moved t (m.changes u).set dir name (moved c run runs u dir name k)
  goes_moved (Step.Submits draws) h c run runs = moved c run runs
  goes_moved (Step.Concludes d) h c run runs = moved c run runs
  goes_moved (Step.Switches names) h c run runs = moved c run runs
  goes_moved (Step.Begins d f kept) h c run runs = moved c run runs
  goes_moved (Step.EndsSettling t) h c run runs = moved c run runs
  goes_moved (Step.ConfirmsBirths t) h c run runs = moved c run runs
  goes_moved (Step.HandsIn t shown) h c run runs = moved c run runs
  goes_moved (Step.Extends d one dir next) h c run runs = moved c run runs
  goes_moved (Step.Releases d one gfid) h c run runs = moved c run runs
  goes_moved (Step.Learns d one dir spans) h c run runs = moved c run runs
  goes_moved (Step.Answers d one answer place) h c run runs = moved c run runs
  goes_moved (Step.AnswersAbove d one answer) h c run runs = moved c run runs

  pub step_moved : (step : Step) → Allowed m step → MovedStand (after m step)
  step_moved step allowed c run runs u dir name k = by_before (run_before first m reached step c run (run_steps m step allowed c run runs))
    where
      by_before : WasRun m c ⊎ HasNone m c → IsTakenOn ((after m step).adopted ((after m step).changes u).set) dir name
      by_before (inl w) = goes_moved step allowed c w.run w.runs u dir name k
      by_before (inr none) = absurd (none_adopted m step allowed c none u k.by k.adopted)
