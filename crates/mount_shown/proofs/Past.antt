-- From a fop's latest read on, at each length of the history, there were contents of all sets that show the files there, and that
-- still show all that the fop has read.
use Rattle.std.proofs.Common.{◌≡◌, ◌≢◌, ◌⊎◌, inl, inr, ◌∙◌, ℕ, ◌+◌, ◌≤◌, Bool, true, false, ◌||◌, nat_lt, refl, sym, ap, subst, List, [], ◌∷◌, ◌++◌, length, Option, Some, None, arith}
use Rattle.std.proofs.lemmas.Bool.{ltb-true, ltb-false}
use Rattle.std.proofs.lemmas.List.{length-append}
use Rattle.afr_machine.specs.Changes.{Verdict}
use Rattle.afr_machine.specs.Changes.Verdict.{Undrawn, Unsettled, Adopted, Dropped}
use Rattle.afr_machine.specs.Replicas.{with_at}
use Rattle.afr_machine.specs.Touching.{is_cell, has_cell}
use Rattle.dht_fops.specs.Answers.{AreMade, change_of}
use Rattle.dht_fops.specs.Courses.{Course}
use Rattle.dht_fops.specs.Handed.{Handed, Event}
use Rattle.dht_fops.specs.Handed.Event.{Replied, Held}
use Rattle.dht_fops.specs.Shown.{SetContents}
use Rattle.dht_fops.specs.Standing.{Volumes, AreSound, StillShown, StillIs, HaveContents, HasContent}
use Rattle.dht_laws.specs.Places.{last_place, place_after}
use Rattle.fop_types.specs.History.{fs_after}
use Rattle.fop_types.specs.Jobs.{may_lack, IsAnsweredBy, IsContentOf, AreContentsOf}
use Rattle.fop_types.specs.StoreOps.{Contents}
use Rattle.fop_types.specs.declared.answers.IoError.{IoError}
use Rattle.fop_types.specs.declared.cells.Cell.{Cell}
use Rattle.fop_types.specs.declared.contents.Content.{Content}
use Rattle.fop_types.specs.declared.flat.FlatOp.{FlatOp}
use Rattle.fop_types.specs.declared.fops.Fop.{Fop}
use Rattle.fop_types.specs.declared.history.Entry.{Entry}
use Rattle.fop_types.specs.declared.jobs.Job.{Job}
use Rattle.fop_types.specs.declared.jobs.Job.TheVariants as job
use Rattle.fop_types.specs.declared.jobs.SetReply.{SetReply}
use Rattle.fop_types.specs.declared.jobs.SetReply.TheVariants as reply
use Rattle.fop_types.specs.declared.store_ops.StoreOp.{StoreOp}
use Rattle.mount_laws.specs.Guards.{Allowed, IsReached, IsShown, AreShown, IsReply, IsOpen, MayHandIn}
use Rattle.mount_laws.specs.Guards.IsReply.{Shows, Enters, Fails, Opens}
use Rattle.mount_laws.specs.Objects.{volumes}
use Rattle.mount_laws.specs.Runs.{Run}
use Rattle.mount_laws.specs.Runs.Stage.{Waiting, Settled, Decided}
use Rattle.mount_laws.specs.Seeing.{WasSettled}
use Rattle.mount_laws.specs.Settling.{TouchedIsFirm}
use Rattle.mount_laws.specs.States.{State, Change, Runs}
use Rattle.mount_laws.specs.Steps.{Step, Task, after, by_effect, ops_with, history_with, change_by}
use Rattle.mount_laws.proofs.Answering.{runs_made}
use Rattle.mount_laws.proofs.Entering.{entered_once}
use Rattle.mount_laws.proofs.Firm.{firm_touched}
use Rattle.mount_laws.proofs.Seen.{settled_listed}
use Rattle.mount_laws.proofs.Sharing.{is_cell_refl, or_right}
use Rattle.mount_laws.proofs.Tables.{at_case}
use Rattle.mount_shown.proofs.Decided.{HasNone}
use Rattle.mount_shown.proofs.Every.{every_files}
use Rattle.mount_shown.proofs.Founding.{flat_run, are_made, reads_stand}
use Rattle.mount_shown.proofs.Legal.{files_now, files_before}
use Rattle.mount_shown.proofs.Moving.{RunStep, IsOf, run_steps}
use Rattle.mount_shown.proofs.Moving.RunStep.{Stays, Begins, Settles, EndsSettling, BeginsChange, Decides, SendsBirths, ConfirmsBirths, HandsIn, Extends, Releases}
use Rattle.mount_shown.proofs.Planned.{of_call_no_mount, run_sound}
use Rattle.mount_shown.proofs.Quiet.{adopts_same, births_same}

-- ---- contents at a length of the history

pub record PastAt (ops : List FlatOp) (f : Fop) (count : ℕ) (handed : Handed) (k : ℕ) : Type 0 where
  pub s : Volumes
  pub files_is : s.files ≡ fs_after ops k
  pub sound : AreSound s count
  pub made : AreMade s f
  pub shown : StillShown s.contents handed

-- and the cells of the job under way were what they are now
pub record PastWith (adopted : SetContents) (ops : List FlatOp) (f : Fop) (count : ℕ) (handed : Handed) (k set : ℕ) (cells : List Cell) : Type 0 where
  pub past : PastAt ops f count handed k
  pub same : (cell : Cell) → has_cell cells cell ≡ true → adopted set cell ≡ past.s.contents set cell

abbrev pub Since : List FlatOp → ℕ → Fop → ℕ → Handed → Type 0
Since ops now f count handed = (p k : ℕ) → last_place handed ≡ Some p → p ≤ k → k ≤ now → PastAt ops f count handed k

abbrev pub Reading : SetContents → List FlatOp → ℕ → Run → Type 0
Reading adopted ops now run = (p set : ℕ) (cells : List Cell) (fd : ℕ) (dir : Bool) (next : SetReply → Course) → run.stage ≡ Settled p → run.course ≡ Course.Asks set (job.Read cells fd dir) next
    → (k : ℕ) → p ≤ k → k ≤ now → PastWith adopted ops run.fop run.volume.sets run.handed k set cells

-- while the fop has begun no change
abbrev pub HasPast : State → ℕ → Run → Type 0
HasPast m c run = HasNone m c → Since m.ops (length m.history) run.fop run.volume.sets run.handed × Reading m.adopted m.ops (length m.history) run

-- ---- the history grows

pub record Grown (ops longer : List FlatOp) (now later : ℕ) : Type 0 where
  pub front : (k : ℕ) → k ≤ now → fs_after longer k ≡ fs_after ops k
  pub most : later ≤ now + 1

same_grown : (ops : List FlatOp) (now : ℕ) → Grown ops ops now now
same_grown ops now = record { front = λ k h. refl; most = omega arith }

adopted_grown : (m : State) (o : StoreOp) (effect : Option Entry) → length m.ops ≡ length m.history → Grown m.ops (by_effect effect m.ops (ops_with m.ops (change_of o))) (length m.history) (length (history_with m.history effect))
adopted_grown m o None many = same_grown m.ops (length m.history)
adopted_grown m o (Some entry) many = record { front = λ k h. by_op (change_of o) k h; most = let e : length (m.history ++ entry ∷ []) ≡ length m.history + 1 = length-append m.history (entry ∷ []) in omega (arith, e) }
  where
    by_op : (one : Option FlatOp) (k : ℕ) → k ≤ length m.history → fs_after (ops_with m.ops one) k ≡ fs_after m.ops k
    by_op None k h = refl
    by_op (Some one) k h = files_before m.ops one k (omega (arith, h, many))

pub step_grown : (first : List (List ℕ)) (m : State) (step : Step) → IsReached first m → Grown m.ops (after m step).ops (length m.history) (length (after m step).history)
step_grown first m (Step.Settles t u true) reached = adopted_grown m (m.changes u).op (m.changes u).effect (entered_once first m reached).as_many
step_grown first m (Step.Decides t u) reached = adopted_grown m (m.changes u).op (m.changes u).effect (entered_once first m reached).as_many
step_grown first m (Step.Settles t u false) reached = same_grown m.ops (length m.history)
step_grown first m (Step.Submits draws) reached = same_grown m.ops (length m.history)
step_grown first m (Step.Concludes c) reached = same_grown m.ops (length m.history)
step_grown first m (Step.Switches names) reached = same_grown m.ops (length m.history)
step_grown first m (Step.Begins c f kept) reached = same_grown m.ops (length m.history)
step_grown first m (Step.EndsSettling t) reached = same_grown m.ops (length m.history)
step_grown first m (Step.BeginsChange t u) reached = same_grown m.ops (length m.history)
step_grown first m (Step.SendsBirths t) reached = same_grown m.ops (length m.history)
step_grown first m (Step.ConfirmsBirths t) reached = same_grown m.ops (length m.history)
step_grown first m (Step.HandsIn t shown) reached = same_grown m.ops (length m.history)
step_grown first m (Step.Extends c run dir next) reached = same_grown m.ops (length m.history)
step_grown first m (Step.Releases c run gfid) reached = same_grown m.ops (length m.history)
step_grown first m (Step.Learns c run dir spans) reached = same_grown m.ops (length m.history)
step_grown first m (Step.Answers c run answer place) reached = same_grown m.ops (length m.history)
step_grown first m (Step.AnswersAbove c run answer) reached = same_grown m.ops (length m.history)

-- at the old lengths, or at the new one
old_or_new : (now later k : ℕ) → later ≤ now + 1 → k ≤ later → (k ≤ now) ⊎ (k ≡ later)
old_or_new now later k most h = by_less (nat_lt now k) refl
  where
    by_less : (b : Bool) → nat_lt now k ≡ b → (k ≤ now) ⊎ (k ≡ later)
    by_less true e = let more = ltb-true now k e in inr (omega (arith, most, h, more))
    by_less false e = inl (ltb-false now k e)

grown_past : (ops longer : List FlatOp) (now later : ℕ) → Grown ops longer now later → (f : Fop) (count : ℕ) (handed : Handed) (k : ℕ) → k ≤ now → PastAt ops f count handed k → PastAt longer f count handed k
grown_past ops longer now later g f count handed k h p = record { s = p.s; files_is = p.files_is ∙ sym (g.front k h); sound = p.sound; made = p.made; shown = p.shown }

-- ---- none was begun before

none_decided : (changes : ℕ → Change) (u : ℕ) (verdict : Verdict) (c : ℕ) → verdict ≢ Undrawn → ((w : ℕ) → (with_at changes u (record (changes u) { verdict = verdict }) w).by ≡ c → (with_at changes u (record (changes u) { verdict = verdict }) w).verdict ≡ Undrawn) → (w : ℕ) → (changes w).by ≡ c → (changes w).verdict ≡ Undrawn
none_decided changes u verdict c drawn none w =
    at_case (λ i (one : Change). (one.by ≡ c → one.verdict ≡ Undrawn) → (changes i).by ≡ c → (changes i).verdict ≡ Undrawn) changes u (record (changes u) { verdict = verdict }) (λ f by. absurd (drawn (f by))) w (λ differ f. f) (none w)

none_before : (m : State) (step : Step) → Allowed m step → (c : ℕ) → HasNone (after m step) c → HasNone m c
none_before m (Step.Settles t u true) h c none = none_decided m.changes u Adopted c (λ e. absurd cc) none
none_before m (Step.Settles t u false) h c none = none_decided m.changes u Dropped c (λ e. absurd cc) none
none_before m (Step.Decides t u) h c none = none_decided m.changes u Adopted c (λ e. absurd cc) none
none_before m (Step.BeginsChange t u) h c none = λ w.
    at_case (λ i (one : Change). (one.by ≡ c → one.verdict ≡ Undrawn) → (m.changes i).by ≡ c → (m.changes i).verdict ≡ Undrawn) m.changes u (change_by t.call t.set t.job) (λ f by. h.fresh) w (λ differ f. f) (none w)
none_before m (Step.Submits draws) h c none = none
none_before m (Step.Concludes d) h c none = none
none_before m (Step.Switches names) h c none = none
none_before m (Step.Begins d f kept) h c none = none
none_before m (Step.EndsSettling t) h c none = none
none_before m (Step.SendsBirths t) h c none = none
none_before m (Step.ConfirmsBirths t) h c none = none
none_before m (Step.HandsIn t shown) h c none = none
none_before m (Step.Extends d run dir next) h c none = none
none_before m (Step.Releases d run gfid) h c none = none
none_before m (Step.Learns d run dir spans) h c none = none
none_before m (Step.Answers d run answer place) h c none = none
none_before m (Step.AnswersAbove d run answer) h c none = none

-- ---- now

pub past_now : (first : List (List ℕ)) (m : State) → IsReached first m → (c : ℕ) (run : Run) → Runs m c run → HasNone m c → PastAt m.ops run.fop run.volume.sets run.handed (length m.history)
past_now first m reached c run runs none =
    let a = every_files first m reached in
    record {
      s = volumes m;
      files_is = sym (files_now m.ops) ∙ ap (λ (n : ℕ). fs_after m.ops n) (entered_once first m reached).as_many;
      sound = (flat_run first m reached a c run runs).sound;
      made = are_made first m reached a c run runs;
      shown = reads_stand first m reached a c run runs none;
    }

-- ---- the fop of another call's step

-- what is adopted on settled cells
settled_same : (first : List (List ℕ)) (m : State) (step : Step) → IsReached first m → Allowed m step → (c : ℕ) (run : Run) → Runs m c run → (IsOf c step → ⊥) → HasNone m c → (set : ℕ) (cell : Cell) → WasSettled run.settled set cell → (after m step).adopted set cell ≡ m.adopted set cell
settled_same first m (Step.Settles t u true) reached h c run runs other none =
    adopts_same first m reached (every_files first m reached) c run runs u h.unsettled.verdict (λ by. let clash : Unsettled ≡ Undrawn = sym h.unsettled.verdict ∙ none u by in absurd cc)
settled_same first m (Step.Decides t u) reached h c run runs other none =
    adopts_same first m reached (every_files first m reached) c run runs u h.unsettled (λ by. let clash : Unsettled ≡ Undrawn = sym h.unsettled ∙ none u by in absurd cc)
settled_same first m (Step.SendsBirths t) reached h c run runs other none = births_same first m reached (every_files first m reached) c run runs t h (λ e. other (sym e))
settled_same first m (Step.Settles t u false) reached h c run runs other none = λ set cell seen. refl
settled_same first m (Step.Submits draws) reached h c run runs other none = λ set cell seen. refl
settled_same first m (Step.Concludes d) reached h c run runs other none = λ set cell seen. refl
settled_same first m (Step.Switches names) reached h c run runs other none = λ set cell seen. refl
settled_same first m (Step.Begins d f kept) reached h c run runs other none = λ set cell seen. refl
settled_same first m (Step.EndsSettling t) reached h c run runs other none = λ set cell seen. refl
settled_same first m (Step.BeginsChange t u) reached h c run runs other none = λ set cell seen. refl
settled_same first m (Step.ConfirmsBirths t) reached h c run runs other none = λ set cell seen. refl
settled_same first m (Step.HandsIn t shown) reached h c run runs other none = λ set cell seen. refl
settled_same first m (Step.Extends d one dir next) reached h c run runs other none = λ set cell seen. refl
settled_same first m (Step.Releases d one gfid) reached h c run runs other none = λ set cell seen. refl
settled_same first m (Step.Learns d one dir spans) reached h c run runs other none = λ set cell seen. refl
settled_same first m (Step.Answers d one answer place) reached h c run runs other none = λ set cell seen. refl
settled_same first m (Step.AnswersAbove d one answer) reached h c run runs other none = λ set cell seen. refl

module _ (first : List (List ℕ)) (m : State) (reached : IsReached first m) (step : Step) (allowed : Allowed m step) where
  reached_next : IsReached first (after m step)
  reached_next = IsReached.Further m step reached allowed

  -- old lengths by what was so, the new one by what is
  since_goes : (c : ℕ) (run : Run) → Runs (after m step) c run → HasNone (after m step) c → Since m.ops (length m.history) run.fop run.volume.sets run.handed → Since (after m step).ops (length (after m step).history) run.fop run.volume.sets run.handed
  since_goes c run runs none old p k e low high = by_k (old_or_new (length m.history) (length (after m step).history) k (step_grown first m step reached).most high)
    where
      by_k : (k ≤ length m.history) ⊎ (k ≡ length (after m step).history) → PastAt (after m step).ops run.fop run.volume.sets run.handed k
      by_k (inl was) = grown_past m.ops (after m step).ops (length m.history) (length (after m step).history) (step_grown first m step reached) run.fop run.volume.sets run.handed k was (old p k e low was)
      by_k (inr now) = subst (λ (i : ℕ). PastAt (after m step).ops run.fop run.volume.sets run.handed i) (sym now) (past_now first (after m step) reached_next c run runs none)

  reading_stays : (c : ℕ) (run : Run) → Runs m c run → Runs (after m step) c run → (IsOf c step → ⊥) → HasNone (after m step) c → Reading m.adopted m.ops (length m.history) run → Reading (after m step).adopted (after m step).ops (length (after m step).history) run
  unfolding grown_past past_now
  reading_stays c run runs runs_new other none old p set cells fd dir next stage asks k low high = by_k (old_or_new (length m.history) (length (after m step).history) k (step_grown first m step reached).most high)
    where
      settled : (cell : Cell) → has_cell cells cell ≡ true → WasSettled run.settled set cell
      settled cell has = record { cells = cells; listed = settled_listed first m reached c run p set (job.Read cells fd dir) next runs stage asks; has = has }

      by_k : (k ≤ length m.history) ⊎ (k ≡ length (after m step).history) → PastWith (after m step).adopted (after m step).ops run.fop run.volume.sets run.handed k set cells
      by_k (inl was) =
          let o = old p set cells fd dir next stage asks k low was in
          record {
            past = grown_past m.ops (after m step).ops (length m.history) (length (after m step).history) (step_grown first m step reached) run.fop run.volume.sets run.handed k was o.past;
            same = λ cell has. settled_same first m step reached allowed c run runs other (none_before m step allowed c none) set cell (settled cell has) ∙ o.same cell has;
          }
      by_k (inr now) =
          subst (λ (i : ℕ). PastWith (after m step).adopted (after m step).ops run.fop run.volume.sets run.handed i set cells) (sym now)
          (record { past = past_now first (after m step) reached_next c run runs_new none; same = λ cell has. refl })

-- ---- a read is handed in

-- what it shows now it would have shown at each length since its settling ended
module _ (m : State) (firm : TouchedIsFirm m) (set : ℕ) (dir : Bool) (contents : Contents) where
  read_still : (cells : List Cell) (shown : List (Option Content)) → ((cell : Cell) → has_cell cells cell ≡ true → m.adopted set cell ≡ contents cell) → AreShown m set dir cells shown → AreContentsOf (may_lack set dir) cells shown → HaveContents (may_lack set dir) contents cells shown
  read_still [] [] same seen fitting = tt
  read_still [] (x ∷ shown) same seen fitting = absurd seen
  read_still (cell ∷ cells) [] same seen fitting = absurd seen
  read_still (cell ∷ cells) (x ∷ shown) same seen fitting = (
    by_seen (may_lack set dir) refl x seen.0 fitting.0 (same cell (ap (λ b. b || has_cell cells cell) (is_cell_refl cell))),
    read_still cells shown (λ other k. same other (or_right (is_cell other cell) (has_cell cells other) k)) seen.1 fitting.1,
  )
    where
      by_seen : (b : Bool) → may_lack set dir ≡ b → (y : Option Content) → IsShown m set dir cell y → IsContentOf b cell y → m.adopted set cell ≡ contents cell → HasContent b (contents cell) y
      by_seen false e y (inl f) fit is = sym is ∙ f
      by_seen false e y (inr l) fit is = let clash : true ≡ false = sym l.may ∙ e in absurd cc
      by_seen true e None (inl f) fit is = subst (λ (o : Option Content). HasContent true o None) (sym (sym is ∙ f)) (record { items = refl; kept = refl })
      by_seen true e None (inr l) fit is =
          let none = firm.no_names set cell l.unconfirmed in
          subst (λ (o : Option Content). HasContent true o None) is (record { items = none.none; kept = none.kept })
      by_seen true e (Some content) (inl f) fit is = sym is ∙ f
      by_seen true e (Some content) (inr l) fit is = let clash : ◌≡◌ {A = Option Content} (Some content) None = l.nothing in absurd cc

some_is : (a b : ℕ) → ◌≡◌ {A = Option ℕ} (Some a) (Some b) → a ≡ b
some_is a b e = cc

-- one more event that shows nothing
more_past : (ops : List FlatOp) (f : Fop) (count : ℕ) (handed : Handed) (event : Event) (k : ℕ) → ((s : SetContents) → StillIs s event) → PastAt ops f count handed k → PastAt ops f count (event ∷ handed) k
more_past ops f count handed event k still p = record { s = p.s; files_is = p.files_is; sound = p.sound; made = p.made; shown = (still p.s.contents, p.shown) }

module _ (first : List (List ℕ)) (m : State) (reached : IsReached first m) (t : Task) (said : SetReply) (h : MayHandIn m t said) (none : HasNone m t.call) (since : Since m.ops (length m.history) t.run.fop t.run.volume.sets t.run.handed) (reading : Reading m.adopted m.ops (length m.history) t.run) where
  -- a change with an effect that was answered by its number is begun
  no_number : (cells : List Cell) (fd : ℕ) (o : StoreOp) (entry : Entry) (number : Option ℕ) → t.job ≡ job.Change cells fd o (Some entry) → t.run.stage ≡ Decided number → ⊥
  no_number cells fd o entry number is stage =
      let made = (runs_made first m reached t.call t.run h.under_way.runs).stage number t.set (job.Change cells fd o (Some entry)) t.next stage (h.under_way.asks ∙ ap (λ (j : Job). Course.Asks t.set j t.next) is) in
      let clash : Adopted ≡ Undrawn = sym made.adopted ∙ none made.change made.by in absurd cc

  handed_since : Since m.ops (length m.history) t.run.fop t.run.volume.sets (Replied t.set t.job said ∷ t.run.handed)
  handed_since = by_reply said h.is_reply h.fitting.answered
    where
      -- jobs that leave the place
      plain : (asked : Job) (one : SetReply) → ((handed : Handed) → place_after (Replied t.set asked one) (last_place handed) ≡ last_place handed) → ((s : SetContents) → StillIs s (Replied t.set asked one)) → Since m.ops (length m.history) t.run.fop t.run.volume.sets (Replied t.set asked one ∷ t.run.handed)
      plain asked one place still p k e low high = more_past m.ops t.run.fop t.run.volume.sets t.run.handed (Replied t.set asked one) k still (since p k (sym (place t.run.handed) ∙ e) low high)

      failed : (asked : Job) (error : IoError) → Since m.ops (length m.history) t.run.fop t.run.volume.sets (Replied t.set asked (reply.Io error) ∷ t.run.handed)
      failed (job.Read cells fd dir) error = λ p k e low high. absurd cc
      failed (job.Change cells fd o (Some entry)) error = λ p k e low high. absurd cc
      failed (job.Change cells fd o None) error = plain (job.Change cells fd o None) (reply.Io error) (λ handed. refl) (λ s. tt)
      failed (job.Birth cells o) error = plain (job.Birth cells o) (reply.Io error) (λ handed. refl) (λ s. tt)
      failed (job.Open fd gfid) error = plain (job.Open fd gfid) (reply.Io error) (λ handed. refl) (λ s. tt)
      failed job.Index error = plain job.Index (reply.Io error) (λ handed. refl) (λ s. tt)
      failed (job.Heal cell) error = plain (job.Heal cell) (reply.Io error) (λ handed. refl) (λ s. tt)

      entered : (asked : Job) (number : Option ℕ) → t.job ≡ asked → t.run.stage ≡ Decided number → IsAnsweredBy t.set h.fitting.quorum asked (reply.Decided number) → Since m.ops (length m.history) t.run.fop t.run.volume.sets (Replied t.set asked (reply.Decided number) ∷ t.run.handed)
      entered (job.Read cells fd dir) number is stage fitting = absurd fitting
      entered (job.Change cells fd o (Some entry)) number is stage fitting = absurd (no_number cells fd o entry number is stage)
      entered (job.Change cells fd o None) number is stage fitting = plain (job.Change cells fd o None) (reply.Decided number) (λ handed. refl) (λ s. tt)
      entered (job.Birth cells o) number is stage fitting = plain (job.Birth cells o) (reply.Decided number) (λ handed. refl) (λ s. tt)
      entered (job.Open fd gfid) number is stage fitting = plain (job.Open fd gfid) (reply.Decided number) (λ handed. refl) (λ s. tt)
      entered job.Index number is stage fitting = plain job.Index (reply.Decided number) (λ handed. refl) (λ s. tt)
      entered (job.Heal cell) number is stage fitting = plain (job.Heal cell) (reply.Decided number) (λ handed. refl) (λ s. tt)

      opened : (asked : Job) (one : SetReply) → IsOpen asked → Since m.ops (length m.history) t.run.fop t.run.volume.sets (Replied t.set asked one ∷ t.run.handed)
      opened (job.Open fd gfid) one is = plain (job.Open fd gfid) one (λ handed. refl) (λ s. tt)
      opened (job.Read cells fd dir) one is = absurd is
      opened (job.Change cells fd o effect) one is = absurd is
      opened (job.Birth cells o) one is = absurd is
      opened job.Index one is = absurd is
      opened (job.Heal cell) one is = absurd is

      read : (cells : List Cell) (fd : ℕ) (dir : Bool) (contents : List (Option Content)) (place : ℕ) → t.job ≡ job.Read cells fd dir → t.run.stage ≡ Settled place → AreShown m t.set dir cells contents → AreContentsOf (may_lack t.set dir) cells contents
          → Since m.ops (length m.history) t.run.fop t.run.volume.sets (Replied t.set (job.Read cells fd dir) (reply.Contents contents place) ∷ t.run.handed)
      read cells fd dir contents place is stage seen fitting p k e low high =
          let at : place ≡ p = some_is place p e in
          let w = reading place t.set cells fd dir t.next stage (h.under_way.asks ∙ ap (λ (j : Job). Course.Asks t.set j t.next) is) k (omega (arith, at, low)) high in
          record {
            s = w.past.s;
            files_is = w.past.files_is;
            sound = w.past.sound;
            made = w.past.made;
            shown = (read_still m (firm_touched first m reached) t.set dir (w.past.s.contents t.set) cells contents w.same seen fitting, w.past.shown);
          }

      by_reply : (one : SetReply) → IsReply m t one → IsAnsweredBy t.set h.fitting.quorum t.job one → Since m.ops (length m.history) t.run.fop t.run.volume.sets (Replied t.set t.job one ∷ t.run.handed)
      by_reply _ (Shows cells fd dir contents place is stage seen) fitting =
          subst (λ (j : Job). Since m.ops (length m.history) t.run.fop t.run.volume.sets (Replied t.set j (reply.Contents contents place) ∷ t.run.handed)) (sym is)
          (read cells fd dir contents place is stage seen (subst (λ (j : Job). IsAnsweredBy t.set h.fitting.quorum j (reply.Contents contents place)) is fitting))
      by_reply _ (Enters number stage) fitting = entered t.job number refl stage fitting
      by_reply _ (Fails error stage) fitting = failed t.job error
      by_reply one (Opens _ is) fitting = opened t.job one is

-- ---- each step

step_past : (first : List (List ℕ)) (m : State) → IsReached first m → ((c : ℕ) (run : Run) → Runs m c run → HasPast m c run) → (step : Step) → Allowed m step → (c : ℕ) (run : Run) → Runs (after m step) c run → RunStep m step c run → HasPast (after m step) c run
unfolding past_now
step_past first m reached a step allowed _ _ runs_new (Stays _ c run runs other) none =
    let old = a c run runs (none_before m step allowed c none) in
    (since_goes first m reached step allowed c run runs_new none old.0, reading_stays first m reached step allowed c run runs runs_new other none old.1)
step_past first m reached a step allowed _ _ runs_new (Begins c f kept h) none = (λ p k e. absurd cc, λ p set cells fd dir next e. absurd cc)
step_past first m reached a step allowed _ _ runs_new (Settles t u adopts h) none =
    let old = a t.call t.run h.under_way.runs (none_before m step allowed t.call none) in
    (since_goes first m reached step allowed t.call _ runs_new none old.0, λ p set cells fd dir next e. let clash : Waiting ≡ Settled p = sym h.waiting ∙ e in absurd cc)
step_past first m reached a step allowed _ _ runs_new (EndsSettling t h) none =
    let old = a t.call t.run h.under_way.runs (none_before m step allowed t.call none) in (
      since_goes first m reached step allowed t.call _ runs_new none old.0,
      λ p set cells fd dir next e asks k low high.
          (let at : length m.history ≡ p = stage_is (length m.history) p e in
          let now : k ≡ length m.history = omega (arith, at, low, high) in
          subst (λ (i : ℕ). PastWith m.adopted m.ops t.run.fop t.run.volume.sets t.run.handed i set cells) (sym now)
          (record { past = past_now first m reached t.call t.run h.under_way.runs (none_before m step allowed t.call none); same = λ cell has. refl })),
    )
  where
    stage_is : (x y : ℕ) → Settled x ≡ Settled y → x ≡ y
    stage_is x y f = cc
step_past first m reached a step allowed _ _ runs_new (BeginsChange t u h) none =
    let old = a t.call t.run h.under_way.runs (none_before m step allowed t.call none) in
    (since_goes first m reached step allowed t.call _ runs_new none old.0, λ p set cells fd dir next e. absurd cc)
step_past first m reached a step allowed _ _ runs_new (Decides t u h) none =
    let old = a t.call t.run h.under_way.runs (none_before m step allowed t.call none) in
    (since_goes first m reached step allowed t.call _ runs_new none old.0, λ p set cells fd dir next e. absurd cc)
step_past first m reached a step allowed _ _ runs_new (SendsBirths t h) none =
    let old = a t.call t.run h.under_way.runs (none_before m step allowed t.call none) in
    (since_goes first m reached step allowed t.call _ runs_new none old.0, λ p set cells fd dir next e. absurd cc)
step_past first m reached a step allowed _ _ runs_new (ConfirmsBirths t h) none =
    let old = a t.call t.run h.under_way.runs (none_before m step allowed t.call none) in
    (since_goes first m reached step allowed t.call _ runs_new none old.0, λ p set cells fd dir next e. absurd cc)
step_past first m reached a step allowed _ _ runs_new (HandsIn t said h) none =
    let old = a t.call t.run h.under_way.runs (none_before m step allowed t.call none) in
    (handed_since first m reached t said h (none_before m step allowed t.call none) old.0 old.1, λ p set cells fd dir next e. absurd cc)
step_past first m reached a step allowed _ _ runs_new (Extends c run dir next h) none =
    let old = a c run h.runs (none_before m step allowed c none) in
    (λ p k e low high. more_past m.ops run.fop run.volume.sets run.handed (Held dir) k (λ s. tt) (old.0 p k e low high), λ p set cells fd d next2 e. absurd cc)
step_past first m reached a step allowed _ _ runs_new (Releases c run gfid h) none = absurd (of_call_no_mount run.fop (run_sound first m reached c run h.runs).of_call h.of_mount)

pub has_past : (first : List (List ℕ)) (m : State) → IsReached first m → (c : ℕ) (run : Run) → Runs m c run → HasPast m c run
has_past first _ (IsReached.Start planned) = λ c run runs. absurd cc
has_past first _ (IsReached.Further old step reached allowed) = λ c run runs. step_past first old reached (has_past first old reached) step allowed c run runs (run_steps old step allowed c run runs)
