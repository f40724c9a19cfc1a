-- A range that a fop has read of its own directory stands, and so does a layout that was learnt from it.
use Rattle.std.proofs.Common.{◌≡◌, ◌∙◌, ◌⊎◌, ℕ, ◌+◌, ◌<◌, ◌≤◌, inl, inr, Bool, true, false, nat_lt, refl, sym, ap, subst, List, [], ◌∷◌, length, Option, Some, None, is_some}
use Rattle.std.specs.Prelude.{slice_get, ◌||◌}
use Rattle.std.proofs.lemmas.Bool.{ltb-true, ltb-false}
use Rattle.afr_machine.specs.Touching.{is_cell, has_cell}
use Rattle.dht_linkto.specs.DirNames.{first_content}
use Rattle.dht_fops.specs.Courses.{Course}
use Rattle.dht_fops.specs.Handed.{Handed, Event}
use Rattle.dht_fops.specs.Handed.Event.{Replied, Held}
use Rattle.dht_fops.specs.Looks.{span_of, span_job}
use Rattle.dht_fops.specs.Shown.{SetContents}
use Rattle.dht_laws.specs.Homes.{IsOwnDir}
use Rattle.fop_types.specs.Bounds.{Each}
use Rattle.fop_types.specs.Cells.{root, meta_cell, names_cell}
use Rattle.fop_types.specs.Jobs.{may_lack, IsAnsweredBy, IsContentOf}
use Rattle.fop_types.specs.declared.cells.Cell.{Cell}
use Rattle.fop_types.specs.declared.cells.Gfid.{Gfid}
use Rattle.fop_types.specs.declared.cells.Kind.TheVariants as kind
use Rattle.fop_types.specs.declared.contents.Content.{Content}
use Rattle.fop_types.specs.declared.contents.Span.{Span}
use Rattle.fop_types.specs.declared.jobs.Job.{Job}
use Rattle.fop_types.specs.declared.jobs.Job.TheVariants as job
use Rattle.fop_types.specs.declared.jobs.SetReply.{SetReply}
use Rattle.fop_types.specs.declared.jobs.SetReply.TheVariants as reply
use Rattle.mount_laws.specs.Births.{IsBeyond}
use Rattle.mount_laws.specs.Guards.{Allowed, IsReached, IsShown, AreShown, IsReply, IsOpen, IsSpanRead, WasSpanRead, MayHandIn, MayLearn}
use Rattle.mount_laws.specs.Guards.IsReply.{Shows, Enters, Fails, Opens}
use Rattle.mount_laws.specs.Layouts.{IsLayoutOf, LayoutStands}
use Rattle.mount_laws.specs.Objects.{volumes}
use Rattle.mount_laws.specs.Runs.{Run}
use Rattle.mount_laws.specs.States.{State, Runs, start}
use Rattle.mount_laws.specs.Steps.{Step, Task, after, births_by}
use Rattle.mount_laws.proofs.Bearing.{CourseLaws, unconfirmed_born, bare_copy, born_stays}
use Rattle.mount_laws.proofs.Beside.{each_map}
use Rattle.mount_laws.proofs.Copies.{step_calls, step_firmer, beyond_still, made_dir, IsMadeDir, lacks_further}
use Rattle.mount_laws.proofs.Homing.{own_dir}
use Rattle.mount_laws.proofs.Making.{objects_made}
use Rattle.mount_laws.proofs.Moving.{RunMove, run_moves}
use Rattle.mount_laws.proofs.Moving.RunMove.{Stays, Begins, Settles, EndsSettling, BeginsChange, Decides, SendsBirths, ConfirmsBirths, HandsIn, Extends, Releases}
use Rattle.mount_laws.proofs.Presence.{firm_some, step_stays}
use Rattle.mount_laws.proofs.Sharing.{or_right, is_cell_refl}

-- ---- the root's metadata is firm

meta_firm : (first : List (List ℕ)) (m : State) → IsReached first m → (set : ℕ) → m.firm set (meta_cell root) ≡ true
meta_firm first _ (IsReached.Start planned) = λ set. first_of (is_cell (meta_cell root) (meta_cell root)) (has_cell (names_cell root ∷ []) (meta_cell root)) (is_cell_refl (meta_cell root))
  where
    first_of : (a b : Bool) → a ≡ true → (a || b) ≡ true
    first_of true b h = refl
    first_of false b h = absurd cc
meta_firm first _ (IsReached.Further old step reached allowed) = λ set. step_firmer old step set (meta_cell root) (meta_firm first old reached set)

-- ---- a range that stands

-- the copy is there and has this range, or there is none on the set that was made for the directory
abbrev IsFixed : State → Gfid → ℕ → Option Span → Type 0
IsFixed m dir set span = ((is_some (m.adopted set (meta_cell dir)) ≡ true) × (span_of (m.adopted set (meta_cell dir)) ≡ span)) ⊎ (IsBeyond m dir set × (span ≡ None))

born_grows : CourseLaws → List (List ℕ) → (m : State) (step : Step) (set : ℕ) (cell : Cell) (x : Content) → m.born set cell ≡ Some x → (after m step).born set cell ≡ Some x
born_grows laws first m (Step.BeginsChange t u) set cell x e = born_stays laws first m.born t.set (births_by t.job) set cell x e
born_grows laws first m (Step.SendsBirths t) set cell x e = born_stays laws first m.born t.set (births_by t.job) set cell x e
born_grows laws first m (Step.Submits draws) set cell x e = e
born_grows laws first m (Step.Concludes c) set cell x e = e
born_grows laws first m (Step.Switches names) set cell x e = e
born_grows laws first m (Step.Begins c f kept) set cell x e = e
born_grows laws first m (Step.Settles t u true) set cell x e = e
born_grows laws first m (Step.Settles t u false) set cell x e = e
born_grows laws first m (Step.EndsSettling t) set cell x e = e
born_grows laws first m (Step.Decides t u) set cell x e = e
born_grows laws first m (Step.ConfirmsBirths t) set cell x e = e
born_grows laws first m (Step.HandsIn t shown) set cell x e = e
born_grows laws first m (Step.Extends c run dir next) set cell x e = e
born_grows laws first m (Step.Releases c run gfid) set cell x e = e
born_grows laws first m (Step.Learns c run dir spans) set cell x e = e
born_grows laws first m (Step.Answers c run answer place) set cell x e = e
born_grows laws first m (Step.AnswersAbove c run answer) set cell x e = e

module _ (laws : CourseLaws) (first : List (List ℕ)) where
  -- a copy's range does not change
  span_stays : (m : State) (step : Step) (reached : IsReached first m) (h : Allowed m step) (set : ℕ) (cell : Cell) → is_some (m.adopted set cell) ≡ true → span_of ((after m step).adopted set cell) ≡ span_of (m.adopted set cell)
  span_stays m step reached h set cell there =
      let old = unconfirmed_born laws first m reached set cell in
      let new = unconfirmed_born laws first (after m step) (IsReached.Further m step reached h) set cell in
      new.span (step_stays m step h set cell there) ∙ ap span_of (same (m.born set cell) refl (old.there there)) ∙ sym (old.span there)
    where
      same : (o : Option Content) → m.born set cell ≡ o → is_some o ≡ true → (after m step).born set cell ≡ m.born set cell
      same None e k = absurd cc
      same (Some x) e k = born_grows laws first m step set cell x e ∙ sym e

  fixed_still : (m : State) (step : Step) → IsReached first m → Allowed m step → (dir : Gfid) (set : ℕ) (span : Option Span) → IsFixed m dir set span → IsFixed (after m step) dir set span
  fixed_still m step reached h dir set span (inl k) = inl (step_stays m step h set (meta_cell dir) k.0, span_stays m step reached h set (meta_cell dir) k.0 ∙ k.1)
  fixed_still m step reached h dir set span (inr k) = inr (beyond_still m (after m step) (step_calls first m step reached) dir set k.0, k.1)

  fixed_is : (m : State) → IsReached first m → (dir : Gfid) (set : ℕ) (span : Option Span) → IsFixed m dir set span → span_of (m.adopted set (meta_cell dir)) ≡ span
  fixed_is m reached dir set span (inl k) = k.1
  fixed_is m reached dir set span (inr k) = bare_copy laws first m reached dir set k.0 ∙ sym k.1

  -- ---- a read of a range

  -- a directory whose metadata a set after the first does not show was made for fewer sets
  unshown : (m : State) → IsReached first m → (dir : Gfid) (set : ℕ) → m.kinds dir ≡ Some kind.Dir → 0 < set → m.firm set (meta_cell dir) ≡ false → IsBeyond m dir set
  unshown m reached dir set made further soft = by_made (made_dir laws.bear_first first m reached dir made)
    where
      clash : m.firm set (meta_cell dir) ≡ true → ⊥
      clash e = let no : true ≡ false = sym e ∙ soft in absurd cc

      by_made : (dir ≡ root) ⊎ IsMadeDir m dir → IsBeyond m dir set
      by_made (inl r) = absurd (clash (subst (λ (g : Gfid). m.firm set (meta_cell g) ≡ true) (sym r) (meta_firm first m reached set)))
      by_made (inr b) = by_less (nat_lt set (length (m.calls b.call).names)) refl
        where
          by_less : (x : Bool) → nat_lt set (length (m.calls b.call).names) ≡ x → IsBeyond m dir set
          by_less true e = absurd (clash (b.firm set further (ltb-true set (length (m.calls b.call).names) e)).0)
          by_less false e = record { call = b.call; drawn = b.drawn; beyond = ltb-false set (length (m.calls b.call).names) e }

  shown_fixed : (m : State) → IsReached first m → (dir : Gfid) (set : ℕ) (content : Option Content) → m.kinds dir ≡ Some kind.Dir → IsShown m set true (meta_cell dir) content → IsContentOf (may_lack set true) (meta_cell dir) content → IsFixed m dir set (span_of content)
  shown_fixed m reached dir set (Some x) made (inl same) fitting = inl (ap is_some same, ap span_of same)
  shown_fixed m reached dir set (Some x) made (inr l) fitting = let clash : ◌≡◌ {A = Option Content} (Some x) None = l.nothing in absurd cc
  shown_fixed m reached dir set None made (inr l) fitting = inr (unshown m reached dir set made (lacks_further set fitting) l.unconfirmed, refl)
  shown_fixed m reached dir set None made (inl same) fitting = inr (unshown m reached dir set made (lacks_further set fitting) (by_firm (m.firm set (meta_cell dir)) refl), refl)
    where
      by_firm : (b : Bool) → m.firm set (meta_cell dir) ≡ b → b ≡ false
      by_firm false f = refl
      by_firm true f = let clash : false ≡ true = sym (ap is_some same) ∙ firm_some first m reached set (meta_cell dir) f in absurd cc

  read_fixed : (m : State) → IsReached first m → (t : Task) (one : SetReply) → MayHandIn m t one → (dir : Gfid) (set : ℕ) (span : Option Span) → m.kinds dir ≡ Some kind.Dir → IsSpanRead dir set span (Replied t.set t.job one) → IsFixed m dir set span
  read_fixed m reached t one h dir set span made read = by_reply one h.is_reply h.fitting.answered read
    where
      of_contents : (contents : List (Option Content)) (place : ℕ) → AreShown m t.set true (meta_cell dir ∷ []) contents → IsAnsweredBy t.set h.fitting.quorum (span_job dir) (reply.Contents contents place) → span_of (first_content contents) ≡ span → IsFixed m dir t.set span
      of_contents [] place seen fitting e = absurd seen
      of_contents (content ∷ more) place seen fitting e = subst (λ (s : Option Span). IsFixed m dir t.set s) e (shown_fixed m reached dir t.set content made seen.0 fitting.0)

      read_parts : (a b : List Cell) (x y : ℕ) (p q : Bool) → job.Read a x p ≡ job.Read b y q → (a ≡ b) × (p ≡ q)
      read_parts a b x y p q e = (cc, cc)

      by_reply : (r : SetReply) → IsReply m t r → IsAnsweredBy t.set h.fitting.quorum t.job r → IsSpanRead dir set span (Replied t.set t.job r) → IsFixed m dir set span
      by_reply _ (Shows cells fd is_dir contents place e stage seen) fitting k =
          let same = read_parts cells (meta_cell dir ∷ []) fd 0 is_dir true (sym e ∙ k.1) in
          subst (λ (s : ℕ). IsFixed m dir s span) k.0
          (of_contents contents place (subst (λ (cs : List Cell). AreShown m t.set true cs contents) same.0 (subst (λ (b : Bool). AreShown m t.set b cells contents) same.1 seen))
          (subst (λ (j : Job). IsAnsweredBy t.set h.fitting.quorum j (reply.Contents contents place)) k.1 fitting) k.2)
      by_reply _ (Enters number stage) fitting k = absurd k
      by_reply _ (Fails error stage) fitting k = absurd k
      by_reply (reply.Contents contents place) (Opens _ opens) fitting k = absurd (subst IsOpen k.1 opens)
      by_reply (reply.Decided number) (Opens _ opens) fitting k = absurd k
      by_reply reply.Opened (Opens _ opens) fitting k = absurd k
      by_reply (reply.Listed cells answered short) (Opens _ opens) fitting k = absurd k
      by_reply (reply.Healed records) (Opens _ opens) fitting k = absurd k
      by_reply (reply.Skipped cause) (Opens _ opens) fitting k = absurd k
      by_reply (reply.Io error) (Opens _ opens) fitting k = absurd k

  -- ---- what a fop has read of its own directories

  abbrev ReadFixed : State → Run → Type 0
  ReadFixed m run = (dir : Gfid) (set : ℕ) (span : Option Span) → WasSpanRead run.handed dir set span → IsOwnDir run.fop dir → IsFixed m dir set span

  module _ (m : State) (reached : IsReached first m) (a : (c : ℕ) (run : Run) → Runs m c run → ReadFixed m run) where
    is_dir : (c : ℕ) (run : Run) → Runs m c run → (dir : Gfid) → IsOwnDir run.fop dir → m.kinds dir ≡ Some kind.Dir
    is_dir c run runs dir o = own_dir (volumes m) run.fop o.object dir o.named o.gfid_is o.is_dir ((objects_made first m reached).fops c run runs)

    move_read : (c : ℕ) (run : Run) → RunMove m c run → ReadFixed m run
    move_read _ _ (Stays c run runs) = a c run runs
    move_read _ _ (Begins c f kept h) = λ dir set span w. absurd w
    move_read _ _ (Settles t u adopts h) = a t.call t.run h.under_way.runs
    move_read _ _ (EndsSettling t h) = a t.call t.run h.under_way.runs
    move_read _ _ (BeginsChange t u h) = a t.call t.run h.under_way.runs
    move_read _ _ (Decides t u h) = a t.call t.run h.under_way.runs
    move_read _ _ (SendsBirths t h) = a t.call t.run h.under_way.runs
    move_read _ _ (ConfirmsBirths t h) = a t.call t.run h.under_way.runs
    move_read _ _ (HandsIn t one h) = by_case
      where
        by_case : (dir : Gfid) (set : ℕ) (span : Option Span) → IsSpanRead dir set span (Replied t.set t.job one) ⊎ WasSpanRead t.run.handed dir set span → IsOwnDir t.run.fop dir → IsFixed m dir set span
        by_case dir set span (inl k) o = read_fixed m reached t one h dir set span (is_dir t.call t.run h.under_way.runs dir o) k
        by_case dir set span (inr w) o = a t.call t.run h.under_way.runs dir set span w o
    move_read _ _ (Extends c run held next h) = by_case
      where
        by_case : (dir : Gfid) (set : ℕ) (span : Option Span) → IsSpanRead dir set span (Held held) ⊎ WasSpanRead run.handed dir set span → IsOwnDir run.fop dir → IsFixed m dir set span
        by_case dir set span (inl k) o = absurd k
        by_case dir set span (inr w) o = a c run h.runs dir set span w o
    move_read _ _ (Releases c run gfid h) = a c run h.runs

  read_stands : (m : State) → IsReached first m → (c : ℕ) (run : Run) → Runs m c run → ReadFixed m run
  read_stands _ (IsReached.Start planned) = λ c run runs. absurd cc
  read_stands _ (IsReached.Further old step reached allowed) = λ c run runs dir set span w o.
      fixed_still old step reached allowed dir set span (move_read old reached (read_stands old reached) c run (run_moves old step allowed c run runs) dir set span w o)

  -- ---- what was learnt

  abbrev IsLearntFixed : State → (Gfid × List (Option Span)) → Type 0
  IsLearntFixed m layout = (set : ℕ) (span : Option Span) → slice_get layout.1 set ≡ Some span → IsFixed m layout.0 set span

  learnt_now : (m : State) (step : Step) → IsReached first m → Allowed m step → Each (IsLearntFixed m) m.learnt → Each (IsLearntFixed m) (after m step).learnt
  learnt_now m (Step.Learns c run dir spans) reached h a = (λ set span e. read_stands m reached c run h.runs dir set span (h.read set span e) h.own, a)
  learnt_now m (Step.Submits draws) reached h a = a
  learnt_now m (Step.Concludes c) reached h a = a
  learnt_now m (Step.Switches names) reached h a = a
  learnt_now m (Step.Begins c f kept) reached h a = a
  learnt_now m (Step.Settles t u true) reached h a = a
  learnt_now m (Step.Settles t u false) reached h a = a
  learnt_now m (Step.EndsSettling t) reached h a = a
  learnt_now m (Step.BeginsChange t u) reached h a = a
  learnt_now m (Step.Decides t u) reached h a = a
  learnt_now m (Step.SendsBirths t) reached h a = a
  learnt_now m (Step.ConfirmsBirths t) reached h a = a
  learnt_now m (Step.HandsIn t shown) reached h a = a
  learnt_now m (Step.Extends c run dir next) reached h a = a
  learnt_now m (Step.Releases c run gfid) reached h a = a
  learnt_now m (Step.Answers c run answer place) reached h a = a
  learnt_now m (Step.AnswersAbove c run answer) reached h a = a

  learnt_fixed : (m : State) → IsReached first m → Each (IsLearntFixed m) m.learnt
  learnt_fixed _ (IsReached.Start planned) = tt
  learnt_fixed _ (IsReached.Further old step reached allowed) =
      each_map (IsLearntFixed old) (IsLearntFixed (after old step)) (after old step).learnt (λ layout k set span e. fixed_still old step reached allowed layout.0 set span (k set span e)) (learnt_now old step reached allowed (learnt_fixed old reached))

  pub layout_stands : (m : State) → IsReached first m → LayoutStands m
  layout_stands m reached = each_map (IsLearntFixed m) (IsLayoutOf m) m.learnt (λ layout k set span e. fixed_is m reached layout.0 set span (k set span e)) (learnt_fixed m reached)
