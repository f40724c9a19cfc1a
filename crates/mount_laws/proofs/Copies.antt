-- Copies of directories: those of a directory that a call made are firm on the sets of its graph; only on others does a rename
-- find none.
use Rattle.std.proofs.Common.{◌≡◌, ◌∙◌, ◌⊎◌, ℕ, zero, suc, ◌+◌, ◌<◌, ◌≤◌, inl, inr, Bool, true, false, nat_lt, refl, sym, ap, subst, List, [], ◌∷◌, ◌++◌, length, Option, Some, None, is_some, Result, Ok, if◌then◌else◌, arith}
use Rattle.std.specs.Prelude.{◌≢◌, ◌||◌, ◌&&◌, not, nat_eq}
use Rattle.std.proofs.lemmas.Bool.{ltb-true, ltb-false}
use Rattle.afr_machine.specs.Changes.{Verdict}
use Rattle.afr_machine.specs.Changes.Verdict.{Undrawn, Unsettled, Adopted, Dropped}
use Rattle.afr_machine.specs.Replicas.{with_at}
use Rattle.afr_machine.specs.Touching.{is_cell, has_cell}
use Rattle.afr_machine.specs.Transactions.{cells_of_job}
use Rattle.afr_machine.proofs.Tables.{at_same}
use Rattle.dht_layout.specs.Layouts.{even_span}
use Rattle.dht_linkto.specs.DirNames.{names_job, names_shown, names_in, first_content}
use Rattle.dht_linkto.specs.declared.names.DirNames.{DirNames}
use Rattle.dht_fops.specs.Answers.{AreMade}
use Rattle.dht_fops.specs.Courses.{Course}
use Rattle.dht_fops.specs.Founded.{IsNoError}
use Rattle.dht_fops.specs.Handed.{Handed, Event, Always, AnyHold, AnyAnswer, Saw, IsNamesOf}
use Rattle.dht_fops.specs.Handed.Event.{Replied, Held}
use Rattle.dht_laws.specs.Births.{IsBirthOf, WasBorn, AreBornBelow, IsAddedAfter, ComesAfterBirths, IsBornInTime, FopsBearFirst}
use Rattle.dht_laws.specs.Links.{SawNoCopy}
use Rattle.fop_types.specs.Bounds.{Each}
use Rattle.fop_types.specs.Cells.{root, meta_cell, names_cell}
use Rattle.fop_types.specs.Jobs.{cells_of, may_lack, IsAnsweredBy, IsContentOf}
use Rattle.fop_types.specs.Names.{is_directory}
use Rattle.fop_types.specs.StoreOps.{births, holds}
use Rattle.fop_types.specs.declared.answers.FopAnswer.TheVariants as fop_answer
use Rattle.fop_types.specs.declared.answers.IoError.{IoError}
use Rattle.fop_types.specs.declared.cells.Aspect.TheVariants as aspect
use Rattle.fop_types.specs.declared.cells.Cell.{Cell}
use Rattle.fop_types.specs.declared.cells.Gfid.{Gfid}
use Rattle.fop_types.specs.declared.cells.Kind.{Kind}
use Rattle.fop_types.specs.declared.cells.Kind.TheVariants as kind
use Rattle.fop_types.specs.declared.contents.Content.{Content}
use Rattle.fop_types.specs.declared.contents.Item.{Item}
use Rattle.fop_types.specs.declared.contents.Span.{Span}
use Rattle.fop_types.specs.declared.fops.Fop.{Fop}
use Rattle.fop_types.specs.declared.fops.Fop.TheVariants as fop
use Rattle.fop_types.specs.declared.fops.Object.{Object}
use Rattle.fop_types.specs.declared.history.Entry.{Entry}
use Rattle.fop_types.specs.declared.jobs.Job.{Job}
use Rattle.fop_types.specs.declared.jobs.Job.TheVariants as job
use Rattle.fop_types.specs.declared.jobs.SetReply.{SetReply}
use Rattle.fop_types.specs.declared.jobs.SetReply.TheVariants as reply
use Rattle.fop_types.specs.declared.store_ops.StoreOp.{StoreOp}
use Rattle.fop_types.specs.declared.store_ops.StoreOp.TheVariants as op
use Rattle.mount_laws.specs.Births.{IsBeyond}
use Rattle.mount_laws.specs.Guards.{Allowed, IsReached, IsChange, IsReply, IsShown, AreShown, IsOpen, MayHandIn}
use Rattle.mount_laws.specs.Guards.IsReply.{Shows, Enters, Fails, Opens}
use Rattle.mount_laws.specs.Holding.{IsHeldFor}
use Rattle.mount_laws.specs.Objects.{volumes, IsMadeBy}
use Rattle.mount_laws.specs.Runs.{Run, first_course}
use Rattle.mount_laws.specs.Runs.Stage.{Waiting, Settled, Changing, Bearing, Decided}
use Rattle.mount_laws.specs.States.{State, Change, Call, Status, Runs, no_call, is_unanswered, start}
use Rattle.mount_laws.specs.Steps.{Step, Task, after, is_lookup, change_by}
use Rattle.mount_laws.proofs.Beside.{each_map, each_beside, one_job}
use Rattle.mount_laws.proofs.Beyond.{in_its_graph}
use Rattle.mount_laws.proofs.Drawing.{drawn_apart, adds_drawn, status_drawn}
use Rattle.mount_laws.proofs.Held.{jobs_asked, holds_cover}
use Rattle.mount_laws.proofs.Homing.{own_dir}
use Rattle.mount_laws.proofs.Leading.{led_always}
use Rattle.mount_laws.proofs.Making.{made_by_change, objects_made}
use Rattle.mount_laws.proofs.Moving.{RunMove, run_moves, quiet, run_case, stop_case}
use Rattle.mount_laws.proofs.Moving.RunMove.{Stays, Begins, Settles, EndsSettling, BeginsChange, Decides, SendsBirths, ConfirmsBirths, HandsIn, Extends, Releases}
use Rattle.mount_laws.proofs.Presence.{firm_some}
use Rattle.mount_laws.proofs.Sharing.{or_right, is_cell_refl}
use Rattle.mount_laws.proofs.Tables.{at_case}

-- ---- what only grows

abbrev pub IsFirmer : (ℕ → Cell → Bool) → (ℕ → Cell → Bool) → Type 0
IsFirmer old new = (set : ℕ) (cell : Cell) → old set cell ≡ true → new set cell ≡ true

firm_more : (firm : ℕ → Cell → Bool) (set : ℕ) (cells : List Cell) → IsFirmer firm (with_at firm set (λ (cell : Cell). has_cell cells cell || firm set cell))
firm_more firm set cells s cell h = at_case (λ i (one : Cell → Bool). firm i cell ≡ true → one cell ≡ true) firm set (λ (c : Cell). has_cell cells c || firm set c) (λ k. or_right (has_cell cells cell) (firm set cell) k) s (λ differ k. k) h

pub step_firmer : (m : State) (step : Step) → IsFirmer m.firm (after m step).firm
step_firmer m (Step.BeginsChange t u) = firm_more m.firm t.set (cells_of_job t.job)
step_firmer m (Step.ConfirmsBirths t) = firm_more m.firm t.set (cells_of_job t.job)
step_firmer m (Step.Submits draws) = λ set cell h. h
step_firmer m (Step.Concludes c) = λ set cell h. h
step_firmer m (Step.Switches names) = λ set cell h. h
step_firmer m (Step.Begins c f kept) = λ set cell h. h
step_firmer m (Step.Settles t u true) = λ set cell h. h
step_firmer m (Step.Settles t u false) = λ set cell h. h
step_firmer m (Step.EndsSettling t) = λ set cell h. h
step_firmer m (Step.Decides t u) = λ set cell h. h
step_firmer m (Step.SendsBirths t) = λ set cell h. h
step_firmer m (Step.HandsIn t shown) = λ set cell h. h
step_firmer m (Step.Extends c run dir next) = λ set cell h. h
step_firmer m (Step.Releases c run gfid) = λ set cell h. h
step_firmer m (Step.Learns c run dir spans) = λ set cell h. h
step_firmer m (Step.Answers c run answer place) = λ set cell h. h
step_firmer m (Step.AnswersAbove c run answer) = λ set cell h. h

-- a call that was not submitted drew nothing
abbrev NoneDrawn : (ℕ → Call) → ℕ → Type 0
NoneDrawn calls submitted = (c : ℕ) → submitted < c → (calls c).drawn ≡ None

still_none : (calls : ℕ → Call) (submitted c : ℕ) (status : Status) → NoneDrawn calls submitted → NoneDrawn (with_at calls c (record (calls c) { status = status })) submitted
still_none calls submitted c status a i less = status_drawn calls c status i ∙ a i less

step_none : (m : State) (step : Step) → NoneDrawn m.calls m.submitted → NoneDrawn (after m step).calls (after m step).submitted
step_none m (Step.Submits draws) a = λ c.
    at_case (λ i (one : Call). m.submitted + 1 < i → one.drawn ≡ None) m.calls (m.submitted + 1) _ (λ less. absurd (omega (arith, less))) c (λ differ less. a c (omega (arith, less)))
step_none m (Step.Concludes c) a = still_none m.calls m.submitted c _ a
step_none m (Step.Switches names) a = a
step_none m (Step.Begins c f kept) a = still_none m.calls m.submitted c _ a
step_none m (Step.Settles t u true) a = still_none m.calls m.submitted t.call _ a
step_none m (Step.Settles t u false) a = still_none m.calls m.submitted t.call _ a
step_none m (Step.EndsSettling t) a = still_none m.calls m.submitted t.call _ a
step_none m (Step.BeginsChange t u) a = still_none m.calls m.submitted t.call _ a
step_none m (Step.Decides t u) a = still_none m.calls m.submitted t.call _ a
step_none m (Step.SendsBirths t) a = still_none m.calls m.submitted t.call _ a
step_none m (Step.ConfirmsBirths t) a = still_none m.calls m.submitted t.call _ a
step_none m (Step.HandsIn t shown) a = still_none m.calls m.submitted t.call _ a
step_none m (Step.Extends c run dir next) a = still_none m.calls m.submitted c _ a
step_none m (Step.Releases c run gfid) a = still_none m.calls m.submitted c _ a
step_none m (Step.Learns c run dir spans) a = a
step_none m (Step.Answers c run answer place) a = still_none m.calls m.submitted c _ a
step_none m (Step.AnswersAbove c run answer) a = still_none m.calls m.submitted c _ a

none_drawn : (first : List (List ℕ)) (m : State) → IsReached first m → NoneDrawn m.calls m.submitted
none_drawn first _ (IsReached.Start planned) = λ c less. refl
none_drawn first _ (IsReached.Further old step reached allowed) = step_none old step (none_drawn first old reached)

-- a call keeps its gfid and its graph
abbrev pub KeepsCalls : (ℕ → Call) → (ℕ → Call) → Type 0
KeepsCalls old new = (c : ℕ) (gfid : Gfid) → (old c).drawn ≡ Some gfid → ((new c).drawn ≡ Some gfid) × ((new c).names ≡ (old c).names)

status_keeps : (calls : ℕ → Call) (c : ℕ) (status : Status) → KeepsCalls calls (with_at calls c (record (calls c) { status = status }))
status_keeps calls c status i gfid =
    at_case (λ j (one : Call). (calls j).drawn ≡ Some gfid → (one.drawn ≡ Some gfid) × (one.names ≡ (calls j).names)) calls c (record (calls c) { status = status }) (λ e. (e, refl)) i (λ differ e. (e, refl))

pub step_calls : (first : List (List ℕ)) (m : State) (step : Step) → IsReached first m → KeepsCalls m.calls (after m step).calls
step_calls first m (Step.Submits draws) reached = λ c gfid.
    at_case (λ i (one : Call). (m.calls i).drawn ≡ Some gfid → (one.drawn ≡ Some gfid) × (one.names ≡ (m.calls i).names)) m.calls (m.submitted + 1) _
    (λ e. let clash : ◌≡◌ {A = Option Gfid} None (Some gfid) = sym (none_drawn first m reached (m.submitted + 1) (omega arith)) ∙ e in absurd cc) c (λ differ e. (e, refl))
step_calls first m (Step.Concludes c) reached = status_keeps m.calls c _
step_calls first m (Step.Switches names) reached = λ c gfid e. (e, refl)
step_calls first m (Step.Begins c f kept) reached = status_keeps m.calls c _
step_calls first m (Step.Settles t u true) reached = status_keeps m.calls t.call _
step_calls first m (Step.Settles t u false) reached = status_keeps m.calls t.call _
step_calls first m (Step.EndsSettling t) reached = status_keeps m.calls t.call _
step_calls first m (Step.BeginsChange t u) reached = status_keeps m.calls t.call _
step_calls first m (Step.Decides t u) reached = status_keeps m.calls t.call _
step_calls first m (Step.SendsBirths t) reached = status_keeps m.calls t.call _
step_calls first m (Step.ConfirmsBirths t) reached = status_keeps m.calls t.call _
step_calls first m (Step.HandsIn t shown) reached = status_keeps m.calls t.call _
step_calls first m (Step.Extends c run dir next) reached = status_keeps m.calls c _
step_calls first m (Step.Releases c run gfid) reached = status_keeps m.calls c _
step_calls first m (Step.Learns c run dir spans) reached = λ c gfid e. (e, refl)
step_calls first m (Step.Answers c run answer place) reached = status_keeps m.calls c _
step_calls first m (Step.AnswersAbove c run answer) reached = status_keeps m.calls c _

pub beyond_still : (m n : State) → KeepsCalls m.calls n.calls → (gfid : Gfid) (set : ℕ) → IsBeyond m gfid set → IsBeyond n gfid set
beyond_still m n keep gfid set b =
    let k = keep b.call gfid b.drawn in record { call = b.call; drawn = k.0; beyond = subst (λ (ns : List (List ℕ)). length ns ≤ set) (sym k.1) b.beyond }

-- ---- the root is firm

start_root : (first : List (List ℕ)) (set : ℕ) → (start first).firm set (names_cell root) ≡ true
start_root first set = or_right (is_cell (names_cell root) (meta_cell root)) _ (ap (λ (b : Bool). b || false) (is_cell_refl (names_cell root)))

pub root_firm : (first : List (List ℕ)) (m : State) → IsReached first m → (set : ℕ) → m.firm set (names_cell root) ≡ true
root_firm first _ (IsReached.Start planned) = start_root first
root_firm first _ (IsReached.Further old step reached allowed) = λ set. step_firmer old step set (names_cell root) (root_firm first old reached set)

-- ---- births that were confirmed are firm

abbrev AreFirm : (ℕ → Cell → Bool) → ℕ → List Cell → Type 0
AreFirm firm set cells = Each (λ (cell : Cell). firm set cell ≡ true) cells

firmer : (old new : ℕ → Cell → Bool) → IsFirmer old new → (set : ℕ) (cells : List Cell) → AreFirm old set cells → AreFirm new set cells
firmer old new more set cells a = each_map (λ (cell : Cell). old set cell ≡ true) (λ (cell : Cell). new set cell ≡ true) cells (λ cell k. more set cell k) a

-- those that were added are firm
added_firm : (firm : ℕ → Cell → Bool) (set : ℕ) (cells : List Cell) → AreFirm (with_at firm set (λ (cell : Cell). has_cell cells cell || firm set cell)) set cells
added_firm firm set cells = subst (λ (one : Cell → Bool). Each (λ (cell : Cell). one cell ≡ true) cells) (sym (at_same firm set (λ (cell : Cell). has_cell cells cell || firm set cell))) (each_in cells cells (λ cell h. h))
  where
    first_of : (a b : Bool) → a ≡ true → (a || b) ≡ true
    first_of true b h = refl
    first_of false b h = absurd cc

    each_in : (some all : List Cell) → ((cell : Cell) → has_cell some cell ≡ true → has_cell all cell ≡ true) → Each (λ (cell : Cell). (has_cell all cell || firm set cell) ≡ true) some
    each_in [] all h = tt
    each_in (cell ∷ some) all h = (
      first_of (has_cell all cell) (firm set cell) (h cell (ap (λ b. b || has_cell some cell) (is_cell_refl cell))),
      each_in some all (λ other k. h other (or_right (is_cell other cell) (has_cell some other) k)),
    )

module _ (firm : ℕ → Cell → Bool) where
  abbrev IsBirthFirm : ℕ → Job → Type 0
  IsBirthFirm set (job.Birth cells o) = AreFirm firm set (cells_of (births o))
  IsBirthFirm set (job.Read cells fd dir) = Unit {0}
  IsBirthFirm set (job.Change cells fd o effect) = Unit {0}
  IsBirthFirm set (job.Open fd gfid) = Unit {0}
  IsBirthFirm set job.Index = Unit {0}
  IsBirthFirm set (job.Heal cell) = Unit {0}

  abbrev IsEventFirm : Event → Type 0
  IsEventFirm (Held dir) = Unit {0}
  IsEventFirm (Replied set asked shown) = IsNoError shown → IsBirthFirm set asked

  abbrev AreEventsFirm : Handed → Type 0
  AreEventsFirm [] = Unit {0}
  AreEventsFirm (event ∷ handed) = IsEventFirm event × AreEventsFirm handed

  record HasFirm (run : Run) : Type 0 where
    pub handed : AreEventsFirm run.handed
    pub stage : (number : Option ℕ) (set : ℕ) (asked : Job) (next : SetReply → Course) → run.stage ≡ Decided number → run.course ≡ Course.Asks set asked next → IsBirthFirm set asked

module _ (old new : ℕ → Cell → Bool) (more : IsFirmer old new) where
  birth_firmer : (set : ℕ) (asked : Job) → IsBirthFirm old set asked → IsBirthFirm new set asked
  birth_firmer set (job.Birth cells o) a = firmer old new more set (cells_of (births o)) a
  birth_firmer set (job.Read cells fd dir) a = tt
  birth_firmer set (job.Change cells fd o effect) a = tt
  birth_firmer set (job.Open fd gfid) a = tt
  birth_firmer set job.Index a = tt
  birth_firmer set (job.Heal cell) a = tt

  events_firmer : (handed : Handed) → AreEventsFirm old handed → AreEventsFirm new handed
  events_firmer [] a = tt
  events_firmer (Held dir ∷ handed) a = (tt, events_firmer handed a.1)
  events_firmer (Replied set asked shown ∷ handed) a = (λ ok. birth_firmer set asked (a.0 ok), events_firmer handed a.1)

  run_firmer : (run : Run) → HasFirm old run → HasFirm new run
  run_firmer run a = record { handed = events_firmer run.handed a.handed; stage = λ number set asked next e f. birth_firmer set asked (a.stage number set asked next e f) }

abbrev FirmIn : State → ℕ → Run → Type 0
FirmIn m c run = HasFirm m.firm run

abbrev RunsFirm : State → Type 0
RunsFirm m = (c : ℕ) (run : Run) → Runs m c run → FirmIn m c run

reply_firm : (m : State) (t : Task) (shown : SetReply) → MayHandIn m t shown → FirmIn m t.call t.run → IsNoError shown → IsBirthFirm m.firm t.set t.job
reply_firm m t shown h a = by_reply shown t.job refl h.is_reply
  where
    by_reply : (one : SetReply) (asked : Job) → t.job ≡ asked → IsReply m t one → IsNoError one → IsBirthFirm m.firm t.set asked
    by_reply one (job.Read cells fd dir) is r ok = tt
    by_reply one (job.Change cells fd o effect) is r ok = tt
    by_reply one (job.Open fd gfid) is r ok = tt
    by_reply one job.Index is r ok = tt
    by_reply one (job.Heal cell) is r ok = tt
    by_reply _ (job.Birth cells o) is (Shows read fd2 dir contents place e stage seen) ok = let clash : job.Birth cells o ≡ job.Read read fd2 dir = sym is ∙ e in absurd cc
    by_reply _ (job.Birth cells o) is (Enters number stage) ok = a.stage number t.set (job.Birth cells o) t.next stage (h.under_way.asks ∙ ap (λ (j : Job). Course.Asks t.set j t.next) is)
    by_reply _ (job.Birth cells o) is (Fails error stage) ok = absurd ok
    by_reply one (job.Birth cells o) is (Opens _ opens) ok = absurd (subst IsOpen is opens)

-- a confirmed birth is of the cells to which its op gives a content
confirmed_firm : (first : List (List ℕ)) (m : State) → IsReached first m → (t : Task) → Runs m t.call t.run → t.run.course ≡ Course.Asks t.set t.job t.next → IsBirthFirm (with_at m.firm t.set (λ (cell : Cell). has_cell (cells_of_job t.job) cell || m.firm t.set cell)) t.set t.job
confirmed_firm first m reached t runs asks = of_job t.job ((holds_cover first m reached).asked t.call t.run t.set t.job t.next runs asks)
  where
    of_job : (asked : Job) → IsHeldFor t.run.holds t.run.fop asked → IsBirthFirm (with_at m.firm t.set (λ (cell : Cell). has_cell (cells_of_job asked) cell || m.firm t.set cell)) t.set asked
    of_job (job.Birth cells o) k = subst (λ (cs : List Cell). AreFirm (with_at m.firm t.set (λ (cell : Cell). has_cell cells cell || m.firm t.set cell)) t.set cs) k.1.0 (added_firm m.firm t.set cells)
    of_job (job.Read cells fd dir) k = tt
    of_job (job.Change cells fd o effect) k = tt
    of_job (job.Open fd gfid) k = tt
    of_job job.Index k = tt
    of_job (job.Heal cell) k = tt

step_firm : (first : List (List ℕ)) (m : State) (step : Step) → IsReached first m → Allowed m step → RunsFirm m → RunsFirm (after m step)
step_firm first m (Step.Submits draws) reached h a = stop_case (FirmIn m) m.calls (m.submitted + 1) _ (λ run e. absurd cc) a
step_firm first m (Step.Concludes c) reached h a = stop_case (FirmIn m) m.calls c _ (λ run e. absurd cc) a
step_firm first m (Step.Switches names) reached h a = a
step_firm first m (Step.Begins c f kept) reached h a = run_case (FirmIn m) m.calls c _ (record { handed = tt; stage = λ number set asked next e. absurd cc }) (λ i other differ e. a i other e)
step_firm first m (Step.Settles t u true) reached h a =
    run_case (FirmIn m) m.calls t.call _ (record { handed = (a t.call t.run h.under_way.runs).handed; stage = (a t.call t.run h.under_way.runs).stage }) (λ i other differ e. a i other e)
step_firm first m (Step.Settles t u false) reached h a =
    run_case (FirmIn m) m.calls t.call _ (record { handed = (a t.call t.run h.under_way.runs).handed; stage = (a t.call t.run h.under_way.runs).stage }) (λ i other differ e. a i other e)
step_firm first m (Step.EndsSettling t) reached h a = run_case (FirmIn m) m.calls t.call _ (record { handed = (a t.call t.run h.under_way.runs).handed; stage = λ number set asked next e. absurd cc }) (λ i other differ e. a i other e)
step_firm first m (Step.BeginsChange t u) reached h a =
    run_case (λ c (run : Run). HasFirm (after m (Step.BeginsChange t u)).firm run) m.calls t.call _
    (record { handed = (run_firmer m.firm _ (step_firmer m (Step.BeginsChange t u)) t.run (a t.call t.run h.under_way.runs)).handed; stage = λ number set asked next e. absurd cc })
    (λ i other differ e. run_firmer m.firm _ (step_firmer m (Step.BeginsChange t u)) other (a i other e))
step_firm first m (Step.Decides t u) reached h a =
    run_case (FirmIn m) m.calls t.call _ (record { handed = (a t.call t.run h.under_way.runs).handed; stage = λ number set asked next e f. decided set asked next f }) (λ i other differ e. a i other e)
  where
    decided : (set : ℕ) (asked : Job) (next : SetReply → Course) → t.run.course ≡ Course.Asks set asked next → IsBirthFirm m.firm set asked
    decided set asked next f = of_job asked ((((each_beside first m reached).running t.call t.run h.under_way.runs u).running_is_unsettled h.turn).asked set asked next f)
      where
        of_job : (one : Job) → m.changes u ≡ change_by t.call set one → IsBirthFirm m.firm set one
        of_job (job.Birth cells o) is = let clash : Unsettled ≡ Undrawn = sym h.unsettled ∙ ap (λ (x : Change). x.verdict) is in absurd cc
        of_job (job.Read cells fd dir) is = tt
        of_job (job.Change cells fd o effect) is = tt
        of_job (job.Open fd gfid) is = tt
        of_job job.Index is = tt
        of_job (job.Heal cell) is = tt
step_firm first m (Step.SendsBirths t) reached h a = run_case (FirmIn m) m.calls t.call _ (record { handed = (a t.call t.run h.under_way.runs).handed; stage = λ number set asked next e. absurd cc }) (λ i other differ e. a i other e)
step_firm first m (Step.ConfirmsBirths t) reached h a =
    run_case (λ c (run : Run). HasFirm (after m (Step.ConfirmsBirths t)).firm run) m.calls t.call _
    (record {
      handed = (run_firmer m.firm _ (step_firmer m (Step.ConfirmsBirths t)) t.run (a t.call t.run h.under_way.runs)).handed;
      stage = λ number set asked next e f. let same = one_job t.run.course t.set set t.job asked t.next next h.under_way.asks f in
          subst (λ (s : ℕ). IsBirthFirm (after m (Step.ConfirmsBirths t)).firm s asked) same.set_is
          (subst (λ (j : Job). IsBirthFirm (after m (Step.ConfirmsBirths t)).firm t.set j) same.job_is (confirmed_firm first m reached t h.under_way.runs h.under_way.asks));
    })
    (λ i other differ e. run_firmer m.firm _ (step_firmer m (Step.ConfirmsBirths t)) other (a i other e))
step_firm first m (Step.HandsIn t shown) reached h a =
    run_case (FirmIn m) m.calls t.call _ (record { handed = (reply_firm m t shown h (a t.call t.run h.under_way.runs), (a t.call t.run h.under_way.runs).handed); stage = λ number set asked next e. absurd cc }) (λ i other differ e. a i other e)
step_firm first m (Step.Extends c run dir next) reached h a = run_case (FirmIn m) m.calls c _ (record { handed = (tt, (a c run h.runs).handed); stage = λ number set asked later e. absurd cc }) (λ i other differ e. a i other e)
step_firm first m (Step.Releases c run gfid) reached h a = run_case (FirmIn m) m.calls c _ (record { handed = (a c run h.runs).handed; stage = (a c run h.runs).stage }) (λ i other differ e. a i other e)
step_firm first m (Step.Learns c run dir spans) reached h a = a
step_firm first m (Step.Answers c run answer place) reached h a = stop_case (FirmIn m) m.calls c _ (λ other e. quiet (is_lookup run.fop) answer other e) a
step_firm first m (Step.AnswersAbove c run answer) reached h a = stop_case (FirmIn m) m.calls c _ (λ other e. quiet (is_lookup run.fop) (fop_answer.Call answer) other e) a

runs_firm : (first : List (List ℕ)) (m : State) → IsReached first m → RunsFirm m
runs_firm first _ (IsReached.Start planned) = λ c run runs. absurd cc
runs_firm first _ (IsReached.Further old step reached allowed) = step_firm first old step reached allowed (runs_firm first old reached)

-- ---- the copies of a new directory

abbrev pub IsCopyFirm : (ℕ → Cell → Bool) → ℕ → Gfid → Type 0
IsCopyFirm firm set gfid = (firm set (meta_cell gfid) ≡ true) × (firm set (names_cell gfid) ≡ true)

was_born_firm : (firm : ℕ → Cell → Bool) (handed : Handed) (set : ℕ) (gfid : Gfid) (span : Option Span) → AreEventsFirm firm handed → WasBorn handed set gfid span → IsCopyFirm firm set gfid
was_born_firm firm [] set gfid span a w = absurd w
was_born_firm firm (event ∷ handed) set gfid span a (inr w) = was_born_firm firm handed set gfid span a.1 w
was_born_firm firm (event ∷ handed) set gfid span a (inl b) = one event a.0 b
  where
    one : (e : Event) → IsEventFirm firm e → IsBirthOf e set gfid span → IsCopyFirm firm set gfid
    one (Held dir) k b = absurd b
    one (Replied other (job.Read cells fd dir) shown) k b = absurd b
    one (Replied other (job.Change cells fd o effect) shown) k b = absurd b
    one (Replied other (job.Birth cells o) shown) k b =
        let firm_cells : AreFirm firm set (meta_cell gfid ∷ names_cell gfid ∷ []) = subst (λ (s : ℕ). AreFirm firm s (meta_cell gfid ∷ names_cell gfid ∷ [])) b.0 (subst (λ (x : StoreOp). AreFirm firm other (cells_of (births x))) b.1 (k b.2)) in
        (firm_cells.0, firm_cells.1.0)
    one (Replied other (job.Open fd file) shown) k b = absurd b
    one (Replied other job.Index shown) k b = absurd b
    one (Replied other (job.Heal cell) shown) k b = absurd b

-- a change that adds a directory
abbrev IsAddOfDir : StoreOp → Gfid → Type 0
IsAddOfDir (op.AddName parent item mode span) gfid = (item.gfid ≡ gfid) × (item.kind ≡ kind.Dir)
IsAddOfDir other gfid = ⊥

abbrev CopiesIn : (ℕ → Change) → (ℕ → Cell → Bool) → (ℕ → Call) → Type 0
CopiesIn changes firm calls = (u : ℕ) (entry : Entry) (gfid : Gfid) → (changes u).verdict ≢ Undrawn → (changes u).effect ≡ Some entry → IsAddOfDir (changes u).op gfid
    → (set : ℕ) → 0 < set → set < length (calls (changes u).by).names → IsCopyFirm firm set gfid

-- a begun change that makes a directory, its call having drawn it
module _ (law : FopsBearFirst) (first : List (List ℕ)) (m : State) (reached : IsReached first m) where
  pub in_time : (c : ℕ) (run : Run) (set : ℕ) (asked : Job) (next : SetReply → Course) → Runs m c run → run.course ≡ Course.Asks set asked next → IsBornInTime run.volume run.fop run.handed set asked
  in_time c run set asked next runs asks =
      let g = in_its_graph first m reached in
      let p = g.planned c run runs in
      let sets : length run.names ≡ run.volume.sets = ap (λ (n : List (List ℕ)). length n) p.names_are ∙ sym p.sets in
      let some : 1 ≤ run.volume.root_sets = subst (λ (n : ℕ). 1 ≤ n) (sym p.roots) g.some in
      let few : run.volume.root_sets ≤ run.volume.sets = subst (λ (n : ℕ). n ≤ run.volume.sets) (sym p.roots) (subst (λ (n : ℕ). m.root_sets ≤ n) (sym p.sets) (g.unanswered c (ap (λ s. is_unanswered s) runs)).0) in
      (subst (λ (course : Course). Always (IsBornInTime run.volume run.fop) AnyHold AnyAnswer run.handed course) asks
      (led_always (IsBornInTime run.volume run.fop) AnyHold AnyAnswer (first_course run) run.handed run.course (jobs_asked first m reached c run runs) (law run.volume run.names run.kept run.fop some few sets))).0

  begun_copies : (t : Task) → Runs m t.call t.run → t.run.course ≡ Course.Asks t.set t.job t.next → IsChange t.job → (entry : Entry) (gfid : Gfid) → (change_by t.call t.set t.job).effect ≡ Some entry → IsAddOfDir (change_by t.call t.set t.job).op gfid
      → (set : ℕ) → 0 < set → set < length (m.calls t.call).names → IsCopyFirm m.firm set gfid
  begun_copies t runs asks is entry gfid effect added set further within = of_job t.job is (in_time t.call t.run t.set t.job t.next runs asks) effect added
    where
      of_kind : (k : Kind) (g : Gfid) (span : Option Span) → k ≡ kind.Dir → IsAddedAfter t.run.volume t.run.handed g span k → g ≡ gfid → IsCopyFirm m.firm set gfid
      of_kind kind.Dir g span e a same =
          subst (λ (x : Gfid). IsCopyFirm m.firm set x) same
          (was_born_firm m.firm t.run.handed set g (Some (even_span t.run.volume.sets set)) (runs_firm first m reached t.call t.run runs).handed
          (a.1 set further (let p = ((in_its_graph first m reached).planned t.call t.run runs).sets in omega (arith, within, p))))
      of_kind kind.File g span e a same = absurd cc
      of_kind kind.Link g span e a same = absurd cc

      of_op : (o : StoreOp) → ComesAfterBirths t.run.volume t.run.handed o → IsAddOfDir o gfid → IsCopyFirm m.firm set gfid
      of_op (op.AddName parent item mode span) a k = of_kind item.kind item.gfid span k.1 a k.0
      of_op (op.Write g offset bytes) a k = absurd k
      of_op (op.Truncate g size) a k = absurd k
      of_op (op.SetMode g mode) a k = absurd k
      of_op (op.SetAttr g attr) a k = absurd k
      of_op (op.DelAttr g name) a k = absurd k
      of_op (op.DropName parent name) a k = absurd k
      of_op (op.DropDir parent name g) a k = absurd k
      of_op (op.Move parent name target new_name) a k = absurd k
      of_op (op.MakeCopy g span) a k = absurd k

      of_job : (asked : Job) → IsChange asked → IsBornInTime t.run.volume t.run.fop t.run.handed t.set asked → (change_by t.call t.set asked).effect ≡ Some entry → IsAddOfDir (change_by t.call t.set asked).op gfid → IsCopyFirm m.firm set gfid
      of_job (job.Change cells fd o (Some one)) is a e k = of_op o a k
      of_job (job.Change cells fd o None) is a e k = absurd cc
      of_job (job.Read cells fd dir) is a e k = absurd is
      of_job (job.Birth cells o) is a e k = absurd is
      of_job (job.Open fd file) is a e k = absurd is
      of_job job.Index is a e k = absurd is
      of_job (job.Heal cell) is a e k = absurd is

-- the changes that were begun were begun before, as they are
record IsSameChange (old new : Change) : Type 0 where
  pub begun : old.verdict ≢ Undrawn
  pub by : new.by ≡ old.by
  pub effect : new.effect ≡ old.effect
  pub op : new.op ≡ old.op

abbrev AreSame : (ℕ → Change) → (ℕ → Change) → Type 0
AreSame old new = (u : ℕ) → (new u).verdict ≢ Undrawn → IsSameChange (old u) (new u)

all_same : (changes : ℕ → Change) → AreSame changes changes
all_same changes u begun = record { begun = begun; by = refl; effect = refl; op = refl }

decided_same : (changes : ℕ → Change) (u : ℕ) (verdict : Verdict) → (changes u).verdict ≡ Unsettled → AreSame changes (with_at changes u (record (changes u) { verdict = verdict }))
decided_same changes u verdict was w =
    at_case (λ i (one : Change). one.verdict ≢ Undrawn → IsSameChange (changes i) one) changes u (record (changes u) { verdict = verdict })
    (λ begun. record { begun = λ e. (let clash : Unsettled ≡ Undrawn = sym was ∙ e in absurd cc); by = refl; effect = refl; op = refl }) w (λ differ begun. record { begun = begun; by = refl; effect = refl; op = refl })

-- who makes a directory drew its gfid
adder_drew : (first : List (List ℕ)) (m : State) → IsReached first m → (u : ℕ) (entry : Entry) (gfid : Gfid) → (m.changes u).verdict ≢ Undrawn → (m.changes u).effect ≡ Some entry → IsAddOfDir (m.changes u).op gfid → (m.calls (m.changes u).by).drawn ≡ Some gfid
adder_drew first m reached u entry gfid begun effect added = of_op (m.changes u).op refl added
  where
    of_op : (o : StoreOp) → (m.changes u).op ≡ o → IsAddOfDir o gfid → (m.calls (m.changes u).by).drawn ≡ Some gfid
    of_op (op.AddName parent item mode span) is k = (adds_drawn first m reached u entry parent item mode span begun effect is).0 ∙ ap (λ (g : Gfid). Some g) k.0
    of_op (op.Write g offset bytes) is k = absurd k
    of_op (op.Truncate g size) is k = absurd k
    of_op (op.SetMode g mode) is k = absurd k
    of_op (op.SetAttr g attr) is k = absurd k
    of_op (op.DelAttr g name) is k = absurd k
    of_op (op.DropName parent name) is k = absurd k
    of_op (op.DropDir parent name g) is k = absurd k
    of_op (op.Move parent name target new_name) is k = absurd k
    of_op (op.MakeCopy g span) is k = absurd k

abbrev CopiesOf : State → Type 0
CopiesOf m = CopiesIn m.changes m.firm m.calls

copies_at : (first : List (List ℕ)) (m : State) → IsReached first m → (firm : ℕ → Cell → Bool) (calls : ℕ → Call) → IsFirmer m.firm firm → KeepsCalls m.calls calls → CopiesOf m
    → (u : ℕ) (one : Change) → IsSameChange (m.changes u) one → (entry : Entry) (gfid : Gfid) → one.effect ≡ Some entry → IsAddOfDir one.op gfid → (set : ℕ) → 0 < set → set < length (calls one.by).names → IsCopyFirm firm set gfid
copies_at first m reached firm calls more keep a u one same entry gfid effect added set further within =
    let old_effect : (m.changes u).effect ≡ Some entry = sym same.effect ∙ effect in
    let old_added : IsAddOfDir (m.changes u).op gfid = subst (λ (o : StoreOp). IsAddOfDir o gfid) same.op added in
    let kept = keep (m.changes u).by gfid (adder_drew first m reached u entry gfid same.begun old_effect old_added) in
    let names : (calls one.by).names ≡ (m.calls (m.changes u).by).names = ap (λ (c : ℕ). (calls c).names) same.by ∙ kept.1 in
    let old = a u entry gfid same.begun old_effect old_added set further (subst (λ (ns : List (List ℕ)). set < length ns) names within) in
    (more set (meta_cell gfid) old.0, more set (names_cell gfid) old.1)

copies_still : (first : List (List ℕ)) (m : State) → IsReached first m → (changes : ℕ → Change) (firm : ℕ → Cell → Bool) (calls : ℕ → Call) → AreSame m.changes changes → IsFirmer m.firm firm → KeepsCalls m.calls calls → CopiesOf m → CopiesIn changes firm calls
copies_still first m reached changes firm calls same more keep a u entry gfid begun = copies_at first m reached firm calls more keep a u (changes u) (same u begun) entry gfid

step_copies : FopsBearFirst → (first : List (List ℕ)) (m : State) (step : Step) → IsReached first m → Allowed m step → CopiesOf m → CopiesOf (after m step)
step_copies law first m (Step.BeginsChange t u) reached h a = λ w entry gfid.
    at_case (λ i (one : Change). one.verdict ≢ Undrawn → one.effect ≡ Some entry → IsAddOfDir one.op gfid → (set : ℕ) → 0 < set → set < length ((after m (Step.BeginsChange t u)).calls one.by).names → IsCopyFirm (after m (Step.BeginsChange t u)).firm set gfid)
    m.changes u (change_by t.call t.set t.job) (λ begun effect added set further within. mine entry gfid effect added set further within) w
    (λ differ begun. copies_at first m reached (after m (Step.BeginsChange t u)).firm (after m (Step.BeginsChange t u)).calls (step_firmer m (Step.BeginsChange t u)) (step_calls first m (Step.BeginsChange t u) reached) a w (m.changes w) (all_same m.changes w begun) entry gfid)
  where
    by_is : (asked : Job) → IsChange asked → (change_by t.call t.set asked).by ≡ t.call
    by_is (job.Change cells fd o effect) is = refl
    by_is (job.Read cells fd dir) is = absurd is
    by_is (job.Birth cells o) is = absurd is
    by_is (job.Open fd file) is = absurd is
    by_is job.Index is = absurd is
    by_is (job.Heal cell) is = absurd is

    same_names : (c : ℕ) → ((after m (Step.BeginsChange t u)).calls c).names ≡ (m.calls c).names
    same_names c = at_case (λ i (one : Call). one.names ≡ (m.calls i).names) m.calls t.call _ refl c (λ differ. refl)

    mine : (entry : Entry) (gfid : Gfid) → (change_by t.call t.set t.job).effect ≡ Some entry → IsAddOfDir (change_by t.call t.set t.job).op gfid
        → (set : ℕ) → 0 < set → set < length ((after m (Step.BeginsChange t u)).calls (change_by t.call t.set t.job).by).names → IsCopyFirm (after m (Step.BeginsChange t u)).firm set gfid
    mine entry gfid effect added set further within =
        let names = same_names (change_by t.call t.set t.job).by ∙ ap (λ (c : ℕ). (m.calls c).names) (by_is t.job h.is_change) in
        let old = begun_copies law first m reached t h.under_way.runs h.under_way.asks h.is_change entry gfid effect added set further (subst (λ (ns : List (List ℕ)). set < length ns) names within) in
        (step_firmer m (Step.BeginsChange t u) set (meta_cell gfid) old.0, step_firmer m (Step.BeginsChange t u) set (names_cell gfid) old.1)
step_copies law first m (Step.Settles t u true) reached h a = copies_still first m reached (after m (Step.Settles t u true)).changes (after m (Step.Settles t u true)).firm (after m (Step.Settles t u true)).calls (decided_same m.changes u Adopted h.unsettled.verdict) (λ set cell k. k) (step_calls first m (Step.Settles t u true) reached) a
step_copies law first m (Step.Settles t u false) reached h a = copies_still first m reached (after m (Step.Settles t u false)).changes (after m (Step.Settles t u false)).firm (after m (Step.Settles t u false)).calls (decided_same m.changes u Dropped h.unsettled.verdict) (λ set cell k. k) (step_calls first m (Step.Settles t u false) reached) a
step_copies law first m (Step.Decides t u) reached h a = copies_still first m reached (after m (Step.Decides t u)).changes (after m (Step.Decides t u)).firm (after m (Step.Decides t u)).calls (decided_same m.changes u Adopted h.unsettled) (λ set cell k. k) (step_calls first m (Step.Decides t u) reached) a
step_copies law first m (Step.Submits draws) reached h a = copies_still first m reached m.changes m.firm (after m (Step.Submits draws)).calls (all_same m.changes) (λ set cell k. k) (step_calls first m (Step.Submits draws) reached) a
step_copies law first m (Step.Concludes c) reached h a = copies_still first m reached m.changes m.firm (after m (Step.Concludes c)).calls (all_same m.changes) (λ set cell k. k) (step_calls first m (Step.Concludes c) reached) a
step_copies law first m (Step.Switches names) reached h a = a
step_copies law first m (Step.Begins c f kept) reached h a = copies_still first m reached m.changes m.firm (after m (Step.Begins c f kept)).calls (all_same m.changes) (λ set cell k. k) (step_calls first m (Step.Begins c f kept) reached) a
step_copies law first m (Step.EndsSettling t) reached h a = copies_still first m reached m.changes m.firm (after m (Step.EndsSettling t)).calls (all_same m.changes) (λ set cell k. k) (step_calls first m (Step.EndsSettling t) reached) a
step_copies law first m (Step.SendsBirths t) reached h a = copies_still first m reached m.changes m.firm (after m (Step.SendsBirths t)).calls (all_same m.changes) (λ set cell k. k) (step_calls first m (Step.SendsBirths t) reached) a
step_copies law first m (Step.ConfirmsBirths t) reached h a = copies_still first m reached m.changes (after m (Step.ConfirmsBirths t)).firm (after m (Step.ConfirmsBirths t)).calls (all_same m.changes) (step_firmer m (Step.ConfirmsBirths t)) (step_calls first m (Step.ConfirmsBirths t) reached) a
step_copies law first m (Step.HandsIn t shown) reached h a = copies_still first m reached m.changes m.firm (after m (Step.HandsIn t shown)).calls (all_same m.changes) (λ set cell k. k) (step_calls first m (Step.HandsIn t shown) reached) a
step_copies law first m (Step.Extends c run dir next) reached h a = copies_still first m reached m.changes m.firm (after m (Step.Extends c run dir next)).calls (all_same m.changes) (λ set cell k. k) (step_calls first m (Step.Extends c run dir next) reached) a
step_copies law first m (Step.Releases c run gfid) reached h a = copies_still first m reached m.changes m.firm (after m (Step.Releases c run gfid)).calls (all_same m.changes) (λ set cell k. k) (step_calls first m (Step.Releases c run gfid) reached) a
step_copies law first m (Step.Learns c run dir spans) reached h a = a
step_copies law first m (Step.Answers c run answer place) reached h a = copies_still first m reached m.changes m.firm (after m (Step.Answers c run answer place)).calls (all_same m.changes) (λ set cell k. k) (step_calls first m (Step.Answers c run answer place) reached) a
step_copies law first m (Step.AnswersAbove c run answer) reached h a = copies_still first m reached m.changes m.firm (after m (Step.AnswersAbove c run answer)).calls (all_same m.changes) (λ set cell k. k) (step_calls first m (Step.AnswersAbove c run answer) reached) a

copies_firm : FopsBearFirst → (first : List (List ℕ)) (m : State) → IsReached first m → CopiesOf m
copies_firm law first _ (IsReached.Start planned) = λ u entry gfid begun. absurd (begun refl)
copies_firm law first _ (IsReached.Further old step reached allowed) = step_copies law first old step reached allowed (copies_firm law first old reached)

-- the change that made a directory
pub record IsMadeDir (m : State) (gfid : Gfid) : Type 0 where
  pub call : ℕ
  pub drawn : (m.calls call).drawn ≡ Some gfid
  pub firm : (set : ℕ) → 0 < set → set < length (m.calls call).names → IsCopyFirm m.firm set gfid

pub made_dir : FopsBearFirst → (first : List (List ℕ)) (m : State) → IsReached first m → (gfid : Gfid) → m.kinds gfid ≡ Some kind.Dir → (gfid ≡ root) ⊎ IsMadeDir m gfid
made_dir law first m reached gfid made = by_made (made_by_change first m reached gfid kind.Dir made)
  where
    by_made : ((gfid ≡ root) × (kind.Dir ≡ kind.Dir)) ⊎ IsMadeBy m.changes m.homes gfid kind.Dir → (gfid ≡ root) ⊎ IsMadeDir m gfid
    by_made (inl r) = inl r.0
    by_made (inr b) =
        let begun : (m.changes b.change).verdict ≢ Undrawn = λ e. (let clash : Adopted ≡ Undrawn = sym b.adopted ∙ e in absurd cc) in
        let added : IsAddOfDir (m.changes b.change).op gfid = subst (λ (o : StoreOp). IsAddOfDir o gfid) (sym b.op_is) (b.gfid_is, b.kind_is) in
        inr (record {
          call = (m.changes b.change).by;
          drawn = adder_drew first m reached b.change b.entry gfid begun b.effect added;
          firm = λ set further within. copies_firm law first m reached b.change b.entry gfid begun b.effect added set further within;
        })

pub copies_stand : FopsBearFirst → (first : List (List ℕ)) (m : State) → IsReached first m → (c : ℕ) (gfid : Gfid) (set : ℕ) → (m.calls c).drawn ≡ Some gfid → m.kinds gfid ≡ Some kind.Dir → 0 < set → set < length (m.calls c).names → IsCopyFirm m.firm set gfid
copies_stand law first m reached c gfid set drawn made further within = by_made (made_dir law first m reached gfid made)
  where
    by_made : (gfid ≡ root) ⊎ IsMadeDir m gfid → IsCopyFirm m.firm set gfid
    by_made (inl r) = absurd ((drawn_apart first m reached).no_root c gfid drawn r)
    by_made (inr b) =
        let same : b.call ≡ c = (drawn_apart first m reached).apart b.call c gfid b.drawn drawn in
        b.firm set further (subst (λ (i : ℕ). set < length (m.calls i).names) (sym same) within)

-- ---- where a rename finds no copy

-- a rename's new parent
abbrev pub IsNewParent : Fop → Gfid → Type 0
IsNewParent (fop.Rename parent name target new_name) gfid = (gfid ≡ target.gfid) × (is_directory target.kind ≡ true)
IsNewParent other gfid = ⊥

pub parent_dir : (m : State) (f : Fop) (gfid : Gfid) → AreMade (volumes m) f → IsNewParent f gfid → m.kinds gfid ≡ Some kind.Dir
parent_dir m (fop.Rename parent name target new_name) gfid a p = own_dir (volumes m) (fop.Rename parent name target new_name) target gfid (inr refl) (sym p.0) p.1 a
parent_dir m (fop.Lookup parent name) gfid a p = absurd p
parent_dir m (fop.Mkdir parent name mode drawn) gfid a p = absurd p
parent_dir m (fop.Rmdir parent name) gfid a p = absurd p
parent_dir m (fop.Create fd parent name mode drawn) gfid a p = absurd p
parent_dir m (fop.Unlink parent name) gfid a p = absurd p
parent_dir m (fop.Open fd own) gfid a p = absurd p
parent_dir m (fop.Stat own) gfid a p = absurd p
parent_dir m (fop.List own) gfid a p = absurd p
parent_dir m (fop.Chmod own mode) gfid a p = absurd p
parent_dir m (fop.Truncate own size) gfid a p = absurd p
parent_dir m (fop.SetAttr own attr) gfid a p = absurd p
parent_dir m (fop.GetAttr own name) gfid a p = absurd p
parent_dir m (fop.DelAttr own name) gfid a p = absurd p
parent_dir m (fop.Read fd own offset count) gfid a p = absurd p
parent_dir m (fop.Write fd own offset bytes) gfid a p = absurd p
parent_dir m (fop.Migrate fds) gfid a p = absurd p
parent_dir m (fop.Heal count) gfid a p = absurd p

-- a directory that a set after the first does not show was made for fewer sets
unshown_beyond : FopsBearFirst → (first : List (List ℕ)) (m : State) → IsReached first m → (gfid : Gfid) (set : ℕ) → m.kinds gfid ≡ Some kind.Dir → 0 < set → m.firm set (names_cell gfid) ≡ false → IsBeyond m gfid set
unshown_beyond law first m reached gfid set made further soft = by_made (made_dir law first m reached gfid made)
  where
    clash : m.firm set (names_cell gfid) ≡ true → ⊥
    clash e = let no : true ≡ false = sym e ∙ soft in absurd cc

    by_made : (gfid ≡ root) ⊎ IsMadeDir m gfid → IsBeyond m gfid set
    by_made (inl r) = absurd (clash (subst (λ (g : Gfid). m.firm set (names_cell g) ≡ true) (sym r) (root_firm first m reached set)))
    by_made (inr b) = by_less (nat_lt set (length (m.calls b.call).names)) refl
      where
        by_less : (x : Bool) → nat_lt set (length (m.calls b.call).names) ≡ x → IsBeyond m gfid set
        by_less true e = absurd (clash (b.firm set further (ltb-true set (length (m.calls b.call).names) e)).1)
        by_less false e = record { call = b.call; drawn = b.drawn; beyond = ltb-false set (length (m.calls b.call).names) e }

abbrev pub SeenBeyond : State → Run → Type 0
SeenBeyond m run = (dir : Gfid) (set : ℕ) → SawNoCopy run.handed dir set → IsNewParent run.fop dir → IsBeyond m dir set

-- a read that shows no copy
no_content : (content : Option Content) → is_some content ≡ false → content ≡ None
no_content None e = refl
no_content (Some x) e = absurd cc

pub lacks_further : (set : ℕ) → may_lack set true ≡ true → 0 < set
lacks_further zero e = absurd cc
lacks_further (suc set) e = omega arith

no_copy_soft : (first : List (List ℕ)) (m : State) → IsReached first m → (t : Task) (one : SetReply) → MayHandIn m t one → (dir : Gfid) (shown : DirNames) → t.job ≡ names_job dir → names_in one ≡ Ok shown → shown.has_copy ≡ false
    → (0 < t.set) × (m.firm t.set (names_cell dir) ≡ false)
no_copy_soft first m reached t one h dir shown is says none = by_reply one h.is_reply h.fitting.answered says
  where
    unwrap : (x y : DirNames) → ◌≡◌ {A = Result DirNames IoError} (Ok x) (Ok y) → x ≡ y
    unwrap x y e = cc

    soft : (content : Option Content) → content ≡ None → IsShown m t.set true (names_cell dir) content → m.firm t.set (names_cell dir) ≡ false
    soft content e (inr l) = l.unconfirmed
    soft content e (inl same) = by_firm (m.firm t.set (names_cell dir)) refl
      where
        by_firm : (b : Bool) → m.firm t.set (names_cell dir) ≡ b → b ≡ false
        by_firm false f = refl
        by_firm true f = let clash : false ≡ true = sym (ap is_some (same ∙ e)) ∙ firm_some first m reached t.set (names_cell dir) f in absurd cc

    further : (content : Option Content) → content ≡ None → IsContentOf (may_lack t.set true) (names_cell dir) content → 0 < t.set
    further None e k = lacks_further t.set k
    further (Some x) e k = absurd cc

    of_contents : (contents : List (Option Content)) (place : ℕ) → AreShown m t.set true (names_cell dir ∷ []) contents → IsAnsweredBy t.set h.fitting.quorum (names_job dir) (reply.Contents contents place)
        → names_in (reply.Contents contents place) ≡ Ok shown → (0 < t.set) × (m.firm t.set (names_cell dir) ≡ false)
    of_contents [] place seen fitting e = absurd seen
    of_contents (content ∷ more) place seen fitting e =
        let nothing : content ≡ None = no_content content (ap (λ (d : DirNames). d.has_copy) (unwrap (names_shown content place) shown e) ∙ none) in
        (further content nothing fitting.0, soft content nothing seen.0)

    by_reply : (r : SetReply) → IsReply m t r → IsAnsweredBy t.set h.fitting.quorum t.job r → names_in r ≡ Ok shown → (0 < t.set) × (m.firm t.set (names_cell dir) ≡ false)
    by_reply _ (Shows cells fd is_dir contents place e stage seen) fitting f =
        let same = read_parts cells (names_cell dir ∷ []) fd 0 is_dir true (sym e ∙ is) in
        of_contents contents place
        (subst (λ (cs : List Cell). AreShown m t.set true cs contents) same.0 (subst (λ (b : Bool). AreShown m t.set b cells contents) same.1 seen))
        (subst (λ (j : Job). IsAnsweredBy t.set h.fitting.quorum j (reply.Contents contents place)) is fitting) f
      where
        read_parts : (a b : List Cell) (x y : ℕ) (p q : Bool) → job.Read a x p ≡ job.Read b y q → (a ≡ b) × (p ≡ q)
        read_parts a b x y p q e = (cc, cc)
    by_reply _ (Enters number stage) fitting f = absurd (subst (λ (j : Job). IsAnsweredBy t.set h.fitting.quorum j (reply.Decided number)) is fitting)
    by_reply _ (Fails error stage) fitting f = absurd cc
    by_reply r (Opens _ opens) fitting f = absurd (subst IsOpen is opens)

-- a read of the directory's names on the set showed no copy
record IsNoCopyOf (event : Event) (dir : Gfid) (set : ℕ) : Type 0 where
  pub shown : DirNames
  pub says : IsNamesOf event dir set shown
  pub none : shown.has_copy ≡ false

later_no_copy : (event : Event) (handed : Handed) (dir : Gfid) (set : ℕ) → SawNoCopy (event ∷ handed) dir set → IsNoCopyOf event dir set ⊎ SawNoCopy handed dir set
later_no_copy event handed dir set s = by_case s.saw
  where
    by_case : IsNamesOf event dir set s.shown ⊎ Saw handed dir set s.shown → IsNoCopyOf event dir set ⊎ SawNoCopy handed dir set
    by_case (inl k) = inl (record { shown = s.shown; says = k; none = s.none })
    by_case (inr k) = inr (record { shown = s.shown; saw = k; none = s.none })

module _ (law : FopsBearFirst) (first : List (List ℕ)) (m : State) (reached : IsReached first m) (a : (c : ℕ) (run : Run) → Runs m c run → SeenBeyond m run) where
  move_seen : (c : ℕ) (run : Run) → RunMove m c run → SeenBeyond m run
  move_seen _ _ (Stays c run runs) = a c run runs
  move_seen _ _ (Begins c f kept h) = λ dir set s. absurd s.saw
  move_seen _ _ (Settles t u adopts h) = a t.call t.run h.under_way.runs
  move_seen _ _ (EndsSettling t h) = a t.call t.run h.under_way.runs
  move_seen _ _ (BeginsChange t u h) = a t.call t.run h.under_way.runs
  move_seen _ _ (Decides t u h) = a t.call t.run h.under_way.runs
  move_seen _ _ (SendsBirths t h) = a t.call t.run h.under_way.runs
  move_seen _ _ (ConfirmsBirths t h) = a t.call t.run h.under_way.runs
  move_seen _ _ (HandsIn t one h) = λ dir set s p. by_case dir set p (later_no_copy (Replied t.set t.job one) t.run.handed dir set s)
    where
      by_case : (dir : Gfid) (set : ℕ) → IsNewParent t.run.fop dir → IsNoCopyOf (Replied t.set t.job one) dir set ⊎ SawNoCopy t.run.handed dir set → IsBeyond m dir set
      by_case dir set p (inr s) = a t.call t.run h.under_way.runs dir set s p
      by_case dir set p (inl k) =
          let soft = no_copy_soft first m reached t one h dir k.shown k.says.1 k.says.2 k.none in
          subst (λ (s : ℕ). IsBeyond m dir s) k.says.0 (unshown_beyond law first m reached dir t.set (parent_dir m t.run.fop dir ((objects_made first m reached).fops t.call t.run h.under_way.runs) p) soft.0 soft.1)
  move_seen _ _ (Extends c run dir next h) = λ other set s p. by_case other set p (later_no_copy (Held dir) run.handed other set s)
    where
      by_case : (other : Gfid) (set : ℕ) → IsNewParent run.fop other → IsNoCopyOf (Held dir) other set ⊎ SawNoCopy run.handed other set → IsBeyond m other set
      by_case other set p (inr s) = a c run h.runs other set s p
      by_case other set p (inl k) = absurd k.says
  move_seen _ _ (Releases c run gfid h) = a c run h.runs

pub seen_beyond : FopsBearFirst → (first : List (List ℕ)) (m : State) → IsReached first m → (c : ℕ) (run : Run) → Runs m c run → SeenBeyond m run
seen_beyond law first _ (IsReached.Start planned) = λ c run runs. absurd cc
seen_beyond law first _ (IsReached.Further old step reached allowed) = λ c run runs dir set s p.
    beyond_still old (after old step) (step_calls first old step reached) dir set (move_seen law first old reached (seen_beyond law first old reached) c run (run_moves old step allowed c run runs) dir set s p)
