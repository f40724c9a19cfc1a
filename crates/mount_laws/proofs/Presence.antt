-- Each content is of its cell's aspect, and a firm cell is present.
use Rattle.std.proofs.Common.{◌≡◌, ◌∙◌, ℕ, ◌+◌, Bool, true, false, refl, sym, ap, subst, List, [], ◌∷◌, Option, Some, None, is_some, if◌then◌else◌}
use Rattle.std.specs.Prelude.{◌||◌}
use Rattle.std.specs.Ordering.{is_eq}
use Rattle.afr_machine.specs.Copies.{root_alone, contents_of}
use Rattle.afr_machine.specs.Replicas.{with_at}
use Rattle.afr_machine.specs.Touching.{is_cell, has_cell}
use Rattle.afr_machine.specs.Transactions.{cells_of_job}
use Rattle.afr_machine.proofs.Tables.{at_same}
use Rattle.dht_fops.specs.Courses.{Course}
use Rattle.dht_fops.specs.Shown.{SetContents}
use Rattle.fop_types.specs.Bounds.{Each}
use Rattle.fop_types.specs.Cells.{root, meta_cell, names_cell}
use Rattle.fop_types.specs.Jobs.{cells_of}
use Rattle.fop_types.specs.Orders.{cell_cmp}
use Rattle.fop_types.specs.StoreOps.{Contents, Edit, with_bytes_by, with_mode, with_attrs_by, with_items_by, as_removed, edited, holds, edits, born, births, with_content, edited_if_present, after_edits, born_if_absent, after_births, fits, contents_after, are_present}
use Rattle.fop_types.specs.StoreOps.Edit.{PutBytes, Resize, PutMode, PutAttr, DropAttr, PutItem, DropItem, MarkRemoved}
use Rattle.fop_types.specs.declared.answers.FopAnswer.TheVariants as fop_answer
use Rattle.fop_types.specs.declared.cells.Aspect.{Aspect}
use Rattle.fop_types.specs.declared.cells.Aspect.TheVariants as aspect
use Rattle.fop_types.specs.declared.cells.Cell.{Cell}
use Rattle.fop_types.specs.declared.cells.Kind.{Kind}
use Rattle.fop_types.specs.declared.cells.Kind.TheVariants as kind
use Rattle.fop_types.specs.declared.contents.Attr.{Attr}
use Rattle.fop_types.specs.declared.contents.Content.{Content}
use Rattle.fop_types.specs.declared.contents.Content.TheVariants.{Bytes, Meta, Names}
use Rattle.fop_types.specs.declared.contents.Item.{Item}
use Rattle.fop_types.specs.declared.jobs.Job.{Job}
use Rattle.fop_types.specs.declared.jobs.Job.TheVariants as job
use Rattle.fop_types.specs.declared.jobs.SetReply.{SetReply}
use Rattle.fop_types.specs.declared.store_ops.StoreOp.{StoreOp}
use Rattle.fop_types.specs.declared.store_ops.StoreOp.TheVariants as op
use Rattle.mount_laws.specs.Guards.{Allowed, IsReached, IsBirth}
use Rattle.mount_laws.specs.Holding.{IsHeldFor}
use Rattle.mount_laws.specs.Runs.{Run}
use Rattle.mount_laws.specs.Runs.Stage.{Bearing}
use Rattle.mount_laws.specs.Settling.{FirmIsPresent}
use Rattle.mount_laws.specs.States.{State, Runs, start}
use Rattle.mount_laws.specs.Steps.{Step, Task, after, is_lookup, births_by, applied}
use Rattle.mount_laws.proofs.Beside.{each_map, one_job}
use Rattle.mount_laws.proofs.Held.{holds_cover}
use Rattle.mount_laws.proofs.Moving.{quiet, run_case, stop_case}
use Rattle.mount_laws.proofs.Sharing.{cells_are, is_cell_refl, each_has}
use Rattle.mount_laws.proofs.Tables.{at_case}

-- ---- aspects

abbrev aspect_of : Content → Aspect
aspect_of (Bytes bytes) = aspect.Data
aspect_of (Meta mode attrs span) = aspect.Meta
aspect_of (Names removed items) = aspect.Entry

holds_its : (c : Content) → holds (aspect_of c) (Some c) ≡ true
holds_its (Bytes bytes) = refl
holds_its (Meta mode attrs span) = refl
holds_its (Names removed items) = refl

holds_some : (a : Aspect) (content : Option Content) → holds a content ≡ true → is_some content ≡ true
holds_some aspect.Data None h = absurd cc
holds_some aspect.Meta None h = absurd cc
holds_some aspect.Entry None h = absurd cc
holds_some a (Some c) h = refl

bytes_aspect : (f : List ℕ → List ℕ) (c : Content) → aspect_of (with_bytes_by f c) ≡ aspect_of c
bytes_aspect f (Bytes bytes) = refl
bytes_aspect f (Meta mode attrs span) = refl
bytes_aspect f (Names removed items) = refl

mode_aspect : (mode : ℕ) (c : Content) → aspect_of (with_mode mode c) ≡ aspect_of c
mode_aspect new (Bytes bytes) = refl
mode_aspect new (Meta mode attrs span) = refl
mode_aspect new (Names removed items) = refl

attrs_aspect : (f : List Attr → List Attr) (c : Content) → aspect_of (with_attrs_by f c) ≡ aspect_of c
attrs_aspect f (Bytes bytes) = refl
attrs_aspect f (Meta mode attrs span) = refl
attrs_aspect f (Names removed items) = refl

items_aspect : (f : List Item → List Item) (c : Content) → aspect_of (with_items_by f c) ≡ aspect_of c
items_aspect f (Bytes bytes) = refl
items_aspect f (Meta mode attrs span) = refl
items_aspect f (Names removed items) = refl

removed_aspect : (c : Content) → aspect_of (as_removed c) ≡ aspect_of c
removed_aspect (Bytes bytes) = refl
removed_aspect (Meta mode attrs span) = refl
removed_aspect (Names removed items) = refl

edited_aspect : (e : Edit) (c : Content) → aspect_of (edited e c) ≡ aspect_of c
edited_aspect (PutBytes offset bytes) c = bytes_aspect _ c
edited_aspect (Resize size) c = bytes_aspect _ c
edited_aspect (PutMode mode) c = mode_aspect mode c
edited_aspect (PutAttr attr) c = attrs_aspect _ c
edited_aspect (DropAttr name) c = attrs_aspect _ c
edited_aspect (PutItem item) c = items_aspect _ c
edited_aspect (DropItem name) c = items_aspect _ c
edited_aspect MarkRemoved c = removed_aspect c

-- ---- contents of their cells' aspects

abbrev IsTyped : Cell → Option Content → Type 0
IsTyped cell content = (c : Content) → content ≡ Some c → aspect_of c ≡ cell.aspect

abbrev AreTyped : Contents → Type 0
AreTyped contents = (cell : Cell) → IsTyped cell (contents cell)

unwrap : (a b : Content) → ◌≡◌ {A = Option Content} (Some a) (Some b) → a ≡ b
unwrap a b e = cc

edits_typed : (es : List (Cell × Edit)) (contents : Contents) → AreTyped contents → AreTyped (after_edits contents es)
edits_typed [] contents h = h
edits_typed (e ∷ es) contents h = edits_typed es (with_content contents e.0 (edited_if_present e.1 (contents e.0))) (λ cell. by_case cell (is_eq (cell_cmp cell e.0)) refl)
  where
    one : (old : Option Content) → IsTyped e.0 old → IsTyped e.0 (edited_if_present e.1 old)
    one None k = λ c f. absurd cc
    one (Some there) k = λ c f. ap aspect_of (sym (unwrap (edited e.1 there) c f)) ∙ edited_aspect e.1 there ∙ k there refl

    by_case : (cell : Cell) (b : Bool) → is_eq (cell_cmp cell e.0) ≡ b → IsTyped cell (if b then edited_if_present e.1 (contents e.0) else contents cell)
    by_case cell true same = subst (λ (x : Cell). IsTyped x (edited_if_present e.1 (contents e.0))) (sym (cells_are cell e.0 same)) (one (contents e.0) (h e.0))
    by_case cell false other = h cell

abbrev BirthsTyped : List (Cell × Content) → Type 0
BirthsTyped bs = Each (λ (b : Cell × Content). aspect_of b.1 ≡ b.0.aspect) bs

births_typed : (bs : List (Cell × Content)) (contents : Contents) → BirthsTyped bs → AreTyped contents → AreTyped (after_births contents bs)
births_typed [] contents bt h = h
births_typed (b ∷ bs) contents bt h = births_typed bs (with_content contents b.0 (born_if_absent b.1 (contents b.0))) bt.1 (λ cell. by_case cell (is_eq (cell_cmp cell b.0)) refl)
  where
    one : (old : Option Content) → IsTyped b.0 old → IsTyped b.0 (born_if_absent b.1 old)
    one None k = λ c f. ap aspect_of (sym (unwrap b.1 c f)) ∙ bt.0
    one (Some there) k = k

    by_case : (cell : Cell) (x : Bool) → is_eq (cell_cmp cell b.0) ≡ x → IsTyped cell (if x then born_if_absent b.1 (contents b.0) else contents cell)
    by_case cell true same = subst (λ (y : Cell). IsTyped y (born_if_absent b.1 (contents b.0))) (sym (cells_are cell b.0 same)) (one (contents b.0) (h b.0))
    by_case cell false other = h cell

op_births_typed : (o : StoreOp) → BirthsTyped (births o)
op_births_typed (op.AddName parent item mode span) = of_kind item.kind
  where
    of_kind : (k : Kind) → BirthsTyped (born k item.gfid mode span)
    of_kind kind.File = (refl, (refl, tt))
    of_kind kind.Dir = (refl, (refl, tt))
    of_kind kind.Link = tt
op_births_typed (op.MakeCopy gfid span) = (refl, (refl, tt))
op_births_typed (op.Write gfid offset bytes) = tt
op_births_typed (op.Truncate gfid size) = tt
op_births_typed (op.SetMode gfid mode) = tt
op_births_typed (op.SetAttr gfid attr) = tt
op_births_typed (op.DelAttr gfid name) = tt
op_births_typed (op.DropName parent name) = tt
op_births_typed (op.DropDir parent name gfid) = tt
op_births_typed (op.Move parent name target new_name) = tt

job_births_typed : (asked : Job) → BirthsTyped (births_by asked)
job_births_typed (job.Read cells fd dir) = tt
job_births_typed (job.Change cells fd o effect) = op_births_typed o
job_births_typed (job.Birth cells o) = op_births_typed o
job_births_typed (job.Open fd gfid) = tt
job_births_typed job.Index = tt
job_births_typed (job.Heal cell) = tt

applied_typed : (contents : Contents) (o : StoreOp) → AreTyped contents → AreTyped (applied contents o)
applied_typed contents o h cell = by_case (fits contents o)
  where
    by_case : (b : Bool) → IsTyped cell ((if b then contents_after contents o else contents) cell)
    by_case true = births_typed (births o) (after_edits contents (edits contents o)) (op_births_typed o) (edits_typed (edits contents o) contents h) cell
    by_case false = h cell

abbrev SetsTyped : SetContents → Type 0
SetsTyped adopted = (set : ℕ) → AreTyped (adopted set)

set_typed : (adopted : SetContents) (set : ℕ) (new : Contents) → AreTyped new → SetsTyped adopted → SetsTyped (with_at adopted set new)
set_typed adopted set new k a s = at_case (λ i (one : Contents). AreTyped one) adopted set new k s (λ differ. a s)

step_typed : (m : State) (step : Step) → Allowed m step → SetsTyped m.adopted → SetsTyped (after m step).adopted
step_typed m (Step.Settles t u true) h a = set_typed m.adopted (m.changes u).set _ (applied_typed (m.adopted (m.changes u).set) (m.changes u).op (a (m.changes u).set)) a
step_typed m (Step.Decides t u) h a = set_typed m.adopted (m.changes u).set _ (applied_typed (m.adopted (m.changes u).set) (m.changes u).op (a (m.changes u).set)) a
step_typed m (Step.SendsBirths t) h a = set_typed m.adopted t.set _ (births_typed (births_by t.job) (m.adopted t.set) (job_births_typed t.job) (a t.set)) a
step_typed m (Step.Settles t u false) h a = a
step_typed m (Step.BeginsChange t u) h a = a
step_typed m (Step.Submits draws) h a = a
step_typed m (Step.Concludes c) h a = a
step_typed m (Step.Switches names) h a = a
step_typed m (Step.Begins c f kept) h a = a
step_typed m (Step.EndsSettling t) h a = a
step_typed m (Step.ConfirmsBirths t) h a = a
step_typed m (Step.HandsIn t shown) h a = a
step_typed m (Step.Extends c run dir next) h a = a
step_typed m (Step.Releases c run gfid) h a = a
step_typed m (Step.Learns c run dir spans) h a = a
step_typed m (Step.Answers c run answer place) h a = a
step_typed m (Step.AnswersAbove c run answer) h a = a

-- each set begins with the root
start_typed : (first : List (List ℕ)) → SetsTyped (start first).adopted
start_typed first set cell = by_meta (is_cell cell (meta_cell root)) refl
  where
    by_names : (x : Bool) → is_cell cell (meta_cell root) ≡ false → is_cell cell (names_cell root) ≡ x → IsTyped cell (contents_of root_alone cell)
    by_names true e f = subst (λ (y : Cell). IsTyped y (contents_of root_alone y)) (sym (cells_are cell (names_cell root) f)) (λ c k. ap aspect_of (sym (unwrap (Names false []) c k)))
    by_names false e f = λ c k. absurd (let none : ◌≡◌ {A = Option Content} None (Some c) = rw (e, f) at k in cc)

    by_meta : (x : Bool) → is_cell cell (meta_cell root) ≡ x → IsTyped cell (contents_of root_alone cell)
    by_meta true e = subst (λ (y : Cell). IsTyped y (contents_of root_alone y)) (sym (cells_are cell (meta_cell root) e)) (λ c k. ap aspect_of (sym (unwrap (Meta 493 [] None) c k)))
    by_meta false e = by_names (is_cell cell (names_cell root)) e refl

sets_typed : (first : List (List ℕ)) (m : State) → IsReached first m → SetsTyped m.adopted
sets_typed first _ (IsReached.Start planned) = start_typed first
sets_typed first _ (IsReached.Further old step reached allowed) = step_typed old step allowed (sets_typed first old reached)

-- ---- what is present stays present

edits_present : (cell : Cell) (es : List (Cell × Edit)) (contents : Contents) → is_some (contents cell) ≡ true → is_some (after_edits contents es cell) ≡ true
edits_present cell [] contents h = h
edits_present cell (e ∷ es) contents h = edits_present cell es (with_content contents e.0 (edited_if_present e.1 (contents e.0))) (by_case (is_eq (cell_cmp cell e.0)) refl)
  where
    one : (old : Option Content) → is_some old ≡ true → is_some (edited_if_present e.1 old) ≡ true
    one None k = absurd cc
    one (Some there) k = refl

    by_case : (b : Bool) → is_eq (cell_cmp cell e.0) ≡ b → is_some (if b then edited_if_present e.1 (contents e.0) else contents cell) ≡ true
    by_case true same = one (contents e.0) (subst (λ (c : Cell). is_some (contents c) ≡ true) (cells_are cell e.0 same) h)
    by_case false other = h

born_some : (content : Content) (old : Option Content) → is_some (born_if_absent content old) ≡ true
born_some content None = refl
born_some content (Some there) = refl

births_present : (cell : Cell) (bs : List (Cell × Content)) (contents : Contents) → is_some (contents cell) ≡ true → is_some (after_births contents bs cell) ≡ true
births_present cell [] contents h = h
births_present cell (b ∷ bs) contents h = births_present cell bs (with_content contents b.0 (born_if_absent b.1 (contents b.0))) (by_case (is_eq (cell_cmp cell b.0)))
  where
    by_case : (x : Bool) → is_some (if x then born_if_absent b.1 (contents b.0) else contents cell) ≡ true
    by_case true = born_some b.1 (contents b.0)
    by_case false = h

-- the cells to which births give a content
births_there : (bs : List (Cell × Content)) (contents : Contents) → Each (λ (cell : Cell). is_some (after_births contents bs cell) ≡ true) (cells_of bs)
births_there [] contents = tt
births_there (b ∷ bs) contents = (
  births_present b.0 bs (with_content contents b.0 (born_if_absent b.1 (contents b.0)))
      (subst (λ (x : Bool). is_some (if x then born_if_absent b.1 (contents b.0) else contents b.0) ≡ true) (sym (is_cell_refl b.0)) (born_some b.1 (contents b.0))),
  births_there bs (with_content contents b.0 (born_if_absent b.1 (contents b.0))),
)

applied_present : (contents : Contents) (o : StoreOp) (cell : Cell) → is_some (contents cell) ≡ true → is_some (applied contents o cell) ≡ true
applied_present contents o cell h = by_case (fits contents o)
  where
    by_case : (b : Bool) → is_some ((if b then contents_after contents o else contents) cell) ≡ true
    by_case true = births_present cell (births o) (after_edits contents (edits contents o)) (edits_present cell (edits contents o) contents h)
    by_case false = h

abbrev pub Stays : SetContents → SetContents → Type 0
Stays old new = (set : ℕ) (cell : Cell) → is_some (old set cell) ≡ true → is_some (new set cell) ≡ true

set_stays : (adopted : SetContents) (set : ℕ) (new : Contents) → ((cell : Cell) → is_some (adopted set cell) ≡ true → is_some (new cell) ≡ true) → Stays adopted (with_at adopted set new)
set_stays adopted set new k s cell = at_case (λ i (one : Contents). is_some (adopted i cell) ≡ true → is_some (one cell) ≡ true) adopted set new (k cell) s (λ differ h. h)

pub step_stays : (m : State) (step : Step) → Allowed m step → Stays m.adopted (after m step).adopted
step_stays m (Step.Settles t u true) h = set_stays m.adopted (m.changes u).set _ (λ cell k. applied_present (m.adopted (m.changes u).set) (m.changes u).op cell k)
step_stays m (Step.Decides t u) h = set_stays m.adopted (m.changes u).set _ (λ cell k. applied_present (m.adopted (m.changes u).set) (m.changes u).op cell k)
step_stays m (Step.SendsBirths t) h = set_stays m.adopted t.set _ (λ cell k. births_present cell (births_by t.job) (m.adopted t.set) k)
step_stays m (Step.Settles t u false) h = λ set cell k. k
step_stays m (Step.BeginsChange t u) h = λ set cell k. k
step_stays m (Step.Submits draws) h = λ set cell k. k
step_stays m (Step.Concludes c) h = λ set cell k. k
step_stays m (Step.Switches names) h = λ set cell k. k
step_stays m (Step.Begins c f kept) h = λ set cell k. k
step_stays m (Step.EndsSettling t) h = λ set cell k. k
step_stays m (Step.ConfirmsBirths t) h = λ set cell k. k
step_stays m (Step.HandsIn t shown) h = λ set cell k. k
step_stays m (Step.Extends c run dir next) h = λ set cell k. k
step_stays m (Step.Releases c run gfid) h = λ set cell k. k
step_stays m (Step.Learns c run dir spans) h = λ set cell k. k
step_stays m (Step.Answers c run answer place) h = λ set cell k. k
step_stays m (Step.AnswersAbove c run answer) h = λ set cell k. k

-- ---- births that were sent

abbrev AreThere : SetContents → ℕ → Job → Type 0
AreThere adopted set asked = Each (λ (cell : Cell). is_some (adopted set cell) ≡ true) (cells_of_job asked)

abbrev BearsAt : SetContents → Run → Type 0
BearsAt adopted run = (set : ℕ) (asked : Job) (next : SetReply → Course) → run.stage ≡ Bearing → run.course ≡ Course.Asks set asked next → AreThere adopted set asked

abbrev BearsIn : State → Type 0
BearsIn m = (c : ℕ) (run : Run) → Runs m c run → BearsAt m.adopted run

sent : (m : State) (t : Task) → IsBirth t.job → IsHeldFor t.run.holds t.run.fop t.job → AreThere (with_at m.adopted t.set (after_births (m.adopted t.set) (births_by t.job))) t.set t.job
sent m t is held = of_job t.job is held
  where
    of_job : (asked : Job) → IsBirth asked → IsHeldFor t.run.holds t.run.fop asked → AreThere (with_at m.adopted t.set (after_births (m.adopted t.set) (births_by asked))) t.set asked
    of_job (job.Birth cells o) is k =
        subst (λ (one : Contents). Each (λ (cell : Cell). is_some (one cell) ≡ true) cells) (sym (at_same m.adopted t.set (after_births (m.adopted t.set) (births o))))
        (subst (λ (cs : List Cell). Each (λ (cell : Cell). is_some (after_births (m.adopted t.set) (births o) cell) ≡ true) cs) (sym k.1.0) (births_there (births o) (m.adopted t.set)))
    of_job (job.Read cells fd dir) is k = absurd is
    of_job (job.Change cells fd o effect) is k = absurd is
    of_job (job.Open fd gfid) is k = absurd is
    of_job job.Index is k = absurd is
    of_job (job.Heal cell) is k = absurd is

there_stays : (old new : SetContents) → Stays old new → (set : ℕ) (asked : Job) → AreThere old set asked → AreThere new set asked
there_stays old new stays set asked a = each_map (λ (cell : Cell). is_some (old set cell) ≡ true) (λ (cell : Cell). is_some (new set cell) ≡ true) (cells_of_job asked) (λ cell k. stays set cell k) a

bears_stay : (old new : SetContents) → Stays old new → (run : Run) → BearsAt old run → BearsAt new run
bears_stay old new stays run a = λ set asked next e f. there_stays old new stays set asked (a set asked next e f)

step_bears : (first : List (List ℕ)) (m : State) (step : Step) → IsReached first m → Allowed m step → BearsIn m → BearsIn (after m step)
step_bears first m (Step.Submits draws) reached h a = stop_case (λ c (run : Run). BearsAt m.adopted run) m.calls (m.submitted + 1) _ (λ run e. absurd cc) a
step_bears first m (Step.Concludes c) reached h a = stop_case (λ d (run : Run). BearsAt m.adopted run) m.calls c _ (λ run e. absurd cc) a
step_bears first m (Step.Switches names) reached h a = a
step_bears first m (Step.Begins c f kept) reached h a = run_case (λ d (run : Run). BearsAt m.adopted run) m.calls c _ (λ set asked next e. absurd cc) (λ i other differ e. a i other e)
step_bears first m (Step.Settles t u true) reached h a =
    run_case (λ d (run : Run). BearsAt (after m (Step.Settles t u true)).adopted run) m.calls t.call _ (bears_stay m.adopted _ (step_stays m (Step.Settles t u true) h) t.run (a t.call t.run h.under_way.runs))
    (λ i other differ e. bears_stay m.adopted _ (step_stays m (Step.Settles t u true) h) other (a i other e))
step_bears first m (Step.Settles t u false) reached h a = run_case (λ d (run : Run). BearsAt m.adopted run) m.calls t.call _ (a t.call t.run h.under_way.runs) (λ i other differ e. a i other e)
step_bears first m (Step.EndsSettling t) reached h a = run_case (λ d (run : Run). BearsAt m.adopted run) m.calls t.call _ (λ set asked next e. absurd cc) (λ i other differ e. a i other e)
step_bears first m (Step.BeginsChange t u) reached h a = run_case (λ d (run : Run). BearsAt m.adopted run) m.calls t.call _ (λ set asked next e. absurd cc) (λ i other differ e. a i other e)
step_bears first m (Step.Decides t u) reached h a =
    run_case (λ d (run : Run). BearsAt (after m (Step.Decides t u)).adopted run) m.calls t.call _ (λ set asked next e. absurd cc)
    (λ i other differ e. bears_stay m.adopted _ (step_stays m (Step.Decides t u) h) other (a i other e))
step_bears first m (Step.SendsBirths t) reached h a =
    run_case (λ d (run : Run). BearsAt (after m (Step.SendsBirths t)).adopted run) m.calls t.call _
    (λ set asked next e f. let same = one_job t.run.course t.set set t.job asked t.next next h.under_way.asks f in
    subst (λ (s : ℕ). AreThere (after m (Step.SendsBirths t)).adopted s asked) same.set_is
    (subst (λ (j : Job). AreThere (after m (Step.SendsBirths t)).adopted t.set j) same.job_is
    (sent m t h.is_birth ((holds_cover first m reached).asked t.call t.run t.set t.job t.next h.under_way.runs h.under_way.asks))))
    (λ i other differ e. bears_stay m.adopted _ (step_stays m (Step.SendsBirths t) h) other (a i other e))
step_bears first m (Step.ConfirmsBirths t) reached h a = run_case (λ d (run : Run). BearsAt m.adopted run) m.calls t.call _ (λ set asked next e. absurd cc) (λ i other differ e. a i other e)
step_bears first m (Step.HandsIn t shown) reached h a = run_case (λ d (run : Run). BearsAt m.adopted run) m.calls t.call _ (λ set asked next e. absurd cc) (λ i other differ e. a i other e)
step_bears first m (Step.Extends c run dir next) reached h a = run_case (λ d (one : Run). BearsAt m.adopted one) m.calls c _ (λ set asked later e. absurd cc) (λ i other differ e. a i other e)
step_bears first m (Step.Releases c run gfid) reached h a = run_case (λ d (one : Run). BearsAt m.adopted one) m.calls c _ (a c run h.runs) (λ i other differ e. a i other e)
step_bears first m (Step.Learns c run dir spans) reached h a = a
step_bears first m (Step.Answers c run answer place) reached h a = stop_case (λ d (one : Run). BearsAt m.adopted one) m.calls c _ (λ other e. quiet (is_lookup run.fop) answer other e) a
step_bears first m (Step.AnswersAbove c run answer) reached h a = stop_case (λ d (one : Run). BearsAt m.adopted one) m.calls c _ (λ other e. quiet (is_lookup run.fop) (fop_answer.Call answer) other e) a

bears_in : (first : List (List ℕ)) (m : State) → IsReached first m → BearsIn m
bears_in first _ (IsReached.Start planned) = λ c run runs. absurd cc
bears_in first _ (IsReached.Further old step reached allowed) = step_bears first old step reached allowed (bears_in first old reached)

-- ---- firm cells

abbrev pub FirmSome : (ℕ → Cell → Bool) → SetContents → Type 0
FirmSome firm adopted = (set : ℕ) (cell : Cell) → firm set cell ≡ true → is_some (adopted set cell) ≡ true

firm_stays : (firm : ℕ → Cell → Bool) (old new : SetContents) → Stays old new → FirmSome firm old → FirmSome firm new
firm_stays firm old new stays a set cell f = stays set cell (a set cell f)

-- cells that are present are firm from now on
firm_more : (firm : ℕ → Cell → Bool) (adopted : SetContents) (set : ℕ) (cells : List Cell) → Each (λ (cell : Cell). is_some (adopted set cell) ≡ true) cells → FirmSome firm adopted → FirmSome (with_at firm set (λ (cell : Cell). has_cell cells cell || firm set cell)) adopted
firm_more firm adopted set cells there a s cell =
    at_case (λ i (one : Cell → Bool). one cell ≡ true → is_some (adopted i cell) ≡ true) firm set (λ (c : Cell). has_cell cells c || firm set c) (λ h. by_case (has_cell cells cell) refl h) s (λ differ h. a s cell h)
  where
    by_case : (b : Bool) → has_cell cells cell ≡ b → (b || firm set cell) ≡ true → is_some (adopted set cell) ≡ true
    by_case true has h = each_has (λ (c : Cell). is_some (adopted set c) ≡ true) cells cell there has
    by_case false none h = a set cell h

present_some : (contents : Contents) (cells : List Cell) → are_present contents cells ≡ true → Each (λ (cell : Cell). is_some (contents cell) ≡ true) cells
present_some contents [] h = tt
present_some contents (cell ∷ cells) h = by_case (holds cell.aspect (contents cell)) refl (λ k. present_some contents cells k) h
  where
    by_case : (b : Bool) → holds cell.aspect (contents cell) ≡ b → (are_present contents cells ≡ true → Each (λ (c : Cell). is_some (contents c) ≡ true) cells) → (if b then are_present contents cells else false) ≡ true
        → Each (λ (c : Cell). is_some (contents c) ≡ true) (cell ∷ cells)
    by_case true e rest k = (holds_some cell.aspect (contents cell) e, rest k)
    by_case false e rest k = absurd cc

step_firm : (first : List (List ℕ)) (m : State) (step : Step) → IsReached first m → Allowed m step → FirmSome m.firm m.adopted → FirmSome (after m step).firm (after m step).adopted
step_firm first m (Step.BeginsChange t u) reached h a = firm_more m.firm m.adopted t.set (cells_of_job t.job) (present_some (m.adopted t.set) (cells_of_job t.job) h.present) a
step_firm first m (Step.ConfirmsBirths t) reached h a = firm_more m.firm m.adopted t.set (cells_of_job t.job) (bears_in first m reached t.call t.run h.under_way.runs t.set t.job t.next h.turn h.under_way.asks) a
step_firm first m (Step.Settles t u true) reached h a = firm_stays m.firm m.adopted _ (step_stays m (Step.Settles t u true) h) a
step_firm first m (Step.Decides t u) reached h a = firm_stays m.firm m.adopted _ (step_stays m (Step.Decides t u) h) a
step_firm first m (Step.SendsBirths t) reached h a = firm_stays m.firm m.adopted _ (step_stays m (Step.SendsBirths t) h) a
step_firm first m (Step.Settles t u false) reached h a = a
step_firm first m (Step.Submits draws) reached h a = a
step_firm first m (Step.Concludes c) reached h a = a
step_firm first m (Step.Switches names) reached h a = a
step_firm first m (Step.Begins c f kept) reached h a = a
step_firm first m (Step.EndsSettling t) reached h a = a
step_firm first m (Step.HandsIn t shown) reached h a = a
step_firm first m (Step.Extends c run dir next) reached h a = a
step_firm first m (Step.Releases c run gfid) reached h a = a
step_firm first m (Step.Learns c run dir spans) reached h a = a
step_firm first m (Step.Answers c run answer place) reached h a = a
step_firm first m (Step.AnswersAbove c run answer) reached h a = a

start_firm : (first : List (List ℕ)) → FirmSome (start first).firm (start first).adopted
start_firm first set cell = by_meta (is_cell cell (meta_cell root)) refl
  where
    by_names : (x : Bool) → is_cell cell (meta_cell root) ≡ false → is_cell cell (names_cell root) ≡ x → (start first).firm set cell ≡ true → is_some (contents_of root_alone cell) ≡ true
    by_names true e f k = rw (e, f) refl
    by_names false e f k = absurd (let clash : false ≡ true = rw (e, f) at k in cc)

    by_meta : (x : Bool) → is_cell cell (meta_cell root) ≡ x → (start first).firm set cell ≡ true → is_some (contents_of root_alone cell) ≡ true
    by_meta true e k = rw e refl
    by_meta false e k = by_names (is_cell cell (names_cell root)) e refl k

pub firm_some : (first : List (List ℕ)) (m : State) → IsReached first m → FirmSome m.firm m.adopted
firm_some first _ (IsReached.Start planned) = start_firm first
firm_some first _ (IsReached.Further old step reached allowed) = step_firm first old step reached allowed (firm_some first old reached)

-- a content of the cell's aspect
typed_holds : (cell : Cell) (content : Option Content) → IsTyped cell content → is_some content ≡ true → holds cell.aspect content ≡ true
typed_holds cell None typed h = absurd cc
typed_holds cell (Some c) typed h = subst (λ (a : Aspect). holds a (Some c) ≡ true) (typed c refl) (holds_its c)

pub firm_present : (first : List (List ℕ)) (m : State) → IsReached first m → FirmIsPresent m
firm_present first m reached = λ set cell f. typed_holds cell (m.adopted set cell) (sets_typed first m reached set cell) (firm_some first m reached set cell f)
