-- What a fop's reads showed still is adopted, but for cells of the fop's own changes.
use Rattle.std.proofs.Common.{◌≡◌, ◌≢◌, ◌⊎◌, inl, inr, ◌∙◌, ℕ, Bool, true, false, ◌||◌, refl, sym, ap, subst, List, [], ◌∷◌, Option, Some, None}
use Rattle.afr_machine.specs.Changes.{Verdict}
use Rattle.afr_machine.specs.Changes.Verdict.{Undrawn, Unsettled, Adopted, Dropped}
use Rattle.afr_machine.specs.Replicas.{with_at}
use Rattle.afr_machine.specs.Touching.{is_cell, has_cell}
use Rattle.dht_fops.specs.Handed.{Handed, Event}
use Rattle.dht_fops.specs.Handed.Event.{Replied, Held}
use Rattle.dht_fops.specs.Shown.{SetContents}
use Rattle.dht_fops.specs.Standing.{StillShown, StillIs, HaveContents, HasContent}
use Rattle.fop_types.specs.Bounds.{Each}
use Rattle.fop_types.specs.Jobs.{may_lack, IsAnsweredBy, IsContentOf, AreContentsOf}
use Rattle.fop_types.specs.StoreOps.{Contents, after_births}
use Rattle.fop_types.specs.declared.cells.Cell.{Cell}
use Rattle.fop_types.specs.declared.contents.Content.{Content}
use Rattle.fop_types.specs.declared.jobs.Job.{Job}
use Rattle.fop_types.specs.declared.jobs.Job.TheVariants as job
use Rattle.fop_types.specs.declared.jobs.SetReply.{SetReply}
use Rattle.fop_types.specs.declared.jobs.SetReply.TheVariants as reply
use Rattle.mount_laws.specs.Guards.{Allowed, IsReached, MayHandIn, IsReply, IsShown, AreShown, IsOpen}
use Rattle.mount_laws.specs.Guards.IsReply.{Shows, Enters, Fails, Opens}
use Rattle.mount_laws.specs.Runs.{Run, SettledJob}
use Rattle.mount_laws.specs.Seeing.{IsListed, WasSettled}
use Rattle.mount_laws.specs.Settling.{HasNoNames, StaysOrBorn, IsSettledJob, TouchedIsFirm}
use Rattle.mount_laws.specs.States.{State, Change, Runs}
use Rattle.mount_laws.specs.Steps.{Step, Task, after, adopting, applied, births_by, change_by}
use Rattle.mount_laws.proofs.Beside.{each_beside}
use Rattle.mount_laws.proofs.Contents.{applied_leaves, births_leave}
use Rattle.mount_laws.proofs.Firm.{are_whole, firm_touched, jobs_have_none}
use Rattle.mount_laws.proofs.Sharing.{shared_cell, is_cell_refl, or_right}
use Rattle.mount_laws.proofs.Tables.{at_case}
use Rattle.mount_shown.proofs.Moving.{every_handed}
use Rattle.mount_shown.proofs.Planned.{IsReadListed, AreReadsListed, reads_listed}

-- ---- cells of a fop's own changes

pub record TouchesCell (change : Change) (c set : ℕ) (cell : Cell) : Type 0 where
  pub by : change.by ≡ c
  pub begun : change.verdict ≢ Undrawn
  pub on_set : change.set ≡ set
  pub has : has_cell change.cells cell ≡ true

-- a change of the call that was begun is of the cell
pub record IsTouched (changes : ℕ → Change) (c set : ℕ) (cell : Cell) : Type 0 where
  pub change : ℕ
  pub touches : TouchesCell (changes change) c set cell

decided_touched : (changes : ℕ → Change) (u : ℕ) (verdict : Verdict) → verdict ≢ Undrawn → (c set : ℕ) (cell : Cell) → IsTouched changes c set cell → IsTouched (with_at changes u (record (changes u) { verdict = verdict })) c set cell
decided_touched changes u verdict drawn c set cell k = record {
  change = k.change;
  touches = at_case (λ i (one : Change). TouchesCell (changes i) c set cell → TouchesCell one c set cell) changes u (record (changes u) { verdict = verdict })
      (λ t. record { by = t.by; begun = drawn; on_set = t.on_set; has = t.has }) k.change (λ differ t. t) k.touches;
}

begun_touched : (changes : ℕ → Change) (u : ℕ) (new : Change) → (changes u).verdict ≡ Undrawn → (c set : ℕ) (cell : Cell) → IsTouched changes c set cell → IsTouched (with_at changes u new) c set cell
begun_touched changes u new fresh c set cell k = record {
  change = k.change;
  touches = at_case (λ i (one : Change). TouchesCell (changes i) c set cell → TouchesCell one c set cell) changes u new
      (λ t. absurd (t.begun fresh)) k.change (λ differ t. t) k.touches;
}

-- a set's cell stays or is born, or is of an own change
abbrev pub Moves : SetContents → SetContents → (ℕ → Change) → ℕ → ℕ → Cell → Type 0
Moves old new changes c set cell = StaysOrBorn (old set cell) (new set cell) ⊎ IsTouched changes c set cell

-- what adopting a change makes of a cell that a fop has settled
settled_moves : (first : List (List ℕ)) (m : State) → IsReached first m → (c : ℕ) (run : Run) (u : ℕ) → Runs m c run → (m.changes u).verdict ≡ Unsettled → (set : ℕ) (cell : Cell) → WasSettled run.settled set cell → Moves m.adopted (adopting m u).adopted m.changes c set cell
settled_moves first m reached c run u runs was set cell seen =
    at_case (λ i (one : Contents). i ≡ set → StaysOrBorn (m.adopted i cell) (one cell) ⊎ IsTouched m.changes c set cell) m.adopted (m.changes u).set (applied (m.adopted (m.changes u).set) (m.changes u).op)
    (λ same. by_touch (has_cell (m.changes u).cells cell) refl same) set (λ differ same. inl (inl refl)) refl
  where
    drawn : (m.changes u).verdict ≢ Undrawn
    drawn e = let clash : Unsettled ≡ Undrawn = sym was ∙ e in absurd cc

    each_listed : (jobs : List SettledJob) → Each (IsSettledJob c (m.changes u)) jobs → IsListed jobs (record { set = set; cells = seen.cells }) → IsSettledJob c (m.changes u) (record { set = set; cells = seen.cells })
    each_listed [] e l = absurd l
    each_listed (one ∷ jobs) e (inl same) = subst (IsSettledJob c (m.changes u)) same e.0
    each_listed (one ∷ jobs) e (inr l) = each_listed jobs e.1 l

    own : (m.changes u).set ≡ set → has_cell (m.changes u).cells cell ≡ true → (m.changes u).by ≡ c
    own same has = each_listed run.settled ((each_beside first m reached).running c run runs u).settled seen.listed (record { verdict = was; on_set = same; touches = shared_cell (m.changes u).cells seen.cells cell has seen.has })

    by_touch : (b : Bool) → has_cell (m.changes u).cells cell ≡ b → (m.changes u).set ≡ set → StaysOrBorn (m.adopted (m.changes u).set cell) (applied (m.adopted (m.changes u).set) (m.changes u).op cell) ⊎ IsTouched m.changes c set cell
    by_touch true e same = inr (record { change = u; touches = record { by = own same e; begun = drawn; on_set = same; has = e } })
    by_touch false e same = inl (applied_leaves (m.adopted (m.changes u).set) (m.changes u).op cell (subst (λ (cells : List Cell). has_cell cells cell ≡ false) (are_whole first m reached u drawn) e))

born_moves : (m : State) (t : Task) (c set : ℕ) (cell : Cell) → Moves m.adopted (with_at m.adopted t.set (after_births (m.adopted t.set) (births_by t.job))) m.changes c set cell
born_moves m t c set cell =
    inl (at_case (λ i (one : Contents). StaysOrBorn (m.adopted i cell) (one cell)) m.adopted t.set (after_births (m.adopted t.set) (births_by t.job)) (births_leave (births_by t.job) (m.adopted t.set) cell (jobs_have_none t.job)) set (λ differ. inl refl))

-- ---- what was shown

abbrev pub IsSameStill : Option Content → Option Content → Type 0
IsSameStill now shown = (now ≡ shown) ⊎ ((shown ≡ None) × HasNoNames now)

pub record CellStands (adopted : SetContents) (changes : ℕ → Change) (c : ℕ) (may : Bool) (set : ℕ) (cell : Cell) (shown : Option Content) : Type 0 where
  pub content : IsSameStill (adopted set cell) shown ⊎ IsTouched changes c set cell
  pub lacks : shown ≡ None → may ≡ true

abbrev pub CellsStand : SetContents → (ℕ → Change) → ℕ → Bool → ℕ → List Cell → List (Option Content) → Type 0
CellsStand adopted changes c may set [] [] = Unit {0}
CellsStand adopted changes c may set [] (shown ∷ more) = ⊥
CellsStand adopted changes c may set (cell ∷ cells) [] = ⊥
CellsStand adopted changes c may set (cell ∷ cells) (shown ∷ more) = CellStands adopted changes c may set cell shown × CellsStand adopted changes c may set cells more

abbrev pub ReplyStands : SetContents → (ℕ → Change) → ℕ → Bool → ℕ → List Cell → SetReply → Type 0
ReplyStands adopted changes c may set cells (reply.Contents shown place) = CellsStand adopted changes c may set cells shown
ReplyStands adopted changes c may set cells (reply.Decided number) = ⊥
ReplyStands adopted changes c may set cells reply.Opened = ⊥
ReplyStands adopted changes c may set cells (reply.Listed listed answered short) = ⊥
ReplyStands adopted changes c may set cells (reply.Healed records) = ⊥
ReplyStands adopted changes c may set cells (reply.Skipped cause) = ⊥
ReplyStands adopted changes c may set cells (reply.Io error) = Unit {0}

abbrev pub EventStands : SetContents → (ℕ → Change) → ℕ → Event → Type 0
EventStands adopted changes c (Held dir) = Unit {0}
EventStands adopted changes c (Replied set (job.Read cells fd dir) shown) = ReplyStands adopted changes c (may_lack set dir) set cells shown
EventStands adopted changes c (Replied set (job.Change cells fd o effect) shown) = Unit {0}
EventStands adopted changes c (Replied set (job.Birth cells o) shown) = Unit {0}
EventStands adopted changes c (Replied set (job.Open fd gfid) shown) = Unit {0}
EventStands adopted changes c (Replied set job.Index shown) = Unit {0}
EventStands adopted changes c (Replied set (job.Heal cell) shown) = Unit {0}

abbrev pub HandedStands : SetContents → (ℕ → Change) → ℕ → Handed → Type 0
HandedStands adopted changes c [] = Unit {0}
HandedStands adopted changes c (event ∷ handed) = EventStands adopted changes c event × HandedStands adopted changes c handed

-- ---- it goes on

module _ (old new : SetContents) (was now : ℕ → Change) (c : ℕ) (more : (set : ℕ) (cell : Cell) → IsTouched was c set cell → IsTouched now c set cell) where
  one_goes : (may : Bool) (set : ℕ) (cell : Cell) (shown : Option Content) → Moves old new was c set cell → CellStands old was c may set cell shown → CellStands new now c may set cell shown
  one_goes may set cell shown moves a = record { content = by_cases moves a.content; lacks = a.lacks }
    where
      stays : StaysOrBorn (old set cell) (new set cell) → IsSameStill (old set cell) shown → IsSameStill (new set cell) shown
      stays (inl e) (inl f) = inl (e ∙ f)
      stays (inl e) (inr g) = inr (g.0, subst HasNoNames (sym e) g.1)
      stays (inr g) (inl f) = inr (sym f ∙ g.0, g.1)
      stays (inr g) (inr k) = inr (k.0, g.1)

      by_cases : Moves old new was c set cell → IsSameStill (old set cell) shown ⊎ IsTouched was c set cell → IsSameStill (new set cell) shown ⊎ IsTouched now c set cell
      by_cases (inl s) (inl k) = inl (stays s k)
      by_cases (inr t) k = inr (more set cell t)
      by_cases (inl s) (inr t) = inr (more set cell t)

  all_go : (may : Bool) (set : ℕ) (all cells : List Cell) (shown : List (Option Content)) → ((cell : Cell) → has_cell cells cell ≡ true → has_cell all cell ≡ true) → ((cell : Cell) → has_cell all cell ≡ true → Moves old new was c set cell)
      → CellsStand old was c may set cells shown → CellsStand new now c may set cells shown
  all_go may set all [] [] within moves a = tt
  all_go may set all [] (x ∷ shown) within moves a = absurd a
  all_go may set all (cell ∷ cells) [] within moves a = absurd a
  all_go may set all (cell ∷ cells) (x ∷ shown) within moves a = (
    one_goes may set cell x (moves cell (within cell (ap (λ b. b || has_cell cells cell) (is_cell_refl cell)))) a.0,
    all_go may set all cells shown (λ other k. within other (or_right (is_cell other cell) (has_cell cells other) k)) moves a.1,
  )

  events_go : (jobs : List SettledJob) (handed : Handed) → AreReadsListed jobs handed → ((set : ℕ) (cell : Cell) → WasSettled jobs set cell → Moves old new was c set cell) → HandedStands old was c handed → HandedStands new now c handed
  events_go jobs [] listed moves a = tt
  events_go jobs (event ∷ handed) listed moves a = (one event listed.0 a.0, events_go jobs handed listed.1 moves a.1)
    where
      one : (e : Event) → IsReadListed jobs e → EventStands old was c e → EventStands new now c e
      one (Replied set (job.Read cells fd dir) (reply.Contents contents place)) l k = all_go (may_lack set dir) set cells cells contents (λ cell h. h) (λ cell h. moves set cell (record { cells = cells; listed = l; has = h })) k
      one (Replied set (job.Read cells fd dir) (reply.Decided number)) l k = k
      one (Replied set (job.Read cells fd dir) reply.Opened) l k = k
      one (Replied set (job.Read cells fd dir) (reply.Listed listed2 answered short)) l k = k
      one (Replied set (job.Read cells fd dir) (reply.Healed records)) l k = k
      one (Replied set (job.Read cells fd dir) (reply.Skipped cause)) l k = k
      one (Replied set (job.Read cells fd dir) (reply.Io error)) l k = k
      one (Replied set (job.Change cells fd o effect) shown) l k = k
      one (Replied set (job.Birth cells o) shown) l k = k
      one (Replied set (job.Open fd gfid) shown) l k = k
      one (Replied set job.Index shown) l k = k
      one (Replied set (job.Heal cell) shown) l k = k
      one (Held dir) l k = k

-- ---- each step

stays_stand : (first : List (List ℕ)) (m : State) (step : Step) → IsReached first m → Allowed m step → (c : ℕ) (run : Run) → Runs m c run → HandedStands m.adopted m.changes c run.handed → HandedStands (after m step).adopted (after m step).changes c run.handed
stays_stand first m (Step.Settles t u true) reached h c run runs a =
    events_go m.adopted (adopting m u).adopted m.changes _ c (λ set cell k. decided_touched m.changes u Adopted (λ e. absurd cc) c set cell k) run.settled run.handed (reads_listed first m reached c run runs) (settled_moves first m reached c run u runs h.unsettled.verdict) a
stays_stand first m (Step.Settles t u false) reached h c run runs a =
    events_go m.adopted m.adopted m.changes _ c (λ set cell k. decided_touched m.changes u Dropped (λ e. absurd cc) c set cell k) run.settled run.handed (reads_listed first m reached c run runs) (λ set cell w. inl (inl refl)) a
stays_stand first m (Step.Decides t u) reached h c run runs a =
    events_go m.adopted (adopting m u).adopted m.changes _ c (λ set cell k. decided_touched m.changes u Adopted (λ e. absurd cc) c set cell k) run.settled run.handed (reads_listed first m reached c run runs) (settled_moves first m reached c run u runs h.unsettled) a
stays_stand first m (Step.BeginsChange t u) reached h c run runs a =
    events_go m.adopted m.adopted m.changes _ c (λ set cell k. begun_touched m.changes u (change_by t.call t.set t.job) h.fresh c set cell k) run.settled run.handed (reads_listed first m reached c run runs) (λ set cell w. inl (inl refl)) a
stays_stand first m (Step.SendsBirths t) reached h c run runs a =
    events_go m.adopted _ m.changes m.changes c (λ set cell k. k) run.settled run.handed (reads_listed first m reached c run runs) (λ set cell w. born_moves m t c set cell) a
stays_stand first m (Step.Submits draws) reached h c run runs a = a
stays_stand first m (Step.Concludes d) reached h c run runs a = a
stays_stand first m (Step.Switches names) reached h c run runs a = a
stays_stand first m (Step.Begins d f kept) reached h c run runs a = a
stays_stand first m (Step.EndsSettling t) reached h c run runs a = a
stays_stand first m (Step.ConfirmsBirths t) reached h c run runs a = a
stays_stand first m (Step.HandsIn t shown) reached h c run runs a = a
stays_stand first m (Step.Extends d one dir next) reached h c run runs a = a
stays_stand first m (Step.Releases d one gfid) reached h c run runs a = a
stays_stand first m (Step.Learns d one dir spans) reached h c run runs a = a
stays_stand first m (Step.Answers d one answer place) reached h c run runs a = a
stays_stand first m (Step.AnswersAbove d one answer) reached h c run runs a = a

-- a read shows what is adopted
shown_stand : (m : State) → TouchedIsFirm m → (c set : ℕ) (dir : Bool) (cells : List Cell) (contents : List (Option Content)) → AreShown m set dir cells contents → AreContentsOf (may_lack set dir) cells contents → CellsStand m.adopted m.changes c (may_lack set dir) set cells contents
shown_stand m firm c set dir [] [] shown fitting = tt
shown_stand m firm c set dir [] (content ∷ contents) shown fitting = absurd shown
shown_stand m firm c set dir (cell ∷ cells) [] shown fitting = absurd shown
shown_stand m firm c set dir (cell ∷ cells) (content ∷ contents) shown fitting = (record { content = inl (by_cases shown.0); lacks = λ none. may content none fitting.0 }, shown_stand m firm c set dir cells contents shown.1 fitting.1)
  where
    by_cases : IsShown m set dir cell content → IsSameStill (m.adopted set cell) content
    by_cases (inl e) = inl e
    by_cases (inr l) = inr (l.nothing, firm.no_names set cell l.unconfirmed)

    may : (one : Option Content) → one ≡ None → IsContentOf (may_lack set dir) cell one → may_lack set dir ≡ true
    may None e h = h
    may (Some there) e h = absurd cc

reply_stands : (first : List (List ℕ)) (m : State) → IsReached first m → (t : Task) (shown : SetReply) → MayHandIn m t shown → EventStands m.adopted m.changes t.call (Replied t.set t.job shown)
reply_stands first m reached t shown h = by_reply shown h.is_reply h.fitting.answered
  where
    other : (asked : Job) (one : SetReply) → ((cells : List Cell) (fd : ℕ) (dir : Bool) → asked ≡ job.Read cells fd dir → ReplyStands m.adopted m.changes t.call (may_lack t.set dir) t.set cells one) → EventStands m.adopted m.changes t.call (Replied t.set asked one)
    other (job.Read cells fd dir) one k = k cells fd dir refl
    other (job.Change cells fd o effect) one k = tt
    other (job.Birth cells o) one k = tt
    other (job.Open fd gfid) one k = tt
    other job.Index one k = tt
    other (job.Heal cell) one k = tt

    no_read : (asked : Job) (cells : List Cell) (fd : ℕ) (dir : Bool) → IsOpen asked → asked ≡ job.Read cells fd dir → ⊥
    no_read asked cells fd dir is e = subst (λ (x : Job). IsOpen x) e is

    by_reply : (one : SetReply) → IsReply m t one → IsAnsweredBy t.set h.fitting.quorum t.job one → EventStands m.adopted m.changes t.call (Replied t.set t.job one)
    by_reply _ (Shows cells fd dir contents place is stage seen) fitting =
        subst (λ (asked : Job). EventStands m.adopted m.changes t.call (Replied t.set asked (reply.Contents contents place))) (sym is)
        (shown_stand m (firm_touched first m reached) t.call t.set dir cells contents seen (subst (λ (asked : Job). IsAnsweredBy t.set h.fitting.quorum asked (reply.Contents contents place)) is fitting))
    by_reply _ (Enters number stage) fitting =
        other t.job (reply.Decided number) (λ cells fd dir is. absurd (subst (λ (asked : Job). IsAnsweredBy t.set h.fitting.quorum asked (reply.Decided number)) is fitting))
    by_reply _ (Fails error stage) fitting = other t.job (reply.Io error) (λ cells fd dir is. tt)
    by_reply one (Opens _ is) fitting = other t.job one (λ cells fd dir e. absurd (no_read t.job cells fd dir is e))

pub handed_stands : (first : List (List ℕ)) (m : State) → IsReached first m → (c : ℕ) (run : Run) → Runs m c run → HandedStands m.adopted m.changes c run.handed
handed_stands first =
    every_handed first (λ m c (handed : Handed). HandedStands m.adopted m.changes c handed) (λ m c. tt) (stays_stand first)
    (λ m t shown reached h a. (reply_stands first m reached t shown h, a)) (λ m c run dir next reached h a. (tt, a))

-- ---- where the fop has begun no change

module _ (adopted : SetContents) (changes : ℕ → Change) (c : ℕ) (none : (u : ℕ) → (changes u).by ≡ c → (changes u).verdict ≡ Undrawn) where
  untouched : (set : ℕ) (cell : Cell) → IsTouched changes c set cell → ⊥
  untouched set cell k = k.touches.begun (none k.change k.touches.by)

  cells_still : (may : Bool) (set : ℕ) (cells : List Cell) (shown : List (Option Content)) → CellsStand adopted changes c may set cells shown → HaveContents may (adopted set) cells shown
  cells_still may set [] [] a = tt
  cells_still may set [] (x ∷ shown) a = absurd a
  cells_still may set (cell ∷ cells) [] a = absurd a
  cells_still may set (cell ∷ cells) (x ∷ shown) a = (one may x a.0.lacks (by_touch a.0.content), cells_still may set cells shown a.1)
    where
      by_touch : IsSameStill (adopted set cell) x ⊎ IsTouched changes c set cell → IsSameStill (adopted set cell) x
      by_touch (inl k) = k
      by_touch (inr t) = absurd (untouched set cell t)

      one : (b : Bool) (y : Option Content) → (y ≡ None → b ≡ true) → IsSameStill (adopted set cell) y → HasContent b (adopted set cell) y
      one false y lacks (inl e) = e
      one false y lacks (inr g) = let clash : false ≡ true = lacks g.0 in absurd cc
      one true None lacks (inl e) = subst (λ (o : Option Content). HasContent true o None) (sym e) (record { items = refl; kept = refl })
      one true None lacks (inr g) = record { items = g.1.none; kept = g.1.kept }
      one true (Some content) lacks (inl e) = e
      one true (Some content) lacks (inr g) = absurd cc

  pub still_shown : (handed : Handed) → HandedStands adopted changes c handed → StillShown adopted handed
  still_shown [] a = tt
  still_shown (event ∷ handed) a = (one event a.0, still_shown handed a.1)
    where
      one : (e : Event) → EventStands adopted changes c e → StillIs adopted e
      one (Replied set (job.Read cells fd dir) (reply.Contents contents place)) k = cells_still (may_lack set dir) set cells contents k
      one (Replied set (job.Read cells fd dir) (reply.Decided number)) k = k
      one (Replied set (job.Read cells fd dir) reply.Opened) k = k
      one (Replied set (job.Read cells fd dir) (reply.Listed listed answered short)) k = k
      one (Replied set (job.Read cells fd dir) (reply.Healed records)) k = k
      one (Replied set (job.Read cells fd dir) (reply.Skipped cause)) k = k
      one (Replied set (job.Read cells fd dir) (reply.Io error)) k = k
      one (Replied set (job.Change cells fd o effect) shown) k = k
      one (Replied set (job.Birth cells o) shown) k = k
      one (Replied set (job.Open fd gfid) shown) k = k
      one (Replied set job.Index shown) k = k
      one (Replied set (job.Heal cell) shown) k = k
      one (Held dir) k = k
