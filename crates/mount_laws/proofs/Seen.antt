-- What a fop has read is still so: nobody else changes the cells of its settled jobs.
use Rattle.std.proofs.Common.{◌≡◌, ◌∙◌, ℕ, ◌+◌, ◌⊎◌, inl, inr, Bool, true, false, refl, sym, ap, subst, List, [], ◌∷◌, Option, Some, None}
use Rattle.std.specs.Prelude.{◌≢◌, ◌==◌, ◌&&◌, ◌||◌, if◌then◌else◌}
use Rattle.std.proofs.lemmas.Bool.{eq-eqb}
use Rattle.afr_machine.specs.Changes.Verdict.{Undrawn, Unsettled}
use Rattle.afr_machine.specs.Replicas.{with_at}
use Rattle.afr_machine.specs.Touching.{is_cell, has_cell}
use Rattle.afr_machine.specs.Transactions.{cells_of_job}
use Rattle.dht_fops.specs.Courses.{Course}
use Rattle.dht_fops.specs.Shown.{SetContents}
use Rattle.fop_types.specs.Bounds.{Each}
use Rattle.fop_types.specs.Jobs.{may_lack, IsAnsweredBy, IsContentOf, AreContentsOf}
use Rattle.fop_types.specs.StoreOps.{Contents, needs, after_births}
use Rattle.fop_types.specs.declared.answers.FopAnswer.TheVariants as fop_answer
use Rattle.fop_types.specs.declared.cells.Cell.{Cell}
use Rattle.fop_types.specs.declared.contents.Content.{Content}
use Rattle.fop_types.specs.declared.jobs.Job.{Job}
use Rattle.fop_types.specs.declared.jobs.Job.TheVariants as job
use Rattle.fop_types.specs.declared.jobs.SetReply.{SetReply}
use Rattle.fop_types.specs.declared.jobs.SetReply.TheVariants as reply
use Rattle.mount_laws.specs.Guards.{Allowed, IsReached, IsShown, AreShown, IsReply, MaySettle, MayHandIn, IsOpen, NeedsNoMore}
use Rattle.mount_laws.specs.Guards.IsReply.{Shows, Enters, Fails, Opens}
use Rattle.mount_laws.specs.Holding.{AreHeld, AreHeldExclusively}
use Rattle.mount_laws.specs.Runs.{Run, SettledJob, Sight, jobs_without}
use Rattle.mount_laws.specs.Runs.Stage.{Settled}
use Rattle.mount_laws.specs.Seeing.{IsListed, SettledIsListed, WasSettled, IsStill, StandsAsSeen, SawStill}
use Rattle.mount_laws.specs.Settling.{HasNoNames, StaysOrBorn, TouchedIsFirm, IsSettledJob, ReadIsAdopted, LeavesSettled, IsStepOf}
use Rattle.mount_laws.specs.States.{State, Change, Call, Status, Runs, holds_by, held}
use Rattle.mount_laws.specs.States.Status.{Running}
use Rattle.mount_laws.specs.Steps.{Step, Task, after, is_lookup, adopting, births_by, is_of, sees_again, sees, sights, sights_by, contents_shown, applied}
use Rattle.mount_laws.proofs.Apart.{holds_apart}
use Rattle.mount_laws.proofs.Beside.{each_map, each_append, each_beside, one_job}
use Rattle.mount_laws.proofs.Contents.{births_leave, applied_leaves, applied_none}
use Rattle.mount_laws.proofs.Firm.{are_whole, firm_touched, jobs_have_none}
use Rattle.mount_laws.proofs.Held.{holds_cover, covered_held}
use Rattle.mount_laws.proofs.Moving.{RunMove, run_moves, unwrap, quiet}
use Rattle.mount_laws.proofs.Moving.RunMove.{Stays, Begins, Settles, EndsSettling, BeginsChange, Decides, SendsBirths, ConfirmsBirths, HandsIn, Extends, Releases}
use Rattle.mount_laws.proofs.Releasing.{all_left, listed_without, sights_stand}
use Rattle.mount_laws.proofs.Sharing.{is_cell_refl, or_right, shared_cell, held_apart}
use Rattle.mount_laws.proofs.Tables.{at_case}

-- ---- a job that has rested is listed

module _ (m : State) (a : SettledIsListed m) where
  abbrev ListedAt : Run → Type 0
  ListedAt run = (place set : ℕ) (asked : Job) (next : SetReply → Course) → run.stage ≡ Settled place → run.course ≡ Course.Asks set asked next → IsListed run.settled (record { set = set; cells = cells_of_job asked })

  move_listed : (c : ℕ) (run : Run) → RunMove m c run → ListedAt run
  move_listed _ _ (Stays c run runs) = λ place set asked next e f. a c run place set asked next runs e f
  move_listed _ _ (Begins c f kept h) = λ place set asked next e. absurd cc
  move_listed _ _ (Settles t u adopts h) = λ place set asked next e f. a t.call t.run place set asked next h.under_way.runs e f
  move_listed _ _ (EndsSettling t h) = λ place set asked next e f. let same = one_job t.run.course t.set set t.job asked t.next next h.under_way.asks f in inl (listed same.set_is same.job_is)
    where
      listed : {set : ℕ} {asked : Job} → t.set ≡ set → t.job ≡ asked → ◌≡◌ {A = SettledJob} (record { set = t.set; cells = cells_of_job t.job }) (record { set = set; cells = cells_of_job asked })
      listed e f = rw (e, f) refl
  move_listed _ _ (BeginsChange t u h) = λ place set asked next e. absurd cc
  move_listed _ _ (Decides t u h) = λ place set asked next e. absurd cc
  move_listed _ _ (SendsBirths t h) = λ place set asked next e. absurd cc
  move_listed _ _ (ConfirmsBirths t h) = λ place set asked next e. absurd cc
  move_listed _ _ (HandsIn t shown h) = λ place set asked next e. absurd cc
  move_listed _ _ (Releases c run gfid h) = λ place set asked next e f.
      subst (λ (cells : List Cell). IsListed (jobs_without gfid run.settled) (record { set = set; cells = cells })) (all_left gfid (cells_of_job asked) (subst (λ (course : Course). NeedsNoMore gfid run.handed course) f h.unneeded).0)
      (listed_without gfid run.settled (record { set = set; cells = cells_of_job asked }) (a c run place set asked next h.runs e f))
  move_listed _ _ (Extends c run dir next h) = λ place set asked other e. absurd cc

pub settled_listed : (first : List (List ℕ)) (m : State) → IsReached first m → SettledIsListed m
settled_listed first _ (IsReached.Start planned) = λ c run place set asked next runs. absurd cc
settled_listed first _ (IsReached.Further old step reached allowed) =
    λ c run place set asked next runs e f. move_listed old (settled_listed first old reached) c run (run_moves old step allowed c run runs) place set asked next e f

-- ---- a change of another call

listed_each : (P : SettledJob → Type 0) (jobs : List SettledJob) (done : SettledJob) → Each P jobs → IsListed jobs done → P done
listed_each P [] done e l = absurd l
listed_each P (one ∷ jobs) done e (inl same) = subst P same e.0
listed_each P (one ∷ jobs) done e (inr l) = listed_each P jobs done e.1 l

-- a fop's own change is settled by no other call's job
pub own_is_alone : (first : List (List ℕ)) (m : State) → IsReached first m → (c : ℕ) (run : Run) (t : Task) (u : ℕ) → c ≢ t.call → Runs m c run → (m.changes u).by ≡ c → MaySettle m t u → ⊥
own_is_alone first m reached c run t u ne runs by h =
    let cover = holds_cover first m reached in
    let own = ((each_beside first m reached).running c run runs u).own_is_held by h.unsettled.verdict in
    let mine : AreHeldExclusively (held m c) (m.changes u).cells = subst (λ (s : Status). AreHeldExclusively (holds_by s) (m.changes u).cells) (sym runs) own in
    let theirs : AreHeld (held m t.call) (cells_of_job t.job) = subst (λ (s : Status). AreHeld (holds_by s) (cells_of_job t.job)) (sym h.under_way.runs)
    (covered_held t.run.holds t.run.fop t.job h.settles (cover.asked t.call t.run t.set t.job t.next h.under_way.runs h.under_way.asks)) in
    let none = held_apart (held m c) (held m t.call) (m.changes u).cells (cells_of_job t.job) (holds_apart first m reached c t.call ne) mine theirs in
    let clash : true ≡ false = sym h.unsettled.touches ∙ none in absurd cc

-- what adopting a change leaves of a cell that a fop of another call has settled
adopted_leaves : (first : List (List ℕ)) (m : State) → IsReached first m → (c : ℕ) (run : Run) (u : ℕ) → Runs m c run → (m.changes u).verdict ≡ Unsettled → ((m.changes u).by ≡ c → ⊥)
    → (set : ℕ) (cell : Cell) → WasSettled run.settled set cell → StaysOrBorn (m.adopted set cell) ((adopting m u).adopted set cell)
adopted_leaves first m reached c run u runs was other set cell seen =
    at_case (λ i (one : Contents). i ≡ set → StaysOrBorn (m.adopted i cell) (one cell)) m.adopted (m.changes u).set (applied (m.adopted (m.changes u).set) (m.changes u).op)
    (λ same. applied_leaves (m.adopted (m.changes u).set) (m.changes u).op cell (outside same)) set (λ differ same. inl refl) refl
  where
    drawn : (m.changes u).verdict ≢ Undrawn
    drawn e = let clash : Unsettled ≡ Undrawn = sym was ∙ e in absurd cc

    settled : IsSettledJob c (m.changes u) (record { set = set; cells = seen.cells })
    settled = listed_each (IsSettledJob c (m.changes u)) run.settled (record { set = set; cells = seen.cells }) ((each_beside first m reached).running c run runs u).settled seen.listed

    outside : (m.changes u).set ≡ set → has_cell (needs (m.changes u).op) cell ≡ false
    outside same = subst (λ (cells : List Cell). has_cell cells cell ≡ false) (are_whole first m reached u drawn) (by_case (has_cell (m.changes u).cells cell) refl)
      where
        by_case : (b : Bool) → has_cell (m.changes u).cells cell ≡ b → b ≡ false
        by_case true e = absurd (other (settled (record { verdict = was; on_set = same; touches = shared_cell (m.changes u).cells seen.cells cell e seen.has })))
        by_case false e = refl

-- what births leave
born_leaves : (m : State) (t : Task) (set : ℕ) (cell : Cell) → StaysOrBorn (m.adopted set cell) (with_at m.adopted t.set (after_births (m.adopted t.set) (births_by t.job)) set cell)
born_leaves m t set cell =
    at_case (λ i (one : Contents). StaysOrBorn (m.adopted i cell) (one cell)) m.adopted t.set (after_births (m.adopted t.set) (births_by t.job)) (births_leave (births_by t.job) (m.adopted t.set) cell (jobs_have_none t.job)) set (λ differ. inl refl)

-- ---- sights

abbrev AreWholeAt : Change → Type 0
AreWholeAt change = change.cells ≡ needs change.op

-- a sight whose cell stays or is born
sight_stays : (old new : SetContents) (jobs : List SettledJob) (sight : Sight) → StaysOrBorn (old sight.set sight.cell) (new sight.set sight.cell) → StandsAsSeen old jobs sight → StandsAsSeen new jobs sight
sight_stays old new jobs sight moves a = record { content = by_cases moves a.content; lacks = a.lacks; settled = a.settled }
  where
    by_cases : StaysOrBorn (old sight.set sight.cell) (new sight.set sight.cell) → IsStill old sight → IsStill new sight
    by_cases (inl e) (inl f) = inl (e ∙ f)
    by_cases (inl e) (inr g) = inr (g.0, subst HasNoNames (sym e) g.1)
    by_cases (inr g) (inl f) = inr (sym f ∙ g.0, g.1)
    by_cases (inr g) (inr k) = inr (k.0, g.1)

each_stays : (old new : SetContents) (jobs : List SettledJob) (saw : List Sight) → ((sight : Sight) → WasSettled jobs sight.set sight.cell → StaysOrBorn (old sight.set sight.cell) (new sight.set sight.cell)) → Each (StandsAsSeen old jobs) saw → Each (StandsAsSeen new jobs) saw
each_stays old new jobs saw moves = each_map (StandsAsSeen old jobs) (StandsAsSeen new jobs) saw (λ sight a. sight_stays old new jobs sight (moves sight a.settled) a)

-- with one more settled job
more_listed : (jobs : List SettledJob) (done : SettledJob) (set : ℕ) (cell : Cell) → WasSettled jobs set cell → WasSettled (done ∷ jobs) set cell
more_listed jobs done set cell w = record { cells = w.cells; listed = inr w.listed; has = w.has }

-- the fop's own change
is_part : (a b : Bool) → (a && b) ≡ false → a ≡ true → b ≡ false
is_part true b h e = h
is_part false b h e = absurd cc

own_sight : (m : State) (u : ℕ) (jobs : List SettledJob) (sight : Sight) → AreWholeAt (m.changes u) → StandsAsSeen m.adopted jobs sight → StandsAsSeen (adopting m u).adopted jobs (sees_again (adopting m u).adopted (m.changes u) sight)
own_sight m u jobs sight whole a = by_case (is_of (m.changes u) sight) refl
  where
    by_case : (b : Bool) → is_of (m.changes u) sight ≡ b → StandsAsSeen (adopting m u).adopted jobs (if b then record sight { content = (adopting m u).adopted sight.set sight.cell } else sight)
    by_case true e = record { content = inl refl; lacks = λ none. a.lacks (was (none_before none)); settled = a.settled }
      where
        none_before : (adopting m u).adopted sight.set sight.cell ≡ None → m.adopted sight.set sight.cell ≡ None
        none_before = at_case (λ i (one : Contents). one sight.cell ≡ None → m.adopted i sight.cell ≡ None) m.adopted (m.changes u).set (applied (m.adopted (m.changes u).set) (m.changes u).op)
            (λ k. applied_none (m.adopted (m.changes u).set) (m.changes u).op sight.cell k) sight.set (λ differ k. k)

        was : m.adopted sight.set sight.cell ≡ None → sight.content ≡ None
        was none = of_content a.content
          where
            of_content : IsStill m.adopted sight → sight.content ≡ None
            of_content (inl f) = sym f ∙ none
            of_content (inr g) = g.0
    by_case false e = sight_stays m.adopted (adopting m u).adopted jobs sight
        (at_case (λ i (one : Contents). i ≡ sight.set → StaysOrBorn (m.adopted i sight.cell) (one sight.cell)) m.adopted (m.changes u).set (applied (m.adopted (m.changes u).set) (m.changes u).op)
        (λ same. applied_leaves (m.adopted (m.changes u).set) (m.changes u).op sight.cell
        (subst (λ (cells : List Cell). has_cell cells sight.cell ≡ false) whole (is_part ((m.changes u).set == sight.set) (has_cell (m.changes u).cells sight.cell) e (eq-eqb (m.changes u).set sight.set same))))
        sight.set (λ differ same. inl refl) refl) a

own_sights : (m : State) (u : ℕ) (jobs : List SettledJob) (saw : List Sight) → AreWholeAt (m.changes u) → Each (StandsAsSeen m.adopted jobs) saw → Each (StandsAsSeen (adopting m u).adopted jobs) (sees (adopting m u).adopted (m.changes u) saw)
own_sights m u jobs [] whole a = tt
own_sights m u jobs (sight ∷ saw) whole a = (own_sight m u jobs sight whole a.0, own_sights m u jobs saw whole a.1)

-- a change that is dropped leaves each sight as it is
dropped_sights : (adopted : SetContents) (change : Change) (jobs : List SettledJob) (saw : List Sight) → Each (StandsAsSeen adopted jobs) saw → Each (StandsAsSeen adopted jobs) (sees adopted change saw)
dropped_sights adopted change jobs [] a = tt
dropped_sights adopted change jobs (sight ∷ saw) a = (by_case (is_of change sight), dropped_sights adopted change jobs saw a.1)
  where
    was : adopted sight.set sight.cell ≡ None → IsStill adopted sight → sight.content ≡ None
    was none (inl f) = sym f ∙ none
    was none (inr g) = g.0

    by_case : (b : Bool) → StandsAsSeen adopted jobs (if b then record sight { content = adopted sight.set sight.cell } else sight)
    by_case true = record { content = inl refl; lacks = λ none. a.0.lacks (was none a.0.content); settled = a.0.settled }
    by_case false = a.0

-- ---- what a read shows

lacks_later : (set : ℕ) (dir : Bool) → may_lack set dir ≡ true → may_lack set true ≡ true
lacks_later set true h = h
lacks_later set false h = absurd cc

new_sights : (m : State) → TouchedIsFirm m → (set : ℕ) (dir : Bool) (all : List Cell) (jobs : List SettledJob) → IsListed jobs (record { set = set; cells = all }) → (cells : List Cell) (contents : List (Option Content)) → Each (λ (cell : Cell). has_cell all cell ≡ true) cells
    → AreShown m set dir cells contents → AreContentsOf (may_lack set dir) cells contents → Each (StandsAsSeen m.adopted jobs) (sights set cells contents)
new_sights m firm set dir all jobs listed [] contents within shown fitting = tt
new_sights m firm set dir all jobs listed (cell ∷ cells) [] within shown fitting = tt
new_sights m firm set dir all jobs listed (cell ∷ cells) (content ∷ contents) within shown fitting = (
  record { content = by_cases shown.0; lacks = λ none. lacks_later set dir (may content none fitting.0); settled = record { cells = all; listed = listed; has = within.0 } },
  new_sights m firm set dir all jobs listed cells contents within.1 shown.1 fitting.1,
)
  where
    by_cases : IsShown m set dir cell content → (m.adopted set cell ≡ content) ⊎ ((content ≡ None) × HasNoNames (m.adopted set cell))
    by_cases (inl e) = inl e
    by_cases (inr l) = inr (l.nothing, firm.no_names set cell l.unconfirmed)

    may : (one : Option Content) → one ≡ None → IsContentOf (may_lack set dir) cell one → may_lack set dir ≡ true
    may None e h = h
    may (Some there) e h = absurd cc

each_itself : (cells all : List Cell) → ((cell : Cell) → has_cell cells cell ≡ true → has_cell all cell ≡ true) → Each (λ (cell : Cell). has_cell all cell ≡ true) cells
each_itself [] all h = tt
each_itself (cell ∷ cells) all h = (h cell (ap (λ b. b || has_cell cells cell) (is_cell_refl cell)), each_itself cells all (λ other k. h other (or_right (is_cell other cell) (has_cell cells other) k)))

-- what a reply shows of a job
reply_sights : (m : State) → TouchedIsFirm m → SettledIsListed m → (t : Task) (shown : SetReply) → MayHandIn m t shown → Each (StandsAsSeen m.adopted t.run.settled) (sights_by t.set t.job shown)
reply_sights m firm rested t shown h = by_reply shown h.is_reply h.fitting.answered
  where
    nothing : (set : ℕ) (asked : Job) (one : SetReply) → contents_shown one ≡ [] → sights_by set asked one ≡ []
    nothing set (job.Read cells fd dir) one e = ap (λ (contents : List (Option Content)). sights set cells contents) e ∙ none cells
      where
        none : (cs : List Cell) → sights set cs [] ≡ []
        none [] = refl
        none (c ∷ cs) = refl
    nothing set (job.Change cells fd o effect) one e = refl
    nothing set (job.Birth cells o) one e = refl
    nothing set (job.Open fd gfid) one e = refl
    nothing set job.Index one e = refl
    nothing set (job.Heal cell) one e = refl

    opens : (set : ℕ) (asked : Job) (one : SetReply) → IsOpen asked → sights_by set asked one ≡ []
    opens set (job.Read cells fd dir) one is = absurd is
    opens set (job.Change cells fd o effect) one is = absurd is
    opens set (job.Birth cells o) one is = absurd is
    opens set (job.Open fd gfid) one is = refl
    opens set job.Index one is = absurd is
    opens set (job.Heal cell) one is = absurd is

    empty : (saw : List Sight) → saw ≡ [] → Each (StandsAsSeen m.adopted t.run.settled) saw
    empty saw e = subst (λ (s : List Sight). Each (StandsAsSeen m.adopted t.run.settled) s) (sym e) tt

    by_reply : (one : SetReply) → IsReply m t one → IsAnsweredBy t.set h.fitting.quorum t.job one → Each (StandsAsSeen m.adopted t.run.settled) (sights_by t.set t.job one)
    by_reply _ (Shows cells fd dir contents place is stage seen) fitting =
        subst (λ (asked : Job). Each (StandsAsSeen m.adopted t.run.settled) (sights_by t.set asked (reply.Contents contents place))) (sym is)
        (new_sights m firm t.set dir cells t.run.settled
        (subst (λ (asked : Job). IsListed t.run.settled (record { set = t.set; cells = cells_of_job asked })) is (rested t.call t.run place t.set t.job t.next h.under_way.runs stage h.under_way.asks))
        cells contents (each_itself cells cells (λ cell k. k)) seen
        (subst (λ (asked : Job). IsAnsweredBy t.set h.fitting.quorum asked (reply.Contents contents place)) is fitting))
    by_reply _ (Enters number stage) fitting = empty _ (nothing t.set t.job (reply.Decided number) refl)
    by_reply _ (Fails error stage) fitting = empty _ (nothing t.set t.job (reply.Io error) refl)
    by_reply one (Opens _ is) fitting = empty _ (opens t.set t.job one is)

-- ---- each step

-- the fop of one call goes on, while what is adopted changes
one_sees : (m : State) (adopted : SetContents) (c : ℕ) (run : Run) → Each (StandsAsSeen adopted run.settled) run.saw → ((i : ℕ) (other : Run) → i ≢ c → Runs m i other → Each (StandsAsSeen adopted other.settled) other.saw)
    → (i : ℕ) (other : Run) → (with_at m.calls c (record (m.calls c) { status = Running run }) i).status ≡ Running other → Each (StandsAsSeen adopted other.settled) other.saw
one_sees m adopted c run new old i =
    at_case (λ j (call : Call). (other : Run) → call.status ≡ Running other → Each (StandsAsSeen adopted other.settled) other.saw) m.calls c (record (m.calls c) { status = Running run })
    (λ other e. subst (λ (r : Run). Each (StandsAsSeen adopted r.settled) r.saw) (unwrap run other e) new) i (λ differ other e. old i other differ e)

-- a call without a fop
stop_sees : (m : State) (c : ℕ) (call : Call) → ((run : Run) → call.status ≡ Running run → ⊥) → SawStill m → (i : ℕ) (other : Run) → (with_at m.calls c call i).status ≡ Running other → Each (StandsAsSeen m.adopted other.settled) other.saw
stop_sees m c call none a i =
    at_case (λ j (one : Call). (other : Run) → one.status ≡ Running other → Each (StandsAsSeen m.adopted other.settled) other.saw) m.calls c call (λ other e. absurd (none other e)) i (λ differ other e. a i other e)

step_sees : (first : List (List ℕ)) (m : State) (step : Step) → IsReached first m → Allowed m step → SawStill m → SawStill (after m step)
step_sees first m (Step.Submits draws) reached h a = stop_sees m (m.submitted + 1) _ (λ run e. absurd cc) a
step_sees first m (Step.Concludes c) reached h a = stop_sees m c _ (λ run e. absurd cc) a
step_sees first m (Step.Switches names) reached h a = a
step_sees first m (Step.Begins c f kept) reached h a = one_sees m m.adopted c _ tt (λ i other differ runs. a i other runs)
step_sees first m (Step.Settles t u true) reached h a =
    one_sees m (adopting m u).adopted t.call _
    (own_sights m u t.run.settled t.run.saw (are_whole first m reached u (λ e. let clash : Unsettled ≡ Undrawn = sym h.unsettled.verdict ∙ e in absurd cc)) (a t.call t.run h.under_way.runs))
    (λ i other differ runs. each_stays m.adopted (adopting m u).adopted other.settled other.saw
    (λ sight w. adopted_leaves first m reached i other u runs h.unsettled.verdict (λ by. own_is_alone first m reached i other t u differ runs by h) sight.set sight.cell w) (a i other runs))
step_sees first m (Step.Settles t u false) reached h a =
    one_sees m m.adopted t.call _ (dropped_sights m.adopted (m.changes u) t.run.settled t.run.saw (a t.call t.run h.under_way.runs)) (λ i other differ runs. a i other runs)
step_sees first m (Step.EndsSettling t) reached h a =
    one_sees m m.adopted t.call _
    (each_map (StandsAsSeen m.adopted t.run.settled) (StandsAsSeen m.adopted (record { set = t.set; cells = cells_of_job t.job } ∷ t.run.settled)) t.run.saw
    (λ sight b. record { content = b.content; lacks = b.lacks; settled = more_listed t.run.settled (record { set = t.set; cells = cells_of_job t.job }) sight.set sight.cell b.settled }) (a t.call t.run h.under_way.runs))
    (λ i other differ runs. a i other runs)
step_sees first m (Step.BeginsChange t u) reached h a = one_sees m m.adopted t.call _ (a t.call t.run h.under_way.runs) (λ i other differ runs. a i other runs)
step_sees first m (Step.Decides t u) reached h a =
    one_sees m (adopting m u).adopted t.call _
    (own_sights m u t.run.settled t.run.saw (are_whole first m reached u (λ e. let clash : Unsettled ≡ Undrawn = sym h.unsettled ∙ e in absurd cc)) (a t.call t.run h.under_way.runs))
    (λ i other differ runs. each_stays m.adopted (adopting m u).adopted other.settled other.saw
    (λ sight w. adopted_leaves first m reached i other u runs h.unsettled (λ by. differ (sym by ∙ (((each_beside first m reached).running t.call t.run h.under_way.runs u).running_is_unsettled h.turn).by)) sight.set sight.cell w) (a i other runs))
step_sees first m (Step.SendsBirths t) reached h a =
    one_sees m (with_at m.adopted t.set (after_births (m.adopted t.set) (births_by t.job))) t.call _
    (each_stays m.adopted _ t.run.settled t.run.saw (λ sight w. born_leaves m t sight.set sight.cell) (a t.call t.run h.under_way.runs))
    (λ i other differ runs. each_stays m.adopted _ other.settled other.saw (λ sight w. born_leaves m t sight.set sight.cell) (a i other runs))
step_sees first m (Step.ConfirmsBirths t) reached h a = one_sees m m.adopted t.call _ (a t.call t.run h.under_way.runs) (λ i other differ runs. a i other runs)
step_sees first m (Step.HandsIn t shown) reached h a =
    one_sees m m.adopted t.call _
    (each_append (StandsAsSeen m.adopted t.run.settled) (sights_by t.set t.job shown) t.run.saw (reply_sights m (firm_touched first m reached) (settled_listed first m reached) t shown h) (a t.call t.run h.under_way.runs))
    (λ i other differ runs. a i other runs)
step_sees first m (Step.Extends c run dir next) reached h a = one_sees m m.adopted c _ (a c run h.runs) (λ i other differ runs. a i other runs)
step_sees first m (Step.Releases c run gfid) reached h a = one_sees m m.adopted c _ (sights_stand m.adopted gfid run.settled run.saw (a c run h.runs)) (λ i other differ runs. a i other runs)
step_sees first m (Step.Learns c run dir spans) reached h a = a
step_sees first m (Step.Answers c run answer place) reached h a = stop_sees m c _ (λ other e. quiet (is_lookup run.fop) answer other e) a
step_sees first m (Step.AnswersAbove c run answer) reached h a = stop_sees m c _ (λ other e. quiet (is_lookup run.fop) (fop_answer.Call answer) other e) a

pub saw_still : (first : List (List ℕ)) (m : State) → IsReached first m → SawStill m
saw_still first _ (IsReached.Start planned) = λ c run runs. absurd cc
saw_still first _ (IsReached.Further old step reached allowed) = step_sees first old step reached allowed (saw_still first old reached)

-- ---- no step of another call changes a settled cell

leaves_all : (m new : State) (done : SettledJob) → ((cell : Cell) → new.adopted done.set cell ≡ m.adopted done.set cell) → LeavesSettled m new done
leaves_all m new done same cell has = inl (same cell)

step_leaves : (first : List (List ℕ)) (m : State) (step : Step) → IsReached first m → Allowed m step → (c : ℕ) (run : Run) → (IsStepOf c step → ⊥) → Runs m c run → (done : SettledJob) → IsListed run.settled done → LeavesSettled m (after m step) done
step_leaves first m (Step.Settles t u true) reached h c run other runs done listed = λ cell has.
    adopted_leaves first m reached c run u runs h.unsettled.verdict (λ by. own_is_alone first m reached c run t u (λ e. other (sym e)) runs by h) done.set cell (record { cells = done.cells; listed = listed; has = has })
step_leaves first m (Step.Decides t u) reached h c run other runs done listed = λ cell has.
    adopted_leaves first m reached c run u runs h.unsettled (λ by. other (sym (((each_beside first m reached).running t.call t.run h.under_way.runs u).running_is_unsettled h.turn).by ∙ by)) done.set cell
    (record { cells = done.cells; listed = listed; has = has })
step_leaves first m (Step.SendsBirths t) reached h c run other runs done listed = λ cell has. born_leaves m t done.set cell
step_leaves first m (Step.Settles t u false) reached h c run other runs done listed = leaves_all m (after m (Step.Settles t u false)) done (λ cell. refl)
step_leaves first m (Step.Submits draws) reached h c run other runs done listed = leaves_all m (after m (Step.Submits draws)) done (λ cell. refl)
step_leaves first m (Step.Concludes d) reached h c run other runs done listed = leaves_all m (after m (Step.Concludes d)) done (λ cell. refl)
step_leaves first m (Step.Switches names) reached h c run other runs done listed = leaves_all m (after m (Step.Switches names)) done (λ cell. refl)
step_leaves first m (Step.Begins d f kept) reached h c run other runs done listed = leaves_all m (after m (Step.Begins d f kept)) done (λ cell. refl)
step_leaves first m (Step.EndsSettling t) reached h c run other runs done listed = leaves_all m (after m (Step.EndsSettling t)) done (λ cell. refl)
step_leaves first m (Step.BeginsChange t u) reached h c run other runs done listed = leaves_all m (after m (Step.BeginsChange t u)) done (λ cell. refl)
step_leaves first m (Step.ConfirmsBirths t) reached h c run other runs done listed = leaves_all m (after m (Step.ConfirmsBirths t)) done (λ cell. refl)
step_leaves first m (Step.HandsIn t shown) reached h c run other runs done listed = leaves_all m (after m (Step.HandsIn t shown)) done (λ cell. refl)
step_leaves first m (Step.Extends d one dir next) reached h c run other runs done listed = leaves_all m (after m (Step.Extends d one dir next)) done (λ cell. refl)
step_leaves first m (Step.Releases d one gfid) reached h c run other runs done listed = leaves_all m (after m (Step.Releases d one gfid)) done (λ cell. refl)
step_leaves first m (Step.Learns d one dir spans) reached h c run other runs done listed = leaves_all m (after m (Step.Learns d one dir spans)) done (λ cell. refl)
step_leaves first m (Step.Answers d one answer place) reached h c run other runs done listed = leaves_all m (after m (Step.Answers d one answer place)) done (λ cell. refl)
step_leaves first m (Step.AnswersAbove d one answer) reached h c run other runs done listed = leaves_all m (after m (Step.AnswersAbove d one answer)) done (λ cell. refl)

each_listed : (P : SettledJob → Type 0) (jobs : List SettledJob) → ((done : SettledJob) → IsListed jobs done → P done) → Each P jobs
each_listed P [] h = tt
each_listed P (done ∷ jobs) h = (h done (inl refl), each_listed P jobs (λ other l. h other (inr l)))

pub read_adopted : (first : List (List ℕ)) (m : State) → IsReached first m → ReadIsAdopted m
read_adopted first m reached = λ c run step h other runs. each_listed (LeavesSettled m (after m step)) run.settled (λ done listed. step_leaves first m step reached h c run other runs done listed)
