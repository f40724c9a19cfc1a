-- The steps of the mount, and what each makes of the state. A call's fop goes by jobs, each of one set: a job settles the
-- unsettled changes on its cells; then a read shows contents, a change becomes unsettled and is decided, a birth is sent and
-- confirmed; its reply leads the fop on. A job may fail at each point; its change then stays unsettled, until another job
-- settles it. Ours.
use Rattle.std.specs.Prelude.{ℕ, ◌+◌, ◌==◌, ◌&&◌, Bool, true, false, List, [], ◌∷◌, ◌++◌, length, Option, Some, None, if◌then◌else◌}
use Rattle.std.specs.Ordering.{is_eq}
use Rattle.afr_machine.specs.Changes.Verdict.{Unsettled, Adopted, Dropped}
use Rattle.afr_machine.specs.Replicas.{with_at}
use Rattle.afr_machine.specs.Touching.{has_cell}
use Rattle.afr_machine.specs.Transactions.{cells_of_job}
use Rattle.dht_fops.specs.Answers.{change_of}
use Rattle.dht_fops.specs.Courses.{Course}
use Rattle.dht_fops.specs.Handed.Event.{Replied, Held}
use Rattle.dht_fops.specs.Shown.{SetContents, Homes}
use Rattle.dht_fops.specs.Volumes.{Kept}
use Rattle.dht_fops.specs.declared.volume.Volume.{Volume}
use Rattle.fop_types.specs.Orders.{gfid_cmp}
use Rattle.fop_types.specs.StoreOps.{Contents, births, after_births, fits, contents_after}
use Rattle.fop_types.specs.declared.answers.Answer.{Answer}
use Rattle.fop_types.specs.declared.answers.Answer.TheVariants as answers
use Rattle.fop_types.specs.declared.answers.FopAnswer.{FopAnswer}
use Rattle.fop_types.specs.declared.answers.FopAnswer.TheVariants as fop_answer
use Rattle.fop_types.specs.declared.cells.Cell.{Cell}
use Rattle.fop_types.specs.declared.cells.Gfid.{Gfid}
use Rattle.fop_types.specs.declared.cells.Kind.{Kind}
use Rattle.fop_types.specs.declared.contents.Content.{Content}
use Rattle.fop_types.specs.declared.contents.Span.{Span}
use Rattle.fop_types.specs.declared.flat.FlatOp.{FlatOp}
use Rattle.fop_types.specs.declared.fops.Fop.{Fop}
use Rattle.fop_types.specs.declared.fops.Fop.TheVariants as fop
use Rattle.fop_types.specs.declared.fops.Object.{Object}
use Rattle.fop_types.specs.declared.history.Entry.{Entry}
use Rattle.fop_types.specs.declared.jobs.Job.{Job}
use Rattle.fop_types.specs.declared.jobs.Job.TheVariants as job
use Rattle.fop_types.specs.declared.jobs.SetReply.{SetReply}
use Rattle.fop_types.specs.declared.jobs.SetReply.TheVariants as reply
use Rattle.fop_types.specs.declared.store_ops.StoreOp.{StoreOp}
use Rattle.fop_types.specs.declared.store_ops.StoreOp.TheVariants as op
use Rattle.mount_laws.specs.Runs.{Run, Stage, Sight, begun, going_on, held_longer, released}
use Rattle.mount_laws.specs.Runs.Stage.{Settled, Changing, Bearing, Decided}
use Rattle.mount_laws.specs.States.{State, Change, no_change, Status, with_status, with_run, with_change, with_firm}
use Rattle.mount_laws.specs.States.Status.{Ready, Answered}

-- the job that a call's fop asks for, with what its reply leads to
pub record Task : Type 0 where
  pub call : ℕ
  pub run : Run
  pub set : ℕ
  pub job : Job
  pub next : SetReply → Course

-- `draws`: the call would make an object. `Concludes`: the call is answered without a further fop. `AnswersAbove`: a fop is
-- answered by what was read before, as a cache above distribute does, and asks for no job. `Releases`: the fop lets go of an
-- object. `Learns`: a layout that the fop has read is kept. `Settles`: the job decides an unsettled change on its cells. `EndsSettling`: it has settled them all.
-- `Decides`: the job's own change is adopted. `ConfirmsBirths`: a quorum has the births.
pub data Step : Type 0 where
  Submits : (draws : Bool) → Step
  Concludes : (c : ℕ) → Step
  Switches : (names : List (List ℕ)) → Step
  Begins : (c : ℕ) → (fop : Fop) → (kept : Kept) → Step
  Settles : (t : Task) → (u : ℕ) → (adopts : Bool) → Step
  EndsSettling : (t : Task) → Step
  BeginsChange : (t : Task) → (u : ℕ) → Step
  Decides : (t : Task) → (u : ℕ) → Step
  SendsBirths : (t : Task) → Step
  ConfirmsBirths : (t : Task) → Step
  HandsIn : (t : Task) → (reply : SetReply) → Step
  Extends : (c : ℕ) → (run : Run) → (dir : Gfid) → (next : Course) → Step
  Releases : (c : ℕ) → (run : Run) → (gfid : Gfid) → Step
  Learns : (c : ℕ) → (run : Run) → (dir : Gfid) → (spans : List (Option Span)) → Step
  Answers : (c : ℕ) → (run : Run) → (answer : FopAnswer) → (place : Option ℕ) → Step
  AnswersAbove : (c : ℕ) → (run : Run) → (answer : Answer) → Step

-- ---- calls

-- the gfids after the root's, by number
abbrev pub nth_gfid : ℕ → Gfid
nth_gfid n = record { hi = 0; lo = 1 + n }

abbrev pub submitted : State → Bool → State
submitted m draws = record m {
  calls = with_at m.calls (m.submitted + 1) (record { names = m.names; drawn = if draws then Some (nth_gfid (m.draws + 1)) else None; status = Ready });
  submitted = m.submitted + 1;
  draws = if draws then m.draws + 1 else m.draws;
  since = with_at m.since (m.submitted + 1) (length m.history);
}

abbrev pub volume_of : State → ℕ → Volume
volume_of m c = record { call = c; sets = length (m.calls c).names; root_sets = m.root_sets }

abbrev pub beginning : State → ℕ → Fop → Kept → State
beginning m c fop kept = record (with_run m c (begun fop (volume_of m c) (m.calls c).names kept)) { began = with_at m.began c (Some fop) }

-- the object that an answer names
abbrev pub object_in : FopAnswer → List Object
object_in (fop_answer.Found set gfid kind) = record { gfid = gfid; kind = kind; set = set } ∷ []
object_in (fop_answer.Call answer) = []

abbrev pub is_lookup : Fop → Bool
is_lookup (fop.Lookup parent name) = true
is_lookup other = false

abbrev pub status_found : FopAnswer → Status
status_found (fop_answer.Found set gfid kind) = Ready
status_found (fop_answer.Call answer) = Answered

-- a call goes on after a lookup that found something, and is answered by every other fop
abbrev pub status_after : Bool → FopAnswer → Status
status_after true answer = status_found answer
status_after false answer = Answered

-- the place of a fop's answer: where no lock was needed it is the length of the history now; an I/O error has none
abbrev pub place_of : ℕ → FopAnswer → Option ℕ → List ℕ
place_of now (fop_answer.Call (answers.Io error)) place = []
place_of now other (Some place) = place ∷ []
place_of now other None = now ∷ []

abbrev pub answering : State → ℕ → Run → FopAnswer → Option ℕ → State
answering m c run answer place = record (with_status m c (status_after (is_lookup run.fop) answer)) {
  known = object_in answer ++ m.known;
  places = with_at m.places c (m.places c ++ place_of (length m.history) answer place);
}

-- ---- changes that are adopted

abbrev pub with_kind : (Gfid → Option Kind) → Gfid → Kind → Gfid → Option Kind
with_kind kinds gfid kind other = if is_eq (gfid_cmp other gfid) then Some kind else kinds other

abbrev pub with_home : Homes → Gfid → ℕ → Homes
with_home homes gfid set other = if is_eq (gfid_cmp other gfid) then set else homes other

-- the objects after an op with an effect: an added name is a new object's, which lives on the set
abbrev pub kinds_after : (Gfid → Option Kind) → StoreOp → Gfid → Option Kind
kinds_after kinds (op.AddName parent item mode span) = with_kind kinds item.gfid item.kind
kinds_after kinds other = kinds

abbrev pub homes_after : Homes → ℕ → StoreOp → Homes
homes_after homes set (op.AddName parent item mode span) = with_home homes item.gfid set
homes_after homes set other = homes

-- what was, or what an effect makes of it
module _ {A : Type 0} where
  abbrev pub by_effect : Option Entry → A → A → A
  by_effect None same changed = same
  by_effect (Some entry) same changed = changed

abbrev pub ops_with : List FlatOp → Option FlatOp → List FlatOp
ops_with ops None = ops
ops_with ops (Some o) = ops ++ o ∷ []

abbrev pub history_with : List Entry → Option Entry → List Entry
history_with history None = history
history_with history (Some entry) = history ++ entry ∷ []

-- the history with an entry, and what it makes of the file system's objects
abbrev pub entering : State → ℕ → StoreOp → Option Entry → State
entering m set o effect = record m {
  kinds = by_effect effect m.kinds (kinds_after m.kinds o);
  homes = by_effect effect m.homes (homes_after m.homes set o);
  ops = by_effect effect m.ops (ops_with m.ops (change_of o));
  history = history_with m.history effect;
}

-- a set applies an op where it fits
abbrev pub applied : Contents → StoreOp → Contents
applied contents o = if fits contents o then contents_after contents o else contents

abbrev pub with_contents : State → ℕ → Contents → State
with_contents m set contents = record m { adopted = with_at m.adopted set contents }

abbrev pub adopting : State → ℕ → State
adopting m u =
    let change = m.changes u in
    entering
    (with_contents (with_change m u (record change { verdict = Adopted })) change.set (applied (m.adopted change.set) change.op))
    change.set change.op change.effect

abbrev pub dropping : State → ℕ → State
dropping m u = with_change m u (record (m.changes u) { verdict = Dropped })

abbrev pub deciding : State → ℕ → Bool → State
deciding m u true = adopting m u
deciding m u false = dropping m u

-- ---- what a fop has seen, after a change that it made

abbrev pub is_of : Change → Sight → Bool
is_of change sight = (change.set == sight.set) && has_cell change.cells sight.cell

abbrev pub sees_again : SetContents → Change → Sight → Sight
sees_again adopted change sight = if is_of change sight then record sight { content = adopted sight.set sight.cell } else sight

-- the change's cells have now what is adopted
abbrev pub sees : SetContents → Change → List Sight → List Sight
sees adopted change [] = []
sees adopted change (sight ∷ saw) = sees_again adopted change sight ∷ sees adopted change saw

-- ---- jobs

abbrev pub at_stage : Run → Stage → Run
at_stage run stage = record run { stage = stage }

abbrev pub settling : State → Task → ℕ → Bool → State
settling m t u adopts =
    with_run (deciding m u adopts) t.call (record t.run { saw = sees (deciding m u adopts).adopted (m.changes u) t.run.saw })

abbrev pub ending_settling : State → Task → State
ending_settling m t =
    with_run m t.call (record t.run { stage = Settled (length m.history); settled = record { set = t.set; cells = cells_of_job t.job } ∷ t.run.settled })

-- the change that a job makes
abbrev pub change_by : ℕ → ℕ → Job → Change
change_by c set (job.Change cells fd o effect) = record { by = c; set = set; cells = cells; op = o; effect = effect; verdict = Unsettled }
change_by c set other = no_change

-- the cells to which a job gives birth
abbrev pub births_by : Job → List (Cell × Content)
births_by (job.Change cells fd o effect) = births o
births_by (job.Birth cells o) = births o
births_by other = []

-- these births are sent
abbrev pub with_births : State → ℕ → List (Cell × Content) → State
with_births m set bs = record m { born = with_at m.born set (after_births (m.born set) bs) }

abbrev pub beginning_change : State → Task → ℕ → State
beginning_change m t u =
    with_births
    (with_firm
    (with_change
    (with_run m t.call (at_stage t.run (Changing u)))
    u (change_by t.call t.set t.job)) t.set (cells_of_job t.job)) t.set (births_by t.job)

-- the number of the entry that a change makes, where it is the next one
abbrev pub number_after : State → Option Entry → Option ℕ
number_after m None = None
number_after m (Some entry) = Some (length m.history + 1)

abbrev pub deciding_own : State → Task → ℕ → State
deciding_own m t u =
    with_run (adopting m u) t.call
    (record t.run { stage = Decided (number_after m (m.changes u).effect); saw = sees (adopting m u).adopted (m.changes u) t.run.saw })

abbrev pub sending_births : State → Task → State
sending_births m t =
    with_births
    (with_contents
    (with_run m t.call (at_stage t.run Bearing))
    t.set (after_births (m.adopted t.set) (births_by t.job))) t.set (births_by t.job)

abbrev pub confirming : State → Task → State
confirming m t = with_firm (with_run m t.call (at_stage t.run (Decided None))) t.set (cells_of_job t.job)

-- the cells of a read with what it showed
abbrev pub sights : ℕ → List Cell → List (Option Content) → List Sight
sights set [] contents = []
sights set (cell ∷ cells) [] = []
sights set (cell ∷ cells) (content ∷ contents) = record { set = set; cell = cell; content = content } ∷ sights set cells contents

abbrev pub contents_shown : SetReply → List (Option Content)
contents_shown (reply.Contents contents place) = contents
contents_shown other = []

abbrev pub sights_by : ℕ → Job → SetReply → List Sight
sights_by set (job.Read cells fd dir) shown = sights set cells (contents_shown shown)
sights_by set other shown = []

abbrev pub handing_in : State → Task → SetReply → State
handing_in m t shown =
    with_run m t.call (going_on t.run (Replied t.set t.job shown ∷ t.run.handed) (t.next shown) (sights_by t.set t.job shown ++ t.run.saw))

abbrev pub extending : State → ℕ → Run → Gfid → Course → State
extending m c run dir next = with_run m c (held_longer (going_on run (Held dir ∷ run.handed) next run.saw) dir)

-- ---- all

abbrev pub after : State → Step → State
after m (Submits draws) = submitted m draws
after m (Concludes c) = with_status m c Answered
after m (Switches names) = record m { names = names }
after m (Begins c f kept) = beginning m c f kept
after m (Settles t u adopts) = settling m t u adopts
after m (EndsSettling t) = ending_settling m t
after m (BeginsChange t u) = beginning_change m t u
after m (Decides t u) = deciding_own m t u
after m (SendsBirths t) = sending_births m t
after m (ConfirmsBirths t) = confirming m t
after m (HandsIn t shown) = handing_in m t shown
after m (Extends c run dir next) = extending m c run dir next
after m (Releases c run gfid) = with_run m c (released run gfid)
after m (Learns c run dir spans) = record m { learnt = (dir, spans) ∷ m.learnt }
after m (Answers c run answer place) = answering m c run answer place
after m (AnswersAbove c run answer) = answering m c run (fop_answer.Call answer) None
