-- Nothing is on sets that an unanswered call's graph lacks.
use Rattle.std.proofs.Common.{◌≡◌, ◌∙◌, ℕ, ◌+◌, ◌<◌, ◌≤◌, inl, inr, Bool, true, false, refl, sym, ap, subst, List, [], ◌∷◌, length, Option, Some, None, if◌then◌else◌, arith}
use Rattle.std.specs.Prelude.{◌≢◌}
use Rattle.std.specs.Ordering.{is_eq}
use Rattle.afr_machine.specs.Changes.{Verdict}
use Rattle.afr_machine.specs.Changes.Verdict.{Undrawn, Unsettled, Adopted, Dropped}
use Rattle.afr_machine.specs.Copies.{root_alone, contents_of}
use Rattle.afr_machine.specs.Replicas.{with_at}
use Rattle.afr_machine.specs.Touching.{is_cell}
use Rattle.dht_fops.specs.Courses.{Course}
use Rattle.dht_fops.specs.Handed.{Always, AnyHold}
use Rattle.dht_fops.specs.Shown.{SetContents, Homes}
use Rattle.fop_types.specs.Bounds.{Each}
use Rattle.fop_types.specs.Cells.{root, meta_cell, names_cell}
use Rattle.fop_types.specs.Orders.{gfid_cmp}
use Rattle.fop_types.specs.StoreOps.{Contents, items_of, after_births}
use Rattle.fop_types.specs.declared.answers.FopAnswer.{FopAnswer}
use Rattle.fop_types.specs.declared.answers.FopAnswer.TheVariants as fop_answer
use Rattle.fop_types.specs.declared.cells.Cell.{Cell}
use Rattle.fop_types.specs.declared.cells.Gfid.{Gfid}
use Rattle.fop_types.specs.declared.cells.Kind.{Kind}
use Rattle.fop_types.specs.declared.cells.Kind.TheVariants as kind
use Rattle.fop_types.specs.declared.fops.Object.{Object}
use Rattle.fop_types.specs.declared.history.Entry.{Entry}
use Rattle.fop_types.specs.declared.jobs.Job.{Job}
use Rattle.fop_types.specs.declared.jobs.Job.TheVariants as job
use Rattle.fop_types.specs.declared.jobs.SetReply.{SetReply}
use Rattle.fop_types.specs.declared.store_ops.StoreOp.{StoreOp}
use Rattle.fop_types.specs.declared.store_ops.StoreOp.TheVariants as op
use Rattle.mount_laws.specs.Graphs.{AreOnFirst, FirstSets, BeyondOld, IsPlanned, RunsInItsGraph, InItsGraph}
use Rattle.mount_laws.specs.Guards.{Allowed, IsReached, IsKnown, IsChange, IsBirth, objects_of}
use Rattle.mount_laws.specs.Holding.{JobAsked}
use Rattle.mount_laws.specs.Runs.{Run, begun, first_course}
use Rattle.mount_laws.specs.States.{State, Change, Call, Status, Runs, is_unanswered, set_count, start}
use Rattle.mount_laws.specs.States.Status.{Running, Answered}
use Rattle.mount_laws.specs.Steps.{Step, after, is_lookup, status_after, volume_of, object_in, change_by, births_by, by_effect, kinds_after, homes_after, with_kind, with_home, applied}
use Rattle.mount_laws.specs.Within.{IsWithin, AnswersWithin}
use Rattle.mount_laws.proofs.Beside.{each_map, each_append}
use Rattle.mount_laws.proofs.Held.{jobs_asked}
use Rattle.mount_laws.proofs.Leading.{led_always}
use Rattle.mount_laws.proofs.Moving.{unwrap, quiet}
use Rattle.mount_laws.proofs.Tables.{at_case}
use Rattle.mount_laws.proofs.Within.{courses_within}

-- ---- graphs

-- one call changes
call_graphed : (roots : ℕ) (names : List (List ℕ)) (calls : ℕ → Call) (c0 : ℕ) (call : Call) → RunsInItsGraph roots names calls
    → (is_unanswered call.status ≡ true → (roots ≤ length call.names) × (length call.names ≤ length names))
    → (is_unanswered call.status ≡ true → (d : ℕ) (run : Run) → (calls d).status ≡ Running run → length (calls d).names ≤ length call.names)
    → ((run : Run) → call.status ≡ Running run → IsPlanned c0 roots call.names run.fop run.volume run.names)
    → ((run : Run) → call.status ≡ Running run → (c : ℕ) → is_unanswered (calls c).status ≡ true → length call.names ≤ length (calls c).names)
    → RunsInItsGraph roots names (with_at calls c0 call)
call_graphed roots names calls c0 call g within turn plan before = record {
  some = g.some;
  first = g.first;
  unanswered = λ c. at_case (λ i (one : Call). is_unanswered one.status ≡ true → (roots ≤ length one.names) × (length one.names ≤ length names)) calls c0 call within c (λ differ. g.unanswered c);
  planned = λ c. at_case (λ i (one : Call). (run : Run) → one.status ≡ Running run → IsPlanned i roots one.names run.fop run.volume run.names) calls c0 call plan c (λ differ. g.planned c);
  in_turn = λ c d. at_case (λ i (one : Call). (run : Run) → is_unanswered one.status ≡ true → (with_at calls c0 call d).status ≡ Running run → length (with_at calls c0 call d).names ≤ length one.names) calls c0 call
      (at_case (λ j (other : Call). (run : Run) → is_unanswered call.status ≡ true → other.status ≡ Running run → length other.names ≤ length call.names) calls c0 call (λ run u e. omega arith) d (λ differ run u e. turn u d run e)) c
      (λ differ. at_case (λ j (other : Call). (run : Run) → is_unanswered (calls c).status ≡ true → other.status ≡ Running run → length other.names ≤ length (calls c).names) calls c0 call (λ run u e. before run e c u) d
      (λ more run u e. g.in_turn c d run u e));
}

-- a call that was unanswered goes on, or is answered
status_graphed : (roots : ℕ) (names : List (List ℕ)) (calls : ℕ → Call) (c : ℕ) (status : Status) → RunsInItsGraph roots names calls → is_unanswered (calls c).status ≡ true
    → ((run : Run) → status ≡ Running run → IsPlanned c roots (calls c).names run.fop run.volume run.names)
    → ((run : Run) → status ≡ Running run → (d : ℕ) → is_unanswered (calls d).status ≡ true → length (calls c).names ≤ length (calls d).names)
    → RunsInItsGraph roots names (with_at calls c (record (calls c) { status = status }))
status_graphed roots names calls c status g was plan before =
    call_graphed roots names calls c (record (calls c) { status = status }) g (λ u. g.unanswered c was) (λ u d run e. g.in_turn c d run was e) plan before

-- a fop goes on
run_graphed : (roots : ℕ) (names : List (List ℕ)) (calls : ℕ → Call) (c : ℕ) (old new : Run) → RunsInItsGraph roots names calls → (calls c).status ≡ Running old
    → (IsPlanned c roots (calls c).names old.fop old.volume old.names → IsPlanned c roots (calls c).names new.fop new.volume new.names) → RunsInItsGraph roots names (with_at calls c (record (calls c) { status = Running new }))
run_graphed roots names calls c old new g runs same =
    status_graphed roots names calls c (Running new) g (ap (λ (s : Status). is_unanswered s) runs)
    (λ run e. subst (λ (r : Run). IsPlanned c roots (calls c).names r.fop r.volume r.names) (unwrap new run e) (same (g.planned c old runs)))
    (λ run e d u. g.in_turn d c old u runs)

-- what is known of all is known of those that are among them
pub each_known : (P : Object → Type 0) (known : List Object) (object : Object) → Each P known → IsKnown known object → P object
each_known P [] object e k = absurd k
each_known P (one ∷ known) object e (inl same) = subst P same e.0
each_known P (one ∷ known) object e (inr k) = each_known P known object e.1 k

step_graphed : (m : State) (step : Step) → Allowed m step → BeyondOld m → InItsGraph m → InItsGraph (after m step)
step_graphed m (Step.Submits draws) h b g =
    call_graphed m.root_sets m.names m.calls (m.submitted + 1) _ g (λ u. (g.first, omega arith))
    (λ u d run e. (g.unanswered d (ap (λ (s : Status). is_unanswered s) e)).1) (λ run e. absurd cc) (λ run e. absurd cc)
step_graphed m (Step.Concludes c) h b g = status_graphed m.root_sets m.names m.calls c Answered g (ap (λ (s : Status). is_unanswered s) h) (λ run e. absurd cc) (λ run e. absurd cc)
step_graphed m (Step.Switches names) h b g = record {
  some = g.some;
  first = let more = h.enough in let few = g.first in omega arith;
  unanswered = λ c u. let old = g.unanswered c u in (old.0, let more = h.enough in let few = old.1 in omega arith);
  planned = g.planned;
  in_turn = g.in_turn;
}
step_graphed m (Step.Begins c f kept) h b g =
    let was : is_unanswered (m.calls c).status ≡ true = ap (λ (s : Status). is_unanswered s) h.ready in
    status_graphed m.root_sets m.names m.calls c (Running (begun f (volume_of m c) (m.calls c).names kept)) g was
    (λ run e. subst (λ (r : Run). IsPlanned c m.root_sets (m.calls c).names r.fop r.volume r.names) (unwrap (begun f (volume_of m c) (m.calls c).names kept) run e)
    (record {
      call_is = refl;
      names_are = refl;
      sets = refl;
      roots = refl;
      objects = each_map (IsKnown m.known) (λ (object : Object). object.set < length (m.calls c).names) (objects_of f)
          (λ object k. each_known (λ (one : Object). one.set < length (m.calls c).names) m.known object (b.unanswered c was).answered k) h.known;
    }))
    (λ run e d u. h.in_turn d u)
step_graphed m (Step.Settles t u true) h b g = run_graphed m.root_sets m.names m.calls t.call t.run _ g h.under_way.runs (λ p. p)
step_graphed m (Step.Settles t u false) h b g = run_graphed m.root_sets m.names m.calls t.call t.run _ g h.under_way.runs (λ p. p)
step_graphed m (Step.EndsSettling t) h b g = run_graphed m.root_sets m.names m.calls t.call t.run _ g h.under_way.runs (λ p. p)
step_graphed m (Step.BeginsChange t u) h b g = run_graphed m.root_sets m.names m.calls t.call t.run _ g h.under_way.runs (λ p. p)
step_graphed m (Step.Decides t u) h b g = run_graphed m.root_sets m.names m.calls t.call t.run _ g h.under_way.runs (λ p. p)
step_graphed m (Step.SendsBirths t) h b g = run_graphed m.root_sets m.names m.calls t.call t.run _ g h.under_way.runs (λ p. p)
step_graphed m (Step.ConfirmsBirths t) h b g = run_graphed m.root_sets m.names m.calls t.call t.run _ g h.under_way.runs (λ p. p)
step_graphed m (Step.HandsIn t shown) h b g = run_graphed m.root_sets m.names m.calls t.call t.run _ g h.under_way.runs (λ p. p)
step_graphed m (Step.Extends c run dir next) h b g = run_graphed m.root_sets m.names m.calls c run _ g h.runs (λ p. p)
step_graphed m (Step.Releases c run gfid) h b g = run_graphed m.root_sets m.names m.calls c run _ g h.runs (λ p. p)
step_graphed m (Step.Learns c run dir spans) h b g = g
step_graphed m (Step.Answers c run answer place) h b g =
    status_graphed m.root_sets m.names m.calls c (status_after (is_lookup run.fop) answer) g (ap (λ (s : Status). is_unanswered s) h.runs)
    (λ other e. absurd (quiet (is_lookup run.fop) answer other e)) (λ other e. absurd (quiet (is_lookup run.fop) answer other e))
step_graphed m (Step.AnswersAbove c run answer) h b g =
    status_graphed m.root_sets m.names m.calls c (status_after (is_lookup run.fop) (fop_answer.Call answer)) g (ap (λ (s : Status). is_unanswered s) h.runs)
    (λ other e. absurd (quiet (is_lookup run.fop) (fop_answer.Call answer) other e)) (λ other e. absurd (quiet (is_lookup run.fop) (fop_answer.Call answer) other e))

-- ---- where a fop works

module _ (m : State) (asked : JobAsked m) (g : InItsGraph m) (c : ℕ) (run : Run) (runs : Runs m c run) where
  always_within : Always (IsWithin run.volume.sets) AnyHold (AnswersWithin run.volume.sets) run.handed run.course
  always_within =
      let p = g.planned c run runs in
      let known = g.unanswered c (ap (λ (s : Status). is_unanswered s) runs) in
      led_always (IsWithin run.volume.sets) AnyHold (AnswersWithin run.volume.sets) (first_course run) run.handed run.course (asked c run runs)
      ((courses_within run.volume run.names run.kept run.fop (let r = p.roots in let s = g.some in omega arith) (let r = p.roots in let s = p.sets in let k = known.0 in omega arith)
      (let many : length run.names ≡ length (m.calls c).names = ap (λ (n : List (List ℕ)). length n) p.names_are in many ∙ sym p.sets) (subst (λ (n : ℕ). Each (λ (object : Object). object.set < n) (objects_of run.fop)) (sym p.sets) p.objects)).at [])

  pub job_within : (set : ℕ) (wanted : Job) (next : SetReply → Course) → run.course ≡ Course.Asks set wanted next → IsWithin run.volume.sets run.handed set wanted
  job_within set wanted next e = (subst (λ (course : Course). Always (IsWithin run.volume.sets) AnyHold (AnswersWithin run.volume.sets) run.handed course) e always_within).0

  pub answer_within : (answer : FopAnswer) (place : Option ℕ) → run.course ≡ Course.Ends answer place → AnswersWithin run.volume.sets run.handed answer place
  answer_within answer place e = subst (λ (course : Course). Always (IsWithin run.volume.sets) AnyHold (AnswersWithin run.volume.sets) run.handed course) e always_within

-- ---- what is on the first sets

decided_begun : (changes : ℕ → Change) (u : ℕ) (verdict : Verdict) (count : ℕ) → (changes u).verdict ≡ Unsettled → ((w : ℕ) → (changes w).verdict ≢ Undrawn → (changes w).set < count)
    → (w : ℕ) → (with_at changes u (record (changes u) { verdict = verdict }) w).verdict ≢ Undrawn → (with_at changes u (record (changes u) { verdict = verdict }) w).set < count
decided_begun changes u verdict count was a w =
    at_case (λ i (one : Change). one.verdict ≢ Undrawn → one.set < count) changes u (record (changes u) { verdict = verdict })
    (λ drawn. a u (λ e. let clash : Unsettled ≡ Undrawn = sym was ∙ e in absurd cc)) w (λ differ. a w)

named_homed : (kinds : Gfid → Option Kind) (homes : Homes) (set count : ℕ) (gfid : Gfid) (k : Kind) → set < count → ((g : Gfid) → kinds g ≡ Some kind.File → homes g < count)
    → (g : Gfid) → with_kind kinds gfid k g ≡ Some kind.File → with_home homes gfid set g < count
named_homed kinds homes set count gfid k h a g = by_case (is_eq (gfid_cmp g gfid))
  where
    by_case : (b : Bool) → (if b then Some k else kinds g) ≡ Some kind.File → (if b then set else homes g) < count
    by_case true e = h
    by_case false e = a g e

op_homed : (kinds : Gfid → Option Kind) (homes : Homes) (set count : ℕ) (o : StoreOp) → set < count → ((g : Gfid) → kinds g ≡ Some kind.File → homes g < count)
    → (g : Gfid) → kinds_after kinds o g ≡ Some kind.File → homes_after homes set o g < count
op_homed kinds homes set count (op.AddName parent item mode span) h a = named_homed kinds homes set count item.gfid item.kind h a
op_homed kinds homes set count (op.Write gfid offset bytes) h a = a
op_homed kinds homes set count (op.Truncate gfid size) h a = a
op_homed kinds homes set count (op.SetMode gfid mode) h a = a
op_homed kinds homes set count (op.SetAttr gfid attr) h a = a
op_homed kinds homes set count (op.DelAttr gfid name) h a = a
op_homed kinds homes set count (op.DropName parent name) h a = a
op_homed kinds homes set count (op.DropDir parent name gfid) h a = a
op_homed kinds homes set count (op.Move parent name target new_name) h a = a
op_homed kinds homes set count (op.MakeCopy gfid span) h a = a

effect_homed : (kinds : Gfid → Option Kind) (homes : Homes) (set count : ℕ) (o : StoreOp) (effect : Option Entry) → set < count → ((g : Gfid) → kinds g ≡ Some kind.File → homes g < count)
    → (g : Gfid) → by_effect effect kinds (kinds_after kinds o) g ≡ Some kind.File → by_effect effect homes (homes_after homes set o) g < count
effect_homed kinds homes set count o None h a = a
effect_homed kinds homes set count o (Some entry) h a = op_homed kinds homes set count o h a

set_nameless : (adopted : SetContents) (set count : ℕ) (new : Contents) → set < count → ((s : ℕ) (dir : Gfid) → count ≤ s → items_of (adopted s (names_cell dir)) ≡ []) → (s : ℕ) (dir : Gfid) → count ≤ s → items_of (with_at adopted set new s (names_cell dir)) ≡ []
set_nameless adopted set count new h a s dir =
    at_case (λ i (one : Contents). count ≤ i → items_of (one (names_cell dir)) ≡ []) adopted set new (λ more. absurd (omega (arith, h, more))) s (λ differ. a s dir)

-- the change that is adopted is on one of them
adopted_first : (m : State) (u count : ℕ) → (m.changes u).verdict ≡ Unsettled → FirstSets m count
    → AreOnFirst m.known (with_at m.changes u (record (m.changes u) { verdict = Adopted })) (by_effect (m.changes u).effect m.kinds (kinds_after m.kinds (m.changes u).op))
    (by_effect (m.changes u).effect m.homes (homes_after m.homes (m.changes u).set (m.changes u).op))
    (with_at m.adopted (m.changes u).set (applied (m.adopted (m.changes u).set) (m.changes u).op)) count
adopted_first m u count was a =
    let on = a.begun u (λ e. let clash : Unsettled ≡ Undrawn = sym was ∙ e in absurd cc) in
    record {
      answered = a.answered;
      begun = decided_begun m.changes u Adopted count was a.begun;
      homed = effect_homed m.kinds m.homes (m.changes u).set count (m.changes u).op (m.changes u).effect on a.homed;
      no_names = set_nameless m.adopted (m.changes u).set count (applied (m.adopted (m.changes u).set) (m.changes u).op) on a.no_names;
    }

-- each step of a fop whose sets are among the first
step_first : (m : State) (step : Step) → Allowed m step → JobAsked m → InItsGraph m → (count : ℕ) → ((c : ℕ) (run : Run) → Runs m c run → run.volume.sets ≤ count) → FirstSets m count → FirstSets (after m step) count
step_first m (Step.Submits draws) h asked g count few a = a
step_first m (Step.Concludes c) h asked g count few a = a
step_first m (Step.Switches names) h asked g count few a = a
step_first m (Step.Begins c f kept) h asked g count few a = a
step_first m (Step.Settles t u true) h asked g count few a = adopted_first m u count h.unsettled.verdict a
step_first m (Step.Settles t u false) h asked g count few a = record { answered = a.answered; begun = decided_begun m.changes u Dropped count h.unsettled.verdict a.begun; homed = a.homed; no_names = a.no_names }
step_first m (Step.EndsSettling t) h asked g count few a = a
step_first m (Step.BeginsChange t u) h asked g count few a = record {
  answered = a.answered;
  begun = λ w. at_case (λ i (one : Change). one.verdict ≢ Undrawn → one.set < count) m.changes u (change_by t.call t.set t.job)
      (λ drawn. made t.job h.is_change (job_within m asked g t.call t.run h.under_way.runs t.set t.job t.next h.under_way.asks)) w (λ differ. a.begun w);
  homed = a.homed;
  no_names = a.no_names;
}
  where
    made : (wanted : Job) → IsChange wanted → IsWithin t.run.volume.sets t.run.handed t.set wanted → (change_by t.call t.set wanted).set < count
    made (job.Change cells fd o effect) is k = let most = few t.call t.run h.under_way.runs in omega (arith, most, k)
    made (job.Read cells fd dir) is k = absurd is
    made (job.Birth cells o) is k = absurd is
    made (job.Open fd gfid) is k = absurd is
    made job.Index is k = absurd is
    made (job.Heal cell) is k = absurd is
step_first m (Step.Decides t u) h asked g count few a = adopted_first m u count h.unsettled a
step_first m (Step.SendsBirths t) h asked g count few a = record {
  answered = a.answered;
  begun = a.begun;
  homed = a.homed;
  no_names = set_nameless m.adopted t.set count (after_births (m.adopted t.set) (births_by t.job)) (on t.job h.is_birth (job_within m asked g t.call t.run h.under_way.runs t.set t.job t.next h.under_way.asks)) a.no_names;
}
  where
    on : (wanted : Job) → IsBirth wanted → IsWithin t.run.volume.sets t.run.handed t.set wanted → t.set < count
    on (job.Birth cells o) is k = let most = few t.call t.run h.under_way.runs in omega (arith, most, k)
    on (job.Change cells fd o effect) is k = absurd is
    on (job.Read cells fd dir) is k = absurd is
    on (job.Open fd gfid) is k = absurd is
    on job.Index is k = absurd is
    on (job.Heal cell) is k = absurd is
step_first m (Step.ConfirmsBirths t) h asked g count few a = a
step_first m (Step.HandsIn t shown) h asked g count few a = a
step_first m (Step.Extends c run dir next) h asked g count few a = a
step_first m (Step.Releases c run gfid) h asked g count few a = a
step_first m (Step.Learns c run dir spans) h asked g count few a = a
step_first m (Step.AnswersAbove c run answer) h asked g count few a = a
step_first m (Step.Answers c run answer place) h asked g count few a = record {
  answered = each_append (λ (object : Object). object.set < count) (object_in answer) m.known (named answer (answer_within m asked g c run h.runs answer place h.ends)) a.answered;
  begun = a.begun;
  homed = a.homed;
  no_names = a.no_names;
}
  where
    named : (one : FopAnswer) → AnswersWithin run.volume.sets run.handed one place → Each (λ (object : Object). object.set < count) (object_in one)
    named (fop_answer.Found set gfid kind) k = (let most = few c run h.runs in let within = k.0 in omega (arith, most, within), tt)
    named (fop_answer.Call answer) k = tt

-- ---- all

-- more sets
more_first : (m : State) (few more : ℕ) → few ≤ more → FirstSets m few → FirstSets m more
more_first m few more h a = record {
  answered = each_map (λ (object : Object). object.set < few) (λ (object : Object). object.set < more) m.known (λ object k. omega (arith, h, k)) a.answered;
  begun = λ u drawn. let k = a.begun u drawn in omega (arith, h, k);
  homed = λ gfid e. let k = a.homed gfid e in omega (arith, h, k);
  no_names = λ set dir k. a.no_names set dir (omega (arith, h, k));
}

record Both (m : State) : Type 0 where
  pub graphs : InItsGraph m
  pub beyond : BeyondOld m

few_sets : (m : State) → InItsGraph m → (c : ℕ) → is_unanswered (m.calls c).status ≡ true → (d : ℕ) (run : Run) → Runs m d run → run.volume.sets ≤ length (m.calls c).names
few_sets m g c u d run runs = let p = (g.planned d run runs).sets in let t = g.in_turn c d run u runs in omega (arith, p, t)

step_newest : (m : State) (step : Step) → Allowed m step → JobAsked m → InItsGraph m → FirstSets m (set_count m) → FirstSets (after m step) (set_count m)
step_newest m step h asked g a =
    step_first m step h asked g (set_count m) (λ c run runs. let p = (g.planned c run runs).sets in let w = (g.unanswered c (ap (λ (s : Status). is_unanswered s) runs)).1 in omega (arith, p, w)) a

-- an unanswered call was one before
one_unanswered : (m new : State) (c : ℕ) (call : Call) → (is_unanswered call.status ≡ true → FirstSets new (length call.names)) → ((i : ℕ) → is_unanswered (m.calls i).status ≡ true → FirstSets new (length (m.calls i).names))
    → (i : ℕ) → is_unanswered (with_at m.calls c call i).status ≡ true → FirstSets new (length (with_at m.calls c call i).names)
one_unanswered m new c call one rest i = at_case (λ j (x : Call). is_unanswered x.status ≡ true → FirstSets new (length x.names)) m.calls c call one i (λ differ. rest i)

step_beyond : (m : State) (step : Step) → Allowed m step → JobAsked m → InItsGraph m → BeyondOld m → BeyondOld (after m step)
step_beyond m step h asked g b = by_step step h
  where
    rest : (one : Step) → Allowed m one → (c : ℕ) → is_unanswered (m.calls c).status ≡ true → FirstSets (after m one) (length (m.calls c).names)
    rest one k c u = step_first m one k asked g (length (m.calls c).names) (few_sets m g c u) (b.unanswered c u)

    newest : (one : Step) → Allowed m one → FirstSets (after m one) (set_count m)
    newest one k = step_newest m one k asked g b.newest

    was_running : (c : ℕ) (run : Run) → Runs m c run → is_unanswered (m.calls c).status ≡ true
    was_running c run runs = ap (λ (s : Status). is_unanswered s) runs

    goes : (one : Step) → Allowed m one → (c : ℕ) (status : Status) → is_unanswered (m.calls c).status ≡ true
        → (i : ℕ) → is_unanswered (with_at m.calls c (record (m.calls c) { status = status }) i).status ≡ true → FirstSets (after m one) (length (with_at m.calls c (record (m.calls c) { status = status }) i).names)
    goes one k c status was = one_unanswered m (after m one) c (record (m.calls c) { status = status }) (λ u. rest one k c was) (rest one k)

    by_step : (one : Step) → Allowed m one → BeyondOld (after m one)
    by_step (Step.Submits draws) k = record {
      unanswered = one_unanswered m (after m (Step.Submits draws)) (m.submitted + 1) _ (λ u. newest (Step.Submits draws) k) (rest (Step.Submits draws) k);
      newest = newest (Step.Submits draws) k;
    }
    by_step (Step.Concludes c) k = record { unanswered = goes (Step.Concludes c) k c _ (ap (λ (s : Status). is_unanswered s) k); newest = newest (Step.Concludes c) k }
    by_step (Step.Switches names) k = record {
      unanswered = rest (Step.Switches names) k;
      newest = more_first (after m (Step.Switches names)) (set_count m) (length names) k.enough (newest (Step.Switches names) k);
    }
    by_step (Step.Begins c f kept) k = record { unanswered = goes (Step.Begins c f kept) k c _ (ap (λ (s : Status). is_unanswered s) k.ready); newest = newest (Step.Begins c f kept) k }
    by_step (Step.Settles t u true) k = record { unanswered = goes (Step.Settles t u true) k t.call _ (was_running t.call t.run k.under_way.runs); newest = newest (Step.Settles t u true) k }
    by_step (Step.Settles t u false) k = record { unanswered = goes (Step.Settles t u false) k t.call _ (was_running t.call t.run k.under_way.runs); newest = newest (Step.Settles t u false) k }
    by_step (Step.EndsSettling t) k = record { unanswered = goes (Step.EndsSettling t) k t.call _ (was_running t.call t.run k.under_way.runs); newest = newest (Step.EndsSettling t) k }
    by_step (Step.BeginsChange t u) k = record { unanswered = goes (Step.BeginsChange t u) k t.call _ (was_running t.call t.run k.under_way.runs); newest = newest (Step.BeginsChange t u) k }
    by_step (Step.Decides t u) k = record { unanswered = goes (Step.Decides t u) k t.call _ (was_running t.call t.run k.under_way.runs); newest = newest (Step.Decides t u) k }
    by_step (Step.SendsBirths t) k = record { unanswered = goes (Step.SendsBirths t) k t.call _ (was_running t.call t.run k.under_way.runs); newest = newest (Step.SendsBirths t) k }
    by_step (Step.ConfirmsBirths t) k = record { unanswered = goes (Step.ConfirmsBirths t) k t.call _ (was_running t.call t.run k.under_way.runs); newest = newest (Step.ConfirmsBirths t) k }
    by_step (Step.HandsIn t shown) k = record { unanswered = goes (Step.HandsIn t shown) k t.call _ (was_running t.call t.run k.under_way.runs); newest = newest (Step.HandsIn t shown) k }
    by_step (Step.Extends c run dir next) k = record { unanswered = goes (Step.Extends c run dir next) k c _ (was_running c run k.runs); newest = newest (Step.Extends c run dir next) k }
    by_step (Step.Releases c run gfid) k = record { unanswered = goes (Step.Releases c run gfid) k c _ (was_running c run k.runs); newest = newest (Step.Releases c run gfid) k }
    by_step (Step.Learns c run dir spans) k = record { unanswered = rest (Step.Learns c run dir spans) k; newest = newest (Step.Learns c run dir spans) k }
    by_step (Step.Answers c run answer place) k = record { unanswered = goes (Step.Answers c run answer place) k c _ (was_running c run k.runs); newest = newest (Step.Answers c run answer place) k }
    by_step (Step.AnswersAbove c run answer) k = record { unanswered = goes (Step.AnswersAbove c run answer) k c _ (was_running c run k.runs); newest = newest (Step.AnswersAbove c run answer) k }

-- the root alone, on the first set
start_first : (first : List (List ℕ)) → 1 ≤ length first → FirstSets (start first) (length first)
start_first first some = record {
  answered = (omega (arith, some), tt);
  begun = λ u drawn. absurd (drawn refl);
  homed = λ gfid e. omega (arith, some);
  no_names = λ set dir more. none (names_cell dir);
}
  where
    none : (cell : Cell) → items_of (contents_of root_alone cell) ≡ []
    none cell = by_meta (is_cell cell (meta_cell root)) refl
      where
        by_names : (x : Bool) → is_cell cell (meta_cell root) ≡ false → is_cell cell (names_cell root) ≡ x → items_of (contents_of root_alone cell) ≡ []
        by_names true e f = rw (e, f) refl
        by_names false e f = rw (e, f) refl

        by_meta : (x : Bool) → is_cell cell (meta_cell root) ≡ x → items_of (contents_of root_alone cell) ≡ []
        by_meta true e = rw e refl
        by_meta false e = by_names (is_cell cell (names_cell root)) e refl

both : (first : List (List ℕ)) (m : State) → IsReached first m → Both m
both first _ (IsReached.Start planned) = record {
  graphs = record { some = planned.enough; first = let same : length first ≤ length first = omega arith in same; unanswered = λ c u. absurd cc; planned = λ c run e. absurd cc; in_turn = λ c d run u. absurd cc };
  beyond = record { unanswered = λ c u. absurd cc; newest = start_first first planned.enough };
}
both first _ (IsReached.Further old step reached allowed) =
    let a = both first old reached in
    record { graphs = step_graphed old step allowed a.beyond a.graphs; beyond = step_beyond old step allowed (jobs_asked first old reached) a.graphs a.beyond }

pub beyond_old : (first : List (List ℕ)) (m : State) → IsReached first m → BeyondOld m
beyond_old first m reached = (both first m reached).beyond

pub in_its_graph : (first : List (List ℕ)) (m : State) → IsReached first m → InItsGraph m
in_its_graph first m reached = (both first m reached).graphs
