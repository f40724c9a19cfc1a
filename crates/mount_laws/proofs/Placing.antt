-- The places of a call rise from the length of the history at its submission to the length now.
use Rattle.std.proofs.Common.{◌≡◌, ◌∙◌, ℕ, ◌+◌, ◌<◌, ◌≤◌, true, false, refl, sym, ap, subst, List, [], ◌∷◌, ◌++◌, length, Option, Some, None, arith}
use Rattle.std.specs.Prelude.{◌≢◌}
use Rattle.std.proofs.lemmas.List.{length_push}
use Rattle.afr_machine.specs.Replicas.{with_at}
use Rattle.dht_fops.specs.Courses.{Course}
use Rattle.dht_fops.specs.Fops.{fop_course}
use Rattle.dht_fops.specs.Handed.{Handed, Always, AnyJob, AnyHold}
use Rattle.dht_fops.specs.Handed.Event.{Replied, Held}
use Rattle.dht_laws.specs.Places.{last_place, place_after, IsPlaced, FopsPlaceAnswers}
use Rattle.fop_types.specs.Jobs.{IsAnsweredBy}
use Rattle.fop_types.specs.declared.answers.Answer.{Answer}
use Rattle.fop_types.specs.declared.answers.Answer.TheVariants as answers
use Rattle.fop_types.specs.declared.answers.FopAnswer.{FopAnswer}
use Rattle.fop_types.specs.declared.answers.FopAnswer.TheVariants as fop_answer
use Rattle.fop_types.specs.declared.cells.Gfid.{Gfid}
use Rattle.fop_types.specs.declared.cells.Kind.{Kind}
use Rattle.fop_types.specs.declared.history.Entry.{Entry}
use Rattle.fop_types.specs.declared.jobs.Job.{Job}
use Rattle.fop_types.specs.declared.jobs.Job.TheVariants as job
use Rattle.fop_types.specs.declared.jobs.SetReply.{SetReply}
use Rattle.fop_types.specs.declared.jobs.SetReply.TheVariants as reply
use Rattle.mount_laws.specs.Guards.{Allowed, IsReached, IsReply, IsOpen, MayHandIn}
use Rattle.mount_laws.specs.Guards.IsReply.{Shows, Enters, Fails, Opens}
use Rattle.mount_laws.specs.Places.{RiseWithin, PlacesFixed}
use Rattle.mount_laws.specs.Runs.{Run, Stage, first_course, begun}
use Rattle.mount_laws.specs.Runs.Stage.{Waiting, Settled, Changing, Bearing, Decided}
use Rattle.mount_laws.specs.States.{State, Call, Status, Runs}
use Rattle.mount_laws.specs.States.Status.{Unsubmitted, Running}
use Rattle.mount_laws.specs.Steps.{Step, Task, after, is_lookup, status_after, place_of, number_after, history_with}
use Rattle.mount_laws.proofs.Beside.{counted, numbered}
use Rattle.mount_laws.proofs.Held.{jobs_asked}
use Rattle.mount_laws.proofs.Leading.{led_always}
use Rattle.mount_laws.proofs.Moving.{quiet, run_case, stop_case}
use Rattle.mount_laws.proofs.Tables.{at_case, at_both}

-- ---- rising numbers

rise_more : (least : ℕ) (places : List ℕ) (a b : ℕ) → a ≤ b → RiseWithin least places a → RiseWithin least places b
rise_more least [] a b h r = omega (arith, h, r)
rise_more least (place ∷ places) a b h r = (r.0, rise_more place places a b h r.1)

rise_push : (least : ℕ) (places : List ℕ) (p now : ℕ) → RiseWithin least places p → p ≤ now → RiseWithin least (places ++ p ∷ []) now
rise_push least [] p now r h = (r, h)
rise_push least (place ∷ places) p now r h = (r.0, rise_push place places p now r.1 h)

no_more : (places : List ℕ) → places ++ [] ≡ places
no_more [] = refl
no_more (place ∷ places) = ap (λ (ps : List ℕ). place ∷ ps) (no_more places)

longer : (history : List Entry) (effect : Option Entry) → length history ≤ length (history_with history effect)
longer history None = omega arith
longer history (Some entry) = let l : length (history ++ entry ∷ []) ≡ length history + 1 = length_push history entry in omega (arith, l)

-- ---- the place that a fop under way has

abbrev IsPlacedAt : ℕ → List ℕ → ℕ → ℕ → Type 0
IsPlacedAt least places now p = RiseWithin least places p × (p ≤ now)

abbrev IsNumberAt : ℕ → List ℕ → ℕ → Option ℕ → Type 0
IsNumberAt least places now None = Unit {0}
IsNumberAt least places now (Some number) = IsPlacedAt least places now number

abbrev IsStageAt : ℕ → List ℕ → ℕ → Stage → Type 0
IsStageAt least places now Waiting = Unit {0}
IsStageAt least places now (Settled place) = IsPlacedAt least places now place
IsStageAt least places now (Changing u) = Unit {0}
IsStageAt least places now Bearing = Unit {0}
IsStageAt least places now (Decided number) = IsNumberAt least places now number

record HasPlaces (least : ℕ) (places : List ℕ) (now : ℕ) (handed : Handed) (stage : Stage) : Type 0 where
  pub latest : IsNumberAt least places now (last_place handed)
  pub turn : IsStageAt least places now stage

module _ (least : ℕ) (places : List ℕ) (now new : ℕ) (h : now ≤ new) where
  place_later : (p : ℕ) → IsPlacedAt least places now p → IsPlacedAt least places new p
  place_later p a = (a.0, let k = a.1 in omega (arith, h, k))

  number_later : (number : Option ℕ) → IsNumberAt least places now number → IsNumberAt least places new number
  number_later None a = tt
  number_later (Some number) a = place_later number a

  stage_later : (stage : Stage) → IsStageAt least places now stage → IsStageAt least places new stage
  stage_later Waiting a = tt
  stage_later (Settled place) a = place_later place a
  stage_later (Changing u) a = tt
  stage_later Bearing a = tt
  stage_later (Decided number) a = number_later number a

  later : (handed : Handed) (stage : Stage) → HasPlaces least places now handed stage → HasPlaces least places new handed stage
  later handed stage a = record { latest = number_later (last_place handed) a.latest; turn = stage_later stage a.turn }

abbrev PlacedIn : State → ℕ → Run → Type 0
PlacedIn m c run = HasPlaces (m.since c) (m.places c) (length m.history) run.handed run.stage

abbrev RunsPlaced : State → Type 0
RunsPlaced m = (c : ℕ) (run : Run) → Runs m c run → PlacedIn m c run

-- the number of a new entry is above all places
new_number : (least : ℕ) (places : List ℕ) (history : List Entry) (effect : Option Entry) → RiseWithin least places (length history) → (number : Option ℕ) → ((entry : Entry) → effect ≡ Some entry → number ≡ Some (length history + 1)) → (effect ≡ None → number ≡ None)
    → IsNumberAt least places (length (history_with history effect)) number
new_number least places history None r number some none = subst (λ (n : Option ℕ). IsNumberAt least places (length history) n) (sym (none refl)) tt
new_number least places history (Some entry) r number some none =
    let l : length (history ++ entry ∷ []) ≡ length history + 1 = length_push history entry in
    subst (λ (n : Option ℕ). IsNumberAt least places (length (history ++ entry ∷ [])) n) (sym (some entry refl)) (rise_more least places (length history) (length history + 1) (omega arith) r, omega (arith, l))

some_number : (m : State) (effect : Option Entry) (entry : Entry) → effect ≡ Some entry → number_after m effect ≡ Some (length m.history + 1)
some_number m None entry e = absurd cc
some_number m (Some one) entry e = refl

no_number : (m : State) (effect : Option Entry) → effect ≡ None → number_after m effect ≡ None
no_number m None e = refl
no_number m (Some one) e = absurd cc

-- what a reply makes of the place
reply_placed : (m : State) (t : Task) (shown : SetReply) → MayHandIn m t shown → PlacedIn m t.call t.run → IsNumberAt (m.since t.call) (m.places t.call) (length m.history) (place_after (Replied t.set t.job shown) (last_place t.run.handed))
reply_placed m t shown h a = by_reply shown t.job refl h.is_reply h.fitting.answered
  where
    at_stage : (stage : Stage) → t.run.stage ≡ stage → IsStageAt (m.since t.call) (m.places t.call) (length m.history) stage
    at_stage stage e = subst (λ (s : Stage). IsStageAt (m.since t.call) (m.places t.call) (length m.history) s) e a.turn

    by_reply : (one : SetReply) (asked : Job) → t.job ≡ asked → IsReply m t one → IsAnsweredBy t.set h.fitting.quorum t.job one → IsNumberAt (m.since t.call) (m.places t.call) (length m.history) (place_after (Replied t.set asked one) (last_place t.run.handed))
    by_reply _ (job.Read cells fd dir) is (Shows shown_cells fd2 dir2 contents place e stage seen) fitting = at_stage (Settled place) stage
    by_reply _ (job.Change cells fd o effect) is (Shows shown_cells fd2 dir2 contents place e stage seen) fitting = let clash : job.Change cells fd o effect ≡ job.Read shown_cells fd2 dir2 = sym is ∙ e in absurd cc
    by_reply _ (job.Birth cells o) is (Shows shown_cells fd2 dir2 contents place e stage seen) fitting = a.latest
    by_reply _ (job.Open fd gfid) is (Shows shown_cells fd2 dir2 contents place e stage seen) fitting = a.latest
    by_reply _ job.Index is (Shows shown_cells fd2 dir2 contents place e stage seen) fitting = a.latest
    by_reply _ (job.Heal cell) is (Shows shown_cells fd2 dir2 contents place e stage seen) fitting = a.latest
    by_reply _ (job.Read cells fd dir) is (Enters number stage) fitting = absurd (subst (λ (j : Job). IsAnsweredBy t.set h.fitting.quorum j (reply.Decided number)) is fitting)
    by_reply _ (job.Change cells fd o (Some entry)) is (Enters number stage) fitting = at_stage (Decided number) stage
    by_reply _ (job.Change cells fd o None) is (Enters number stage) fitting = a.latest
    by_reply _ (job.Birth cells o) is (Enters number stage) fitting = a.latest
    by_reply _ (job.Open fd gfid) is (Enters number stage) fitting = a.latest
    by_reply _ job.Index is (Enters number stage) fitting = a.latest
    by_reply _ (job.Heal cell) is (Enters number stage) fitting = a.latest
    by_reply _ (job.Read cells fd dir) is (Fails error stage) fitting = tt
    by_reply _ (job.Change cells fd o (Some entry)) is (Fails error stage) fitting = tt
    by_reply _ (job.Change cells fd o None) is (Fails error stage) fitting = a.latest
    by_reply _ (job.Birth cells o) is (Fails error stage) fitting = a.latest
    by_reply _ (job.Open fd gfid) is (Fails error stage) fitting = a.latest
    by_reply _ job.Index is (Fails error stage) fitting = a.latest
    by_reply _ (job.Heal cell) is (Fails error stage) fitting = a.latest
    by_reply one (job.Read cells fd dir) is (Opens _ opens) fitting = absurd (subst IsOpen is opens)
    by_reply one (job.Change cells fd o effect) is (Opens _ opens) fitting = absurd (subst IsOpen is opens)
    by_reply one (job.Birth cells o) is (Opens _ opens) fitting = a.latest
    by_reply one (job.Open fd gfid) is (Opens _ opens) fitting = a.latest
    by_reply one job.Index is (Opens _ opens) fitting = a.latest
    by_reply one (job.Heal cell) is (Opens _ opens) fitting = a.latest

-- ---- the places of answers

module _ (least : ℕ) (places : List ℕ) (now : ℕ) (r : RiseWithin least places now) (handed : Handed) (latest : IsNumberAt least places now (last_place handed)) where
  same_now : now ≤ now
  same_now = omega arith

  placed_at : (p : ℕ) → Some p ≡ last_place handed → RiseWithin least (places ++ p ∷ []) now
  placed_at p is = let k : IsPlacedAt least places now p = subst (λ (n : Option ℕ). IsNumberAt least places now n) (sym is) latest in rise_push least places p now k.0 k.1

  placed_now : RiseWithin least (places ++ now ∷ []) now
  placed_now = rise_push least places now now r same_now

  found_placed : (set : ℕ) (gfid : Gfid) (k : Kind) (place : Option ℕ) → IsPlaced handed (fop_answer.Found set gfid k) place → RiseWithin least (places ++ place_of now (fop_answer.Found set gfid k) place) now
  found_placed set gfid k (Some p) is = placed_at p is
  found_placed set gfid k None is = placed_now

  call_placed : (a : Answer) (place : Option ℕ) → IsPlaced handed (fop_answer.Call a) place → RiseWithin least (places ++ place_of now (fop_answer.Call a) place) now
  call_placed answers.Done (Some p) is = placed_at p is
  call_placed answers.Done None is = placed_now
  call_placed (answers.Count n) (Some p) is = placed_at p is
  call_placed (answers.Count n) None is = placed_now
  call_placed (answers.Bytes bytes) (Some p) is = placed_at p is
  call_placed (answers.Bytes bytes) None is = placed_now
  call_placed (answers.Stat kind mode size) (Some p) is = placed_at p is
  call_placed (answers.Stat kind mode size) None is = placed_now
  call_placed (answers.List items) (Some p) is = placed_at p is
  call_placed (answers.List items) None is = placed_now
  call_placed (answers.App error) (Some p) is = placed_at p is
  call_placed (answers.App error) None is = placed_now
  call_placed (answers.Io error) place is = subst (λ (ps : List ℕ). RiseWithin least ps now) (sym (no_more places)) r

  answer_placed : (a : FopAnswer) (place : Option ℕ) → IsPlaced handed a place → RiseWithin least (places ++ place_of now a place) now
  answer_placed (fop_answer.Found set gfid k) place is = found_placed set gfid k place is
  answer_placed (fop_answer.Call a) place is = call_placed a place is

  -- without a place it is the length now
  now_placed : (a : Answer) → RiseWithin least (places ++ place_of now (fop_answer.Call a) None) now
  now_placed answers.Done = placed_now
  now_placed (answers.Count n) = placed_now
  now_placed (answers.Bytes bytes) = placed_now
  now_placed (answers.Stat kind mode size) = placed_now
  now_placed (answers.List items) = placed_now
  now_placed (answers.App error) = placed_now
  now_placed (answers.Io error) = subst (λ (ps : List ℕ). RiseWithin least ps now) (sym (no_more places)) r

-- ---- all

record ArePlaced (m : State) : Type 0 where
  pub fixed : PlacesFixed m
  pub none : (c : ℕ) → m.submitted < c → m.places c ≡ []
  pub runs : RunsPlaced m

-- the history has grown, and nothing else that places speak of
grown : (m : State) (history : List Entry) → length m.history ≤ length history → RunsPlaced m → (c : ℕ) (run : Run) → Runs m c run → HasPlaces (m.since c) (m.places c) (length history) run.handed run.stage
grown m history h a c run runs = later (m.since c) (m.places c) (length m.history) (length history) h run.handed run.stage (a c run runs)

stage_placed : (least : ℕ) (places : List ℕ) (now : ℕ) (handed : Handed) (old new : Stage) → HasPlaces least places now handed old → IsStageAt least places now new → HasPlaces least places now handed new
stage_placed least places now handed old new a k = record { latest = a.latest; turn = k }

step_runs : (m : State) (step : Step) → Allowed m step → PlacesFixed m → RunsPlaced m → RunsPlaced (after m step)
step_runs m (Step.Submits draws) h fixed a = λ i.
    at_both (λ j (call : Call) (since : ℕ). (run : Run) → call.status ≡ Running run → HasPlaces since (m.places j) (length m.history) run.handed run.stage) m.calls m.since (m.submitted + 1) _ (length m.history) (λ run e. absurd cc) i (λ differ. a i)
step_runs m (Step.Concludes c) h fixed a = stop_case (PlacedIn m) m.calls c _ (λ run e. absurd cc) a
step_runs m (Step.Switches names) h fixed a = a
step_runs m (Step.Begins c f kept) h fixed a = run_case (PlacedIn m) m.calls c _ (record { latest = tt; turn = tt }) (λ i other differ e. a i other e)
step_runs m (Step.Settles t u true) h fixed a =
    run_case (λ c (run : Run). HasPlaces (m.since c) (m.places c) (length (history_with m.history (m.changes u).effect)) run.handed run.stage) m.calls t.call _
    (grown m (history_with m.history (m.changes u).effect) (longer m.history (m.changes u).effect) a t.call t.run h.under_way.runs) (λ i other differ e. grown m (history_with m.history (m.changes u).effect) (longer m.history (m.changes u).effect) a i other e)
step_runs m (Step.Settles t u false) h fixed a = run_case (PlacedIn m) m.calls t.call _ (a t.call t.run h.under_way.runs) (λ i other differ e. a i other e)
step_runs m (Step.EndsSettling t) h fixed a =
    run_case (PlacedIn m) m.calls t.call _ (stage_placed (m.since t.call) (m.places t.call) (length m.history) t.run.handed t.run.stage (Settled (length m.history)) (a t.call t.run h.under_way.runs) (fixed t.call, omega arith)) (λ i other differ e. a i other e)
step_runs m (Step.BeginsChange t u) h fixed a =
    run_case (PlacedIn m) m.calls t.call _ (stage_placed (m.since t.call) (m.places t.call) (length m.history) t.run.handed t.run.stage (Changing u) (a t.call t.run h.under_way.runs) tt) (λ i other differ e. a i other e)
step_runs m (Step.Decides t u) h fixed a =
    run_case (λ c (run : Run). HasPlaces (m.since c) (m.places c) (length (history_with m.history (m.changes u).effect)) run.handed run.stage) m.calls t.call _
    (stage_placed (m.since t.call) (m.places t.call) (length (history_with m.history (m.changes u).effect)) t.run.handed t.run.stage (Decided (number_after m (m.changes u).effect))
    (grown m (history_with m.history (m.changes u).effect) (longer m.history (m.changes u).effect) a t.call t.run h.under_way.runs)
    (new_number (m.since t.call) (m.places t.call) m.history (m.changes u).effect (fixed t.call) (number_after m (m.changes u).effect) (λ entry e. some_number m (m.changes u).effect entry e) (λ e. no_number m (m.changes u).effect e)))
    (λ i other differ e. grown m (history_with m.history (m.changes u).effect) (longer m.history (m.changes u).effect) a i other e)
step_runs m (Step.SendsBirths t) h fixed a =
    run_case (PlacedIn m) m.calls t.call _ (stage_placed (m.since t.call) (m.places t.call) (length m.history) t.run.handed t.run.stage Bearing (a t.call t.run h.under_way.runs) tt) (λ i other differ e. a i other e)
step_runs m (Step.ConfirmsBirths t) h fixed a =
    run_case (PlacedIn m) m.calls t.call _ (stage_placed (m.since t.call) (m.places t.call) (length m.history) t.run.handed t.run.stage (Decided None) (a t.call t.run h.under_way.runs) tt) (λ i other differ e. a i other e)
step_runs m (Step.HandsIn t shown) h fixed a = run_case (PlacedIn m) m.calls t.call _ (record { latest = reply_placed m t shown h (a t.call t.run h.under_way.runs); turn = tt }) (λ i other differ e. a i other e)
step_runs m (Step.Extends c run dir next) h fixed a = run_case (PlacedIn m) m.calls c _ (record { latest = (a c run h.runs).latest; turn = tt }) (λ i other differ e. a i other e)
step_runs m (Step.Releases c run gfid) h fixed a = run_case (PlacedIn m) m.calls c _ (a c run h.runs) (λ i other differ e. a i other e)
step_runs m (Step.Learns c run dir spans) h fixed a = a
step_runs m (Step.Answers c run answer place) h fixed a = λ i.
    at_both (λ j (call : Call) (places : List ℕ). (one : Run) → call.status ≡ Running one → HasPlaces (m.since j) places (length m.history) one.handed one.stage) m.calls m.places c _ (m.places c ++ place_of (length m.history) answer place)
    (λ one e. absurd (quiet (is_lookup run.fop) answer one e)) i (λ differ. a i)
step_runs m (Step.AnswersAbove c run answer) h fixed a = λ i.
    at_both (λ j (call : Call) (places : List ℕ). (one : Run) → call.status ≡ Running one → HasPlaces (m.since j) places (length m.history) one.handed one.stage) m.calls m.places c _ (m.places c ++ place_of (length m.history) (fop_answer.Call answer) None)
    (λ one e. absurd (quiet (is_lookup run.fop) (fop_answer.Call answer) one e)) i (λ differ. a i)

still_fixed : (m : State) (history : List Entry) → length m.history ≤ length history → PlacesFixed m → (c : ℕ) → RiseWithin (m.since c) (m.places c) (length history)
still_fixed m history h a c = rise_more (m.since c) (m.places c) (length m.history) (length history) h (a c)

step_fixed : FopsPlaceAnswers → (first : List (List ℕ)) (m : State) (step : Step) → IsReached first m → Allowed m step → ArePlaced m → PlacesFixed (after m step)
step_fixed law first m (Step.Submits draws) reached h a = λ c.
    at_case (λ i (since : ℕ). RiseWithin since (m.places i) (length m.history)) m.since (m.submitted + 1) (length m.history)
    (subst (λ (ps : List ℕ). RiseWithin (length m.history) ps (length m.history)) (sym (a.none (m.submitted + 1) (omega arith))) (let same : length m.history ≤ length m.history = omega arith in same)) c (λ differ. a.fixed c)
step_fixed law first m (Step.Concludes c) reached h a = a.fixed
step_fixed law first m (Step.Switches names) reached h a = a.fixed
step_fixed law first m (Step.Begins c f kept) reached h a = a.fixed
step_fixed law first m (Step.Settles t u true) reached h a = still_fixed m (history_with m.history (m.changes u).effect) (longer m.history (m.changes u).effect) a.fixed
step_fixed law first m (Step.Settles t u false) reached h a = a.fixed
step_fixed law first m (Step.EndsSettling t) reached h a = a.fixed
step_fixed law first m (Step.BeginsChange t u) reached h a = a.fixed
step_fixed law first m (Step.Decides t u) reached h a = still_fixed m (history_with m.history (m.changes u).effect) (longer m.history (m.changes u).effect) a.fixed
step_fixed law first m (Step.SendsBirths t) reached h a = a.fixed
step_fixed law first m (Step.ConfirmsBirths t) reached h a = a.fixed
step_fixed law first m (Step.HandsIn t shown) reached h a = a.fixed
step_fixed law first m (Step.Extends c run dir next) reached h a = a.fixed
step_fixed law first m (Step.Releases c run gfid) reached h a = a.fixed
step_fixed law first m (Step.Learns c run dir spans) reached h a = a.fixed
step_fixed law first m (Step.Answers c run answer place) reached h a = λ i.
    at_case (λ j (places : List ℕ). RiseWithin (m.since j) places (length m.history)) m.places c (m.places c ++ place_of (length m.history) answer place)
    (answer_placed (m.since c) (m.places c) (length m.history) (a.fixed c) run.handed (a.runs c run h.runs).latest answer place ends) i (λ differ. a.fixed i)
  where
    ends : IsPlaced run.handed answer place
    ends = subst (λ (course : Course). Always AnyJob AnyHold IsPlaced run.handed course) h.ends (led_always AnyJob AnyHold IsPlaced (first_course run) run.handed run.course (jobs_asked first m reached c run h.runs) (law run.volume run.names run.kept run.fop))
step_fixed law first m (Step.AnswersAbove c run answer) reached h a = λ i.
    at_case (λ j (places : List ℕ). RiseWithin (m.since j) places (length m.history)) m.places c (m.places c ++ place_of (length m.history) (fop_answer.Call answer) None)
    (now_placed (m.since c) (m.places c) (length m.history) (a.fixed c) run.handed (a.runs c run h.runs).latest answer) i (λ differ. a.fixed i)

-- a call that was answered a fop was submitted
running_is : (m : State) (c : ℕ) (run : Run) → Runs m c run → (m.calls c).status ≢ Unsubmitted
running_is m c run runs e = let clash : Running run ≡ Unsubmitted = sym runs ∙ e in absurd cc

none_yet : (first : List (List ℕ)) (m : State) → IsReached first m → (c : ℕ) (run : Run) (places : List ℕ) → Runs m c run → ((i : ℕ) → m.submitted < i → m.places i ≡ []) → (i : ℕ) → m.submitted < i → with_at m.places c places i ≡ []
none_yet first m reached c run places runs a i =
    at_case (λ j (one : List ℕ). m.submitted < j → one ≡ []) m.places c places
    (λ less. absurd (let most = counted m (numbered first m reached) c (running_is m c run runs) in omega (arith, less, most))) i (λ differ. a i)

step_none : (first : List (List ℕ)) (m : State) (step : Step) → IsReached first m → Allowed m step → ((c : ℕ) → m.submitted < c → m.places c ≡ []) → (c : ℕ) → (after m step).submitted < c → (after m step).places c ≡ []
step_none first m (Step.Submits draws) reached h a = λ c less. a c (omega (arith, less))
step_none first m (Step.Concludes c) reached h a = a
step_none first m (Step.Switches names) reached h a = a
step_none first m (Step.Begins c f kept) reached h a = a
step_none first m (Step.Settles t u true) reached h a = a
step_none first m (Step.Settles t u false) reached h a = a
step_none first m (Step.EndsSettling t) reached h a = a
step_none first m (Step.BeginsChange t u) reached h a = a
step_none first m (Step.Decides t u) reached h a = a
step_none first m (Step.SendsBirths t) reached h a = a
step_none first m (Step.ConfirmsBirths t) reached h a = a
step_none first m (Step.HandsIn t shown) reached h a = a
step_none first m (Step.Extends c run dir next) reached h a = a
step_none first m (Step.Releases c run gfid) reached h a = a
step_none first m (Step.Learns c run dir spans) reached h a = a
step_none first m (Step.Answers c run answer place) reached h a = none_yet first m reached c run _ h.runs a
step_none first m (Step.AnswersAbove c run answer) reached h a = none_yet first m reached c run _ h.runs a

are_placed : FopsPlaceAnswers → (first : List (List ℕ)) (m : State) → IsReached first m → ArePlaced m
are_placed law first _ (IsReached.Start planned) = record { fixed = λ c. (let none : 0 ≤ 0 = omega arith in none); none = λ c less. refl; runs = λ c run runs. absurd cc }
are_placed law first _ (IsReached.Further old step reached allowed) =
    let a = are_placed law first old reached in
    record { fixed = step_fixed law first old step reached allowed a; none = step_none first old step reached allowed a.none; runs = step_runs old step allowed a.fixed a.runs }

pub places_fixed : FopsPlaceAnswers → (first : List (List ℕ)) (m : State) → IsReached first m → PlacesFixed m
places_fixed law first m reached = (are_placed law first m reached).fixed
