-- Each part of a call is begun once and in order, and the history has the effects of the adopted changes, each once.
use Rattle.std.proofs.Common.{◌≡◌, ◌∙◌, ℕ, zero, suc, ◌+◌, ◌<◌, ◌⊎◌, inl, inr, true, false, refl, sym, ap, subst, List, [], ◌∷◌, ◌++◌, length, Option, Some, None, arith}
use Rattle.std.specs.Prelude.{◌≢◌, slice_get}
use Rattle.std.proofs.lemmas.List.{length_push}
use Rattle.std.proofs.lemmas.Option.{slice_get_within}
use Rattle.afr_machine.specs.Changes.{Verdict}
use Rattle.afr_machine.specs.Changes.Verdict.{Undrawn, Unsettled, Adopted, Dropped}
use Rattle.afr_machine.specs.Replicas.{with_at}
use Rattle.afr_machine.proofs.Tables.{at_same, at_other}
use Rattle.dht_fops.specs.Answers.{change_of}
use Rattle.dht_fops.specs.Courses.{Course}
use Rattle.dht_fops.specs.Handed.{Handed, Event, Always, AnyHold, AnyAnswer}
use Rattle.dht_fops.specs.Handed.Event.{Replied, Held}
use Rattle.fop_types.specs.declared.answers.FopAnswer.TheVariants as fop_answer
use Rattle.fop_types.specs.declared.cells.Gfid.{Gfid}
use Rattle.fop_types.specs.declared.flat.FlatOp.{FlatOp}
use Rattle.fop_types.specs.declared.fops.Fop.{Fop}
use Rattle.fop_types.specs.declared.history.Entry.{Entry}
use Rattle.fop_types.specs.declared.jobs.Job.{Job}
use Rattle.fop_types.specs.declared.jobs.Job.TheVariants as job
use Rattle.fop_types.specs.declared.jobs.SetReply.{SetReply}
use Rattle.fop_types.specs.declared.store_ops.StoreOp.{StoreOp}
use Rattle.mount_laws.specs.Effects.{DidNotFail, IsEarlier, AreEarlier, IsOwnPart, IsOwnJob, IsOwnEffect, EffectIsOwn, HasEffect, PartsInOrder, IsEntered, AreEntered, EnteredOnce, HasEntry, AdoptedIsEntered, IsReplyTo, WasReplied, IsAt, IsJobOf, IsOfRun, OwnIsOfRun, BeganIsRun}
use Rattle.mount_laws.specs.Guards.{Allowed, IsReached, IsChange, IsReply, IsSettling, IsOpen, MayBeginChange, MayHandIn}
use Rattle.mount_laws.specs.Guards.IsReply.{Shows, Enters, Fails, Opens}
use Rattle.mount_laws.specs.Runs.{Run, Stage, Sight, first_course, begun, going_on, held_longer, released}
use Rattle.mount_laws.specs.Runs.Stage.{Waiting, Settled, Changing, Bearing, Decided}
use Rattle.mount_laws.specs.States.{State, Change, Call, Runs, has_begun}
use Rattle.mount_laws.specs.States.Status.{Running}
use Rattle.mount_laws.specs.Steps.{Step, Task, after, is_lookup, volume_of, change_by, at_stage, by_effect, ops_with, history_with}
use Rattle.mount_laws.proofs.Beside.{each_beside, one_job}
use Rattle.mount_laws.proofs.Beyond.{in_its_graph}
use Rattle.mount_laws.proofs.Held.{jobs_asked}
use Rattle.mount_laws.proofs.Leading.{led_always}
use Rattle.mount_laws.proofs.Moving.{unwrap, quiet, run_case, stop_case}
use Rattle.mount_laws.proofs.Owning.{IsOwn, courses_own}
use Rattle.mount_laws.proofs.Tables.{at_case, at_both}

-- ---- the fop that a call began last

abbrev BeganAt : (ℕ → Option Fop) → ℕ → Run → Type 0
BeganAt began c run = began c ≡ Some run.fop

step_began : (m : State) (step : Step) → Allowed m step → BeganIsRun m → BeganIsRun (after m step)
step_began m (Step.Submits draws) h a = stop_case (BeganAt m.began) m.calls (m.submitted + 1) _ (λ run e. absurd cc) a
step_began m (Step.Concludes c) h a = stop_case (BeganAt m.began) m.calls c _ (λ run e. absurd cc) a
step_began m (Step.Switches names) h a = a
step_began m (Step.Begins c f kept) h a = λ i.
    at_both (λ j (call : Call) (began : Option Fop). (run : Run) → call.status ≡ Running run → began ≡ Some run.fop) m.calls m.began c
    (record (m.calls c) { status = Running (begun f (volume_of m c) (m.calls c).names kept) }) (Some f)
    (λ run e. ap (λ (r : Run). Some r.fop) (unwrap (begun f (volume_of m c) (m.calls c).names kept) run e)) i (λ differ. a i)
step_began m (Step.Settles t u true) h a = run_case (BeganAt m.began) m.calls t.call _ (a t.call t.run h.under_way.runs) (λ i other differ e. a i other e)
step_began m (Step.Settles t u false) h a = run_case (BeganAt m.began) m.calls t.call _ (a t.call t.run h.under_way.runs) (λ i other differ e. a i other e)
step_began m (Step.EndsSettling t) h a = run_case (BeganAt m.began) m.calls t.call _ (a t.call t.run h.under_way.runs) (λ i other differ e. a i other e)
step_began m (Step.BeginsChange t u) h a = run_case (BeganAt m.began) m.calls t.call _ (a t.call t.run h.under_way.runs) (λ i other differ e. a i other e)
step_began m (Step.Decides t u) h a = run_case (BeganAt m.began) m.calls t.call _ (a t.call t.run h.under_way.runs) (λ i other differ e. a i other e)
step_began m (Step.SendsBirths t) h a = run_case (BeganAt m.began) m.calls t.call _ (a t.call t.run h.under_way.runs) (λ i other differ e. a i other e)
step_began m (Step.ConfirmsBirths t) h a = run_case (BeganAt m.began) m.calls t.call _ (a t.call t.run h.under_way.runs) (λ i other differ e. a i other e)
step_began m (Step.HandsIn t shown) h a = run_case (BeganAt m.began) m.calls t.call _ (a t.call t.run h.under_way.runs) (λ i other differ e. a i other e)
step_began m (Step.Extends c run dir next) h a = run_case (BeganAt m.began) m.calls c _ (a c run h.runs) (λ i other differ e. a i other e)
step_began m (Step.Releases c run gfid) h a = run_case (BeganAt m.began) m.calls c _ (a c run h.runs) (λ i other differ e. a i other e)
step_began m (Step.Learns c run dir spans) h a = a
step_began m (Step.Answers c run answer place) h a = stop_case (BeganAt m.began) m.calls c _ (λ other e. quiet (is_lookup run.fop) answer other e) a
step_began m (Step.AnswersAbove c run answer) h a = stop_case (BeganAt m.began) m.calls c _ (λ other e. quiet (is_lookup run.fop) (fop_answer.Call answer) other e) a

pub began_is : (first : List (List ℕ)) (m : State) → IsReached first m → BeganIsRun m
began_is first _ (IsReached.Start planned) = λ c run runs. absurd cc
began_is first _ (IsReached.Further old step reached allowed) = step_began old step allowed (began_is first old reached)

-- ---- effects are the fop's own

-- the job under way is the fop's own part, or changes a link
pub own_job : (first : List (List ℕ)) (m : State) → IsReached first m → (c : ℕ) (run : Run) (set : ℕ) (asked : Job) (next : SetReply → Course) → Runs m c run → run.course ≡ Course.Asks set asked next → IsOwnJob c run.fop run.handed set asked
own_job first m reached c run set asked next runs asks =
    subst (λ (call : ℕ). IsOwnJob call run.fop run.handed set asked) ((in_its_graph first m reached).planned c run runs).call_is
    ((subst (λ (course : Course). Always (IsOwn run.volume.call run.fop) AnyHold AnyAnswer run.handed course) asks
    (led_always (IsOwn run.volume.call run.fop) AnyHold AnyAnswer (first_course run) run.handed run.course (jobs_asked first m reached c run runs) ((courses_own run.volume run.names run.kept run.fop).at [] tt))).0)

own_decided : (began : ℕ → Option Fop) (change : Change) (verdict : Verdict) (effect : Option Entry) → IsOwnEffect began change effect → IsOwnEffect began (record change { verdict = verdict }) effect
own_decided began change verdict None k = k
own_decided began change verdict (Some entry) k = record { call_is = k.call_is; fop = k.fop; began_is = k.began_is; part = k.part; part_is = k.part_is; makes = k.makes; on_first = k.on_first }

decided_own : (m : State) (u : ℕ) (verdict : Verdict) → (m.changes u).verdict ≡ Unsettled → EffectIsOwn m → (w : ℕ) → (with_at m.changes u (record (m.changes u) { verdict = verdict }) w).verdict ≢ Undrawn
    → IsOwnEffect m.began (with_at m.changes u (record (m.changes u) { verdict = verdict }) w) (with_at m.changes u (record (m.changes u) { verdict = verdict }) w).effect
decided_own m u verdict was a w =
    at_case (λ i (one : Change). one.verdict ≢ Undrawn → IsOwnEffect m.began one one.effect) m.changes u (record (m.changes u) { verdict = verdict })
    (λ drawn. own_decided m.began (m.changes u) verdict (m.changes u).effect (a u (λ e. let clash : Unsettled ≡ Undrawn = sym was ∙ e in absurd cc))) w (λ differ. a w)

made_own : (m : State) (t : Task) → IsChange t.job → IsOwnJob t.call t.run.fop t.run.handed t.set t.job → m.began t.call ≡ Some t.run.fop → IsOwnEffect m.began (change_by t.call t.set t.job) (change_by t.call t.set t.job).effect
made_own m t is k began = of_job t.job is k
  where
    of_job : (asked : Job) → IsChange asked → IsOwnJob t.call t.run.fop t.run.handed t.set asked → IsOwnEffect m.began (change_by t.call t.set asked) (change_by t.call t.set asked).effect
    of_job (job.Change cells fd o None) is k = k
    of_job (job.Change cells fd o (Some entry)) is k = record { call_is = k.call_is; fop = t.run.fop; began_is = began; part = k.part; part_is = k.part_is; makes = k.makes; on_first = k.on_first }
    of_job (job.Read cells fd dir) is k = absurd is
    of_job (job.Birth cells o) is k = absurd is
    of_job (job.Open fd gfid) is k = absurd is
    of_job job.Index is k = absurd is
    of_job (job.Heal cell) is k = absurd is

-- a call begins a fop where it has made no change
begun_own : (m : State) (c : ℕ) (f : Fop) → ((u : ℕ) → (m.changes u).by ≡ c → (m.changes u).verdict ≡ Undrawn) → EffectIsOwn m
    → (u : ℕ) → (m.changes u).verdict ≢ Undrawn → IsOwnEffect (with_at m.began c (Some f)) (m.changes u) (m.changes u).effect
begun_own m c f none a u drawn = of_effect (m.changes u).effect (a u drawn)
  where
    of_effect : (effect : Option Entry) → IsOwnEffect m.began (m.changes u) effect → IsOwnEffect (with_at m.began c (Some f)) (m.changes u) effect
    of_effect None k = k
    of_effect (Some entry) k = record {
      call_is = k.call_is;
      fop = k.fop;
      began_is = at_other m.began c (Some f) (m.changes u).by (λ same. drawn (none u same)) ∙ k.began_is;
      part = k.part;
      part_is = k.part_is;
      makes = k.makes;
      on_first = k.on_first;
    }

step_own : (first : List (List ℕ)) (m : State) (step : Step) → IsReached first m → Allowed m step → EffectIsOwn m → EffectIsOwn (after m step)
step_own first m (Step.Submits draws) reached h a = a
step_own first m (Step.Concludes c) reached h a = a
step_own first m (Step.Switches names) reached h a = a
step_own first m (Step.Begins c f kept) reached h a = begun_own m c f ((each_beside first m reached).unbegun c (ap (λ s. has_begun s) h.ready)) a
step_own first m (Step.Settles t u true) reached h a = decided_own m u Adopted h.unsettled.verdict a
step_own first m (Step.Settles t u false) reached h a = decided_own m u Dropped h.unsettled.verdict a
step_own first m (Step.EndsSettling t) reached h a = a
step_own first m (Step.BeginsChange t u) reached h a = λ w.
    at_case (λ i (one : Change). one.verdict ≢ Undrawn → IsOwnEffect m.began one one.effect) m.changes u (change_by t.call t.set t.job)
    (λ drawn. made_own m t h.is_change (own_job first m reached t.call t.run t.set t.job t.next h.under_way.runs h.under_way.asks) (began_is first m reached t.call t.run h.under_way.runs)) w (λ differ. a w)
step_own first m (Step.Decides t u) reached h a = decided_own m u Adopted h.unsettled a
step_own first m (Step.SendsBirths t) reached h a = a
step_own first m (Step.ConfirmsBirths t) reached h a = a
step_own first m (Step.HandsIn t shown) reached h a = a
step_own first m (Step.Extends c run dir next) reached h a = a
step_own first m (Step.Releases c run gfid) reached h a = a
step_own first m (Step.Learns c run dir spans) reached h a = a
step_own first m (Step.Answers c run answer place) reached h a = a
step_own first m (Step.AnswersAbove c run answer) reached h a = a

pub effect_own : (first : List (List ℕ)) (m : State) → IsReached first m → EffectIsOwn m
effect_own first _ (IsReached.Start planned) = λ u drawn. absurd (drawn refl)
effect_own first _ (IsReached.Further old step reached allowed) = step_own first old step reached allowed (effect_own first old reached)

-- ---- a fop under way beside the changes of its call

replied_decided : (handed : Handed) (entry : Entry) (old new : Verdict) → old ≡ Unsettled → WasReplied handed entry old → WasReplied handed entry new
replied_decided [] entry old new was w = absurd w
replied_decided (event ∷ handed) entry old new was (inr w) = inr (replied_decided handed entry old new was w)
replied_decided (event ∷ handed) entry old new was (inl r) = inl (one event r)
  where
    one : (e : Event) → IsReplyTo e entry old → IsReplyTo e entry new
    one (Replied set (job.Change cells fd o (Some other)) shown) r = (r.0, λ ok. let clash : Unsettled ≡ Adopted = sym was ∙ r.1 ok in absurd cc)
    one (Replied set (job.Change cells fd o None) shown) r = absurd r
    one (Replied set (job.Read cells fd dir) shown) r = absurd r
    one (Replied set (job.Birth cells o) shown) r = absurd r
    one (Replied set (job.Open fd gfid) shown) r = absurd r
    one (Replied set job.Index shown) r = absurd r
    one (Replied set (job.Heal cell) shown) r = absurd r
    one (Held dir) r = absurd r

at_decided : (stage : Stage) (u : ℕ) (old new : Verdict) → old ≡ Unsettled → IsAt stage u old → IsAt stage u new
at_decided Waiting u old new was k = absurd k
at_decided (Settled place) u old new was k = absurd k
at_decided (Changing one) u old new was k = k
at_decided Bearing u old new was k = absurd k
at_decided (Decided number) u old new was k = let clash : Unsettled ≡ Adopted = sym was ∙ k in absurd cc

-- the change is decided
of_decided : (c : ℕ) (run : Run) (u : ℕ) (change : Change) (verdict : Verdict) → change.verdict ≡ Unsettled → IsOfRun c run u change → IsOfRun c run u (record change { verdict = verdict })
of_decided c run u change verdict was a = λ entry by h. by_case entry (a entry by (record { begun = λ e. let clash : Unsettled ≡ Undrawn = sym was ∙ e in absurd cc; effect = h.effect }))
  where
    by_case : (entry : Entry) → WasReplied run.handed entry change.verdict ⊎ IsJobOf run u entry change.verdict → WasReplied run.handed entry verdict ⊎ IsJobOf run u entry verdict
    by_case entry (inl w) = inl (replied_decided run.handed entry change.verdict verdict was w)
    by_case entry (inr j) = inr (record { set = j.set; cells = j.cells; fd = j.fd; op = j.op; next = j.next; asks = j.asks; at = at_decided run.stage u change.verdict verdict was j.at })

-- the fop has read something
of_saw : (c : ℕ) (run : Run) (u : ℕ) (change : Change) (saw : List Sight) → IsOfRun c run u change → IsOfRun c (record run { saw = saw }) u change
of_saw c run u change saw a = λ entry by h. by_case entry (a entry by h)
  where
    by_case : (entry : Entry) → WasReplied run.handed entry change.verdict ⊎ IsJobOf run u entry change.verdict → WasReplied run.handed entry change.verdict ⊎ IsJobOf (record run { saw = saw }) u entry change.verdict
    by_case entry (inl w) = inl w
    by_case entry (inr j) = inr (record { set = j.set; cells = j.cells; fd = j.fd; op = j.op; next = j.next; asks = j.asks; at = j.at })

-- the fop lets go of an object
of_released : (c : ℕ) (run : Run) (u : ℕ) (change : Change) (gfid : Gfid) → IsOfRun c run u change → IsOfRun c (released run gfid) u change
of_released c run u change gfid a = λ entry by h. by_case entry (a entry by h)
  where
    by_case : (entry : Entry) → WasReplied run.handed entry change.verdict ⊎ IsJobOf run u entry change.verdict → WasReplied run.handed entry change.verdict ⊎ IsJobOf (released run gfid) u entry change.verdict
    by_case entry (inl w) = inl w
    by_case entry (inr j) = inr (record { set = j.set; cells = j.cells; fd = j.fd; op = j.op; next = j.next; asks = j.asks; at = j.at })

-- the fop goes on from a stage at which its job has no change
of_other : (c : ℕ) (run new : Run) (u : ℕ) (change : Change) → ((entry : Entry) → WasReplied run.handed entry change.verdict → WasReplied new.handed entry change.verdict) → ((verdict : Verdict) → IsAt run.stage u verdict → ⊥) → IsOfRun c run u change → IsOfRun c new u change
of_other c run new u change more none a = λ entry by h. by_case entry (a entry by h)
  where
    by_case : (entry : Entry) → WasReplied run.handed entry change.verdict ⊎ IsJobOf run u entry change.verdict → WasReplied new.handed entry change.verdict ⊎ IsJobOf new u entry change.verdict
    by_case entry (inl w) = inl (more entry w)
    by_case entry (inr j) = absurd (none change.verdict j.at)

not_settling : (stage : Stage) (u : ℕ) (verdict : Verdict) → IsSettling stage → IsAt stage u verdict → ⊥
not_settling Waiting u verdict s k = k
not_settling (Settled place) u verdict s k = k
not_settling (Changing one) u verdict s k = s
not_settling Bearing u verdict s k = s
not_settling (Decided number) u verdict s k = s

at_other_stage : (stage other : Stage) (u : ℕ) (verdict : Verdict) → stage ≡ other → (IsAt other u verdict → ⊥) → IsAt stage u verdict → ⊥
at_other_stage stage other u verdict e none k = none (subst (λ (s : Stage). IsAt s u verdict) e k)

made_by : (c set : ℕ) (asked : Job) → IsChange asked → (change_by c set asked).by ≡ c
made_by c set (job.Change cells fd o effect) is = refl
made_by c set (job.Read cells fd dir) is = absurd is
made_by c set (job.Birth cells o) is = absurd is
made_by c set (job.Open fd gfid) is = absurd is
made_by c set job.Index is = absurd is
made_by c set (job.Heal cell) is = absurd is

-- the change that the job under way begins
of_made : (t : Task) (u : ℕ) → IsChange t.job → t.run.course ≡ Course.Asks t.set t.job t.next → IsOfRun t.call (at_stage t.run (Changing u)) u (change_by t.call t.set t.job)
of_made t u is asks = λ entry by h. inr (of_job t.job is asks entry h.effect)
  where
    of_job : (asked : Job) → IsChange asked → t.run.course ≡ Course.Asks t.set asked t.next → (entry : Entry) → (change_by t.call t.set asked).effect ≡ Some entry → IsJobOf (at_stage t.run (Changing u)) u entry (change_by t.call t.set asked).verdict
    of_job (job.Change cells fd o effect) is asks entry e = record {
      set = t.set;
      cells = cells;
      fd = fd;
      op = o;
      next = t.next;
      asks = asks ∙ ap (λ (x : Option Entry). Course.Asks t.set (job.Change cells fd o x) t.next) e;
      at = refl;
    }
    of_job (job.Read cells fd dir) is asks entry e = absurd is
    of_job (job.Birth cells o) is asks entry e = absurd is
    of_job (job.Open fd gfid) is asks entry e = absurd is
    of_job job.Index is asks entry e = absurd is
    of_job (job.Heal cell) is asks entry e = absurd is

-- the fop's own change is adopted
of_adopted : (m : State) (t : Task) (u : ℕ) (number : Option ℕ) (saw : List Sight) → t.run.stage ≡ Changing u → (m.changes u).verdict ≡ Unsettled → ((w : ℕ) → IsOfRun t.call t.run w (m.changes w))
    → (w : ℕ) → IsOfRun t.call (record t.run { stage = Decided number; saw = saw }) w (with_at m.changes u (record (m.changes u) { verdict = Adopted }) w)
of_adopted m t u number saw turn was a w =
    at_case (λ i (one : Change). IsOfRun t.call (record t.run { stage = Decided number; saw = saw }) i one) m.changes u (record (m.changes u) { verdict = Adopted })
    (λ entry by h. mine entry (a u entry by (record { begun = λ e. let clash : Unsettled ≡ Undrawn = sym was ∙ e in absurd cc; effect = h.effect }))) w
    (λ differ. of_other t.call t.run (record t.run { stage = Decided number; saw = saw }) w (m.changes w) (λ entry r. r) (λ verdict k. at_other_stage t.run.stage (Changing u) w verdict turn (λ same. differ (sym same)) k) (a w))
  where
    mine : (entry : Entry) → WasReplied t.run.handed entry (m.changes u).verdict ⊎ IsJobOf t.run u entry (m.changes u).verdict → WasReplied t.run.handed entry Adopted ⊎ IsJobOf (record t.run { stage = Decided number; saw = saw }) u entry Adopted
    mine entry (inl r) = inl (replied_decided t.run.handed entry (m.changes u).verdict Adopted was r)
    mine entry (inr j) = inr (record { set = j.set; cells = j.cells; fd = j.fd; op = j.op; next = j.next; asks = j.asks; at = refl })

-- the reply of the job under way is handed in
of_reply : (m : State) (t : Task) (shown : SetReply) (saw : List Sight) → MayHandIn m t shown → (u : ℕ) (change : Change) → IsOfRun t.call t.run u change → IsOfRun t.call (going_on t.run (Replied t.set t.job shown ∷ t.run.handed) (t.next shown) saw) u change
of_reply m t shown saw h u change a = λ entry by k. by_case entry (a entry by k)
  where
    -- a change is answered by its number once it is adopted
    answers : (entry : Entry) (cells : List _) (fd : ℕ) (o : StoreOp) → t.job ≡ job.Change cells fd o (Some entry) → IsAt t.run.stage u change.verdict → (one : SetReply) → IsReply m t one → DidNotFail one → change.verdict ≡ Adopted
    answers entry cells fd o is at _ (Shows read fd2 dir contents place e stage seen) ok = let clash : job.Change cells fd o (Some entry) ≡ job.Read read fd2 dir = sym is ∙ e in absurd cc
    answers entry cells fd o is at _ (Enters number stage) ok = subst (λ (s : Stage). IsAt s u change.verdict) stage at
    answers entry cells fd o is at _ (Fails error stage) ok = absurd ok
    answers entry cells fd o is at one (Opens _ opens) ok = absurd (subst IsOpen is opens)

    by_case : (entry : Entry) → WasReplied t.run.handed entry change.verdict ⊎ IsJobOf t.run u entry change.verdict
        → WasReplied (Replied t.set t.job shown ∷ t.run.handed) entry change.verdict ⊎ IsJobOf (going_on t.run (Replied t.set t.job shown ∷ t.run.handed) (t.next shown) saw) u entry change.verdict
    by_case entry (inl r) = inl (inr r)
    by_case entry (inr j) =
        let same = one_job t.run.course t.set j.set t.job (job.Change j.cells j.fd j.op (Some entry)) t.next j.next h.under_way.asks j.asks in
        inl (inl (subst (λ (asked : Job). IsReplyTo (Replied t.set asked shown) entry change.verdict) (sym same.job_is) (refl, λ ok. answers entry j.cells j.fd j.op same.job_is j.at shown h.is_reply ok)))

step_of_run : (first : List (List ℕ)) (m : State) (step : Step) → IsReached first m → Allowed m step → OwnIsOfRun m → OwnIsOfRun (after m step)
step_of_run first m (Step.Submits draws) reached h a = stop_case (λ c (run : Run). (u : ℕ) → IsOfRun c run u (m.changes u)) m.calls (m.submitted + 1) _ (λ run e. absurd cc) a
step_of_run first m (Step.Concludes c) reached h a = stop_case (λ c (run : Run). (u : ℕ) → IsOfRun c run u (m.changes u)) m.calls c _ (λ run e. absurd cc) a
step_of_run first m (Step.Switches names) reached h a = a
step_of_run first m (Step.Begins c f kept) reached h a =
    run_case (λ c (run : Run). (u : ℕ) → IsOfRun c run u (m.changes u)) m.calls c (begun f (volume_of m c) (m.calls c).names kept)
    (λ u entry by k. absurd (k.begun ((each_beside first m reached).unbegun c (ap (λ s. has_begun s) h.ready) u by))) (λ i other differ e. a i other e)
step_of_run first m (Step.Settles t u true) reached h a =
    run_case (λ c (run : Run). (w : ℕ) → IsOfRun c run w (with_at m.changes u (record (m.changes u) { verdict = Adopted }) w)) m.calls t.call _
    (λ w. of_saw t.call t.run w (with_at m.changes u (record (m.changes u) { verdict = Adopted }) w) _ (decided t.call t.run h.under_way.runs w)) (λ i other differ e. decided i other e)
  where
    decided : (c : ℕ) (run : Run) → Runs m c run → (w : ℕ) → IsOfRun c run w (with_at m.changes u (record (m.changes u) { verdict = Adopted }) w)
    decided c run runs w = at_case (λ i (one : Change). IsOfRun c run i one) m.changes u (record (m.changes u) { verdict = Adopted }) (of_decided c run u (m.changes u) Adopted h.unsettled.verdict (a c run runs u)) w (λ differ. a c run runs w)
step_of_run first m (Step.Settles t u false) reached h a =
    run_case (λ c (run : Run). (w : ℕ) → IsOfRun c run w (with_at m.changes u (record (m.changes u) { verdict = Dropped }) w)) m.calls t.call _
    (λ w. of_saw t.call t.run w (with_at m.changes u (record (m.changes u) { verdict = Dropped }) w) _ (decided t.call t.run h.under_way.runs w)) (λ i other differ e. decided i other e)
  where
    decided : (c : ℕ) (run : Run) → Runs m c run → (w : ℕ) → IsOfRun c run w (with_at m.changes u (record (m.changes u) { verdict = Dropped }) w)
    decided c run runs w = at_case (λ i (one : Change). IsOfRun c run i one) m.changes u (record (m.changes u) { verdict = Dropped }) (of_decided c run u (m.changes u) Dropped h.unsettled.verdict (a c run runs u)) w (λ differ. a c run runs w)
step_of_run first m (Step.EndsSettling t) reached h a =
    run_case (λ c (run : Run). (u : ℕ) → IsOfRun c run u (m.changes u)) m.calls t.call _
    (λ u. of_other t.call t.run _ u (m.changes u) (λ entry r. r) (λ verdict k. not_settling t.run.stage u verdict h.turn k) (a t.call t.run h.under_way.runs u)) (λ i other differ e. a i other e)
step_of_run first m (Step.BeginsChange t u) reached h a =
    run_case (λ c (run : Run). (w : ℕ) → IsOfRun c run w (with_at m.changes u (change_by t.call t.set t.job) w)) m.calls t.call (at_stage t.run (Changing u))
    (λ w. at_case (λ i (one : Change). IsOfRun t.call (at_stage t.run (Changing u)) i one) m.changes u (change_by t.call t.set t.job) (of_made t u h.is_change h.under_way.asks) w
    (λ differ. of_other t.call t.run (at_stage t.run (Changing u)) w (m.changes w) (λ entry r. r) (λ verdict k. at_other_stage t.run.stage (Settled h.place) w verdict h.settled (λ none. none) k) (a t.call t.run h.under_way.runs w)))
    (λ i other differ e w. at_case (λ j (one : Change). IsOfRun i other j one) m.changes u (change_by t.call t.set t.job)
    (λ entry by k. absurd (differ (sym by ∙ made_by t.call t.set t.job h.is_change))) w (λ more. a i other e w))
step_of_run first m (Step.Decides t u) reached h a =
    run_case (λ c (run : Run). (w : ℕ) → IsOfRun c run w (with_at m.changes u (record (m.changes u) { verdict = Adopted }) w)) m.calls t.call _
    (of_adopted m t u _ _ h.turn h.unsettled (a t.call t.run h.under_way.runs))
    (λ i other differ e w. at_case (λ j (one : Change). IsOfRun i other j one) m.changes u (record (m.changes u) { verdict = Adopted }) (of_decided i other u (m.changes u) Adopted h.unsettled (a i other e u)) w (λ more. a i other e w))
step_of_run first m (Step.SendsBirths t) reached h a =
    run_case (λ c (run : Run). (u : ℕ) → IsOfRun c run u (m.changes u)) m.calls t.call (at_stage t.run Bearing)
    (λ u. of_other t.call t.run (at_stage t.run Bearing) u (m.changes u) (λ entry r. r) (λ verdict k. at_other_stage t.run.stage Waiting u verdict h.waiting (λ none. none) k) (a t.call t.run h.under_way.runs u)) (λ i other differ e. a i other e)
step_of_run first m (Step.ConfirmsBirths t) reached h a =
    run_case (λ c (run : Run). (u : ℕ) → IsOfRun c run u (m.changes u)) m.calls t.call (at_stage t.run (Decided None))
    (λ u. of_other t.call t.run (at_stage t.run (Decided None)) u (m.changes u) (λ entry r. r) (λ verdict k. at_other_stage t.run.stage Bearing u verdict h.turn (λ none. none) k) (a t.call t.run h.under_way.runs u)) (λ i other differ e. a i other e)
step_of_run first m (Step.HandsIn t shown) reached h a =
    run_case (λ c (run : Run). (u : ℕ) → IsOfRun c run u (m.changes u)) m.calls t.call _ (λ u. of_reply m t shown _ h u (m.changes u) (a t.call t.run h.under_way.runs u)) (λ i other differ e. a i other e)
step_of_run first m (Step.Extends c run dir next) reached h a =
    run_case (λ c (run : Run). (u : ℕ) → IsOfRun c run u (m.changes u)) m.calls c (held_longer (going_on run (Held dir ∷ run.handed) next run.saw) dir)
    (λ u entry by k. by_case u entry (a c run h.runs u entry by k)) (λ i other differ e. a i other e)
  where
    by_case : (u : ℕ) (entry : Entry) → WasReplied run.handed entry (m.changes u).verdict ⊎ IsJobOf run u entry (m.changes u).verdict
        → WasReplied (Held dir ∷ run.handed) entry (m.changes u).verdict ⊎ IsJobOf (held_longer (going_on run (Held dir ∷ run.handed) next run.saw) dir) u entry (m.changes u).verdict
    by_case u entry (inl r) = inl (inr r)
    by_case u entry (inr j) = let clash : Course.Extends dir next ≡ Course.Asks j.set (job.Change j.cells j.fd j.op (Some entry)) j.next = sym h.extends ∙ j.asks in absurd cc
step_of_run first m (Step.Releases c run gfid) reached h a =
    run_case (λ c (run : Run). (u : ℕ) → IsOfRun c run u (m.changes u)) m.calls c (released run gfid) (λ u. of_released c run u (m.changes u) gfid (a c run h.runs u)) (λ i other differ e. a i other e)
step_of_run first m (Step.Learns c run dir spans) reached h a = a
step_of_run first m (Step.Answers c run answer place) reached h a = stop_case (λ c (run : Run). (u : ℕ) → IsOfRun c run u (m.changes u)) m.calls c _ (λ other e. quiet (is_lookup run.fop) answer other e) a
step_of_run first m (Step.AnswersAbove c run answer) reached h a = stop_case (λ c (run : Run). (u : ℕ) → IsOfRun c run u (m.changes u)) m.calls c _ (λ other e. quiet (is_lookup run.fop) (fop_answer.Call answer) other e) a

pub own_of_run : (first : List (List ℕ)) (m : State) → IsReached first m → OwnIsOfRun m
own_of_run first _ (IsReached.Start planned) = λ c run runs. absurd cc
own_of_run first _ (IsReached.Further old step reached allowed) = step_of_run first old step reached allowed (own_of_run first old reached)

-- ---- parts in order

of_earlier : (handed : Handed) (entry : Entry) (verdict : Verdict) (part : ℕ) → AreEarlier handed part → WasReplied handed entry verdict → (entry.part < part) × (verdict ≡ Adopted)
of_earlier [] entry verdict part e w = absurd w
of_earlier (event ∷ handed) entry verdict part e (inr w) = of_earlier handed entry verdict part e.1 w
of_earlier (event ∷ handed) entry verdict part e (inl r) = one event e.0 r
  where
    one : (x : Event) → IsEarlier x part → IsReplyTo x entry verdict → (entry.part < part) × (verdict ≡ Adopted)
    one (Replied set (job.Change cells fd o (Some other)) shown) k r = (subst (λ (y : Entry). y.part < part) r.0 k.0, r.1 k.1)
    one (Replied set (job.Change cells fd o None) shown) k r = absurd r
    one (Replied set (job.Read cells fd dir) shown) k r = absurd r
    one (Replied set (job.Birth cells o) shown) k r = absurd r
    one (Replied set (job.Open fd gfid) shown) k r = absurd r
    one (Replied set job.Index shown) k r = absurd r
    one (Replied set (job.Heal cell) shown) k r = absurd r
    one (Held dir) k r = absurd r

-- the change is decided
decided_order : (m : State) (u : ℕ) (verdict : Verdict) → (m.changes u).verdict ≡ Unsettled → PartsInOrder m → (n : State) → n.changes ≡ with_at m.changes u (record (m.changes u) { verdict = verdict }) → PartsInOrder n
decided_order m u verdict was a n is = record {
  once = λ x w entry h k. a.once x w entry (kept x entry (subst (λ (cs : ℕ → Change). HasEffect (cs x) entry) is h)) (kept w entry (subst (λ (cs : ℕ → Change). HasEffect (cs w) entry) is k));
  after = λ x w e f h k same less. subst (λ (cs : ℕ → Change). (cs x).verdict ≡ Adopted) (sym is)
      (at_case (λ i (one : Change). (m.changes i).verdict ≡ Adopted → one.verdict ≡ Adopted) m.changes u (record (m.changes u) { verdict = verdict })
      (λ old. let clash : Unsettled ≡ Adopted = sym was ∙ old in absurd cc) x (λ differ old. old)
      (a.after x w e f (kept x e (subst (λ (cs : ℕ → Change). HasEffect (cs x) e) is h)) (kept w f (subst (λ (cs : ℕ → Change). HasEffect (cs w) f) is k)) same less));
}
  where
    kept : (w : ℕ) (entry : Entry) → HasEffect (with_at m.changes u (record (m.changes u) { verdict = verdict }) w) entry → HasEffect (m.changes w) entry
    kept w entry =
        at_case (λ i (one : Change). HasEffect one entry → HasEffect (m.changes i) entry) m.changes u (record (m.changes u) { verdict = verdict })
        (λ h. record { begun = λ e. let clash : Unsettled ≡ Undrawn = sym was ∙ e in absurd cc; effect = h.effect }) w (λ differ h. h)

-- the same changes
same_order : (m n : State) → n.changes ≡ m.changes → PartsInOrder m → PartsInOrder n
same_order m n is a = record {
  once = λ x w entry h k. a.once x w entry (subst (λ (cs : ℕ → Change). HasEffect (cs x) entry) is h) (subst (λ (cs : ℕ → Change). HasEffect (cs w) entry) is k);
  after = λ x w e f h k same less. subst (λ (cs : ℕ → Change). (cs x).verdict ≡ Adopted) (sym is)
      (a.after x w e f (subst (λ (cs : ℕ → Change). HasEffect (cs x) e) is h) (subst (λ (cs : ℕ → Change). HasEffect (cs w) f) is k) same less);
}

-- the part that a job begins
module _ (first : List (List ℕ)) (m : State) (reached : IsReached first m) (t : Task) (u : ℕ) (h : MayBeginChange m t u) where
  made_part : (entry : Entry) → (change_by t.call t.set t.job).effect ≡ Some entry → IsOwnPart t.call t.run.fop t.run.handed t.set (change_by t.call t.set t.job).op entry
  made_part = of_job t.job h.is_change (own_job first m reached t.call t.run t.set t.job t.next h.under_way.runs h.under_way.asks)
    where
      of_job : (asked : Job) → IsChange asked → IsOwnJob t.call t.run.fop t.run.handed t.set asked → (entry : Entry) → (change_by t.call t.set asked).effect ≡ Some entry → IsOwnPart t.call t.run.fop t.run.handed t.set (change_by t.call t.set asked).op entry
      of_job (job.Change cells fd o None) is k entry e = absurd cc
      of_job (job.Change cells fd o (Some one)) is k entry e = subst (λ (x : Entry). IsOwnPart t.call t.run.fop t.run.handed t.set o x) (unwrap_some one entry e) k
        where
          unwrap_some : (a b : Entry) → ◌≡◌ {A = Option Entry} (Some a) (Some b) → a ≡ b
          unwrap_some a b e = cc
      of_job (job.Read cells fd dir) is k entry e = absurd is
      of_job (job.Birth cells o) is k entry e = absurd is
      of_job (job.Open fd gfid) is k entry e = absurd is
      of_job job.Index is k entry e = absurd is
      of_job (job.Heal cell) is k entry e = absurd is

  -- another change of its call is of an earlier part, and adopted
  pub is_later : (w : ℕ) (old new : Entry) → HasEffect (m.changes w) old → HasEffect (change_by t.call t.set t.job) new → old.call ≡ new.call → (old.part < new.part) × ((m.changes w).verdict ≡ Adopted)
  is_later w old new k made same =
      let part = made_part new made.effect in
      by_case part ((own_of_run first m reached t.call t.run h.under_way.runs w) old (by part) k)
    where
      own : (effect : Option Entry) → effect ≡ Some old → IsOwnEffect m.began (m.changes w) effect → old.call ≡ (m.changes w).by
      own None e i = absurd cc
      own (Some one) e i = let is : one ≡ old = cc in sym (ap (λ (x : Entry). x.call) is) ∙ i.call_is

      by : IsOwnPart t.call t.run.fop t.run.handed t.set (change_by t.call t.set t.job).op new → (m.changes w).by ≡ t.call
      by part = sym (own (m.changes w).effect k.effect (effect_own first m reached w k.begun)) ∙ same ∙ part.call_is

      by_case : IsOwnPart t.call t.run.fop t.run.handed t.set (change_by t.call t.set t.job).op new → WasReplied t.run.handed old (m.changes w).verdict ⊎ IsJobOf t.run w old (m.changes w).verdict → (old.part < new.part) × ((m.changes w).verdict ≡ Adopted)
      by_case part (inl r) = of_earlier t.run.handed old (m.changes w).verdict new.part part.earlier r
      by_case part (inr j) = absurd (at_other_stage t.run.stage (Settled h.place) w (m.changes w).verdict h.settled (λ none. none) j.at)

  both_same : (a b : Entry) → HasEffect (change_by t.call t.set t.job) a → HasEffect (change_by t.call t.set t.job) b → a ≡ b
  both_same a b h k = let same : ◌≡◌ {A = Option Entry} (Some a) (Some b) = sym h.effect ∙ k.effect in absurd_or a b same
    where
      absurd_or : (x y : Entry) → ◌≡◌ {A = Option Entry} (Some x) (Some y) → x ≡ y
      absurd_or x y e = cc

  made_order : PartsInOrder m → PartsInOrder (after m (Step.BeginsChange t u))
  made_order a = record {
    once = λ x w entry.
        at_case (λ i (one : Change). HasEffect one entry → HasEffect (with_at m.changes u (change_by t.call t.set t.job) w) entry → i ≡ w) m.changes u (change_by t.call t.set t.job)
        (at_case (λ j (other : Change). HasEffect (change_by t.call t.set t.job) entry → HasEffect other entry → u ≡ j) m.changes u (change_by t.call t.set t.job) (λ p q. refl) w (λ differ p q. absurd (twice w entry p q))) x
        (λ differ. at_case (λ j (other : Change). HasEffect (m.changes x) entry → HasEffect other entry → x ≡ j) m.changes u (change_by t.call t.set t.job) (λ p q. absurd (twice x entry q p)) w (λ more p q. a.once x w entry p q));
    after = λ x w e f.
        at_case (λ i (one : Change). HasEffect one e → HasEffect (with_at m.changes u (change_by t.call t.set t.job) w) f → e.call ≡ f.call → e.part < f.part → one.verdict ≡ Adopted) m.changes u (change_by t.call t.set t.job)
        (at_case (λ j (other : Change). HasEffect (change_by t.call t.set t.job) e → HasEffect other f → e.call ≡ f.call → e.part < f.part → (change_by t.call t.set t.job).verdict ≡ Adopted) m.changes u (change_by t.call t.set t.job)
        (λ p q same less. let is : e ≡ f = both_same e f p q in let even : e.part ≡ f.part = ap (λ (y : Entry). y.part) is in absurd (omega (arith, less, even))) w
        (λ differ p q same less. let later = (is_later w f e q p (sym same)).0 in absurd (omega (arith, less, later)))) x
        (λ differ. at_case (λ j (other : Change). HasEffect (m.changes x) e → HasEffect other f → e.call ≡ f.call → e.part < f.part → (m.changes x).verdict ≡ Adopted) m.changes u (change_by t.call t.set t.job)
        (λ p q same less. (is_later x e f p q same).1) w (λ more p q same less. a.after x w e f p q same less));
  }
    where
      twice : (w : ℕ) (entry : Entry) → HasEffect (change_by t.call t.set t.job) entry → HasEffect (m.changes w) entry → ⊥
      twice w entry p q = let less = (is_later w entry entry q p refl).0 in absurd (omega (arith, less))

step_order : (first : List (List ℕ)) (m : State) (step : Step) → IsReached first m → Allowed m step → PartsInOrder m → PartsInOrder (after m step)
step_order first m (Step.BeginsChange t u) reached h a = made_order first m reached t u h a
step_order first m (Step.Settles t u true) reached h a = decided_order m u Adopted h.unsettled.verdict a (after m (Step.Settles t u true)) refl
step_order first m (Step.Settles t u false) reached h a = decided_order m u Dropped h.unsettled.verdict a (after m (Step.Settles t u false)) refl
step_order first m (Step.Decides t u) reached h a = decided_order m u Adopted h.unsettled a (after m (Step.Decides t u)) refl
step_order first m (Step.Submits draws) reached h a = same_order m (after m (Step.Submits draws)) refl a
step_order first m (Step.Concludes c) reached h a = same_order m (after m (Step.Concludes c)) refl a
step_order first m (Step.Switches names) reached h a = same_order m (after m (Step.Switches names)) refl a
step_order first m (Step.Begins c f kept) reached h a = same_order m (after m (Step.Begins c f kept)) refl a
step_order first m (Step.EndsSettling t) reached h a = same_order m (after m (Step.EndsSettling t)) refl a
step_order first m (Step.SendsBirths t) reached h a = same_order m (after m (Step.SendsBirths t)) refl a
step_order first m (Step.ConfirmsBirths t) reached h a = same_order m (after m (Step.ConfirmsBirths t)) refl a
step_order first m (Step.HandsIn t shown) reached h a = same_order m (after m (Step.HandsIn t shown)) refl a
step_order first m (Step.Extends c run dir next) reached h a = same_order m (after m (Step.Extends c run dir next)) refl a
step_order first m (Step.Releases c run gfid) reached h a = same_order m (after m (Step.Releases c run gfid)) refl a
step_order first m (Step.Learns c run dir spans) reached h a = same_order m (after m (Step.Learns c run dir spans)) refl a
step_order first m (Step.Answers c run answer place) reached h a = same_order m (after m (Step.Answers c run answer place)) refl a
step_order first m (Step.AnswersAbove c run answer) reached h a = same_order m (after m (Step.AnswersAbove c run answer)) refl a

pub parts_in_order : (first : List (List ℕ)) (m : State) → IsReached first m → PartsInOrder m
parts_in_order first _ (IsReached.Start planned) = record { once = λ u w entry h. absurd (h.begun refl); after = λ u w e f h. absurd (h.begun refl) }
parts_in_order first _ (IsReached.Further old step reached allowed) = step_order first old step reached allowed (parts_in_order first old reached)

-- ---- the history

get_push : {A : Type 0} (xs : List A) (x : A) (i : ℕ) (y : A) → slice_get (xs ++ x ∷ []) i ≡ Some y → (slice_get xs i ≡ Some y) ⊎ ((i ≡ length xs) × (x ≡ y))
get_push [] x zero y h = inr (refl, cc)
get_push [] x (suc i) y h = absurd cc
get_push (z ∷ xs) x zero y h = inl h
get_push (z ∷ xs) x (suc i) y h = elim (get_push xs x i y h) [ inl old ↦ inl old | inr new ↦ inr (omega (arith, new.0), new.1) ]

pub get_front : {A : Type 0} (xs : List A) (x : A) (i : ℕ) → i < length xs → slice_get (xs ++ x ∷ []) i ≡ slice_get xs i
get_front [] x i h = absurd (omega (arith, h))
get_front (z ∷ xs) x zero h = refl
get_front (z ∷ xs) x (suc i) h = get_front xs x i (omega (arith, h))

pub get_end : {A : Type 0} (xs : List A) (x : A) → slice_get (xs ++ x ∷ []) (length xs) ≡ Some x
get_end [] x = refl
get_end (z ∷ xs) x = get_end xs x

-- an entry stays one when another change, which is not adopted, changes
entered_still : (changes : ℕ → Change) (ops : List FlatOp) (u : ℕ) (new : Change) → (changes u).verdict ≢ Adopted → (index : ℕ) (entry : Entry) → IsEntered changes ops index entry → IsEntered (with_at changes u new) ops index entry
entered_still changes ops u new unadopted index entry a =
    let same : with_at changes u new a.change ≡ changes a.change = at_other changes u new a.change other in
    record {
      change = a.change;
      adopted = ap (λ (x : Change). x.verdict) same ∙ a.adopted;
      effect = ap (λ (x : Change). x.effect) same ∙ a.effect;
      op = a.op ∙ sym (ap (λ (x : Change). change_of x.op) same);
    }
  where
    other : a.change ≢ u
    other e = unadopted (subst (λ (i : ℕ). (changes i).verdict ≡ Adopted) e a.adopted)

still : (changes : ℕ → Change) (ops : List FlatOp) (history : List Entry) (u : ℕ) (new : Change) → (changes u).verdict ≢ Adopted → AreEntered changes ops history → AreEntered (with_at changes u new) ops history
still changes ops history u new unadopted a = record {
  as_many = a.as_many;
  entered = λ index entry h. entered_still changes ops u new unadopted index entry (a.entered index entry h);
  distinct = a.distinct;
  in_order = a.in_order;
}

-- one more entry
pushed : (m : State) (u : ℕ) (entry : Entry) (part : FlatOp) → (m.changes u).verdict ≡ Unsettled → (m.changes u).effect ≡ Some entry → change_of (m.changes u).op ≡ Some part → PartsInOrder m → EnteredOnce m
    → AreEntered (with_at m.changes u (record (m.changes u) { verdict = Adopted })) (m.ops ++ part ∷ []) (m.history ++ entry ∷ [])
pushed m u entry part was effect makes order a = record {
  as_many = omega (arith, length_push m.ops part, length_push m.history entry, a.as_many);
  entered = λ index one h. entered index one (get_push m.history entry index one h);
  distinct = λ i j one h k. distinct i j one (get_push m.history entry i one h) (get_push m.history entry j one k);
  in_order = λ i j e f h k same less. in_order i j e f same less (get_push m.history entry i e h) (get_push m.history entry j f k);
}
  where
    new : Change
    new = record (m.changes u) { verdict = Adopted }

    unadopted : (m.changes u).verdict ≢ Adopted
    unadopted e = let clash : Unsettled ≡ Adopted = sym was ∙ e in absurd cc

    mine : (one : Entry) → entry ≡ one → HasEffect (m.changes u) one
    mine one is = record { begun = λ e. let clash : Unsettled ≡ Undrawn = sym was ∙ e in absurd cc; effect = effect ∙ ap (λ (x : Entry). Some x) is }

    adopted_has : (index : ℕ) (one : Entry) → (k : IsEntered m.changes m.ops index one) → HasEffect (m.changes k.change) one
    adopted_has index one k = record { begun = λ e. let clash : Adopted ≡ Undrawn = sym k.adopted ∙ e in absurd cc; effect = k.effect }

    entered : (index : ℕ) (one : Entry) → (slice_get m.history index ≡ Some one) ⊎ ((index ≡ length m.history) × (entry ≡ one)) → IsEntered (with_at m.changes u new) (m.ops ++ part ∷ []) index one
    entered index one (inl old) =
        let k = entered_still m.changes m.ops u new unadopted index one (a.entered index one old) in
        record { change = k.change; adopted = k.adopted; effect = k.effect; op = get_front m.ops part index (omega (arith, a.as_many, slice_get_within m.history index one old)) ∙ k.op }
    entered index one (inr is) =
        let same : with_at m.changes u new u ≡ new = at_same m.changes u new in
        record {
          change = u;
          adopted = ap (λ (x : Change). x.verdict) same;
          effect = ap (λ (x : Change). x.effect) same ∙ (mine one is.1).effect;
          op = ap (λ (i : ℕ). slice_get (m.ops ++ part ∷ []) i) (let long : index ≡ length m.ops = is.0 ∙ sym a.as_many in long) ∙ get_end m.ops part ∙ sym makes ∙ sym (ap (λ (x : Change). change_of x.op) same);
        }

    distinct : (i j : ℕ) (one : Entry) → (slice_get m.history i ≡ Some one) ⊎ ((i ≡ length m.history) × (entry ≡ one)) → (slice_get m.history j ≡ Some one) ⊎ ((j ≡ length m.history) × (entry ≡ one)) → i ≡ j
    distinct i j one (inl p) (inl q) = a.distinct i j one p q
    distinct i j one (inr p) (inr q) = p.0 ∙ sym q.0
    distinct i j one (inl p) (inr q) = absurd (again i one (a.entered i one p) q.1)
      where
        again : (index : ℕ) (x : Entry) → IsEntered m.changes m.ops index x → entry ≡ x → ⊥
        again index x k is = unadopted (subst (λ (w : ℕ). (m.changes w).verdict ≡ Adopted) (order.once k.change u x (adopted_has index x k) (mine x is)) k.adopted)
    distinct i j one (inr p) (inl q) = absurd (again j one (a.entered j one q) p.1)
      where
        again : (index : ℕ) (x : Entry) → IsEntered m.changes m.ops index x → entry ≡ x → ⊥
        again index x k is = unadopted (subst (λ (w : ℕ). (m.changes w).verdict ≡ Adopted) (order.once k.change u x (adopted_has index x k) (mine x is)) k.adopted)

    in_order : (i j : ℕ) (e f : Entry) → e.call ≡ f.call → e.part < f.part → (slice_get m.history i ≡ Some e) ⊎ ((i ≡ length m.history) × (entry ≡ e)) → (slice_get m.history j ≡ Some f) ⊎ ((j ≡ length m.history) × (entry ≡ f)) → i < j
    in_order i j e f same less (inl p) (inl q) = a.in_order i j e f p q same less
    in_order i j e f same less (inl p) (inr q) = omega (arith, slice_get_within m.history i e p, q.0)
    in_order i j e f same less (inr p) (inl q) = let k = a.entered j f q in absurd (unadopted (order.after u k.change e f (mine e p.1) (adopted_has j f k) same less))
    in_order i j e f same less (inr p) (inr q) = let even : e.part ≡ f.part = ap (λ (x : Entry). x.part) (sym p.1 ∙ q.1) in absurd (omega (arith, less, even))

adopted_entered : (first : List (List ℕ)) (m : State) (u : ℕ) → IsReached first m → (m.changes u).verdict ≡ Unsettled → EnteredOnce m
    → AreEntered (with_at m.changes u (record (m.changes u) { verdict = Adopted })) (by_effect (m.changes u).effect m.ops (ops_with m.ops (change_of (m.changes u).op))) (history_with m.history (m.changes u).effect)
adopted_entered first m u reached was a = of_effect (m.changes u).effect refl (effect_own first m reached u (λ e. let clash : Unsettled ≡ Undrawn = sym was ∙ e in absurd cc))
  where
    of_effect : (effect : Option Entry) → (m.changes u).effect ≡ effect → IsOwnEffect m.began (m.changes u) effect
        → AreEntered (with_at m.changes u (record (m.changes u) { verdict = Adopted })) (by_effect effect m.ops (ops_with m.ops (change_of (m.changes u).op))) (history_with m.history effect)
    of_effect None e own = still m.changes m.ops m.history u (record (m.changes u) { verdict = Adopted }) (λ f. let clash : Unsettled ≡ Adopted = sym was ∙ f in absurd cc) a
    of_effect (Some entry) e own =
        subst (λ (o : Option FlatOp). AreEntered (with_at m.changes u (record (m.changes u) { verdict = Adopted })) (ops_with m.ops o) (m.history ++ entry ∷ [])) (sym own.makes)
        (pushed m u entry own.part was e own.makes (parts_in_order first m reached) a)

step_entered : (first : List (List ℕ)) (m : State) (step : Step) → IsReached first m → Allowed m step → EnteredOnce m → EnteredOnce (after m step)
step_entered first m (Step.Settles t u true) reached h a = adopted_entered first m u reached h.unsettled.verdict a
step_entered first m (Step.Settles t u false) reached h a = still m.changes m.ops m.history u (record (m.changes u) { verdict = Dropped }) (λ e. let clash : Unsettled ≡ Adopted = sym h.unsettled.verdict ∙ e in absurd cc) a
step_entered first m (Step.Decides t u) reached h a = adopted_entered first m u reached h.unsettled a
step_entered first m (Step.BeginsChange t u) reached h a = still m.changes m.ops m.history u (change_by t.call t.set t.job) (λ e. let clash : Undrawn ≡ Adopted = sym h.fresh ∙ e in absurd cc) a
step_entered first m (Step.Submits draws) reached h a = a
step_entered first m (Step.Concludes c) reached h a = a
step_entered first m (Step.Switches names) reached h a = a
step_entered first m (Step.Begins c f kept) reached h a = a
step_entered first m (Step.EndsSettling t) reached h a = a
step_entered first m (Step.SendsBirths t) reached h a = a
step_entered first m (Step.ConfirmsBirths t) reached h a = a
step_entered first m (Step.HandsIn t shown) reached h a = a
step_entered first m (Step.Extends c run dir next) reached h a = a
step_entered first m (Step.Releases c run gfid) reached h a = a
step_entered first m (Step.Learns c run dir spans) reached h a = a
step_entered first m (Step.Answers c run answer place) reached h a = a
step_entered first m (Step.AnswersAbove c run answer) reached h a = a

pub entered_once : (first : List (List ℕ)) (m : State) → IsReached first m → EnteredOnce m
entered_once first _ (IsReached.Start planned) = record { as_many = refl; entered = λ index entry h. absurd cc; distinct = λ i j entry h. absurd cc; in_order = λ i j e f h. absurd cc }
entered_once first _ (IsReached.Further old step reached allowed) = step_entered first old step reached allowed (entered_once first old reached)

-- ---- the effects of adopted changes

entry_still : (history : List Entry) (effect : Option Entry) (entry : Entry) → HasEntry history entry → HasEntry (history_with history effect) entry
entry_still history None entry a = a
entry_still history (Some one) entry a = record { index = a.index; at = get_front history one a.index (slice_get_within history a.index entry a.at) ∙ a.at }

entry_new : (history : List Entry) (effect : Option Entry) (entry : Entry) → effect ≡ Some entry → HasEntry (history_with history effect) entry
entry_new history None entry e = absurd cc
entry_new history (Some one) entry e = let is : one ≡ entry = cc in record { index = length history; at = get_end history one ∙ ap (λ (x : Entry). Some x) is }

now_entered : (m : State) (u : ℕ) → AdoptedIsEntered m → (w : ℕ) (entry : Entry) → (with_at m.changes u (record (m.changes u) { verdict = Adopted }) w).verdict ≡ Adopted
    → (with_at m.changes u (record (m.changes u) { verdict = Adopted }) w).effect ≡ Some entry → HasEntry (history_with m.history (m.changes u).effect) entry
now_entered m u a w entry =
    at_case (λ i (one : Change). one.verdict ≡ Adopted → one.effect ≡ Some entry → HasEntry (history_with m.history (m.changes u).effect) entry) m.changes u (record (m.changes u) { verdict = Adopted })
    (λ v e. entry_new m.history (m.changes u).effect entry e) w (λ differ v e. entry_still m.history (m.changes u).effect entry (a w entry v e))

-- a change that is not adopted takes the place of one
other_entered : (m : State) (u : ℕ) (new : Change) → (new.verdict ≡ Adopted → ⊥) → AdoptedIsEntered m → (w : ℕ) (entry : Entry) → (with_at m.changes u new w).verdict ≡ Adopted → (with_at m.changes u new w).effect ≡ Some entry → HasEntry m.history entry
other_entered m u new unadopted a w entry =
    at_case (λ i (one : Change). one.verdict ≡ Adopted → one.effect ≡ Some entry → HasEntry m.history entry) m.changes u new
    (λ v e. absurd (unadopted v)) w (λ differ v e. a w entry v e)

begun_unadopted : (c set : ℕ) (asked : Job) → IsChange asked → (change_by c set asked).verdict ≡ Adopted → ⊥
begun_unadopted c set (job.Change cells fd o effect) is e = absurd cc
begun_unadopted c set (job.Read cells fd dir) is e = absurd is
begun_unadopted c set (job.Birth cells o) is e = absurd is
begun_unadopted c set (job.Open fd gfid) is e = absurd is
begun_unadopted c set job.Index is e = absurd is
begun_unadopted c set (job.Heal cell) is e = absurd is

step_adopted : (m : State) (step : Step) → Allowed m step → AdoptedIsEntered m → AdoptedIsEntered (after m step)
step_adopted m (Step.Submits draws) h a = a
step_adopted m (Step.Concludes c) h a = a
step_adopted m (Step.Switches names) h a = a
step_adopted m (Step.Begins c f kept) h a = a
step_adopted m (Step.Settles t u true) h a = now_entered m u a
step_adopted m (Step.Settles t u false) h a = other_entered m u (record (m.changes u) { verdict = Dropped }) (λ e. let clash : Dropped ≡ Adopted = e in absurd cc) a
step_adopted m (Step.EndsSettling t) h a = a
step_adopted m (Step.BeginsChange t u) h a = other_entered m u (change_by t.call t.set t.job) (begun_unadopted t.call t.set t.job h.is_change) a
step_adopted m (Step.Decides t u) h a = now_entered m u a
step_adopted m (Step.SendsBirths t) h a = a
step_adopted m (Step.ConfirmsBirths t) h a = a
step_adopted m (Step.HandsIn t shown) h a = a
step_adopted m (Step.Extends c run dir next) h a = a
step_adopted m (Step.Releases c run gfid) h a = a
step_adopted m (Step.Learns c run dir spans) h a = a
step_adopted m (Step.Answers c run answer place) h a = a
step_adopted m (Step.AnswersAbove c run answer) h a = a

pub adopted_is_entered : (first : List (List ℕ)) (m : State) → IsReached first m → AdoptedIsEntered m
adopted_is_entered first _ (IsReached.Start planned) = λ u entry v. let clash : Undrawn ≡ Adopted = v in absurd cc
adopted_is_entered first _ (IsReached.Further old step reached allowed) = step_adopted old step allowed (adopted_is_entered first old reached)
