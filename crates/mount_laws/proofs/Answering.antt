-- A call that has changed the file system is answered by the number of its adopted change, or by an I/O error.
use Rattle.std.proofs.Common.{◌≡◌, ◌∙◌, ◌⊎◌, ℕ, zero, suc, ◌+◌, ◌<◌, inl, inr, true, false, refl, sym, ap, subst, List, [], ◌∷◌, ◌++◌, length, Option, Some, None, arith}
use Rattle.std.specs.Prelude.{◌≢◌, slice_get}
use Rattle.std.proofs.lemmas.Option.{slice_get_within}
use Rattle.afr_machine.specs.Changes.{Verdict}
use Rattle.afr_machine.specs.Changes.Verdict.{Undrawn, Unsettled, Adopted, Dropped}
use Rattle.afr_machine.specs.Replicas.{with_at}
use Rattle.afr_machine.proofs.Tables.{at_same, at_other}
use Rattle.dht_fops.specs.Answers.{flat_op, change_of}
use Rattle.dht_fops.specs.Courses.{Course, number_in}
use Rattle.dht_fops.specs.Fops.{fop_course}
use Rattle.dht_fops.specs.Handed.{Handed, Event, Always, AnyHold}
use Rattle.dht_fops.specs.Handed.Event.{Replied, Held}
use Rattle.dht_laws.specs.Endings.{error_in, fault_in, open_fault, HaveNoFault, Made, made_of, last_made, answer_to, IsNoFailure, IsAnswered, AnswersMade, EndsBy, EndsWith, GoesOn, FopsAnswerChanges}
use Rattle.dht_laws.specs.Places.{place_made}
use Rattle.fop_types.specs.declared.answers.Answer.TheVariants as answers
use Rattle.fop_types.specs.declared.answers.FopAnswer.{FopAnswer}
use Rattle.fop_types.specs.declared.answers.FopAnswer.TheVariants as fop_answer
use Rattle.fop_types.specs.declared.answers.IoError.{IoError}
use Rattle.fop_types.specs.declared.cells.Cell.{Cell}
use Rattle.fop_types.specs.declared.fops.Fop.{Fop}
use Rattle.fop_types.specs.declared.history.Entry.{Entry}
use Rattle.fop_types.specs.declared.jobs.Job.{Job}
use Rattle.fop_types.specs.declared.jobs.Job.TheVariants as job
use Rattle.fop_types.specs.declared.jobs.SetReply.{SetReply}
use Rattle.fop_types.specs.declared.jobs.SetReply.TheVariants as reply
use Rattle.fop_types.specs.declared.store_ops.StoreOp.{StoreOp}
use Rattle.mount_laws.specs.Answering.{IsAnsweredAs, AnsweredByEntry}
use Rattle.mount_laws.specs.Effects.{DidNotFail, HasEffect, IsReplyTo, WasReplied, IsJobOf}
use Rattle.mount_laws.specs.Guards.{Allowed, IsReached, IsReply, IsOpen, IsBirth, MayHandIn, MayDecide}
use Rattle.mount_laws.specs.Guards.IsReply.{Shows, Enters, Fails, Opens}
use Rattle.mount_laws.specs.Runs.{Run, Stage, first_course}
use Rattle.mount_laws.specs.Settling.{IsRunning}
use Rattle.mount_laws.specs.Runs.Stage.{Waiting, Settled, Changing, Bearing, Decided}
use Rattle.mount_laws.specs.States.{State, Change, Runs}
use Rattle.mount_laws.specs.Steps.{Step, Task, after, is_lookup, change_by, number_after, history_with}
use Rattle.mount_laws.proofs.Beside.{each_beside, one_job}
use Rattle.mount_laws.proofs.Entering.{own_of_run, get_front, get_end}
use Rattle.mount_laws.proofs.Held.{jobs_asked}
use Rattle.mount_laws.proofs.Leading.{led_always}
use Rattle.mount_laws.proofs.Making.{bearing_is_birth}
use Rattle.mount_laws.proofs.Moving.{quiet, run_case, stop_case}
use Rattle.mount_laws.proofs.Tables.{at_case}

-- ---- changes that were adopted

-- an adopted change of the call, with its set, op and effect, and the number of its entry
pub record IsMadeChange (changes : ℕ → Change) (history : List Entry) (c set : ℕ) (o : StoreOp) (entry : Entry) (number : Option ℕ) : Type 0 where
  pub change : ℕ
  pub by : (changes change).by ≡ c
  pub adopted : (changes change).verdict ≡ Adopted
  pub set_is : (changes change).set ≡ set
  pub op_is : (changes change).op ≡ o
  pub effect : (changes change).effect ≡ Some entry
  pub index : ℕ
  pub entered : slice_get history index ≡ Some entry
  pub number_is : number ≡ Some (index + 1)

-- adopted changes and entries stay
record Keeps (changes new : ℕ → Change) (history longer : List Entry) : Type 0 where
  pub stay : (u : ℕ) → (changes u).verdict ≡ Adopted → new u ≡ changes u
  pub entries : (i : ℕ) (entry : Entry) → slice_get history i ≡ Some entry → slice_get longer i ≡ Some entry

made_still : (changes new : ℕ → Change) (history longer : List Entry) → Keeps changes new history longer → (c set : ℕ) (o : StoreOp) (entry : Entry) (number : Option ℕ) → IsMadeChange changes history c set o entry number → IsMadeChange new longer c set o entry number
made_still changes new history longer k c set o entry number a =
    let same : new a.change ≡ changes a.change = k.stay a.change a.adopted in
    record {
      change = a.change;
      by = ap (λ (x : Change). x.by) same ∙ a.by;
      adopted = ap (λ (x : Change). x.verdict) same ∙ a.adopted;
      set_is = ap (λ (x : Change). x.set) same ∙ a.set_is;
      op_is = ap (λ (x : Change). x.op) same ∙ a.op_is;
      effect = ap (λ (x : Change). x.effect) same ∙ a.effect;
      index = a.index;
      entered = k.entries a.index entry a.entered;
      number_is = a.number_is;
    }

changed_at : (changes : ℕ → Change) (u : ℕ) (new : Change) → (changes u).verdict ≢ Adopted → (w : ℕ) → (changes w).verdict ≡ Adopted → with_at changes u new w ≡ changes w
changed_at changes u new un w adopted = at_other changes u new w (λ e. un (subst (λ (i : ℕ). (changes i).verdict ≡ Adopted) e adopted))

longer_entries : (history : List Entry) (effect : Option Entry) (i : ℕ) (entry : Entry) → slice_get history i ≡ Some entry → slice_get (history_with history effect) i ≡ Some entry
longer_entries history None i entry e = e
longer_entries history (Some one) i entry e = get_front history one i (slice_get_within history i entry e) ∙ e

not_adopted : (m : State) (u : ℕ) → (m.changes u).verdict ≡ Unsettled → (m.changes u).verdict ≢ Adopted
not_adopted m u was e = let clash : Unsettled ≡ Adopted = sym was ∙ e in absurd cc

adopts_keep : (m : State) (u : ℕ) → (m.changes u).verdict ≡ Unsettled → Keeps m.changes (with_at m.changes u (record (m.changes u) { verdict = Adopted })) m.history (history_with m.history (m.changes u).effect)
adopts_keep m u was = record { stay = λ w e. changed_at m.changes u _ (not_adopted m u was) w e; entries = λ i entry e. longer_entries m.history (m.changes u).effect i entry e }

changes_keep : (changes : ℕ → Change) (u : ℕ) (new : Change) (history : List Entry) → (changes u).verdict ≢ Adopted → Keeps changes (with_at changes u new) history history
changes_keep changes u new history un = record { stay = λ w e. changed_at changes u new un w e; entries = λ i entry e. e }

-- ---- what a fop was handed in

module _ (changes : ℕ → Change) (history : List Entry) (c : ℕ) where
  abbrev pub IsJobMade : ℕ → Job → Option ℕ → Type 0
  IsJobMade set (job.Change cells fd o (Some entry)) number = IsMadeChange changes history c set o entry number
  IsJobMade set (job.Change cells fd o None) number = Unit {0}
  IsJobMade set (job.Read cells fd dir) number = Unit {0}
  IsJobMade set (job.Birth cells o) number = Unit {0}
  IsJobMade set (job.Open fd gfid) number = Unit {0}
  IsJobMade set job.Index number = Unit {0}
  IsJobMade set (job.Heal cell) number = Unit {0}

  abbrev pub IsEventMade : Event → Type 0
  IsEventMade (Held dir) = Unit {0}
  IsEventMade (Replied set asked shown) = DidNotFail shown → IsJobMade set asked (place_made (number_in shown))

  abbrev pub AreMade : Handed → Type 0
  AreMade [] = Unit {0}
  AreMade (event ∷ handed) = IsEventMade event × AreMade handed

  abbrev pub IsStageMade : Stage → Course → Type 0
  IsStageMade stage course = (number : Option ℕ) (set : ℕ) (asked : Job) (next : SetReply → Course) → stage ≡ Decided number → course ≡ Course.Asks set asked next → IsJobMade set asked number

  pub record HasMade (run : Run) : Type 0 where
    pub handed : AreMade run.handed
    pub stage : IsStageMade run.stage run.course

module _ (changes new : ℕ → Change) (history longer : List Entry) (k : Keeps changes new history longer) (c : ℕ) where
  job_still : (set : ℕ) (asked : Job) (number : Option ℕ) → IsJobMade changes history c set asked number → IsJobMade new longer c set asked number
  job_still set (job.Change cells fd o (Some entry)) number a = made_still changes new history longer k c set o entry number a
  job_still set (job.Change cells fd o None) number a = tt
  job_still set (job.Read cells fd dir) number a = tt
  job_still set (job.Birth cells o) number a = tt
  job_still set (job.Open fd gfid) number a = tt
  job_still set job.Index number a = tt
  job_still set (job.Heal cell) number a = tt

  events_still : (handed : Handed) → AreMade changes history c handed → AreMade new longer c handed
  events_still [] a = tt
  events_still (Held dir ∷ handed) a = (tt, events_still handed a.1)
  events_still (Replied set asked shown ∷ handed) a = (λ ok. job_still set asked (place_made (number_in shown)) (a.0 ok), events_still handed a.1)

  run_still : (run : Run) → HasMade changes history c run → HasMade new longer c run
  run_still run a = record { handed = events_still run.handed a.handed; stage = λ number set asked next e f. job_still set asked number (a.stage number set asked next e f) }

abbrev pub MadeIn : State → ℕ → Run → Type 0
MadeIn m c run = HasMade m.changes m.history c run

abbrev pub RunsMade : State → Type 0
RunsMade m = (c : ℕ) (run : Run) → Runs m c run → MadeIn m c run

-- a reply that is handed in
reply_made : (m : State) (t : Task) (shown : SetReply) → MayHandIn m t shown → MadeIn m t.call t.run → DidNotFail shown → IsJobMade m.changes m.history t.call t.set t.job (place_made (number_in shown))
reply_made m t shown h a = by_reply shown t.job refl h.is_reply
  where
    by_reply : (one : SetReply) (asked : Job) → t.job ≡ asked → IsReply m t one → DidNotFail one → IsJobMade m.changes m.history t.call t.set asked (place_made (number_in one))
    by_reply one (job.Read cells fd dir) is r ok = tt
    by_reply one (job.Birth cells o) is r ok = tt
    by_reply one (job.Open fd gfid) is r ok = tt
    by_reply one job.Index is r ok = tt
    by_reply one (job.Heal cell) is r ok = tt
    by_reply one (job.Change cells fd o None) is r ok = tt
    by_reply _ (job.Change cells fd o (Some entry)) is (Shows read fd2 dir contents place e stage seen) ok = let clash : job.Change cells fd o (Some entry) ≡ job.Read read fd2 dir = sym is ∙ e in absurd cc
    by_reply _ (job.Change cells fd o (Some entry)) is (Enters number stage) ok = a.stage number t.set (job.Change cells fd o (Some entry)) t.next stage (h.under_way.asks ∙ ap (λ (j : Job). Course.Asks t.set j t.next) is)
    by_reply _ (job.Change cells fd o (Some entry)) is (Fails error stage) ok = absurd ok
    by_reply one (job.Change cells fd o (Some entry)) is (Opens _ opens) ok = absurd (subst IsOpen is opens)

unwrap_entry : (a b : Entry) → ◌≡◌ {A = Option Entry} (Some a) (Some b) → a ≡ b
unwrap_entry a b e = cc

-- the fop's own change is adopted
decided_made : (first : List (List ℕ)) (m : State) → IsReached first m → (t : Task) (u : ℕ) → MayDecide m t u
    → (number : Option ℕ) (set : ℕ) (asked : Job) (next : SetReply → Course) → Decided (number_after m (m.changes u).effect) ≡ Decided number → t.run.course ≡ Course.Asks set asked next
    → IsJobMade (with_at m.changes u (record (m.changes u) { verdict = Adopted })) (history_with m.history (m.changes u).effect) t.call set asked number
decided_made first m reached t u h number set asked next e f = of_job asked (running.asked set asked next f)
  where
    running : IsRunning t.call t.run (m.changes u)
    running = ((each_beside first m reached).running t.call t.run h.under_way.runs u).running_is_unsettled h.turn

    new : Change
    new = record (m.changes u) { verdict = Adopted }

    same : with_at m.changes u new u ≡ new
    same = at_same m.changes u new

    number_is : number_after m (m.changes u).effect ≡ number
    number_is = cc

    of_job : (one : Job) → m.changes u ≡ change_by t.call set one → IsJobMade (with_at m.changes u new) (history_with m.history (m.changes u).effect) t.call set one number
    of_job (job.Change cells fd o (Some entry)) is =
        let effect : (m.changes u).effect ≡ Some entry = ap (λ (x : Change). x.effect) is in
        record {
          change = u;
          by = ap (λ (x : Change). x.by) same ∙ ap (λ (x : Change). x.by) is;
          adopted = ap (λ (x : Change). x.verdict) same;
          set_is = ap (λ (x : Change). x.set) same ∙ ap (λ (x : Change). x.set) is;
          op_is = ap (λ (x : Change). x.op) same ∙ ap (λ (x : Change). x.op) is;
          effect = ap (λ (x : Change). x.effect) same ∙ effect;
          index = length m.history;
          entered = subst (λ (x : Option Entry). slice_get (history_with m.history x) (length m.history) ≡ Some entry) (sym effect) (get_end m.history entry);
          number_is = sym number_is ∙ ap (λ (x : Option Entry). number_after m x) effect;
        }
    of_job (job.Change cells fd o None) is = tt
    of_job (job.Read cells fd dir) is = tt
    of_job (job.Birth cells o) is = tt
    of_job (job.Open fd gfid) is = tt
    of_job job.Index is = tt
    of_job (job.Heal cell) is = tt

step_runs_made : (first : List (List ℕ)) (m : State) (step : Step) → IsReached first m → Allowed m step → RunsMade m → RunsMade (after m step)
step_runs_made first m (Step.Submits draws) reached h a = stop_case (MadeIn m) m.calls (m.submitted + 1) _ (λ run e. absurd cc) a
step_runs_made first m (Step.Concludes c) reached h a = stop_case (MadeIn m) m.calls c _ (λ run e. absurd cc) a
step_runs_made first m (Step.Switches names) reached h a = a
step_runs_made first m (Step.Begins c f kept) reached h a = run_case (MadeIn m) m.calls c _ (record { handed = tt; stage = λ number set asked next e. absurd cc }) (λ i other differ e. a i other e)
step_runs_made first m (Step.Settles t u true) reached h a =
    run_case (λ c (run : Run). HasMade (after m (Step.Settles t u true)).changes (after m (Step.Settles t u true)).history c run) m.calls t.call _
    (let k = run_still m.changes _ m.history _ (adopts_keep m u h.unsettled.verdict) t.call t.run (a t.call t.run h.under_way.runs) in record { handed = k.handed; stage = k.stage })
    (λ i other differ e. run_still m.changes _ m.history _ (adopts_keep m u h.unsettled.verdict) i other (a i other e))
step_runs_made first m (Step.Settles t u false) reached h a =
    run_case (λ c (run : Run). HasMade (after m (Step.Settles t u false)).changes m.history c run) m.calls t.call _
    (let k = run_still m.changes _ m.history m.history (changes_keep m.changes u (record (m.changes u) { verdict = Dropped }) m.history (not_adopted m u h.unsettled.verdict)) t.call t.run (a t.call t.run h.under_way.runs) in record { handed = k.handed; stage = k.stage })
    (λ i other differ e. run_still m.changes _ m.history m.history (changes_keep m.changes u (record (m.changes u) { verdict = Dropped }) m.history (not_adopted m u h.unsettled.verdict)) i other (a i other e))
step_runs_made first m (Step.EndsSettling t) reached h a =
    run_case (MadeIn m) m.calls t.call _ (record { handed = (a t.call t.run h.under_way.runs).handed; stage = λ number set asked next e. absurd cc }) (λ i other differ e. a i other e)
step_runs_made first m (Step.BeginsChange t u) reached h a =
    run_case (λ c (run : Run). HasMade (with_at m.changes u (change_by t.call t.set t.job)) m.history c run) m.calls t.call _
    (record { handed = (still t.call t.run h.under_way.runs).handed; stage = λ number set asked next e. absurd cc }) (λ i other differ e. still i other e)
  where
    fresh : (m.changes u).verdict ≢ Adopted
    fresh e = let clash : Undrawn ≡ Adopted = sym h.fresh ∙ e in absurd cc

    still : (c : ℕ) (run : Run) → Runs m c run → HasMade (with_at m.changes u (change_by t.call t.set t.job)) m.history c run
    still c run runs = run_still m.changes _ m.history m.history (changes_keep m.changes u (change_by t.call t.set t.job) m.history fresh) c run (a c run runs)
step_runs_made first m (Step.Decides t u) reached h a =
    run_case (λ c (run : Run). HasMade (after m (Step.Decides t u)).changes (after m (Step.Decides t u)).history c run) m.calls t.call _
    (record { handed = (run_still m.changes _ m.history _ (adopts_keep m u h.unsettled) t.call t.run (a t.call t.run h.under_way.runs)).handed; stage = λ number set asked next e f. decided_made first m reached t u h number set asked next e f })
    (λ i other differ e. run_still m.changes _ m.history _ (adopts_keep m u h.unsettled) i other (a i other e))
step_runs_made first m (Step.SendsBirths t) reached h a =
    run_case (MadeIn m) m.calls t.call _ (record { handed = (a t.call t.run h.under_way.runs).handed; stage = λ number set asked next e. absurd cc }) (λ i other differ e. a i other e)
step_runs_made first m (Step.ConfirmsBirths t) reached h a =
    run_case (MadeIn m) m.calls t.call _ (record { handed = (a t.call t.run h.under_way.runs).handed; stage = λ number set asked next e f. born number set asked next e f }) (λ i other differ e. a i other e)
  where
    born : (number : Option ℕ) (set : ℕ) (asked : Job) (next : SetReply → Course) → Decided None ≡ Decided number → t.run.course ≡ Course.Asks set asked next → IsJobMade m.changes m.history t.call set asked number
    born number set asked next e f = of_job asked (bearing_is_birth first m reached t.call t.run h.under_way.runs set asked next h.turn f)
      where
        of_job : (one : Job) → IsBirth one → IsJobMade m.changes m.history t.call set one number
        of_job (job.Birth cells o) is = tt
        of_job (job.Change cells fd o effect) is = absurd is
        of_job (job.Read cells fd dir) is = absurd is
        of_job (job.Open fd gfid) is = absurd is
        of_job job.Index is = absurd is
        of_job (job.Heal cell) is = absurd is
step_runs_made first m (Step.HandsIn t shown) reached h a =
    run_case (MadeIn m) m.calls t.call _ (record { handed = (reply_made m t shown h (a t.call t.run h.under_way.runs), (a t.call t.run h.under_way.runs).handed); stage = λ number set asked next e. absurd cc }) (λ i other differ e. a i other e)
step_runs_made first m (Step.Extends c run dir next) reached h a =
    run_case (MadeIn m) m.calls c _ (record { handed = (tt, (a c run h.runs).handed); stage = λ number set asked later e. absurd cc }) (λ i other differ e. a i other e)
step_runs_made first m (Step.Releases c run gfid) reached h a = run_case (MadeIn m) m.calls c _ (record { handed = (a c run h.runs).handed; stage = (a c run h.runs).stage }) (λ i other differ e. a i other e)
step_runs_made first m (Step.Learns c run dir spans) reached h a = a
step_runs_made first m (Step.Answers c run answer place) reached h a = stop_case (MadeIn m) m.calls c _ (λ other e. quiet (is_lookup run.fop) answer other e) a
step_runs_made first m (Step.AnswersAbove c run answer) reached h a = stop_case (MadeIn m) m.calls c _ (λ other e. quiet (is_lookup run.fop) (fop_answer.Call answer) other e) a

pub runs_made : (first : List (List ℕ)) (m : State) → IsReached first m → RunsMade m
runs_made first _ (IsReached.Start planned) = λ c run runs. absurd cc
runs_made first _ (IsReached.Further old step reached allowed) = step_runs_made first old step reached allowed (runs_made first old reached)

-- ---- no job that is needed has failed

clear_reply : (shown : SetReply) → error_in shown ≡ None → DidNotFail shown
clear_reply (reply.Contents contents place) e = tt
clear_reply (reply.Decided number) e = tt
clear_reply reply.Opened e = tt
clear_reply (reply.Listed cells answered short) e = tt
clear_reply (reply.Healed records) e = tt
clear_reply (reply.Skipped cause) e = tt
clear_reply (reply.Io error) e = absurd cc

all_adopted : (f : Fop) (handed : Handed) (entry : Entry) (verdict : Verdict) → HaveNoFault f handed → WasReplied handed entry verdict → verdict ≡ Adopted
all_adopted f [] entry verdict clear w = absurd w
all_adopted f (event ∷ handed) entry verdict clear (inr w) = all_adopted f handed entry verdict clear.1 w
all_adopted f (event ∷ handed) entry verdict clear (inl r) = one event clear.0 r
  where
    one : (e : Event) → fault_in f e ≡ None → IsReplyTo e entry verdict → verdict ≡ Adopted
    one (Replied set (job.Change cells fd o (Some other)) shown) c r = r.1 (clear_reply shown c)
    one (Replied set (job.Change cells fd o None) shown) c r = absurd r
    one (Replied set (job.Read cells fd dir) shown) c r = absurd r
    one (Replied set (job.Birth cells o) shown) c r = absurd r
    one (Replied set (job.Open fd gfid) shown) c r = absurd r
    one (Replied set job.Index shown) c r = absurd r
    one (Replied set (job.Heal cell) shown) c r = absurd r
    one (Held dir) c r = absurd r

-- the latest change with an effect, and that there is one
pub record IsLastMade (changes : ℕ → Change) (history : List Entry) (c : ℕ) (made : Option Made) : Type 0 where
  pub set : ℕ
  pub op : StoreOp
  pub number : Option ℕ
  pub made_is : made ≡ Some (made_of set op number)
  pub entry : Entry
  pub change : IsMadeChange changes history c set op entry number

module _ (changes : ℕ → Change) (history : List Entry) (c : ℕ) (f : Fop) where
  pub last_is : (handed : Handed) (entry : Entry) (verdict : Verdict) → HaveNoFault f handed → AreMade changes history c handed → WasReplied handed entry verdict → IsLastMade changes history c (last_made handed)
  last_is [] entry verdict clear a w = absurd w
  last_is (Held dir ∷ handed) entry verdict clear a (inl r) = absurd r
  last_is (Held dir ∷ handed) entry verdict clear a (inr w) = last_is handed entry verdict clear.1 a.1 w
  last_is (Replied set (job.Change cells fd o (Some other)) shown ∷ handed) entry verdict clear a w = record { set = set; op = o; number = place_made (number_in shown); made_is = refl; entry = other; change = a.0 (clear_reply shown clear.0) }
  last_is (Replied set (job.Change cells fd o None) shown ∷ handed) entry verdict clear a (inl r) = absurd r
  last_is (Replied set (job.Change cells fd o None) shown ∷ handed) entry verdict clear a (inr w) = last_is handed entry verdict clear.1 a.1 w
  last_is (Replied set (job.Read cells fd dir) shown ∷ handed) entry verdict clear a (inl r) = absurd r
  last_is (Replied set (job.Read cells fd dir) shown ∷ handed) entry verdict clear a (inr w) = last_is handed entry verdict clear.1 a.1 w
  last_is (Replied set (job.Birth cells o) shown ∷ handed) entry verdict clear a (inl r) = absurd r
  last_is (Replied set (job.Birth cells o) shown ∷ handed) entry verdict clear a (inr w) = last_is handed entry verdict clear.1 a.1 w
  last_is (Replied set (job.Open fd gfid) shown ∷ handed) entry verdict clear a (inl r) = absurd r
  last_is (Replied set (job.Open fd gfid) shown ∷ handed) entry verdict clear a (inr w) = last_is handed entry verdict clear.1 a.1 w
  last_is (Replied set job.Index shown ∷ handed) entry verdict clear a (inl r) = absurd r
  last_is (Replied set job.Index shown ∷ handed) entry verdict clear a (inr w) = last_is handed entry verdict clear.1 a.1 w
  last_is (Replied set (job.Heal cell) shown ∷ handed) entry verdict clear a (inl r) = absurd r
  last_is (Replied set (job.Heal cell) shown ∷ handed) entry verdict clear a (inr w) = last_is handed entry verdict clear.1 a.1 w

-- ---- the answer

record EndsClear (f : Fop) (handed : Handed) (answer : FopAnswer) (place : Option ℕ) : Type 0 where
  pub clear : HaveNoFault f handed
  pub made : AnswersMade f (last_made handed) answer place

no_failure : (error : IoError) (answer : FopAnswer) → IsNoFailure answer → answer ≡ fop_answer.Call (answers.Io error) → ⊥
no_failure error answer ok e = subst IsNoFailure e ok

ends_clear : (f : Fop) (handed : Handed) (answer : FopAnswer) (place : Option ℕ) (entry : Entry) (verdict : Verdict) → WasReplied handed entry verdict → IsNoFailure answer → EndsWith f handed answer place → EndsClear f handed answer place
ends_clear f [] answer place entry verdict w ok e = absurd w
ends_clear f (event ∷ handed) answer place entry verdict w ok e = by_fault (fault_in f event) refl e.1
  where
    by_fault : (fault : Option IoError) → fault_in f event ≡ fault → EndsBy f fault (last_made (event ∷ handed)) answer place → EndsClear f (event ∷ handed) answer place
    by_fault None is k = record { clear = (is, e.0); made = k.1 }
    by_fault (Some error) is k = absurd (no_failure error answer ok k.0)

answered_as : (changes : ℕ → Change) (history : List Entry) (c : ℕ) (f : Fop) (answer : FopAnswer) (place : Option ℕ) (made : Option Made) → AnswersMade f made answer place → IsLastMade changes history c made → IsAnsweredAs changes history c f answer place
answered_as changes history c f answer place made a l =
    let k : IsAnswered f (made_of l.set l.op l.number) answer place = subst (λ (x : Option Made). AnswersMade f x answer place) l.made_is a in
    record {
      change = l.change.change;
      by = l.change.by;
      adopted = l.change.adopted;
      entry = l.entry;
      effect = l.change.effect;
      own = ap change_of l.change.op_is ∙ k.own;
      answer_is = k.answer_is ∙ sym (ap (λ (s : ℕ). answer_to s (changes l.change.change).op) l.change.set_is ∙ ap (λ (o : StoreOp). answer_to l.set o) l.change.op_is);
      index = l.change.index;
      entered = l.change.entered;
      place_is = k.place_is ∙ l.change.number_is;
    }

pub answered_by_entry : FopsAnswerChanges → (first : List (List ℕ)) (m : State) → IsReached first m → AnsweredByEntry m
answered_by_entry law first m reached = λ c run answer place h ok u entry by effect. all c run answer place h ok u entry effect (own_of_run first m reached c run h.runs u entry by effect)
  where
    all : (c : ℕ) (run : Run) (answer : FopAnswer) (place : Option ℕ) → Allowed m (Step.Answers c run answer place) → IsNoFailure answer → (u : ℕ) (entry : Entry) → HasEffect (m.changes u) entry
        → WasReplied run.handed entry (m.changes u).verdict ⊎ IsJobOf run u entry (m.changes u).verdict → ((m.changes u).verdict ≡ Adopted) × IsAnsweredAs m.changes m.history c run.fop answer place
    all c run answer place h ok u entry effect (inr j) = let clash : Course.Ends answer place ≡ Course.Asks j.set (job.Change j.cells j.fd j.op (Some entry)) j.next = sym h.ends ∙ j.asks in absurd cc
    all c run answer place h ok u entry effect (inl w) = (
      all_adopted run.fop run.handed entry (m.changes u).verdict clear.clear w,
      answered_as m.changes m.history c run.fop answer place (last_made run.handed) clear.made (last_is m.changes m.history c run.fop run.handed entry (m.changes u).verdict clear.clear (runs_made first m reached c run h.runs).handed w),
    )
      where
        ends : EndsWith run.fop run.handed answer place
        ends = subst (λ (course : Course). Always (GoesOn run.fop) AnyHold (EndsWith run.fop) run.handed course) h.ends
            (led_always (GoesOn run.fop) AnyHold (EndsWith run.fop) (first_course run) run.handed run.course (jobs_asked first m reached c run h.runs) (law run.volume run.names run.kept run.fop))

        clear : EndsClear run.fop run.handed answer place
        clear = ends_clear run.fop run.handed answer place entry (m.changes u).verdict w ok ends
