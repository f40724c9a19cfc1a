-- A fop under way is one that a call asks, with values within their bounds, on sets with names of volumes; so are the replies that
-- it was handed in; and each of its reads is of a job that has settled.
use Rattle.std.proofs.Common.{◌≡◌, inr, ℕ, ◌+◌, refl, sym, subst, true, false, List, [], ◌∷◌, Option}
use Rattle.afr_machine.specs.Replicas.{with_at}
use Rattle.afr_machine.specs.Transactions.{cells_of_job}
use Rattle.dht_fops.specs.Handed.{Handed, Event, HaveBounds}
use Rattle.dht_fops.specs.Handed.Event.{Replied, Held}
use Rattle.dht_fops.specs.Bounds.{AnswersHaveBounds}
use Rattle.fop_types.specs.Bounds.{Each, IsFop, IsVolumeName}
use Rattle.fop_types.specs.declared.fops.Fop.{Fop}
use Rattle.fop_types.specs.declared.fops.Fop.TheVariants as fop
use Rattle.fop_types.specs.declared.jobs.Job.{Job}
use Rattle.fop_types.specs.declared.jobs.Job.TheVariants as job
use Rattle.fop_types.specs.declared.jobs.SetReply.{SetReply}
use Rattle.fop_types.specs.declared.jobs.SetReply.TheVariants as reply
use Rattle.mount_laws.specs.Guards.{Allowed, IsReached, IsOfCall, IsOfMount, MayHandIn, IsReply, IsOpen}
use Rattle.mount_laws.specs.Guards.IsReply.{Shows, Enters, Fails, Opens}
use Rattle.mount_laws.specs.Runs.{Run, SettledJob}
use Rattle.mount_laws.specs.Seeing.{IsListed}
use Rattle.mount_laws.specs.States.{State, Call, Runs, Status}
use Rattle.mount_laws.specs.Steps.{Step, Task, after}
use Rattle.mount_laws.proofs.Seen.{settled_listed}
use Rattle.mount_laws.proofs.Tables.{at_case}
use Rattle.mount_shown.proofs.Moving.{RunStep, run_steps, every_handed}
use Rattle.mount_shown.proofs.Moving.RunStep.{Stays, Begins, Settles, EndsSettling, BeginsChange, Decides, SendsBirths, ConfirmsBirths, HandsIn, Extends, Releases}

-- ---- names of volumes

abbrev AreNamed : List (List ℕ) → (ℕ → Call) → Type 0
AreNamed names calls = Each IsVolumeName names × ((c : ℕ) → Each IsVolumeName (calls c).names)

goes_named : (names : List (List ℕ)) (calls : ℕ → Call) (c : ℕ) (status : Status) → AreNamed names calls → AreNamed names (with_at calls c (record (calls c) { status = status }))
goes_named names calls c status a = (a.0, λ i. at_case (λ j (one : Call). Each IsVolumeName one.names) calls c (record (calls c) { status = status }) (a.1 c) i (λ differ. a.1 i))

step_named : (m : State) (step : Step) → Allowed m step → AreNamed m.names m.calls → AreNamed (after m step).names (after m step).calls
step_named m (Step.Submits draws) h a = (a.0, λ i. at_case (λ j (one : Call). Each IsVolumeName one.names) m.calls (m.submitted + 1) _ a.0 i (λ differ. a.1 i))
step_named m (Step.Switches names) h a = (h.named, a.1)
step_named m (Step.Concludes c) h a = goes_named m.names m.calls c _ a
step_named m (Step.Begins c f kept) h a = goes_named m.names m.calls c _ a
step_named m (Step.Settles t u true) h a = goes_named m.names m.calls t.call _ a
step_named m (Step.Settles t u false) h a = goes_named m.names m.calls t.call _ a
step_named m (Step.EndsSettling t) h a = goes_named m.names m.calls t.call _ a
step_named m (Step.BeginsChange t u) h a = goes_named m.names m.calls t.call _ a
step_named m (Step.Decides t u) h a = goes_named m.names m.calls t.call _ a
step_named m (Step.SendsBirths t) h a = goes_named m.names m.calls t.call _ a
step_named m (Step.ConfirmsBirths t) h a = goes_named m.names m.calls t.call _ a
step_named m (Step.HandsIn t shown) h a = goes_named m.names m.calls t.call _ a
step_named m (Step.Extends c run dir next) h a = goes_named m.names m.calls c _ a
step_named m (Step.Releases c run gfid) h a = goes_named m.names m.calls c _ a
step_named m (Step.Learns c run dir spans) h a = a
step_named m (Step.Answers c run answer place) h a = goes_named m.names m.calls c _ a
step_named m (Step.AnswersAbove c run answer) h a = goes_named m.names m.calls c _ a

all_named : (first : List (List ℕ)) (m : State) → IsReached first m → AreNamed m.names m.calls
all_named first _ (IsReached.Start planned) = (planned.named, λ c. tt)
all_named first _ (IsReached.Further old step reached allowed) = step_named old step allowed (all_named first old reached)

-- ---- fops

pub record IsSound (run : Run) : Type 0 where
  pub of_call : IsOfCall run.fop
  pub within : IsFop run.fop
  pub named : Each IsVolumeName run.names

-- the same fop
same_sound : (run new : Run) → new.fop ≡ run.fop → new.names ≡ run.names → IsSound run → IsSound new
same_sound run new e n a = record {
  of_call = subst (λ (f : Fop). IsOfCall f) (sym e) a.of_call;
  within = subst (λ (f : Fop). IsFop f) (sym e) a.within;
  named = subst (λ (names : List (List ℕ)). Each IsVolumeName names) (sym n) a.named;
}

step_sound : (first : List (List ℕ)) (m : State) → IsReached first m → ((c : ℕ) (run : Run) → Runs m c run → IsSound run) → (step : Step) (c : ℕ) (run : Run) → RunStep m step c run → IsSound run
step_sound first m reached a _ _ _ (Stays _ c run runs differ) = a c run runs
step_sound first m reached a _ _ _ (Begins c f kept h) = record { of_call = h.of_call; within = h.within; named = (all_named first m reached).1 c }
step_sound first m reached a _ _ _ (Settles t u adopts h) = same_sound t.run _ refl refl (a t.call t.run h.under_way.runs)
step_sound first m reached a _ _ _ (EndsSettling t h) = same_sound t.run _ refl refl (a t.call t.run h.under_way.runs)
step_sound first m reached a _ _ _ (BeginsChange t u h) = same_sound t.run _ refl refl (a t.call t.run h.under_way.runs)
step_sound first m reached a _ _ _ (Decides t u h) = same_sound t.run _ refl refl (a t.call t.run h.under_way.runs)
step_sound first m reached a _ _ _ (SendsBirths t h) = same_sound t.run _ refl refl (a t.call t.run h.under_way.runs)
step_sound first m reached a _ _ _ (ConfirmsBirths t h) = same_sound t.run _ refl refl (a t.call t.run h.under_way.runs)
step_sound first m reached a _ _ _ (HandsIn t shown h) = same_sound t.run _ refl refl (a t.call t.run h.under_way.runs)
step_sound first m reached a _ _ _ (Extends c run dir next h) = same_sound run _ refl refl (a c run h.runs)
step_sound first m reached a _ _ _ (Releases c run gfid h) = same_sound run _ refl refl (a c run h.runs)

pub run_sound : (first : List (List ℕ)) (m : State) → IsReached first m → (c : ℕ) (run : Run) → Runs m c run → IsSound run
run_sound first _ (IsReached.Start planned) = λ c run runs. absurd cc
run_sound first _ (IsReached.Further old step reached allowed) = λ c run runs. step_sound first old reached (run_sound first old reached) step c run (run_steps old step allowed c run runs)

-- a call's fop keeps its holds
pub of_call_no_mount : (f : Fop) → IsOfCall f → IsOfMount f → ⊥
of_call_no_mount (fop.Migrate fds) c k = c
of_call_no_mount (fop.Heal count) c k = c
of_call_no_mount (fop.Lookup parent name) c k = k
of_call_no_mount (fop.Mkdir parent name mode own) c k = k
of_call_no_mount (fop.Rmdir parent name) c k = k
of_call_no_mount (fop.Create fd parent name mode own) c k = k
of_call_no_mount (fop.Unlink parent name) c k = k
of_call_no_mount (fop.Rename parent name target new_name) c k = k
of_call_no_mount (fop.Open fd object) c k = k
of_call_no_mount (fop.Stat object) c k = k
of_call_no_mount (fop.List object) c k = k
of_call_no_mount (fop.Chmod object mode) c k = k
of_call_no_mount (fop.Truncate object size) c k = k
of_call_no_mount (fop.SetAttr object attr) c k = k
of_call_no_mount (fop.GetAttr object name) c k = k
of_call_no_mount (fop.DelAttr object name) c k = k
of_call_no_mount (fop.Read fd object offset count) c k = k
of_call_no_mount (fop.Write fd object offset bytes) c k = k

-- ---- replies within their bounds

pub handed_bounded : AnswersHaveBounds → (first : List (List ℕ)) (m : State) → IsReached first m → (c : ℕ) (run : Run) → Runs m c run → HaveBounds run.handed
handed_bounded bounds first =
    every_handed first (λ m c (handed : Handed). HaveBounds handed) (λ m c. tt) (λ m step reached allowed c run runs a. a)
    (λ m t shown reached h a. (bounds t.set h.fitting.quorum t.job shown h.fitting.answered, a)) (λ m c run dir next reached h a. (tt, a))

-- ---- reads are of settled jobs

abbrev pub IsReadListed : List SettledJob → Event → Type 0
IsReadListed jobs (Replied set (job.Read cells fd dir) (reply.Contents contents place)) = IsListed jobs (record { set = set; cells = cells })
IsReadListed jobs other = Unit {0}

abbrev pub AreReadsListed : List SettledJob → Handed → Type 0
AreReadsListed jobs [] = Unit {0}
AreReadsListed jobs (event ∷ handed) = IsReadListed jobs event × AreReadsListed jobs handed

more_listed : (jobs : List SettledJob) (done : SettledJob) (handed : Handed) → AreReadsListed jobs handed → AreReadsListed (done ∷ jobs) handed
more_listed jobs done [] a = tt
more_listed jobs done (event ∷ handed) a = (one event a.0, more_listed jobs done handed a.1)
  where
    one : (e : Event) → IsReadListed jobs e → IsReadListed (done ∷ jobs) e
    one (Replied set (job.Read cells fd dir) (reply.Contents contents place)) k = inr k
    one (Replied set (job.Read cells fd dir) (reply.Decided number)) k = tt
    one (Replied set (job.Read cells fd dir) reply.Opened) k = tt
    one (Replied set (job.Read cells fd dir) (reply.Listed listed answered short)) k = tt
    one (Replied set (job.Read cells fd dir) (reply.Healed records)) k = tt
    one (Replied set (job.Read cells fd dir) (reply.Skipped cause)) k = tt
    one (Replied set (job.Read cells fd dir) (reply.Io error)) k = tt
    one (Replied set (job.Change cells fd o effect) shown) k = tt
    one (Replied set (job.Birth cells o) shown) k = tt
    one (Replied set (job.Open fd gfid) shown) k = tt
    one (Replied set job.Index shown) k = tt
    one (Replied set (job.Heal cell) shown) k = tt
    one (Held dir) k = tt

-- a reply with contents is of a read that has settled
reply_listed : (first : List (List ℕ)) (m : State) → IsReached first m → (t : Task) (shown : SetReply) → MayHandIn m t shown → IsReadListed t.run.settled (Replied t.set t.job shown)
reply_listed first m reached t shown h = by_reply shown h.is_reply
  where
    opens : (asked : Job) (one : SetReply) → IsOpen asked → IsReadListed t.run.settled (Replied t.set asked one)
    opens (job.Open fd gfid) one is = tt
    opens (job.Read cells fd dir) one is = absurd is
    opens (job.Change cells fd o effect) one is = absurd is
    opens (job.Birth cells o) one is = absurd is
    opens job.Index one is = absurd is
    opens (job.Heal cell) one is = absurd is

    entered : (asked : Job) (number : Option ℕ) → IsReadListed t.run.settled (Replied t.set asked (reply.Decided number))
    entered (job.Open fd gfid) number = tt
    entered (job.Read cells fd dir) number = tt
    entered (job.Change cells fd o effect) number = tt
    entered (job.Birth cells o) number = tt
    entered job.Index number = tt
    entered (job.Heal cell) number = tt

    failed : (asked : Job) (error : _) → IsReadListed t.run.settled (Replied t.set asked (reply.Io error))
    failed (job.Open fd gfid) error = tt
    failed (job.Read cells fd dir) error = tt
    failed (job.Change cells fd o effect) error = tt
    failed (job.Birth cells o) error = tt
    failed job.Index error = tt
    failed (job.Heal cell) error = tt

    by_reply : (one : SetReply) → IsReply m t one → IsReadListed t.run.settled (Replied t.set t.job one)
    by_reply _ (Shows cells fd dir contents place is stage seen) =
        subst (λ (asked : Job). IsReadListed t.run.settled (Replied t.set asked (reply.Contents contents place))) (sym is)
        (subst (λ (asked : Job). IsListed t.run.settled (record { set = t.set; cells = cells_of_job asked })) is (settled_listed first m reached t.call t.run place t.set t.job t.next h.under_way.runs stage h.under_way.asks))
    by_reply _ (Enters number stage) = entered t.job number
    by_reply _ (Fails error stage) = failed t.job error
    by_reply one (Opens _ is) = opens t.job one is

step_reads : (first : List (List ℕ)) (m : State) → IsReached first m → ((c : ℕ) (run : Run) → Runs m c run → AreReadsListed run.settled run.handed) → (step : Step) (c : ℕ) (run : Run) → RunStep m step c run → AreReadsListed run.settled run.handed
step_reads first m reached a _ _ _ (Stays _ c run runs differ) = a c run runs
step_reads first m reached a _ _ _ (Begins c f kept h) = tt
step_reads first m reached a _ _ _ (Settles t u adopts h) = a t.call t.run h.under_way.runs
step_reads first m reached a _ _ _ (EndsSettling t h) = more_listed t.run.settled _ t.run.handed (a t.call t.run h.under_way.runs)
step_reads first m reached a _ _ _ (BeginsChange t u h) = a t.call t.run h.under_way.runs
step_reads first m reached a _ _ _ (Decides t u h) = a t.call t.run h.under_way.runs
step_reads first m reached a _ _ _ (SendsBirths t h) = a t.call t.run h.under_way.runs
step_reads first m reached a _ _ _ (ConfirmsBirths t h) = a t.call t.run h.under_way.runs
step_reads first m reached a _ _ _ (HandsIn t shown h) = (reply_listed first m reached t shown h, a t.call t.run h.under_way.runs)
step_reads first m reached a _ _ _ (Extends c run dir next h) = (tt, a c run h.runs)
step_reads first m reached a _ _ _ (Releases c run gfid h) = absurd (of_call_no_mount run.fop (run_sound first m reached c run h.runs).of_call h.of_mount)

pub reads_listed : (first : List (List ℕ)) (m : State) → IsReached first m → (c : ℕ) (run : Run) → Runs m c run → AreReadsListed run.settled run.handed
reads_listed first _ (IsReached.Start planned) = λ c run runs. absurd cc
reads_listed first _ (IsReached.Further old step reached allowed) = λ c run runs. step_reads first old reached (reads_listed first old reached) step c run (run_steps old step allowed c run runs)
