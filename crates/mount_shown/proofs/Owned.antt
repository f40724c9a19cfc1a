-- Each change that a call has begun is one that its fop asked for, with its set and cells, and its job has settled.
use Rattle.std.proofs.Common.{◌≡◌, ◌≢◌, ◌⊎◌, inl, inr, ◌∙◌, ℕ, true, false, refl, sym, ap, subst, List, [], ◌∷◌, Option}
use Rattle.afr_machine.specs.Changes.{Verdict}
use Rattle.afr_machine.specs.Changes.Verdict.{Undrawn, Unsettled, Adopted, Dropped}
use Rattle.afr_machine.specs.Replicas.{with_at}
use Rattle.afr_machine.specs.Transactions.{cells_of_job}
use Rattle.dht_fops.specs.Courses.{Course}
use Rattle.dht_fops.specs.Handed.{Handed, Event}
use Rattle.dht_fops.specs.Handed.Event.{Replied, Held}
use Rattle.fop_types.specs.declared.cells.Cell.{Cell}
use Rattle.fop_types.specs.declared.history.Entry.{Entry}
use Rattle.fop_types.specs.declared.jobs.Job.{Job}
use Rattle.fop_types.specs.declared.jobs.Job.TheVariants as job
use Rattle.fop_types.specs.declared.jobs.SetReply.{SetReply}
use Rattle.fop_types.specs.declared.store_ops.StoreOp.{StoreOp}
use Rattle.mount_laws.specs.Guards.{Allowed, IsReached, IsChange, IsSettling}
use Rattle.mount_laws.specs.Runs.{Run, Stage, SettledJob}
use Rattle.mount_laws.specs.Runs.Stage.{Waiting, Settled, Changing, Bearing, Decided}
use Rattle.mount_laws.specs.Seeing.{IsListed}
use Rattle.mount_laws.specs.States.{State, Change, Runs, has_begun}
use Rattle.mount_laws.specs.Steps.{Step, after, adopting, change_by, at_stage, number_after, sees}
use Rattle.mount_laws.proofs.Beside.{each_beside, one_job}
use Rattle.mount_laws.proofs.Seen.{settled_listed}
use Rattle.mount_laws.proofs.Tables.{at_case}
use Rattle.mount_shown.proofs.Asked.{HasChanged}
use Rattle.mount_shown.proofs.Moving.{RunStep, IsOf, run_steps}
use Rattle.mount_shown.proofs.Moving.RunStep.{Stays, Begins, Settles, EndsSettling, BeginsChange, Decides, SendsBirths, ConfirmsBirths, HandsIn, Extends, Releases}
use Rattle.mount_shown.proofs.Planned.{of_call_no_mount, run_sound}

-- the job is the change with this op and effect on the set
abbrev pub IsJobFor : ℕ → Job → ℕ → List Cell → StoreOp → Option Entry → Type 0
IsJobFor one (job.Change own fd p with_effect) set cells o effect = (one ≡ set) × (own ≡ cells) × (p ≡ o) × (with_effect ≡ effect)
IsJobFor one (job.Read own fd dir) set cells o effect = ⊥
IsJobFor one (job.Birth own p) set cells o effect = ⊥
IsJobFor one (job.Open fd gfid) set cells o effect = ⊥
IsJobFor one job.Index set cells o effect = ⊥
IsJobFor one (job.Heal cell) set cells o effect = ⊥

abbrev pub IsAskFor : Event → ℕ → List Cell → StoreOp → Option Entry → Type 0
IsAskFor (Held dir) set cells o effect = ⊥
IsAskFor (Replied one asked shown) set cells o effect = IsJobFor one asked set cells o effect

abbrev pub WasAskedFor : Handed → ℕ → List Cell → StoreOp → Option Entry → Type 0
WasAskedFor [] set cells o effect = ⊥
WasAskedFor (event ∷ handed) set cells o effect = IsAskFor event set cells o effect ⊎ WasAskedFor handed set cells o effect

-- the job under way is that change, and was begun
pub record IsAtJob (run : Run) (set : ℕ) (cells : List Cell) (o : StoreOp) (effect : Option Entry) : Type 0 where
  pub one : ℕ
  pub asked : Job
  pub next : SetReply → Course
  pub asks : run.course ≡ Course.Asks one asked next
  pub is : IsJobFor one asked set cells o effect
  pub changed : HasChanged run.stage

pub record IsOwned (run : Run) (set : ℕ) (cells : List Cell) (o : StoreOp) (effect : Option Entry) : Type 0 where
  pub asked : WasAskedFor run.handed set cells o effect ⊎ IsAtJob run set cells o effect
  pub listed : IsListed run.settled (record { set = set; cells = cells })

abbrev OwnEach : (ℕ → Change) → ℕ → Run → Type 0
OwnEach changes c run = (u : ℕ) → (changes u).by ≡ c → (changes u).verdict ≢ Undrawn → IsOwned run (changes u).set (changes u).cells (changes u).op (changes u).effect

abbrev EachIs : (ℕ → Change) → ℕ → (ℕ → List Cell → StoreOp → Option Entry → Type 0) → Type 0
EachIs changes c P = (u : ℕ) → (changes u).by ≡ c → (changes u).verdict ≢ Undrawn → P (changes u).set (changes u).cells (changes u).op (changes u).effect

decided_each : (changes : ℕ → Change) (u : ℕ) (verdict : Verdict) (c : ℕ) (P : ℕ → List Cell → StoreOp → Option Entry → Type 0) → (changes u).verdict ≢ Undrawn → EachIs changes c P → EachIs (with_at changes u (record (changes u) { verdict = verdict })) c P
decided_each changes u verdict c P begun a w =
    at_case (λ i (one : Change). one.by ≡ c → one.verdict ≢ Undrawn → P one.set one.cells one.op one.effect) changes u (record (changes u) { verdict = verdict }) (λ by drawn. a u by begun) w (λ differ. a w)

unsettled_begun : (v : Verdict) → v ≡ Unsettled → v ≢ Undrawn
unsettled_begun v e f = let clash : Unsettled ≡ Undrawn = sym e ∙ f in absurd cc

made_by_call : (c set : ℕ) (asked : Job) → IsChange asked → (change_by c set asked).by ≡ c
made_by_call c set (job.Change cells fd o effect) is = refl
made_by_call c set (job.Read cells fd dir) is = absurd is
made_by_call c set (job.Birth cells o) is = absurd is
made_by_call c set (job.Open fd gfid) is = absurd is
made_by_call c set job.Index is = absurd is
made_by_call c set (job.Heal cell) is = absurd is

made_job : (c set : ℕ) (asked : Job) → IsChange asked → IsJobFor set asked (change_by c set asked).set (change_by c set asked).cells (change_by c set asked).op (change_by c set asked).effect
made_job c set (job.Change cells fd o effect) is = (refl, refl, refl, refl)
made_job c set (job.Read cells fd dir) is = absurd is
made_job c set (job.Birth cells o) is = absurd is
made_job c set (job.Open fd gfid) is = absurd is
made_job c set job.Index is = absurd is
made_job c set (job.Heal cell) is = absurd is

made_listed : (c set : ℕ) (asked : Job) → IsChange asked → (jobs : List SettledJob) → IsListed jobs (record { set = set; cells = cells_of_job asked }) → IsListed jobs (record { set = (change_by c set asked).set; cells = (change_by c set asked).cells })
made_listed c set (job.Change cells fd o effect) is jobs l = l
made_listed c set (job.Read cells fd dir) is jobs l = absurd is
made_listed c set (job.Birth cells o) is jobs l = absurd is
made_listed c set (job.Open fd gfid) is jobs l = absurd is
made_listed c set job.Index is jobs l = absurd is
made_listed c set (job.Heal cell) is jobs l = absurd is

stays_each : (m : State) (step : Step) → Allowed m step → (c : ℕ) (P : ℕ → List Cell → StoreOp → Option Entry → Type 0) → (IsOf c step → ⊥) → EachIs m.changes c P → EachIs (after m step).changes c P
stays_each m (Step.Settles t u true) h c P other a = decided_each m.changes u Adopted c P (unsettled_begun _ h.unsettled.verdict) a
stays_each m (Step.Settles t u false) h c P other a = decided_each m.changes u Dropped c P (unsettled_begun _ h.unsettled.verdict) a
stays_each m (Step.Decides t u) h c P other a = decided_each m.changes u Adopted c P (unsettled_begun _ h.unsettled) a
stays_each m (Step.BeginsChange t u) h c P other a = λ w.
    at_case (λ i (one : Change). one.by ≡ c → one.verdict ≢ Undrawn → P one.set one.cells one.op one.effect) m.changes u (change_by t.call t.set t.job) (λ by drawn. absurd (other (sym (made_by_call t.call t.set t.job h.is_change) ∙ by))) w (λ differ. a w)
stays_each m (Step.Submits draws) h c P other a = a
stays_each m (Step.Concludes d) h c P other a = a
stays_each m (Step.Switches names) h c P other a = a
stays_each m (Step.Begins d f kept) h c P other a = a
stays_each m (Step.EndsSettling t) h c P other a = a
stays_each m (Step.SendsBirths t) h c P other a = a
stays_each m (Step.ConfirmsBirths t) h c P other a = a
stays_each m (Step.HandsIn t shown) h c P other a = a
stays_each m (Step.Extends d run dir next) h c P other a = a
stays_each m (Step.Releases d run gfid) h c P other a = a
stays_each m (Step.Learns d run dir spans) h c P other a = a
stays_each m (Step.Answers d run answer place) h c P other a = a
stays_each m (Step.AnswersAbove d run answer) h c P other a = a

-- ---- how it goes on

-- with the same course, at a stage at which a change still was begun
goes_at : (run new : Run) (set : ℕ) (cells : List Cell) (o : StoreOp) (effect : Option Entry) → new.handed ≡ run.handed → new.course ≡ run.course → new.settled ≡ run.settled → (HasChanged run.stage → HasChanged new.stage) → IsOwned run set cells o effect → IsOwned new set cells o effect
goes_at run new set cells o effect hs cs ss goes k = record {
  asked = by_case k.asked;
  listed = subst (λ (jobs : List SettledJob). IsListed jobs (record { set = set; cells = cells })) (sym ss) k.listed;
}
  where
    by_case : WasAskedFor run.handed set cells o effect ⊎ IsAtJob run set cells o effect → WasAskedFor new.handed set cells o effect ⊎ IsAtJob new set cells o effect
    by_case (inl w) = inl (subst (λ (handed : Handed). WasAskedFor handed set cells o effect) (sym hs) w)
    by_case (inr j) = inr (record { one = j.one; asked = j.asked; next = j.next; asks = cs ∙ j.asks; is = j.is; changed = goes j.changed })

not_settling : (stage : Stage) → IsSettling stage → HasChanged stage → ⊥
not_settling Waiting s k = k
not_settling (Settled place) s k = k
not_settling (Changing u) s k = s
not_settling Bearing s k = s
not_settling (Decided number) s k = s

-- asked before, as the job under way has begun no change
before : (run : Run) (set : ℕ) (cells : List Cell) (o : StoreOp) (effect : Option Entry) → (HasChanged run.stage → ⊥) → IsOwned run set cells o effect → WasAskedFor run.handed set cells o effect
before run set cells o effect none k = by_case k.asked
  where
    by_case : WasAskedFor run.handed set cells o effect ⊎ IsAtJob run set cells o effect → WasAskedFor run.handed set cells o effect
    by_case (inl w) = w
    by_case (inr j) = absurd (none j.changed)

pub asked_before : (run : Run) (place set : ℕ) (cells : List Cell) (o : StoreOp) (effect : Option Entry) → run.stage ≡ Settled place → IsOwned run set cells o effect → WasAskedFor run.handed set cells o effect
asked_before run place set cells o effect e k = before run set cells o effect (λ c. subst (λ (s : Stage). HasChanged s) e c) k

step_owned : (first : List (List ℕ)) (m : State) → IsReached first m → ((c : ℕ) (run : Run) → Runs m c run → OwnEach m.changes c run) → (step : Step) → Allowed m step → (c : ℕ) (run : Run) → RunStep m step c run → OwnEach (after m step).changes c run
step_owned first m reached a step allowed _ _ (Stays _ c run runs other) = stays_each m step allowed c (λ set cells o effect. IsOwned run set cells o effect) other (a c run runs)
step_owned first m reached a _ allowed _ _ (Begins c f kept h) = λ u by drawn. absurd (drawn ((each_beside first m reached).unbegun c (ap (λ s. has_begun s) h.ready) u by))
step_owned first m reached a _ allowed _ _ (Settles t u true h) =
    decided_each m.changes u Adopted t.call (λ set cells o effect. IsOwned (record t.run { saw = sees (adopting m u).adopted (m.changes u) t.run.saw }) set cells o effect) (unsettled_begun _ h.unsettled.verdict)
    (λ w by drawn. goes_at t.run (record t.run { saw = sees (adopting m u).adopted (m.changes u) t.run.saw }) (m.changes w).set (m.changes w).cells (m.changes w).op (m.changes w).effect refl refl refl (λ x. x) (a t.call t.run h.under_way.runs w by drawn))
step_owned first m reached a _ allowed _ _ (Settles t u false h) =
    decided_each m.changes u Dropped t.call (λ set cells o effect. IsOwned (record t.run { saw = sees m.adopted (m.changes u) t.run.saw }) set cells o effect) (unsettled_begun _ h.unsettled.verdict)
    (λ w by drawn. goes_at t.run (record t.run { saw = sees m.adopted (m.changes u) t.run.saw }) (m.changes w).set (m.changes w).cells (m.changes w).op (m.changes w).effect refl refl refl (λ x. x) (a t.call t.run h.under_way.runs w by drawn))
step_owned first m reached a _ allowed _ _ (EndsSettling t h) = λ w by drawn.
    let k = a t.call t.run h.under_way.runs w by drawn in
    record { asked = inl (before t.run _ _ _ _ (not_settling t.run.stage h.turn) k); listed = inr k.listed }
step_owned first m reached a _ allowed _ _ (BeginsChange t u h) = λ w.
    at_case (λ i (one : Change). one.by ≡ t.call → one.verdict ≢ Undrawn → IsOwned (at_stage t.run (Changing u)) one.set one.cells one.op one.effect) m.changes u (change_by t.call t.set t.job)
    (λ by drawn. record {
      asked = inr (record { one = t.set; asked = t.job; next = t.next; asks = h.under_way.asks; is = made_job t.call t.set t.job h.is_change; changed = tt });
      listed = made_listed t.call t.set t.job h.is_change t.run.settled (settled_listed first m reached t.call t.run h.place t.set t.job t.next h.under_way.runs h.settled h.under_way.asks);
    }) w
    (λ differ by drawn.
    (let k = a t.call t.run h.under_way.runs w by drawn in
    record { asked = inl (asked_before t.run h.place _ _ _ _ h.settled k); listed = k.listed }))
step_owned first m reached a _ allowed _ _ (Decides t u h) =
    decided_each m.changes u Adopted t.call (λ set cells o effect. IsOwned (record t.run { stage = Decided (number_after m (m.changes u).effect); saw = sees (adopting m u).adopted (m.changes u) t.run.saw }) set cells o effect) (unsettled_begun _ h.unsettled)
    (λ w by drawn. goes_at t.run (record t.run { stage = Decided (number_after m (m.changes u).effect); saw = sees (adopting m u).adopted (m.changes u) t.run.saw }) (m.changes w).set (m.changes w).cells (m.changes w).op (m.changes w).effect refl refl refl (λ x. tt) (a t.call t.run h.under_way.runs w by drawn))
step_owned first m reached a _ allowed _ _ (SendsBirths t h) = λ w by drawn.
    let k = a t.call t.run h.under_way.runs w by drawn in
    record { asked = inl (before t.run _ _ _ _ (λ c. subst (λ (s : Stage). HasChanged s) h.waiting c) k); listed = k.listed }
step_owned first m reached a _ allowed _ _ (ConfirmsBirths t h) = λ w by drawn.
    let k = a t.call t.run h.under_way.runs w by drawn in
    record { asked = inl (before t.run _ _ _ _ (λ c. subst (λ (s : Stage). HasChanged s) h.turn c) k); listed = k.listed }
step_owned first m reached a _ allowed _ _ (HandsIn t shown h) = λ w by drawn.
    let k = a t.call t.run h.under_way.runs w by drawn in
    record { asked = inl (goes (m.changes w).set (m.changes w).cells (m.changes w).op (m.changes w).effect k.asked); listed = k.listed }
  where
    goes : (set : ℕ) (cells : List Cell) (o : StoreOp) (effect : Option Entry) → WasAskedFor t.run.handed set cells o effect ⊎ IsAtJob t.run set cells o effect → WasAskedFor (Replied t.set t.job shown ∷ t.run.handed) set cells o effect
    goes set cells o effect (inl w) = inr w
    goes set cells o effect (inr j) =
        let same = one_job t.run.course j.one t.set j.asked t.job j.next t.next j.asks h.under_way.asks in
        inl (subst (λ (asked : Job). IsJobFor t.set asked set cells o effect) same.job_is (subst (λ (s : ℕ). IsJobFor s j.asked set cells o effect) same.set_is j.is))
step_owned first m reached a _ allowed _ _ (Extends c run dir next h) = λ w by drawn.
    let k = a c run h.runs w by drawn in
    record { asked = inl (goes (m.changes w).set (m.changes w).cells (m.changes w).op (m.changes w).effect k.asked); listed = k.listed }
  where
    goes : (set : ℕ) (cells : List Cell) (o : StoreOp) (effect : Option Entry) → WasAskedFor run.handed set cells o effect ⊎ IsAtJob run set cells o effect → WasAskedFor (Held dir ∷ run.handed) set cells o effect
    goes set cells o effect (inl w) = inr w
    goes set cells o effect (inr j) = let clash : Course.Extends dir next ≡ Course.Asks j.one j.asked j.next = sym h.extends ∙ j.asks in absurd cc
step_owned first m reached a _ allowed _ _ (Releases c run gfid h) = absurd (of_call_no_mount run.fop (run_sound first m reached c run h.runs).of_call h.of_mount)

pub own_stands : (first : List (List ℕ)) (m : State) → IsReached first m → (c : ℕ) (run : Run) → Runs m c run → (u : ℕ) → (m.changes u).by ≡ c → (m.changes u).verdict ≢ Undrawn → IsOwned run (m.changes u).set (m.changes u).cells (m.changes u).op (m.changes u).effect
own_stands first _ (IsReached.Start planned) = λ c run runs. absurd cc
own_stands first _ (IsReached.Further old step reached allowed) = λ c run runs. step_owned first old reached (own_stands first old reached) step allowed c run (run_steps old step allowed c run runs)
