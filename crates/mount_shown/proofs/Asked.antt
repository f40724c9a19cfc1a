-- Each change that a call has begun was asked by its fop; and until the fop's first change with an effect it has begun none.
use Rattle.std.proofs.Common.{◌≡◌, ◌≢◌, ◌⊎◌, inl, inr, ◌∙◌, ℕ, true, false, refl, sym, ap, subst, List, [], ◌∷◌, Option, Some, None}
use Rattle.afr_machine.specs.Changes.{Verdict}
use Rattle.afr_machine.specs.Changes.Verdict.{Undrawn, Drawn, Unsettled, Adopted, Dropped}
use Rattle.afr_machine.specs.Replicas.{with_at}
use Rattle.dht_fops.specs.Courses.{Course}
use Rattle.dht_fops.specs.Handed.{Handed, Event, Always, AnyHold}
use Rattle.dht_fops.specs.Handed.Event.{Replied, Held}
use Rattle.dht_fops.specs.Standing.{HaveNoEffect, HasNoEffect}
use Rattle.dht_laws.proofs.EndingsOfFops.{fops_answer}
use Rattle.dht_laws.specs.Endings.{Made, GoesOn, EndsWith, last_made, made_by, IsOwnMade}
use Rattle.fop_types.specs.declared.answers.FopAnswer.{FopAnswer}
use Rattle.fop_types.specs.declared.cells.Gfid.{Gfid}
use Rattle.fop_types.specs.declared.fops.Fop.{Fop}
use Rattle.fop_types.specs.declared.jobs.Job.{Job}
use Rattle.fop_types.specs.declared.jobs.Job.TheVariants as job
use Rattle.fop_types.specs.declared.jobs.SetReply.{SetReply}
use Rattle.mount_laws.specs.Guards.{Allowed, IsReached, IsChange, IsSettling}
use Rattle.mount_laws.specs.Runs.{Run, Stage, first_course, Leads}
use Rattle.mount_laws.specs.Runs.Stage.{Waiting, Settled, Changing, Bearing, Decided}
use Rattle.mount_laws.specs.Runs.Leads.{Begun, Answered, Extended}
use Rattle.mount_laws.specs.States.{State, Change, Runs, has_begun}
use Rattle.mount_laws.specs.Steps.{Step, after, adopting, change_by, at_stage, number_after, sees}
use Rattle.mount_laws.proofs.Beside.{each_beside, one_job}
use Rattle.mount_laws.proofs.Held.{jobs_asked}
use Rattle.mount_laws.proofs.Leading.{led_always}
use Rattle.mount_laws.proofs.Tables.{at_case}
use Rattle.mount_shown.proofs.Moving.{RunStep, IsOf, run_steps}
use Rattle.mount_shown.proofs.Moving.RunStep.{Stays, Begins, Settles, EndsSettling, BeginsChange, Decides, SendsBirths, ConfirmsBirths, HandsIn, Extends, Releases}
use Rattle.mount_shown.proofs.Planned.{of_call_no_mount, run_sound}

-- ---- what was asked at each event

-- each job that was handed in was asked after what was handed in before it
abbrev pub AllAsked : (Handed → ℕ → Job → Type 0) → Handed → Type 0
AllAsked P [] = Unit {0}
AllAsked P (Replied set asked shown ∷ handed) = P handed set asked × AllAsked P handed
AllAsked P (Held dir ∷ handed) = AllAsked P handed

pub led_all : (P : Handed → ℕ → Job → Type 0) (H : Handed → Gfid → Type 0) (Q : Handed → FopAnswer → Option ℕ → Type 0) (first : Course) (handed : Handed) (course : Course) → Leads first handed course → Always P H Q [] first → AllAsked P handed
led_all P H Q first _ _ Begun a = tt
led_all P H Q first _ _ (Answered handed set asked next shown l) a = ((led_always P H Q first handed (Course.Asks set asked next) l a).0, led_all P H Q first handed (Course.Asks set asked next) l a)
led_all P H Q first _ _ (Extended handed dir next l) a = led_all P H Q first handed (Course.Extends dir next) l a

-- ---- changes that were asked

abbrev pub IsChanged : Event → Type 0
IsChanged (Held dir) = ⊥
IsChanged (Replied set asked shown) = IsChange asked

abbrev pub WasChanged : Handed → Type 0
WasChanged [] = ⊥
WasChanged (event ∷ handed) = IsChanged event ⊎ WasChanged handed

abbrev pub HasChanged : Stage → Type 0
HasChanged Waiting = ⊥
HasChanged (Settled place) = ⊥
HasChanged (Changing u) = Unit {0}
HasChanged Bearing = ⊥
HasChanged (Decided number) = Unit {0}

-- the job under way is a change that was begun
pub record IsAtChange (run : Run) : Type 0 where
  pub set : ℕ
  pub asked : Job
  pub next : SetReply → Course
  pub asks : run.course ≡ Course.Asks set asked next
  pub is_change : IsChange asked
  pub changed : HasChanged run.stage

abbrev pub HasAsked : Run → Type 0
HasAsked run = WasChanged run.handed ⊎ IsAtChange run

abbrev AsksEach : (ℕ → Change) → ℕ → Run → Type 0
AsksEach changes c run = (u : ℕ) → (changes u).by ≡ c → (changes u).verdict ≢ Undrawn → HasAsked run

not_waiting : (run : Run) → run.stage ≡ Waiting → IsAtChange run → ⊥
not_waiting run e k = subst (λ (s : Stage). HasChanged s) e k.changed

pub not_settled : (run : Run) (place : ℕ) → run.stage ≡ Settled place → IsAtChange run → ⊥
not_settled run place e k = subst (λ (s : Stage). HasChanged s) e k.changed

not_settling : (stage : Stage) → IsSettling stage → HasChanged stage → ⊥
not_settling Waiting s k = k
not_settling (Settled place) s k = k
not_settling (Changing u) s k = s
not_settling Bearing s k = s
not_settling (Decided number) s k = s

only_before : (run : Run) → (IsAtChange run → ⊥) → HasAsked run → WasChanged run.handed
only_before run none (inl w) = w
only_before run none (inr k) = absurd (none k)

decided_asks : (changes : ℕ → Change) (u : ℕ) (verdict : Verdict) (c : ℕ) (P : Type 0) → (changes u).verdict ≢ Undrawn → ((w : ℕ) → (changes w).by ≡ c → (changes w).verdict ≢ Undrawn → P)
    → (w : ℕ) → (with_at changes u (record (changes u) { verdict = verdict }) w).by ≡ c → (with_at changes u (record (changes u) { verdict = verdict }) w).verdict ≢ Undrawn → P
decided_asks changes u verdict c P begun a w =
    at_case (λ i (one : Change). one.by ≡ c → one.verdict ≢ Undrawn → P) changes u (record (changes u) { verdict = verdict }) (λ by drawn. a u by begun) w (λ differ. a w)

unsettled_begun : (v : Verdict) → v ≡ Unsettled → v ≢ Undrawn
unsettled_begun v e f = let clash : Unsettled ≡ Undrawn = sym e ∙ f in absurd cc

made_by_call : (c set : ℕ) (asked : Job) → IsChange asked → (change_by c set asked).by ≡ c
made_by_call c set (job.Change cells fd o effect) is = refl
made_by_call c set (job.Read cells fd dir) is = absurd is
made_by_call c set (job.Birth cells o) is = absurd is
made_by_call c set (job.Open fd gfid) is = absurd is
made_by_call c set job.Index is = absurd is
made_by_call c set (job.Heal cell) is = absurd is

stays_asked : (m : State) (step : Step) → Allowed m step → (c : ℕ) (P : Type 0) → (IsOf c step → ⊥) → ((u : ℕ) → (m.changes u).by ≡ c → (m.changes u).verdict ≢ Undrawn → P) → (u : ℕ) → ((after m step).changes u).by ≡ c → ((after m step).changes u).verdict ≢ Undrawn → P
stays_asked m (Step.Settles t u true) h c P other a = decided_asks m.changes u Adopted c P (unsettled_begun _ h.unsettled.verdict) a
stays_asked m (Step.Settles t u false) h c P other a = decided_asks m.changes u Dropped c P (unsettled_begun _ h.unsettled.verdict) a
stays_asked m (Step.Decides t u) h c P other a = decided_asks m.changes u Adopted c P (unsettled_begun _ h.unsettled) a
stays_asked m (Step.BeginsChange t u) h c P other a = λ w.
    at_case (λ i (one : Change). one.by ≡ c → one.verdict ≢ Undrawn → P) m.changes u (change_by t.call t.set t.job) (λ by drawn. absurd (other (sym (made_by_call t.call t.set t.job h.is_change) ∙ by))) w (λ differ. a w)
stays_asked m (Step.Submits draws) h c P other a = a
stays_asked m (Step.Concludes d) h c P other a = a
stays_asked m (Step.Switches names) h c P other a = a
stays_asked m (Step.Begins d f kept) h c P other a = a
stays_asked m (Step.EndsSettling t) h c P other a = a
stays_asked m (Step.SendsBirths t) h c P other a = a
stays_asked m (Step.ConfirmsBirths t) h c P other a = a
stays_asked m (Step.HandsIn t shown) h c P other a = a
stays_asked m (Step.Extends d run dir next) h c P other a = a
stays_asked m (Step.Releases d run gfid) h c P other a = a
stays_asked m (Step.Learns d run dir spans) h c P other a = a
stays_asked m (Step.Answers d run answer place) h c P other a = a
stays_asked m (Step.AnswersAbove d run answer) h c P other a = a

step_asked : (first : List (List ℕ)) (m : State) → IsReached first m → ((c : ℕ) (run : Run) → Runs m c run → AsksEach m.changes c run) → (step : Step) → Allowed m step → (c : ℕ) (run : Run) → RunStep m step c run → AsksEach (after m step).changes c run
step_asked first m reached a step allowed _ _ (Stays _ c run runs other) = stays_asked m step allowed c (HasAsked run) other (a c run runs)
step_asked first m reached a _ allowed _ _ (Begins c f kept h) = λ u by drawn. absurd (drawn ((each_beside first m reached).unbegun c (ap (λ s. has_begun s) h.ready) u by))
step_asked first m reached a _ allowed _ _ (Settles t u true h) =
    decided_asks m.changes u Adopted t.call _ (unsettled_begun _ h.unsettled.verdict) (λ w by drawn. inl (only_before t.run (not_waiting t.run h.waiting) (a t.call t.run h.under_way.runs w by drawn)))
step_asked first m reached a _ allowed _ _ (Settles t u false h) =
    decided_asks m.changes u Dropped t.call _ (unsettled_begun _ h.unsettled.verdict) (λ w by drawn. inl (only_before t.run (not_waiting t.run h.waiting) (a t.call t.run h.under_way.runs w by drawn)))
step_asked first m reached a _ allowed _ _ (EndsSettling t h) = λ u by drawn. inl (only_before t.run (λ k. not_settling t.run.stage h.turn k.changed) (a t.call t.run h.under_way.runs u by drawn))
step_asked first m reached a _ allowed _ _ (BeginsChange t u h) = λ w.
    at_case (λ i (one : Change). one.by ≡ t.call → one.verdict ≢ Undrawn → HasAsked (at_stage t.run (Changing u))) m.changes u (change_by t.call t.set t.job)
    (λ by drawn. inr (record { set = t.set; asked = t.job; next = t.next; asks = h.under_way.asks; is_change = h.is_change; changed = tt })) w
    (λ differ by drawn. inl (only_before t.run (not_settled t.run h.place h.settled) (a t.call t.run h.under_way.runs w by drawn)))
step_asked first m reached a _ allowed _ _ (Decides t u h) =
    decided_asks m.changes u Adopted t.call _ (unsettled_begun _ h.unsettled) (λ w by drawn. goes (a t.call t.run h.under_way.runs w by drawn))
  where
    goes : HasAsked t.run → HasAsked (record t.run { stage = Decided (number_after m (m.changes u).effect); saw = sees (adopting m u).adopted (m.changes u) t.run.saw })
    goes (inl w) = inl w
    goes (inr k) = inr (record { set = k.set; asked = k.asked; next = k.next; asks = k.asks; is_change = k.is_change; changed = tt })
step_asked first m reached a _ allowed _ _ (SendsBirths t h) = λ u by drawn. inl (only_before t.run (not_waiting t.run h.waiting) (a t.call t.run h.under_way.runs u by drawn))
step_asked first m reached a _ allowed _ _ (ConfirmsBirths t h) = λ u by drawn. inl (only_before t.run (λ k. subst (λ (s : Stage). HasChanged s) h.turn k.changed) (a t.call t.run h.under_way.runs u by drawn))
step_asked first m reached a _ allowed _ _ (HandsIn t shown h) = λ u by drawn. inl (goes (a t.call t.run h.under_way.runs u by drawn))
  where
    goes : HasAsked t.run → WasChanged (Replied t.set t.job shown ∷ t.run.handed)
    goes (inl w) = inr w
    goes (inr k) = inl (subst (λ (asked : Job). IsChange asked) (one_job t.run.course k.set t.set k.asked t.job k.next t.next k.asks h.under_way.asks).job_is k.is_change)
step_asked first m reached a _ allowed _ _ (Extends c run dir next h) = λ u by drawn. inl (goes (a c run h.runs u by drawn))
  where
    goes : HasAsked run → WasChanged (Held dir ∷ run.handed)
    goes (inl w) = inr w
    goes (inr k) = let clash : Course.Extends dir next ≡ Course.Asks k.set k.asked k.next = sym h.extends ∙ k.asks in absurd cc
step_asked first m reached a _ allowed _ _ (Releases c run gfid h) = absurd (of_call_no_mount run.fop (run_sound first m reached c run h.runs).of_call h.of_mount)

pub own_asked : (first : List (List ℕ)) (m : State) → IsReached first m → (c : ℕ) (run : Run) → Runs m c run → (u : ℕ) → (m.changes u).by ≡ c → (m.changes u).verdict ≢ Undrawn → HasAsked run
own_asked first _ (IsReached.Start planned) = λ c run runs. absurd cc
own_asked first _ (IsReached.Further old step reached allowed) = λ c run runs. step_asked first old reached (own_asked first old reached) step allowed c run (run_steps old step allowed c run runs)

-- ---- before the first effect

no_made : (handed : Handed) → HaveNoEffect handed → last_made handed ≡ None
no_made [] a = refl
no_made (event ∷ handed) a = one event a.0 (no_made handed a.1)
  where
    one : (e : Event) → HasNoEffect e → last_made handed ≡ None → made_by e (last_made handed) ≡ None
    one (Replied set (job.Change cells fd o (Some entry)) shown) k rest = absurd k
    one (Replied set (job.Change cells fd o None) shown) k rest = rest
    one (Replied set (job.Read cells fd dir) shown) k rest = rest
    one (Replied set (job.Birth cells o) shown) k rest = rest
    one (Replied set (job.Open fd gfid) shown) k rest = rest
    one (Replied set job.Index shown) k rest = rest
    one (Replied set (job.Heal cell) shown) k rest = rest
    one (Held dir) k rest = rest

-- a link is changed after an effect alone
pub no_changed : (f : Fop) (handed : Handed) → AllAsked (GoesOn f) handed → HaveNoEffect handed → WasChanged handed → ⊥
no_changed f [] a none w = w
no_changed f (Held dir ∷ handed) a none (inl w) = w
no_changed f (Held dir ∷ handed) a none (inr w) = no_changed f handed a none.1 w
no_changed f (Replied set asked shown ∷ handed) a none (inr w) = no_changed f handed a.1 none.1 w
no_changed f (Replied set (job.Change cells fd o (Some entry)) shown ∷ handed) a none (inl w) = none.0
no_changed f (Replied set (job.Change cells fd o None) shown ∷ handed) a none (inl w) = subst (λ (made : Option Made). IsOwnMade f made) (no_made handed none.1) a.0.1
no_changed f (Replied set (job.Read cells fd dir) shown ∷ handed) a none (inl w) = w
no_changed f (Replied set (job.Birth cells o) shown ∷ handed) a none (inl w) = w
no_changed f (Replied set (job.Open fd gfid) shown ∷ handed) a none (inl w) = w
no_changed f (Replied set job.Index shown ∷ handed) a none (inl w) = w
no_changed f (Replied set (job.Heal cell) shown ∷ handed) a none (inl w) = w

module _ (first : List (List ℕ)) (m : State) (reached : IsReached first m) (c : ℕ) (run : Run) (runs : Runs m c run) where
  pub all_asked : (P : Handed → ℕ → Job → Type 0) (H : Handed → Gfid → Type 0) (Q : Handed → FopAnswer → Option ℕ → Type 0) → Always P H Q [] (first_course run) → AllAsked P run.handed
  all_asked P H Q law = led_all P H Q (first_course run) run.handed run.course (jobs_asked first m reached c run runs) law

  -- the fop has begun no change yet
  pub none_begun : HaveNoEffect run.handed → (IsAtChange run → ⊥) → (u : ℕ) → (m.changes u).by ≡ c → (m.changes u).verdict ≡ Undrawn
  none_begun none before u by = by_verdict (m.changes u).verdict refl
    where
      no_ask : HasAsked run → ⊥
      no_ask (inl w) = no_changed run.fop run.handed (all_asked (GoesOn run.fop) AnyHold (EndsWith run.fop) (fops_answer run.volume run.names run.kept run.fop)) none w
      no_ask (inr k) = before k

      by_verdict : (v : Verdict) → (m.changes u).verdict ≡ v → v ≡ Undrawn
      by_verdict Undrawn e = refl
      by_verdict Drawn e = absurd (no_ask (own_asked first m reached c run runs u by (λ f. let clash : Drawn ≡ Undrawn = sym e ∙ f in absurd cc)))
      by_verdict Unsettled e = absurd (no_ask (own_asked first m reached c run runs u by (λ f. let clash : Unsettled ≡ Undrawn = sym e ∙ f in absurd cc)))
      by_verdict Adopted e = absurd (no_ask (own_asked first m reached c run runs u by (λ f. let clash : Adopted ≡ Undrawn = sym e ∙ f in absurd cc)))
      by_verdict Dropped e = absurd (no_ask (own_asked first m reached c run runs u by (λ f. let clash : Dropped ≡ Undrawn = sym e ∙ f in absurd cc)))
