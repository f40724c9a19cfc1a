-- What a step makes of the fops under way, beside the step itself: each stays, begins, or goes on by the step of its call.
use Rattle.std.proofs.Common.{◌≡◌, ℕ, ◌+◌, Bool, true, false, sym, subst, List, [], ◌∷◌, ◌++◌, length, None}
use Rattle.afr_machine.specs.Replicas.{with_at}
use Rattle.afr_machine.specs.Transactions.{cells_of_job}
use Rattle.dht_fops.specs.Courses.{Course}
use Rattle.dht_fops.specs.Handed.{Handed}
use Rattle.dht_fops.specs.Handed.Event.{Replied, Held}
use Rattle.dht_fops.specs.Volumes.{Kept}
use Rattle.fop_types.specs.declared.answers.FopAnswer.TheVariants as fop_answer
use Rattle.fop_types.specs.declared.cells.Gfid.{Gfid}
use Rattle.fop_types.specs.declared.fops.Fop.{Fop}
use Rattle.fop_types.specs.declared.jobs.SetReply.{SetReply}
use Rattle.mount_laws.specs.Guards.{Allowed, IsReached, MayBegin, MaySettle, MayEndSettling, MayBeginChange, MayDecide, MaySendBirths, MayConfirmBirths, MayHandIn, MayExtend, MayRelease}
use Rattle.mount_laws.specs.Runs.{Run, begun, going_on, held_longer, released}
use Rattle.mount_laws.specs.Runs.Stage.{Settled, Changing, Bearing, Decided}
use Rattle.mount_laws.specs.States.{State, Call, Runs}
use Rattle.mount_laws.specs.States.Status.{Running}
use Rattle.mount_laws.specs.Steps.{Step, Task, after, volume_of, is_lookup, deciding, adopting, sees, at_stage, number_after, sights_by}
use Rattle.mount_laws.proofs.Moving.{unwrap, quiet}
use Rattle.mount_laws.proofs.Tables.{at_case}

-- the step of a call, which changes how its fop stands
abbrev pub IsOf : ℕ → Step → Type 0
IsOf c (Step.Submits draws) = ⊥
IsOf c (Step.Concludes d) = d ≡ c
IsOf c (Step.Switches names) = ⊥
IsOf c (Step.Begins d f kept) = d ≡ c
IsOf c (Step.Settles t u adopts) = t.call ≡ c
IsOf c (Step.EndsSettling t) = t.call ≡ c
IsOf c (Step.BeginsChange t u) = t.call ≡ c
IsOf c (Step.Decides t u) = t.call ≡ c
IsOf c (Step.SendsBirths t) = t.call ≡ c
IsOf c (Step.ConfirmsBirths t) = t.call ≡ c
IsOf c (Step.HandsIn t shown) = t.call ≡ c
IsOf c (Step.Extends d run dir next) = d ≡ c
IsOf c (Step.Releases d run gfid) = d ≡ c
IsOf c (Step.Learns d run dir spans) = ⊥
IsOf c (Step.Answers d run answer place) = d ≡ c
IsOf c (Step.AnswersAbove d run answer) = d ≡ c

pub data RunStep (m : State) : Step → ℕ → Run → Type 0 where
  Stays : (step : Step) → (c : ℕ) → (run : Run) → Runs m c run → (IsOf c step → ⊥) → RunStep m step c run
  Begins : (c : ℕ) → (f : Fop) → (kept : Kept) → MayBegin m c f kept → RunStep m (Step.Begins c f kept) c (begun f (volume_of m c) (m.calls c).names kept)
  Settles : (t : Task) → (u : ℕ) → (adopts : Bool) → MaySettle m t u → RunStep m (Step.Settles t u adopts) t.call (record t.run { saw = sees (deciding m u adopts).adopted (m.changes u) t.run.saw })
  EndsSettling : (t : Task) → MayEndSettling m t → RunStep m (Step.EndsSettling t) t.call (record t.run { stage = Settled (length m.history); settled = record { set = t.set; cells = cells_of_job t.job } ∷ t.run.settled })
  BeginsChange : (t : Task) → (u : ℕ) → MayBeginChange m t u → RunStep m (Step.BeginsChange t u) t.call (at_stage t.run (Changing u))
  Decides : (t : Task) → (u : ℕ) → MayDecide m t u → RunStep m (Step.Decides t u) t.call (record t.run { stage = Decided (number_after m (m.changes u).effect); saw = sees (adopting m u).adopted (m.changes u) t.run.saw })
  SendsBirths : (t : Task) → MaySendBirths m t → RunStep m (Step.SendsBirths t) t.call (at_stage t.run Bearing)
  ConfirmsBirths : (t : Task) → MayConfirmBirths m t → RunStep m (Step.ConfirmsBirths t) t.call (at_stage t.run (Decided None))
  HandsIn : (t : Task) → (shown : SetReply) → MayHandIn m t shown →
      RunStep m (Step.HandsIn t shown) t.call (going_on t.run (Replied t.set t.job shown ∷ t.run.handed) (t.next shown) (sights_by t.set t.job shown ++ t.run.saw))
  Extends : (c : ℕ) → (run : Run) → (dir : Gfid) → (next : Course) → MayExtend m c run dir next → RunStep m (Step.Extends c run dir next) c (held_longer (going_on run (Held dir ∷ run.handed) next run.saw) dir)
  Releases : (c : ℕ) → (run : Run) → (gfid : Gfid) → MayRelease m c run gfid → RunStep m (Step.Releases c run gfid) c (released run gfid)

one_call : (m : State) (step : Step) (c : ℕ) (call : Call) → ((i : ℕ) → IsOf i step → c ≡ i) → ((run : Run) → call.status ≡ Running run → RunStep m step c run) → (i : ℕ) (run : Run) → (with_at m.calls c call i).status ≡ Running run → RunStep m step i run
one_call m step c call only new i =
    at_case (λ j (one : Call). (run : Run) → one.status ≡ Running run → RunStep m step j run) m.calls c call new i (λ differ run e. Stays step i run e (λ k. differ (sym (only i k))))

one_run : (m : State) (step : Step) (c : ℕ) (run : Run) → ((i : ℕ) → IsOf i step → c ≡ i) → RunStep m step c run → (i : ℕ) (other : Run) → (with_at m.calls c (record (m.calls c) { status = Running run }) i).status ≡ Running other → RunStep m step i other
one_run m step c run only move = one_call m step c (record (m.calls c) { status = Running run }) only (λ other e. subst (λ (r : Run). RunStep m step c r) (unwrap run other e) move)

pub run_steps : (m : State) (step : Step) → Allowed m step → (c : ℕ) (run : Run) → Runs (after m step) c run → RunStep m step c run
run_steps m (Step.Submits draws) h = one_call m (Step.Submits draws) (m.submitted + 1) _ (λ i k. absurd k) (λ run e. absurd cc)
run_steps m (Step.Concludes c) h = one_call m (Step.Concludes c) c _ (λ i k. k) (λ run e. absurd cc)
run_steps m (Step.Switches names) h = λ c run e. Stays (Step.Switches names) c run e (λ k. k)
run_steps m (Step.Begins c f kept) h = one_run m (Step.Begins c f kept) c _ (λ i k. k) (Begins c f kept h)
run_steps m (Step.Settles t u true) h = one_run m (Step.Settles t u true) t.call _ (λ i k. k) (Settles t u true h)
run_steps m (Step.Settles t u false) h = one_run m (Step.Settles t u false) t.call _ (λ i k. k) (Settles t u false h)
run_steps m (Step.EndsSettling t) h = one_run m (Step.EndsSettling t) t.call _ (λ i k. k) (EndsSettling t h)
run_steps m (Step.BeginsChange t u) h = one_run m (Step.BeginsChange t u) t.call _ (λ i k. k) (BeginsChange t u h)
run_steps m (Step.Decides t u) h = one_run m (Step.Decides t u) t.call _ (λ i k. k) (Decides t u h)
run_steps m (Step.SendsBirths t) h = one_run m (Step.SendsBirths t) t.call _ (λ i k. k) (SendsBirths t h)
run_steps m (Step.ConfirmsBirths t) h = one_run m (Step.ConfirmsBirths t) t.call _ (λ i k. k) (ConfirmsBirths t h)
run_steps m (Step.HandsIn t shown) h = one_run m (Step.HandsIn t shown) t.call _ (λ i k. k) (HandsIn t shown h)
run_steps m (Step.Extends c run dir next) h = one_run m (Step.Extends c run dir next) c _ (λ i k. k) (Extends c run dir next h)
run_steps m (Step.Releases c run gfid) h = one_run m (Step.Releases c run gfid) c _ (λ i k. k) (Releases c run gfid h)
run_steps m (Step.Learns c run dir spans) h = λ i other e. Stays (Step.Learns c run dir spans) i other e (λ k. k)
run_steps m (Step.Answers c run answer place) h = one_call m (Step.Answers c run answer place) c _ (λ i k. k) (λ other e. absurd (quiet (is_lookup run.fop) answer other e))
run_steps m (Step.AnswersAbove c run answer) h = one_call m (Step.AnswersAbove c run answer) c _ (λ i k. k) (λ other e. absurd (quiet (is_lookup run.fop) (fop_answer.Call answer) other e))

-- ---- facts of what was handed in

-- A fact of what fops were handed in holds in every state, where it holds of nothing, every step keeps it, and it goes on with
-- each reply and extension.
module _ (first : List (List ℕ)) (P : State → ℕ → Handed → Type 0)
    (none : (m : State) (c : ℕ) → P m c [])
    (stays : (m : State) (step : Step) → IsReached first m → Allowed m step → (c : ℕ) (run : Run) → Runs m c run → P m c run.handed → P (after m step) c run.handed)
    (replied : (m : State) (t : Task) (shown : SetReply) → IsReached first m → MayHandIn m t shown → P m t.call t.run.handed → P (after m (Step.HandsIn t shown)) t.call (Replied t.set t.job shown ∷ t.run.handed))
    (held : (m : State) (c : ℕ) (run : Run) (dir : Gfid) (next : Course) → IsReached first m → MayExtend m c run dir next → P m c run.handed → P (after m (Step.Extends c run dir next)) c (Held dir ∷ run.handed)) where
  step_handed : (m : State) → IsReached first m → ((c : ℕ) (run : Run) → Runs m c run → P m c run.handed) → (step : Step) → Allowed m step → (c : ℕ) (run : Run) → RunStep m step c run → P (after m step) c run.handed
  step_handed m reached a step allowed _ _ (Stays _ c run runs differ) = stays m step reached allowed c run runs (a c run runs)
  step_handed m reached a _ allowed _ _ (Begins c f kept h) = none (after m (Step.Begins c f kept)) c
  step_handed m reached a _ allowed _ _ (Settles t u adopts h) = stays m (Step.Settles t u adopts) reached allowed t.call t.run h.under_way.runs (a t.call t.run h.under_way.runs)
  step_handed m reached a _ allowed _ _ (EndsSettling t h) = stays m (Step.EndsSettling t) reached allowed t.call t.run h.under_way.runs (a t.call t.run h.under_way.runs)
  step_handed m reached a _ allowed _ _ (BeginsChange t u h) = stays m (Step.BeginsChange t u) reached allowed t.call t.run h.under_way.runs (a t.call t.run h.under_way.runs)
  step_handed m reached a _ allowed _ _ (Decides t u h) = stays m (Step.Decides t u) reached allowed t.call t.run h.under_way.runs (a t.call t.run h.under_way.runs)
  step_handed m reached a _ allowed _ _ (SendsBirths t h) = stays m (Step.SendsBirths t) reached allowed t.call t.run h.under_way.runs (a t.call t.run h.under_way.runs)
  step_handed m reached a _ allowed _ _ (ConfirmsBirths t h) = stays m (Step.ConfirmsBirths t) reached allowed t.call t.run h.under_way.runs (a t.call t.run h.under_way.runs)
  step_handed m reached a _ allowed _ _ (HandsIn t shown h) = replied m t shown reached h (a t.call t.run h.under_way.runs)
  step_handed m reached a _ allowed _ _ (Extends c run dir next h) = held m c run dir next reached h (a c run h.runs)
  step_handed m reached a _ allowed _ _ (Releases c run gfid h) = stays m (Step.Releases c run gfid) reached allowed c run h.runs (a c run h.runs)

  pub every_handed : (m : State) → IsReached first m → (c : ℕ) (run : Run) → Runs m c run → P m c run.handed
  every_handed _ (IsReached.Start planned) = λ c run runs. absurd cc
  every_handed _ (IsReached.Further old step reached allowed) = λ c run runs. step_handed old reached (every_handed old reached) step allowed c run (run_steps old step allowed c run runs)

-- The same for one step.
module _ (m : State) (P : State → ℕ → Handed → Type 0)
    (none : (n : State) (c : ℕ) → P n c [])
    (stays : (step : Step) → Allowed m step → (c : ℕ) (run : Run) → Runs m c run → P m c run.handed → P (after m step) c run.handed)
    (replied : (t : Task) (shown : SetReply) → MayHandIn m t shown → P m t.call t.run.handed → P (after m (Step.HandsIn t shown)) t.call (Replied t.set t.job shown ∷ t.run.handed))
    (held : (c : ℕ) (run : Run) (dir : Gfid) (next : Course) → MayExtend m c run dir next → P m c run.handed → P (after m (Step.Extends c run dir next)) c (Held dir ∷ run.handed))
    (a : (c : ℕ) (run : Run) → Runs m c run → P m c run.handed) where
  one_handed : (step : Step) → Allowed m step → (c : ℕ) (run : Run) → RunStep m step c run → P (after m step) c run.handed
  one_handed step allowed _ _ (Stays _ c run runs differ) = stays step allowed c run runs (a c run runs)
  one_handed _ allowed _ _ (Begins c f kept h) = none (after m (Step.Begins c f kept)) c
  one_handed _ allowed _ _ (Settles t u adopts h) = stays (Step.Settles t u adopts) allowed t.call t.run h.under_way.runs (a t.call t.run h.under_way.runs)
  one_handed _ allowed _ _ (EndsSettling t h) = stays (Step.EndsSettling t) allowed t.call t.run h.under_way.runs (a t.call t.run h.under_way.runs)
  one_handed _ allowed _ _ (BeginsChange t u h) = stays (Step.BeginsChange t u) allowed t.call t.run h.under_way.runs (a t.call t.run h.under_way.runs)
  one_handed _ allowed _ _ (Decides t u h) = stays (Step.Decides t u) allowed t.call t.run h.under_way.runs (a t.call t.run h.under_way.runs)
  one_handed _ allowed _ _ (SendsBirths t h) = stays (Step.SendsBirths t) allowed t.call t.run h.under_way.runs (a t.call t.run h.under_way.runs)
  one_handed _ allowed _ _ (ConfirmsBirths t h) = stays (Step.ConfirmsBirths t) allowed t.call t.run h.under_way.runs (a t.call t.run h.under_way.runs)
  one_handed _ allowed _ _ (HandsIn t shown h) = replied t shown h (a t.call t.run h.under_way.runs)
  one_handed _ allowed _ _ (Extends c run dir next h) = held c run dir next h (a c run h.runs)
  one_handed _ allowed _ _ (Releases c run gfid h) = stays (Step.Releases c run gfid) allowed c run h.runs (a c run h.runs)

  pub step_keeps_handed : (step : Step) → Allowed m step → (c : ℕ) (run : Run) → Runs (after m step) c run → P (after m step) c run.handed
  step_keeps_handed step allowed c run runs = one_handed step allowed c run (run_steps m step allowed c run runs)
