-- Of each entry, its call's own operation was possible at a length of the history from the call's submission up to the entry: when
-- the entry's change began.
use Rattle.std.proofs.Common.{◌≡◌, ◌≢◌, ◌∙◌, ℕ, ◌+◌, ◌<◌, ◌≤◌, Bool, true, false, nat_lt, refl, sym, ap, subst, List, [], ◌∷◌, length, slice_get, Option, Some, None, arith}
use Rattle.std.proofs.lemmas.Bool.{ltb-true, ltb-false}
use Rattle.std.proofs.lemmas.List.{length-append}
use Rattle.afr_machine.specs.Changes.{Verdict}
use Rattle.afr_machine.specs.Changes.Verdict.{Undrawn, Unsettled, Adopted, Dropped}
use Rattle.afr_machine.specs.Replicas.{with_at}
use Rattle.afr_machine.proofs.Tables.{at_other}
use Rattle.dht_fops.specs.Answers.{Accepts, flat_op}
use Rattle.dht_laws.proofs.TracesOfFops.{fops_place}
use Rattle.fop_types.specs.Files.{Files}
use Rattle.fop_types.specs.History.{fs_after}
use Rattle.fop_types.specs.declared.cells.Cell.{Cell}
use Rattle.fop_types.specs.declared.flat.FlatOp.{FlatOp}
use Rattle.fop_types.specs.declared.fops.Fop.{Fop}
use Rattle.fop_types.specs.declared.history.Entry.{Entry}
use Rattle.fop_types.specs.declared.jobs.Job.{Job}
use Rattle.fop_types.specs.declared.jobs.Job.TheVariants as job
use Rattle.fop_types.specs.declared.store_ops.StoreOp.{StoreOp}
use Rattle.mount_laws.specs.Effects.{HasEffect}
use Rattle.mount_laws.specs.Guards.{Allowed, IsReached, IsChange}
use Rattle.mount_laws.specs.Places.{RiseWithin}
use Rattle.mount_laws.specs.States.{State, Change, has_begun}
use Rattle.mount_laws.specs.Steps.{Step, Task, after, change_by, history_with}
use Rattle.mount_laws.proofs.Beside.{each_beside, numbered}
use Rattle.mount_laws.proofs.Entering.{began_is, entered_once, get_front}
use Rattle.mount_laws.proofs.Placing.{places_fixed}
use Rattle.mount_laws.proofs.Tables.{at_case}
use Rattle.mount_shown.proofs.Beginning.{here, reached_after}
use Rattle.mount_shown.proofs.Decided.{own_entry, adopted_begun}
use Rattle.mount_shown.proofs.Every.{every_stands, every_change}
use Rattle.mount_shown.proofs.Growing.{every_failed_later}
use Rattle.mount_shown.proofs.Legal.{files_now}
use Rattle.mount_shown.proofs.Past.{step_grown}
use Rattle.mount_shown.proofs.Possible.{whole_possible}
use Rattle.mount_shown.specs.Pending.{IsPossibleFor, EveryFopIsPossible}
use Rattle.mount_shown.specs.Replies.{EveryEntryWasPossible}

-- ---- a change that was begun

pub record IsPossibleAt (ops : List FlatOp) (history : List Entry) (began : ℕ → Option Fop) (since : ℕ → ℕ) (c : ℕ) (entry : Entry) : Type 0 where
  pub fop : Fop
  pub began_is : began c ≡ Some fop
  pub seen : ℕ
  pub after_submission : since c ≤ seen
  pub most : seen ≤ length history
  pub possible : Accepts (fs_after ops seen) (flat_op fop)
  pub not_later : (i : ℕ) → slice_get history i ≡ Some entry → seen ≤ i

abbrev IsPossibleIn : State → Change → Type 0
IsPossibleIn m change = (entry : Entry) → HasEffect change entry → IsPossibleAt m.ops m.history m.began m.since change.by entry

-- ---- what a step leaves

history_back : (history : List Entry) (effect : Option Entry) (i : ℕ) → i < length history → slice_get (history_with history effect) i ≡ slice_get history i
history_back history None i h = refl
history_back history (Some one) i h = get_front history one i h

step_back : (m : State) (step : Step) (i : ℕ) → i < length m.history → slice_get (after m step).history i ≡ slice_get m.history i
step_back m (Step.Settles t u true) i h = history_back m.history (m.changes u).effect i h
step_back m (Step.Decides t u) i h = history_back m.history (m.changes u).effect i h
step_back m (Step.Settles t u false) i h = refl
step_back m (Step.Submits draws) i h = refl
step_back m (Step.Concludes c) i h = refl
step_back m (Step.Switches names) i h = refl
step_back m (Step.Begins c f kept) i h = refl
step_back m (Step.EndsSettling t) i h = refl
step_back m (Step.BeginsChange t u) i h = refl
step_back m (Step.SendsBirths t) i h = refl
step_back m (Step.ConfirmsBirths t) i h = refl
step_back m (Step.HandsIn t shown) i h = refl
step_back m (Step.Extends c run dir next) i h = refl
step_back m (Step.Releases c run gfid) i h = refl
step_back m (Step.Learns c run dir spans) i h = refl
step_back m (Step.Answers c run answer place) i h = refl
step_back m (Step.AnswersAbove c run answer) i h = refl

one_longer : (history : List Entry) (effect : Option Entry) → length history ≤ length (history_with history effect)
one_longer history None = omega arith
one_longer history (Some one) = let e = length-append history (one ∷ []) in omega (arith, e)

step_longer : (m : State) (step : Step) → length m.history ≤ length (after m step).history
step_longer m (Step.Settles t u true) = one_longer m.history (m.changes u).effect
step_longer m (Step.Decides t u) = one_longer m.history (m.changes u).effect
step_longer m (Step.Settles t u false) = omega arith
step_longer m (Step.Submits draws) = omega arith
step_longer m (Step.Concludes c) = omega arith
step_longer m (Step.Switches names) = omega arith
step_longer m (Step.Begins c f kept) = omega arith
step_longer m (Step.EndsSettling t) = omega arith
step_longer m (Step.BeginsChange t u) = omega arith
step_longer m (Step.SendsBirths t) = omega arith
step_longer m (Step.ConfirmsBirths t) = omega arith
step_longer m (Step.HandsIn t shown) = omega arith
step_longer m (Step.Extends c run dir next) = omega arith
step_longer m (Step.Releases c run gfid) = omega arith
step_longer m (Step.Learns c run dir spans) = omega arith
step_longer m (Step.Answers c run answer place) = omega arith
step_longer m (Step.AnswersAbove c run answer) = omega arith

module _ (first : List (List ℕ)) (m : State) (reached : IsReached first m) (u : ℕ) (begun : (m.changes u).verdict ≢ Undrawn) where
  -- a call that has begun a change begins no other fop, and was submitted before
  not_unbegun : (c : ℕ) → has_begun (m.calls c).status ≡ false → (m.changes u).by ≢ c
  not_unbegun c e by = begun ((each_beside first m reached).unbegun c e u by)

  step_keeps : (step : Step) → Allowed m step → ((after m step).began (m.changes u).by ≡ m.began (m.changes u).by) × ((after m step).since (m.changes u).by ≡ m.since (m.changes u).by)
  step_keeps (Step.Begins c f kept) h = (at_other m.began c (Some f) (m.changes u).by (not_unbegun c (ap has_begun h.ready)), refl)
  step_keeps (Step.Submits draws) h = (refl, at_other m.since (m.submitted + 1) (length m.history) (m.changes u).by (not_unbegun (m.submitted + 1) (ap has_begun (numbered first m reached (m.submitted + 1) (omega arith)))))
  step_keeps (Step.Settles t w true) h = (refl, refl)
  step_keeps (Step.Settles t w false) h = (refl, refl)
  step_keeps (Step.Decides t w) h = (refl, refl)
  step_keeps (Step.Concludes c) h = (refl, refl)
  step_keeps (Step.Switches names) h = (refl, refl)
  step_keeps (Step.EndsSettling t) h = (refl, refl)
  step_keeps (Step.BeginsChange t w) h = (refl, refl)
  step_keeps (Step.SendsBirths t) h = (refl, refl)
  step_keeps (Step.ConfirmsBirths t) h = (refl, refl)
  step_keeps (Step.HandsIn t shown) h = (refl, refl)
  step_keeps (Step.Extends c run dir next) h = (refl, refl)
  step_keeps (Step.Releases c run gfid) h = (refl, refl)
  step_keeps (Step.Learns c run dir spans) h = (refl, refl)
  step_keeps (Step.Answers c run answer place) h = (refl, refl)
  step_keeps (Step.AnswersAbove c run answer) h = (refl, refl)

  carried : (step : Step) → Allowed m step → (entry : Entry) → IsPossibleAt m.ops m.history m.began m.since (m.changes u).by entry → IsPossibleAt (after m step).ops (after m step).history (after m step).began (after m step).since (m.changes u).by entry
  carried step h entry p =
      let keeps = step_keeps step h in
      record {
        fop = p.fop;
        began_is = keeps.0 ∙ p.began_is;
        seen = p.seen;
        after_submission = subst (λ (x : ℕ). x ≤ p.seen) (sym keeps.1) p.after_submission;
        most = let a = p.most in let b = step_longer m step in omega (arith, a, b);
        possible = subst (λ (files : Files). Accepts files (flat_op p.fop)) (sym ((step_grown first m step reached).front p.seen p.most)) p.possible;
        not_later = λ i e. by_less i e (nat_lt i p.seen) refl;
      }
    where
      by_less : (i : ℕ) → slice_get (after m step).history i ≡ Some entry → (b : Bool) → nat_lt i p.seen ≡ b → p.seen ≤ i
      by_less i e true less =
          let low = ltb-true i p.seen less in
          let most = p.most in
          p.not_later i (sym (step_back m step i (omega (arith, low, most))) ∙ e)
      by_less i e false more = ltb-false i p.seen more

-- ---- a change that begins

least : (low : ℕ) (places : List ℕ) (most : ℕ) → RiseWithin low places most → low ≤ most
least low [] most r = r
least low (place ∷ places) most r = let a = r.0 in let b = least place places most r.1 in omega (arith, a, b)

module _ (first : List (List ℕ)) (m : State) (reached : IsReached first m) (t : Task) (u : ℕ) (h : Allowed m (Step.BeginsChange t u)) where
  -- the entry of a change that begins is not there yet
  none_there : (cells : List Cell) (fd : ℕ) (o : StoreOp) (entry : Entry) → t.job ≡ job.Change cells fd o (Some entry) → (i : ℕ) → slice_get m.history i ≡ Some entry → ⊥
  none_there cells fd o entry is i e =
      let there = here first m reached t u h cells fd o (Some entry) is in
      (every_failed_later first (after m (Step.BeginsChange t u)) (reached_after first m reached t u h cells fd o (Some entry) is)).later u entry
      (subst (λ (x : Change). HasEffect x entry) (sym there) (record { begun = λ f. absurd cc; effect = refl }))
      (λ f. let clash : Unsettled ≡ Adopted = sym (ap (λ (x : Change). x.verdict) there) ∙ f in absurd cc)
      (record { index = i; at = e })

  now_possible : (cells : List Cell) (fd : ℕ) (o : StoreOp) (entry : Entry) → t.job ≡ job.Change cells fd o (Some entry) → IsPossibleAt m.ops m.history m.began m.since t.call entry
  now_possible cells fd o entry is =
      let s = every_stands first m reached in
      record {
        fop = t.run.fop;
        began_is = began_is first m reached t.call t.run h.under_way.runs;
        seen = length m.history;
        after_submission = least (m.since t.call) (m.places t.call) (length m.history) (places_fixed fops_place first m reached t.call);
        most = omega arith;
        possible = subst (λ (files : Files). Accepts files (flat_op t.run.fop)) (sym (files_now m.ops) ∙ ap (λ (n : ℕ). fs_after m.ops n) (entered_once first m reached).as_many)
            (whole_possible first m reached s.files s.dirs s.names s.gone t u h cells fd o entry is (every_change first m reached t u h));
        not_later = λ i e. absurd (none_there cells fd o entry is i e);
      }

  new_possible : IsPossibleIn (after m (Step.BeginsChange t u)) (change_by t.call t.set t.job)
  new_possible entry has = by_job t.job refl h.is_change has.effect
    where
      same_entry : (a b : Entry) → ◌≡◌ {A = Option Entry} (Some a) (Some b) → a ≡ b
      same_entry a b e = cc

      by_job : (asked : Job) → t.job ≡ asked → IsChange asked → (change_by t.call t.set asked).effect ≡ Some entry → IsPossibleAt m.ops m.history m.began m.since (change_by t.call t.set t.job).by entry
      by_job (job.Change cells fd o (Some other)) is k e =
          subst (λ (j : Job). IsPossibleAt m.ops m.history m.began m.since (change_by t.call t.set j).by entry) (sym is)
          (subst (λ (one : Entry). IsPossibleAt m.ops m.history m.began m.since t.call one) (same_entry other entry e) (now_possible cells fd o other is))
      by_job (job.Change cells fd o None) is k e = absurd cc
      by_job (job.Read cells fd dir) is k e = absurd k
      by_job (job.Birth cells o) is k e = absurd k
      by_job (job.Open fd gfid) is k e = absurd k
      by_job job.Index is k e = absurd k
      by_job (job.Heal cell) is k e = absurd k

pub every_fop_possible : EveryFopIsPossible
every_fop_possible first m reached t u h = by_job t.job refl
  where
    by_job : (asked : Job) → t.job ≡ asked → IsPossibleFor m t.run.fop asked
    by_job (job.Change cells fd o (Some entry)) is =
        let s = every_stands first m reached in
        whole_possible first m reached s.files s.dirs s.names s.gone t u h cells fd o entry is (every_change first m reached t u h)
    by_job (job.Change cells fd o None) is = tt
    by_job (job.Read cells fd dir) is = tt
    by_job (job.Birth cells o) is = tt
    by_job (job.Open fd gfid) is = tt
    by_job job.Index is = tt
    by_job (job.Heal cell) is = tt

-- ---- each step

undrawn_no : (m : State) (u : ℕ) → (m.changes u).verdict ≡ Unsettled → (m.changes u).verdict ≢ Undrawn
undrawn_no m u was e = let clash : Unsettled ≡ Undrawn = sym was ∙ e in absurd cc

module _ (first : List (List ℕ)) (m : State) (reached : IsReached first m) (a : (w : ℕ) → IsPossibleIn m (m.changes w)) where
  stays_possible : (step : Step) → Allowed m step → (w : ℕ) → IsPossibleIn (after m step) (m.changes w)
  stays_possible step h w entry has = carried first m reached w has.begun step h entry (a w entry has)

  decided_possible : (step : Step) → Allowed m step → (u : ℕ) (verdict : Verdict) → (m.changes u).verdict ≡ Unsettled → (w : ℕ) → IsPossibleIn (after m step) (with_at m.changes u (record (m.changes u) { verdict = verdict }) w)
  decided_possible step h u verdict was w =
      at_case (λ i (one : Change). IsPossibleIn (after m step) one) m.changes u (record (m.changes u) { verdict = verdict })
      (λ entry has. carried first m reached u (undrawn_no m u was) step h entry (a u entry (record { begun = undrawn_no m u was; effect = has.effect }))) w (λ differ. stays_possible step h w)

  step_possible : (step : Step) → Allowed m step → (w : ℕ) → IsPossibleIn (after m step) ((after m step).changes w)
  step_possible (Step.Settles t u true) h w = decided_possible (Step.Settles t u true) h u Adopted h.unsettled.verdict w
  step_possible (Step.Settles t u false) h w = decided_possible (Step.Settles t u false) h u Dropped h.unsettled.verdict w
  step_possible (Step.Decides t u) h w = decided_possible (Step.Decides t u) h u Adopted h.unsettled w
  step_possible (Step.BeginsChange t u) h w =
      at_case (λ i (one : Change). IsPossibleIn (after m (Step.BeginsChange t u)) one) m.changes u (change_by t.call t.set t.job) (new_possible first m reached t u h) w (λ differ. stays_possible (Step.BeginsChange t u) h w)
  step_possible (Step.Submits draws) h w = stays_possible (Step.Submits draws) h w
  step_possible (Step.Concludes c) h w = stays_possible (Step.Concludes c) h w
  step_possible (Step.Switches names) h w = stays_possible (Step.Switches names) h w
  step_possible (Step.Begins c f kept) h w = stays_possible (Step.Begins c f kept) h w
  step_possible (Step.EndsSettling t) h w = stays_possible (Step.EndsSettling t) h w
  step_possible (Step.SendsBirths t) h w = stays_possible (Step.SendsBirths t) h w
  step_possible (Step.ConfirmsBirths t) h w = stays_possible (Step.ConfirmsBirths t) h w
  step_possible (Step.HandsIn t shown) h w = stays_possible (Step.HandsIn t shown) h w
  step_possible (Step.Extends c run dir next) h w = stays_possible (Step.Extends c run dir next) h w
  step_possible (Step.Releases c run gfid) h w = stays_possible (Step.Releases c run gfid) h w
  step_possible (Step.Learns c run dir spans) h w = stays_possible (Step.Learns c run dir spans) h w
  step_possible (Step.Answers c run answer place) h w = stays_possible (Step.Answers c run answer place) h w
  step_possible (Step.AnswersAbove c run answer) h w = stays_possible (Step.AnswersAbove c run answer) h w

all_possible : (first : List (List ℕ)) (m : State) → IsReached first m → (w : ℕ) → IsPossibleIn m (m.changes w)
all_possible first _ (IsReached.Start planned) = λ w entry has. absurd (has.begun refl)
all_possible first _ (IsReached.Further old step reached allowed) = step_possible first old reached (all_possible first old reached) step allowed

-- ---- entries

pub every_possible : EveryEntryWasPossible
every_possible first m reached index entry e =
    let en = (entered_once first m reached).entered index entry e in
    let begun = adopted_begun (m.changes en.change).verdict en.adopted in
    let p = all_possible first m reached en.change entry (record { begun = begun; effect = en.effect }) in
    let own = own_entry first m reached en.change entry begun en.effect in
    record {
      fop = p.fop;
      began_is = ap m.began own.call_is ∙ p.began_is;
      seen = p.seen;
      after_submission = subst (λ (c : ℕ). m.since c ≤ p.seen) (sym own.call_is) p.after_submission;
      not_later = p.not_later index e;
      possible = p.possible;
    }
