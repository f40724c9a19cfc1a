-- Where it comes from that a lock phase that may write knows of a copy: it knew before, or its transaction learns it now from a brick
-- where its grant is open.
use Rattle.std.proofs.Common.{◌≡◌, ◌∙◌, ℕ, ◌+◌, ◌≤◌, ◌<◌, Bool, true, false, refl, sym, ap, subst, ◌⊎◌, inl, inr, arith, Some}
use Rattle.std.specs.Prelude.{List, [], ◌∷◌, ◌≢◌, ◌&&◌, ◌||◌, ◌==◌, not}
use Rattle.std.proofs.lemmas.Bool.{eqb-true}
use Rattle.fop_types.specs.declared.cells.Cell.{Cell}
use Rattle.fop_types.specs.declared.contents.Row.{Row}
use Rattle.afr_machine.specs.Replicas.{Replicas, Size, with_at}
use Rattle.afr_machine.specs.Touching.{is_cell, has_cell}
use Rattle.afr_machine.specs.Copies.{Fetched}
use Rattle.afr_machine.specs.Requests.{Sender, Ask, Answer}
use Rattle.afr_machine.specs.Requests.Ask.{Lock, Mark, Post, Replace, Clear, Settle}
use Rattle.afr_machine.specs.Locks.{BrickLock}
use Rattle.afr_machine.specs.Phases.{Phase}
use Rattle.afr_machine.specs.Transactions.{CopyRun, Grant, Stage, Txn}
use Rattle.afr_machine.specs.Transactions.Stage.{Locking, Locked, Copying}
use Rattle.afr_machine.specs.States.{State, phase_of}
use Rattle.afr_machine.specs.Births.{cells_of_work}
use Rattle.afr_machine.specs.Sending.{MayAsk, carries_fd, writes, is_replaced, is_confirmed_sink}
use Rattle.afr_machine.specs.Turns.{Turn, MayReach, cells_locked, phase_reached, rows_granted, open_grants}
use Rattle.afr_machine.specs.Steps.{Step, Allowed, after, IsReached}
use Rattle.afr_machine.proofs.Tables.{at_same}
use Rattle.afr_laws.specs.Apart.{IsGranted}
use Rattle.afr_laws.specs.Apart.IsGranted.{HandedIn}
use Rattle.afr_laws.specs.Flights.{is_lock, any_lock, IsFlight}
use Rattle.afr_laws.specs.Flights.IsFlight.{NoFlight, OneFlight, OpensFirst, Strayed, StrayedThenUnlocks}
use Rattle.afr_laws.specs.Fresh.{is_behind, AsksFor}
use Rattle.afr_laws.specs.Grants.{lock_of, is_unlocking}
use Rattle.afr_laws.specs.Standing.{is_gathering}
use Rattle.afr_laws.specs.Waiting.{LastFits, Fits, MayWait}
use Rattle.afr_laws.specs.Work.{shares_of, changes_in}
use Rattle.afr_laws.proofs.Apart.Steps.{grants_apart}
use Rattle.afr_laws.proofs.Bools.{apart_bools, both_left, both_right, either_way, or_right}
use Rattle.afr_laws.proofs.Copies.Asks.{share_at}
use Rattle.afr_laws.proofs.Flying.{on_their_way}
use Rattle.afr_laws.proofs.Fresh.Known.{phases_are_known}
use Rattle.afr_laws.proofs.Fresh.Phased.{PhasesGo}
use Rattle.afr_laws.proofs.Fresh.Steps.{step_phases}
use Rattle.afr_laws.proofs.Overtaken.Behind.BehindFrom.{NotNow, Ends, Same}
use Rattle.afr_laws.proofs.Overtaken.Behind.{BehindFrom, behind_from}
use Rattle.afr_laws.proofs.Overtaken.Steps.{HasOpen, has_open, PhaseFrom, phase_from}
use Rattle.afr_laws.proofs.Overtaken.Steps.PhaseFrom.{Old, Now}
use Rattle.afr_laws.proofs.Sharing.{cells_are}
use Rattle.afr_laws.proofs.Waiting.{waits_fit}
use Rattle.afr_laws.proofs.Work.Known.{works_are_known}
use Rattle.afr_soundness.proofs.PhaseMoves.{IsHandedIn, PhaseMove, phase_moves}
use Rattle.afr_soundness.proofs.RunMoves.{RunMove, run_moves}
use Rattle.afr_decisions.proofs.Handed.{handed_open, handed_apart}
use Rattle.afr_decisions.proofs.Handed as handed
use Rattle.afr_contents.specs.Earlier.{MayWrite, KnowsCopy, Knows}
use Rattle.afr_contents.specs.Earlier.MayWrite.{Wrote, Lasts}
use Rattle.afr_contents.specs.Earlier.KnowsCopy.{Saw, Copied, Cleared}
use Rattle.afr_contents.proofs.CopiesGood.{each_replaced}

behind_holds : (stage : Stage) → is_behind stage ≡ true → is_unlocking stage ≡ false
behind_holds Stage.Unlocking h = absurd (let no : false ≡ true = h in cc)
behind_holds other h = refl

-- ---- no lock is asked while the transaction is past its lock phase

fd_no_lock : (ask : Ask) → carries_fd ask ≡ true → is_lock ask ≡ false
fd_no_lock (Lock shared cells) fd = absurd (let no : false ≡ true = fd in cc)
fd_no_lock other fd = refl

alone_no_lock : (ask : Ask) (stage : Stage) (k : ℕ) → Fits ask stage k → ((shared : Bool) (cells : List Cell) → stage ≡ Locking cells shared k → ⊥) → is_lock ask ≡ false
alone_no_lock (Lock shared cells) stage k fit none = absurd (none shared cells fit)
alone_no_lock other stage k fit none = refl

no_lock : (f : List Ask) (w o c : Bool) (stage : Stage) (k : ℕ) → IsFlight f w o c → (w ≡ true → LastFits f stage k) → (w ≡ true → (shared : Bool) (cells : List Cell) → stage ≡ Locking cells shared k → ⊥) → any_lock f ≡ false
no_lock f w o c stage k (NoFlight e) last none = ap any_lock e
no_lock f w o c stage k (OneFlight ask e waits current) last none = ap any_lock e ∙ or_right (is_lock ask) ∙ alone_no_lock ask stage k (subst (λ g. LastFits g stage k) e (last waits)) (none waits)
no_lock f w o c stage k (OpensFirst ask e fd waits current) last none = ap any_lock e ∙ or_right (is_lock ask) ∙ fd_no_lock ask fd
no_lock f w o c stage k (Strayed ask e fd out) last none = ap any_lock e ∙ or_right (is_lock ask) ∙ fd_no_lock ask fd
no_lock f w o c stage k (StrayedThenUnlocks ask e fd out waits current) last none = ap any_lock e ∙ or_right (is_lock ask) ∙ fd_no_lock ask fd

module _ (size : Size) (m : State) (r : IsReached size m) (t k : ℕ) where
  pub asks_no_lock : ((m.txns t).waits k ≡ true → (shared : Bool) (cells : List Cell) → (m.txns t).stage ≡ Locking cells shared k → ⊥) → any_lock ((m.txns t).flying k) ≡ false
  asks_no_lock none = no_lock ((m.txns t).flying k) ((m.txns t).waits k) ((m.txns t).out k) _ (m.txns t).stage k ((on_their_way size m r).few t k) (λ w. (waits_fit size m r t k w).last) none

-- ---- what is learned now

-- its transaction has an open grant of the brick, of exclusive locks, and no later lock phase over the cell reached the brick
pub record IsLearned (m : State) (q k : ℕ) (cell : Cell) : Type 0 where
  pub txn : ℕ
  pub grant : HasOpen m txn k
  pub holding : is_unlocking (m.txns txn).stage ≡ false
  pub exclusive : shares_of (m.txns txn).job (m.txns txn).work ≡ false
  pub over : has_cell (cells_of_work m.changes (m.txns txn) (m.txns txn).work) cell ≡ true
  pub calm : any_lock ((m.txns txn).flying k) ≡ false
  pub own : (given : Grant) → (m.txns txn).grants k ≡ Some given → is_gathering (m.txns txn).stage ≡ true → (given.rows cell).present ≡ true
  pub later : (p : ℕ) → q < p → p ≤ m.ended → has_cell (m.phases p).cells cell ≡ true → (m.phases p).reached k ≡ true → ⊥

pub data KnowsFrom (m : State) (q k : ℕ) (cell : Cell) : Type 0 where
  Knew : Knows m q k cell → KnowsFrom m q k cell
  Learns : IsLearned m q k cell → KnowsFrom m q k cell

-- so no other transaction has a granted lock of the brick over the cell
module _ (size : Size) (m : State) (r : IsReached size m) (q k : ℕ) (cell : Cell) (x : IsLearned m q k cell) where
  conflicts : (shares a b : Bool) → shares ≡ true → a ≡ false → (shares && not (a && b)) ≡ false → ⊥
  conflicts shares a b common alone none = absurd (let no : true ≡ false = sym (ap (λ s. s && not (a && b)) common ∙ ap (λ c. not (c && b)) alone) ∙ none in cc)

  pub learned_alone : (lock : BrickLock) → IsGranted m k lock → x.txn ≢ lock.by.txn → has_cell lock.cells cell ≡ true → ⊥
  learned_alone lock granted other has =
      let work = (works_are_known size m r x.txn).grants k x.grant.grant x.grant.granted in
      conflicts _ x.grant.grant.shared lock.shared
      (share_at x.grant.grant.cells lock.cells cell (ap (λ cs. has_cell cs cell) work.over ∙ x.over) has) (work.kind ∙ x.exclusive)
      (grants_apart size m r k (lock_of x.txn (m.txns x.txn).graph x.grant.grant) lock other (HandedIn x.txn x.grant.grant (record { granted = x.grant.granted; still_open = x.grant.current; holding = x.holding }) refl) granted)

-- ---- a replacement that is confirmed now

module _ (size : Size) (m : State) (r : IsReached size m) (q k : ℕ) (by : Sender) (at : Cell) (found : Fetched) (answer : Answer) (h : IsHandedIn m k by (Replace at found) answer)
    (run : CopyRun) (stage : (m.txns by.txn).stage ≡ Copying run) (phase : (m.txns by.txn).phase ≡ q) (covers : has_cell (m.phases q).cells at ≡ true) where
  behind : is_behind (m.txns by.txn).stage ≡ true
  behind = ap is_behind stage

  own_covers : has_cell (phase_of m by.txn).cells at ≡ true
  own_covers = ap (λ p. has_cell (m.phases p).cells at) phase ∙ covers

  learned_copy : IsLearned m q k at
  learned_copy = record {
    txn = by.txn;
    grant = has_open m by.txn k (handed_open size m r k by (Replace at found) answer h behind);
    holding = behind_holds (m.txns by.txn).stage behind;
    exclusive = (works_are_known size m r by.txn).exclusive (ap changes_in stage);
    over = sym (ap (λ cs. has_cell cs at) ((phases_are_known size m r by.txn).cells behind)) ∙ own_covers;
    calm = asks_no_lock size m r by.txn k (λ w shared cells is. absurd (let no : Copying run ≡ Locking cells shared k = sym stage ∙ is in cc));
    own = λ given is gathering. absurd (let no : false ≡ true = sym (ap is_gathering stage) ∙ gathering in cc);
    later = λ p after low there reached. handed_apart size m r k by (Replace at found) answer h behind (ap changes_in stage) p (subst (λ n. n < p) (sym phase) after) low (share_at (phase_of m by.txn).cells (m.phases p).cells at own_covers there) reached;
  }

-- ---- a lock phase that ends now

module _ (size : Size) (m : State) (r : IsReached size m) (t : ℕ) (may : MayReach size m t) (k : ℕ) (cell : Cell) (exclusive : shares_of (m.txns t).job (m.txns t).work ≡ false)
    (covers : has_cell (cells_locked (m.txns t).stage) cell ≡ true) (reached : open_grants m t k ≡ true) (present : (rows_granted ((m.txns t).grants k) cell).present ≡ true) where
  over_work : cells_locked (m.txns t).stage ≡ cells_of_work m.changes (m.txns t) (m.txns t).work
  over_work = ap cells_locked may.turn ∙ subst (λ s. AsksFor s (cells_of_work m.changes (m.txns t) (m.txns t).work)) may.turn (phases_are_known size m r t).asks

  not_asking : (m.txns t).waits k ≡ true → (shared : Bool) (cells : List Cell) → (m.txns t).stage ≡ Locking cells shared k → ⊥
  not_asking waits shared cells is =
      let w = waits_fit size m r t k waits in
      let next : k ≡ size.replicas = subst (λ s. MayWait s k) may.turn w.stage in
      let few = w.replica in
      absurd (omega (arith, next, few))

  learned_end : IsLearned m (m.ended + 1) k cell
  learned_end = record {
    txn = t;
    grant = has_open m t k reached;
    holding = ap is_unlocking may.turn;
    exclusive = exclusive;
    over = sym (ap (λ cs. has_cell cs cell) over_work) ∙ covers;
    calm = asks_no_lock size m r t k not_asking;
    own = λ given is gathering. sym (ap (λ g. (rows_granted g cell).present) is) ∙ present;
    later = λ p after low there was. absurd (omega (arith, after, low));
  }

-- ---- a lock phase that had ended

-- requests by which it becomes one that wrote are sent where it may write
module _ (size : Size) (m : State) (t k : ℕ) where
  writing : (ask : Ask) → MayAsk size m t k ask → writes ask ≡ true → changes_in (m.txns t).stage ≡ true
  writing (Mark u cells) h w = ap changes_in h.turn
  writing (Post u cells accused) h w = ap changes_in h.turn
  writing (Replace at found) h w = ap changes_in h.turn
  writing (Clear cells who) h w = ap changes_in h.turn
  writing (Settle u cells accused) h w = ap changes_in h.turn
  writing other h w = absurd (let no : false ≡ true = w in cc)

changes_behind : (stage : Stage) → changes_in stage ≡ true → is_behind stage ≡ true
changes_behind (Stage.Marking u) h = refl
changes_behind (Stage.Applying u) h = refl
changes_behind (Stage.Posting u) h = refl
changes_behind (Stage.Settling u group adopts) h = refl
changes_behind Stage.Bearing h = refl
changes_behind (Copying run) h = refl
changes_behind other h = absurd (let no : false ≡ true = h in cc)

module _ (size : Size) (m : State) (r : IsReached size m) (step : Step) (allowed : Allowed size m step) (q k : ℕ) (cell : Cell) where
  abbrev new : State
  new = after size m step

  goes : PhasesGo m.ended m.phases (after size m step).phases
  goes = step_phases size m step

  phase_low : (t : ℕ) → (m.txns t).phase ≤ m.ended
  phase_low t = (phases_are_known size m r t).low

  module _ (low : q ≤ m.ended) where
    wrote_by : (new.phases q).wrote ≡ true → PhaseMove size m step q (new.phases q) → MayWrite m q
    wrote_by w (PhaseMove.Asks t j first ask step_is may writes_now at is) =
        let alters = writing size m t j ask may writes_now in
        Lasts t (sym at) (changes_behind (m.txns t).stage alters) ((works_are_known size m r t).exclusive alters)
    wrote_by w (PhaseMove.Reaches t step_is may at is) = absurd (omega (arith, at, low))
    wrote_by w (PhaseMove.Same is) = Wrote (sym (ap (λ (p : Phase). p.wrote) is) ∙ w)
    wrote_by w (PhaseMove.Marks t step_is may at is) = Wrote (sym (ap (λ (p : Phase). p.wrote) is) ∙ w)
    wrote_by w (PhaseMove.Posts t step_is may at is) = Wrote (sym (ap (λ (p : Phase). p.wrote) is) ∙ w)
    wrote_by w (PhaseMove.SettlesAs t group adopts step_is may at is) = Wrote (sym (ap (λ (p : Phase). p.wrote) is) ∙ w)
    wrote_by w (PhaseMove.Clears j by cells who answer run step_is handed stage at is) = Wrote (sym (ap (λ (p : Phase). p.wrote) is) ∙ w)
    wrote_by w (PhaseMove.Confirms j by ask answer step_is handed at is) = Wrote (sym (ap (λ (p : Phase). p.wrote) is) ∙ w)

    lasts_by : (t : ℕ) → (new.txns t).phase ≡ q → is_behind (new.txns t).stage ≡ true → shares_of (new.txns t).job (new.txns t).work ≡ false → BehindFrom m t (new.txns t) → MayWrite m q
    lasts_by t phase behind_now alone (NotNow not_behind) = apart_bools behind_now not_behind
    lasts_by t phase behind_now alone (Ends now) = absurd (omega (arith, phase, now, low))
    lasts_by t phase behind_now alone (Same before same graph grants) =
        Lasts t (sym same.phase ∙ phase) before (sym (ap (λ j. shares_of j (new.txns t).work) same.job ∙ ap (shares_of (m.txns t).job) same.work) ∙ alone)

    may_by : MayWrite new q → MayWrite m q
    may_by (Wrote w) = wrote_by w (phase_moves size m step allowed q)
    may_by (Lasts t phase behind_now alone) = lasts_by t phase behind_now alone (behind_from size m (on_their_way size m r) (waits_fit size m r) step allowed t)

    -- a transaction that copies was in its lock phase before
    was_in : (t : ℕ) → (new.txns t).phase ≡ q → is_behind (new.txns t).stage ≡ true → (m.txns t).phase ≡ q
    was_in t phase behind_now = by_case (behind_from size m (on_their_way size m r) (waits_fit size m r) step allowed t) where
      by_case : BehindFrom m t (new.txns t) → (m.txns t).phase ≡ q
      by_case (NotNow not_behind) = apart_bools behind_now not_behind
      by_case (Ends now) = absurd (omega (arith, phase, now, low))
      by_case (Same before same graph grants) = sym same.phase ∙ phase

    module _ (covers : has_cell (m.phases q).cells cell ≡ true) where
      copied_by : (t : ℕ) (run : CopyRun) → (m.txns t).phase ≡ q → run.replaced k cell ≡ true → RunMove size m step t run → KnowsCopy m q k cell ⊎ IsLearned m q k cell
      copied_by t run phase replaced (RunMove.Stays is) = inl (Copied t run phase is replaced)
      copied_by t run phase replaced (RunMove.Begins step_is may) = absurd (let e : false ≡ true = sym (ap (λ (f : ℕ → Cell → Bool). f k cell) may.not_replaced) ∙ replaced in cc)
      copied_by t run phase replaced (RunMove.Clears step_is may is) = inl (Copied t may.run phase may.turn (sym (ap (λ (x : CopyRun). x.replaced k cell) is) ∙ replaced))
      copied_by t run phase replaced (RunMove.Fetches j by at found before step_is handed txn stage is) = inl (Copied t before phase stage (sym (ap (λ (x : CopyRun). x.replaced k cell) is) ∙ replaced))
      copied_by t run phase replaced (RunMove.Replaces j by at found answer before step_is handed txn stage is) = by_case (either_way (k == j && has_cell (at ∷ []) cell) (before.replaced k cell) (sym (ap (λ (x : CopyRun). x.replaced k cell) is) ∙ replaced)) where
        learned : k ≡ j → cell ≡ at → IsLearned m q k cell
        learned here same =
            subst (λ n. IsLearned m q n cell) (sym here)
            (subst (λ c. IsLearned m q j c) (sym same)
            (learned_copy size m r q j by at found answer handed before (ap (λ n. (m.txns n).stage) txn ∙ stage) (ap (λ n. (m.txns n).phase) txn ∙ phase) (sym (ap (λ c. has_cell (m.phases q).cells c) same) ∙ covers)))

        by_case : ((k == j && has_cell (at ∷ []) cell) ≡ true) ⊎ (before.replaced k cell ≡ true) → KnowsCopy m q k cell ⊎ IsLearned m q k cell
        by_case (inr old) = inl (Copied t before phase stage old)
        by_case (inl now) =
            inr (learned (eqb-true k j (both_left (k == j) (has_cell (at ∷ []) cell) now)) (cells_are cell at (sym (or_right (is_cell cell at)) ∙ both_right (k == j) (has_cell (at ∷ []) cell) now)))

      cleared_by : (j : ℕ) → (new.phases q).cleared k cell j ≡ true → PhaseMove size m step q (new.phases q) → KnowsCopy m q k cell
      cleared_by j c (PhaseMove.Clears i by cells who answer run step_is handed stage at is) = by_case (either_way (i == j && (is_confirmed_sink run k && has_cell run.cells cell)) ((m.phases q).cleared k cell j) (sym (ap (λ (p : Phase). p.cleared k cell j) is) ∙ c)) where
        by_case : ((i == j && (is_confirmed_sink run k && has_cell run.cells cell)) ≡ true) ⊎ ((m.phases q).cleared k cell j ≡ true) → KnowsCopy m q k cell
        by_case (inr before) = Cleared j before
        by_case (inl now) =
            let rest = both_right (i == j) (is_confirmed_sink run k && has_cell run.cells cell) now in
            let sink = both_left (is_confirmed_sink run k) (has_cell run.cells cell) rest in
            Copied by.txn run (sym at) stage (each_replaced (run.replaced k) run.cells cell (both_right (run.sinks k) (is_replaced (run.replaced k) run.cells) sink) (both_right (is_confirmed_sink run k) (has_cell run.cells cell) rest))
      cleared_by j c (PhaseMove.Reaches t step_is may at is) = absurd (omega (arith, at, low))
      cleared_by j c (PhaseMove.Same is) = Cleared j (sym (ap (λ (p : Phase). p.cleared k cell j) is) ∙ c)
      cleared_by j c (PhaseMove.Marks t step_is may at is) = Cleared j (sym (ap (λ (p : Phase). p.cleared k cell j) is) ∙ c)
      cleared_by j c (PhaseMove.Posts t step_is may at is) = Cleared j (sym (ap (λ (p : Phase). p.cleared k cell j) is) ∙ c)
      cleared_by j c (PhaseMove.SettlesAs t group adopts step_is may at is) = Cleared j (sym (ap (λ (p : Phase). p.cleared k cell j) is) ∙ c)
      cleared_by j c (PhaseMove.Asks t i first ask step_is may w at is) = Cleared j (sym (ap (λ (p : Phase). p.cleared k cell j) is) ∙ c)
      cleared_by j c (PhaseMove.Confirms i by ask answer step_is handed at is) = Cleared j (sym (ap (λ (p : Phase). p.cleared k cell j) is) ∙ c)

      copy_by : KnowsCopy new q k cell → KnowsCopy m q k cell ⊎ IsLearned m q k cell
      copy_by (Saw reached present) = inl (Saw (sym (ap (λ (f : Replicas). f k) (goes.reached q low)) ∙ reached) (sym (ap (λ (f : ℕ → Cell → Row). (f k cell).present) (goes.rows q low)) ∙ present))
      copy_by (Copied t run phase copies replaced) = copied_by t run (was_in t phase (ap is_behind copies)) replaced (run_moves size m step allowed t run copies)
      copy_by (Cleared j c) = inl (cleared_by j c (phase_moves size m step allowed q))

    old_from : Knows new q k cell → KnowsFrom m q k cell
    old_from h = by_copy (copy_by covers h.copy) where
      covers : has_cell (m.phases q).cells cell ≡ true
      covers = sym (ap (λ cs. has_cell cs cell) (goes.cells q low)) ∙ h.covers

      by_copy : KnowsCopy m q k cell ⊎ IsLearned m q k cell → KnowsFrom m q k cell
      by_copy (inl copy) = Knew (record { one = h.one; low = low; covers = covers; writes = may_by h.writes; copy = copy })
      by_copy (inr learned) = Learns learned

  -- ---- one that ends now

  module _ (at : q ≡ m.ended + 1) where
    was_not : {A : Type 0} → (t : ℕ) → (new.txns t).phase ≡ q → (new.txns t).phase ≡ (m.txns t).phase → A
    was_not t phase same = absurd (omega (arith, at, phase, same, phase_low t))

    ends_with : (t : ℕ) → step ≡ Step.Turns t Turn.Reaches → new.phases q ≡ phase_reached m t
    ends_with t step_is = ap (λ s. (after size m s).phases q) step_is ∙ ap (with_at m.phases (m.ended + 1) (phase_reached m t)) at ∙ at_same m.phases (m.ended + 1) (phase_reached m t)

    ended_txn : (t : ℕ) → step ≡ Step.Turns t Turn.Reaches → new.txns t ≡ record (m.txns t) { stage = Locked; phase = m.ended + 1; out = λ i. (m.txns t).out i || not (open_grants m t i) }
    ended_txn t step_is = ap (λ s. (after size m s).txns t) step_is ∙ at_same m.txns t (record (m.txns t) { stage = Locked; phase = m.ended + 1; out = λ i. (m.txns t).out i || not (open_grants m t i) })

    -- what it saw
    seen : (t : ℕ) → step ≡ Step.Turns t Turn.Reaches → MayReach size m t → shares_of (new.txns t).job (new.txns t).work ≡ false → has_cell (new.phases q).cells cell ≡ true → (new.phases q).reached k ≡ true → ((new.phases q).rows k cell).present ≡ true →
        IsLearned m q k cell
    seen t step_is may alone covers reached present =
        subst (λ n. IsLearned m n k cell) (sym at)
        (learned_end size m r t may k cell (sym (ap (λ (y : Txn). shares_of y.job y.work) (ended_txn t step_is)) ∙ alone) (sym (ap (λ (p : Phase). has_cell p.cells cell) (ends_with t step_is)) ∙ covers)
        (sym (ap (λ (p : Phase). p.reached k) (ends_with t step_is)) ∙ reached) (sym (ap (λ (p : Phase). (p.rows k cell).present) (ends_with t step_is)) ∙ present))

    seen_by : MayWrite new q → (new.phases q).wrote ≡ false → has_cell (new.phases q).cells cell ≡ true → (new.phases q).reached k ≡ true → ((new.phases q).rows k cell).present ≡ true → IsLearned m q k cell
    seen_by (Wrote w) unwritten covers reached present = apart_bools w unwritten
    seen_by (Lasts t phase behind_now alone) unwritten covers reached present = by_case (handed.behind_from size m r step allowed t behind_now) where
      by_case : handed.BehindFrom size m r step allowed t → IsLearned m q k cell
      by_case (handed.BehindFrom.Was before same) = was_not t phase same
      by_case (handed.BehindFrom.Ends step_is may now) = seen t step_is may alone covers reached present

    -- nobody copies in it yet
    no_copy : (t : ℕ) (run : CopyRun) → (new.txns t).phase ≡ q → (new.txns t).stage ≡ Copying run → ⊥
    no_copy t run phase copies = by_case (handed.behind_from size m r step allowed t (ap is_behind copies)) where
      by_case : handed.BehindFrom size m r step allowed t → ⊥
      by_case (handed.BehindFrom.Was before same) = was_not t phase same
      by_case (handed.BehindFrom.Ends step_is may now) = absurd (let no : Locked ≡ Copying run = sym (ap (λ (y : Txn). y.stage) (ended_txn t step_is)) ∙ copies in cc)

    now_from : (other : ℕ) → new.phases q ≡ phase_reached m other → Knows new q k cell → KnowsFrom m q k cell
    now_from other is h = by_copy h.copy where
      by_copy : KnowsCopy new q k cell → KnowsFrom m q k cell
      by_copy (Saw reached present) = Learns (seen_by h.writes (ap (λ (p : Phase). p.wrote) is) h.covers reached present)
      by_copy (Copied t run phase copies replaced) = absurd (no_copy t run phase copies)
      by_copy (Cleared j c) = absurd (let no : false ≡ true = sym (ap (λ (p : Phase). p.cleared k cell j) is) ∙ c in cc)

  pub knows_from : Knows new q k cell → KnowsFrom m q k cell
  knows_from h = by_case (phase_from size m step allowed q h.low) where
    by_case : PhaseFrom size m new q → KnowsFrom m q k cell
    by_case (Old low) = old_from low h
    by_case (Now other may at is bricks) = now_from at other is h
