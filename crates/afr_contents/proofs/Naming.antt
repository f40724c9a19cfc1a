-- Whom clears may name after a step: whom they might have named before, whoever is sound in a lock phase that ends now, or a sink
-- that confirms a replacement now.
use Rattle.std.proofs.Common.{◌≡◌, ◌∙◌, ℕ, ◌≤◌, ◌<◌, Bool, true, false, refl, sym, ap, subst, ◌⊎◌, inl, inr, arith, Option, Some, None}
use Rattle.std.specs.Prelude.{List, [], ◌∷◌, ◌≢◌, ◌&&◌, ◌||◌}
use Rattle.std.proofs.lemmas.Bool.{cases_eq, ne_eqb}
use Rattle.fop_types.specs.declared.cells.Cell.{Cell}
use Rattle.fop_types.specs.declared.jobs.Job.{Job}
use Rattle.fop_types.specs.declared.jobs.Job.TheVariants as job
use Rattle.afr_machine.specs.Replicas.{Replicas, Size}
use Rattle.afr_machine.specs.Touching.{has_cell}
use Rattle.afr_machine.specs.Copies.{Fetched}
use Rattle.afr_machine.specs.Requests.{Sender, Answer}
use Rattle.afr_machine.specs.Requests.Ask.{Replace}
use Rattle.afr_machine.specs.Changes.{Change, is_unsettled}
use Rattle.afr_machine.specs.Phases.{Phase, IsSoundIn}
use Rattle.afr_machine.specs.Transactions.{Work, CopyRun, Stage, Txn}
use Rattle.afr_machine.specs.Transactions.Work.{Own, Settles}
use Rattle.afr_machine.specs.Transactions.Stage.{Locking, Locked, Settling, Copying}
use Rattle.afr_machine.specs.States.{State, is_current, phase_of}
use Rattle.afr_machine.specs.Sending.{is_replaced, is_confirmed_sink}
use Rattle.afr_machine.specs.Answering.{passed}
use Rattle.afr_machine.specs.Births.{cells_of_work}
use Rattle.afr_machine.specs.Turns.{Turn, IsCopied, MayCopyFor, MayCopyAs, FollowsSettling, open_grants}
use Rattle.afr_machine.specs.Steps.{Step, Allowed, after, IsReached}
use Rattle.afr_laws.specs.OwnChanges.{was_unsettled}
use Rattle.afr_laws.specs.Fresh.{is_behind}
use Rattle.afr_laws.proofs.Bools.{apart_bools, both, both_left, both_right}
use Rattle.afr_laws.proofs.Fresh.Phased.{PhasesGo}
use Rattle.afr_laws.proofs.Flying.{on_their_way}
use Rattle.afr_laws.proofs.Waiting.{waits_fit}
use Rattle.afr_laws.proofs.Grants.{grants_are_held}
use Rattle.afr_laws.proofs.Overtaken.Behind.{BehindFrom, behind_from}
use Rattle.afr_laws.proofs.Overtaken.Behind.BehindFrom.{NotNow, Ends as PhaseEnds, Same}
use Rattle.afr_laws.proofs.Overtaken.Steps.{HasOpen, has_open, opens}
use Rattle.afr_laws.proofs.Standing.Steps.{links_back}
use Rattle.afr_laws.proofs.Fresh.Steps.{step_phases}
use Rattle.afr_laws.proofs.Fresh.Known.{phases_are_known}
use Rattle.afr_soundness.specs.Deciding.{IsCopiedFrom, DecidesIn}
use Rattle.afr_soundness.specs.Runs.{IsUntouchedFor}
use Rattle.afr_soundness.proofs.TxnMoves.{StageKeeps, GoesOn, TxnMove, txn_moves}
use Rattle.afr_soundness.proofs.PhaseMoves.{IsHandedIn, PhaseMove, phase_moves}
use Rattle.afr_soundness.proofs.RunMoves.{RunMove, run_moves}
use Rattle.afr_soundness.proofs.Runs.{sound_stays}
use Rattle.afr_soundness.proofs.States.{phase_stays}
use Rattle.afr_soundness.proofs.Unsettled.{UnsettledFrom, unsettled_from, becomes_own, settled_was}
use Rattle.afr_soundness.proofs.Deciding.Whose.{decides_exactly}
use Rattle.afr_contents.specs.Naming.{MayCopyFrom, IsOfGroup, CanSource, IsSourceFor, is_copied_to, held_by, MayPardon}

-- ---- by stages

passed_source : (size : Size) (changes : ℕ → Change) (own : Job) (work : Work) (phase : Phase) (cell : Cell) (s : ℕ) (stage : Stage) → CanSource size changes own work phase cell s (passed stage) → CanSource size changes own work phase cell s stage
passed_source size changes own work phase cell s (Locking cells shared next) h = absurd h
passed_source size changes own work phase cell s other h = h

pub source_behind : (size : Size) (changes : ℕ → Change) (own : Job) (work : Work) (phase : Phase) (cell : Cell) (s : ℕ) (stage : Stage) → CanSource size changes own work phase cell s stage → is_behind stage ≡ true
source_behind size changes own work phase cell s Locked h = refl
source_behind size changes own work phase cell s (Settling u group adopts) h = refl
source_behind size changes own work phase cell s (Copying run) h = refl
source_behind size changes own work phase cell s other h = absurd h

pub copied_to_behind : (stage : Stage) (cell : Cell) (i : ℕ) → is_copied_to stage cell i ≡ true → is_behind stage ≡ true
copied_to_behind (Copying run) cell i h = refl
copied_to_behind other cell i h = absurd (let no : false ≡ true = h in cc)

none_replaced : (cells : List Cell) (cell : Cell) → has_cell cells cell ≡ true → is_replaced (λ c. false) cells ≡ false
none_replaced [] cell h = apart_bools h refl
none_replaced (c ∷ cs) cell h = refl

-- ---- one step

module _ (size : Size) (m : State) (r : IsReached size m) (step : Step) (allowed : Allowed size m step) where
  abbrev new : State
  new = after size m step

  goes : PhasesGo m.ended m.phases (after size m step).phases
  goes = step_phases size m step

  untouched_stays : (p : ℕ) → p ≤ m.ended → (new.phases p).untouched ≡ (m.phases p).untouched
  untouched_stays p low = by_move (phase_moves size m step allowed p) where
    by_move : PhaseMove size m step p (new.phases p) → (new.phases p).untouched ≡ (m.phases p).untouched
    by_move (PhaseMove.Same is) = ap (λ (x : Phase). x.untouched) is
    by_move (PhaseMove.Reaches t step_is may at is) = absurd (omega (arith, at, low))
    by_move (PhaseMove.Marks t step_is may at is) = ap (λ (x : Phase). x.untouched) is
    by_move (PhaseMove.Posts t step_is may at is) = ap (λ (x : Phase). x.untouched) is
    by_move (PhaseMove.SettlesAs t group adopts step_is may at is) = ap (λ (x : Phase). x.untouched) is
    by_move (PhaseMove.Asks t k first ask step_is may w at is) = ap (λ (x : Phase). x.untouched) is
    by_move (PhaseMove.Clears k by cells who answer run step_is handed stage at is) = ap (λ (x : Phase). x.untouched) is
    by_move (PhaseMove.Confirms k by ask answer step_is handed at is) = ap (λ (x : Phase). x.untouched) is

  -- a change that is settled was unsettled before the step where it is after it
  settled_unsettled : (t u : ℕ) → (m.txns t).work ≡ Settles u → is_unsettled (new.changes u).verdict ≡ true → is_unsettled (m.changes u).verdict ≡ true
  settled_unsettled t u work now = by_case (unsettled_from size m r step allowed u now) where
    by_case : UnsettledFrom size m r step allowed u → is_unsettled (m.changes u).verdict ≡ true
    by_case (UnsettledFrom.Was h) = h
    by_case (UnsettledFrom.Becomes s step_is h at) = apart_bools (settled_was size m r t u work) (ap (λ n. was_unsettled (m.changes n).verdict) at ∙ ap was_unsettled (becomes_own size m r step allowed s h).1.1)

  -- ---- sources

  pub data SourceFrom (t s : ℕ) (cell : Cell) : Type 0 where
    Was : IsSourceFor size m t cell s → SourceFrom t s cell
    Ends : step ≡ Step.Turns t Turn.Reaches → IsSoundIn size (phase_of new t) cell s → SourceFrom t s cell

  module _ (t s : ℕ) (cell : Cell) (few : s < size.replicas) where
    abbrev x : Txn
    x = m.txns t

    low : (m.txns t).phase ≤ m.ended
    low = (phases_are_known size m r t).low

    sound_back : IsSoundIn size (new.phases (m.txns t).phase) cell s → IsSoundIn size (phase_of m t) cell s
    sound_back = sound_stays size (new.phases (m.txns t).phase) (phase_of m t) (sym (goes.reached (m.txns t).phase low)) (sym (goes.rows (m.txns t).phase low)) cell s

    may_back : (work : Work) (own : Job) → (m.txns t).work ≡ work → MayCopyFrom new.changes own (new.phases (m.txns t).phase) work → MayCopyFrom m.changes own (phase_of m t) work
    may_back Own (job.Change cells fd op effect) is h = tt
    may_back Own (job.Heal at) is h = sym (untouched_stays (m.txns t).phase low) ∙ h
    may_back Own other is h = absurd h
    may_back (Settles u) own is h = settled_unsettled t u is h

    group_back : (group : Option Replicas) → IsOfGroup size (new.phases (m.txns t).phase) cell group s → IsOfGroup size (phase_of m t) cell group s
    group_back None h = sound_back h
    group_back (Some group) h = h

    carry : (stage : Stage) → CanSource size new.changes (m.txns t).job (m.txns t).work (new.phases (m.txns t).phase) cell s stage → CanSource size m.changes (m.txns t).job (m.txns t).work (phase_of m t) cell s stage
    carry Locked h = (may_back (m.txns t).work (m.txns t).job refl h.0, sound_back h.1)
    carry (Settling u group adopts) h = h
    carry (Copying run) h = group_back run.group h
    carry other h = absurd h

    abbrev Of : Txn → Type 0
    Of y = CanSource size new.changes y.job y.work (new.phases y.phase) cell s y.stage

    goes_on : GoesOn (m.txns t) (new.txns t) → Of (new.txns t) → IsSourceFor size m t cell s
    goes_on g h = by_stage g.stage where
      moved : CanSource size new.changes (m.txns t).job (m.txns t).work (new.phases (m.txns t).phase) cell s (new.txns t).stage
      moved =
          subst (λ j. CanSource size new.changes j (m.txns t).work (new.phases (m.txns t).phase) cell s (new.txns t).stage) g.task.own.job
          (subst (λ w. CanSource size new.changes (new.txns t).job w (new.phases (m.txns t).phase) cell s (new.txns t).stage) g.task.work
          (subst (λ p. CanSource size new.changes (new.txns t).job (new.txns t).work (new.phases p) cell s (new.txns t).stage) g.task.phase h))

      at : (stage : Stage) → (new.txns t).stage ≡ stage → CanSource size m.changes (m.txns t).job (m.txns t).work (phase_of m t) cell s stage
      at stage is = carry stage (subst (CanSource size new.changes (m.txns t).job (m.txns t).work (new.phases (m.txns t).phase) cell s) is moved)

      by_stage : StageKeeps (m.txns t).stage (new.txns t).stage → IsSourceFor size m t cell s
      by_stage (StageKeeps.StaysIn is) = at (m.txns t).stage is
      by_stage (StageKeeps.PassesOn is) = passed_source size m.changes (m.txns t).job (m.txns t).work (phase_of m t) cell s (m.txns t).stage (at (passed (m.txns t).stage) is)
      by_stage (StageKeeps.CopiesOn run later was is same) =
          subst (CanSource size m.changes (m.txns t).job (m.txns t).work (phase_of m t) cell s) (sym was) (subst (λ g. IsOfGroup size (phase_of m t) cell g s) same.group (at (Copying later) is))

    -- what the copies of its lock phase may have as sources
    copied_from : (run : CopyRun) → (m.txns t).stage ≡ Copying run → IsCopiedFrom (m.txns t).work run.group (phase_of m t).decides
    copied_from run is = subst (λ st. DecidesIn size m.changes (m.txns t).work st (phase_of m t)) is ((decides_exactly size m r).transactions t).decides

    own_group : (group : Option Replicas) (work : Work) → work ≡ Own → IsCopiedFrom work group (phase_of m t).decides → IsOfGroup size (phase_of m t) cell None s → IsOfGroup size (phase_of m t) cell group s
    own_group None work is from h = h
    own_group (Some group) Own is from h = absurd from
    own_group (Some group) (Settles u) is from h = absurd (let no : Settles u ≡ Own = is in cc)

    untouched_for : (own : Job) → MayCopyFor m t own → IsUntouchedFor None own (phase_of m t)
    untouched_for (job.Change cells fd op effect) h = tt
    untouched_for (job.Heal at) h = h
    untouched_for other h = absurd h

    own_source : (stage : Stage) → (m.txns t).stage ≡ stage → (m.txns t).work ≡ Own → IsCopied stage → MayCopyFor m t (m.txns t).job → IsSoundIn size (phase_of m t) cell s → IsSourceFor size m t cell s
    own_source Locked is work copied may sound =
        subst (CanSource size m.changes (m.txns t).job (m.txns t).work (phase_of m t) cell s) (sym is) (subst (MayCopyFrom m.changes (m.txns t).job (phase_of m t)) (sym work) (untouched_for (m.txns t).job may), sound)
    own_source (Copying run) is work copied may sound = subst (CanSource size m.changes (m.txns t).job (m.txns t).work (phase_of m t) cell s) (sym is) (own_group run.group (m.txns t).work work (copied_from run is) sound)
    own_source other is work copied may sound = absurd copied

    settled_source : (stage : Stage) → (m.txns t).stage ≡ stage → (sources : Replicas) → FollowsSettling m stage sources → sources s ≡ true → IsSourceFor size m t cell s
    settled_source (Settling u group adopts) is sources from in_it = subst (CanSource size m.changes (m.txns t).job (m.txns t).work (phase_of m t) cell s) (sym is) (ap (λ (f : Replicas). f s) (sym from.1) ∙ in_it)
    settled_source (Copying run) is sources from in_it = subst (CanSource size m.changes (m.txns t).job (m.txns t).work (phase_of m t) cell s) (sym is) (subst (λ g. IsOfGroup size (phase_of m t) cell g s) (sym from.1) in_it)
    settled_source other is sources from in_it = absurd from

    copies_from : (work : Work) (group : Option Replicas) → (m.txns t).work ≡ work → MayCopyAs m t work group → IsOfGroup size (phase_of m t) cell group s → IsSourceFor size m t cell s
    copies_from Own None is may h = own_source (m.txns t).stage refl is may.0 may.1 h
    copies_from Own (Some group) is may h = absurd may
    copies_from (Settles u) None is may h = absurd may
    copies_from (Settles u) (Some group) is may h = settled_source (m.txns t).stage refl group may h

    pub source_from : has_cell (phase_of new t).cells cell ≡ true → IsSourceFor size new t cell s → SourceFrom t s cell
    source_from covers h = by_move (txn_moves size m step allowed t) where
      of_txn : (y : Txn) → new.txns t ≡ y → Of y
      of_txn y is = subst (λ (z : Txn). CanSource size new.changes z.job z.work (new.phases z.phase) cell s z.stage) is h

      by_move : TxnMove size m step t (new.txns t) → SourceFrom t s cell
      by_move (TxnMove.Goes quiet g) = Was (goes_on g h)
      by_move (TxnMove.Begins graph own step_is at is) = absurd (of_txn _ is)
      by_move (TxnMove.Locks Own step_is may is) = absurd (of_txn _ is)
      by_move (TxnMove.Locks (Settles u) step_is may is) = absurd (of_txn _ is)
      by_move (TxnMove.Reaches step_is may is) = Ends step_is (subst (λ p. IsSoundIn size (new.phases p) cell s) (sym (ap (λ (z : Txn). z.phase) is)) (of_txn _ is).1)
      by_move (TxnMove.Marks step_is may is) = absurd (of_txn _ is)
      by_move (TxnMove.Unsettles step_is may is) = absurd (of_txn _ is)
      by_move (TxnMove.Posts step_is may is) = absurd (of_txn _ is)
      by_move (TxnMove.SettlesAs group adopts step_is may is) = Was (subst (CanSource size m.changes (m.txns t).job (m.txns t).work (phase_of m t) cell s) (sym may.turn)
          (subst (MayCopyFrom m.changes (m.txns t).job (phase_of m t)) (sym may.work_is) may.is_unsettled, ((may.group_is s few).0 (of_txn _ is)).sound cell touched)) where
            same_cells : (phase_of new t).cells ≡ (m.changes may.change).cells
            same_cells =
                ap (λ p. (new.phases p).cells) (phase_stays size m r step allowed t (ap is_behind may.turn)) ∙ goes.cells (m.txns t).phase low
                ∙ (phases_are_known size m r t).cells (ap is_behind may.turn) ∙ ap (cells_of_work m.changes (m.txns t)) may.work_is

            touched : has_cell (m.changes may.change).cells cell ≡ true
            touched = sym (ap (λ cs. has_cell cs cell) same_cells) ∙ covers
      by_move (TxnMove.Bears step_is may is) = absurd (of_txn _ is)
      by_move (TxnMove.Copies run step_is may is) = Was (copies_from (m.txns t).work run.group refl may.allowed (group_back run.group (of_txn _ is)))
      by_move (TxnMove.Clears step_is may is) = Was (subst (CanSource size m.changes (m.txns t).job (m.txns t).work (phase_of m t) cell s) (sym may.turn) (group_back may.run.group (of_txn _ is)))
      by_move (TxnMove.Polls step_is may is) = absurd (of_txn _ is)
      by_move (TxnMove.Unlocks step_is may is) = absurd (of_txn _ is)
      by_move (TxnMove.Rests step_is may is) = absurd (of_txn _ is)
      by_move (TxnMove.Ends step_is may is) = absurd (of_txn _ is)

  -- ---- sinks

  pub data SinkFrom (t i : ℕ) (cell : Cell) : Type 0 where
    Was : is_copied_to (m.txns t).stage cell i ≡ true → SinkFrom t i cell
    Confirms : (by : Sender) → (at : Cell) → (found : Fetched) → (answer : Answer) → step ≡ Step.HandsIn i → IsHandedIn m i by (Replace at found) answer → by.txn ≡ t → SinkFrom t i cell

  module _ (t i : ℕ) (cell : Cell) where
    same_sink : (before run : CopyRun) → run.cells ≡ before.cells → run.sinks ≡ before.sinks → run.replaced i ≡ before.replaced i → is_copied_to (Copying run) cell i ≡ is_copied_to (Copying before) cell i
    same_sink before run cells sinks replaced =
        ap (λ b. (run.sinks i && is_replaced b run.cells) && has_cell run.cells cell) replaced
        ∙ ap (λ cs. (run.sinks i && is_replaced (before.replaced i) cs) && has_cell cs cell) cells
        ∙ ap (λ (f : Replicas). (f i && is_replaced (before.replaced i) before.cells) && has_cell before.cells cell) sinks

    by_run : (run : CopyRun) → is_copied_to (Copying run) cell i ≡ true → RunMove size m step t run → SinkFrom t i cell
    by_run run h (RunMove.Stays is) = Was (ap (λ st. is_copied_to st cell i) is ∙ h)
    by_run run h (RunMove.Begins step_is may) =
        apart_bools (both_right (run.sinks i) (is_replaced (run.replaced i) run.cells) (both_left (is_confirmed_sink run i) (has_cell run.cells cell) h))
        (ap (λ (f : ℕ → Cell → Bool). is_replaced (f i) run.cells) may.not_replaced ∙ none_replaced run.cells cell (both_right (is_confirmed_sink run i) (has_cell run.cells cell) h))
    by_run run h (RunMove.Clears step_is may is) = Was (ap (λ st. is_copied_to st cell i) may.turn ∙ sym (same_sink may.run run (ap (λ (x : CopyRun). x.cells) is) (ap (λ (x : CopyRun). x.sinks) is) (ap (λ (x : CopyRun). x.replaced i) is)) ∙ h)
    by_run run h (RunMove.Fetches k by at found before step_is handed txn stage is) =
        Was (ap (λ st. is_copied_to st cell i) stage ∙ sym (same_sink before run (ap (λ (x : CopyRun). x.cells) is) (ap (λ (x : CopyRun). x.sinks) is) (ap (λ (x : CopyRun). x.replaced i) is)) ∙ h)
    by_run run h (RunMove.Replaces k by at found answer before step_is handed txn stage is) = by_brick (cases_eq i k) where
      by_brick : (i ≡ k) ⊎ (i ≢ k) → SinkFrom t i cell
      by_brick (inl same) = Confirms by at found answer (step_is ∙ ap Step.HandsIn (sym same)) (subst (λ n. IsHandedIn m n by (Replace at found) answer) (sym same) handed) txn
      by_brick (inr other) = Was (ap (λ st. is_copied_to st cell i) stage ∙ sym (same_sink before run (ap (λ (x : CopyRun). x.cells) is) (ap (λ (x : CopyRun). x.sinks) is) table) ∙ h) where
        table : run.replaced i ≡ before.replaced i
        table = ap (λ (x : CopyRun). x.replaced i) is ∙ ap (λ b. λ (c : Cell). (b && has_cell (at ∷ []) c) || before.replaced i c) (ne_eqb i k other)

    pub sink_from : is_copied_to (new.txns t).stage cell i ≡ true → SinkFrom t i cell
    sink_from h = by_stage (new.txns t).stage refl h where
      by_stage : (stage : Stage) → (new.txns t).stage ≡ stage → is_copied_to stage cell i ≡ true → SinkFrom t i cell
      by_stage (Copying run) is h = by_run run h (run_moves size m step allowed t run is)
      by_stage other is h = absurd (let no : false ≡ true = h in cc)

  -- ---- grants

  pub granted_before : (t k : ℕ) → is_behind (m.txns t).stage ≡ true → is_behind (new.txns t).stage ≡ true → open_grants new t k ≡ true → open_grants m t k ≡ true
  granted_before t k was_behind behind granted = by_case (behind_from size m (on_their_way size m r) (waits_fit size m r) step allowed t) where
    o : HasOpen (after size m step) t k
    o = has_open new t k granted

    by_case : BehindFrom m t (new.txns t) → open_grants m t k ≡ true
    by_case (NotNow none) = apart_bools behind none
    by_case (PhaseEnds now) = absurd (omega (arith, now, phase_stays size m r step allowed t was_behind, (phases_are_known size m r t).low))
    by_case (Same h phase graph grants) =
        let is = grants k o.grant o.granted in
        opens m t k (record {
          grant = o.grant;
          granted = is;
          current = links_back size m step allowed k (m.txns t).graph o.grant.connection ((grants_are_held size m r).handed t k o.grant is).numbered (subst (λ g. is_current (new.links k g) o.grant.connection ≡ true) graph o.current);
        })

  pub reached_before : (t k : ℕ) → is_behind (m.txns t).stage ≡ true → (phase_of new t).reached k ≡ (phase_of m t).reached k
  reached_before t k behind =
      ap (λ p. (new.phases p).reached k) (phase_stays size m r step allowed t behind) ∙ ap (λ (f : Replicas). f k) (goes.reached (m.txns t).phase (phases_are_known size m r t).low)

  pub held_before : (t k : ℕ) → is_behind (m.txns t).stage ≡ true → is_behind (new.txns t).stage ≡ true → held_by new t k ≡ true → held_by m t k ≡ true
  held_before t k was behind h =
      both ((phase_of m t).reached k) (open_grants m t k) (sym (reached_before t k was) ∙ both_left ((phase_of new t).reached k) (open_grants new t k) h)
      (granted_before t k was behind (both_right ((phase_of new t).reached k) (open_grants new t k) h))

  pub cells_before : (t : ℕ) → is_behind (m.txns t).stage ≡ true → (phase_of new t).cells ≡ (phase_of m t).cells
  cells_before t behind = ap (λ p. (new.phases p).cells) (phase_stays size m r step allowed t behind) ∙ goes.cells (m.txns t).phase (phases_are_known size m r t).low

  -- ---- whom a clear may name

  -- the sink confirms a replacement now, and with it all of them
  pub record ConfirmsNow (t i : ℕ) (cell : Cell) : Type 0 where
    pub by : Sender
    pub at : Cell
    pub found : Fetched
    pub answer : Answer
    pub step_is : step ≡ Step.HandsIn i
    pub handed : IsHandedIn m i by (Replace at found) answer
    pub txn : by.txn ≡ t
    pub copied : is_copied_to (new.txns t).stage cell i ≡ true

  pub data PardonFrom (t k i : ℕ) (cell : Cell) : Type 0 where
    Was : MayPardon size m t k i cell → PardonFrom t k i cell
    Ends : step ≡ Step.Turns t Turn.Reaches → IsSoundIn size (phase_of new t) cell i → PardonFrom t k i cell
    Confirms : ConfirmsNow t i cell → PardonFrom t k i cell

  pub pardon_from : (t k i : ℕ) (cell : Cell) → i < size.replicas → MayPardon size new t k i cell → PardonFrom t k i cell
  pardon_from t k i cell few h = by_names h.names where
    behind : is_behind (new.txns t).stage ≡ true
    behind = by_case h.names where
      by_case : IsSourceFor size new t cell i ⊎ (is_copied_to (new.txns t).stage cell i ≡ true) → is_behind (new.txns t).stage ≡ true
      by_case (inl source) = source_behind size new.changes (new.txns t).job (new.txns t).work (phase_of new t) cell i (new.txns t).stage source
      by_case (inr sink) = copied_to_behind (new.txns t).stage cell i sink

    was : is_behind (m.txns t).stage ≡ true → IsSourceFor size m t cell i ⊎ (is_copied_to (m.txns t).stage cell i ≡ true) → PardonFrom t k i cell
    was was_behind names = Was (record { held = held_before t k was_behind behind h.held; covers = sym (ap (λ cs. has_cell cs cell) (cells_before t was_behind)) ∙ h.covers; names = names })

    by_source : SourceFrom t i cell → PardonFrom t k i cell
    by_source (SourceFrom.Was source) = was (source_behind size m.changes (m.txns t).job (m.txns t).work (phase_of m t) cell i (m.txns t).stage source) (inl source)
    by_source (SourceFrom.Ends step_is sound) = Ends step_is sound

    by_sink : is_copied_to (new.txns t).stage cell i ≡ true → SinkFrom t i cell → PardonFrom t k i cell
    by_sink now (SinkFrom.Was sink) = was (copied_to_behind (m.txns t).stage cell i sink) (inr sink)
    by_sink now (SinkFrom.Confirms by at found answer step_is handed txn) = Confirms (record { by = by; at = at; found = found; answer = answer; step_is = step_is; handed = handed; txn = txn; copied = now })

    by_names : IsSourceFor size new t cell i ⊎ (is_copied_to (new.txns t).stage cell i ≡ true) → PardonFrom t k i cell
    by_names (inl source) = by_source (source_from t i cell few h.covers source)
    by_names (inr sink) = by_sink sink (sink_from t i cell sink)
