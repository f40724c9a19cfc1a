-- A read draws no change, and fetches only from bricks that are sound on the cell, over every list of steps.
use Rattle.std.proofs.Common.{◌≡◌, ◌∙◌, ℕ, Bool, true, false, refl, sym, ap, subst, ◌⊎◌, inl, inr}
use Rattle.std.specs.Prelude.{List}
use Rattle.fop_types.specs.declared.cells.Cell.{Cell}
use Rattle.fop_types.specs.declared.jobs.Job.{Job}
use Rattle.fop_types.specs.declared.jobs.Job.TheVariants as job
use Rattle.afr_machine.specs.Replicas.{Size, IsSize}
use Rattle.afr_machine.specs.Requests.{Sender, Ask, Input}
use Rattle.afr_machine.specs.Requests.Ask.{Fetch}
use Rattle.afr_machine.specs.Phases.{IsSoundIn}
use Rattle.afr_machine.specs.Transactions.{Stage, Txn}
use Rattle.afr_machine.specs.Transactions.Work.{Own, Settles}
use Rattle.afr_machine.specs.Transactions.Stage.{Locking, Locked, Copying}
use Rattle.afr_machine.specs.States.{State, phase_of}
use Rattle.afr_machine.specs.Sending.{MayAsk, asks_of, inputs_of, sender_of}
use Rattle.afr_machine.specs.Answering.{passed}
use Rattle.afr_machine.specs.Steps.{Step, Allowed, after, IsReached}
use Rattle.afr_machine.specs.Moves.{IsTaken}
use Rattle.afr_machine.proofs.BrickMoves.{bricks_move}
use Rattle.afr_laws.specs.Senders.{EachInput}
use Rattle.afr_laws.specs.Asking.{IsReadOf}
use Rattle.afr_laws.specs.Fresh.{is_behind}
use Rattle.afr_laws.proofs.Bools.{apart_bools, is_or_not}
use Rattle.afr_laws.proofs.Fresh.Known.{phases_are_known}
use Rattle.afr_laws.proofs.Fresh.Steps.{step_phases}
use Rattle.afr_laws.proofs.Waiting.{waits_fit}
use Rattle.afr_soundness.proofs.TxnMoves.{StageKeeps, GoesOn, TxnMove, txn_moves}
use Rattle.afr_soundness.proofs.Lines.{each_of}
use Rattle.afr_soundness.proofs.Runs.{sound_stays}
use Rattle.afr_contents.specs.Coming.{IsUsed}
use Rattle.afr_contents.proofs.Inputs.{line_each}
use Rattle.afr_contents.proofs.Clean.{own_none}
use Rattle.afr_contents.proofs.Using.{held_granted}
use Rattle.afr_contents.proofs.Lasting.{next_reached}
use Rattle.afr_contents.proofs.FetchedGood.{used_before}

-- ---- no change of its own

abbrev draws : Job → Bool
draws (job.Change cells fd op effect) = true
draws other = false

abbrev DrawNone : State → Type 0
DrawNone m = (t : ℕ) → draws (m.txns t).job ≡ false → (m.txns t).own ≡ 0

module _ (size : Size) (m : State) (was : DrawNone m) (step : Step) (allowed : Allowed size m step) where
  abbrev new : State
  new = after size m step

  draw_none_after : DrawNone new
  draw_none_after t h = by_move (txn_moves size m step allowed t) where
    kept : (y : Txn) → new.txns t ≡ y → y.job ≡ (m.txns t).job → y.own ≡ (m.txns t).own → (new.txns t).own ≡ 0
    kept y is same own = ap (λ (z : Txn). z.own) is ∙ own ∙ was t (ap draws (sym same) ∙ sym (ap (λ (z : Txn). draws z.job) is) ∙ h)

    by_move : TxnMove size m step t (new.txns t) → (new.txns t).own ≡ 0
    by_move (TxnMove.Goes quiet g) = kept (new.txns t) refl g.task.own.job g.task.own.own
    by_move (TxnMove.Begins graph own step_is at is) = ap (λ (z : Txn). z.own) is
    by_move (TxnMove.Locks Own step_is may is) = kept _ is refl refl
    by_move (TxnMove.Locks (Settles u) step_is may is) = kept _ is refl refl
    by_move (TxnMove.Reaches step_is may is) = kept _ is refl refl
    by_move (TxnMove.Marks step_is may is) = absurd (let no : false ≡ true = sym (sym (ap (λ (z : Txn). draws z.job) is) ∙ h) ∙ ap draws may.job_is in cc)
    by_move (TxnMove.Unsettles step_is may is) = kept _ is refl refl
    by_move (TxnMove.Posts step_is may is) = kept _ is refl refl
    by_move (TxnMove.SettlesAs group adopts step_is may is) = kept _ is refl refl
    by_move (TxnMove.Bears step_is may is) = kept _ is refl refl
    by_move (TxnMove.Copies run step_is may is) = kept _ is refl refl
    by_move (TxnMove.Clears step_is may is) = kept _ is refl refl
    by_move (TxnMove.Polls step_is may is) = kept _ is refl refl
    by_move (TxnMove.Unlocks step_is may is) = kept _ is refl refl
    by_move (TxnMove.Rests step_is may is) = kept _ is refl refl
    by_move (TxnMove.Ends step_is may is) = kept _ is refl refl

draw_none : (size : Size) (m : State) → IsReached size m → DrawNone m
draw_none size m IsReached.Start = λ t h. refl
draw_none size m (IsReached.Further old step reached allowed) = draw_none_after size old (draw_none size old reached) step allowed

read_draws : (own : Job) (cell : Cell) → IsReadOf own cell → draws own ≡ false
read_draws (job.Read cells fd dir) cell h = refl
read_draws other cell h = absurd h

pub read_owns_none : (size : Size) (m : State) → IsReached size m → (t : ℕ) (cell : Cell) → IsReadOf (m.txns t).job cell → (m.txns t).own ≡ 0
read_owns_none size m r t cell h = draw_none size m r t (read_draws (m.txns t).job cell h)

-- ---- what it fetches

-- the brick was sound on the cell in the lock phase, which is for the read itself
pub record SoundFetch (size : Size) (m : State) (t k : ℕ) (cell : Cell) : Type 0 where
  pub work : (m.txns t).work ≡ Own
  pub reads : IsReadOf (m.txns t).job cell
  pub sound : IsSoundIn size (phase_of m t) cell k

abbrev pub IsSoundAsk : Size → State → ℕ → ℕ → Ask → Type 0
IsSoundAsk size m t k (Fetch cell) = SoundFetch size m t k cell
IsSoundAsk size m t k other = Unit {0}

abbrev pub FetchesAreSound : Size → State → Type 0
FetchesAreSound size m = (t k : ℕ) → (m.txns t).stage ≡ Locked → IsUsed m t k → EachInput (λ by ask. by.txn ≡ t → IsSoundAsk size m t k ask) (m.bricks k).line

abbrev pub is_locked : Stage → Bool
is_locked Locked = true
is_locked other = false

pub passed_locked : (stage : Stage) → passed stage ≡ Locked → stage ≡ Locked
passed_locked (Locking cells shared next) is = absurd (let no : false ≡ true = ap is_locked is in cc)
passed_locked other is = is

pub keeps_locked : (old new : Stage) → StageKeeps old new → new ≡ Locked → old ≡ Locked
keeps_locked old new (StageKeeps.StaysIn is) h = sym is ∙ h
keeps_locked old new (StageKeeps.PassesOn is) h = passed_locked old (sym is ∙ h)
keeps_locked old new (StageKeeps.CopiesOn run later was is same) h = absurd (let no : Copying later ≡ Locked = sym is ∙ h in cc)

module _ (size : Size) (m : State) (r : IsReached size m) (is_size : IsSize size) (was : FetchesAreSound size m) (step : Step) (allowed : Allowed size m step) (t k : ℕ) (stage : ((after size m step).txns t).stage ≡ Locked) (used : IsUsed (after size m step) t k) where
  abbrev next : State
  next = after size m step

  module _ (g : GoesOn (m.txns t) (next.txns t)) where
    locked : (m.txns t).stage ≡ Locked
    locked = keeps_locked (m.txns t).stage (next.txns t).stage g.stage stage

    same_phase : (cell : Cell) → IsSoundIn size (phase_of m t) cell k → IsSoundIn size (phase_of next t) cell k
    same_phase cell h =
        let low = (phases_are_known size m r t).low in
        subst (λ p. IsSoundIn size (next.phases p) cell k) (sym g.task.phase)
        (sound_stays size (phase_of m t) (next.phases (m.txns t).phase) ((step_phases size m step).reached (m.txns t).phase (phases_are_known size m r t).low) ((step_phases size m step).rows (m.txns t).phase (phases_are_known size m r t).low) cell k h)

    ask_goes : (ask : Ask) → IsSoundAsk size m t k ask → IsSoundAsk size next t k ask
    ask_goes (Fetch cell) h = record { work = g.task.work ∙ h.work; reads = subst (λ j. IsReadOf j cell) (sym g.task.own.job) h.reads; sound = same_phase cell h.sound }
    ask_goes other h = tt

    abbrev Of : Sender → Ask → Type 0
    Of by ask = by.txn ≡ t → IsSoundAsk size m t k ask

    -- what it sends now
    sent : (ask : Ask) → MayAsk size m t k ask → IsSoundAsk size m t k ask
    sent (Fetch cell) (inl may) = record { work = may.work_is; reads = subst (λ j. IsReadOf j cell) (sym may.job_is) may.of_job; sound = may.sound }
    sent (Fetch cell) (inr may) = absurd (let no : Copying may.run ≡ Locked = sym may.turn ∙ locked in cc)
    sent other may = tt

    sent_by : (s : ℕ) (ask : Ask) → MayAsk size m s k ask → s ≡ t → IsSoundAsk size m t k ask
    sent_by s ask may same = sent ask (subst (λ n. MayAsk size m n k ask) same may)

    sent_line : (s : ℕ) (first : Bool) (ask : Ask) → MayAsk size m s k ask → EachInput Of (inputs_of (sender_of m s k) (asks_of first ask))
    sent_line s true ask may = (λ same. tt, (sent_by s ask may, tt))
    sent_line s false ask may = (sent_by s ask may, tt)

    taken : (st : Step) → Allowed size m st → (inputs : List Input) → IsTaken m st k inputs → EachInput Of inputs
    taken (Step.Asks s j first ask) h inputs its =
        subst (EachInput Of) (sym (its.1 ∙ ap (λ n. inputs_of (sender_of m s n) (asks_of first ask)) (sym its.0))) (sent_line s first ask (subst (λ n. MayAsk size m s n ask) (sym its.0) h.0))
    taken (Step.Controls j steering) h inputs its = subst (EachInput Of) (sym its.1) tt
    taken (Step.Connects j n) h inputs its = subst (EachInput Of) (sym its.1) tt
    taken (Step.Cuts j n) h inputs its = subst (EachInput Of) (sym its.1) tt
    taken other h inputs its = absurd its

    goes_on : EachInput (λ by ask. by.txn ≡ t → IsSoundAsk size next t k ask) (next.bricks k).line
    goes_on =
        each_of Of (λ by ask. by.txn ≡ t → IsSoundAsk size next t k ask) (λ by ask h same. ask_goes ask (h same)) (next.bricks k).line
        (line_each Of (IsTaken m step k) (m.bricks k) (next.bricks k) (bricks_move size m step allowed k) (taken step allowed) (was t k locked (used_before size m is_size r step allowed t k (ap is_behind locked) (ap is_behind stage) used)))

  -- nothing is on its way where the lock phase ends now
  ends : (next.txns t).waits k ≡ false → EachInput (λ by ask. by.txn ≡ t → IsSoundAsk size next t k ask) (next.bricks k).line
  ends idle = each_of (λ by ask. by.txn ≡ t → ⊥) (λ by ask. by.txn ≡ t → IsSoundAsk size next t k ask) (λ by ask h same. absurd (h same)) (next.bricks k).line
      (own_none size (after size m step) (next_reached size m r step allowed) t k used.not_out idle (ap is_behind stage) (held_granted (after size m step) t k used.held))

  other_stage : {A : Type 0} → (y : Txn) → next.txns t ≡ y → is_locked y.stage ≡ false → A
  other_stage y is none = apart_bools (ap is_locked stage) (ap (λ (z : Txn). is_locked z.stage) is ∙ none)

  sound_after : TxnMove size m step t (next.txns t) → EachInput (λ by ask. by.txn ≡ t → IsSoundAsk size next t k ask) (next.bricks k).line
  sound_after (TxnMove.Goes quiet g) = goes_on g
  sound_after (TxnMove.Begins graph own step_is at is) = other_stage _ is refl
  sound_after (TxnMove.Locks Own step_is may is) = other_stage _ is refl
  sound_after (TxnMove.Locks (Settles u) step_is may is) = other_stage _ is refl
  sound_after (TxnMove.Reaches step_is may is) = ends (by_case (is_or_not ((next.txns t).waits k))) where
    by_case : ((next.txns t).waits k ≡ true) ⊎ ((next.txns t).waits k ≡ false) → (next.txns t).waits k ≡ false
    by_case (inl waits) = let w : (m.txns t).waits k ≡ true = sym (ap (λ (z : Txn). z.waits k) is) ∙ waits in apart_bools w (may.answered.waits k (waits_fit size m r t k w).replica)
    by_case (inr none) = none
  sound_after (TxnMove.Marks step_is may is) = other_stage _ is refl
  sound_after (TxnMove.Unsettles step_is may is) = other_stage _ is refl
  sound_after (TxnMove.Posts step_is may is) = other_stage _ is refl
  sound_after (TxnMove.SettlesAs group adopts step_is may is) = other_stage _ is refl
  sound_after (TxnMove.Bears step_is may is) = other_stage _ is refl
  sound_after (TxnMove.Copies run step_is may is) = other_stage _ is refl
  sound_after (TxnMove.Clears step_is may is) = other_stage _ is refl
  sound_after (TxnMove.Polls step_is may is) = other_stage _ is refl
  sound_after (TxnMove.Unlocks step_is may is) = other_stage _ is refl
  sound_after (TxnMove.Rests step_is may is) = other_stage _ is refl
  sound_after (TxnMove.Ends step_is may is) = other_stage _ is refl

pub fetches_are_sound : (size : Size) (m : State) → IsSize size → IsReached size m → FetchesAreSound size m
fetches_are_sound size m is_size IsReached.Start = λ t k stage. absurd (let no : false ≡ true = ap is_locked stage in cc)
fetches_are_sound size m is_size (IsReached.Further old step reached allowed) = λ t k stage used. sound_after size old reached is_size (fetches_are_sound size old is_size reached) step allowed t k stage used (txn_moves size old step allowed t)
