-- What a turn decides on has its cause.
use Rattle.std.proofs.Common.{◌≡◌, ℕ, ◌+◌, ◌-◌, ◌<◌, ◌⊎◌, inl, inr, Bool, true, false, ◌&&◌, not, nat_le, cond, if◌then◌else◌, List, [], ◌∷◌, ◌++◌, Option, Some, None, is_none, is_some, refl, sym, ap, arith}
use Rattle.std.specs.Prelude.{length, slice_get, slice_index}
use Rattle.std.proofs.lemmas.Bool.{cond_both, and_parts, and_cases, leb-false, true≢false}
use Rattle.fop_types.specs.declared.answers.IoError.{IoError}
use Rattle.fop_types.specs.declared.answers.IoError.TheVariants as io
use Rattle.fop_types.specs.declared.answers.SplitRow.{SplitRow}
use Rattle.fop_types.specs.declared.causes.SkipCause.{SkipCause}
use Rattle.fop_types.specs.declared.causes.SkipCause.TheVariants as skip
use Rattle.fop_types.specs.declared.cells.Cell.{Cell}
use Rattle.fop_types.specs.declared.contents.Content.{Content}
use Rattle.fop_types.specs.declared.contents.Mask.{Mask}
use Rattle.fop_types.specs.declared.contents.Row.{Row}
use Rattle.fop_types.specs.declared.copy_jobs.CopyDone.{CopyDone}
use Rattle.fop_types.specs.declared.copy_jobs.CopyRecord.{CopyRecord}
use Rattle.fop_types.specs.declared.jobs.Job.{Job}
use Rattle.fop_types.specs.declared.jobs.Job.TheVariants as job
use Rattle.fop_types.specs.declared.jobs.SetPlan.{SetPlan}
use Rattle.fop_types.specs.declared.jobs.SetReply.{SetReply}
use Rattle.fop_types.specs.declared.jobs.SetReply.TheVariants as reply
use Rattle.fop_types.specs.declared.messages.BrickRep.{BrickRep}
use Rattle.fop_types.specs.declared.store_ops.StoreOp.{StoreOp}
use Rattle.fop_types.specs.Orders.{cell_cmp}
use Rattle.afr_ledger.specs.Changes.{numbered, touching}
use Rattle.afr_ledger.specs.Ledger.{State}
use Rattle.afr_phases.specs.declared.locking.LockStep.{LockStep}
use Rattle.afr_phases.specs.declared.locking.LockStep.TheVariants as step
use Rattle.afr_phases.specs.declared.outs.Outs.{Outs}
use Rattle.afr_phases.specs.Answers.{is_fault, is_plain_done, rows_in, content_in, cells_in}
use Rattle.afr_phases.specs.Asked.{is_within, is_waiting, are_granted_within}
use Rattle.afr_phases.specs.Flags.{flags_of, lowest, both}
use Rattle.afr_phases.specs.Locking.{next_lock}
use Rattle.afr_phases.specs.Locks.{no_locks, granted, standing}
use Rattle.afr_phases.specs.Outs.{no_outs, left, is_short}
use Rattle.afr_phases.specs.Shown.{nothing_shown, with_rows, rows_listed}
use Rattle.afr_phases.specs.Tracked.{IsTracked}
use Rattle.afr_phases.specs.Waves.{confirmations, is_asked, is_over, sent_to, taken}
use Rattle.afr_phases.proofs.Asked.{within_at}
use Rattle.afr_phases.proofs.Short.{kept_keeps, IsFirstOf, IsShortOf, first_of, short_of, few_short, noted_keeps}
use Rattle.afr_phases.proofs.Stays.{five_heard, lost_five, step_places}
use Rattle.afr_phases.proofs.Tracked.{sent, heard_one, left_places}
use Rattle.afr_phases.proofs.Truths.{both_right, lowest_is}
use Rattle.afr_transaction.specs.declared.jobs.Kind.{Kind}
use Rattle.afr_transaction.specs.declared.jobs.Kind.TheVariants as kind
use Rattle.afr_transaction.specs.declared.need.Need.{Need}
use Rattle.afr_transaction.specs.declared.phase.Adopted.{Adopted}
use Rattle.afr_transaction.specs.declared.phase.Part.{Part}
use Rattle.afr_transaction.specs.declared.phase.Phase.{Phase}
use Rattle.afr_transaction.specs.declared.phase.Phase.TheVariants as phase
use Rattle.afr_transaction.specs.declared.phase.Then.TheVariants as next
use Rattle.afr_transaction.specs.declared.phase.Verdict.{Verdict}
use Rattle.afr_transaction.specs.declared.size.Size.{Size}
use Rattle.afr_transaction.specs.declared.txn.Txn.{Txn}
use Rattle.afr_transaction.specs.Answers.{lock_step, lock_on, hearing, waiting, write_by, mark_answered, write_answered, post_ended, post_answered, settle_ended, settle_answered, birth_answered, unlock_answered, open_answered, list_taken, list_answered, aspect_at, answered, answered_in, copied, copied_in, idle}
use Rattle.afr_transaction.specs.Begins.{fresh, started}
use Rattle.afr_transaction.specs.Causes.{HasCause, IsCause, FewLeft, NoNumber, FullHistory, BareCell, BareRead, BareChange, IsThen, ShortHasCause, ReplyHasCause, reply_in, reply_of, DecidedHasCause, IsKeptOrHasCause, TracksIn, Tracks, BeginsHaveCauses, AnswersHaveCauses, CopiesHaveCauses}
use Rattle.afr_transaction.specs.Changes.{has_number, has_room, may_begin, decides, adopting, marking, post_decided}
use Rattle.afr_transaction.specs.Copied.{healed, is_change, copied_all, copy_by, copy_next}
use Rattle.afr_transaction.specs.Copies.{has_source, next_part, with_outs, is_left}
use Rattle.afr_transaction.specs.Jobs.{kind_of, birth_op, change_op}
use Rattle.afr_transaction.specs.Locked.{to_settle, cells_for, first_step, again, lost_noted, unlock, fail, lock_taken, reached}
use Rattle.afr_transaction.specs.Parts.{common_of, is_split, all_parts}
use Rattle.afr_transaction.specs.Polls.{polled, list_ended}
use Rattle.afr_transaction.specs.Reads.{sound_on, is_split_read, split_rows, with_absent, fetching, fetch_at, fetch_next, fetch_taken, ready_to_read}
use Rattle.afr_transaction.specs.Ready.{split, skipping, is_touched, settle_by, bearing_by, ready_by, ready_for}
use Rattle.afr_transaction.specs.Settles.{verdict_by, settle_decided, settle_parts}
use Rattle.afr_transaction.specs.Requests.{Keeps}
use Rattle.afr_transaction.specs.Shapes.{is_asking, is_copying, suits, are_copies}
use Rattle.afr_transaction.specs.Txns.{alive, fault_pairs, io_by, lost_pairs, over, heal_reply, healing, ending, io_of, is_heal, kept}
use Rattle.txn_laws.specs.Own.{IsSameJob}
use Rattle.txn_laws.specs.Granted.{is_as_asked}
use Rattle.txn_laws.specs.Lists.{AreOutStill}
use Rattle.txn_laws.proofs.Growing.{step_grows}
use Rattle.txn_laws.proofs.Idle.{suits_idle, tracks_idle}
use Rattle.afr_transaction.proofs.TurnsBase.{quorum_some}
use Rattle.afr_transaction.proofs.TurnsCopies.{outs_five}

-- What a decision says of the job that took it; S holds of a job that has reached a quorum, where a split is decided on, and B of who
-- is out, as it holds where more are.
module _ (S : Txn → Type 0) (B : Outs → Type 0) (grow : (a b : Outs) → AreOutStill a b → B a → B b) where
  abbrev pub SkipsFor : Txn → State Cell → SkipCause → Type 0
  SkipsFor job ledger skip.Majority = IsCause job ledger (io_of job)
  SkipsFor job ledger skip.Split = (is_split job 0 job.cells ≡ true) × S job
  SkipsFor job ledger skip.Unsettled = is_some (touching cell_cmp job.set job.cells ledger.unsettled) ≡ true

  pub record SkipSaid (now : Txn) (ledger : State Cell) (cause : SkipCause) : Type 0 where
    pub job : Txn
    pub is : IsThen now job
    pub own : IsSameJob now job
    pub skips : SkipsFor job ledger cause

  pub record Said (now : Txn) (ledger : State Cell) (error : IoError) : Type 0 where
    pub job : Txn
    pub is : IsThen now job
    pub own : IsSameJob now job
    pub cause : IsCause job ledger error
    pub whole : B job.outs
    pub splits : (number : ℕ) (rows : List SplitRow) → error ≡ io.Split number rows → S job

  abbrev pub ShortSaid : Txn → State Cell → Option IoError → Type 0
  ShortSaid now ledger None = Unit {0}
  ShortSaid now ledger (Some error) = Said now ledger error

  abbrev pub ReplySaid : Txn → State Cell → SetReply → Type 0
  ReplySaid now ledger (reply.Contents contents place) = Unit {0}
  ReplySaid now ledger (reply.Decided number) = Unit {0}
  ReplySaid now ledger reply.Opened = Unit {0}
  ReplySaid now ledger (reply.Listed cells answered short) = ShortSaid now ledger short
  ReplySaid now ledger (reply.Healed records) = Unit {0}
  ReplySaid now ledger (reply.Skipped cause) = SkipSaid now ledger cause
  ReplySaid now ledger (reply.Io error) = Said now ledger error

  abbrev pub DecidedSaid : Txn → State Cell → Option SetReply → Type 0
  DecidedSaid now ledger None = Unit {0}
  DecidedSaid now ledger (Some r) = ReplySaid now ledger r

  abbrev pub IsKeptOrSaid : Option SetReply → Txn → State Cell → Need → Type 0
  IsKeptOrSaid (Some r) now ledger turned = reply_of now turned ≡ Some r
  IsKeptOrSaid None now ledger turned = DecidedSaid now ledger (reply_of now turned)

  -- a turn that decides on nothing without its cause, and one with its ledger
  abbrev pub Caused : State Cell → Txn × Need → Type 0
  Caused ledger t = TracksIn t.0.phase t.0 × DecidedSaid t.0 ledger (reply_of t.0 t.1)

  abbrev pub CausedWith : Txn × (Need × State Cell) → Type 0
  CausedWith t = TracksIn t.0.phase t.0 × DecidedSaid t.0 t.1.1 (reply_of t.0 t.1.0)

  -- a turn that keeps a reply that was decided on before, or gives it
  abbrev KeepsReply : SetReply → Txn × Need → Type 0
  KeepsReply r t = TracksIn t.0.phase t.0 × (reply_of t.0 t.1 ≡ Some r)

  -- the turn of an answer in a phase
  abbrev pub Judged : Phase → Txn × (Need × State Cell) → Type 0
  Judged p t = TracksIn t.0.phase t.0 × IsKeptOrSaid (reply_in p) t.0 t.1.1 t.1.0

  -- ---- the job that decided

  over_own : (txn : Txn) → IsSameJob (record txn { phase = phase.Over }) txn
  over_own txn = record { set = refl; size = refl; bricks = refl; call = refl; job = refl }

  is_over_now : (txn : Txn) → IsThen (record txn { phase = phase.Over }) txn
  is_over_now txn = record { set = refl; bricks = refl; size = refl; cells = refl; settles = refl; shown = refl; outs = λ k out h. h }

  heal_caused : (now : Txn) (ledger : State Cell) (records : List CopyRecord) (cause : SkipCause) → SkipSaid now ledger cause → ReplySaid now ledger (heal_reply records cause)
  heal_caused now ledger [] cause said = said
  heal_caused now ledger (made ∷ records) cause said = tt

  -- an error for lack of replicas is no split
  not_split : (set : ℕ) (faults lost : List (ℕ × ℕ)) (number : ℕ) (rows : List SplitRow) → io_by set faults lost ≡ io.Split number rows → ⊥
  not_split set [] lost number rows e = absurd cc
  not_split set (fault ∷ faults) lost number rows e = absurd cc

  io_said : (now txn : Txn) (ledger : State Cell) → IsThen now txn → IsSameJob now txn → B txn.outs → IsCause txn ledger (io_of txn) → Said now ledger (io_of txn)
  io_said now txn ledger is own whole cause = record {
    job = txn;
    is = is;
    own = own;
    cause = cause;
    whole = whole;
    splits = λ number rows e. absurd (not_split txn.set (fault_pairs txn.bricks txn.outs.at) (lost_pairs txn.bricks txn.outs.at) number rows e);
  }

  healed_own : (txn : Txn) → IsSameJob (record txn { records = []; phase = phase.Over }) txn
  healed_own txn = record { set = refl; size = refl; bricks = refl; call = refl; job = refl }

  is_healed_now : (txn : Txn) → IsThen (record txn { records = []; phase = phase.Over }) txn
  is_healed_now txn = record { set = refl; bricks = refl; size = refl; cells = refl; settles = refl; shown = refl; outs = λ k out h. h }

  -- the job is answered at once
  over_caused : (txn : Txn) (ledger : State Cell) → B txn.outs → IsCause txn ledger (io_of txn) → Caused ledger (over txn (reply.Io (io_of txn)))
  over_caused txn ledger whole cause = (tt, io_said (record txn { phase = phase.Over }) txn ledger (is_over_now txn) (over_own txn) whole cause)

  ending_caused : (txn : Txn) (ledger : State Cell) → B txn.outs → is_short txn.outs txn.size.n txn.size.q ≡ true → Caused ledger (ending txn)
  ending_caused txn ledger whole short =
      cond_both (is_heal txn.job) (healing txn skip.Majority) (txn, reply.Io (io_of txn)) (λ (f : Txn × SetReply). Caused ledger (over f.0 f.1))
      (λ e. (tt, heal_caused (record txn { records = []; phase = phase.Over }) ledger txn.records skip.Majority (record { job = txn; is = is_healed_now txn; own = healed_own txn; skips = FewLeft short refl })))
      (λ e. over_caused txn ledger whole (FewLeft short refl))

  first_caused : (txn : Txn) (t : Outs × LockStep) (ledger : State Cell) → B t.0 → IsFirstOf txn.size.n txn.size.q t → Caused ledger (first_step txn t)
  first_caused txn (outs, step.Ask k) ledger whole first = (tt, tt)
  first_caused txn (outs, step.Short) ledger whole first = ending_caused (record txn { outs = outs }) ledger whole first
  first_caused txn (outs, step.Reached) ledger whole first = absurd first

  -- an index that has ended
  list_caused : (txn : Txn) (all : List Cell) (ledger : State Cell) → B txn.outs → Caused ledger (list_ended txn all)
  list_caused txn all ledger whole = (
    tt,
    cond_both (is_short txn.outs txn.size.n txn.size.q) (Some (io_of txn)) None (ShortSaid (record txn { phase = phase.Over }) ledger)
        (λ s. io_said (record txn { phase = phase.Over }) txn ledger (is_over_now txn) (over_own txn) whole (FewLeft s refl)) (λ s. tt),
  )

  listed_caused : (txn : Txn) (k mark : ℕ) (rep : BrickRep) (all : List Cell) (ledger : State Cell) → B (list_taken txn k (cells_in rep) (is_fault rep) mark all).0.outs → Caused ledger (list_answered txn k rep mark all)
  listed_caused txn k mark rep all ledger whole =
      cond_both (not (is_over (list_taken txn k (cells_in rep) (is_fault rep) mark all).0.wave)) _ _ (Caused ledger) (λ e. (tt, tt))
      (λ e. list_caused (list_taken txn k (cells_in rep) (is_fault rep) mark all).0 (list_taken txn k (cells_in rep) (is_fault rep) mark all).1 ledger whole)

  module _ (live : Mask) (last : List ℕ) where
    again_caused : (txn : Txn) (ledger : State Cell) → length txn.outs.at ≡ 5 → B txn.outs → Caused ledger (again txn ledger live last)
    again_caused txn ledger five whole =
        first_caused (record txn { cells = cells_for txn ledger (to_settle txn ledger); settles = to_settle txn ledger; locks = no_locks; shown = nothing_shown })
        (next_lock txn.outs no_locks txn.size.n txn.size.q 0 live last) ledger (grow txn.outs (next_lock txn.outs no_locks txn.size.n txn.size.q 0 live last).0 (step_grows txn.size.n txn.size.q live last txn.outs no_locks 0) whole)
        (first_of txn.size.n txn.size.q live last txn.outs (quorum_some txn.size) txn.size.few five)

    -- the job as its locks are released, where it has decided on a reply
    abbrev given : Txn → Txn
    given txn = record (lost_noted txn live last) { phase = phase.Over }

    abbrev releasing_for : Txn → SetReply → Txn
    releasing_for txn r = record (lost_noted txn live last) { wave = sent_to (standing txn.locks live last); phase = phase.Unlocking (next.Answer r) }

    is_given : (txn : Txn) → IsThen (given txn) txn
    is_given txn = record { set = refl; bricks = refl; size = refl; cells = refl; settles = refl; shown = refl; outs = λ k out h. noted_keeps txn.size.n txn.outs txn.locks live last k out h }

    is_releasing : (txn : Txn) (r : SetReply) → IsThen (releasing_for txn r) txn
    is_releasing txn r = record { set = refl; bricks = refl; size = refl; cells = refl; settles = refl; shown = refl; outs = λ k out h. noted_keeps txn.size.n txn.outs txn.locks live last k out h }

    given_own : (txn : Txn) → IsSameJob (given txn) txn
    given_own txn = record { set = refl; size = refl; bricks = refl; call = refl; job = refl }

    releasing_own : (txn : Txn) (r : SetReply) → IsSameJob (releasing_for txn r) txn
    releasing_own txn r = record { set = refl; size = refl; bricks = refl; call = refl; job = refl }

    answer_caused : (txn : Txn) (r : SetReply) (ledger : State Cell) → ((now : Txn) → IsThen now txn → IsSameJob now txn → ReplySaid now ledger r) → Caused ledger (unlock txn (next.Answer r) ledger live last)
    answer_caused txn r ledger has =
        cond_both (is_none (lowest (standing txn.locks live last))) _ _ (Caused ledger) (λ e. (tt, has (given txn) (is_given txn) (given_own txn))) (λ e. (tt, has (releasing_for txn r) (is_releasing txn r) (releasing_own txn r)))

    redo_caused : (txn : Txn) (ledger : State Cell) → length txn.outs.at ≡ 5 → B txn.outs → Caused ledger (unlock txn next.Again ledger live last)
    redo_caused txn ledger five whole =
        cond_both (is_none (lowest (standing txn.locks live last))) _ _ (Caused ledger)
        (λ e. again_caused (lost_noted txn live last) ledger (lost_five txn.size.n txn.outs txn.locks live last five) (grow txn.outs (lost_noted txn live last).outs (noted_keeps txn.size.n txn.outs txn.locks live last) whole)) (λ e. (tt, tt))

    -- a heal forgets what it has copied, and is else what it was
    before_heal : (txn now : Txn) (ledger : State Cell) (cause : SkipCause) → IsThen now (record txn { records = [] }) → IsSameJob now (record txn { records = [] }) → SkipsFor txn ledger cause → SkipSaid now ledger cause
    before_heal txn now ledger cause is own skips = record {
      job = txn;
      is = record { set = is.set; bricks = is.bricks; size = is.size; cells = is.cells; settles = is.settles; shown = is.shown; outs = is.outs };
      own = record { set = own.set; size = own.size; bricks = own.bricks; call = own.call; job = own.job };
      skips = skips;
    }

    fail_caused : (txn : Txn) (ledger : State Cell) → B txn.outs → IsCause txn ledger (io_of txn) → Caused ledger (fail txn ledger live last)
    fail_caused txn ledger whole cause =
        cond_both (is_heal txn.job) (healing txn skip.Majority) (txn, reply.Io (io_of txn)) (λ (f : Txn × SetReply). Caused ledger (unlock f.0 (next.Answer f.1) ledger live last))
        (λ e. answer_caused (record txn { records = [] }) (heal_reply txn.records skip.Majority) ledger (λ now is own. heal_caused now ledger txn.records skip.Majority (before_heal txn now ledger skip.Majority is own cause)))
        (λ e. answer_caused txn (reply.Io (io_of txn)) ledger (λ now is own. io_said now txn ledger is own whole cause))

    -- ---- under the locks

    module _ (txn : Txn) (ledger : State Cell) (five : length txn.outs.at ≡ 5) (whole : B txn.outs) where
      fetching_caused : (place : ℕ) (contents : List (Option Content)) (cell : Cell) (sound : List Bool) (from : Option ℕ) → lowest (both sound (alive txn)) ≡ from → Caused ledger (fetching txn place contents cell from ledger live last)
      fetching_caused place contents cell sound None e = redo_caused txn ledger five whole
      fetching_caused place contents cell sound (Some k) e = (both_right sound (alive txn) k (lowest_is (both sound (alive txn)) k e), tt)

      at_caused : (place : ℕ) (contents : List (Option Content)) (cell : Option Cell) → Caused ledger (fetch_at txn place contents cell ledger live last)
      at_caused place contents None = answer_caused txn (reply.Contents contents place) ledger (λ now is own. tt)
      at_caused place contents (Some cell) = fetching_caused place contents cell (sound_on txn (length contents)) (lowest (both (sound_on txn (length contents)) (alive txn))) refl

      fetch_caused : (place : ℕ) (contents : List (Option Content)) → Caused ledger (fetch_next txn place contents ledger live last)
      fetch_caused place contents =
          at_caused place (with_absent txn contents (length txn.cells - length contents)) (slice_get txn.cells (length (with_absent txn contents (length txn.cells - length contents))))

      read_caused : S txn → txn.settles ≡ None → kind_of txn.job ≡ kind.Read → Caused ledger (ready_to_read txn ledger live last)
      read_caused reached own reads =
          cond_both (is_split_read txn 0 txn.cells) _ _ (Caused ledger)
          (λ e. answer_caused txn (reply.Io (io.Split txn.set (split_rows txn 0 txn.cells))) ledger (λ now is same. record { job = txn; is = is; own = same; cause = BareRead own reads e refl; whole = whole; splits = λ number rows s. reached }))
          (λ e. fetch_caused (length ledger.history) [])

      mark_caused : CausedWith (marking txn ledger live last)
      mark_caused = cond_both (has_number ledger) _ _ CausedWith (λ e. (sent txn.size.n txn.outs five, tt)) (λ e. fail_caused txn ledger whole (NoNumber e refl))

      all_caused : CausedWith (copied_all txn ledger live last)
      all_caused =
          cond_both (is_some txn.settles) _ _ CausedWith (λ e. redo_caused txn ledger five whole)
          (λ e. cond_both (is_change txn.job) _ _ CausedWith (λ c. mark_caused)
          (λ c. cond_both (is_heal txn.job) _ _ CausedWith (λ h. answer_caused (healed txn) (reply.Healed txn.records) ledger (λ now is own. tt)) (λ h. redo_caused txn ledger five whole)))

      by_caused : (t : Option Part × List Part) → CausedWith (copy_by txn t ledger live last)
      by_caused (None, parts) = all_caused
      by_caused (Some part, parts) = cond_both (has_source txn part) _ _ CausedWith (λ e. (tt, tt)) (λ e. redo_caused txn ledger five whole)

      next_caused : (parts : List Part) → CausedWith (copy_next txn parts ledger live last)
      next_caused parts = by_caused (next_part txn parts)

      split_caused : S txn → IsCause txn ledger (io.Split txn.set (rows_listed txn.shown txn.bricks 0 txn.cells)) → Caused ledger (split txn ledger live last)
      split_caused reached cause =
          answer_caused txn (reply.Io (io.Split txn.set (rows_listed txn.shown txn.bricks 0 txn.cells))) ledger (λ now is own. record { job = txn; is = is; own = own; cause = cause; whole = whole; splits = λ number rows s. reached })

      skip_caused : (cause : SkipCause) → SkipsFor txn ledger cause → Caused ledger (skipping txn cause ledger live last)
      unfolding skipping
      skip_caused cause skips = answer_caused (healed txn) (heal_reply txn.records cause) ledger (λ now is own. heal_caused now ledger txn.records cause (before_heal txn now ledger cause is own skips))

      source_caused : S txn → (change : ℕ) (source : Option ℕ) → lowest (common_of txn) ≡ source → is_some txn.settles ≡ true → Caused ledger (settle_by txn change source ledger live last)
      source_caused reached change None none settles = split_caused reached (BareChange settles none refl)
      source_caused reached change (Some source) is settles = (sent txn.size.n txn.outs five, tt)

      touched_is : is_touched txn ledger ≡ true → is_some (touching cell_cmp txn.set txn.cells ledger.unsettled) ≡ true
      unfolding is_touched
      touched_is e = e

      bear_caused : (op : Option StoreOp) → Caused ledger (bearing_by op txn ledger live last)
      bear_caused None = redo_caused txn ledger five whole
      bear_caused (Some op) = (tt, tt)

      kind_caused : S txn → (k : Kind) → kind_of txn.job ≡ k → txn.settles ≡ None → CausedWith (ready_by k txn ledger live last)
      kind_caused reached kind.Read is own = read_caused reached own is
      kind_caused reached kind.Change is own =
          cond_both (is_split txn 0 txn.cells) _ _ CausedWith (λ e. split_caused reached (BareCell own is e refl)) (λ e. next_caused (all_parts txn))
      kind_caused reached kind.Birth is own = bear_caused (birth_op txn.job)
      kind_caused reached kind.Heal is own =
          cond_both (is_touched txn ledger) _ _ CausedWith (λ e. skip_caused skip.Unsettled (touched_is e))
          (λ e. cond_both (is_split txn 0 txn.cells) _ _ CausedWith (λ s. skip_caused skip.Split (s, reached)) (λ s. next_caused (all_parts txn)))
      kind_caused reached (kind.Open fd gfid) is own = redo_caused txn ledger five whole
      kind_caused reached kind.Index is own = redo_caused txn ledger five whole

      for_caused : S txn → (settles : Option ℕ) → txn.settles ≡ settles → CausedWith (ready_for settles txn ledger live last)
      for_caused reached (Some change) e =
          cond_both (is_some (numbered change ledger.unsettled)) _ _ (Caused ledger) (λ u. source_caused reached change (lowest (common_of txn)) refl (ap is_some e)) (λ u. redo_caused txn ledger five whole)
      for_caused reached None e = kind_caused reached (kind_of txn.job) refl e

    -- what is known of a lock phase that has ended
    abbrev pub Reaches : Txn → Outs × LockStep → Type 0
    Reaches txn (outs, step.Ask k) = Unit {0}
    Reaches txn (outs, step.Short) = Unit {0}
    Reaches txn (outs, step.Reached) = S (reached (record txn { outs = outs }))

    step_caused : (txn : Txn) (t : Outs × LockStep) (ledger : State Cell) → IsShortOf txn.size.n txn.size.q t → length t.0.at ≡ 5 → B t.0 → Reaches txn t → CausedWith (lock_step txn t ledger live last)
    step_caused txn (outs, step.Ask k) ledger short five whole reached_by = (tt, tt)
    step_caused txn (outs, step.Short) ledger short five whole reached_by = fail_caused (record txn { outs = outs }) ledger whole (FewLeft short refl)
    step_caused txn (outs, step.Reached) ledger short five whole reached_by = for_caused (reached (record txn { outs = outs })) ledger five whole reached_by txn.settles refl

    -- ---- answers

    module _ (txn : Txn) (k mark : ℕ) (rep : BrickRep) (ledger : State Cell) (low : k < 5) (asked : is_asked txn.wave k ≡ true) (five : length txn.outs.at ≡ 5) where
      locked_caused : (rows : Option (List Row)) → Reaches (lock_taken txn k rows (is_fault rep) mark last) (next_lock (lock_taken txn k rows (is_fault rep) mark last).outs (lock_taken txn k rows (is_fault rep) mark last).locks txn.size.n txn.size.q (k + 1) live last) → B (lock_taken txn k rows (is_fault rep) mark last).outs → CausedWith (lock_on (lock_taken txn k rows (is_fault rep) mark last) (k + 1) ledger live last)
      locked_caused None reached_by whole =
          step_caused (record txn { outs = left txn.outs k (is_fault rep) mark; wave = taken txn.wave k false }) (next_lock (left txn.outs k (is_fault rep) mark) txn.locks txn.size.n txn.size.q (k + 1) live last) ledger
          (short_of txn.size.n txn.size.q live last (left txn.outs k (is_fault rep) mark) txn.locks (k + 1))
          (step_places txn.size.n txn.size.q (k + 1) (left txn.outs k (is_fault rep) mark) txn.locks live last (left_places txn.outs k mark (is_fault rep) five))
          (grow (left txn.outs k (is_fault rep) mark) (next_lock (left txn.outs k (is_fault rep) mark) txn.locks txn.size.n txn.size.q (k + 1) live last).0 (step_grows txn.size.n txn.size.q live last (left txn.outs k (is_fault rep) mark) txn.locks (k + 1)) whole) reached_by
      locked_caused (Some rows) reached_by whole =
          step_caused (record txn { locks = granted txn.locks k (slice_index last k); shown = with_rows txn.shown k rows; wave = taken txn.wave k true }) (next_lock txn.outs (granted txn.locks k (slice_index last k)) txn.size.n txn.size.q (k + 1) live last) ledger
          (short_of txn.size.n txn.size.q live last txn.outs (granted txn.locks k (slice_index last k)) (k + 1))
          (step_places txn.size.n txn.size.q (k + 1) txn.outs (granted txn.locks k (slice_index last k)) live last five)
          (grow txn.outs (next_lock txn.outs (granted txn.locks k (slice_index last k)) txn.size.n txn.size.q (k + 1) live last).0 (step_grows txn.size.n txn.size.q live last txn.outs (granted txn.locks k (slice_index last k)) (k + 1)) whole) reached_by

      fetched_caused : (place : ℕ) (contents : List (Option Content)) (content : Option (Content × ℕ)) → B (if is_some content then txn.outs else left txn.outs k (is_fault rep) mark) → Caused ledger (fetch_taken txn place k contents content (is_fault rep) mark ledger live last)
      fetched_caused place contents (Some content) whole = fetch_caused (record txn { wave = taken txn.wave k true }) ledger five whole place (contents ++ Some content.0 ∷ [])
      fetched_caused place contents None whole =
          cond_both (is_short (left txn.outs k (is_fault rep) mark) txn.size.n txn.size.q) _ _ (Caused ledger)
          (λ e. fail_caused (record txn { outs = left txn.outs k (is_fault rep) mark; wave = taken txn.wave k false }) ledger whole (FewLeft e refl))
          (λ e. fetch_caused (record txn { outs = left txn.outs k (is_fault rep) mark; wave = taken txn.wave k false }) ledger (left_places txn.outs k mark (is_fault rep) five) whole place contents)

    module _ (txn : Txn) (k mark : ℕ) (rep : BrickRep) (ledger : State Cell) (low : k < 5) (asked : is_asked txn.wave k ≡ true) (five : length txn.outs.at ≡ 5) (whole : B (hearing txn k rep mark).outs) where
      heard_five : length (hearing txn k rep mark).outs.at ≡ 5
      heard_five = five_heard txn.size.n txn.outs k mark rep five

      heard_tracks : IsTracked txn.size.n txn.outs txn.wave → IsTracked txn.size.n (hearing txn k rep mark).outs (hearing txn k rep mark).wave
      heard_tracks t = heard_one txn.size.n k mark rep txn.outs txn.wave low asked t

      op_caused : (op : Option (ℕ × StoreOp)) (change : ℕ) → CausedWith (write_by op (hearing txn k rep mark) change ledger live last)
      op_caused None change = redo_caused (hearing txn k rep mark) ledger heard_five whole
      op_caused (Some op) change = cond_both (may_begin (hearing txn k rep mark) change ledger) _ _ CausedWith (λ e. (tt, tt)) (λ e. redo_caused (hearing txn k rep mark) ledger heard_five whole)

      marked_caused : (change : ℕ) → IsTracked txn.size.n txn.outs txn.wave → CausedWith (mark_answered (hearing txn k rep mark) change ledger live last)
      marked_caused change t =
          cond_both (not (is_over (taken txn.wave k (is_plain_done rep)))) _ _ CausedWith (λ e. (heard_tracks t, tt))
          (λ e. cond_both (is_short (hearing txn k rep mark).outs txn.size.n txn.size.q) _ _ CausedWith (λ s. fail_caused (hearing txn k rep mark) ledger whole (FewLeft s refl)) (λ s. op_caused (change_op txn.job) change))

      written_caused : (change : ℕ) → Caused ledger (write_answered (hearing txn k rep mark) change ledger live last)
      written_caused change =
          cond_both (not (is_over (taken txn.wave k (is_plain_done rep)))) _ _ (Caused ledger) (λ e. (tt, tt))
          (λ e. cond_both (is_short (hearing txn k rep mark).outs txn.size.n txn.size.q) _ _ (Caused ledger) (λ s. fail_caused (hearing txn k rep mark) ledger whole (FewLeft s refl))
          (λ s. (sent txn.size.n (hearing txn k rep mark).outs heard_five, tt)))

      -- where all have answered and nothing is decided, too few are left, or the history is full
      undecided : IsTracked txn.size.n txn.outs txn.wave → is_over (taken txn.wave k (is_plain_done rep)) ≡ true → decides (hearing txn k rep mark) ledger ≡ false → IsCause (hearing txn k rep mark) ledger (io_of (hearing txn k rep mark))
      undecided t over none = by (and_cases (nat_le txn.size.q (confirmations (taken txn.wave k (is_plain_done rep)))) (has_room ledger) none) where
        by : (nat_le txn.size.q (confirmations (taken txn.wave k (is_plain_done rep))) ≡ false) ⊎ (has_room ledger ≡ false) → IsCause (hearing txn k rep mark) ledger (io_of (hearing txn k rep mark))
        by (inl less) =
            FewLeft (few_short txn.size.n txn.size.q (hearing txn k rep mark).outs (hearing txn k rep mark).wave txn.size.few (heard_tracks t) over
            (leb-false txn.size.q (confirmations (taken txn.wave k (is_plain_done rep))) less)) refl
        by (inr full) = FullHistory full refl

      ended_caused : (change : ℕ) (adopted : Option Adopted) → IsTracked txn.size.n txn.outs txn.wave → is_over (taken txn.wave k (is_plain_done rep)) ≡ true
          → Caused (post_decided (hearing txn k rep mark) change adopted ledger).1 (post_ended (hearing txn k rep mark) (post_decided (hearing txn k rep mark) change adopted ledger).0 (post_decided (hearing txn k rep mark) change adopted ledger).1 live last)
      ended_caused change (Some adopted) t over = answer_caused (hearing txn k rep mark) (reply.Decided adopted.entry) ledger (λ now is own. tt)
      ended_caused change None t over =
          cond_both (decides (hearing txn k rep mark) ledger) _ _ (λ (d : Option Adopted × State Cell). Caused d.1 (post_ended (hearing txn k rep mark) d.0 d.1 live last))
          (λ e. answer_caused (hearing txn k rep mark) (reply.Decided (adopting (hearing txn k rep mark) change ledger).0.entry) (adopting (hearing txn k rep mark) change ledger).1 (λ now is own. tt))
          (λ e. fail_caused (hearing txn k rep mark) ledger whole (undecided t over e))

      posted_caused : (change : ℕ) (adopted : Option Adopted) → IsTracked txn.size.n txn.outs txn.wave → CausedWith (post_answered (hearing txn k rep mark) change adopted ledger live last)
      posted_caused change adopted t =
          cond_both (is_over (taken txn.wave k (is_plain_done rep))) _ _ CausedWith (λ e. ended_caused change adopted t e) (λ e. (heard_tracks t, tt))

      group_caused : (verdict : Verdict) → IsTracked txn.size.n txn.outs txn.wave → is_over (taken txn.wave k (is_plain_done rep)) ≡ true
          → CausedWith (settle_ended (hearing txn k rep mark) verdict.group (settle_decided (hearing txn k rep mark) verdict ledger).0 (settle_decided (hearing txn k rep mark) verdict ledger).1 live last)
      group_caused verdict t over =
          cond_both verdict.decided _ _ (λ (d : Bool × State Cell). CausedWith (settle_ended (hearing txn k rep mark) verdict.group d.0 d.1 live last))
          (λ e. next_caused (hearing txn k rep mark) ledger heard_five whole (settle_parts (hearing txn k rep mark) verdict.group))
          (λ e. cond_both (decides (hearing txn k rep mark) ledger) _ _ (λ (d : Bool × State Cell). CausedWith (settle_ended (hearing txn k rep mark) verdict.group d.0 d.1 live last))
          (λ h. next_caused (hearing txn k rep mark) (verdict_by (numbered verdict.change ledger.unsettled) verdict.change verdict.held ledger) heard_five whole (settle_parts (hearing txn k rep mark) verdict.group))
          (λ h. fail_caused (hearing txn k rep mark) ledger whole (undecided t over h)))

      settled_caused : (verdict : Verdict) → IsTracked txn.size.n txn.outs txn.wave → CausedWith (settle_answered (hearing txn k rep mark) verdict ledger live last)
      settled_caused verdict t = by (is_over (taken txn.wave k (is_plain_done rep))) refl where
        by : (b : Bool) → is_over (taken txn.wave k (is_plain_done rep)) ≡ b
            → CausedWith (cond (not b) (kept (waiting (hearing txn k rep mark) (phase.Settling (record verdict { decided = (settle_decided (hearing txn k rep mark) verdict ledger).0 }))) (settle_decided (hearing txn k rep mark) verdict ledger).1)
            (settle_ended (hearing txn k rep mark) verdict.group (settle_decided (hearing txn k rep mark) verdict ledger).0 (settle_decided (hearing txn k rep mark) verdict ledger).1 live last))
        by true over = group_caused verdict t over
        by false more = (heard_tracks t, tt)

      born_caused : Caused ledger (birth_answered (hearing txn k rep mark) ledger live last)
      born_caused =
          cond_both (not (is_over (taken txn.wave k (is_plain_done rep)))) _ _ (Caused ledger) (λ e. (tt, tt))
          (λ e. cond_both (is_short (hearing txn k rep mark).outs txn.size.n txn.size.q) _ _ (Caused ledger) (λ s. fail_caused (hearing txn k rep mark) ledger whole (FewLeft s refl))
          (λ s. answer_caused (hearing txn k rep mark) (reply.Decided None) ledger (λ now is own. tt)))

      -- a job that begins again, once its locks are released
      released_caused : Caused ledger (unlock_answered (hearing txn k rep mark) next.Again ledger live last)
      released_caused = cond_both (not (is_over (taken txn.wave k (is_plain_done rep)))) _ _ (Caused ledger) (λ e. (tt, tt)) (λ e. again_caused (hearing txn k rep mark) ledger heard_five whole)

      kept_caused : (r : SetReply) → KeepsReply r (unlock_answered (hearing txn k rep mark) (next.Answer r) ledger live last)
      kept_caused r = cond_both (not (is_over (taken txn.wave k (is_plain_done rep)))) _ _ (KeepsReply r) (λ e. (tt, refl)) (λ e. (tt, refl))

      opened_caused : Caused ledger (open_answered (hearing txn k rep mark))
      opened_caused =
          cond_both (not (is_over (taken txn.wave k (is_plain_done rep)))) _ _ (Caused ledger) (λ e. (tt, tt))
          (λ e. cond_both (is_short (hearing txn k rep mark).outs txn.size.n txn.size.q) _ _ (Caused ledger) (λ s. over_caused (hearing txn k rep mark) ledger whole (FewLeft s refl)) (λ s. (tt, tt)))

    -- ---- the turns

    -- who is out with the answer of a phase
    abbrev pub BaseOf : Txn → ℕ → ℕ → BrickRep → Phase → Type 0
    BaseOf txn k mark rep p = (is_as_asked p txn.cells rep ≡ true → B txn.outs) × (is_as_asked p txn.cells rep ≡ false → B (left txn.outs k (is_fault rep) mark))

    -- a lock that ends its phase
    abbrev pub LockReaches : Txn → ℕ → ℕ → BrickRep → Phase → Type 0
    LockReaches txn k mark rep p =
        (at : ℕ) → p ≡ phase.Locking at → (rows : Option (List Row)) → rows_in rep (length txn.cells) ≡ rows
        → Reaches (lock_taken txn k rows (is_fault rep) mark last) (next_lock (lock_taken txn k rows (is_fault rep) mark last).outs (lock_taken txn k rows (is_fault rep) mark last).locks txn.size.n txn.size.q (k + 1) live last)

    module _ (txn : Txn) (k mark : ℕ) (rep : BrickRep) (ledger : State Cell) (low : k < 5) (asked : is_asked txn.wave k ≡ true) (five : length txn.outs.at ≡ 5) where
      -- who is out with the answer
      whole_by : (p : Phase) → BaseOf txn k mark rep p → (c : Bool) → is_as_asked p txn.cells rep ≡ c → B (if c then txn.outs else left txn.outs k (is_fault rep) mark)
      whole_by p base true e = base.0 e
      whole_by p base false e = base.1 e

      locked_whole : (p : Phase) (rows : Option (List Row)) → B (if is_some rows then txn.outs else left txn.outs k (is_fault rep) mark) → B (lock_taken txn k rows (is_fault rep) mark last).outs
      locked_whole p None whole = whole
      locked_whole p (Some rows) whole = whole

      listed_whole : (all : List Cell) (cells : Option (List Cell)) → B (if is_some cells then txn.outs else left txn.outs k (is_fault rep) mark) → B (list_taken txn k cells (is_fault rep) mark all).0.outs
      listed_whole all None whole = whole
      listed_whole all (Some cells) whole = whole

      phase_caused : (p : Phase) → BaseOf txn k mark rep p → TracksIn p txn → suits p txn ≡ true → LockReaches txn k mark rep p → Judged p (answered_in p txn k rep mark ledger live last)
      phase_caused (phase.Locking at) base t fits reached_by = locked_caused txn k mark rep ledger low asked five (rows_in rep (length txn.cells)) (reached_by at refl (rows_in rep (length txn.cells)) refl) (locked_whole (phase.Locking at) (rows_in rep (length txn.cells)) (whole_by (phase.Locking at) base (is_some (rows_in rep (length txn.cells))) refl))
      phase_caused (phase.Unlocking (next.Answer r)) base t fits reached_by = kept_caused txn k mark rep ledger low asked five (whole_by (phase.Unlocking (next.Answer r)) base (is_plain_done rep) refl) r
      phase_caused (phase.Unlocking next.Again) base t fits reached_by = released_caused txn k mark rep ledger low asked five (whole_by (phase.Unlocking next.Again) base (is_plain_done rep) refl)
      phase_caused (phase.Fetching place from contents) base t fits reached_by =
          fetched_caused txn k mark rep ledger low asked five place contents (content_in rep (aspect_at (slice_get txn.cells (length contents))))
          (whole_by (phase.Fetching place from contents) base (is_some (content_in rep (aspect_at (slice_get txn.cells (length contents))))) refl)
      phase_caused (phase.Copying sinks parts) base t fits reached_by = absurd (true≢false (sym fits))
      phase_caused (phase.Marking change) base t fits reached_by = marked_caused txn k mark rep ledger low asked five (whole_by (phase.Marking change) base (is_plain_done rep) refl) change t
      phase_caused (phase.Writing change) base t fits reached_by = written_caused txn k mark rep ledger low asked five (whole_by (phase.Writing change) base (is_plain_done rep) refl) change
      phase_caused (phase.Posting change adopted) base t fits reached_by = posted_caused txn k mark rep ledger low asked five (whole_by (phase.Posting change adopted) base (is_plain_done rep) refl) change adopted t
      phase_caused (phase.Settling verdict) base t fits reached_by = settled_caused txn k mark rep ledger low asked five (whole_by (phase.Settling verdict) base (is_plain_done rep) refl) verdict t
      phase_caused phase.Bearing base t fits reached_by = born_caused txn k mark rep ledger low asked five (whole_by phase.Bearing base (is_plain_done rep) refl)
      phase_caused phase.Opening base t fits reached_by = opened_caused txn k mark rep ledger low asked five (whole_by phase.Opening base (is_plain_done rep) refl)
      phase_caused (phase.Listing all) base t fits reached_by = listed_caused txn k mark rep all ledger (listed_whole all (cells_in rep) (whole_by (phase.Listing all) base (is_some (cells_in rep)) refl))
      phase_caused phase.Over base t fits reached_by = absurd (true≢false (sym fits))

    -- a copy that is done
    noted_caused : (after : Txn) (sinks : List Bool) (parts : List Part) (current : Mask) (ledger : State Cell) → length after.outs.at ≡ 5 → B after.outs
        → CausedWith (cond (is_short after.outs after.size.n after.size.q) (kept (fail after ledger live last) ledger) (cond (is_left after sinks current) (kept (unlock after next.Again ledger live last) ledger) (copy_next after parts ledger live last)))
    noted_caused after sinks parts current ledger five whole =
        cond_both (is_short after.outs after.size.n after.size.q) _ _ CausedWith (λ e. fail_caused after ledger whole (FewLeft e refl))
        (λ e. cond_both (is_left after sinks current) _ _ CausedWith (λ l. redo_caused after ledger five whole) (λ l. next_caused after ledger five whole parts))

    copied_caused : (p : Phase) (txn : Txn) (done : CopyDone) (ledger : State Cell) → length txn.outs.at ≡ 5 → B (with_outs txn.size.n txn.outs done.outs) → are_copies p ≡ true → CausedWith (copied_in p txn done ledger live last)
    copied_caused (phase.Copying sinks parts) txn done ledger five whole h =
        cond_both (is_heal txn.job) (record txn { outs = with_outs txn.size.n txn.outs done.outs; records = txn.records ++ done.records }) (record txn { outs = with_outs txn.size.n txn.outs done.outs })
        (λ (after : Txn). CausedWith (cond (is_short after.outs after.size.n after.size.q) (kept (fail after ledger live last) ledger) (cond (is_left after sinks done.current) (kept (unlock after next.Again ledger live last) ledger) (copy_next after parts ledger live last))))
        (λ e. noted_caused (record txn { outs = with_outs txn.size.n txn.outs done.outs; records = txn.records ++ done.records }) sinks parts done.current ledger (outs_five txn.size.n txn.outs done.outs five) whole)
        (λ e. noted_caused (record txn { outs = with_outs txn.size.n txn.outs done.outs }) sinks parts done.current ledger (outs_five txn.size.n txn.outs done.outs five) whole)
    copied_caused (phase.Locking at) txn done ledger five whole h = absurd (true≢false (sym h))
    copied_caused (phase.Unlocking after) txn done ledger five whole h = absurd (true≢false (sym h))
    copied_caused (phase.Fetching place from contents) txn done ledger five whole h = absurd (true≢false (sym h))
    copied_caused (phase.Marking change) txn done ledger five whole h = absurd (true≢false (sym h))
    copied_caused (phase.Writing change) txn done ledger five whole h = absurd (true≢false (sym h))
    copied_caused (phase.Posting change adopted) txn done ledger five whole h = absurd (true≢false (sym h))
    copied_caused (phase.Settling verdict) txn done ledger five whole h = absurd (true≢false (sym h))
    copied_caused phase.Bearing txn done ledger five whole h = absurd (true≢false (sym h))
    copied_caused phase.Opening txn done ledger five whole h = absurd (true≢false (sym h))
    copied_caused (phase.Listing all) txn done ledger five whole h = absurd (true≢false (sym h))
    copied_caused phase.Over txn done ledger five whole h = absurd (true≢false (sym h))

  -- ---- the turns

  pub begins_said : (size : Size) (set : SetPlan) (call : ℕ) (j : Job) (ledger : State Cell) (live : Mask) (last : List ℕ) → B no_outs → Caused ledger (started (fresh size set call j) ledger live last)
  begins_said size set call (job.Read cells fd dir) ledger live last none = again_caused live last (fresh size set call (job.Read cells fd dir)) ledger refl none
  begins_said size set call (job.Change cells fd op effect) ledger live last none = again_caused live last (fresh size set call (job.Change cells fd op effect)) ledger refl none
  begins_said size set call (job.Birth cells op) ledger live last none = again_caused live last (fresh size set call (job.Birth cells op)) ledger refl none
  begins_said size set call (job.Heal cell) ledger live last none = again_caused live last (fresh size set call (job.Heal cell)) ledger refl none
  begins_said size set call (job.Open fd gfid) ledger live last none =
      let txn : Txn = polled (fresh size set call (job.Open fd gfid)) live last in
      cond_both (is_none (lowest (alive txn))) _ _ (Caused ledger)
      (λ e. cond_both (is_short txn.outs txn.size.n txn.size.q) _ _ (Caused ledger) (λ s. over_caused txn ledger (grow no_outs txn.outs (kept_keeps no_outs (flags_of live) size.n last) none) (FewLeft s refl)) (λ s. (tt, tt))) (λ e. (tt, tt))
  begins_said size set call job.Index ledger live last none =
      let txn : Txn = polled (fresh size set call job.Index) live last in
      cond_both (is_none (lowest (alive txn))) _ _ (Caused ledger) (λ e. list_caused txn [] ledger (grow no_outs txn.outs (kept_keeps no_outs (flags_of live) size.n last) none)) (λ e. (tt, tt))

  pub copies_said : (txn : Txn) (done : CopyDone) (ledger : State Cell) (live : Mask) (last : List ℕ) → is_copying txn ≡ true → Keeps txn → B (with_outs txn.size.n txn.outs done.outs) → CausedWith (copied txn done ledger live last)
  copies_said txn done ledger live last copying keeps whole =
      let a = and_parts (is_over txn.wave) (are_granted_within txn.size.n txn.locks && are_copies txn.phase) copying in
      let b = and_parts (are_granted_within txn.size.n txn.locks) (are_copies txn.phase) a.1 in
      copied_caused live last txn.phase (idle txn) done ledger keeps.places whole b.1

  pub answers_said : (txn : Txn) (k mark : ℕ) (rep : BrickRep) (ledger : State Cell) (live : Mask) (last : List ℕ)
      → is_asking txn ≡ true → Keeps txn → Tracks txn → is_asked txn.wave k ≡ true → BaseOf live last (idle txn) k mark rep txn.phase → LockReaches live last (idle txn) k mark rep txn.phase → Judged txn.phase (answered txn k rep mark ledger live last)
  answers_said txn k mark rep ledger live last asking keeps tracks asked base reached_by =
      let a = and_parts (is_waiting txn.size.n txn.wave) (are_granted_within txn.size.n txn.locks && suits txn.phase txn) asking in
      let b = and_parts (are_granted_within txn.size.n txn.locks) (suits txn.phase txn) a.1 in
      let c = and_parts (not (is_over txn.wave)) (is_within txn.size.n txn.wave.asked) a.0 in
      let low : k < txn.size.n = within_at txn.size.n k txn.wave.asked c.1 asked in
      phase_caused live last (idle txn) k mark rep ledger (omega (arith, txn.size.few)) asked keeps.places txn.phase base (tracks_idle txn.phase txn tracks) (suits_idle txn.phase txn b.1) reached_by

-- ---- the laws

-- nothing is asked of a lock phase, and of who is out
abbrev pub Any : Txn → Type 0
Any job = Unit {0}

abbrev pub AnyOuts : Outs → Type 0
AnyOuts outs = Unit {0}

pub any_grow : (a b : Outs) → AreOutStill a b → AnyOuts a → AnyOuts b
any_grow a b more h = tt

weak_error : (now : Txn) (ledger : State Cell) (error : IoError) → Said Any AnyOuts any_grow now ledger error → HasCause now ledger error
weak_error now ledger error said = record { job = said.job; is = said.is; cause = said.cause }

weak_short : (now : Txn) (ledger : State Cell) (short : Option IoError) → ShortSaid Any AnyOuts any_grow now ledger short → ShortHasCause now ledger short
weak_short now ledger None said = tt
weak_short now ledger (Some error) said = weak_error now ledger error said

weak_reply : (now : Txn) (ledger : State Cell) (r : SetReply) → ReplySaid Any AnyOuts any_grow now ledger r → ReplyHasCause now ledger r
weak_reply now ledger (reply.Contents contents place) said = tt
weak_reply now ledger (reply.Decided number) said = tt
weak_reply now ledger reply.Opened said = tt
weak_reply now ledger (reply.Listed cells answered short) said = weak_short now ledger short said
weak_reply now ledger (reply.Healed records) said = tt
weak_reply now ledger (reply.Skipped cause) said = tt
weak_reply now ledger (reply.Io error) said = weak_error now ledger error said

weak_decided : (now : Txn) (ledger : State Cell) (o : Option SetReply) → DecidedSaid Any AnyOuts any_grow now ledger o → DecidedHasCause now ledger o
weak_decided now ledger None said = tt
weak_decided now ledger (Some r) said = weak_reply now ledger r said

weak_kept : (before : Option SetReply) (now : Txn) (ledger : State Cell) (turned : Need) → IsKeptOrSaid Any AnyOuts any_grow before now ledger turned → IsKeptOrHasCause before now ledger turned
weak_kept None now ledger turned said = weak_decided now ledger (reply_of now turned) said
weak_kept (Some r) now ledger turned said = said

pub any_reached : (B : Outs → Type 0) (grow : (a b : Outs) → AreOutStill a b → B a → B b) (live : Mask) (last : List ℕ) (txn : Txn) (t : Outs × LockStep) → Reaches Any B grow live last txn t
any_reached B grow live last txn (outs, step.Ask k) = tt
any_reached B grow live last txn (outs, step.Short) = tt
any_reached B grow live last txn (outs, step.Reached) = tt

pub begins_have_causes : BeginsHaveCauses
begins_have_causes size set call j ledger live last =
    let t = started (fresh size set call j) ledger live last in
    let said = begins_said Any AnyOuts any_grow size set call j ledger live last tt in
    (said.0, weak_decided t.0 ledger (reply_of t.0 t.1) said.1)

pub answers_have_causes : AnswersHaveCauses
answers_have_causes txn k mark rep ledger live last asking keeps tracks asked =
    let t = answered txn k rep mark ledger live last in
    let said = answers_said Any AnyOuts any_grow txn k mark rep ledger live last asking keeps tracks asked ((λ e. tt), (λ e. tt))
    (λ at e rows r. any_reached AnyOuts any_grow live last (lock_taken (idle txn) k rows (is_fault rep) mark last) (next_lock (lock_taken (idle txn) k rows (is_fault rep) mark last).outs (lock_taken (idle txn) k rows (is_fault rep) mark last).locks txn.size.n txn.size.q (k + 1) live last)) in
    (said.0, weak_kept (reply_in txn.phase) t.0 t.1.1 t.1.0 said.1)

pub copies_have_causes : CopiesHaveCauses
copies_have_causes txn done ledger live last copying keeps =
    let t = copied txn done ledger live last in
    let said = copies_said Any AnyOuts any_grow txn done ledger live last copying keeps tt in
    (said.0, weak_decided t.0 t.1.1 (reply_of t.0 t.1.0) said.1)
