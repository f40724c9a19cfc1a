-- Each copy that a turn asks for has the job of its transaction.
use Rattle.std.proofs.Common.{◌≡◌, ◌∙◌, ℕ, ◌+◌, ◌-◌, ◌<◌, Bool, true, false, ◌&&◌, not, cond, List, [], ◌∷◌, ◌++◌, Option, Some, None, is_none, is_some, length, sym}
use Rattle.std.specs.Prelude.{slice_get, slice_index}
use Rattle.std.proofs.lemmas.Bool.{cond_both}
use Rattle.fop_types.specs.declared.answers.IoError.TheVariants as io
use Rattle.fop_types.specs.declared.causes.SkipCause.{SkipCause}
use Rattle.fop_types.specs.declared.causes.SkipCause.TheVariants as skip
use Rattle.fop_types.specs.declared.cells.Cell.{Cell}
use Rattle.fop_types.specs.declared.cells.Gfid.{Gfid}
use Rattle.fop_types.specs.declared.contents.Content.{Content}
use Rattle.fop_types.specs.declared.contents.Mask.{Mask}
use Rattle.fop_types.specs.declared.contents.Row.{Row}
use Rattle.fop_types.specs.declared.copy_jobs.CopyDone.{CopyDone}
use Rattle.fop_types.specs.declared.jobs.SetReply.{SetReply}
use Rattle.fop_types.specs.declared.jobs.SetReply.TheVariants as reply
use Rattle.fop_types.specs.declared.messages.BrickRep.{BrickRep}
use Rattle.fop_types.specs.declared.store_ops.StoreOp.{StoreOp}
use Rattle.afr_ledger.specs.Changes.{numbered}
use Rattle.afr_ledger.specs.Ledger.{State as Ledger}
use Rattle.afr_phases.specs.declared.locking.LockStep.{LockStep}
use Rattle.afr_phases.specs.declared.locking.LockStep.TheVariants as step
use Rattle.afr_phases.specs.declared.outs.Outs.{Outs}
use Rattle.afr_phases.specs.Answers.{is_fault, rows_in, content_in, cells_in}
use Rattle.afr_phases.specs.Flags.{flag, lowest, both, mask_of, names}
use Rattle.afr_phases.specs.Locking.{next_lock}
use Rattle.afr_phases.specs.Locks.{no_locks, granted, standing}
use Rattle.afr_phases.specs.Outs.{is_short, left}
use Rattle.afr_phases.specs.Shown.{nothing_shown, with_rows, rows_listed}
use Rattle.afr_phases.specs.Waves.{is_over, taken}
use Rattle.afr_phases.proofs.Bits.{named}
use Rattle.afr_phases.proofs.Truths.{below_five, both_left, both_right, some_there}
use Rattle.afr_transaction.specs.declared.jobs.Kind.{Kind}
use Rattle.afr_transaction.specs.declared.jobs.Kind.TheVariants as kind
use Rattle.afr_transaction.specs.declared.need.Need.{Need}
use Rattle.afr_transaction.specs.declared.phase.Adopted.{Adopted}
use Rattle.afr_transaction.specs.declared.phase.Part.{Part}
use Rattle.afr_transaction.specs.declared.phase.Phase.{Phase}
use Rattle.afr_transaction.specs.declared.phase.Phase.TheVariants as phase
use Rattle.afr_transaction.specs.declared.phase.Then.{Then}
use Rattle.afr_transaction.specs.declared.phase.Then.TheVariants as next
use Rattle.afr_transaction.specs.declared.phase.Verdict.{Verdict}
use Rattle.afr_transaction.specs.declared.txn.Txn.{Txn}
use Rattle.afr_transaction.specs.Answers.{lock_step, lock_on, hearing, waiting, write_by, mark_answered, write_answered, post_ended, post_answered, settle_step, settle_answered, birth_answered, unlock_answered, open_answered, list_taken, list_answered, aspect_at, answered_in, copied_in, idle}
use Rattle.afr_transaction.specs.Begins.{fresh, started_by}
use Rattle.afr_transaction.specs.Changes.{has_number, may_begin, marking, begun, drawing, posting, post_decided}
use Rattle.afr_transaction.specs.Copied.{healed, is_change, copied_all, copy_by, copy_next, copy_taken}
use Rattle.afr_transaction.specs.Copies.{sinks_left, has_source, next_part, copy_job, with_outs, is_left}
use Rattle.afr_transaction.specs.Jobs.{kind_of, birth_op, change_op}
use Rattle.afr_transaction.specs.Locked.{to_settle, cells_for, first_step, again, going, lost_noted, releasing, unlock, fail, lock_taken, reached}
use Rattle.afr_transaction.specs.Parts.{common_of, is_split, all_parts}
use Rattle.afr_transaction.specs.Polls.{polled, opening, list_ended, listing}
use Rattle.afr_transaction.specs.Reads.{sound_on, is_split_read, split_rows, with_absent, fetching, fetch_at, fetch_next, fetch_taken, ready_to_read}
use Rattle.afr_transaction.specs.Ready.{split, skipping, is_touched, ready_to_change, ready_to_heal, settle_by, bearing_by, ready_by, ready_for}
use Rattle.afr_transaction.specs.Settles.{settle_decided, settle_parts}
use Rattle.afr_transaction.specs.Txns.{alive, over, healing, ending, io_of, heal_reply, is_heal, kept}
use Rattle.txn_machine.specs.Leaves.{IsJobFor, AsksFor, BeginsAskFor, AnswersAskFor, CopiesAskFor}

-- a turn that leaves the ledger, and one with its ledger
abbrev Asks : Txn × Need → Type 0
Asks t = AsksFor t.0 t.1

abbrev AsksWith : Txn × (Need × Ledger Cell) → Type 0
AsksWith t = AsksFor t.0 t.1.0

-- ---- the copy that is asked for

job_is : (txn : Txn) (part : Part) (parts : List Part) → has_source txn part ≡ true → IsJobFor (record txn { phase = phase.Copying (sinks_left txn part) parts }) (copy_job txn part)
job_is txn part parts sources =
    let source = some_there (both part.sources (alive txn)) sources in
    record {
      sinks = sinks;
      source = record {
        replica = source.0;
        low = source.1.1;
        named = named part.sources source.0 source.1.1 ∙ both_left part.sources (alive txn) source.0 source.1.0;
        holds = named (alive txn) source.0 source.1.1 ∙ both_right part.sources (alive txn) source.0 source.1.0;
      };
      used = λ k low holds. sym (named (alive txn) k low) ∙ holds;
    }
  where
    sinks : (k : ℕ) → flag (sinks_left txn part) k ≡ true → (k < 5) × ((names (mask_of (sinks_left txn part)) k ≡ true) × (names (mask_of (alive txn)) k ≡ true))
    sinks k sink =
        let low : k < 5 = below_five (λ j. flag part.sinks j && flag (alive txn) j) k sink in
        (low, (named (sinks_left txn part) k low ∙ sink, named (alive txn) k low ∙ both_right part.sinks (alive txn) k sink))

-- ---- the lock phase and the release

ending_asks : (txn : Txn) → Asks (ending txn)
ending_asks txn = cond_both (is_heal txn.job) (healing txn skip.Majority) (txn, reply.Io (io_of txn)) (λ (f : Txn × SetReply). Asks (over f.0 f.1)) (λ e. tt) (λ e. tt)

first_asks : (txn : Txn) (t : Outs × LockStep) → Asks (first_step txn t)
first_asks txn (outs, step.Ask k) = tt
first_asks txn (outs, step.Short) = ending_asks (record txn { outs = outs })
first_asks txn (outs, step.Reached) = ending_asks (record txn { outs = outs })

module _ (live : Mask) (last : List ℕ) where
  again_asks : (txn : Txn) (ledger : Ledger Cell) → Asks (again txn ledger live last)
  again_asks txn ledger =
      first_asks (record txn { cells = cells_for txn ledger (to_settle txn ledger); settles = to_settle txn ledger; locks = no_locks; shown = nothing_shown })
      (next_lock txn.outs no_locks txn.size.n txn.size.q 0 live last)

  going_asks : (txn : Txn) (after : Then) (ledger : Ledger Cell) → Asks (going txn after ledger live last)
  going_asks txn (next.Answer r) ledger = tt
  going_asks txn next.Again ledger = again_asks txn ledger

  release_asks : (txn : Txn) (after : Then) (ledger : Ledger Cell) → Asks (releasing txn after ledger live last)
  release_asks txn after ledger = cond_both (is_none (lowest (standing txn.locks live last))) _ _ Asks (λ e. going_asks txn after ledger) (λ e. tt)

  unlock_asks : (txn : Txn) (after : Then) (ledger : Ledger Cell) → Asks (unlock txn after ledger live last)
  unlock_asks txn after ledger = release_asks (lost_noted txn live last) after ledger

  fail_asks : (txn : Txn) (ledger : Ledger Cell) → Asks (fail txn ledger live last)
  fail_asks txn ledger =
      cond_both (is_heal txn.job) (healing txn skip.Majority) (txn, reply.Io (io_of txn)) (λ (f : Txn × SetReply). Asks (unlock f.0 (next.Answer f.1) ledger live last))
      (λ e. unlock_asks (record txn { records = [] }) (next.Answer (healing txn skip.Majority).1) ledger) (λ e. unlock_asks txn (next.Answer (reply.Io (io_of txn))) ledger)

  -- ---- under the locks of a lock phase that has ended

  module _ (txn : Txn) (ledger : Ledger Cell) where
    -- a read
    by_replica : (place : ℕ) (contents : List (Option Content)) (cell : Cell) (from : Option ℕ) → Asks (fetching txn place contents cell from ledger live last)
    by_replica place contents cell None = unlock_asks txn next.Again ledger
    by_replica place contents cell (Some k) = tt

    by_cell : (place : ℕ) (contents : List (Option Content)) (cell : Option Cell) → Asks (fetch_at txn place contents cell ledger live last)
    by_cell place contents None = unlock_asks txn (next.Answer (reply.Contents contents place)) ledger
    by_cell place contents (Some cell) = by_replica place contents cell (lowest (both (sound_on txn (length contents)) (alive txn)))

    fetch_asks : (place : ℕ) (contents : List (Option Content)) → Asks (fetch_next txn place contents ledger live last)
    fetch_asks place contents =
        by_cell place (with_absent txn contents (length txn.cells - length contents)) (slice_get txn.cells (length (with_absent txn contents (length txn.cells - length contents))))

    read_asks : Asks (ready_to_read txn ledger live last)
    read_asks =
        cond_both (is_split_read txn 0 txn.cells) _ _ Asks
        (λ e. unlock_asks txn (next.Answer (reply.Io (io.Split txn.set (split_rows txn 0 txn.cells)))) ledger) (λ e. fetch_asks (length ledger.history) [])

    -- copies, and the mark after them
    mark_asks : AsksWith (marking txn ledger live last)
    mark_asks = cond_both (has_number ledger) (drawing txn ledger) _ AsksWith (λ e. tt) (λ e. fail_asks txn ledger)

    all_ask : AsksWith (copied_all txn ledger live last)
    all_ask =
        cond_both (is_some txn.settles) _ _ AsksWith (λ e. unlock_asks txn next.Again ledger)
        (λ e. cond_both (is_change txn.job) _ _ AsksWith (λ c. mark_asks)
        (λ c. cond_both (is_heal txn.job) _ _ AsksWith (λ h. unlock_asks (healed txn) (next.Answer (reply.Healed txn.records)) ledger)
        (λ h. unlock_asks txn next.Again ledger)))

    by_part : (t : Option Part × List Part) → AsksWith (copy_by txn t ledger live last)
    by_part (None, parts) = all_ask
    by_part (Some part, parts) = cond_both (has_source txn part) _ _ AsksWith (λ e. job_is txn part parts e) (λ e. unlock_asks txn next.Again ledger)

    next_asks : (parts : List Part) → AsksWith (copy_next txn parts ledger live last)
    next_asks parts = by_part (next_part txn parts)

    -- how each job goes on
    split_asks : Asks (split txn ledger live last)
    split_asks = unlock_asks txn (next.Answer (reply.Io (io.Split txn.set (rows_listed txn.shown txn.bricks 0 txn.cells)))) ledger

    skip_asks : (cause : SkipCause) → Asks (skipping txn cause ledger live last)
    unfolding skipping
    skip_asks cause = unlock_asks (healed txn) (next.Answer (heal_reply txn.records cause)) ledger

    change_asks : AsksWith (ready_to_change txn ledger live last)
    change_asks = cond_both (is_split txn 0 txn.cells) _ _ AsksWith (λ e. split_asks) (λ e. next_asks (all_parts txn))

    heal_asks : AsksWith (ready_to_heal txn ledger live last)
    heal_asks =
        cond_both (is_touched txn ledger) _ _ AsksWith (λ e. skip_asks skip.Unsettled)
        (λ e. cond_both (is_split txn 0 txn.cells) _ _ AsksWith (λ s. skip_asks skip.Split) (λ s. next_asks (all_parts txn)))

    bear_asks : (op : Option StoreOp) → Asks (bearing_by op txn ledger live last)
    bear_asks None = unlock_asks txn next.Again ledger
    bear_asks (Some op) = tt

    source_asks : (change : ℕ) (source : Option ℕ) → Asks (settle_by txn change source ledger live last)
    source_asks change None = split_asks
    source_asks change (Some source) = tt

    kind_asks : (k : Kind) → AsksWith (ready_by k txn ledger live last)
    kind_asks kind.Read = read_asks
    kind_asks kind.Change = change_asks
    kind_asks kind.Birth = bear_asks (birth_op txn.job)
    kind_asks kind.Heal = heal_asks
    kind_asks (kind.Open fd gfid) = unlock_asks txn next.Again ledger
    kind_asks kind.Index = unlock_asks txn next.Again ledger

    for_asks : (settles : Option ℕ) → AsksWith (ready_for settles txn ledger live last)
    for_asks (Some change) =
        cond_both (is_some (numbered change ledger.unsettled)) _ _ Asks (λ e. source_asks change (lowest (common_of txn))) (λ e. unlock_asks txn next.Again ledger)
    for_asks None = kind_asks (kind_of txn.job)

  -- a step of the lock phase
  step_asks : (txn : Txn) (t : Outs × LockStep) (ledger : Ledger Cell) → AsksWith (lock_step txn t ledger live last)
  step_asks txn (outs, step.Ask k) ledger = tt
  step_asks txn (outs, step.Short) ledger = fail_asks (record txn { outs = outs }) ledger
  step_asks txn (outs, step.Reached) ledger = for_asks (reached (record txn { outs = outs })) ledger txn.settles

  lock_asks : (txn : Txn) (from : ℕ) (ledger : Ledger Cell) → AsksWith (lock_on txn from ledger live last)
  lock_asks txn from ledger = step_asks txn (next_lock txn.outs txn.locks txn.size.n txn.size.q from live last) ledger

  -- ---- a copy that is done

  noted_asks : (after : Txn) (sinks : List Bool) (parts : List Part) (current : Mask) (ledger : Ledger Cell)
      → AsksWith (cond (is_short after.outs after.size.n after.size.q) (kept (fail after ledger live last) ledger)
      (cond (is_left after sinks current) (kept (unlock after next.Again ledger live last) ledger) (copy_next after parts ledger live last)))
  noted_asks after sinks parts current ledger =
      cond_both (is_short after.outs after.size.n after.size.q) _ _ AsksWith (λ e. fail_asks after ledger)
      (λ e. cond_both (is_left after sinks current) _ _ AsksWith (λ l. unlock_asks after next.Again ledger) (λ l. next_asks after ledger parts))

  copy_asks : (txn : Txn) (sinks : List Bool) (parts : List Part) (done : CopyDone) (ledger : Ledger Cell) → AsksWith (copy_taken txn sinks parts done ledger live last)
  copy_asks txn sinks parts done ledger =
      cond_both (is_heal txn.job) (record txn { outs = with_outs txn.size.n txn.outs done.outs; records = txn.records ++ done.records }) (record txn { outs = with_outs txn.size.n txn.outs done.outs })
      (λ (after : Txn). AsksWith (cond (is_short after.outs after.size.n after.size.q) (kept (fail after ledger live last) ledger)
      (cond (is_left after sinks done.current) (kept (unlock after next.Again ledger live last) ledger) (copy_next after parts ledger live last))))
      (λ e. noted_asks (record txn { outs = with_outs txn.size.n txn.outs done.outs; records = txn.records ++ done.records }) sinks parts done.current ledger)
      (λ e. noted_asks (record txn { outs = with_outs txn.size.n txn.outs done.outs }) sinks parts done.current ledger)

  copied_asks : (p : Phase) (txn : Txn) (done : CopyDone) (ledger : Ledger Cell) → AsksWith (copied_in p txn done ledger live last)
  copied_asks (phase.Copying sinks parts) txn done ledger = copy_asks txn sinks parts done ledger
  copied_asks (phase.Locking at) txn done ledger = tt
  copied_asks (phase.Unlocking after) txn done ledger = tt
  copied_asks (phase.Fetching place from contents) txn done ledger = tt
  copied_asks (phase.Marking change) txn done ledger = tt
  copied_asks (phase.Writing change) txn done ledger = tt
  copied_asks (phase.Posting change adopted) txn done ledger = tt
  copied_asks (phase.Settling verdict) txn done ledger = tt
  copied_asks phase.Bearing txn done ledger = tt
  copied_asks phase.Opening txn done ledger = tt
  copied_asks (phase.Listing all) txn done ledger = tt
  copied_asks phase.Over txn done ledger = tt

  -- ---- the begin

  open_asks : (txn : Txn) (fd : ℕ) (gfid : Gfid) → Asks (opening txn fd gfid)
  open_asks txn fd gfid =
      cond_both (is_none (lowest (alive txn))) _ _ Asks (λ e. cond_both (is_short txn.outs txn.size.n txn.size.q) _ _ Asks (λ s. tt) (λ s. tt)) (λ e. tt)

  list_asks : (txn : Txn) → Asks (listing txn)
  list_asks txn = cond_both (is_none (lowest (alive txn))) _ _ Asks (λ e. tt) (λ e. tt)

  started_asks : (k : Kind) (txn : Txn) (ledger : Ledger Cell) → Asks (started_by k txn ledger live last)
  started_asks kind.Read txn ledger = again_asks txn ledger
  started_asks kind.Change txn ledger = again_asks txn ledger
  started_asks kind.Birth txn ledger = again_asks txn ledger
  started_asks kind.Heal txn ledger = again_asks txn ledger
  started_asks (kind.Open fd gfid) txn ledger = open_asks (polled txn live last) fd gfid
  started_asks kind.Index txn ledger = list_asks (polled txn live last)

-- ---- an answer

module _ (txn : Txn) (k mark : ℕ) (rep : BrickRep) (ledger : Ledger Cell) (live : Mask) (last : List ℕ) where
  abbrev now : Txn
  now = hearing txn k rep mark

  lock_answer : (rows : Option (List Row)) → AsksWith (lock_on (lock_taken txn k rows (is_fault rep) mark last) (k + 1) ledger live last)
  lock_answer None = lock_asks live last (record txn { outs = left txn.outs k (is_fault rep) mark; wave = taken txn.wave k false }) (k + 1) ledger
  lock_answer (Some rows) =
      lock_asks live last (record txn { locks = granted txn.locks k (slice_index last k); shown = with_rows txn.shown k rows; wave = taken txn.wave k true }) (k + 1) ledger

  fetch_answer : (place : ℕ) (contents : List (Option Content)) (content : Option (Content × ℕ)) → Asks (fetch_taken txn place k contents content (is_fault rep) mark ledger live last)
  fetch_answer place contents (Some content) = fetch_asks live last (record txn { wave = taken txn.wave k true }) ledger place (contents ++ Some content.0 ∷ [])
  fetch_answer place contents None =
      cond_both (is_short (left txn.outs k (is_fault rep) mark) txn.size.n txn.size.q) _ _ Asks
      (λ e. fail_asks live last (record txn { outs = left txn.outs k (is_fault rep) mark; wave = taken txn.wave k false }) ledger)
      (λ e. fetch_asks live last (record txn { outs = left txn.outs k (is_fault rep) mark; wave = taken txn.wave k false }) ledger place contents)

  op_answer : (op : Option (ℕ × StoreOp)) (change : ℕ) → AsksWith (write_by op now change ledger live last)
  op_answer None change = unlock_asks live last now next.Again ledger
  op_answer (Some op) change =
      cond_both (may_begin now change ledger) (begun now change op.0 op.1 ledger) _ AsksWith (λ e. tt) (λ e. unlock_asks live last now next.Again ledger)

  mark_answer : (change : ℕ) → AsksWith (mark_answered now change ledger live last)
  mark_answer change =
      cond_both (not (is_over now.wave)) _ _ AsksWith (λ e. tt)
      (λ e. cond_both (is_short now.outs now.size.n now.size.q) _ _ AsksWith (λ s. fail_asks live last now ledger) (λ s. op_answer (change_op now.job) change))

  write_answer : (change : ℕ) → Asks (write_answered now change ledger live last)
  write_answer change =
      cond_both (not (is_over now.wave)) _ _ Asks (λ e. tt)
      (λ e. cond_both (is_short now.outs now.size.n now.size.q) _ (posting now change) Asks (λ s. fail_asks live last now ledger) (λ s. tt))

  ended_answer : (adopted : Option Adopted) (after : Ledger Cell) → Asks (post_ended now adopted after live last)
  ended_answer None after = fail_asks live last now after
  ended_answer (Some adopted) after = unlock_asks live last now (next.Answer (reply.Decided adopted.entry)) after

  post_answer : (change : ℕ) (adopted : Option Adopted) → AsksWith (post_answered now change adopted ledger live last)
  post_answer change adopted =
      cond_both (is_over now.wave) _ _ AsksWith
      (λ e. ended_answer (post_decided now change adopted ledger).0 (post_decided now change adopted ledger).1) (λ e. tt)

  settle_answer : (verdict : Verdict) → AsksWith (settle_answered now verdict ledger live last)
  settle_answer verdict = goes (settle_decided now verdict ledger) where
    goes : (d : Bool × Ledger Cell) → AsksWith (settle_step now (record verdict { decided = d.0 }) d.1 live last)
    goes d =
        cond_both (not (is_over now.wave)) _ _ AsksWith (λ e. tt)
        (λ e. cond_both d.0 _ _ AsksWith (λ s. next_asks live last now d.1 (settle_parts now verdict.group)) (λ s. fail_asks live last now d.1))

  birth_answer : Asks (birth_answered now ledger live last)
  birth_answer =
      cond_both (not (is_over now.wave)) _ _ Asks (λ e. tt)
      (λ e. cond_both (is_short now.outs now.size.n now.size.q) _ _ Asks (λ s. fail_asks live last now ledger) (λ s. unlock_asks live last now (next.Answer (reply.Decided None)) ledger))

  unlock_answer : (after : Then) → Asks (unlock_answered now after ledger live last)
  unlock_answer after = cond_both (not (is_over now.wave)) _ _ Asks (λ e. tt) (λ e. going_asks live last now after ledger)

  open_answer : Asks (open_answered now)
  open_answer = cond_both (not (is_over now.wave)) _ _ Asks (λ e. tt) (λ e. cond_both (is_short now.outs now.size.n now.size.q) _ _ Asks (λ s. tt) (λ s. tt))

  list_answer : (all : List Cell) → Asks (list_answered txn k rep mark all)
  list_answer all = by (cells_in rep) where
    by : (o : Option (List Cell)) → Asks (cond (not (is_over (list_taken txn k o (is_fault rep) mark all).0.wave))
        (waiting (list_taken txn k o (is_fault rep) mark all).0 (phase.Listing (list_taken txn k o (is_fault rep) mark all).1))
        (list_ended (list_taken txn k o (is_fault rep) mark all).0 (list_taken txn k o (is_fault rep) mark all).1))
    by None = cond_both (not (is_over (taken txn.wave k false))) _ _ Asks (λ e. tt) (λ e. tt)
    by (Some cells) = cond_both (not (is_over (taken txn.wave k true))) _ _ Asks (λ e. tt) (λ e. tt)

  phase_asks : (p : Phase) → AsksWith (answered_in p txn k rep mark ledger live last)
  phase_asks (phase.Locking at) = lock_answer (rows_in rep (length txn.cells))
  phase_asks (phase.Unlocking after) = unlock_answer after
  phase_asks (phase.Fetching place from contents) = fetch_answer place contents (content_in rep (aspect_at (slice_get txn.cells (length contents))))
  phase_asks (phase.Copying sinks parts) = tt
  phase_asks (phase.Marking change) = mark_answer change
  phase_asks (phase.Writing change) = write_answer change
  phase_asks (phase.Posting change adopted) = post_answer change adopted
  phase_asks (phase.Settling verdict) = settle_answer verdict
  phase_asks phase.Bearing = birth_answer
  phase_asks phase.Opening = open_answer
  phase_asks (phase.Listing all) = list_answer all
  phase_asks phase.Over = tt

-- ---- every turn

pub begins_ask_for : BeginsAskFor
begins_ask_for size set call job ledger live last = started_asks live last (kind_of job) (fresh size set call job) ledger

pub answers_ask_for : AnswersAskFor
answers_ask_for txn k mark rep ledger live last = phase_asks (idle txn) k mark rep ledger live last txn.phase

pub copies_ask_for : CopiesAskFor
copies_ask_for txn done ledger live last = copied_asks live last txn.phase (idle txn) done ledger
