-- Every turn keeps the answers of the replicas within their bounds, and replies within them.
use Rattle.fop_types.specs.Jobs.{AreContents, IsSetReply}
use Rattle.std.proofs.Common.{ℕ, zero, suc, ◌+◌, ◌-◌, Bool, true, false, ◌==◌, not, cond, List, [], ◌∷◌, ◌++◌, Option, Some, None, is_none, is_some}
use Rattle.std.specs.Prelude.{length, slice_get, slice_index}
use Rattle.std.proofs.lemmas.Bool.{cond_both}
use Rattle.std.specs.BTreeSet.{insert_key}
use Rattle.std.specs.declared.cmp.Ordering.{Ordering}
use Rattle.std.specs.declared.cmp.Ordering.TheVariants.{Less, Equal, Greater}
use Rattle.std.specs.Ordering.{match_ordering}
use Rattle.fop_types.specs.Bounds.{Each, IsCell, IsContent, IsRep, content_kind}
use Rattle.fop_types.specs.Orders.{cell_cmp}
use Rattle.fop_types.specs.Rank.{rank}
use Rattle.fop_types.specs.declared.answers.IoError.TheVariants as io
use Rattle.fop_types.specs.declared.causes.SkipCause.{SkipCause}
use Rattle.fop_types.specs.declared.causes.SkipCause.TheVariants as skip
use Rattle.fop_types.specs.declared.cells.Cell.{Cell}
use Rattle.fop_types.specs.declared.contents.Content.{Content}
use Rattle.fop_types.specs.declared.contents.Mask.{Mask}
use Rattle.fop_types.specs.declared.contents.Row.{Row}
use Rattle.fop_types.specs.declared.copy_jobs.CopyDone.{CopyDone}
use Rattle.fop_types.specs.declared.jobs.Job.TheVariants as job
use Rattle.fop_types.specs.declared.jobs.SetReply.{SetReply}
use Rattle.fop_types.specs.declared.jobs.SetReply.TheVariants as reply
use Rattle.fop_types.specs.declared.cells.Aspect.{Aspect}
use Rattle.fop_types.specs.declared.copy_jobs.CopyRecord.{CopyRecord}
use Rattle.fop_types.specs.declared.messages.BrickRep.{BrickRep}
use Rattle.fop_types.specs.declared.messages.BrickRep.TheVariants as rep
use Rattle.fop_types.specs.declared.messages.DoneArm.TheVariants as arm
use Rattle.afr_ledger.specs.Changes.{numbered}
use Rattle.fop_types.specs.declared.store_ops.StoreOp.{StoreOp}
use Rattle.afr_ledger.specs.Ledger.{State}
use Rattle.afr_phases.specs.declared.locking.LockStep.{LockStep}
use Rattle.afr_phases.specs.declared.locking.LockStep.TheVariants as step
use Rattle.afr_phases.specs.declared.outs.Outs.{Outs}
use Rattle.afr_phases.specs.Answers.{is_fault, is_plain_done, rows_in, content_in, cells_in}
use Rattle.afr_phases.specs.Locking.{next_lock}
use Rattle.afr_phases.specs.Flags.{lowest, both}
use Rattle.afr_phases.specs.Locks.{no_locks, granted, standing}
use Rattle.afr_phases.specs.Outs.{left, is_short}
use Rattle.afr_phases.specs.Shown.{nothing_shown, with_rows, rows_listed}
use Rattle.afr_phases.specs.Waves.{is_over, taken}
use Rattle.afr_transaction.specs.declared.jobs.Kind.{Kind}
use Rattle.afr_transaction.specs.declared.jobs.Kind.TheVariants as kind
use Rattle.afr_transaction.specs.declared.need.Need.{Need}
use Rattle.afr_transaction.specs.declared.phase.Adopted.{Adopted}
use Rattle.afr_transaction.specs.declared.phase.Part.{Part}
use Rattle.afr_transaction.specs.declared.phase.Phase.{Phase}
use Rattle.afr_transaction.specs.declared.phase.Phase.TheVariants as phase
use Rattle.afr_transaction.specs.declared.phase.Then.{Then}
use Rattle.afr_transaction.specs.declared.phase.Then.TheVariants as next
use Rattle.afr_transaction.specs.declared.phase.Verdict.{Verdict}
use Rattle.afr_transaction.specs.declared.txn.Txn.{Txn}
use Rattle.afr_transaction.specs.Answers.{lock_step, lock_on, hearing, write_by, mark_answered, write_answered, post_ended, post_answered, settle_answered, birth_answered, unlock_answered, open_answered, list_taken, list_answered, aspect_at, answered_in, copied_in, idle}
use Rattle.afr_transaction.specs.Begins.{fresh}
use Rattle.afr_transaction.specs.Changes.{has_number, may_begin, marking, post_decided}
use Rattle.afr_transaction.specs.Copied.{healed, is_change, copied_all, copy_by, copy_next, copy_noted}
use Rattle.afr_transaction.specs.Copies.{has_source, next_part, is_left}
use Rattle.afr_transaction.specs.Jobs.{kind_of, birth_op, change_op}
use Rattle.afr_transaction.specs.Locked.{to_settle, cells_for, first_step, again, going, lost_noted, unlock, fail, lock_taken, reached}
use Rattle.afr_transaction.specs.Parts.{common_of, is_split, all_parts}
use Rattle.afr_transaction.specs.Polls.{polled}
use Rattle.afr_transaction.specs.Reads.{lacks, sound_on, is_split_read, split_rows, with_absent, fetching, fetch_at, fetch_next, fetch_taken, ready_to_read}
use Rattle.afr_transaction.specs.Ready.{split, skipping, is_touched, settle_by, bearing_by, ready_by, ready_for}
use Rattle.afr_transaction.specs.Settles.{settle_decided, settle_parts}
use Rattle.afr_transaction.specs.Txns.{alive, over, heal_reply, healing, ending, io_of, is_heal, kept}
use Rattle.afr_transaction.specs.Listing.{with_cells}
use Rattle.afr_transaction.specs.Replies.{ThenFits, AnswersIn, RepliesFit, BeginsReply, AnswersReply, CopiesReply}

-- a turn, and one with its ledger
abbrev Fits : Txn × Need → Type 0
Fits t = RepliesFit t.0 t.1

abbrev FitsWith : Txn × (Need × State Cell) → Type 0
FitsWith t = RepliesFit t.0 t.1.0

-- ---- what the replicas answer

one_fits : (contents : List (Option Content)) (content : Option Content) → AreContents contents → AreContents (content ∷ []) → AreContents (contents ++ content ∷ [])
one_fits [] content h one = one
one_fits (c ∷ contents) content h one = (h.0, one_fits contents content h.1 one)

absent_fits : (txn : Txn) (contents : List (Option Content)) (left : ℕ) → AreContents contents → AreContents (with_absent txn contents left)
absent_fits txn contents zero h = h
absent_fits txn contents (suc left) h =
    cond_both (lacks txn (length contents)) (with_absent txn (contents ++ None ∷ []) left) contents AreContents (λ e. absent_fits txn (contents ++ None ∷ []) left (one_fits contents None h (tt, tt))) (λ e. h)

abbrev ContentFits : Option (Content × ℕ) → Type 0
ContentFits None = Unit {0}
ContentFits (Some content) = IsContent true content.0

content_fits : (r : BrickRep) (aspect : Aspect) → IsRep true r → ContentFits (content_in r aspect)
content_fits (rep.Done arm.Nothing) aspect h = tt
content_fits (rep.Done (arm.Rows rows)) aspect h = tt
content_fits (rep.Done (arm.Content content last)) aspect h = cond_both (content_kind content == rank aspect) (Some (content, last)) None ContentFits (λ e. h.0) (λ e. tt)
content_fits (rep.Done (arm.Cells cells)) aspect h = tt
content_fits rep.Gone aspect h = tt
content_fits rep.Fault aspect h = tt
content_fits rep.Unfit aspect h = tt
content_fits rep.BadFd aspect h = tt

abbrev CellsFit : Option (List Cell) → Type 0
CellsFit None = Unit {0}
CellsFit (Some cells) = Each IsCell cells

cells_fit : (r : BrickRep) → IsRep true r → CellsFit (cells_in r)
cells_fit (rep.Done arm.Nothing) h = tt
cells_fit (rep.Done (arm.Rows rows)) h = tt
cells_fit (rep.Done (arm.Content content last)) h = tt
cells_fit (rep.Done (arm.Cells cells)) h = h.2
cells_fit rep.Gone h = tt
cells_fit rep.Fault h = tt
cells_fit rep.Unfit h = tt
cells_fit rep.BadFd h = tt

inserted_fits : (all : List Cell) (cell : Cell) → Each IsCell all → IsCell cell → Each IsCell (insert_key cell_cmp all cell)
inserted_fits [] cell h one = (one, tt)
inserted_fits (c ∷ all) cell h one = by (cell_cmp cell c) (inserted_fits all cell h.1 one) where
  by : (o : Ordering) → Each IsCell (insert_key cell_cmp all cell) → Each IsCell (match_ordering o (cell ∷ c ∷ all) (c ∷ all) (c ∷ insert_key cell_cmp all cell))
  by Less rest = (one, h)
  by Equal rest = h
  by Greater rest = (h.0, rest)

listed_cells_fit : (all cells : List Cell) → Each IsCell all → Each IsCell cells → Each IsCell (with_cells all cells)
listed_cells_fit all [] h more = h
listed_cells_fit all (cell ∷ cells) h more = listed_cells_fit (insert_key cell_cmp all cell) cells (inserted_fits all cell h more.0) more.1

-- ---- replies and locks

heal_fits : (records : List CopyRecord) (cause : SkipCause) → IsSetReply (heal_reply records cause)
heal_fits [] cause = tt
heal_fits (made ∷ records) cause = tt

ending_fits : (txn : Txn) → Fits (ending txn)
ending_fits txn =
    cond_both (is_heal txn.job) (healing txn skip.Majority) (txn, reply.Io (io_of txn)) (λ (f : Txn × SetReply). Fits (over f.0 f.1)) (λ e. (tt, heal_fits txn.records skip.Majority)) (λ e. (tt, tt))

first_fits : (txn : Txn) (t : Outs × LockStep) → Fits (first_step txn t)
first_fits txn (outs, step.Ask k) = (tt, tt)
first_fits txn (outs, step.Short) = ending_fits (record txn { outs = outs })
first_fits txn (outs, step.Reached) = ending_fits (record txn { outs = outs })

module _ (live : Mask) (last : List ℕ) where
  again_fits : (txn : Txn) (ledger : State Cell) → Fits (again txn ledger live last)
  again_fits txn ledger =
      first_fits (record txn { cells = cells_for txn ledger (to_settle txn ledger); settles = to_settle txn ledger; locks = no_locks; shown = nothing_shown })
      (next_lock txn.outs no_locks txn.size.n txn.size.q 0 live last)

  going_fits : (txn : Txn) (after : Then) (ledger : State Cell) → ThenFits after → Fits (going txn after ledger live last)
  going_fits txn (next.Answer r) ledger h = (tt, h)
  going_fits txn next.Again ledger h = again_fits txn ledger

  unlock_fits : (txn : Txn) (after : Then) (ledger : State Cell) → ThenFits after → Fits (unlock txn after ledger live last)
  unlock_fits txn after ledger h = cond_both (is_none (lowest (standing txn.locks live last))) _ _ Fits (λ e. going_fits (lost_noted txn live last) after ledger h) (λ e. (h, tt))

  redo_fits : (txn : Txn) (ledger : State Cell) → Fits (unlock txn next.Again ledger live last)
  redo_fits txn ledger = unlock_fits txn next.Again ledger tt

  fail_fits : (txn : Txn) (ledger : State Cell) → Fits (fail txn ledger live last)
  fail_fits txn ledger =
      cond_both (is_heal txn.job) (healing txn skip.Majority) (txn, reply.Io (io_of txn)) (λ (f : Txn × SetReply). Fits (unlock f.0 (next.Answer f.1) ledger live last))
      (λ e. unlock_fits (record txn { records = [] }) (next.Answer (heal_reply txn.records skip.Majority)) ledger (heal_fits txn.records skip.Majority))
      (λ e. unlock_fits txn (next.Answer (reply.Io (io_of txn))) ledger tt)

  -- ---- under the locks

  module _ (txn : Txn) (ledger : State Cell) where
    fetching_fits : (place : ℕ) (contents : List (Option Content)) (cell : Cell) (from : Option ℕ) → AreContents contents → Fits (fetching txn place contents cell from ledger live last)
    fetching_fits place contents cell None h = redo_fits txn ledger
    fetching_fits place contents cell (Some k) h = (h, tt)

    at_fits : (place : ℕ) (contents : List (Option Content)) (cell : Option Cell) → AreContents contents → Fits (fetch_at txn place contents cell ledger live last)
    at_fits place contents None h = unlock_fits txn (next.Answer (reply.Contents contents place)) ledger h
    at_fits place contents (Some cell) h = fetching_fits place contents cell (lowest (both (sound_on txn (length contents)) (alive txn))) h

    fetch_fits : (place : ℕ) (contents : List (Option Content)) → AreContents contents → Fits (fetch_next txn place contents ledger live last)
    fetch_fits place contents h =
        at_fits place (with_absent txn contents (length txn.cells - length contents)) (slice_get txn.cells (length (with_absent txn contents (length txn.cells - length contents))))
        (absent_fits txn contents (length txn.cells - length contents) h)

    read_fits : Fits (ready_to_read txn ledger live last)
    read_fits =
        cond_both (is_split_read txn 0 txn.cells) _ _ Fits (λ e. unlock_fits txn (next.Answer (reply.Io (io.Split txn.set (split_rows txn 0 txn.cells)))) ledger tt)
        (λ e. fetch_fits (length ledger.history) [] tt)

    mark_fits : FitsWith (marking txn ledger live last)
    mark_fits = cond_both (has_number ledger) _ _ FitsWith (λ e. (tt, tt)) (λ e. fail_fits txn ledger)

    all_fits : FitsWith (copied_all txn ledger live last)
    all_fits =
        cond_both (is_some txn.settles) _ _ FitsWith (λ e. redo_fits txn ledger)
        (λ e. cond_both (is_change txn.job) _ _ FitsWith (λ c. mark_fits)
        (λ c. cond_both (is_heal txn.job) _ _ FitsWith (λ h. unlock_fits (healed txn) (next.Answer (reply.Healed txn.records)) ledger tt) (λ h. redo_fits txn ledger)))

    by_fits : (t : Option Part × List Part) → FitsWith (copy_by txn t ledger live last)
    by_fits (None, parts) = all_fits
    by_fits (Some part, parts) = cond_both (has_source txn part) _ _ FitsWith (λ e. (tt, tt)) (λ e. redo_fits txn ledger)

    next_fits : (parts : List Part) → FitsWith (copy_next txn parts ledger live last)
    next_fits parts = by_fits (next_part txn parts)

    split_fits : Fits (split txn ledger live last)
    split_fits = unlock_fits txn (next.Answer (reply.Io (io.Split txn.set (rows_listed txn.shown txn.bricks 0 txn.cells)))) ledger tt

    skip_fits : (cause : SkipCause) → Fits (skipping txn cause ledger live last)
    unfolding skipping
    skip_fits cause = unlock_fits (healed txn) (next.Answer (heal_reply txn.records cause)) ledger (heal_fits txn.records cause)

    source_fits : (change : ℕ) (source : Option ℕ) → Fits (settle_by txn change source ledger live last)
    source_fits change None = split_fits
    source_fits change (Some source) = (tt, tt)

    bear_fits : (op : Option StoreOp) → Fits (bearing_by op txn ledger live last)
    bear_fits None = redo_fits txn ledger
    bear_fits (Some op) = (tt, tt)

    kind_fits : (k : Kind) → FitsWith (ready_by k txn ledger live last)
    kind_fits kind.Read = read_fits
    kind_fits kind.Change = cond_both (is_split txn 0 txn.cells) _ _ FitsWith (λ e. split_fits) (λ e. next_fits (all_parts txn))
    kind_fits kind.Birth = bear_fits (birth_op txn.job)
    kind_fits kind.Heal =
        cond_both (is_touched txn ledger) _ _ FitsWith (λ e. skip_fits skip.Unsettled)
        (λ e. cond_both (is_split txn 0 txn.cells) _ _ FitsWith (λ s. skip_fits skip.Split) (λ s. next_fits (all_parts txn)))
    kind_fits (kind.Open fd gfid) = redo_fits txn ledger
    kind_fits kind.Index = redo_fits txn ledger

    for_fits : (settles : Option ℕ) → FitsWith (ready_for settles txn ledger live last)
    for_fits (Some change) = cond_both (is_some (numbered change ledger.unsettled)) _ _ Fits (λ e. source_fits change (lowest (common_of txn))) (λ e. redo_fits txn ledger)
    for_fits None = kind_fits (kind_of txn.job)

  step_fits : (txn : Txn) (t : Outs × LockStep) (ledger : State Cell) → FitsWith (lock_step txn t ledger live last)
  step_fits txn (outs, step.Ask k) ledger = (tt, tt)
  step_fits txn (outs, step.Short) ledger = fail_fits (record txn { outs = outs }) ledger
  step_fits txn (outs, step.Reached) ledger = for_fits (reached (record txn { outs = outs })) ledger txn.settles

  -- ---- answers

  module _ (txn : Txn) (k mark : ℕ) (rep : BrickRep) (ledger : State Cell) (within : IsRep true rep) where
    locked_fits : (rows : Option (List Row)) → FitsWith (lock_on (lock_taken txn k rows (is_fault rep) mark last) (k + 1) ledger live last)
    locked_fits None = step_fits (record txn { outs = left txn.outs k (is_fault rep) mark; wave = taken txn.wave k false }) (next_lock (left txn.outs k (is_fault rep) mark) txn.locks txn.size.n txn.size.q (k + 1) live last) ledger
    locked_fits (Some rows) = step_fits (record txn { locks = granted txn.locks k (slice_index last k); shown = with_rows txn.shown k rows; wave = taken txn.wave k true }) (next_lock txn.outs (granted txn.locks k (slice_index last k)) txn.size.n txn.size.q (k + 1) live last) ledger

    fetched_fits : (place : ℕ) (contents : List (Option Content)) (content : Option (Content × ℕ)) → AreContents contents → ContentFits content → Fits (fetch_taken txn place k contents content (is_fault rep) mark ledger live last)
    fetched_fits place contents (Some content) h one = fetch_fits (record txn { wave = taken txn.wave k true }) ledger place (contents ++ Some content.0 ∷ []) (one_fits contents (Some content.0) h (one, tt))
    fetched_fits place contents None h one =
        cond_both (is_short (left txn.outs k (is_fault rep) mark) txn.size.n txn.size.q) _ _ Fits (λ e. fail_fits (record txn { outs = left txn.outs k (is_fault rep) mark; wave = taken txn.wave k false }) ledger)
        (λ e. fetch_fits (record txn { outs = left txn.outs k (is_fault rep) mark; wave = taken txn.wave k false }) ledger place contents h)

    op_fits : (op : Option (ℕ × StoreOp)) (change : ℕ) → FitsWith (write_by op (hearing txn k rep mark) change ledger live last)
    op_fits None change = redo_fits (hearing txn k rep mark) ledger
    op_fits (Some op) change = cond_both (may_begin (hearing txn k rep mark) change ledger) _ _ FitsWith (λ e. (tt, tt)) (λ e. redo_fits (hearing txn k rep mark) ledger)

    marked_fits : (change : ℕ) → FitsWith (mark_answered (hearing txn k rep mark) change ledger live last)
    marked_fits change =
        cond_both (not (is_over (taken txn.wave k (is_plain_done rep)))) _ _ FitsWith (λ e. (tt, tt))
        (λ e. cond_both (is_short (hearing txn k rep mark).outs txn.size.n txn.size.q) _ _ FitsWith (λ s. fail_fits (hearing txn k rep mark) ledger) (λ s. op_fits (change_op txn.job) change))

    written_fits : (change : ℕ) → Fits (write_answered (hearing txn k rep mark) change ledger live last)
    written_fits change =
        cond_both (not (is_over (taken txn.wave k (is_plain_done rep)))) _ _ Fits (λ e. (tt, tt))
        (λ e. cond_both (is_short (hearing txn k rep mark).outs txn.size.n txn.size.q) _ _ Fits (λ s. fail_fits (hearing txn k rep mark) ledger) (λ s. (tt, tt)))

    ended_fits : (adopted : Option Adopted) (after : State Cell) → Fits (post_ended (hearing txn k rep mark) adopted after live last)
    ended_fits None after = fail_fits (hearing txn k rep mark) after
    ended_fits (Some adopted) after = unlock_fits (hearing txn k rep mark) (next.Answer (reply.Decided adopted.entry)) after tt

    posted_fits : (change : ℕ) (adopted : Option Adopted) → FitsWith (post_answered (hearing txn k rep mark) change adopted ledger live last)
    posted_fits change adopted =
        cond_both (is_over (taken txn.wave k (is_plain_done rep))) _ _ FitsWith
        (λ e. ended_fits (post_decided (hearing txn k rep mark) change adopted ledger).0 (post_decided (hearing txn k rep mark) change adopted ledger).1) (λ e. (tt, tt))

    settled_fits : (verdict : Verdict) → FitsWith (settle_answered (hearing txn k rep mark) verdict ledger live last)
    settled_fits verdict =
        cond_both (not (is_over (taken txn.wave k (is_plain_done rep)))) _ _ FitsWith (λ e. (tt, tt))
        (λ e. cond_both (settle_decided (hearing txn k rep mark) verdict ledger).0 _ _ FitsWith
        (λ d. next_fits (hearing txn k rep mark) (settle_decided (hearing txn k rep mark) verdict ledger).1 (settle_parts (hearing txn k rep mark) verdict.group))
        (λ d. fail_fits (hearing txn k rep mark) (settle_decided (hearing txn k rep mark) verdict ledger).1))

    born_fits : Fits (birth_answered (hearing txn k rep mark) ledger live last)
    born_fits =
        cond_both (not (is_over (taken txn.wave k (is_plain_done rep)))) _ _ Fits (λ e. (tt, tt))
        (λ e. cond_both (is_short (hearing txn k rep mark).outs txn.size.n txn.size.q) _ _ Fits (λ s. fail_fits (hearing txn k rep mark) ledger)
        (λ s. unlock_fits (hearing txn k rep mark) (next.Answer (reply.Decided None)) ledger tt))

    released_fits : (after : Then) → ThenFits after → Fits (unlock_answered (hearing txn k rep mark) after ledger live last)
    released_fits after h = cond_both (not (is_over (taken txn.wave k (is_plain_done rep)))) _ _ Fits (λ e. (h, tt)) (λ e. going_fits (hearing txn k rep mark) after ledger h)

    opened_fits : Fits (open_answered (hearing txn k rep mark))
    opened_fits =
        cond_both (not (is_over (taken txn.wave k (is_plain_done rep)))) _ _ Fits (λ e. (tt, tt))
        (λ e. cond_both (is_short (hearing txn k rep mark).outs txn.size.n txn.size.q) _ _ Fits (λ s. (tt, tt)) (λ s. (tt, tt)))

    taken_fits : (cells : Option (List Cell)) (all : List Cell) → CellsFit cells → Each IsCell all → Each IsCell (list_taken txn k cells (is_fault rep) mark all).1
    taken_fits None all c h = h
    taken_fits (Some cells) all c h = listed_cells_fit all cells h c

    listed_fits : (all : List Cell) → Each IsCell all → Fits (list_answered txn k rep mark all)
    listed_fits all h =
        let more : Each IsCell (list_taken txn k (cells_in rep) (is_fault rep) mark all).1 = taken_fits (cells_in rep) all (cells_fit rep within) h in
        cond_both (not (is_over (list_taken txn k (cells_in rep) (is_fault rep) mark all).0.wave)) _ _ Fits (λ e. (more, tt)) (λ e. (tt, more))

    phase_fits : (p : Phase) → AnswersIn p → FitsWith (answered_in p txn k rep mark ledger live last)
    phase_fits (phase.Locking at) h = locked_fits (rows_in rep (length txn.cells))
    phase_fits (phase.Unlocking after) h = released_fits after h
    phase_fits (phase.Fetching place from contents) h =
        fetched_fits place contents (content_in rep (aspect_at (slice_get txn.cells (length contents)))) h (content_fits rep (aspect_at (slice_get txn.cells (length contents))) within)
    phase_fits (phase.Copying sinks parts) h = (tt, tt)
    phase_fits (phase.Marking change) h = marked_fits change
    phase_fits (phase.Writing change) h = written_fits change
    phase_fits (phase.Posting change adopted) h = posted_fits change adopted
    phase_fits (phase.Settling verdict) h = settled_fits verdict
    phase_fits phase.Bearing h = born_fits
    phase_fits phase.Opening h = opened_fits
    phase_fits (phase.Listing all) h = listed_fits all h
    phase_fits phase.Over h = (tt, tt)

  -- ---- a copy that is done, and the begin

  noted_fits : (after : Txn) (sinks : List Bool) (parts : List Part) (current : Mask) (ledger : State Cell)
      → FitsWith (cond (is_short after.outs after.size.n after.size.q) (kept (fail after ledger live last) ledger) (cond (is_left after sinks current) (kept (unlock after next.Again ledger live last) ledger) (copy_next after parts ledger live last)))
  noted_fits after sinks parts current ledger =
      cond_both (is_short after.outs after.size.n after.size.q) _ _ FitsWith (λ e. fail_fits after ledger)
      (λ e. cond_both (is_left after sinks current) _ _ FitsWith (λ l. redo_fits after ledger) (λ l. next_fits after ledger parts))

  copied_fits : (p : Phase) (txn : Txn) (done : CopyDone) (ledger : State Cell) → AnswersIn p → FitsWith (copied_in p txn done ledger live last)
  copied_fits (phase.Copying sinks parts) txn done ledger h = noted_fits (copy_noted txn done) sinks parts done.current ledger
  copied_fits (phase.Locking at) txn done ledger h = (h, tt)
  copied_fits (phase.Unlocking after) txn done ledger h = (h, tt)
  copied_fits (phase.Fetching place from contents) txn done ledger h = (h, tt)
  copied_fits (phase.Marking change) txn done ledger h = (h, tt)
  copied_fits (phase.Writing change) txn done ledger h = (h, tt)
  copied_fits (phase.Posting change adopted) txn done ledger h = (h, tt)
  copied_fits (phase.Settling verdict) txn done ledger h = (h, tt)
  copied_fits phase.Bearing txn done ledger h = (h, tt)
  copied_fits phase.Opening txn done ledger h = (h, tt)
  copied_fits (phase.Listing all) txn done ledger h = (h, tt)
  copied_fits phase.Over txn done ledger h = (h, tt)

pub begins_reply : BeginsReply
begins_reply size set call (job.Read cells fd dir) ledger live last = again_fits live last (fresh size set call (job.Read cells fd dir)) ledger
begins_reply size set call (job.Change cells fd op effect) ledger live last = again_fits live last (fresh size set call (job.Change cells fd op effect)) ledger
begins_reply size set call (job.Birth cells op) ledger live last = again_fits live last (fresh size set call (job.Birth cells op)) ledger
begins_reply size set call (job.Heal cell) ledger live last = again_fits live last (fresh size set call (job.Heal cell)) ledger
begins_reply size set call (job.Open fd gfid) ledger live last =
    let txn : Txn = polled (fresh size set call (job.Open fd gfid)) live last in
    cond_both (is_none (lowest (alive txn))) _ _ Fits (λ e. cond_both (is_short txn.outs txn.size.n txn.size.q) _ _ Fits (λ s. (tt, tt)) (λ s. (tt, tt))) (λ e. (tt, tt))
begins_reply size set call job.Index ledger live last = cond_both (is_none (lowest (alive (polled (fresh size set call job.Index) live last)))) _ _ Fits (λ e. (tt, tt)) (λ e. (tt, tt))

pub answers_reply : AnswersReply
answers_reply txn k mark rep ledger live last h within = phase_fits live last (idle txn) k mark rep ledger within txn.phase h

pub copies_reply : CopiesReply
copies_reply txn done ledger live last h = copied_fits live last txn.phase (idle txn) done ledger h
