-- Every turn keeps the bounds of a transaction's values.
use Rattle.std.proofs.Common.{◌≡◌, ℕ, ◌+◌, ◌-◌, ◌⊎◌, inl, inr, Bool, true, false, not, cond, List, [], ◌∷◌, ◌++◌, Option, Some, None, is_none, is_some, refl, sym, subst, arith}
use Rattle.std.specs.Prelude.{◌^◌, length, slice_get, slice_index}
use Rattle.std.proofs.lemmas.Bool.{cond_both, ltb-true}
use Rattle.fop_types.specs.Bounds.{Each, AreFew, IsHyper}
use Rattle.fop_types.specs.declared.answers.IoError.TheVariants as io
use Rattle.fop_types.specs.declared.causes.SkipCause.{SkipCause}
use Rattle.fop_types.specs.declared.causes.SkipCause.TheVariants as skip
use Rattle.fop_types.specs.declared.cells.Cell.{Cell}
use Rattle.fop_types.specs.declared.contents.Content.{Content}
use Rattle.fop_types.specs.declared.contents.Mask.{Mask}
use Rattle.fop_types.specs.declared.contents.Row.{Row}
use Rattle.fop_types.specs.declared.copy_jobs.CopyDone.{CopyDone}
use Rattle.fop_types.specs.declared.jobs.Job.TheVariants as job
use Rattle.fop_types.specs.declared.jobs.SetReply.{SetReply}
use Rattle.fop_types.specs.declared.jobs.SetReply.TheVariants as reply
use Rattle.fop_types.specs.declared.messages.BrickRep.{BrickRep}
use Rattle.fop_types.specs.declared.store_ops.StoreOp.{StoreOp}
use Rattle.afr_ledger.specs.Changes.{numbered}
use Rattle.afr_ledger.specs.Ledger.{State, with_number}
use Rattle.afr_ledger.specs.declared.unsettled.Unsettled.{Unsettled}
use Rattle.afr_phases.specs.declared.locking.LockStep.{LockStep}
use Rattle.afr_phases.specs.declared.locking.LockStep.TheVariants as step
use Rattle.afr_phases.specs.declared.outs.Outs.{Outs}
use Rattle.afr_phases.specs.declared.wave.Wave.{Wave}
use Rattle.afr_phases.specs.Answers.{is_fault, is_plain_done, rows_in, content_in, cells_in}
use Rattle.afr_phases.specs.Locking.{next_lock}
use Rattle.afr_phases.specs.Flags.{lowest, both}
use Rattle.afr_phases.specs.Locks.{no_locks, granted, standing}
use Rattle.afr_phases.specs.Outs.{left, is_short}
use Rattle.afr_phases.specs.Shown.{nothing_shown, with_rows, rows_listed}
use Rattle.afr_phases.specs.Waves.{is_over, taken}
use Rattle.afr_transaction.specs.declared.jobs.Kind.{Kind}
use Rattle.afr_transaction.specs.declared.jobs.Kind.TheVariants as kind
use Rattle.afr_transaction.specs.declared.need.Need.{Need}
use Rattle.afr_transaction.specs.declared.phase.Adopted.{Adopted}
use Rattle.afr_transaction.specs.declared.phase.Part.{Part}
use Rattle.afr_transaction.specs.declared.phase.Phase.{Phase}
use Rattle.afr_transaction.specs.declared.phase.Phase.TheVariants as phase
use Rattle.afr_transaction.specs.declared.phase.Then.{Then}
use Rattle.afr_transaction.specs.declared.phase.Then.TheVariants as next
use Rattle.afr_transaction.specs.declared.phase.Verdict.{Verdict}
use Rattle.afr_transaction.specs.declared.txn.Txn.{Txn}
use Rattle.afr_transaction.specs.Answers.{lock_step, lock_on, hearing, write_by, mark_answered, write_answered, post_ended, post_answered, settle_answered, birth_answered, unlock_answered, open_answered, list_taken, list_answered, aspect_at, answered_in, answered, copied_in, copied, idle}
use Rattle.afr_transaction.specs.Begins.{fresh}
use Rattle.afr_transaction.specs.Changes.{has_number, may_begin, decides, marking, post_decided, unsettled_of}
use Rattle.afr_transaction.specs.Copied.{healed, is_change, copied_all, copy_by, copy_next}
use Rattle.afr_transaction.specs.Copies.{has_sink, has_source, next_part, with_outs, is_left}
use Rattle.afr_transaction.specs.Encodings.{HaveFew, IsPart, TakesLocks, IsLocked, BoundsIn, IsOwn, HasBounds, Bounds, BeginsBound, AnswersBound, CopiesBound, AnswersLeaveFew, CopiesLeaveFew}
use Rattle.afr_transaction.specs.Jobs.{kind_of, birth_op, change_op}
use Rattle.afr_transaction.specs.Locked.{to_settle, cells_for, first_step, again, going, lost_noted, unlock, fail, lock_taken, reached}
use Rattle.afr_transaction.specs.Moves.{IsMove, Stays, Draws, Begins, Decides}
use Rattle.afr_transaction.specs.Parts.{common_of, is_split, all_parts}
use Rattle.afr_transaction.specs.Polls.{polled}
use Rattle.afr_transaction.specs.Reads.{sound_on, is_split_read, split_rows, with_absent, fetching, fetch_at, fetch_next, fetch_taken, ready_to_read}
use Rattle.afr_transaction.specs.Ready.{split, skipping, is_touched, settle_by, bearing_by, ready_by, ready_for}
use Rattle.afr_transaction.specs.Settles.{verdict_by, settle_decided, settle_parts}
use Rattle.afr_transaction.specs.Txns.{alive, over, heal_reply, healing, ending, io_of, is_heal, kept}
use Rattle.afr_transaction.proofs.Encodings.{in_idle}
use Rattle.afr_transaction.proofs.CopyParts.{parts_fit, outside_apart, copy_fits}
use Rattle.afr_transaction.proofs.Moves.{answers_move, copies_draw}
use Rattle.afr_transaction.proofs.FewCells.{FewIn, cells_few, few_with, few_without}

-- a turn, and one with its ledger
abbrev Kept : Txn × Need → Type 0
Kept t = Bounds t.0 t.1

abbrev KeptWith : Txn × (Need × State Cell) → Type 0
KeptWith t = Bounds t.0 t.1.0

ending_kept : (txn : Txn) → IsOwn txn → Kept (ending txn)
ending_kept txn own = cond_both (is_heal txn.job) (healing txn skip.Majority) (txn, reply.Io (io_of txn)) (λ (f : Txn × SetReply). Kept (over f.0 f.1)) (λ e. ((own, tt), tt)) (λ e. ((own, tt), tt))

first_kept : (txn : Txn) (t : Outs × LockStep) → IsOwn txn → IsLocked txn → Kept (first_step txn t)
first_kept txn (outs, step.Ask k) own few = ((own, few), tt)
first_kept txn (outs, step.Short) own few = ending_kept (record txn { outs = outs }) own
first_kept txn (outs, step.Reached) own few = ending_kept (record txn { outs = outs }) own

-- the next part that has a sink left, and those after it
abbrev NextFits : Option Part × List Part → Type 0
NextFits (None, parts) = Unit {0}
NextFits (Some part, parts) = IsPart part × Each IsPart parts

next_fits : (txn : Txn) (parts : List Part) → Each IsPart parts → NextFits (next_part txn parts)
next_fits txn [] fits = tt
next_fits txn (part ∷ parts) fits = cond_both (has_sink txn part) (Some part, parts) (next_part txn parts) NextFits (λ e. fits) (λ e. next_fits txn parts fits.1)

module _ (live : Mask) (last : List ℕ) where
  again_kept : (txn : Txn) (ledger : State Cell) → IsOwn txn → TakesLocks txn.job → FewIn ledger.unsettled → Kept (again txn ledger live last)
  again_kept txn ledger own takes few =
      first_kept (record txn { cells = cells_for txn ledger (to_settle txn ledger); settles = to_settle txn ledger; locks = no_locks; shown = nothing_shown })
      (next_lock txn.outs no_locks txn.size.n txn.size.q 0 live last) own (takes, cells_few txn ledger (to_settle txn ledger) refl own.0 takes few)

  answer_kept : (txn : Txn) (r : SetReply) (ledger : State Cell) → IsOwn txn → TakesLocks txn.job → Kept (unlock txn (next.Answer r) ledger live last)
  answer_kept txn r ledger own takes = cond_both (is_none (lowest (standing txn.locks live last))) _ _ Kept (λ e. ((own, tt), tt)) (λ e. ((own, takes), tt))

  redo_kept : (txn : Txn) (ledger : State Cell) → IsOwn txn → TakesLocks txn.job → FewIn ledger.unsettled → Kept (unlock txn next.Again ledger live last)
  redo_kept txn ledger own takes few = cond_both (is_none (lowest (standing txn.locks live last))) _ _ Kept (λ e. again_kept (lost_noted txn live last) ledger own takes few) (λ e. ((own, takes), tt))

  going_kept : (txn : Txn) (after : Then) (ledger : State Cell) → IsOwn txn → TakesLocks txn.job → FewIn ledger.unsettled → Kept (going txn after ledger live last)
  going_kept txn (next.Answer r) ledger own takes few = ((own, tt), tt)
  going_kept txn next.Again ledger own takes few = again_kept txn ledger own takes few

  fail_kept : (txn : Txn) (ledger : State Cell) → IsOwn txn → TakesLocks txn.job → Kept (fail txn ledger live last)
  fail_kept txn ledger own takes =
      cond_both (is_heal txn.job) (healing txn skip.Majority) (txn, reply.Io (io_of txn)) (λ (f : Txn × SetReply). Kept (unlock f.0 (next.Answer f.1) ledger live last))
      (λ e. answer_kept (record txn { records = [] }) (healing txn skip.Majority).1 ledger own takes) (λ e. answer_kept txn (reply.Io (io_of txn)) ledger own takes)

  -- ---- under the locks

  module _ (txn : Txn) (ledger : State Cell) (own : IsOwn txn) (few : FewIn ledger.unsettled) (locked : IsLocked txn) where
    fetching_kept : (place : ℕ) (contents : List (Option Content)) (cell : Cell) (from : Option ℕ) → Kept (fetching txn place contents cell from ledger live last)
    fetching_kept place contents cell None = redo_kept txn ledger own locked.0 few
    fetching_kept place contents cell (Some k) = ((own, locked), tt)

    at_kept : (place : ℕ) (contents : List (Option Content)) (cell : Option Cell) → Kept (fetch_at txn place contents cell ledger live last)
    at_kept place contents None = answer_kept txn (reply.Contents contents place) ledger own locked.0
    at_kept place contents (Some cell) = fetching_kept place contents cell (lowest (both (sound_on txn (length contents)) (alive txn)))

    fetch_kept : (place : ℕ) (contents : List (Option Content)) → Kept (fetch_next txn place contents ledger live last)
    fetch_kept place contents = at_kept place (with_absent txn contents (length txn.cells - length contents)) (slice_get txn.cells (length (with_absent txn contents (length txn.cells - length contents))))

    read_kept : Kept (ready_to_read txn ledger live last)
    read_kept =
        cond_both (is_split_read txn 0 txn.cells) _ _ Kept (λ e. answer_kept txn (reply.Io (io.Split txn.set (split_rows txn 0 txn.cells))) ledger own locked.0)
        (λ e. fetch_kept (length ledger.history) [])

    number_kept : has_number ledger ≡ true → IsHyper (ledger.drawn + 1)
    number_kept h = omega (arith, ltb-true ledger.drawn (2 ^ 64 - 1) h)

    mark_kept : KeptWith (marking txn ledger live last)
    mark_kept = cond_both (has_number ledger) _ _ KeptWith (λ e. ((own, (locked, number_kept e)), tt)) (λ e. fail_kept txn ledger own locked.0)

    all_kept : KeptWith (copied_all txn ledger live last)
    all_kept =
        cond_both (is_some txn.settles) _ _ KeptWith (λ e. redo_kept txn ledger own locked.0 few)
        (λ e. cond_both (is_change txn.job) _ _ KeptWith (λ c. mark_kept)
        (λ c. cond_both (is_heal txn.job) _ _ KeptWith (λ h. answer_kept (healed txn) (reply.Healed txn.records) ledger own locked.0) (λ h. redo_kept txn ledger own locked.0 few)))

    by_kept : (t : Option Part × List Part) → NextFits t → KeptWith (copy_by txn t ledger live last)
    by_kept (None, parts) fits = all_kept
    by_kept (Some part, parts) fits =
        cond_both (has_source txn part) _ _ KeptWith (λ e. ((own, (locked, fits.1)), copy_fits txn part fits.0)) (λ e. redo_kept txn ledger own locked.0 few)

    next_kept : (parts : List Part) → Each IsPart parts → KeptWith (copy_next txn parts ledger live last)
    next_kept parts fits = by_kept (next_part txn parts) (next_fits txn parts fits)

    split_kept : Kept (split txn ledger live last)
    split_kept = answer_kept txn (reply.Io (io.Split txn.set (rows_listed txn.shown txn.bricks 0 txn.cells))) ledger own locked.0

    skip_kept : (cause : SkipCause) → Kept (skipping txn cause ledger live last)
    unfolding skipping
    skip_kept cause = answer_kept (healed txn) (heal_reply txn.records cause) ledger own locked.0

    source_kept : (change : ℕ) (source : Option ℕ) → Kept (settle_by txn change source ledger live last)
    source_kept change None = split_kept
    source_kept change (Some source) = ((own, locked), tt)

    bear_kept : (op : Option StoreOp) → Kept (bearing_by op txn ledger live last)
    bear_kept None = redo_kept txn ledger own locked.0 few
    bear_kept (Some op) = ((own, locked), tt)

    kind_kept : (k : Kind) → KeptWith (ready_by k txn ledger live last)
    kind_kept kind.Read = read_kept
    kind_kept kind.Change = cond_both (is_split txn 0 txn.cells) _ _ KeptWith (λ e. split_kept) (λ e. next_kept (all_parts txn) (parts_fit txn locked.1))
    kind_kept kind.Birth = bear_kept (birth_op txn.job)
    kind_kept kind.Heal =
        cond_both (is_touched txn ledger) _ _ KeptWith (λ e. skip_kept skip.Unsettled)
        (λ e. cond_both (is_split txn 0 txn.cells) _ _ KeptWith (λ s. skip_kept skip.Split) (λ s. next_kept (all_parts txn) (parts_fit txn locked.1)))
    kind_kept (kind.Open fd gfid) = redo_kept txn ledger own locked.0 few
    kind_kept kind.Index = redo_kept txn ledger own locked.0 few

    for_kept : (settles : Option ℕ) → KeptWith (ready_for settles txn ledger live last)
    for_kept (Some change) = cond_both (is_some (numbered change ledger.unsettled)) _ _ Kept (λ e. source_kept change (lowest (common_of txn))) (λ e. redo_kept txn ledger own locked.0 few)
    for_kept None = kind_kept (kind_of txn.job)

  step_kept : (txn : Txn) (t : Outs × LockStep) (ledger : State Cell) → IsOwn txn → FewIn ledger.unsettled → IsLocked txn → KeptWith (lock_step txn t ledger live last)
  step_kept txn (outs, step.Ask k) ledger own few locked = ((own, locked), tt)
  step_kept txn (outs, step.Short) ledger own few locked = fail_kept (record txn { outs = outs }) ledger own locked.0
  step_kept txn (outs, step.Reached) ledger own few locked = for_kept (reached (record txn { outs = outs })) ledger own few locked txn.settles

  -- ---- answers

  module _ (txn : Txn) (k mark : ℕ) (rep : BrickRep) (ledger : State Cell) (own : IsOwn txn) (few : FewIn ledger.unsettled) where
    locked_kept : (rows : Option (List Row)) → IsLocked txn → KeptWith (lock_on (lock_taken txn k rows (is_fault rep) mark last) (k + 1) ledger live last)
    locked_kept None locked = step_kept (record txn { outs = left txn.outs k (is_fault rep) mark; wave = taken txn.wave k false }) (next_lock (left txn.outs k (is_fault rep) mark) txn.locks txn.size.n txn.size.q (k + 1) live last) ledger own few locked
    locked_kept (Some rows) locked = step_kept (record txn { locks = granted txn.locks k (slice_index last k); shown = with_rows txn.shown k rows; wave = taken txn.wave k true }) (next_lock txn.outs (granted txn.locks k (slice_index last k)) txn.size.n txn.size.q (k + 1) live last) ledger own few locked

    fetched_kept : (place : ℕ) (contents : List (Option Content)) (content : Option (Content × ℕ)) → IsLocked txn → Kept (fetch_taken txn place k contents content (is_fault rep) mark ledger live last)
    fetched_kept place contents (Some content) locked = fetch_kept (record txn { wave = taken txn.wave k true }) ledger own few locked place (contents ++ Some content.0 ∷ [])
    fetched_kept place contents None locked =
        cond_both (is_short (left txn.outs k (is_fault rep) mark) txn.size.n txn.size.q) _ _ Kept (λ e. fail_kept (record txn { outs = left txn.outs k (is_fault rep) mark; wave = taken txn.wave k false }) ledger own locked.0)
        (λ e. fetch_kept (record txn { outs = left txn.outs k (is_fault rep) mark; wave = taken txn.wave k false }) ledger own few locked place contents)

    op_kept : (op : Option (ℕ × StoreOp)) (change : ℕ) → IsLocked txn → IsHyper change → KeptWith (write_by op (hearing txn k rep mark) change ledger live last)
    op_kept None change locked hyper = redo_kept (hearing txn k rep mark) ledger own locked.0 few
    op_kept (Some op) change locked hyper = cond_both (may_begin (hearing txn k rep mark) change ledger) _ _ KeptWith (λ e. ((own, (locked, hyper)), tt)) (λ e. redo_kept (hearing txn k rep mark) ledger own locked.0 few)

    marked_kept : (change : ℕ) → IsLocked txn → IsHyper change → KeptWith (mark_answered (hearing txn k rep mark) change ledger live last)
    marked_kept change locked hyper =
        cond_both (not (is_over (taken txn.wave k (is_plain_done rep)))) _ _ KeptWith (λ e. ((own, (locked, hyper)), tt))
        (λ e. cond_both (is_short (hearing txn k rep mark).outs txn.size.n txn.size.q) _ _ KeptWith (λ s. fail_kept (hearing txn k rep mark) ledger own locked.0) (λ s. op_kept (change_op txn.job) change locked hyper))

    written_kept : (change : ℕ) → IsLocked txn → IsHyper change → Kept (write_answered (hearing txn k rep mark) change ledger live last)
    written_kept change locked hyper =
        cond_both (not (is_over (taken txn.wave k (is_plain_done rep)))) _ _ Kept (λ e. ((own, (locked, hyper)), tt))
        (λ e. cond_both (is_short (hearing txn k rep mark).outs txn.size.n txn.size.q) _ _ Kept (λ s. fail_kept (hearing txn k rep mark) ledger own locked.0) (λ s. ((own, (locked, hyper)), tt)))

    ended_kept : (adopted : Option Adopted) (after : State Cell) → TakesLocks txn.job → Kept (post_ended (hearing txn k rep mark) adopted after live last)
    ended_kept None after takes = fail_kept (hearing txn k rep mark) after own takes
    ended_kept (Some adopted) after takes = answer_kept (hearing txn k rep mark) (reply.Decided adopted.entry) after own takes

    posted_kept : (change : ℕ) (adopted : Option Adopted) → IsLocked txn → IsHyper change → KeptWith (post_answered (hearing txn k rep mark) change adopted ledger live last)
    posted_kept change adopted locked hyper =
        cond_both (is_over (taken txn.wave k (is_plain_done rep))) _ _ KeptWith
        (λ e. ended_kept (post_decided (hearing txn k rep mark) change adopted ledger).0 (post_decided (hearing txn k rep mark) change adopted ledger).1 locked.0) (λ e. ((own, (locked, hyper)), tt))

    verdict_few : (u : Option (Unsettled Cell)) (change : ℕ) (held : Bool) → FewIn (verdict_by u change held ledger).unsettled
    verdict_few None change held = few
    verdict_few (Some u) change held = few_without change ledger.unsettled few

    decided_few : (verdict : Verdict) → FewIn (settle_decided (hearing txn k rep mark) verdict ledger).1.unsettled
    decided_few verdict =
        cond_both verdict.decided _ _ (λ (d : Bool × State Cell). FewIn d.1.unsettled) (λ e. few)
        (λ e. cond_both (decides (hearing txn k rep mark) ledger) _ _ (λ (d : Bool × State Cell). FewIn d.1.unsettled) (λ h. verdict_few (numbered verdict.change ledger.unsettled) verdict.change verdict.held) (λ h. few))

    settled_kept : (verdict : Verdict) → IsLocked txn → KeptWith (settle_answered (hearing txn k rep mark) verdict ledger live last)
    settled_kept verdict locked =
        cond_both (not (is_over (taken txn.wave k (is_plain_done rep)))) _ _ KeptWith (λ e. ((own, locked), tt))
        (λ e. cond_both (settle_decided (hearing txn k rep mark) verdict ledger).0 _ _ KeptWith
        (λ d. next_kept (hearing txn k rep mark) (settle_decided (hearing txn k rep mark) verdict ledger).1 own (decided_few verdict) locked (settle_parts (hearing txn k rep mark) verdict.group) (record { few = locked.1; apart = outside_apart txn.shown.reached verdict.group }, tt))
        (λ d. fail_kept (hearing txn k rep mark) (settle_decided (hearing txn k rep mark) verdict ledger).1 own locked.0))

    born_kept : IsLocked txn → Kept (birth_answered (hearing txn k rep mark) ledger live last)
    born_kept locked =
        cond_both (not (is_over (taken txn.wave k (is_plain_done rep)))) _ _ Kept (λ e. ((own, locked), tt))
        (λ e. cond_both (is_short (hearing txn k rep mark).outs txn.size.n txn.size.q) _ _ Kept (λ s. fail_kept (hearing txn k rep mark) ledger own locked.0) (λ s. answer_kept (hearing txn k rep mark) (reply.Decided None) ledger own locked.0))

    released_kept : (after : Then) → TakesLocks txn.job → Kept (unlock_answered (hearing txn k rep mark) after ledger live last)
    released_kept after takes = cond_both (not (is_over (taken txn.wave k (is_plain_done rep)))) _ _ Kept (λ e. ((own, takes), tt)) (λ e. going_kept (hearing txn k rep mark) after ledger own takes few)

    opened_kept : Kept (open_answered (hearing txn k rep mark))
    opened_kept =
        cond_both (not (is_over (taken txn.wave k (is_plain_done rep)))) _ _ Kept (λ e. ((own, tt), tt))
        (λ e. cond_both (is_short (hearing txn k rep mark).outs txn.size.n txn.size.q) _ _ Kept (λ s. ((own, tt), tt)) (λ s. ((own, tt), tt)))

    taken_kept : (cells : Option (List Cell)) (all : List Cell) → IsOwn (list_taken txn k cells (is_fault rep) mark all).0
    taken_kept None all = own
    taken_kept (Some cells) all = own

    listed_kept : (all : List Cell) → Kept (list_answered txn k rep mark all)
    listed_kept all = cond_both (not (is_over (list_taken txn k (cells_in rep) (is_fault rep) mark all).0.wave)) _ _ Kept (λ e. ((taken_kept (cells_in rep) all, tt), tt)) (λ e. ((taken_kept (cells_in rep) all, tt), tt))

    phase_kept : (p : Phase) → BoundsIn p txn → KeptWith (answered_in p txn k rep mark ledger live last)
    phase_kept (phase.Locking at) b = locked_kept (rows_in rep (length txn.cells)) b
    phase_kept (phase.Unlocking after) b = released_kept after b
    phase_kept (phase.Fetching place from contents) b = fetched_kept place contents (content_in rep (aspect_at (slice_get txn.cells (length contents)))) b
    phase_kept (phase.Copying sinks parts) b = ((own, b), tt)
    phase_kept (phase.Marking change) b = marked_kept change b.0 b.1
    phase_kept (phase.Writing change) b = written_kept change b.0 b.1
    phase_kept (phase.Posting change adopted) b = posted_kept change adopted b.0 b.1
    phase_kept (phase.Settling verdict) b = settled_kept verdict b
    phase_kept phase.Bearing b = born_kept b
    phase_kept phase.Opening b = opened_kept
    phase_kept (phase.Listing all) b = listed_kept all
    phase_kept phase.Over b = ((own, tt), tt)

  -- ---- a copy that is done, and the begin

  noted_kept : (after : Txn) (sinks : List Bool) (parts : List Part) (current : Mask) (ledger : State Cell) → IsOwn after → FewIn ledger.unsettled → IsLocked after → Each IsPart parts
      → KeptWith (cond (is_short after.outs after.size.n after.size.q) (kept (fail after ledger live last) ledger) (cond (is_left after sinks current) (kept (unlock after next.Again ledger live last) ledger) (copy_next after parts ledger live last)))
  noted_kept after sinks parts current ledger own few locked fits =
      cond_both (is_short after.outs after.size.n after.size.q) _ _ KeptWith (λ e. fail_kept after ledger own locked.0)
      (λ e. cond_both (is_left after sinks current) _ _ KeptWith (λ l. redo_kept after ledger own locked.0 few) (λ l. next_kept after ledger own few locked parts fits))

  copied_kept : (p : Phase) (txn : Txn) (done : CopyDone) (ledger : State Cell) → IsOwn txn → FewIn ledger.unsettled → BoundsIn p txn → KeptWith (copied_in p txn done ledger live last)
  copied_kept (phase.Copying sinks parts) txn done ledger own few b =
      cond_both (is_heal txn.job) (record txn { outs = with_outs txn.size.n txn.outs done.outs; records = txn.records ++ done.records }) (record txn { outs = with_outs txn.size.n txn.outs done.outs })
      (λ (after : Txn). KeptWith (cond (is_short after.outs after.size.n after.size.q) (kept (fail after ledger live last) ledger) (cond (is_left after sinks done.current) (kept (unlock after next.Again ledger live last) ledger) (copy_next after parts ledger live last))))
      (λ e. noted_kept (record txn { outs = with_outs txn.size.n txn.outs done.outs; records = txn.records ++ done.records }) sinks parts done.current ledger own few b.0 b.1)
      (λ e. noted_kept (record txn { outs = with_outs txn.size.n txn.outs done.outs }) sinks parts done.current ledger own few b.0 b.1)
  copied_kept (phase.Locking at) txn done ledger own few b = ((own, b), tt)
  copied_kept (phase.Unlocking after) txn done ledger own few b = ((own, b), tt)
  copied_kept (phase.Fetching place from contents) txn done ledger own few b = ((own, b), tt)
  copied_kept (phase.Marking change) txn done ledger own few b = ((own, b), tt)
  copied_kept (phase.Writing change) txn done ledger own few b = ((own, b), tt)
  copied_kept (phase.Posting change adopted) txn done ledger own few b = ((own, b), tt)
  copied_kept (phase.Settling verdict) txn done ledger own few b = ((own, b), tt)
  copied_kept phase.Bearing txn done ledger own few b = ((own, b), tt)
  copied_kept phase.Opening txn done ledger own few b = ((own, b), tt)
  copied_kept (phase.Listing all) txn done ledger own few b = ((own, b), tt)
  copied_kept phase.Over txn done ledger own few b = ((own, b), tt)

pub begins_bound : BeginsBound
begins_bound size set call (job.Read cells fd dir) ledger live last j c few = again_kept live last (fresh size set call (job.Read cells fd dir)) ledger (j, c) tt few
begins_bound size set call (job.Change cells fd op effect) ledger live last j c few = again_kept live last (fresh size set call (job.Change cells fd op effect)) ledger (j, c) tt few
begins_bound size set call (job.Birth cells op) ledger live last j c few = again_kept live last (fresh size set call (job.Birth cells op)) ledger (j, c) tt few
begins_bound size set call (job.Heal cell) ledger live last j c few = again_kept live last (fresh size set call (job.Heal cell)) ledger (j, c) tt few
begins_bound size set call (job.Open fd gfid) ledger live last j c few =
    let txn : Txn = polled (fresh size set call (job.Open fd gfid)) live last in
    cond_both (is_none (lowest (alive txn))) _ _ Kept
    (λ e. cond_both (is_short txn.outs txn.size.n txn.size.q) _ _ Kept (λ s. (((j, c), tt), tt)) (λ s. (((j, c), tt), tt))) (λ e. (((j, c), tt), tt))
begins_bound size set call job.Index ledger live last j c few = cond_both (is_none (lowest (alive (polled (fresh size set call job.Index) live last)))) _ _ Kept (λ e. (((j, c), tt), tt)) (λ e. (((j, c), tt), tt))

pub answers_bound : AnswersBound
answers_bound txn k mark rep ledger live last bounds few = phase_kept live last (idle txn) k mark rep ledger bounds.0 few txn.phase (in_idle txn.phase txn bounds.1)

pub copies_bound : CopiesBound
copies_bound txn done ledger live last bounds few = copied_kept live last txn.phase (idle txn) done ledger bounds.0 few (in_idle txn.phase txn bounds.1)

move_few : (txn : Txn) (wave : Wave) (before after : State Cell) → HasBounds txn → HaveFew before → IsMove txn wave before after → HaveFew after
move_few txn wave before after bounds few (Stays same) = subst HaveFew (sym same) few
move_few txn wave before after bounds few (Draws same) = subst HaveFew (sym same) few
move_few txn wave before after bounds few (Begins change marks may same) =
    subst HaveFew (sym same) (few_with before.unsettled change (unsettled_of txn change) (in_mark txn.phase marks bounds.1) few)
  where
    in_mark : (p : Phase) → p ≡ phase.Marking change → BoundsIn p txn → AreFew txn.cells
    in_mark p is b = (subst (λ (x : Phase). BoundsIn x txn) is b).0.1
move_few txn wave before after bounds few (Decides change adopted may quorum same) = subst HaveFew (sym same) (few_without change before.unsettled few)

pub answers_few : AnswersLeaveFew
answers_few txn k mark rep ledger live last asking bounds few =
    move_few txn (taken txn.wave k (is_plain_done rep)) ledger (answered txn k rep mark ledger live last).1.1 bounds few (answers_move txn k mark rep ledger live last asking)

pub copies_few : CopiesLeaveFew
copies_few txn done ledger live last few = by (copies_draw txn done ledger live last) where
  by : ((copied txn done ledger live last).1.1 ≡ ledger) ⊎ ((copied txn done ledger live last).1.1 ≡ with_number ledger) → HaveFew (copied txn done ledger live last).1.1
  by (inl e) = subst HaveFew (sym e) few
  by (inr e) = subst HaveFew (sym e) few
