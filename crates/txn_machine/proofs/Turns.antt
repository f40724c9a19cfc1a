-- Every turn keeps what its requests rest on, and asks whom it may ask.
use Rattle.std.proofs.Common.{◌≡◌, ◌∙◌, ℕ, ◌+◌, ◌-◌, ◌<◌, Bool, true, false, ◌&&◌, ◌==◌, not, nat_lt, cond, List, [], ◌∷◌, ◌++◌, Option, Some, None, is_none, is_some, length, refl, sym, subst, arith}
use Rattle.std.specs.Prelude.{slice_get, slice_index}
use Rattle.std.proofs.lemmas.Bool.{cond_both, and_parts, eqb-true, true≢false}
use Rattle.std.proofs.lemmas.Cmp.{nat_cmp_total}
use Rattle.std.proofs.lemmas.Map.Lookups.{exact_unsigned}
use Rattle.std.specs.Ordering.{nat_cmp}
use Rattle.fop_types.specs.Bounds.{Each}
use Rattle.fop_types.specs.declared.answers.IoError.TheVariants as io
use Rattle.fop_types.specs.declared.causes.SkipCause.{SkipCause}
use Rattle.fop_types.specs.declared.causes.SkipCause.TheVariants as skip
use Rattle.fop_types.specs.declared.cells.Cell.{Cell}
use Rattle.fop_types.specs.declared.cells.Gfid.{Gfid}
use Rattle.fop_types.specs.declared.contents.Content.{Content}
use Rattle.fop_types.specs.declared.contents.Mask.{Mask}
use Rattle.fop_types.specs.declared.contents.Row.{Row}
use Rattle.fop_types.specs.declared.copy_jobs.CopyDone.{CopyDone}
use Rattle.fop_types.specs.declared.copy_jobs.Out.{Out}
use Rattle.fop_types.specs.declared.jobs.Job.{Job}
use Rattle.fop_types.specs.declared.jobs.SetPlan.{SetPlan}
use Rattle.fop_types.specs.declared.jobs.SetReply.{SetReply}
use Rattle.fop_types.specs.declared.jobs.SetReply.TheVariants as reply
use Rattle.fop_types.specs.declared.messages.BrickRep.{BrickRep}
use Rattle.fop_types.specs.declared.messages.BrickReq.{BrickReq}
use Rattle.fop_types.specs.declared.messages.BrickReq.TheVariants as req
use Rattle.fop_types.specs.declared.store_ops.StoreOp.{StoreOp}
use Rattle.fop_types.proofs.MapLemmas.{lookup-put_same}
use Rattle.afr_ledger.specs.Changes.{numbered}
use Rattle.afr_ledger.specs.Ledger.{State as Ledger, with_begun}
use Rattle.afr_phases.specs.declared.locking.LockStep.{LockStep}
use Rattle.afr_phases.specs.declared.locking.LockStep.TheVariants as step
use Rattle.afr_phases.specs.declared.outs.Outs.{Outs}
use Rattle.afr_phases.specs.declared.wave.Wave.{Wave}
use Rattle.afr_phases.specs.Answers.{is_fault, is_plain_done, rows_in, content_in, cells_in}
use Rattle.afr_phases.specs.Asked.{is_within, is_waiting, are_granted_within}
use Rattle.afr_phases.specs.Flags.{flag, flags_by, flags_of, names, lowest, both, mask_of, outside}
use Rattle.afr_phases.specs.Locking.{next_lock}
use Rattle.afr_phases.specs.Locks.{no_locks, granted, stands, standing}
use Rattle.afr_phases.specs.Outs.{is_out, is_short, left, used}
use Rattle.afr_phases.specs.Shown.{nothing_shown, with_rows, rows_listed}
use Rattle.afr_phases.specs.Tracked.{IsTracked}
use Rattle.afr_phases.specs.Waves.{is_asked, is_over, quiet, sent_to, taken}
use Rattle.afr_phases.proofs.Asked.{each_sent, within_at}
use Rattle.afr_phases.proofs.Reached.{are_kept}
use Rattle.afr_phases.proofs.Stays.{used_left, used_heard}
use Rattle.afr_phases.proofs.Tracked.{confirmed_are, heard_one, flag_by}
use Rattle.afr_phases.proofs.Truths.{flags_at, below_five, both_left, both_right, lowest_is}
use Rattle.afr_transaction.specs.declared.jobs.Kind.{Kind}
use Rattle.afr_transaction.specs.declared.jobs.Kind.TheVariants as kind
use Rattle.afr_transaction.specs.declared.need.Need.{Need}
use Rattle.afr_transaction.specs.declared.need.Need.TheVariants as need
use Rattle.afr_transaction.specs.declared.phase.Adopted.{Adopted}
use Rattle.afr_transaction.specs.declared.phase.Part.{Part}
use Rattle.afr_transaction.specs.declared.phase.Phase.{Phase}
use Rattle.afr_transaction.specs.declared.phase.Phase.TheVariants as phase
use Rattle.afr_transaction.specs.declared.phase.Then.{Then}
use Rattle.afr_transaction.specs.declared.phase.Then.TheVariants as next
use Rattle.afr_transaction.specs.declared.phase.Verdict.{Verdict}
use Rattle.afr_transaction.specs.declared.size.Size.{Size}
use Rattle.afr_transaction.specs.declared.txn.Txn.{Txn}
use Rattle.afr_transaction.specs.Answers.{lock_step, lock_on, hearing, waiting, write_by, mark_answered, write_answered, post_ended, post_answered, settle_step, settle_answered, birth_answered, unlock_answered, open_answered, list_taken, list_answered, aspect_at, answered_in, answered, copied_in, copied, idle}
use Rattle.afr_transaction.specs.Begins.{fresh, started_by, started}
use Rattle.afr_transaction.specs.Changes.{has_number, may_begin, marking, begun, drawing, posting, post_decided, unsettled_of}
use Rattle.afr_transaction.specs.Copied.{healed, is_change, copied_all, copy_by, copy_next, copy_taken}
use Rattle.afr_transaction.specs.Copies.{has_source, next_part, with_out, with_outs, is_left}
use Rattle.afr_transaction.specs.Jobs.{kind_of, birth_op, change_op}
use Rattle.afr_transaction.specs.Locked.{to_settle, cells_for, locking, first_step, again, going, lost_noted, releasing, unlock, fail, lock_taken, reached}
use Rattle.afr_transaction.specs.Parts.{common_of, is_split, all_parts}
use Rattle.afr_transaction.specs.Polls.{polled, opening, list_ended, listing}
use Rattle.afr_transaction.specs.Reads.{fd_of, sound_on, is_split_read, split_rows, with_absent, fetching, fetch_at, fetch_next, fetch_taken, ready_to_read}
use Rattle.afr_transaction.specs.Ready.{split, skipping, is_touched, ready_to_change, ready_to_heal, settle_by, bearing_by, ready_by, ready_for}
use Rattle.afr_transaction.specs.Requests.{Keeps, KeepsIn}
use Rattle.afr_transaction.specs.Settles.{has_it, group_of, settle_decided, settle_parts}
use Rattle.afr_transaction.specs.Shapes.{suits, are_copies, is_asking, is_copying}
use Rattle.afr_transaction.specs.Txns.{only, alive, asking, over, healing, ending, io_of, heal_reply, is_heal, kept}
use Rattle.txn_machine.specs.Works.{AreReached, WorksIn, Works}
use Rattle.txn_machine.proofs.LockSteps.{AsksLive, asks_live}

-- ---- who is asked

-- What is known of each that a phase asks when it begins: it is used, but for the release, which goes to whose lock is held;
-- it is connected, where no lock shows it; it is sound, where its content is fetched. An op is of a change that is unsettled
-- by then, and those who get a post are those who have confirmed the op.
abbrev pub AsksIn : Phase → Txn → Wave → Ledger Cell → Mask → List ℕ → ℕ → Type 0
AsksIn (phase.Locking at) txn wave ledger live last k = (flag (alive txn) k ≡ true) × (names live k ≡ true)
AsksIn (phase.Unlocking after) txn wave ledger live last k = stands txn.locks k live last ≡ true
AsksIn (phase.Fetching place from contents) txn wave ledger live last k = (flag (alive txn) k ≡ true) × (flag (sound_on txn (length contents)) k ≡ true)
AsksIn (phase.Copying sinks rest) txn wave ledger live last k = ⊥
AsksIn (phase.Marking change) txn wave ledger live last k = flag (alive txn) k ≡ true
AsksIn (phase.Writing change) txn wave ledger live last k = (flag (alive txn) k ≡ true) × (numbered change ledger.unsettled ≡ Some (unsettled_of txn change))
AsksIn (phase.Posting change adopted) txn wave ledger live last k = (flag (alive txn) k ≡ true) × ((j : ℕ) → j < 5 → flag (alive txn) j ≡ flag wave.confirmed j)
AsksIn (phase.Settling verdict) txn wave ledger live last k = flag (alive txn) k ≡ true
AsksIn phase.Bearing txn wave ledger live last k = flag (alive txn) k ≡ true
AsksIn phase.Opening txn wave ledger live last k = (flag (alive txn) k ≡ true) × (names live k ≡ true)
AsksIn (phase.Listing all) txn wave ledger live last k = (flag (alive txn) k ≡ true) × (names live k ≡ true)
AsksIn phase.Over txn wave ledger live last k = ⊥

abbrev pub Asks : Txn → Wave → Ledger Cell → Mask → List ℕ → ℕ → Type 0
Asks txn wave ledger live last k = (is_asked txn.wave k ≡ true) × AsksIn txn.phase txn wave ledger live last k

abbrev pub AreAsked : Txn → Need → Wave → Ledger Cell → Mask → List ℕ → Type 0
AreAsked txn (need.Send list) wave ledger live last = Each (λ (r : ℕ × BrickReq). Asks txn wave ledger live last r.0) list
AreAsked txn (need.Copy job rows) wave ledger live last = Unit {0}
AreAsked txn (need.Reply reply) wave ledger live last = Unit {0}
AreAsked txn need.Wait wave ledger live last = Unit {0}

none_from : (o : Option ℕ) → is_some o ≡ false → o ≡ None
none_from None e = refl
none_from (Some n) e = absurd (true≢false e)

-- who is used after these are out was used before
out_used : (n : ℕ) (outs : Outs) (out : Out) (k : ℕ) → flag (used (with_out n outs out) n) k ≡ true → flag (used outs n) k ≡ true
out_used n outs out k =
    cond_both (nat_lt out.replica n) (left outs out.replica out.fault out.mark) outs (λ (o : Outs). flag (used o n) k ≡ true → flag (used outs n) k ≡ true) (λ e. used_left n outs out.replica out.mark out.fault k) (λ e h. h)

outs_used : (n : ℕ) (outs : Outs) (list : List Out) (k : ℕ) → flag (used (with_outs n outs list) n) k ≡ true → flag (used outs n) k ≡ true
outs_used n outs [] k h = h
outs_used n outs (out ∷ list) k h = out_used n outs out k (outs_used n (with_out n outs out) list k h)

module _ (wave : Wave) (live : Mask) (last : List ℕ) where
  -- a turn that leaves this ledger, and one with its ledger
  abbrev pub Fits : Ledger Cell → Txn × Need → Type 0
  Fits ledger t = Works t.0 × AreAsked t.0 t.1 wave ledger live last

  abbrev pub FitsWith : Txn × (Need × Ledger Cell) → Type 0
  FitsWith t = Works t.0 × AreAsked t.0 t.1.0 wave t.1.1 live last

  sends_fit : (txn : Txn) (to : List Bool) (req : BrickReq) (p : Phase) (ledger : Ledger Cell) → WorksIn p (record txn { wave = sent_to to; phase = p })
      → ((j : ℕ) → flag to j ≡ true → AsksIn p (record txn { wave = sent_to to; phase = p }) wave ledger live last j) → Fits ledger (asking txn to req p)
  sends_fit txn to req p ledger works each =
      (works, each_sent (λ j r. Asks (record txn { wave = sent_to to; phase = p }) wave ledger live last j) to req (λ j f. (f, each j f)))

  -- one replica is asked
  sends_one : (txn : Txn) (k : ℕ) (req : BrickReq) (p : Phase) (ledger : Ledger Cell) → WorksIn p (record txn { wave = sent_to (only k); phase = p })
      → AsksIn p (record txn { wave = sent_to (only k); phase = p }) wave ledger live last k → Fits ledger (asking txn (only k) req p)
  sends_one txn k req p ledger works one =
      sends_fit txn (only k) req p ledger works
      (λ j f. subst (λ (i : ℕ). AsksIn p (record txn { wave = sent_to (only k); phase = p }) wave ledger live last i) (sym (eqb-true j k (flags_at (λ i. i == k) j f))) one)

  -- ---- the lock phase and the release

  locking_fits : (txn : Txn) (k : ℕ) (ledger : Ledger Cell) → (flag (alive txn) k ≡ true) × (names live k ≡ true) → Fits ledger (locking txn k)
  locking_fits txn k ledger is = sends_one txn k (req.Lock txn.call _ txn.cells) (phase.Locking k) ledger tt is

  ending_fits : (txn : Txn) (ledger : Ledger Cell) → Fits ledger (ending txn)
  ending_fits txn ledger =
      cond_both (is_heal txn.job) (healing txn skip.Majority) (txn, reply.Io (io_of txn)) (λ (f : Txn × SetReply). Fits ledger (over f.0 f.1)) (λ e. (tt, tt)) (λ e. (tt, tt))

  first_fits : (txn : Txn) (t : Outs × LockStep) (ledger : Ledger Cell) → AsksLive txn.size.n live t → Fits ledger (first_step txn t)
  first_fits txn (outs, step.Ask k) ledger is = locking_fits (record txn { outs = outs }) k ledger is
  first_fits txn (outs, step.Short) ledger is = ending_fits (record txn { outs = outs }) ledger
  first_fits txn (outs, step.Reached) ledger is = ending_fits (record txn { outs = outs }) ledger

  again_fits : (txn : Txn) (ledger : Ledger Cell) → Fits ledger (again txn ledger live last)
  again_fits txn ledger =
      first_fits (record txn { cells = cells_for txn ledger (to_settle txn ledger); settles = to_settle txn ledger; locks = no_locks; shown = nothing_shown })
      (next_lock txn.outs no_locks txn.size.n txn.size.q 0 live last) ledger (asks_live txn.size.n txn.size.q live last txn.size.few txn.outs no_locks 0)

  going_fits : (txn : Txn) (after : Then) (ledger : Ledger Cell) → Fits ledger (going txn after ledger live last)
  going_fits txn (next.Answer r) ledger = (tt, tt)
  going_fits txn next.Again ledger = again_fits txn ledger

  release_fits : (txn : Txn) (after : Then) (ledger : Ledger Cell) → Fits ledger (releasing txn after ledger live last)
  release_fits txn after ledger =
      cond_both (is_none (lowest (standing txn.locks live last))) _ _ (Fits ledger) (λ e. going_fits txn after ledger)
      (λ e. sends_fit txn (standing txn.locks live last) (req.Unlock txn.call) (phase.Unlocking after) ledger tt (λ j f. flags_at (λ k. stands txn.locks k live last) j f))

  unlock_fits : (txn : Txn) (after : Then) (ledger : Ledger Cell) → Fits ledger (unlock txn after ledger live last)
  unlock_fits txn after ledger = release_fits (lost_noted txn live last) after ledger

  fail_fits : (txn : Txn) (ledger : Ledger Cell) → Fits ledger (fail txn ledger live last)
  fail_fits txn ledger =
      cond_both (is_heal txn.job) (healing txn skip.Majority) (txn, reply.Io (io_of txn)) (λ (f : Txn × SetReply). Fits ledger (unlock f.0 (next.Answer f.1) ledger live last))
      (λ e. unlock_fits (record txn { records = [] }) (next.Answer (healing txn skip.Majority).1) ledger) (λ e. unlock_fits txn (next.Answer (reply.Io (io_of txn))) ledger)

  -- ---- under the locks of a lock phase that has ended

  module _ (txn : Txn) (ledger : Ledger Cell) (reaches : AreReached txn) where
    -- a read
    module _ (own : txn.settles ≡ None) (is_read : kind_of txn.job ≡ kind.Read) where
      by_replica : (place : ℕ) (contents : List (Option Content)) (cell : Cell) (from : Option ℕ) → lowest (both (sound_on txn (length contents)) (alive txn)) ≡ from → Fits ledger (fetching txn place contents cell from ledger live last)
      unfolding sound_on
      by_replica place contents cell None e = unlock_fits txn next.Again ledger
      by_replica place contents cell (Some k) e =
          let both_are : flag (both (sound_on txn (length contents)) (alive txn)) k ≡ true = lowest_is (both (sound_on txn (length contents)) (alive txn)) k e in
          sends_one txn k (req.Fetch (fd_of txn.job) cell) (phase.Fetching place k contents) ledger (reaches, (own, is_read))
          (both_right (sound_on txn (length contents)) (alive txn) k both_are, both_left (sound_on txn (length contents)) (alive txn) k both_are)

      by_cell : (place : ℕ) (contents : List (Option Content)) (cell : Option Cell) → Fits ledger (fetch_at txn place contents cell ledger live last)
      by_cell place contents None = unlock_fits txn (next.Answer (reply.Contents contents place)) ledger
      by_cell place contents (Some cell) = by_replica place contents cell (lowest (both (sound_on txn (length contents)) (alive txn))) refl

      pub fetch_fits : (place : ℕ) (contents : List (Option Content)) → Fits ledger (fetch_next txn place contents ledger live last)
      fetch_fits place contents =
          by_cell place (with_absent txn contents (length txn.cells - length contents)) (slice_get txn.cells (length (with_absent txn contents (length txn.cells - length contents))))

      read_fits : Fits ledger (ready_to_read txn ledger live last)
      read_fits =
          cond_both (is_split_read txn 0 txn.cells) _ _ (Fits ledger)
          (λ e. unlock_fits txn (next.Answer (reply.Io (io.Split txn.set (split_rows txn 0 txn.cells)))) ledger) (λ e. fetch_fits (length ledger.history) [])

    -- copies, and the mark after them
    mark_fits : txn.settles ≡ None → FitsWith (marking txn ledger live last)
    mark_fits own =
        cond_both (has_number ledger) (drawing txn ledger) _ FitsWith
        (λ e. sends_fit txn (alive txn) (req.Mark (ledger.drawn + 1) txn.cells) (phase.Marking (ledger.drawn + 1)) ledger (reaches, own) (λ j f. f))
        (λ e. fail_fits txn ledger)

    all_fit : FitsWith (copied_all txn ledger live last)
    all_fit =
        cond_both (is_some txn.settles) _ _ FitsWith (λ e. unlock_fits txn next.Again ledger)
        (λ e. cond_both (is_change txn.job) _ _ FitsWith (λ c. mark_fits (none_from txn.settles e))
        (λ c. cond_both (is_heal txn.job) _ _ FitsWith (λ h. unlock_fits (healed txn) (next.Answer (reply.Healed txn.records)) ledger)
        (λ h. unlock_fits txn next.Again ledger)))

    by_part : (t : Option Part × List Part) → FitsWith (copy_by txn t ledger live last)
    by_part (None, parts) = all_fit
    by_part (Some part, parts) = cond_both (has_source txn part) _ _ FitsWith (λ e. (reaches, tt)) (λ e. unlock_fits txn next.Again ledger)

    pub next_fits : (parts : List Part) → FitsWith (copy_next txn parts ledger live last)
    next_fits parts = by_part (next_part txn parts)

    -- how each job goes on
    split_fits : Fits ledger (split txn ledger live last)
    split_fits = unlock_fits txn (next.Answer (reply.Io (io.Split txn.set (rows_listed txn.shown txn.bricks 0 txn.cells)))) ledger

    skip_fits : (cause : SkipCause) → Fits ledger (skipping txn cause ledger live last)
    unfolding skipping
    skip_fits cause = unlock_fits (healed txn) (next.Answer (heal_reply txn.records cause)) ledger

    change_fits : FitsWith (ready_to_change txn ledger live last)
    change_fits = cond_both (is_split txn 0 txn.cells) _ _ FitsWith (λ e. split_fits) (λ e. next_fits (all_parts txn))

    heal_fits : FitsWith (ready_to_heal txn ledger live last)
    heal_fits =
        cond_both (is_touched txn ledger) _ _ FitsWith (λ e. skip_fits skip.Unsettled)
        (λ e. cond_both (is_split txn 0 txn.cells) _ _ FitsWith (λ s. skip_fits skip.Split) (λ s. next_fits (all_parts txn)))

    bear_fits : (op : Option StoreOp) → Fits ledger (bearing_by op txn ledger live last)
    bear_fits None = unlock_fits txn next.Again ledger
    bear_fits (Some op) = sends_fit txn (alive txn) (req.Op 0 0 op) phase.Bearing ledger reaches (λ j f. f)

    source_fits : (change : ℕ) (source : Option ℕ) → txn.settles ≡ Some change → Fits ledger (settle_by txn change source ledger live last)
    source_fits change None is = split_fits
    source_fits change (Some source) is =
        sends_fit txn (alive txn) (req.Settle txn.cells (mask_of (outside txn.size.n (group_of txn change (common_of txn) source))))
        (phase.Settling (record { change = change; held = has_it txn change source; group = group_of txn change (common_of txn) source; decided = false })) ledger (reaches, is) (λ j f. f)

    kind_fits : (k : Kind) → txn.settles ≡ None → kind_of txn.job ≡ k → FitsWith (ready_by k txn ledger live last)
    kind_fits kind.Read own is = read_fits own is
    kind_fits kind.Change own is = change_fits
    kind_fits kind.Birth own is = bear_fits (birth_op txn.job)
    kind_fits kind.Heal own is = heal_fits
    kind_fits (kind.Open fd gfid) own is = unlock_fits txn next.Again ledger
    kind_fits kind.Index own is = unlock_fits txn next.Again ledger

    for_fits : (settles : Option ℕ) → txn.settles ≡ settles → FitsWith (ready_for settles txn ledger live last)
    for_fits (Some change) is =
        cond_both (is_some (numbered change ledger.unsettled)) _ _ (Fits ledger) (λ e. source_fits change (lowest (common_of txn)) is) (λ e. unlock_fits txn next.Again ledger)
    for_fits None is = kind_fits (kind_of txn.job) is refl

  -- a step of the lock phase
  step_fits : (txn : Txn) (t : Outs × LockStep) (ledger : Ledger Cell) → AsksLive txn.size.n live t → FitsWith (lock_step txn t ledger live last)
  step_fits txn (outs, step.Ask k) ledger is = locking_fits (record txn { outs = outs }) k ledger is
  step_fits txn (outs, step.Short) ledger is = fail_fits (record txn { outs = outs }) ledger
  step_fits txn (outs, step.Reached) ledger is = for_fits (reached (record txn { outs = outs })) ledger (λ k h. h) txn.settles refl

  lock_fits : (txn : Txn) (from : ℕ) (ledger : Ledger Cell) → FitsWith (lock_on txn from ledger live last)
  lock_fits txn from ledger =
      step_fits txn (next_lock txn.outs txn.locks txn.size.n txn.size.q from live last) ledger (asks_live txn.size.n txn.size.q live last txn.size.few txn.outs txn.locks from)

  -- ---- a copy that is done

  noted_fits : (after : Txn) (sinks : List Bool) (parts : List Part) (current : Mask) (ledger : Ledger Cell) → AreReached after
      → FitsWith (cond (is_short after.outs after.size.n after.size.q) (kept (fail after ledger live last) ledger)
      (cond (is_left after sinks current) (kept (unlock after next.Again ledger live last) ledger) (copy_next after parts ledger live last)))
  noted_fits after sinks parts current ledger reaches =
      cond_both (is_short after.outs after.size.n after.size.q) _ _ FitsWith (λ e. fail_fits after ledger)
      (λ e. cond_both (is_left after sinks current) _ _ FitsWith (λ l. unlock_fits after next.Again ledger) (λ l. next_fits after ledger reaches parts))

  copy_fits : (txn : Txn) (sinks : List Bool) (parts : List Part) (done : CopyDone) (ledger : Ledger Cell) → AreReached txn → FitsWith (copy_taken txn sinks parts done ledger live last)
  copy_fits txn sinks parts done ledger reaches =
      cond_both (is_heal txn.job) (record txn { outs = with_outs txn.size.n txn.outs done.outs; records = txn.records ++ done.records }) (record txn { outs = with_outs txn.size.n txn.outs done.outs })
      (λ (after : Txn). FitsWith (cond (is_short after.outs after.size.n after.size.q) (kept (fail after ledger live last) ledger)
      (cond (is_left after sinks done.current) (kept (unlock after next.Again ledger live last) ledger) (copy_next after parts ledger live last))))
      (λ e. noted_fits (record txn { outs = with_outs txn.size.n txn.outs done.outs; records = txn.records ++ done.records }) sinks parts done.current ledger (λ k h. reaches k (outs_used txn.size.n txn.outs done.outs k h)))
      (λ e. noted_fits (record txn { outs = with_outs txn.size.n txn.outs done.outs }) sinks parts done.current ledger (λ k h. reaches k (outs_used txn.size.n txn.outs done.outs k h)))

  pub copied_fit : (p : Phase) (txn : Txn) (done : CopyDone) (ledger : Ledger Cell) → WorksIn p txn → are_copies p ≡ true → FitsWith (copied_in p (idle txn) done ledger live last)
  copied_fit (phase.Copying sinks parts) txn done ledger works copies = copy_fits (idle txn) sinks parts done ledger works
  copied_fit (phase.Locking at) txn done ledger works copies = absurd (true≢false (sym copies))
  copied_fit (phase.Unlocking after) txn done ledger works copies = absurd (true≢false (sym copies))
  copied_fit (phase.Fetching place from contents) txn done ledger works copies = absurd (true≢false (sym copies))
  copied_fit (phase.Marking change) txn done ledger works copies = absurd (true≢false (sym copies))
  copied_fit (phase.Writing change) txn done ledger works copies = absurd (true≢false (sym copies))
  copied_fit (phase.Posting change adopted) txn done ledger works copies = absurd (true≢false (sym copies))
  copied_fit (phase.Settling verdict) txn done ledger works copies = absurd (true≢false (sym copies))
  copied_fit phase.Bearing txn done ledger works copies = absurd (true≢false (sym copies))
  copied_fit phase.Opening txn done ledger works copies = absurd (true≢false (sym copies))
  copied_fit (phase.Listing all) txn done ledger works copies = absurd (true≢false (sym copies))
  copied_fit phase.Over txn done ledger works copies = absurd (true≢false (sym copies))

  -- ---- the begin

  -- only live replicas are used
  polled_live : (txn : Txn) (k : ℕ) → length txn.outs.at ≡ 5 → flag (alive (polled txn live last)) k ≡ true → names live k ≡ true
  polled_live txn k five h =
      let low : k < 5 = below_five (λ j. nat_lt j txn.size.n && not (is_out (polled txn live last).outs j)) k h in
      let kept_is : flag (flags_by (names live)) k ≡ true = are_kept txn.outs (flags_of live) txn.size.n last five k low h in
      sym (flag_by (names live) k low) ∙ kept_is

  open_fits : (txn : Txn) (fd : ℕ) (gfid : Gfid) (ledger : Ledger Cell) → ((k : ℕ) → flag (alive txn) k ≡ true → names live k ≡ true) → Fits ledger (opening txn fd gfid)
  open_fits txn fd gfid ledger connected =
      cond_both (is_none (lowest (alive txn))) _ _ (Fits ledger)
      (λ e. cond_both (is_short txn.outs txn.size.n txn.size.q) _ _ (Fits ledger) (λ s. (tt, tt)) (λ s. (tt, tt)))
      (λ e. sends_fit txn (alive txn) (req.Open fd gfid) phase.Opening ledger tt (λ j f. (f, connected j f)))

  list_fits : (txn : Txn) (ledger : Ledger Cell) → kind_of txn.job ≡ kind.Index → ((k : ℕ) → flag (alive txn) k ≡ true → names live k ≡ true) → Fits ledger (listing txn)
  list_fits txn ledger is connected =
      cond_both (is_none (lowest (alive txn))) _ _ (Fits ledger) (λ e. (tt, tt))
      (λ e. sends_fit txn (alive txn) req.Index (phase.Listing []) ledger is (λ j f. (f, connected j f)))

  pub started_fits : (k : Kind) (txn : Txn) (ledger : Ledger Cell) → kind_of txn.job ≡ k → length txn.outs.at ≡ 5 → Fits ledger (started_by k txn ledger live last)
  started_fits kind.Read txn ledger is five = again_fits txn ledger
  started_fits kind.Change txn ledger is five = again_fits txn ledger
  started_fits kind.Birth txn ledger is five = again_fits txn ledger
  started_fits kind.Heal txn ledger is five = again_fits txn ledger
  started_fits (kind.Open fd gfid) txn ledger is five = open_fits (polled txn live last) fd gfid ledger (λ k h. polled_live txn k five h)
  started_fits kind.Index txn ledger is five = list_fits (polled txn live last) ledger is (λ k h. polled_live txn k five h)

-- ---- an answer

module _ (txn : Txn) (k mark : ℕ) (rep : BrickRep) (ledger : Ledger Cell) (live : Mask) (last : List ℕ) where
  -- the phase with this answer, and the job with it
  abbrev with_answer : Wave
  with_answer = taken txn.wave k (is_plain_done rep)

  abbrev now : Txn
  now = hearing (idle txn) k rep mark

  abbrev Turn : Txn × Need → Type 0
  Turn t = Fits with_answer live last ledger t

  abbrev TurnWith : Txn × (Need × Ledger Cell) → Type 0
  TurnWith t = FitsWith with_answer live last t

  still : AreReached txn → AreReached now
  still reaches j h = reaches j (used_heard txn.size.n txn.outs k mark rep j h)

  left_still : (fault : Bool) → AreReached txn → (j : ℕ) → flag (used (left txn.outs k fault mark) txn.size.n) j ≡ true → flag txn.shown.reached j ≡ true
  left_still fault reaches j h = reaches j (used_left txn.size.n txn.outs k mark fault j h)

  lock_answer : (rows : Option (List Row)) → TurnWith (lock_on (lock_taken (idle txn) k rows (is_fault rep) mark last) (k + 1) ledger live last)
  lock_answer None = lock_fits with_answer live last (record (idle txn) { outs = left txn.outs k (is_fault rep) mark; wave = taken txn.wave k false }) (k + 1) ledger
  lock_answer (Some rows) =
      lock_fits with_answer live last (record (idle txn) { locks = granted txn.locks k (slice_index last k); shown = with_rows txn.shown k rows; wave = taken txn.wave k true }) (k + 1) ledger

  fetch_answer : (place : ℕ) (contents : List (Option Content)) (content : Option (Content × ℕ)) → AreReached txn → txn.settles ≡ None → kind_of txn.job ≡ kind.Read
      → Turn (fetch_taken (idle txn) place k contents content (is_fault rep) mark ledger live last)
  fetch_answer place contents (Some content) reaches own is = fetch_fits with_answer live last (record (idle txn) { wave = taken txn.wave k true }) ledger reaches own is place (contents ++ Some content.0 ∷ [])
  fetch_answer place contents None reaches own is =
      cond_both (is_short (left txn.outs k (is_fault rep) mark) txn.size.n txn.size.q) _ _ Turn
      (λ e. fail_fits with_answer live last (record (idle txn) { outs = left txn.outs k (is_fault rep) mark; wave = taken txn.wave k false }) ledger)
      (λ e. fetch_fits with_answer live last (record (idle txn) { outs = left txn.outs k (is_fault rep) mark; wave = taken txn.wave k false }) ledger (left_still (is_fault rep) reaches) own is place contents)

  op_answer : (op : Option (ℕ × StoreOp)) (change : ℕ) → AreReached txn → txn.settles ≡ None → TurnWith (write_by op now change ledger live last)
  op_answer None change reaches own = unlock_fits with_answer live last now next.Again ledger
  op_answer (Some op) change reaches own =
      cond_both (may_begin now change ledger) (begun now change op.0 op.1 ledger) _ TurnWith
      (λ e. sends_fit with_answer live last now (alive now) (req.Op change op.0 op.1) (phase.Writing change) (with_begun ledger (unsettled_of now change)) (still reaches, own)
      (λ j f. (f, lookup-put_same nat_cmp exact_unsigned nat_cmp_total ledger.unsettled change (unsettled_of now change))))
      (λ e. unlock_fits with_answer live last now next.Again ledger)

  mark_answer : (change : ℕ) → AreReached txn → txn.settles ≡ None → TurnWith (mark_answered now change ledger live last)
  mark_answer change reaches own =
      cond_both (not (is_over with_answer)) _ _ TurnWith (λ e. ((still reaches, own), tt))
      (λ e. cond_both (is_short now.outs txn.size.n txn.size.q) _ _ TurnWith (λ s. fail_fits with_answer live last now ledger) (λ s. op_answer (change_op txn.job) change reaches own))

  write_answer : (change : ℕ) → AreReached txn → txn.settles ≡ None → IsTracked txn.size.n now.outs with_answer → Turn (write_answered now change ledger live last)
  write_answer change reaches own tracked = by (is_over with_answer) refl where
    posts : is_over with_answer ≡ true → Turn (posting now change)
    posts e =
        sends_fit with_answer live last now (alive now) (req.Post change txn.cells (mask_of (outside txn.size.n (alive now)))) (phase.Posting change None) ledger (still reaches, own)
        (λ j f. (f, confirmed_are txn.size.n now.outs with_answer tracked e))

    by : (b : Bool) → is_over with_answer ≡ b → Turn (cond (not b) (waiting now (phase.Writing change)) (cond (is_short now.outs txn.size.n txn.size.q) (fail now ledger live last) (posting now change)))
    by true e = cond_both (is_short now.outs txn.size.n txn.size.q) _ _ Turn (λ s. fail_fits with_answer live last now ledger) (λ s. posts e)
    by false e = ((still reaches, own), tt)

  ended_answer : (adopted : Option Adopted) (after : Ledger Cell) → Fits with_answer live last after (post_ended now adopted after live last)
  ended_answer None after = fail_fits with_answer live last now after
  ended_answer (Some adopted) after = unlock_fits with_answer live last now (next.Answer (reply.Decided adopted.entry)) after

  post_answer : (change : ℕ) (adopted : Option Adopted) → AreReached txn → txn.settles ≡ None → TurnWith (post_answered now change adopted ledger live last)
  post_answer change adopted reaches own =
      cond_both (is_over with_answer) _ _ TurnWith
      (λ e. ended_answer (post_decided now change adopted ledger).0 (post_decided now change adopted ledger).1) (λ e. ((still reaches, own), tt))

  settle_answer : (verdict : Verdict) → AreReached txn → txn.settles ≡ Some verdict.change → TurnWith (settle_answered now verdict ledger live last)
  settle_answer verdict reaches is = goes (settle_decided now verdict ledger) where
    goes : (d : Bool × Ledger Cell) → TurnWith (settle_step now (record verdict { decided = d.0 }) d.1 live last)
    goes d =
        cond_both (not (is_over with_answer)) _ _ TurnWith (λ e. ((still reaches, is), tt))
        (λ e. cond_both d.0 _ _ TurnWith (λ s. next_fits with_answer live last now d.1 (still reaches) (settle_parts now verdict.group)) (λ s. fail_fits with_answer live last now d.1))

  birth_answer : AreReached txn → Turn (birth_answered now ledger live last)
  birth_answer reaches =
      cond_both (not (is_over with_answer)) _ _ Turn (λ e. (still reaches, tt))
      (λ e. cond_both (is_short now.outs txn.size.n txn.size.q) _ _ Turn (λ s. fail_fits with_answer live last now ledger) (λ s. unlock_fits with_answer live last now (next.Answer (reply.Decided None)) ledger))

  unlock_answer : (after : Then) → Turn (unlock_answered now after ledger live last)
  unlock_answer after = cond_both (not (is_over with_answer)) _ _ Turn (λ e. (tt, tt)) (λ e. going_fits with_answer live last now after ledger)

  open_answer : Turn (open_answered now)
  open_answer =
      cond_both (not (is_over with_answer)) _ _ Turn (λ e. (tt, tt)) (λ e. cond_both (is_short now.outs txn.size.n txn.size.q) _ _ Turn (λ s. (tt, tt)) (λ s. (tt, tt)))

  list_answer : (all : List Cell) → kind_of txn.job ≡ kind.Index → Turn (list_answered (idle txn) k rep mark all)
  list_answer all is = by (cells_in rep) where
    by : (o : Option (List Cell)) → Turn (cond (not (is_over (list_taken (idle txn) k o (is_fault rep) mark all).0.wave))
        (waiting (list_taken (idle txn) k o (is_fault rep) mark all).0 (phase.Listing (list_taken (idle txn) k o (is_fault rep) mark all).1))
        (list_ended (list_taken (idle txn) k o (is_fault rep) mark all).0 (list_taken (idle txn) k o (is_fault rep) mark all).1))
    by None = cond_both (not (is_over (taken txn.wave k false))) _ _ Turn (λ e. (is, tt)) (λ e. (tt, tt))
    by (Some cells) = cond_both (not (is_over (taken txn.wave k true))) _ _ Turn (λ e. (is, tt)) (λ e. (tt, tt))

  pub phase_fits : (p : Phase) → WorksIn p txn → KeepsIn p txn → k < 5 → suits p txn ≡ true → is_asked txn.wave k ≡ true → TurnWith (answered_in p (idle txn) k rep mark ledger live last)
  phase_fits (phase.Locking at) works keeps low fits asked = lock_answer (rows_in rep (length txn.cells))
  phase_fits (phase.Unlocking after) works keeps low fits asked = unlock_answer after
  phase_fits (phase.Fetching place from contents) works keeps low fits asked =
      fetch_answer place contents (content_in rep (aspect_at (slice_get txn.cells (length contents)))) works.0 works.1.0 works.1.1
  phase_fits (phase.Copying sinks parts) works keeps low fits asked = absurd (true≢false (sym fits))
  phase_fits (phase.Marking change) works keeps low fits asked = mark_answer change works.0 works.1
  phase_fits (phase.Writing change) works keeps low fits asked = write_answer change works.0 works.1 (heard_one txn.size.n k mark rep txn.outs txn.wave low asked keeps.1)
  phase_fits (phase.Posting change adopted) works keeps low fits asked = post_answer change adopted works.0 works.1
  phase_fits (phase.Settling verdict) works keeps low fits asked = settle_answer verdict works.0 works.1
  phase_fits phase.Bearing works keeps low fits asked = birth_answer works
  phase_fits phase.Opening works keeps low fits asked = open_answer
  phase_fits (phase.Listing all) works keeps low fits asked = list_answer all works
  phase_fits phase.Over works keeps low fits asked = absurd (true≢false (sym fits))

-- ---- every turn

pub begun_fits : (size : Size) (set : SetPlan) (call : ℕ) (job : Job) (ledger : Ledger Cell) (live : Mask) (last : List ℕ) → Fits quiet live last ledger (started (fresh size set call job) ledger live last)
begun_fits size set call job ledger live last = started_fits quiet live last (kind_of job) (fresh size set call job) ledger refl refl

pub answer_fits : (txn : Txn) (k mark : ℕ) (rep : BrickRep) (ledger : Ledger Cell) (live : Mask) (last : List ℕ) → is_asking txn ≡ true → Keeps txn → Works txn → is_asked txn.wave k ≡ true
    → FitsWith (taken txn.wave k (is_plain_done rep)) live last (answered txn k rep mark ledger live last)
answer_fits txn k mark rep ledger live last asking keeps works asked =
    let a = and_parts (is_waiting txn.size.n txn.wave) (are_granted_within txn.size.n txn.locks && suits txn.phase txn) asking in
    let b = and_parts (not (is_over txn.wave)) (is_within txn.size.n txn.wave.asked) a.0 in
    let c = and_parts (are_granted_within txn.size.n txn.locks) (suits txn.phase txn) a.1 in
    let low : k < txn.size.n = within_at txn.size.n k txn.wave.asked b.1 asked in
    phase_fits txn k mark rep ledger live last txn.phase works keeps.locks (omega (arith, txn.size.few)) c.1 asked

pub done_fits : (txn : Txn) (done : CopyDone) (ledger : Ledger Cell) (live : Mask) (last : List ℕ) → is_copying txn ≡ true → Works txn → FitsWith quiet live last (copied txn done ledger live last)
done_fits txn done ledger live last copying works =
    let a = and_parts (is_over txn.wave) (are_granted_within txn.size.n txn.locks && are_copies txn.phase) copying in
    let b = and_parts (are_granted_within txn.size.n txn.locks) (are_copies txn.phase) a.1 in
    copied_fit quiet live last txn.phase txn done ledger works b.1
