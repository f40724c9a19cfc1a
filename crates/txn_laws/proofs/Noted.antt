-- What each turn notes: the job stays, who is out since is lost, what is known of the replicas stays or is given up with the lock
-- phase, and nobody has confirmed what is sent anew.
use Rattle.std.proofs.Common.{◌≡◌, ℕ, ◌+◌, ◌-◌, ◌⊎◌, inl, inr, Bool, false, ◌&&◌, not, cond, List, [], Option, Some, None, is_none, is_some, refl, arith}
use Rattle.std.specs.Prelude.{length, slice_get, slice_index_or}
use Rattle.std.proofs.lemmas.Bool.{cond_both}
use Rattle.fop_types.specs.declared.answers.IoError.TheVariants as io
use Rattle.fop_types.specs.declared.causes.SkipCause.{SkipCause}
use Rattle.fop_types.specs.declared.causes.SkipCause.TheVariants as skip
use Rattle.fop_types.specs.declared.cells.Cell.{Cell}
use Rattle.fop_types.specs.declared.contents.Content.{Content}
use Rattle.fop_types.specs.declared.contents.Mask.{Mask}
use Rattle.fop_types.specs.declared.contents.Row.{Row}
use Rattle.fop_types.specs.declared.copy_jobs.Out.{Out}
use Rattle.fop_types.specs.declared.jobs.SetReply.{SetReply}
use Rattle.fop_types.specs.declared.jobs.SetReply.TheVariants as reply
use Rattle.fop_types.specs.declared.store_ops.StoreOp.{StoreOp}
use Rattle.afr_ledger.specs.Changes.{numbered}
use Rattle.afr_ledger.specs.Ledger.{State}
use Rattle.afr_phases.specs.declared.locking.LockStep.{LockStep}
use Rattle.afr_phases.specs.declared.locking.LockStep.TheVariants as step
use Rattle.afr_phases.specs.declared.outs.Outs.{Outs}
use Rattle.afr_phases.specs.Locking.{next_lock}
use Rattle.afr_phases.specs.Locks.{no_locks, standing}
use Rattle.afr_phases.specs.Shown.{nothing_shown, rows_listed}
use Rattle.afr_transaction.specs.declared.jobs.Kind.{Kind}
use Rattle.afr_transaction.specs.declared.jobs.Kind.TheVariants as kind
use Rattle.afr_transaction.specs.declared.need.Need.{Need}
use Rattle.afr_transaction.specs.declared.need.Need.TheVariants as need
use Rattle.afr_transaction.specs.declared.phase.Adopted.{Adopted}
use Rattle.afr_transaction.specs.declared.phase.Part.{Part}
use Rattle.afr_transaction.specs.declared.phase.Phase.{Phase}
use Rattle.afr_transaction.specs.declared.phase.Phase.TheVariants as phase
use Rattle.afr_transaction.specs.declared.phase.Then.{Then}
use Rattle.afr_transaction.specs.declared.phase.Then.TheVariants as next
use Rattle.afr_transaction.specs.declared.phase.Verdict.{Verdict}
use Rattle.afr_transaction.specs.declared.txn.Txn.{Txn}
use Rattle.afr_transaction.specs.Answers.{lock_step, lock_on, waiting, write_by, mark_answered, write_answered, post_ended, post_answered, settle_ended, settle_answered, birth_answered, unlock_answered, open_answered}
use Rattle.afr_transaction.specs.Changes.{has_number, may_begin, marking, post_decided}
use Rattle.afr_transaction.specs.Copied.{healed, is_change, copied_all, copy_by, copy_next}
use Rattle.afr_transaction.specs.Copies.{copying, has_source, next_part, sinks_left, is_left}
use Rattle.afr_transaction.specs.Jobs.{kind_of, birth_op, change_op}
use Rattle.afr_transaction.specs.Parts.{common_of, is_split, all_parts}
use Rattle.afr_transaction.specs.Polls.{list_ended, short_of}
use Rattle.afr_transaction.specs.Reads.{fd_of, sound_on, is_split_read, split_rows, with_absent, fetching, fetch_at, fetch_next, ready_to_read}
use Rattle.afr_transaction.specs.Ready.{split, skipping, is_touched, settle_by, bearing_by, ready_by, ready_for}
use Rattle.afr_transaction.specs.Settles.{group_of, has_it, settle_decided, settle_parts}
use Rattle.fop_types.specs.declared.jobs.Job.{Job}
use Rattle.fop_types.specs.declared.messages.BrickReq.{BrickReq}
use Rattle.fop_types.specs.declared.messages.BrickReq.TheVariants as req
use Rattle.afr_phases.specs.declared.locks.Locks.{Locks}
use Rattle.afr_phases.specs.declared.wave.Wave.{Wave}
use Rattle.afr_phases.specs.Flags.{lowest, both, mask_of, no_flags, outside}
use Rattle.afr_phases.specs.Outs.{is_short}
use Rattle.afr_phases.specs.Waves.{is_over, sent_to}
use Rattle.afr_phases.proofs.Stays.{lost_five, step_places}
use Rattle.afr_transaction.specs.declared.size.Size.{Size}
use Rattle.afr_transaction.specs.Locked.{to_settle, cells_for, is_read, first_step, again, going, lost_noted, unlock, fail, reached}
use Rattle.afr_transaction.specs.Txns.{alive, asking, only, over, heal_reply, healing, ending, io_of, is_heal, kept}
use Rattle.txn_laws.specs.Granted.{CoversIn, SendsNone, SendsSome}
use Rattle.txn_laws.specs.Outs.{WasLost}
use Rattle.txn_laws.proofs.LostBy.{Since, Lost, same, both_since, noted_since, IsStepSince, step_since, Covers, none_there}

-- what a turn leaves of a job that had these values, where P holds; it may go on with a lock phase where T holds
pub record Later (P T : Type 0) (live : Mask) (last : List ℕ) (set : ℕ) (size : Size) (bricks : List ℕ) (call : ℕ) (job : Job) (outs : Outs) (locks : Locks) (rows : List (Option (List Row))) (cells : List Cell) (wave : Wave) (a : Txn) (turned : Need) : Type 0 where
  pub set_is : a.set ≡ set
  pub size_is : a.size ≡ size
  pub bricks_is : a.bricks ≡ bricks
  pub call_is : a.call ≡ call
  pub job_is : a.job ≡ job
  pub since : Since P live last locks outs a.outs
  pub known : ((a.locks ≡ locks) × ((a.shown.rows ≡ rows) × (a.cells ≡ cells))) ⊎ ((a.locks ≡ no_locks) × (a.shown.rows ≡ nothing_shown.rows))
  pub waits : ((a.wave ≡ wave) × SendsNone turned) ⊎ ((a.wave.confirmed ≡ no_flags) × SendsSome turned)
  pub covers : P → CoversIn a.phase a
  pub anew : (at : ℕ) → a.phase ≡ phase.Locking at → T ⊎ ((a.locks ≡ no_locks) × (a.shown.rows ≡ nothing_shown.rows))

module _ (P T : Type 0) (live : Mask) (last : List ℕ) where
  abbrev pub After : Txn → Txn × Need → Type 0
  After txn t = Later P T live last txn.set txn.size txn.bricks txn.call txn.job txn.outs txn.locks txn.shown.rows txn.cells txn.wave t.0 t.1

  abbrev pub AfterWith : Txn → Txn × (Need × State Cell) → Type 0
  AfterWith txn t = Later P T live last txn.set txn.size txn.bricks txn.call txn.job txn.outs txn.locks txn.shown.rows txn.cells txn.wave t.0 t.1.0

  abbrev pub Five : Txn → Type 0
  Five txn = P → length txn.outs.at ≡ 5

  -- ---- no more than a phase and what it sends

  -- no lock is asked
  abbrev NoLock : Txn → Phase → Type 0
  NoLock txn p = (at : ℕ) → p ≡ phase.Locking at → T ⊎ ((txn.locks ≡ no_locks) × (txn.shown.rows ≡ nothing_shown.rows))

  leaf : (txn : Txn) (wave : Wave) (p : Phase) (turned : Need) → ((wave ≡ txn.wave) × SendsNone turned) ⊎ ((wave.confirmed ≡ no_flags) × SendsSome turned) → (P → CoversIn p (record txn { wave = wave; phase = p })) → NoLock txn p → After txn (record txn { wave = wave; phase = p }, turned)
  leaf txn wave p turned waits covers anew = record {
    set_is = refl;
    size_is = refl;
    bricks_is = refl;
    call_is = refl;
    job_is = refl;
    since = same P live last txn.locks txn.outs;
    known = inl (refl, (refl, refl));
    waits = waits;
    covers = covers;
    anew = anew;
  }

  pub over_after : (txn : Txn) (r : SetReply) → After txn (over txn r)
  over_after txn r = leaf txn txn.wave phase.Over (need.Reply r) (inl (refl, tt)) (λ p. tt) (λ at e. absurd cc)

  pub asks_after : (txn : Txn) (to : List Bool) (r : BrickReq) (p : Phase) → (P → CoversIn p (record txn { wave = sent_to to; phase = p })) → NoLock txn p → After txn (asking txn to r p)
  asks_after txn to r p covers anew = leaf txn (sent_to to) p (asking txn to r p).1 (inr (refl, tt)) covers anew

  pub waits_after : (txn : Txn) (p : Phase) → (P → CoversIn p (record txn { phase = p })) → NoLock txn p → After txn (waiting txn p)
  waits_after txn p covers anew = leaf txn txn.wave p need.Wait (inl (refl, tt)) covers anew

  -- after more are out
  pub since_after : (txn : Txn) (outs : Outs) (t : Txn × Need) → Since P live last txn.locks txn.outs outs → After (record txn { outs = outs }) t → After txn t
  since_after txn outs t f l = record {
    set_is = l.set_is;
    size_is = l.size_is;
    bricks_is = l.bricks_is;
    call_is = l.call_is;
    job_is = l.job_is;
    since = both_since P live last txn.locks txn.outs outs t.0.outs f l.since;
    known = l.known;
    waits = l.waits;
    covers = l.covers;
    anew = l.anew;
  }

  pub ending_after : (txn : Txn) → After txn (ending txn)
  ending_after txn =
      cond_both (is_heal txn.job) (healing txn skip.Majority) (txn, reply.Io (io_of txn)) (λ (f : Txn × SetReply). After txn (over f.0 f.1))
      (λ e. over_after (record txn { records = [] }) (heal_reply txn.records skip.Majority)) (λ e. over_after txn (reply.Io (io_of txn)))

  -- ---- a lock phase begins

  first_after : (txn : Txn) (t : Outs × LockStep) → IsStepSince P live last txn.size.n txn.size.q txn.size.few txn.locks txn.outs t → (txn.locks ≡ no_locks) × (txn.shown.rows ≡ nothing_shown.rows) → After txn (first_step txn t)
  first_after txn (outs, step.Ask k) h none =
      since_after txn outs (first_step txn (outs, step.Ask k)) h.0
      (asks_after (record txn { outs = outs }) (only k) (req.Lock txn.call (is_read txn.job && is_none txn.settles) txn.cells) (phase.Locking k) h.1 (λ at e. inr none))
  first_after txn (outs, step.Short) h none = since_after txn outs (first_step txn (outs, step.Short)) h (ending_after (record txn { outs = outs }))
  first_after txn (outs, step.Reached) h none = since_after txn outs (first_step txn (outs, step.Reached)) h (ending_after (record txn { outs = outs }))

  anew_since : (locks : Locks) (before after : Outs) → Since P live last no_locks before after → Since P live last locks before after
  anew_since locks before after f = record { from = λ j out h. by j out (f.from j out h); stay = f.stay } where
    closed : (j : ℕ) → WasLost no_locks live last j → WasLost locks live last j
    closed j (inl h) = inl h
    closed j (inr h) = absurd (none_there j h.connection h.granted)

    by : (j : ℕ) (out : Out) → (slice_index_or before.at j None ≡ Some out) ⊎ Lost P live last no_locks j out → (slice_index_or before.at j None ≡ Some out) ⊎ Lost P live last locks j out
    by j out (inl there) = inl there
    by j out (inr lost) = inr (record { is = lost.is; replica = lost.replica; why = λ p. closed j (lost.why p) })

  anew_after : (txn : Txn) (cells : List Cell) (settles : Option ℕ) (t : Txn × Need) → After (record txn { cells = cells; settles = settles; locks = no_locks; shown = nothing_shown }) t → After txn t
  anew_after txn cells settles t l = record {
    set_is = l.set_is;
    size_is = l.size_is;
    bricks_is = l.bricks_is;
    call_is = l.call_is;
    job_is = l.job_is;
    since = anew_since txn.locks txn.outs t.0.outs l.since;
    known = inr (by l.known);
    waits = l.waits;
    covers = l.covers;
    anew = l.anew;
  } where
    by : ((t.0.locks ≡ no_locks) × ((t.0.shown.rows ≡ nothing_shown.rows) × (t.0.cells ≡ cells))) ⊎ ((t.0.locks ≡ no_locks) × (t.0.shown.rows ≡ nothing_shown.rows)) → (t.0.locks ≡ no_locks) × (t.0.shown.rows ≡ nothing_shown.rows)
    by (inl h) = (h.0, h.1.0)
    by (inr h) = h

  pub again_after : (txn : Txn) (ledger : State Cell) → Five txn → After txn (again txn ledger live last)
  again_after txn ledger five =
      anew_after txn (cells_for txn ledger (to_settle txn ledger)) (to_settle txn ledger) (again txn ledger live last)
      (first_after (record txn { cells = cells_for txn ledger (to_settle txn ledger); settles = to_settle txn ledger; locks = no_locks; shown = nothing_shown })
      (next_lock txn.outs no_locks txn.size.n txn.size.q 0 live last) (step_since P live last txn.size.n txn.size.q txn.size.few no_locks txn.outs 0 five (λ p j low. absurd (omega arith))) (refl, refl))

  -- ---- a lock phase ends

  going_after : (txn : Txn) (after : Then) (ledger : State Cell) → Five txn → After txn (going txn after ledger live last)
  going_after txn (next.Answer r) ledger five = over_after txn r
  going_after txn next.Again ledger five = again_after txn ledger five

  noted_five : (txn : Txn) → Five txn → Five (lost_noted txn live last)
  noted_five txn five p = lost_five txn.size.n txn.outs txn.locks live last (five p)

  unlock_after : (txn : Txn) (after : Then) (ledger : State Cell) → Five txn → After txn (unlock txn after ledger live last)
  unlock_after txn after ledger five =
      since_after txn (lost_noted txn live last).outs (unlock txn after ledger live last) (noted_since P live last txn.locks txn.outs txn.size.n txn.size.few)
      (cond_both (is_none (lowest (standing txn.locks live last))) _ _ (After (lost_noted txn live last)) (λ e. going_after (lost_noted txn live last) after ledger (noted_five txn five))
      (λ e. asks_after (lost_noted txn live last) (standing txn.locks live last) (req.Unlock txn.call) (phase.Unlocking after) (λ p. tt) (λ at e. absurd cc)))

  pub fail_after : (txn : Txn) (ledger : State Cell) → Five txn → After txn (fail txn ledger live last)
  fail_after txn ledger five =
      cond_both (is_heal txn.job) (healing txn skip.Majority) (txn, reply.Io (io_of txn)) (λ (f : Txn × SetReply). After txn (unlock f.0 (next.Answer f.1) ledger live last))
      (λ e. unlock_after (record txn { records = [] }) (next.Answer (heal_reply txn.records skip.Majority)) ledger five) (λ e. unlock_after txn (next.Answer (reply.Io (io_of txn))) ledger five)

  -- ---- under the locks

  module _ (txn : Txn) (ledger : State Cell) (five : Five txn) where
    fetching_after : (place : ℕ) (contents : List (Option Content)) (cell : Cell) (from : Option ℕ) → After txn (fetching txn place contents cell from ledger live last)
    fetching_after place contents cell None = unlock_after txn next.Again ledger five
    fetching_after place contents cell (Some k) = asks_after txn (only k) (req.Fetch (fd_of txn.job) cell) (phase.Fetching place k contents) (λ p. tt) (λ at e. absurd cc)

    at_after : (place : ℕ) (contents : List (Option Content)) (cell : Option Cell) → After txn (fetch_at txn place contents cell ledger live last)
    at_after place contents None = unlock_after txn (next.Answer (reply.Contents contents place)) ledger five
    at_after place contents (Some cell) = fetching_after place contents cell (lowest (both (sound_on txn (length contents)) (alive txn)))

    pub fetch_after : (place : ℕ) (contents : List (Option Content)) → After txn (fetch_next txn place contents ledger live last)
    fetch_after place contents =
        at_after place (with_absent txn contents (length txn.cells - length contents)) (slice_get txn.cells (length (with_absent txn contents (length txn.cells - length contents))))

    read_after : After txn (ready_to_read txn ledger live last)
    read_after =
        cond_both (is_split_read txn 0 txn.cells) _ _ (After txn) (λ e. unlock_after txn (next.Answer (reply.Io (io.Split txn.set (split_rows txn 0 txn.cells)))) ledger five)
        (λ e. fetch_after (length ledger.history) [])

    mark_after : AfterWith txn (marking txn ledger live last)
    mark_after =
        cond_both (has_number ledger) _ _ (AfterWith txn) (λ e. asks_after txn (alive txn) (req.Mark (ledger.drawn + 1) txn.cells) (phase.Marking (ledger.drawn + 1)) (λ p. tt) (λ at e. absurd cc))
        (λ e. fail_after txn ledger five)

    all_after : AfterWith txn (copied_all txn ledger live last)
    all_after =
        cond_both (is_some txn.settles) _ _ (AfterWith txn) (λ e. unlock_after txn next.Again ledger five)
        (λ e. cond_both (is_change txn.job) _ _ (AfterWith txn) (λ c. mark_after)
        (λ c. cond_both (is_heal txn.job) _ _ (AfterWith txn) (λ h. unlock_after (healed txn) (next.Answer (reply.Healed txn.records)) ledger five) (λ h. unlock_after txn next.Again ledger five)))

    by_after : (t : Option Part × List Part) → AfterWith txn (copy_by txn t ledger live last)
    by_after (None, parts) = all_after
    by_after (Some part, parts) =
        cond_both (has_source txn part) _ _ (AfterWith txn) (λ e. leaf txn txn.wave (phase.Copying (sinks_left txn part) parts) (copying txn part parts).1 (inl (refl, tt)) (λ p. tt) (λ at e. absurd cc)) (λ e. unlock_after txn next.Again ledger five)

    next_after : (parts : List Part) → AfterWith txn (copy_next txn parts ledger live last)
    next_after parts = by_after (next_part txn parts)

    split_after : After txn (split txn ledger live last)
    split_after = unlock_after txn (next.Answer (reply.Io (io.Split txn.set (rows_listed txn.shown txn.bricks 0 txn.cells)))) ledger five

    skip_after : (cause : SkipCause) → After txn (skipping txn cause ledger live last)
    unfolding skipping
    skip_after cause = unlock_after (healed txn) (next.Answer (heal_reply txn.records cause)) ledger five

    source_after : (change : ℕ) (source : Option ℕ) → After txn (settle_by txn change source ledger live last)
    source_after change None = split_after
    source_after change (Some source) =
        let group : List Bool = group_of txn change (common_of txn) source in
        asks_after txn (alive txn) (req.Settle txn.cells (mask_of (outside txn.size.n group))) (phase.Settling (record { change = change; held = has_it txn change source; group = group; decided = false })) (λ p. tt) (λ at e. absurd cc)

    bear_after : (op : Option StoreOp) → After txn (bearing_by op txn ledger live last)
    bear_after None = unlock_after txn next.Again ledger five
    bear_after (Some op) = asks_after txn (alive txn) (req.Op 0 0 op) phase.Bearing (λ p. tt) (λ at e. absurd cc)

    kind_after : (k : Kind) → AfterWith txn (ready_by k txn ledger live last)
    kind_after kind.Read = read_after
    kind_after kind.Change = cond_both (is_split txn 0 txn.cells) _ _ (AfterWith txn) (λ e. split_after) (λ e. next_after (all_parts txn))
    kind_after kind.Birth = bear_after (birth_op txn.job)
    kind_after kind.Heal =
        cond_both (is_touched txn ledger) _ _ (AfterWith txn) (λ e. skip_after skip.Unsettled)
        (λ e. cond_both (is_split txn 0 txn.cells) _ _ (AfterWith txn) (λ s. skip_after skip.Split) (λ s. next_after (all_parts txn)))
    kind_after (kind.Open fd gfid) = unlock_after txn next.Again ledger five
    kind_after kind.Index = unlock_after txn next.Again ledger five

    for_after : (settles : Option ℕ) → AfterWith txn (ready_for settles txn ledger live last)
    for_after (Some change) =
        cond_both (is_some (numbered change ledger.unsettled)) _ _ (After txn) (λ e. source_after change (lowest (common_of txn))) (λ e. unlock_after txn next.Again ledger five)
    for_after None = kind_after (kind_of txn.job)

  with_ledger : (txn : Txn) (outs : Outs) (t : Txn × (Need × State Cell)) → Since P live last txn.locks txn.outs outs → AfterWith (record txn { outs = outs }) t → AfterWith txn t
  with_ledger txn outs t f l = since_after txn outs (t.0, t.1.0) f l

  step_after : (txn : Txn) (t : Outs × LockStep) (ledger : State Cell) → IsStepSince P live last txn.size.n txn.size.q txn.size.few txn.locks txn.outs t → (P → length t.0.at ≡ 5) → T → AfterWith txn (lock_step txn t ledger live last)
  step_after txn (outs, step.Ask k) ledger h five on =
      with_ledger txn outs (lock_step txn (outs, step.Ask k) ledger live last) h.0
      (asks_after (record txn { outs = outs }) (only k) (req.Lock txn.call (is_read txn.job && is_none txn.settles) txn.cells) (phase.Locking k) h.1 (λ at e. inl on))
  step_after txn (outs, step.Short) ledger h five on = with_ledger txn outs (lock_step txn (outs, step.Short) ledger live last) h (fail_after (record txn { outs = outs }) ledger five)
  step_after txn (outs, step.Reached) ledger h five on = with_ledger txn outs (lock_step txn (outs, step.Reached) ledger live last) h (for_after (reached (record txn { outs = outs })) ledger five txn.settles)

  -- ---- phases that go to several replicas, from the answer on

  pub lock_on_after : (txn : Txn) (from : ℕ) (ledger : State Cell) → Five txn → (P → Covers P live last txn.locks txn.outs from) → T → AfterWith txn (lock_on txn from ledger live last)
  lock_on_after txn from ledger five covers on =
      step_after txn (next_lock txn.outs txn.locks txn.size.n txn.size.q from live last) ledger (step_since P live last txn.size.n txn.size.q txn.size.few txn.locks txn.outs from five covers)
      (λ p. step_places txn.size.n txn.size.q from txn.outs txn.locks live last (five p)) on

  module _ (txn : Txn) (ledger : State Cell) (five : Five txn) where
    write_after : (op : Option (ℕ × StoreOp)) (change : ℕ) → AfterWith txn (write_by op txn change ledger live last)
    write_after None change = unlock_after txn next.Again ledger five
    write_after (Some op) change =
        cond_both (may_begin txn change ledger) _ _ (AfterWith txn) (λ e. asks_after txn (alive txn) (req.Op change op.0 op.1) (phase.Writing change) (λ p. tt) (λ at e. absurd cc)) (λ e. unlock_after txn next.Again ledger five)

    pub marking_after : (change : ℕ) → AfterWith txn (mark_answered txn change ledger live last)
    marking_after change =
        cond_both (not (is_over txn.wave)) _ _ (AfterWith txn) (λ e. waits_after txn (phase.Marking change) (λ p. tt) (λ at e. absurd cc))
        (λ e. cond_both (is_short txn.outs txn.size.n txn.size.q) _ _ (AfterWith txn) (λ s. fail_after txn ledger five) (λ s. write_after (change_op txn.job) change))

    pub writing_after : (change : ℕ) → After txn (write_answered txn change ledger live last)
    writing_after change =
        cond_both (not (is_over txn.wave)) _ _ (After txn) (λ e. waits_after txn (phase.Writing change) (λ p. tt) (λ at e. absurd cc))
        (λ e. cond_both (is_short txn.outs txn.size.n txn.size.q) _ _ (After txn) (λ s. fail_after txn ledger five)
        (λ s. asks_after txn (alive txn) (req.Post change txn.cells (mask_of (outside txn.size.n (alive txn)))) (phase.Posting change None) (λ p. tt) (λ at e. absurd cc)))

    ended_after : (adopted : Option Adopted) (after : State Cell) → After txn (post_ended txn adopted after live last)
    ended_after None after = fail_after txn after five
    ended_after (Some adopted) after = unlock_after txn (next.Answer (reply.Decided adopted.entry)) after five

    pub posting_after : (change : ℕ) (adopted : Option Adopted) → AfterWith txn (post_answered txn change adopted ledger live last)
    posting_after change adopted =
        cond_both (is_over txn.wave) _ _ (AfterWith txn) (λ e. ended_after (post_decided txn change adopted ledger).0 (post_decided txn change adopted ledger).1)
        (λ e. waits_after txn (phase.Posting change (post_decided txn change adopted ledger).0) (λ p. tt) (λ at e. absurd cc))

    pub bearing_after : After txn (birth_answered txn ledger live last)
    bearing_after =
        cond_both (not (is_over txn.wave)) _ _ (After txn) (λ e. waits_after txn phase.Bearing (λ p. tt) (λ at e. absurd cc))
        (λ e. cond_both (is_short txn.outs txn.size.n txn.size.q) _ _ (After txn) (λ s. fail_after txn ledger five) (λ s. unlock_after txn (next.Answer (reply.Decided None)) ledger five))

    pub releasing_after : (after : Then) → After txn (unlock_answered txn after ledger live last)
    releasing_after after = cond_both (not (is_over txn.wave)) _ _ (After txn) (λ e. waits_after txn (phase.Unlocking after) (λ p. tt) (λ at e. absurd cc)) (λ e. going_after txn after ledger five)

    pub opening_after : After txn (open_answered txn)
    opening_after =
        cond_both (not (is_over txn.wave)) _ _ (After txn) (λ e. waits_after txn phase.Opening (λ p. tt) (λ at e. absurd cc))
        (λ e. cond_both (is_short txn.outs txn.size.n txn.size.q) _ _ (After txn) (λ s. over_after txn (reply.Io (io_of txn))) (λ s. over_after txn reply.Opened))

    pub listing_after : (all : List Cell) → After txn (cond (not (is_over txn.wave)) (waiting txn (phase.Listing all)) (list_ended txn all))
    listing_after all =
        cond_both (not (is_over txn.wave)) _ _ (After txn) (λ e. waits_after txn (phase.Listing all) (λ p. tt) (λ at e. absurd cc)) (λ e. over_after txn (reply.Listed all (mask_of txn.wave.confirmed) (short_of txn)))

  module _ (txn : Txn) (five : Five txn) where
    group_after : (group : List Bool) (decided : Bool) (after : State Cell) → AfterWith txn (settle_ended txn group decided after live last)
    group_after group decided after = cond_both decided _ _ (AfterWith txn) (λ e. next_after txn after five (settle_parts txn group)) (λ e. fail_after txn after five)

    pub settling_after : (verdict : Verdict) (ledger : State Cell) → AfterWith txn (settle_answered txn verdict ledger live last)
    settling_after verdict ledger =
        cond_both (not (is_over txn.wave)) _ _ (AfterWith txn) (λ e. waits_after txn (phase.Settling (record verdict { decided = (settle_decided txn verdict ledger).0 })) (λ p. tt) (λ at e. absurd cc))
        (λ e. group_after verdict.group (settle_decided txn verdict ledger).0 (settle_decided txn verdict ledger).1)

  -- ---- a copy that is done

  pub noted_after : (txn : Txn) (sinks : List Bool) (parts : List Part) (current : Mask) (ledger : State Cell) → Five txn
      → AfterWith txn (cond (is_short txn.outs txn.size.n txn.size.q) (kept (fail txn ledger live last) ledger) (cond (is_left txn sinks current) (kept (unlock txn next.Again ledger live last) ledger) (copy_next txn parts ledger live last)))
  noted_after txn sinks parts current ledger five =
      cond_both (is_short txn.outs txn.size.n txn.size.q) _ _ (AfterWith txn) (λ e. fail_after txn ledger five)
      (λ e. cond_both (is_left txn sinks current) _ _ (AfterWith txn) (λ l. unlock_after txn next.Again ledger five) (λ l. next_after txn ledger five parts))
