-- Copies: one that is asked for has something to do; after the last one the change is marked, or the locks are released.
use Rattle.std.proofs.Common.{◌≡◌, ◌∙◌, ℕ, ◌+◌, ◌<◌, ◌⊎◌, inl, inr, Bool, true, false, ◌&&◌, ◌||◌, not, nat_lt, cond, List, [], ◌∷◌, ◌++◌, Option, Some, None, is_none, is_some, length, refl, sym, ap, subst}
use Rattle.std.proofs.lemmas.Bool.{cond_both, and_from, and_parts, or_cases, true≢false, cases_Bool}
use Rattle.fop_types.specs.declared.cells.Cell.{Cell}
use Rattle.fop_types.specs.declared.contents.Mask.{Mask}
use Rattle.fop_types.specs.declared.copy_jobs.CopyDone.{CopyDone}
use Rattle.fop_types.specs.declared.copy_jobs.Out.{Out}
use Rattle.afr_phases.specs.declared.outs.Outs.{Outs}
use Rattle.fop_types.specs.declared.jobs.SetReply.TheVariants as reply
use Rattle.fop_types.specs.declared.messages.BrickReq.TheVariants as req
use Rattle.afr_ledger.specs.Ledger.{State}
use Rattle.afr_phases.specs.Asked.{is_within, are_granted_within}
use Rattle.afr_phases.specs.CopyWork.{HasHeld, HasWork}
use Rattle.afr_phases.specs.Flags.{flag, flags_of, names, mask_of, lowest, both, but_for}
use Rattle.afr_phases.specs.Outs.{is_short, left, used}
use Rattle.afr_phases.specs.Waves.{is_over}
use Rattle.afr_phases.proofs.Asked.{within_has}
use Rattle.afr_phases.proofs.Bits.{named}
use Rattle.afr_phases.proofs.Stays.{used_left}
use Rattle.afr_phases.proofs.Tracked.{left_places}
use Rattle.afr_phases.proofs.Truths.{flags_at, below_five, both_left, both_right, some_there, lowest_some}
use Rattle.afr_transaction.specs.declared.phase.Part.{Part}
use Rattle.afr_transaction.specs.declared.phase.Phase.TheVariants as phase
use Rattle.afr_transaction.specs.declared.phase.Then.TheVariants as next
use Rattle.afr_transaction.specs.declared.phase.Verdict.{Verdict}
use Rattle.afr_transaction.specs.declared.txn.Txn.{Txn}
use Rattle.afr_transaction.specs.Changes.{has_number, drawing, marking}
use Rattle.afr_transaction.specs.Copied.{healed, is_change, copied_all, copy_by, copy_next, copy_noted, copy_taken}
use Rattle.afr_transaction.specs.Copies.{sinks_left, has_sink, has_source, next_part, copy_job, copying, with_out, with_outs, is_left}
use Rattle.afr_transaction.specs.Locked.{unlock, fail}
use Rattle.afr_transaction.specs.Requests.{HoldsLocks, KeepsIn}
use Rattle.afr_transaction.specs.Settles.{settle_parts}
use Rattle.afr_transaction.specs.Shapes.{has_cell, have_cells, is_group, are_copies}
use Rattle.afr_transaction.specs.Txns.{alive, is_heal, kept}
use Rattle.afr_transaction.proofs.TurnsBase.{On, OnWith, IsStill, alive_low, asks_alive, someone}
use Rattle.afr_transaction.proofs.TurnsLocked.{unlock_on, fail_on}

-- ---- the copy that is asked for

record First (cells : List Cell) : Type 0 where
  cell : Cell
  rest : List Cell
  is : cells ≡ cell ∷ rest

first_of : (cells : List Cell) → has_cell cells ≡ true → First cells
first_of [] h = absurd (true≢false (sym h))
first_of (cell ∷ cells) h = record { cell = cell; rest = cells; is = refl }

-- a replica of a mask that is used
held_of : (txn : Txn) (flags : List Bool) (k : ℕ) → k < 5 → flag flags k ≡ true → flag (alive txn) k ≡ true → HasHeld (mask_of flags) (mask_of (alive txn))
held_of txn flags k low f u = record { replica = k; low = low; named = named flags k low ∙ f; holds = named (alive txn) k low ∙ u }

held_within : (txn : Txn) → is_within txn.size.n (flags_of (mask_of (alive txn))) ≡ true
held_within txn = within_has txn.size.n (flags_of (mask_of (alive txn))) low where
  low : (k : ℕ) → flag (flags_of (mask_of (alive txn))) k ≡ true → k < txn.size.n
  low k h =
      alive_low txn k (sym (named (alive txn) k (below_five (names (mask_of (alive txn))) k h)) ∙ flags_at (names (mask_of (alive txn))) k h)

has_work : (txn : Txn) (part : Part) → has_cell part.cells ≡ true → has_sink txn part ≡ true → has_source txn part ≡ true → HasWork txn.size.n (copy_job txn part)
has_work txn part cells sinks sources =
    let first = first_of part.cells cells in
    let sink = some_there (sinks_left txn part) sinks in
    let source = some_there (both part.sources (alive txn)) sources in
    record {
      cell = first.cell;
      rest = first.rest;
      cells = first.is;
      sink = held_of txn (sinks_left txn part) sink.0 sink.1.1 sink.1.0 (both_right part.sinks (alive txn) sink.0 sink.1.0);
      source = held_of txn part.sources source.0 source.1.1 (both_left part.sources (alive txn) source.0 source.1.0) (both_right part.sources (alive txn) source.0 source.1.0);
      within = held_within txn;
    }

-- what is known of the next part
abbrev pub IsNext : Txn → Option Part × List Part → Type 0
IsNext txn (None, parts) = Unit {0}
IsNext txn (Some part, parts) = (has_sink txn part ≡ true) × ((has_cell part.cells ≡ true) × (have_cells parts ≡ true))

pub next_is : (txn : Txn) (parts : List Part) → have_cells parts ≡ true → IsNext txn (next_part txn parts)
next_is txn [] cells = tt
next_is txn (part ∷ parts) cells =
    let both = and_parts (has_cell part.cells) (have_cells parts) cells in
    cond_both (has_sink txn part) (Some part, parts) (next_part txn parts) (IsNext txn) (λ e. (e, both)) (λ e. next_is txn parts both.1)

abbrev part_of : Txn → Verdict → Part
part_of txn verdict = record { cells = txn.cells; sources = verdict.group; sinks = but_for txn.shown.reached verdict.group }

-- a settling copies to those outside its group, where there is a cell
pub settle_is : (txn : Txn) (verdict : Verdict) → is_group txn verdict ≡ true → IsNext txn (next_part txn (settle_parts txn verdict.group))
settle_is txn verdict group =
    cond_both (has_sink txn (part_of txn verdict)) (Some (part_of txn verdict), []) (None, []) (IsNext txn) (λ e. (e, (celled e, refl))) (λ e. tt)
  where
    celled : has_sink txn (part_of txn verdict) ≡ true → has_cell txn.cells ≡ true
    celled e = by (or_cases (has_cell txn.cells) (is_none (lowest (but_for txn.shown.reached verdict.group))) (and_parts (is_some txn.settles) _ group).1) where
      there : is_some (lowest (but_for txn.shown.reached verdict.group)) ≡ true
      there =
          let s = some_there (both (but_for txn.shown.reached verdict.group) (alive txn)) e in
          lowest_some (but_for txn.shown.reached verdict.group) s.0 s.1.1 (both_left (but_for txn.shown.reached verdict.group) (alive txn) s.0 s.1.0)

      clash : (o : Option ℕ) → is_some o ≡ true → is_none o ≡ true → ⊥
      clash None s n = true≢false (sym s)
      clash (Some k) s n = true≢false (sym n)

      by : (has_cell txn.cells ≡ true) ⊎ (is_none (lowest (but_for txn.shown.reached verdict.group)) ≡ true) → has_cell txn.cells ≡ true
      by (inl h) = h
      by (inr h) = absurd (clash (lowest (but_for txn.shown.reached verdict.group)) there h)

-- ---- who went out during a copy

out_five : (n : ℕ) (outs : Outs) (out : Out) → length outs.at ≡ 5 → length (with_out n outs out).at ≡ 5
out_five n outs out five = cond_both (nat_lt out.replica n) (left outs out.replica out.fault out.mark) outs (λ (o : Outs). length o.at ≡ 5) (λ e. left_places outs out.replica out.mark out.fault five) (λ e. five)

pub outs_five : (n : ℕ) (outs : Outs) (list : List Out) → length outs.at ≡ 5 → length (with_outs n outs list).at ≡ 5
outs_five n outs [] five = five
outs_five n outs (out ∷ list) five = outs_five n (with_out n outs out) list (out_five n outs out five)

out_used : (n : ℕ) (outs : Outs) (out : Out) (k : ℕ) → flag (used (with_out n outs out) n) k ≡ true → flag (used outs n) k ≡ true
out_used n outs out k =
    cond_both (nat_lt out.replica n) (left outs out.replica out.fault out.mark) outs (λ (o : Outs). flag (used o n) k ≡ true → flag (used outs n) k ≡ true) (λ e. used_left n outs out.replica out.mark out.fault k) (λ e h. h)

outs_used : (n : ℕ) (outs : Outs) (list : List Out) (k : ℕ) → flag (used (with_outs n outs list) n) k ≡ true → flag (used outs n) k ≡ true
outs_used n outs [] k h = h
outs_used n outs (out ∷ list) k h = out_used n outs out k (outs_used n (with_out n outs out) list k h)

-- ---- the turns

-- a job that settles a change, or that has enough replicas
abbrev pub MayMark : Txn → Type 0
MayMark txn = (is_some txn.settles ≡ true) ⊎ (is_short txn.outs txn.size.n txn.size.q ≡ false)

module _ (G : Type 0) (live : Mask) (last : List ℕ) where
  mark_on : (txn : Txn) (ledger : State Cell) → IsStill G txn → (G → HoldsLocks txn) → is_short txn.outs txn.size.n txn.size.q ≡ false → OnWith G txn.size (marking txn ledger live last)
  mark_on txn ledger still holds enough =
      cond_both (has_number ledger) (drawing txn ledger) _ (OnWith G txn.size)
      (λ e. let some = someone txn enough in asks_alive G txn (req.Mark (ledger.drawn + 1) txn.cells) (phase.Marking (ledger.drawn + 1)) still.1.0 still.1.1 some.0 some.1 refl holds (λ g j f. (holds g j f, refl)))
      (λ e. fail_on G live last txn ledger still)

  all_on : (txn : Txn) (ledger : State Cell) → IsStill G txn → (G → HoldsLocks txn) → MayMark txn → OnWith G txn.size (copied_all txn ledger live last)
  all_on txn ledger still holds may =
      cond_both (is_some txn.settles) _ _ (OnWith G txn.size) (λ e. unlock_on G live last txn next.Again ledger still)
      (λ e. cond_both (is_change txn.job) _ _ (OnWith G txn.size) (λ c. mark_on txn ledger still holds (enough may e))
      (λ c. cond_both (is_heal txn.job) _ _ (OnWith G txn.size) (λ h. unlock_on G live last (healed txn) (next.Answer (reply.Healed txn.records)) ledger still)
      (λ h. unlock_on G live last txn next.Again ledger still)))
    where
      enough : MayMark txn → is_some txn.settles ≡ false → is_short txn.outs txn.size.n txn.size.q ≡ false
      enough (inl s) e = absurd (true≢false (sym s ∙ e))
      enough (inr n) e = n

  by_part : (txn : Txn) (t : Option Part × List Part) (ledger : State Cell) → IsNext txn t → IsStill G txn → (G → HoldsLocks txn) → MayMark txn → OnWith G txn.size (copy_by txn t ledger live last)
  by_part txn (None, parts) ledger fits still holds may = all_on txn ledger still holds may
  by_part txn (Some part, parts) ledger fits still holds may =
      cond_both (has_source txn part) _ _ (OnWith G txn.size)
      (λ e. (
        (
          refl,
          (
            and_from (is_over txn.wave) (are_granted_within txn.size.n txn.locks && have_cells parts) still.0
                (and_from (are_granted_within txn.size.n txn.locks) (have_cells parts) still.1.0 fits.1.1),
            has_work txn part fits.1.0 fits.0 e,
          ),
        ),
        λ g. (record { places = still.1.1 g; locks = holds g }, λ k low n. holds g k (sym (named (alive txn) k low) ∙ n)),
      ))
      (λ e. unlock_on G live last txn next.Again ledger still)

  pub next_on : (txn : Txn) (parts : List Part) (ledger : State Cell) → IsNext txn (next_part txn parts) → IsStill G txn → (G → HoldsLocks txn) → MayMark txn → OnWith G txn.size (copy_next txn parts ledger live last)
  next_on txn parts ledger fits still holds may = by_part txn (next_part txn parts) ledger fits still holds may

  -- a copy is done
  noted_on : (after : Txn) (sinks : List Bool) (parts : List Part) (current : Mask) (ledger : State Cell) → have_cells parts ≡ true → IsStill G after → (G → HoldsLocks after)
      → OnWith G after.size (cond (is_short after.outs after.size.n after.size.q) (kept (fail after ledger live last) ledger)
      (cond (is_left after sinks current) (kept (unlock after next.Again ledger live last) ledger) (copy_next after parts ledger live last)))
  noted_on after sinks parts current ledger cells still holds =
      cond_both (is_short after.outs after.size.n after.size.q) _ _ (OnWith G after.size) (λ e. fail_on G live last after ledger still)
      (λ e. cond_both (is_left after sinks current) _ _ (OnWith G after.size) (λ l. unlock_on G live last after next.Again ledger still)
      (λ l. next_on after parts ledger (next_is after parts cells) still holds (inr e)))

  pub taken_on : (txn : Txn) (sinks : List Bool) (parts : List Part) (done : CopyDone) (ledger : State Cell) → have_cells parts ≡ true → IsStill G txn → (G → HoldsLocks txn)
      → OnWith G txn.size (copy_taken txn sinks parts done ledger live last)
  taken_on txn sinks parts done ledger cells still holds =
      cond_both (is_heal txn.job) (record txn { outs = with_outs txn.size.n txn.outs done.outs; records = txn.records ++ done.records }) (record txn { outs = with_outs txn.size.n txn.outs done.outs })
      (λ (after : Txn). OnWith G txn.size (cond (is_short after.outs after.size.n after.size.q) (kept (fail after ledger live last) ledger)
      (cond (is_left after sinks done.current) (kept (unlock after next.Again ledger live last) ledger) (copy_next after parts ledger live last))))
      (λ e. noted_on (record txn { outs = with_outs txn.size.n txn.outs done.outs; records = txn.records ++ done.records }) sinks parts done.current ledger cells (still.0, (still.1.0, λ g. outs_five txn.size.n txn.outs done.outs (still.1.1 g))) (λ g k f. holds g k (outs_used txn.size.n txn.outs done.outs k f)))
      (λ e. noted_on (record txn { outs = with_outs txn.size.n txn.outs done.outs }) sinks parts done.current ledger cells (still.0, (still.1.0, λ g. outs_five txn.size.n txn.outs done.outs (still.1.1 g))) (λ g k f. holds g k (outs_used txn.size.n txn.outs done.outs k f)))
