-- A change that becomes unsettled on other cells leaves a job no more rounds.
use Rattle.std.proofs.Common.{◌≡◌, ℕ, ◌+◌, ◌≤◌, Bool, true, false, ◌&&◌, ◌||◌, not, cond, List, [], ◌∷◌, Option, Some, None, is_some, is_none, refl, sym, ap, arith}
use Rattle.std.specs.Prelude.{◌≢◌}
use Rattle.std.specs.BTreeMap.{insert_entry}
use Rattle.std.specs.declared.cmp.Ordering.{Ordering}
use Rattle.std.specs.declared.cmp.Ordering.TheVariants.{Less, Equal, Greater}
use Rattle.std.specs.Ordering.{is_eq, nat_cmp, match_ordering}
use Rattle.std.proofs.lemmas.Bool.{and_from, and_parts, or_right, true≢false}
use Rattle.fop_types.specs.Orders.{cell_cmp}
use Rattle.fop_types.specs.declared.cells.Cell.{Cell}
use Rattle.afr_ledger.specs.Changes.{numbered, touching, touches_any, with_change}
use Rattle.afr_ledger.specs.Ledger.{State, with_begun}
use Rattle.afr_ledger.specs.declared.unsettled.Unsettled.{Unsettled}
use Rattle.afr_phases.specs.Flags.{bit}
use Rattle.afr_transaction.specs.declared.phase.Phase.{Phase}
use Rattle.afr_transaction.specs.declared.phase.Phase.TheVariants as phase
use Rattle.afr_transaction.specs.declared.phase.Then.TheVariants as next
use Rattle.afr_transaction.specs.declared.txn.Txn.{Txn}
use Rattle.afr_transaction.specs.Changes.{is_drawn}
use Rattle.afr_transaction.specs.Copied.{is_change}
use Rattle.afr_transaction.specs.Jobs.{change_op}
use Rattle.afr_transaction.specs.Locked.{job_cells, settles_first}
use Rattle.afr_transaction.specs.Txns.{alive, is_heal}
use Rattle.txn_laws.specs.Work.{how_many}
use Rattle.txn_laws.specs.Rounds.{unsettled_on, is_unsettled_on, occasions, is_met, is_one_out, lack_sources, is_lock_late, is_read_late, is_copy_late, is_mark_late, is_settle_late, rounds_in, IsElsewhere, BeginsElsewhereRaiseNothing}
use Rattle.txn_laws.proofs.Counts.{bit_less, bit_none}
use Rattle.txn_laws.proofs.Others.{begin_more, both_less, met_less, none_less}
use Rattle.txn_laws.proofs.Paying.{same}
use Rattle.txn_laws.proofs.Unsettled.{same_number}

or_more : (a r s : Bool) → (r ≡ true → s ≡ true) → (a || r) ≡ true → (a || s) ≡ true
or_more true r s h e = refl
or_more false r s h e = h e

module _ (set : ℕ) (cells : List Cell) (n : ℕ) (w : Unsettled Cell) (off : touches_any cell_cmp set cells w ≡ false) where
  not_first : (o : Option ℕ) → is_some (cond (touches_any cell_cmp set cells w) (Some n) o) ≡ true → is_some o ≡ true
  not_first o = by (touches_any cell_cmp set cells w) off where
    by : (b : Bool) → b ≡ false → is_some (cond b (Some n) o) ≡ true → is_some o ≡ true
    by true e h = absurd (true≢false e)
    by false e h = h

  none_added : (us : List (ℕ × Unsettled Cell)) → is_none (numbered n us) ≡ true → unsettled_on set cells (insert_entry nat_cmp us n w) ≤ unsettled_on set cells us
  none_added [] new = omega (arith, bit_none (touches_any cell_cmp set cells w) off)
  none_added (u ∷ us) new = by (nat_cmp n u.0) new (none_added us) where
    by : (o : Ordering) → is_none (cond (is_eq o) (Some u.1) (numbered n us)) ≡ true → (is_none (numbered n us) ≡ true → unsettled_on set cells (insert_entry nat_cmp us n w) ≤ unsettled_on set cells us)
        → unsettled_on set cells (match_ordering o ((n, w) ∷ u ∷ us) ((u.0, w) ∷ us) (u ∷ insert_entry nat_cmp us n w)) ≤ unsettled_on set cells (u ∷ us)
    by Less h rest = omega (arith, bit_none (touches_any cell_cmp set cells w) off)
    by Equal h rest = absurd (true≢false (sym h))
    by Greater h rest = omega (arith, rest h)

  still_on : (c : ℕ) (us : List (ℕ × Unsettled Cell)) → is_none (numbered n us) ≡ true → is_unsettled_on set cells c us ≡ true → is_unsettled_on set cells c (insert_entry nat_cmp us n w) ≡ true
  still_on c [] new there = absurd (true≢false (sym there))
  still_on c (u ∷ us) new there = by (nat_cmp n u.0) new (still_on c us) where
    by : (o : Ordering) → is_none (cond (is_eq o) (Some u.1) (numbered n us)) ≡ true
        → (is_none (numbered n us) ≡ true → is_unsettled_on set cells c us ≡ true → is_unsettled_on set cells c (insert_entry nat_cmp us n w) ≡ true)
        → is_unsettled_on set cells c (match_ordering o ((n, w) ∷ u ∷ us) ((u.0, w) ∷ us) (u ∷ insert_entry nat_cmp us n w)) ≡ true
    by Less h rest = or_right (is_eq (nat_cmp c n) && touches_any cell_cmp set cells w) (is_unsettled_on set cells c (u ∷ us)) there
    by Equal h rest = absurd (true≢false (sym h))
    by Greater h rest = or_more (is_eq (nat_cmp c u.0) && touches_any cell_cmp set cells u.1) (is_unsettled_on set cells c us) (is_unsettled_on set cells c (insert_entry nat_cmp us n w)) (rest h) there

  touched_before : (us : List (ℕ × Unsettled Cell)) → is_none (numbered n us) ≡ true → is_some (touching cell_cmp set cells (insert_entry nat_cmp us n w)) ≡ true → is_some (touching cell_cmp set cells us) ≡ true
  touched_before [] new = not_first None
  touched_before (u ∷ us) new = by (nat_cmp n u.0) new (touched_before us) where
    later : (b : Bool) → (is_some (touching cell_cmp set cells (insert_entry nat_cmp us n w)) ≡ true → is_some (touching cell_cmp set cells us) ≡ true)
        → is_some (cond b (Some u.0) (touching cell_cmp set cells (insert_entry nat_cmp us n w))) ≡ true → is_some (cond b (Some u.0) (touching cell_cmp set cells us)) ≡ true
    later true rest h = refl
    later false rest h = rest h

    by : (o : Ordering) → is_none (cond (is_eq o) (Some u.1) (numbered n us)) ≡ true
        → (is_none (numbered n us) ≡ true → is_some (touching cell_cmp set cells (insert_entry nat_cmp us n w)) ≡ true → is_some (touching cell_cmp set cells us) ≡ true)
        → is_some (touching cell_cmp set cells (match_ordering o ((n, w) ∷ u ∷ us) ((u.0, w) ∷ us) (u ∷ insert_entry nat_cmp us n w))) ≡ true → is_some (touching cell_cmp set cells (u ∷ us)) ≡ true
    by Less h rest = not_first (touching cell_cmp set cells (u ∷ us))
    by Equal h rest = absurd (true≢false (sym h))
    by Greater h rest = later (touches_any cell_cmp set cells u.1) (rest h)

-- another number is unsettled after it only where it was before
module _ (n : ℕ) (w : Unsettled Cell) (m : ℕ) (other : is_eq (nat_cmp m n) ≡ false) where
  not_this : (o : Option (Unsettled Cell)) → is_some (cond (is_eq (nat_cmp m n)) (Some w) o) ≡ true → is_some o ≡ true
  not_this o = by (is_eq (nat_cmp m n)) other where
    by : (b : Bool) → b ≡ false → is_some (cond b (Some w) o) ≡ true → is_some o ≡ true
    by true e h = absurd (true≢false e)
    by false e h = h

  numbered_before : (us : List (ℕ × Unsettled Cell)) → is_none (numbered n us) ≡ true → is_some (numbered m (insert_entry nat_cmp us n w)) ≡ true → is_some (numbered m us) ≡ true
  numbered_before [] new = not_this None
  numbered_before (u ∷ us) new = by (nat_cmp n u.0) new (numbered_before us) where
    later : (b : Bool) → (is_some (numbered m (insert_entry nat_cmp us n w)) ≡ true → is_some (numbered m us) ≡ true)
        → is_some (cond b (Some u.1) (numbered m (insert_entry nat_cmp us n w))) ≡ true → is_some (cond b (Some u.1) (numbered m us)) ≡ true
    later true rest h = refl
    later false rest h = rest h

    by : (o : Ordering) → is_none (cond (is_eq o) (Some u.1) (numbered n us)) ≡ true
        → (is_none (numbered n us) ≡ true → is_some (numbered m (insert_entry nat_cmp us n w)) ≡ true → is_some (numbered m us) ≡ true)
        → is_some (numbered m (match_ordering o ((n, w) ∷ u ∷ us) ((u.0, w) ∷ us) (u ∷ insert_entry nat_cmp us n w))) ≡ true → is_some (numbered m (u ∷ us)) ≡ true
    by Less h rest = not_this (numbered m (u ∷ us))
    by Equal h rest = absurd (true≢false (sym h))
    by Greater h rest = later (is_eq (nat_cmp m u.0)) (rest h)

-- ---- the rounds of a job

not_more : (a b : Bool) → (a ≡ true → b ≡ true) → bit (not b) ≤ bit (not a)
not_more true true h = omega arith
not_more true false h = absurd (true≢false (sym (h refl)))
not_more false true h = omega arith
not_more false false h = omega arith

or_not_more : (c a b : Bool) → (a ≡ true → b ≡ true) → bit (c || not b) ≤ bit (c || not a)
or_not_more true a b h = omega arith
or_not_more false a b h = not_more a b h

module _ (txn : Txn) (ledger : State Cell) (u : Unsettled Cell) (is : IsElsewhere txn ledger u) where
  more : (d e : ℕ) → d ≤ e → occasions txn (with_begun ledger u) + d ≤ occasions txn ledger + e
  more d e h =
      both_less (unsettled_on txn.set (job_cells txn.job) (with_change ledger.unsettled u)) (unsettled_on txn.set (job_cells txn.job) ledger.unsettled) (how_many (alive txn)) d e
      (none_added txn.set (job_cells txn.job) u.change u is.own ledger.unsettled is.number) h

  met_before : is_met txn.set txn.job txn.cells (with_begun ledger u) ≡ true → is_met txn.set txn.job txn.cells ledger ≡ true
  met_before h =
      let p = and_parts (settles_first txn.job) (is_some (touching cell_cmp txn.set txn.cells (with_change ledger.unsettled u))) h in
      and_from (settles_first txn.job) (is_some (touching cell_cmp txn.set txn.cells ledger.unsettled)) p.0 (touched_before txn.set txn.cells u.change u is.locked ledger.unsettled is.number p.1)

  settled_before : (change : ℕ) → is_unsettled_on txn.set (job_cells txn.job) change ledger.unsettled ≡ true → is_unsettled_on txn.set (job_cells txn.job) change (with_change ledger.unsettled u) ≡ true
  settled_before change = still_on txn.set (job_cells txn.job) u.change u is.own change ledger.unsettled is.number

  lock_in : (o : Option ℕ) → occasions txn (with_begun ledger u) + bit (is_lock_late o txn.set txn.job txn.cells (with_begun ledger u)) ≤ occasions txn ledger + bit (is_lock_late o txn.set txn.job txn.cells ledger)
  lock_in None = more (bit (is_met txn.set txn.job txn.cells (with_begun ledger u))) (bit (is_met txn.set txn.job txn.cells ledger)) (bit_less (is_met txn.set txn.job txn.cells (with_begun ledger u)) (is_met txn.set txn.job txn.cells ledger) met_before)
  lock_in (Some change) =
      more (bit (not (is_unsettled_on txn.set (job_cells txn.job) change (with_change ledger.unsettled u)))) (bit (not (is_unsettled_on txn.set (job_cells txn.job) change ledger.unsettled)))
      (not_more (is_unsettled_on txn.set (job_cells txn.job) change ledger.unsettled) (is_unsettled_on txn.set (job_cells txn.job) change (with_change ledger.unsettled u)) (settled_before change))

  other_number : (change : ℕ) → phase.Marking change ≢ phase.Marking u.change → is_eq (nat_cmp change u.change) ≡ false
  other_number change apart = by (is_eq (nat_cmp change u.change)) refl where
    by : (b : Bool) → is_eq (nat_cmp change u.change) ≡ b → b ≡ false
    by true e = absurd (apart (ap phase.Marking (same_number change u.change e)))
    by false e = refl

  begin_in : (p : Phase) → p ≢ phase.Marking u.change → rounds_in p txn (with_begun ledger u) ≤ rounds_in p txn ledger
  begin_in (phase.Locking at) apart = lock_in txn.settles
  begin_in (phase.Unlocking (next.Answer r)) apart = omega arith
  begin_in (phase.Unlocking next.Again) apart = more 1 1 (omega arith)
  begin_in (phase.Fetching place from contents) apart = more (bit (is_read_late txn)) (bit (is_read_late txn)) (same (bit (is_read_late txn)))
  begin_in (phase.Copying sinks rest) apart =
      more (bit (is_copy_late txn rest (with_begun ledger u))) (bit (is_copy_late txn rest ledger))
      (met_less (is_one_out txn.shown.reached (alive txn)) (is_some txn.settles) (lack_sources txn.shown.reached rest) (is_met txn.set txn.job txn.cells ledger) (is_met txn.set txn.job txn.cells (with_begun ledger u)) (not (is_change txn.job || is_heal txn.job)) met_before)
  begin_in (phase.Marking change) apart =
      more (bit (is_mark_late txn change (with_begun ledger u))) (bit (is_mark_late txn change ledger))
      (begin_more (is_none (touching cell_cmp txn.set txn.cells ledger.unsettled)) (is_none (touching cell_cmp txn.set txn.cells (with_change ledger.unsettled u))) (is_drawn change ledger)
      (is_none (numbered change ledger.unsettled)) (is_none (numbered change (with_change ledger.unsettled u))) (is_none (change_op txn.job))
      (none_less (touching cell_cmp txn.set txn.cells ledger.unsettled) (touching cell_cmp txn.set txn.cells (with_change ledger.unsettled u)) (touched_before txn.set txn.cells u.change u is.locked ledger.unsettled is.number))
      (none_less (numbered change ledger.unsettled) (numbered change (with_change ledger.unsettled u)) (numbered_before u.change u change (other_number change apart) ledger.unsettled is.number)))
  begin_in (phase.Writing change) apart = omega arith
  begin_in (phase.Posting change adopts) apart = omega arith
  begin_in (phase.Settling verdict) apart =
      more (bit (is_settle_late txn verdict (with_begun ledger u))) (bit (is_settle_late txn verdict ledger))
      (or_not_more verdict.decided (is_unsettled_on txn.set (job_cells txn.job) verdict.change ledger.unsettled) (is_unsettled_on txn.set (job_cells txn.job) verdict.change (with_change ledger.unsettled u)) (settled_before verdict.change))
  begin_in phase.Bearing apart = omega arith
  begin_in phase.Opening apart = omega arith
  begin_in (phase.Listing all) apart = omega arith
  begin_in phase.Over apart = omega arith

pub elsewhere_raises_nothing : BeginsElsewhereRaiseNothing
elsewhere_raises_nothing txn ledger u is = begin_in txn ledger u is txn.phase is.unmarked
