-- With all replicas reached, a replica that fewer than a quorum accuse is sound, so that nothing is split where each cell has
-- one.
use Rattle.std.proofs.Common.{◌≡◌, ℕ, suc, ◌+◌, ◌<◌, ◌⊎◌, inl, inr, Bool, true, false, not, List, [], ◌∷◌, Option, Some, None, is_none, is_some, length, refl, sym, ap, ◌∙◌, arith}
use Rattle.std.proofs.lemmas.Bool.{and_left, and_right, or_from, not_from_true, true≢false}
use Rattle.fop_types.specs.declared.answers.IoError.TheVariants as io
use Rattle.fop_types.specs.declared.answers.SplitRow.{SplitRow}
use Rattle.fop_types.specs.declared.cells.Cell.{Cell}
use Rattle.afr_changelog.specs.Conviction.{IsCleared}
use Rattle.afr_changelog.specs.Soundness.{reached_in}
use Rattle.afr_phases.specs.Flags.{flag, flags_by, both, lowest}
use Rattle.afr_phases.specs.Shown.{is_sound}
use Rattle.afr_phases.proofs.Sound.{sound_test}
use Rattle.afr_phases.proofs.Truths.{both_have, flags_have, lowest_some}
use Rattle.afr_transaction.specs.declared.txn.Txn.{Txn}
use Rattle.afr_transaction.specs.Causes.{FewLeft, NoNumber, FullHistory, BareCell, BareRead, BareChange}
use Rattle.txn_laws.specs.Free.{rows_shown, AllShow, HasFree, EachHasFree, EachReadHasFree, OneIsFree, SplitsLackFree}
use Rattle.afr_transaction.specs.Parts.{common_from, common_of, is_unsound, is_split}
use Rattle.afr_transaction.specs.Reads.{lacks, sound_on, is_bare, is_split_read}
use Rattle.afr_transaction.specs.Txns.{io_by, io_of, fault_pairs, lost_pairs}

-- ---- one cell

free_sound : (job : Txn) (c k : ℕ) → k < job.size.n → reached_in (rows_shown job c) ≡ job.size.n → IsCleared (rows_shown job c) job.size.q k → flag (sound_on job c) k ≡ true
unfolding sound_on
free_sound job c k low all free =
    flags_have (is_sound (rows_shown job c) job.size.n job.size.q) k (omega (arith, job.size.few))
    (sound_test (rows_shown job c) job.size.n job.size.q k (record {
      row = free.row;
      reached = free.reached;
      present = free.present;
      trusts_itself = free.trusts_itself;
      few_accusers = omega (arith, free.few_accusers, all, job.size.odd, job.size.quorum);
    }))

some_not : (o : Option ℕ) → is_some o ≡ true → is_none o ≡ false
some_not None h = absurd (true≢false (sym h))
some_not (Some k) h = refl

-- a cell with a sound replica is no cause of a split
not_none : (job : Txn) (c k : ℕ) → k < job.size.n → flag (sound_on job c) k ≡ true → is_none (lowest (sound_on job c)) ≡ false
not_none job c k low sound = some_not (lowest (sound_on job c)) (lowest_some (sound_on job c) k (omega (arith, job.size.few)) sound)

not_unsound : (job : Txn) (c k : ℕ) → k < job.size.n → flag (sound_on job c) k ≡ true → is_unsound job c ≡ false
unfolding is_unsound
not_unsound job c k low sound = not_none job c k low sound

not_bare : (job : Txn) (c k : ℕ) → k < job.size.n → flag (sound_on job c) k ≡ true → is_bare job c ≡ false
unfolding is_bare
not_bare job c k low sound = and_right (not (lacks job c)) (is_none (lowest (sound_on job c))) (not_none job c k low sound)

lacking_not_bare : (job : Txn) (c : ℕ) → lacks job c ≡ true → is_bare job c ≡ false
unfolding is_bare
lacking_not_bare job c h = and_left (not (lacks job c)) (is_none (lowest (sound_on job c))) (not_from_true (lacks job c) h)

-- ---- all cells

not_split_from : (job : Txn) (c : ℕ) (cells : List Cell) → ((i m : ℕ) → m ≡ c + i → i < length cells → is_unsound job m ≡ false) → is_split job c cells ≡ false
not_split_from job c [] each = refl
not_split_from job c (cell ∷ cells) each =
    or_from (is_unsound job c) (is_split job (c + 1) cells) (each 0 c (omega arith) (omega arith))
    (not_split_from job (c + 1) cells (λ i m e low. each (suc i) m (omega arith) (omega arith)))

not_bare_from : (job : Txn) (c : ℕ) (cells : List Cell) → ((i m : ℕ) → m ≡ c + i → i < length cells → is_bare job m ≡ false) → is_split_read job c cells ≡ false
not_bare_from job c [] each = refl
not_bare_from job c (cell ∷ cells) each =
    or_from (is_bare job c) (is_split_read job (c + 1) cells) (each 0 c (omega arith) (omega arith))
    (not_bare_from job (c + 1) cells (λ i m e low. each (suc i) m (omega arith) (omega arith)))

common_has : (job : Txn) (k : ℕ) → k < 5 → (c : ℕ) (cells : List Cell) (flags : List Bool) → flag flags k ≡ true → ((i m : ℕ) → m ≡ c + i → i < length cells → flag (sound_on job m) k ≡ true) → flag (common_from job flags c cells) k ≡ true
common_has job k low c [] flags h each = h
common_has job k low c (cell ∷ cells) flags h each =
    common_has job k low (c + 1) cells (both flags (sound_on job c)) (both_have flags (sound_on job c) k low h (each 0 c (omega arith) (omega arith)))
    (λ i m e l. each (suc i) m (omega arith) (omega arith))

module _ (job : Txn) (shows : AllShow job) where
  not_split : EachHasFree job → is_split job 0 job.cells ≡ false
  not_split each = not_split_from job 0 job.cells (λ i m e low. one m (omega arith)) where
    one : (m : ℕ) → m < length job.cells → is_unsound job m ≡ false
    one m low =
        let f : HasFree job m = each m low in
        not_unsound job m f.replica f.low (free_sound job m f.replica f.low (shows m low) f.free)

  not_split_read : EachReadHasFree job → is_split_read job 0 job.cells ≡ false
  not_split_read each = not_bare_from job 0 job.cells (λ i m e low. one m (omega arith)) where
    by : (m : ℕ) → m < length job.cells → (lacks job m ≡ true) ⊎ HasFree job m → is_bare job m ≡ false
    by m low (inl absent) = lacking_not_bare job m absent
    by m low (inr f) = not_bare job m f.replica f.low (free_sound job m f.replica f.low (shows m low) f.free)

    one : (m : ℕ) → m < length job.cells → is_bare job m ≡ false
    one m low = by m low (each m low)

  has_common : OneIsFree job → is_some (lowest (common_of job)) ≡ true
  has_common f =
      let low : f.replica < 5 = omega (arith, f.low, job.size.few) in
      lowest_some (common_of job) f.replica low
      (common_has job f.replica low 0 job.cells (flags_by (λ j. true)) (flags_have (λ j. true) f.replica low refl) (λ i m e l. one m (omega arith)))
    where
      one : (m : ℕ) → m < length job.cells → flag (sound_on job m) f.replica ≡ true
      one m low = free_sound job m f.replica f.low (shows m low) (f.free m low)

-- an error for lack of replicas is no split
no_split : (set other : ℕ) (rows : List SplitRow) (faults lost : List (ℕ × ℕ)) → io.Split set rows ≡ io_by other faults lost → ⊥
no_split set other rows [] lost e = absurd cc
no_split set other rows (fault ∷ faults) lost e = absurd cc

not_few : (job : Txn) (set : ℕ) (rows : List SplitRow) → io.Split set rows ≡ io_of job → ⊥
not_few job set rows e = no_split set job.set rows (fault_pairs job.bricks job.outs.at) (lost_pairs job.bricks job.outs.at) e

pub splits_lack : SplitsLackFree
splits_lack job ledger set rows shows frees (FewLeft short e) = not_few job set rows e
splits_lack job ledger set rows shows frees (NoNumber none e) = not_few job set rows e
splits_lack job ledger set rows shows frees (FullHistory full e) = not_few job set rows e
splits_lack job ledger set rows shows frees (BareCell own is split e) = true≢false (sym split ∙ not_split job shows (frees.change own is))
splits_lack job ledger set rows shows frees (BareRead own is split e) = true≢false (sym split ∙ not_split_read job shows (frees.read own is))
splits_lack job ledger set rows shows frees (BareChange settles none e) =
    let some : is_some (lowest (common_of job)) ≡ true = has_common job shows (frees.settling settles) in
    let nobody : is_some (lowest (common_of job)) ≡ false = ap is_some none in
    true≢false (sym some ∙ nobody)
