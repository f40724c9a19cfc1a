-- A replica that the transaction finds sound is sound in the machine's lock phase; a mask that names those outside a set is the
-- set of those outside it; and a cell that is at a place is one of the cells.
use Rattle.std.proofs.Common.{◌≡◌, ◌∙◌, ℕ, zero, suc, ◌-◌, ◌<◌, ◌≤◌, Bool, true, false, ◌&&◌, ◌==◌, not, nat_lt, List, [], ◌∷◌, ◌++◌, Option, Some, None, refl, sym, ap, subst, arith}
use Rattle.std.specs.Prelude.{take, slice_get, slice_index}
use Rattle.std.specs.Ordering.{is_eq}
use Rattle.std.proofs.lemmas.Bool.{and_parts, or_left, or_right, eqb-true, ltb-true, ltb-false, true≢false}
use Rattle.std.proofs.lemmas.Cmp.{tied_itself}
use Rattle.std.proofs.lemmas.Nat.Bits.{bit_at_above}
use Rattle.std.proofs.Math.Path.{fun_ext}
use Rattle.fop_types.specs.Bounds.{IsMask}
use Rattle.fop_types.specs.declared.cells.Cell.{Cell}
use Rattle.fop_types.specs.declared.contents.Mask.{Mask}
use Rattle.fop_types.specs.declared.contents.Row.{Row}
use Rattle.fop_types.proofs.MapLemmas.{cell_cmp_total}
use Rattle.afr_changelog.specs.Soundness.{IsSound, row_of, reached_in, accusers_of}
use Rattle.afr_machine.specs.Phases.{Phase as LockPhase, rows_up_to, shown_in, rows_in, IsSoundIn}
use Rattle.afr_machine.specs.Replicas.{Replicas, Size, outside}
use Rattle.afr_machine.specs.Touching.{is_cell, has_cell}
use Rattle.afr_phases.specs.declared.shown.Shown.{Shown}
use Rattle.afr_phases.specs.Flags.{flag, names}
use Rattle.afr_phases.specs.Shown.{shown_at, rows_at, is_row_good, is_sound}
use Rattle.afr_phases.proofs.Truths.{flags_at}
use Rattle.afr_transaction.specs.declared.txn.Txn.{Txn}
use Rattle.afr_transaction.specs.Reads.{sound_on}
use Rattle.afr_transaction.specs.Requests.{AccusesBut}
use Rattle.txn_machine.specs.Records.{IsShownBy}

-- ---- cells

pub has_at : (cells : List Cell) (c : ℕ) (cell : Cell) → slice_get cells c ≡ Some cell → has_cell cells cell ≡ true
has_at [] c cell at = absurd cc
has_at (x ∷ xs) zero cell at =
    let same : cell ≡ x = cc in
    or_left (is_cell cell x) (has_cell xs cell) (subst (λ (y : Cell). is_cell cell y ≡ true) same (ap is_eq (tied_itself cell_cmp_total cell)))
has_at (x ∷ xs) (suc c) cell at = or_right (is_cell cell x) (has_cell xs cell) (has_at xs c cell at)

-- ---- rows

rows_same : (f g : ℕ → Option Row) (n : ℕ) → ((k : ℕ) → k < n → f k ≡ g k) → rows_up_to n f ≡ rows_up_to n g
rows_same f g zero same = refl
rows_same f g (suc n) same =
    ap (λ (rows : List (Option Row)). rows ++ f n ∷ []) (rows_same f g n (λ k low. same k (omega arith)))
    ∙ ap (λ (row : Option Row). rows_up_to n g ++ row ∷ []) (same n (omega arith))

rows_taken : (shown : Shown) (c n : ℕ) → n ≤ 5 → rows_up_to n (shown_at shown c) ≡ take n (rows_at shown c)
rows_taken shown c zero few = refl
rows_taken shown c (suc zero) few = refl
rows_taken shown c (suc (suc zero)) few = refl
rows_taken shown c (suc (suc (suc zero))) few = refl
rows_taken shown c (suc (suc (suc (suc zero)))) few = refl
rows_taken shown c (suc (suc (suc (suc (suc zero))))) few = refl
rows_taken shown c (suc (suc (suc (suc (suc (suc n)))))) few = absurd (omega arith)

module _ (rows : List (Option Row)) (n q k : ℕ) where
  sound_by : (o : Option Row) → row_of rows k ≡ o → is_row_good o k ≡ true → accusers_of rows k < reached_in rows - (n - q) → IsSound rows n q k
  sound_by None is good few = absurd (true≢false (sym good))
  sound_by (Some row) is good few =
      let parts = and_parts row.present (slice_index row.pending k == 0) good in
      record { row = row; reached = is; present = parts.0; trusts_itself = eqb-true (slice_index row.pending k) 0 parts.1; few_accusers = few }

  sound_is : is_sound rows n q k ≡ true → IsSound rows n q k
  sound_is h =
      let parts = and_parts (is_row_good (row_of rows k) k) (nat_lt (accusers_of rows k) (reached_in rows - (n - q))) h in
      sound_by (row_of rows k) refl parts.0 (ltb-true (accusers_of rows k) (reached_in rows - (n - q)) parts.1)

module _ (size : Size) (ended : LockPhase) (txn : Txn) (shows : IsShownBy size ended txn) (replicas : size.replicas ≡ txn.size.n) (quorum : size.quorum ≡ txn.size.q) where
  rows_are : (c : ℕ) (cell : Cell) → slice_get txn.cells c ≡ Some cell → rows_in size ended cell ≡ take txn.size.n (rows_at txn.shown c)
  rows_are c cell at =
      let shown : rows_in size ended cell ≡ rows_up_to size.replicas (shown_at txn.shown c) = rows_same (shown_in ended cell) (shown_at txn.shown c) size.replicas (λ k low. shows.rows k c cell low at) in
      shown
      ∙ ap (λ (n : ℕ). rows_up_to n (shown_at txn.shown c)) replicas
      ∙ rows_taken txn.shown c txn.size.n txn.size.few

  pub sound_in : (c k : ℕ) (cell : Cell) → slice_get txn.cells c ≡ Some cell → flag (sound_on txn c) k ≡ true → IsSoundIn size ended cell k
  unfolding sound_on
  sound_in c k cell at h =
      subst (λ (rows : List (Option Row)). IsSound rows size.replicas size.quorum k) (sym (rows_are c cell at))
      (subst (λ (n : ℕ). IsSound (take txn.size.n (rows_at txn.shown c)) n size.quorum k) (sym replicas)
      (subst (λ (q : ℕ). IsSound (take txn.size.n (rows_at txn.shown c)) txn.size.n q k) (sym quorum)
      (sound_is (take txn.size.n (rows_at txn.shown c)) txn.size.n txn.size.q k (flags_at (is_sound (take txn.size.n (rows_at txn.shown c)) txn.size.n txn.size.q) k h))))

-- ---- those outside a set

none_named : (mask : Mask) (k : ℕ) → IsMask mask → 5 ≤ k → names mask k ≡ false
none_named mask k small high = ap (λ (n : ℕ). n == 1) (bit_at_above mask.0 5 k (omega (arith, small)) high)

not_low : (k n : ℕ) → n ≤ 5 → 5 ≤ k → nat_lt k n ≡ false
not_low k n few high = by (nat_lt k n) refl where
  by : (b : Bool) → nat_lt k n ≡ b → b ≡ false
  by false e = refl
  by true e = absurd (omega (arith, ltb-true k n e))

and_same : (b c d : Bool) → (b ≡ true → c ≡ d) → (b && not c) ≡ (b && not d)
and_same true c d same = ap not (same refl)
and_same false c d same = refl

pub accuses_outside : (size : Size) (mask : Mask) (n : ℕ) (flags : List Bool) (set : Replicas) → IsMask mask → AccusesBut mask n flags → n ≤ 5 → size.replicas ≡ n → ((k : ℕ) → k < n → flag flags k ≡ set k) → names mask ≡ outside size set
accuses_outside size mask n flags set small exactly few replicas same = fun_ext (λ k. by k (nat_lt k 5) refl) where
  by : (k : ℕ) (b : Bool) → nat_lt k 5 ≡ b → names mask k ≡ outside size set k
  by k true e =
      let named : names mask k ≡ (nat_lt k n && not (flag flags k)) = exactly k (ltb-true k 5 e) in
      let apart : (nat_lt k n && not (set k)) ≡ outside size set k = ap (λ (m : ℕ). nat_lt k m && not (set k)) (sym replicas) in
      named ∙ and_same (nat_lt k n) (flag flags k) (set k) (λ low. same k (ltb-true k n low)) ∙ apart
  by k false e =
      let high : 5 ≤ k = ltb-false k 5 e in
      let apart : outside size set k ≡ false = ap (λ (b : Bool). b && not (set k)) (not_low k size.replicas (omega (arith, few, replicas)) high) in
      none_named mask k small high ∙ sym apart
