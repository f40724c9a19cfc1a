-- Loops over the cells of a lock phase of which only the places count: one cell more.
use Rattle.std.proofs.Common.{◌≡◌, ℕ, suc, ◌+◌, ◌-◌, ◌<◌, Bool, true, false, ◌&&◌, ◌||◌, cond, List, [], ◌∷◌, ◌++◌, Option, Some, None, refl, sym, ap, ◌∙◌, length, drop, arith}
use Rattle.std.specs.Prelude.{is_none, slice_get}
use Rattle.std.specs.List.{remove}
use Rattle.std.proofs.lemmas.List.{at_drop_more}
use Rattle.fop_types.specs.declared.cells.Cell.{Cell}
use Rattle.fop_types.specs.declared.contents.Content.{Content}
use Rattle.fop_types.specs.declared.contents.Mask.{Mask}
use Rattle.afr_ledger.specs.Ledger.{State}
use Rattle.afr_phases.specs.declared.shown.Shown.{Shown}
use Rattle.afr_phases.specs.Flags.{both, lowest}
use Rattle.afr_phases.specs.Shown.{shown_at}
use Rattle.afr_transaction.specs.declared.need.Need.{Need}
use Rattle.afr_transaction.specs.declared.txn.Txn.{Txn}
use Rattle.afr_transaction.specs.Sound.{is_last, has_change, is_alike, agrees}
use Rattle.afr_transaction.specs.Reads.{sound_on, lacks, is_bare, is_split_read, with_absent, fetch_at, fetch_next}
use Rattle.afr_transaction.specs.Parts.{common_from, is_unsound, is_split}

or_false : (b c : Bool) → b ≡ false → (b || c) ≡ c
or_false b c h = ap (λ t. t || c) h

or_true : (b c : Bool) → b ≡ true → (b || c) ≡ true
or_true b c h = ap (λ t. t || c) h

and_true : (b c : Bool) → b ≡ true → (b && c) ≡ c
and_true b c h = ap (λ t. t && c) h

and_false : (b c : Bool) → b ≡ false → (b && c) ≡ false
and_false b c h = ap (λ t. t && c) h

module _ (shown : Shown) (change c k i : ℕ) where
  has_step : (cells : List Cell) → i < length cells → has_change shown change c (drop i cells) k ≡ (is_last (shown_at shown c k) change && has_change shown change (c + 1) (drop (i + 1) cells) k)
  has_step [] h = absurd (omega arith)
  has_step (x ∷ xs) h = at_drop_more (λ (l : List Cell). has_change shown change c l k) (x ∷ xs) i x h

  pub has_not : (cells : List Cell) (whole : Bool) → i < length cells → has_change shown change c (drop i cells) k ≡ whole → is_last (shown_at shown c k) change ≡ false → false ≡ whole
  has_not cells whole h is off = sym (and_false (is_last (shown_at shown c k) change) (has_change shown change (c + 1) (drop (i + 1) cells) k) off) ∙ sym (has_step cells h) ∙ is

  pub has_more : (cells : List Cell) (whole : Bool) → i < length cells → has_change shown change c (drop i cells) k ≡ whole → is_last (shown_at shown c k) change ≡ true → has_change shown change (c + 1) (drop (i + 1) cells) k ≡ whole
  has_more cells whole h is so = sym (and_true (is_last (shown_at shown c k) change) (has_change shown change (c + 1) (drop (i + 1) cells) k) so) ∙ sym (has_step cells h) ∙ is

module _ (shown : Shown) (change source c k i : ℕ) where
  agrees_step : (cells : List Cell) → i < length cells → agrees shown change source c (drop i cells) k ≡ (is_alike shown change source c k && agrees shown change source (c + 1) (drop (i + 1) cells) k)
  agrees_step [] h = absurd (omega arith)
  agrees_step (x ∷ xs) h = at_drop_more (λ (l : List Cell). agrees shown change source c l k) (x ∷ xs) i x h

  pub agrees_not : (cells : List Cell) (whole : Bool) → i < length cells → agrees shown change source c (drop i cells) k ≡ whole → is_alike shown change source c k ≡ false → false ≡ whole
  agrees_not cells whole h is off = sym (and_false (is_alike shown change source c k) (agrees shown change source (c + 1) (drop (i + 1) cells) k) off) ∙ sym (agrees_step cells h) ∙ is

  pub agrees_more : (cells : List Cell) (whole : Bool) → i < length cells → agrees shown change source c (drop i cells) k ≡ whole → is_alike shown change source c k ≡ true → agrees shown change source (c + 1) (drop (i + 1) cells) k ≡ whole
  agrees_more cells whole h is so = sym (and_true (is_alike shown change source c k) (agrees shown change source (c + 1) (drop (i + 1) cells) k) so) ∙ sym (agrees_step cells h) ∙ is

module _ (txn : Txn) (c i : ℕ) where
  bare_step : (cells : List Cell) → i < length cells → is_split_read txn c (drop i cells) ≡ (is_bare txn c || is_split_read txn (c + 1) (drop (i + 1) cells))
  bare_step [] h = absurd (omega arith)
  bare_step (x ∷ xs) h = at_drop_more (λ (l : List Cell). is_split_read txn c l) (x ∷ xs) i x h

  pub bare_here : (cells : List Cell) (whole : Bool) → i < length cells → is_split_read txn c (drop i cells) ≡ whole → is_bare txn c ≡ true → true ≡ whole
  bare_here cells whole h is so = sym (or_true (is_bare txn c) (is_split_read txn (c + 1) (drop (i + 1) cells)) so) ∙ sym (bare_step cells h) ∙ is

  pub bare_later : (cells : List Cell) (whole : Bool) → i < length cells → is_split_read txn c (drop i cells) ≡ whole → is_bare txn c ≡ false → is_split_read txn (c + 1) (drop (i + 1) cells) ≡ whole
  bare_later cells whole h is off = sym (or_false (is_bare txn c) (is_split_read txn (c + 1) (drop (i + 1) cells)) off) ∙ sym (bare_step cells h) ∙ is

  split_step : (cells : List Cell) → i < length cells → is_split txn c (drop i cells) ≡ (is_unsound txn c || is_split txn (c + 1) (drop (i + 1) cells))
  split_step [] h = absurd (omega arith)
  split_step (x ∷ xs) h = at_drop_more (λ (l : List Cell). is_split txn c l) (x ∷ xs) i x h

  pub split_here : (cells : List Cell) (whole : Bool) → i < length cells → is_split txn c (drop i cells) ≡ whole → is_unsound txn c ≡ true → true ≡ whole
  split_here cells whole h is so = sym (or_true (is_unsound txn c) (is_split txn (c + 1) (drop (i + 1) cells)) so) ∙ sym (split_step cells h) ∙ is

  pub split_later : (cells : List Cell) (whole : Bool) → i < length cells → is_split txn c (drop i cells) ≡ whole → is_unsound txn c ≡ false → is_split txn (c + 1) (drop (i + 1) cells) ≡ whole
  split_later cells whole h is off = sym (or_false (is_unsound txn c) (is_split txn (c + 1) (drop (i + 1) cells)) off) ∙ sym (split_step cells h) ∙ is

  pub common_more : (flags : List Bool) (cells : List Cell) (whole : List Bool) → i < length cells → common_from txn flags c (drop i cells) ≡ whole → common_from txn (both flags (sound_on txn c)) (c + 1) (drop (i + 1) cells) ≡ whole
  common_more flags [] whole h is = absurd (omega arith)
  common_more flags (x ∷ xs) whole h is = sym (at_drop_more (λ (l : List Cell). common_from txn flags c l) (x ∷ xs) i x h) ∙ is

one_less : (n c : ℕ) → c < n → n - c ≡ suc (n - (c + 1))
one_less n c h = omega arith

module _ (txn : Txn) (n c : ℕ) (contents : List (Option Content)) (at : length contents ≡ c) (low : c < n) where
  absent_step : with_absent txn contents (n - c) ≡ cond (lacks txn c) (with_absent txn (contents ++ None ∷ []) (n - (c + 1))) contents
  absent_step = ap (λ (m : ℕ). with_absent txn contents m) (one_less n c low) ∙ ap (λ (m : ℕ). cond (lacks txn m) (with_absent txn (contents ++ None ∷ []) (n - (c + 1))) contents) at

  pub absent_more : (more : List (Option Content)) → more ≡ contents ++ None ∷ [] → lacks txn c ≡ true → with_absent txn more (n - (c + 1)) ≡ with_absent txn contents (n - c)
  absent_more more is so = ap (λ (m : List (Option Content)). with_absent txn m (n - (c + 1))) is ∙ sym (absent_step ∙ ap (λ (b : Bool). cond b (with_absent txn (contents ++ None ∷ []) (n - (c + 1))) contents) so)

  pub absent_stop : lacks txn c ≡ false → contents ≡ with_absent txn contents (n - c)
  absent_stop off = sym (absent_step ∙ ap (λ (b : Bool). cond b (with_absent txn (contents ++ None ∷ []) (n - (c + 1))) contents) off)

-- a list with one item more
pub one_longer : {A : Type 0} (xs : List A) (x : A) → length (xs ++ x ∷ []) ≡ length xs + 1
one_longer [] x = refl
one_longer (y ∷ ys) x = omega (arith, one_longer ys x)

-- a read whose contents are completed goes on with the cell after them
pub goes_on : (txn : Txn) (place n : ℕ) (contents all : List (Option Content)) (next : Option Cell) (ledger : State Cell) (live : Mask) (last : List ℕ) (turn : Txn × Need)
    → all ≡ with_absent txn contents (length txn.cells - length contents) → n ≡ length all → next ≡ slice_get txn.cells n
    → ◌≡◌ {A = Txn × Need} turn (fetch_at txn place all next ledger live last) → ◌≡◌ {A = Txn × Need} turn (fetch_next txn place contents ledger live last)
goes_on txn place n contents all next ledger live last turn is long at made =
    made ∙ ap (λ (x : Option Cell). fetch_at txn place all x ledger live last) (at ∙ ap (λ (m : ℕ). slice_get txn.cells m) long)
    ∙ ap (λ (cs : List (Option Content)). fetch_at txn place cs (slice_get txn.cells (length cs)) ledger live last) is
