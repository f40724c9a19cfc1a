-- What a request makes of the numbers in one store.
use Rattle.std.proofs.Common.{◌≡◌, ◌∙◌, ℕ, ◌≤◌, Bool, true, false, refl, sym, ap, subst, ◌⊎◌, inl, inr, arith, Option, Some, None, is_some}
use Rattle.std.specs.Prelude.{if◌then◌else◌, List, [], ◌∷◌, ◌&&◌, ◌||◌, ◌==◌, is_none}
use Rattle.std.proofs.lemmas.Bool.{eqb-true, eq-eqb}
use Rattle.fop_types.specs.Jobs.{cells_of}
use Rattle.fop_types.specs.StoreOps.{needs, births, fits, content_after}
use Rattle.fop_types.specs.declared.cells.Cell.{Cell}
use Rattle.fop_types.specs.declared.contents.Content.{Content}
use Rattle.fop_types.specs.declared.store_ops.StoreOp.{StoreOp}
use Rattle.afr_machine.specs.Touching.{is_cell, has_cell}
use Rattle.afr_machine.specs.Copies.{Copy, Kept, Store, Fetched, changes_of, contents_of, content_of, has_change, mark_of, post_of, settle_of, clear_of, on_cells, replaced, changes_after, copy_with, op_of, after_op}
use Rattle.afr_machine.specs.Requests.{Ask}
use Rattle.afr_machine.specs.Requests.Ask.{Mark, Op, Post, Replace, Clear, Settle}
use Rattle.afr_machine.specs.Bricks.{stored_by}
use Rattle.afr_machine.specs.Changes.{Change}
use Rattle.afr_laws.specs.OwnChanges.{was_unsettled, ChangesFit}
use Rattle.afr_laws.specs.Copies.{IsChangeOf, AreUpTo, IsCopyOf, IsFound, IsOpOf, Carries, Brings}
use Rattle.afr_laws.specs.Copies.IsLast.{NoneYet, Greatest}
use Rattle.afr_laws.proofs.Bools.{either_way, apart_bools}
use Rattle.afr_laws.proofs.Sharing.{cells_are}
use Rattle.afr_laws.proofs.Copies.Contents.{needed_present, content_stays}

-- ---- lists of numbers

or_right_true : (a b : Bool) → b ≡ true → (a || b) ≡ true
or_right_true true b e = refl
or_right_true false b e = e

has_first : (u : ℕ) (us : List ℕ) → has_change (u ∷ us) u ≡ true
has_first u us = ap (λ b. b || has_change us u) (eq-eqb u u refl)

pub up_to_all : (last : ℕ) (us : List ℕ) → ((v : ℕ) → has_change us v ≡ true → v ≤ last) → AreUpTo last us
up_to_all last [] f = tt
up_to_all last (u ∷ us) f = (f u (has_first u us), up_to_all last us (λ v h. f v (or_right_true (v == u) (has_change us v) h)))

-- ---- one cell

module _ (changes : ℕ → Change) (cell : Cell) where
  -- the numbers of one cell
  abbrev pub Numbers : Option Copy → ℕ → Type 0
  Numbers copy last = IsCopyOf changes cell (changes_of copy) last

  module _ (u : ℕ) (was : (u ≡ 0) ⊎ (was_unsettled (changes u).verdict ≡ true)) where
    -- a cell that is absent stays so, or is born
    absent_after : (last : ℕ) (born : Bool) (content : Option Content) → has_cell (changes u).cells cell ≡ false → Numbers None last → Numbers (copy_with [] content) (if born then u else last)
    absent_after last true None untouched n = record { changes_are = tt; last_was = was; last_is = NoneYet refl untouched }
    absent_after last true (Some content) untouched n = record { changes_are = tt; last_was = was; last_is = NoneYet refl untouched }
    absent_after last false None untouched n = n
    absent_after last false (Some content) untouched n = n

    altered_after : (us : List ℕ) (last : ℕ) → IsChangeOf changes cell u → ((v : ℕ) → has_change us v ≡ true → v ≤ u) → IsCopyOf changes cell us last → IsCopyOf changes cell (u ∷ us) u
    altered_after us last touched below n = record {
      changes_are = (touched, n.changes_are);
      last_was = was;
      last_is = Greatest (has_first u us) (omega arith, up_to_all u us below);
    }

    -- what a fitting op makes of it
    op_after : (copy : Option Copy) (last : ℕ) (altered born : Bool) (content : Option Content) → (altered ≡ true → IsChangeOf changes cell u) → (altered ≡ false → has_cell (changes u).cells cell ≡ false) →
        (altered ≡ true → is_some copy ≡ true) → (is_some copy ≡ true → is_some content ≡ true) → (altered ≡ true → (v : ℕ) → has_change (changes_of copy) v ≡ true → v ≤ u) → Numbers copy last →
        Numbers (copy_with (changes_after altered u copy) content) (if altered || (is_none copy && born) then u else last)
    op_after None last true born content touched untouched present stays below n = absurd (let no : false ≡ true = present refl in cc)
    op_after None last false born content touched untouched present stays below n = absent_after last born content (untouched refl) n
    op_after (Some copy) last altered born None touched untouched present stays below n = absurd (let no : false ≡ true = stays refl in cc)
    op_after (Some copy) last true born (Some content) touched untouched present stays below n = altered_after copy.changes last (touched refl) (below refl) n
    op_after (Some copy) last false born (Some content) touched untouched present stays below n = n

-- ---- an op

module _ (changes : ℕ → Change) (fit : ChangesFit changes) (u : ℕ) (op : StoreOp) (is : IsOpOf changes u op) where
  op_cells : (changes u).cells ≡ needs op
  op_cells = by_case is where
    by_case : IsOpOf changes u op → (changes u).cells ≡ needs op
    by_case (inl birth) = ap (λ n. (changes n).cells) birth.0 ∙ fit.none ∙ sym birth.1
    by_case (inr sent) = fit.needs_are u ∙ ap needs (sym sent.1)

  was : (u ≡ 0) ⊎ (was_unsettled (changes u).verdict ≡ true)
  was = by_case is where
    by_case : IsOpOf changes u op → (u ≡ 0) ⊎ (was_unsettled (changes u).verdict ≡ true)
    by_case (inl birth) = inl birth.0
    by_case (inr sent) = inr sent.0

  pub touched : (cell : Cell) → has_cell (needs op) cell ≡ true → IsChangeOf changes cell u
  touched cell h = by_case is where
    by_case : IsOpOf changes u op → IsChangeOf changes cell u
    by_case (inl birth) = apart_bools h (ap (λ cs. has_cell cs cell) birth.1)
    by_case (inr sent) = record { sent = sent.0; touches = ap (λ cs. has_cell cs cell) op_cells ∙ h }

  some_content : (copy : Option Copy) → is_some (content_of copy) ≡ is_some copy
  some_content None = refl
  some_content (Some copy) = refl

  module _ (store : Store) (cell : Cell) (stored : Numbers changes cell (store cell).copy (store cell).last) where
    pub op_numbers : (has_cell (needs op) cell ≡ true → (v : ℕ) → has_change (changes_of (store cell).copy) v ≡ true → v ≤ u) → Numbers changes cell (after_op u op store cell).copy (after_op u op store cell).last
    op_numbers below = by_case (fits (contents_of store) op) refl where
      by_case : (b : Bool) → fits (contents_of store) op ≡ b →
          Numbers changes cell (if b then op_of (contents_of store) u op cell (store cell) else store cell).copy (if b then op_of (contents_of store) u op cell (store cell) else store cell).last
      by_case true f =
          op_after changes cell u was (store cell).copy (store cell).last (has_cell (needs op) cell) (has_cell (cells_of (births op)) cell) (content_after (contents_of store) op cell)
          (touched cell) (λ h. ap (λ cs. has_cell cs cell) op_cells ∙ h)
          (λ h. sym (some_content (store cell).copy) ∙ needed_present (contents_of store) op cell f h)
          (λ h. content_stays (contents_of store) op cell (some_content (store cell).copy ∙ h))
          below stored
      by_case false f = stored

-- ---- each request

module _ (changes : ℕ → Change) (store : Store) (cell : Cell) (stored : Numbers changes cell (store cell).copy (store cell).last) where
  abbrev OfKept : Kept → Type 0
  OfKept kept = Numbers changes cell kept.copy kept.last

  on_numbers : (cells : List Cell) (f : Kept → Kept) → ((kept : Kept) → OfKept kept → OfKept (f kept)) → OfKept (on_cells cells f store cell)
  on_numbers cells f more = by_case (has_cell cells cell) where
    by_case : (b : Bool) → OfKept (if b then f (store cell) else store cell)
    by_case true = more (store cell) stored
    by_case false = stored

  replaced_numbers : (at : Cell) (found : Fetched) → IsFound changes at found → OfKept (replaced at found store cell)
  replaced_numbers at found n = by_case (is_cell cell at) refl where
    by_case : (b : Bool) → is_cell cell at ≡ b → OfKept (if b then record (store cell) { copy = Some found.copy; last = found.last } else store cell)
    by_case true e = subst (λ c. IsFound changes c found) (sym (cells_are cell at e)) n
    by_case false e = stored

  pub stored_numbers : (ask : Ask) → ChangesFit changes → Carries changes ask → ((u : ℕ) (op : StoreOp) → ask ≡ Op u op → has_cell (needs op) cell ≡ true → (v : ℕ) → has_change (changes_of (store cell).copy) v ≡ true → v ≤ u) → OfKept (stored_by ask store cell)
  stored_numbers (Mark u cells) fit c below = on_numbers cells mark_of (λ kept n. n)
  stored_numbers (Op u op) fit c below = op_numbers changes fit u op c store cell stored (below u op refl)
  stored_numbers (Post u cells accused) fit c below = on_numbers cells (post_of accused) (λ kept n. n)
  stored_numbers (Replace at found) fit c below = replaced_numbers at found c
  stored_numbers (Clear cells who) fit c below = on_numbers cells (clear_of who) (λ kept n. n)
  stored_numbers (Settle u cells accused) fit c below = on_numbers cells (settle_of accused) (λ kept n. n)
  stored_numbers other fit c below = stored

-- ---- where a number in a copy comes from

module _ (store : Store) (cell : Cell) (v : ℕ) where
  abbrev Had : Kept → Type 0
  Had kept = has_change (changes_of kept.copy) v ≡ true

  on_had : (cells : List Cell) (f : Kept → Kept) → ((kept : Kept) → Had (f kept) → Had kept) → Had (on_cells cells f store cell) → Had (store cell)
  on_had cells f less = by_case (has_cell cells cell) where
    by_case : (b : Bool) → Had (if b then f (store cell) else store cell) → Had (store cell)
    by_case true h = less (store cell) h
    by_case false h = h

  op_had : (u : ℕ) (op : StoreOp) (copy : Option Copy) (content : Option Content) (altered : Bool) → has_cell (needs op) cell ≡ altered → has_change (changes_of (copy_with (changes_after altered u copy) content)) v ≡ true → (has_change (changes_of copy) v ≡ true) ⊎ Brings (Op u op) cell v
  op_had u op copy None altered e h = absurd cc
  op_had u op None (Some content) true e h = absurd cc
  op_had u op None (Some content) false e h = absurd cc
  op_had u op (Some copy) (Some content) true e h = by_case (either_way (v == u) (has_change copy.changes v) h) where
    by_case : ((v == u) ≡ true) ⊎ (has_change copy.changes v ≡ true) → (has_change copy.changes v ≡ true) ⊎ Brings (Op u op) cell v
    by_case (inl same) = inr (e, eqb-true v u same)
    by_case (inr old) = inl old
  op_had u op (Some copy) (Some content) false e h = inl h

  pub stored_had : (ask : Ask) → Had (stored_by ask store cell) → Had (store cell) ⊎ Brings ask cell v
  stored_had (Mark u cells) h = inl (on_had cells mark_of (λ kept x. x) h)
  stored_had (Op u op) h = by_case (fits (contents_of store) op) h where
    by_case : (b : Bool) → Had (if b then op_of (contents_of store) u op cell (store cell) else store cell) → Had (store cell) ⊎ Brings (Op u op) cell v
    by_case true x = op_had u op (store cell).copy (content_after (contents_of store) op cell) (has_cell (needs op) cell) refl x
    by_case false x = inl x
  stored_had (Post u cells accused) h = inl (on_had cells (post_of accused) (λ kept x. x) h)
  stored_had (Replace at found) h = by_case (is_cell cell at) refl h where
    by_case : (b : Bool) → is_cell cell at ≡ b → Had (if b then record (store cell) { copy = Some found.copy; last = found.last } else store cell) → Had (store cell) ⊎ Brings (Replace at found) cell v
    by_case true e x = inr (cells_are cell at e, x)
    by_case false e x = inl x
  stored_had (Clear cells who) h = inl (on_had cells (clear_of who) (λ kept x. x) h)
  stored_had (Settle u cells accused) h = inl (on_had cells (settle_of accused) (λ kept x. x) h)
  stored_had other h = inl h
