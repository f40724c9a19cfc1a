-- Lists that grow by what each item of another list gives: one item more.
use Rattle.std.proofs.Common.{◌≡◌, ◌∙◌, ℕ, ◌+◌, ◌-◌, ◌<◌, ◌≤◌, List, [], ◌∷◌, ◌++◌, Option, refl, sym, ap, subst, length, get_or, drop, append_assoc, arith}
use Rattle.std.proofs.lemmas.List.{at_drop_more}
use Rattle.fop_types.specs.declared.cells.Cell.{Cell}
use Rattle.fop_types.specs.declared.copy_jobs.Out.{Out}
use Rattle.fop_types.specs.declared.answers.SplitRow.{SplitRow}
use Rattle.afr_transaction.specs.declared.txn.Txn.{Txn}
use Rattle.afr_transaction.specs.Reads.{split_cell, split_rows}
use Rattle.afr_transaction.specs.Txns.{with_lost, lost_pairs, with_fault, fault_pairs}

-- `f` of the items that are left is the part of the first of them, and then `g` of those after it
module _ {A B : Type 0} (f g : List A → List B) (xs : List A) (i : ℕ) (d : A) (part list more whole : List B) where
  grown : i < length xs → f (get_or xs i d ∷ drop (i + 1) xs) ≡ part ++ g (drop (i + 1) xs) → more ≡ list ++ part → list ++ f (drop i xs) ≡ whole → more ++ g (drop (i + 1) xs) ≡ whole
  grown fits first made so =
      ap (λ (l : List B). l ++ g (drop (i + 1) xs)) made
      ∙ append_assoc list part (g (drop (i + 1) xs))
      ∙ ap (λ (l : List B). list ++ l) (sym first ∙ sym (at_drop_more f xs i d fits))
      ∙ so

-- what the items from a place on give, and then the one before them
module _ (bricks : List ℕ) where
  pub lost_more : (outs : List (Option Out)) (k : ℕ) (d : Option Out) (list more : List (ℕ × ℕ)) → 0 < k → k ≤ length outs → more ≡ with_lost bricks (get_or outs (k - 1) d) list → list ≡ lost_pairs bricks (drop k outs) → more ≡ lost_pairs bricks (drop (k - 1) outs)
  lost_more outs k d list more above fits made so =
      let next : k ≡ k - 1 + 1 = omega (arith, above) in
      made ∙ ap (with_lost bricks (get_or outs (k - 1) d)) (so ∙ ap (λ (n : ℕ). lost_pairs bricks (drop n outs)) next)
      ∙ sym (at_drop_more (λ (l : List (Option Out)). lost_pairs bricks l) outs (k - 1) d (omega (arith, above, fits)))

  pub fault_more : (outs : List (Option Out)) (k : ℕ) (d : Option Out) (list more : List (ℕ × ℕ)) → 0 < k → k ≤ length outs → more ≡ with_fault bricks (get_or outs (k - 1) d) list → list ≡ fault_pairs bricks (drop k outs) → more ≡ fault_pairs bricks (drop (k - 1) outs)
  fault_more outs k d list more above fits made so =
      let next : k ≡ k - 1 + 1 = omega (arith, above) in
      made ∙ ap (with_fault bricks (get_or outs (k - 1) d)) (so ∙ ap (λ (n : ℕ). fault_pairs bricks (drop n outs)) next)
      ∙ sym (at_drop_more (λ (l : List (Option Out)). fault_pairs bricks l) outs (k - 1) d (omega (arith, above, fits)))

pub rows_more : (txn : Txn) (c : ℕ) (cells items : List Cell) (i : ℕ) (d : Cell) (list more whole : List SplitRow) → items ≡ cells → i < length items → more ≡ list ++ split_cell txn c (get_or items i d) → list ++ split_rows txn c (drop i cells) ≡ whole → more ++ split_rows txn (c + 1) (drop (i + 1) cells) ≡ whole
rows_more txn c cells items i d list more whole same fits made so =
    grown (λ (l : List Cell). split_rows txn c l) (λ (l : List Cell). split_rows txn (c + 1) l) cells i d (split_cell txn c (get_or cells i d)) list more whole
    (subst (λ (l : List Cell). i < length l) same fits) refl (made ∙ ap (λ (l : List Cell). list ++ split_cell txn c (get_or l i d)) same) so
