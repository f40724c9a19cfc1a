-- Owners whose locks waited, answered one after another.
use Rattle.std.proofs.Common.{◌≡◌, ◌∙◌, ◌<◌, ◌+◌, ◌++◌, ◌∷◌, [], List, ℕ, suc, refl, ap, sym, drop, take, length, get_or, drop-cons, arith}
use Rattle.std.proofs.Math.Seq.{take-suc}
use Rattle.fop_types.specs.declared.cells.Cell.{Cell}
use Rattle.fop_types.specs.declared.contents.Row.{Row}
use Rattle.fop_types.specs.declared.messages.BrickRep.{BrickRep}
use Rattle.brick_locks.specs.declared.owner.Owner.{Owner}
use Rattle.cell_store.specs.Cells.{Cells, kept_at, row_of}
use Rattle.brick_machine.specs.Waiting.{Waiting, waiter_of, without_waiter}
use Rattle.brick_machine.specs.Locking.{rows_of, to_waiter, answered, left_waiting}
use Rattle.brick_machine.specs.code.Outs.{Outgoing, put_out}
use Rattle.brick_machine.specs.declared.waiters.Waiter.{Waiter}
use Rattle.brick_machine.proofs.Puts.{put_both}

module _ (owners : List Owner) (i : ℕ) (d : Owner) (fits : i < length owners) where
  next_is : drop i owners ≡ get_or owners i d ∷ drop (i + 1) owners
  next_is =
      let next : suc i ≡ i + 1 = omega arith in
      drop-cons owners i d fits ∙ ap (λ (n : ℕ). get_or owners i d ∷ drop n owners) next

  pub left_next : (now after start : Waiting) → after ≡ without_waiter now (get_or owners i d)
      → left_waiting now (drop i owners) ≡ left_waiting start owners → left_waiting after (drop (i + 1) owners) ≡ left_waiting start owners
  left_next now after start made so_far =
      ap (λ (w : Waiting). left_waiting w (drop (i + 1) owners)) made ∙ ap (λ (l : List Owner). left_waiting now l) (sym next_is) ∙ so_far

  pub answered_next : (rep : Waiter → BrickRep) (now after start : Waiting) (outs more first : Outgoing) → after ≡ without_waiter now (get_or owners i d)
      → more ≡ put_out outs (to_waiter rep (waiter_of now (get_or owners i d)))
      → put_out outs (answered rep now (drop i owners)) ≡ put_out first (answered rep start owners)
      → put_out more (answered rep after (drop (i + 1) owners)) ≡ put_out first (answered rep start owners)
  answered_next rep now after start outs more first made put so_far =
      ap (λ (o : Outgoing). put_out o (answered rep after (drop (i + 1) owners))) put
      ∙ ap (λ (w : Waiting). put_out (put_out outs (to_waiter rep (waiter_of now (get_or owners i d)))) (answered rep w (drop (i + 1) owners))) made
      ∙ put_both outs (to_waiter rep (waiter_of now (get_or owners i d))) (answered rep (without_waiter now (get_or owners i d)) (drop (i + 1) owners))
      ∙ ap (λ (l : List Owner). put_out outs (answered rep now l)) (sym next_is) ∙ so_far

-- ---- the rows of cells, one more

rows_push : (cells : Cells) (xs : List Cell) (c : Cell) → rows_of cells (xs ++ c ∷ []) ≡ rows_of cells xs ++ row_of (kept_at cells c) ∷ []
rows_push cells [] c = refl
rows_push cells (x ∷ xs) c = ap (λ (l : List Row). row_of (kept_at cells x) ∷ l) (rows_push cells xs c)

pub rows_next : (cells : Cells) (those : List Cell) (i : ℕ) (d : Cell) (before after : List Row) (row : Row) → i < length those → row ≡ row_of (kept_at cells (get_or those i d))
    → after ≡ before ++ row ∷ [] → before ≡ rows_of cells (take i those) → after ≡ rows_of cells (take (i + 1) those)
rows_next cells those i d before after row fits read put so_far =
    let next : suc i ≡ i + 1 = omega arith in
    put ∙ ap (λ (l : List Row). l ++ row ∷ []) so_far ∙ ap (λ (x : Row). rows_of cells (take i those) ++ x ∷ []) read
    ∙ sym (rows_push cells (take i those) (get_or those i d)) ∙ ap (rows_of cells) (sym (take-suc those i d fits)) ∙ ap (λ (k : ℕ). rows_of cells (take k those)) next
