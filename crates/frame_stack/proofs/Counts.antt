-- How many frames and winds are open after one call of a stack.
use Rattle.std.proofs.Common.{◌≡◌, refl, ap, ◌∙◌, arith, set}
use Rattle.std.proofs.lemmas.List.Sums.{sum_by-set}
use Rattle.std.specs.Prelude.{ℕ, ◌≤◌, ◌+◌, cond, List, length, Option, Some, None, is_some}
use Rattle.frame_stack.specs.Cells.{cell_at, put_at, taken, IsInserted}
use Rattle.frame_stack.proofs.Lists.{count_put, count_emptied}
use Rattle.frame_stack.proofs.Vacancy.{some_within}

module _ {X : Type 0} where
  pub taken_put : (cells : List (Option X)) (k : ℕ) (x : X) → k ≤ length cells → cell_at cells k ≡ None → taken (put_at cells k (Some x)) ≡ taken cells + 1
  taken_put cells k x within vacant = count_put is_some cells k (Some x) within (ap is_some vacant)

  pub taken_inserted : (cells cells2 : List (Option X)) (k : ℕ) (x : X) → IsInserted cells cells2 k x → taken cells2 ≡ taken cells + 1
  taken_inserted cells cells2 k x ins = ap taken ins.put ∙ taken_put cells k x ins.within ins.vacant

  pub taken_emptied : (cells : List (Option X)) (k : ℕ) (x : X) → cell_at cells k ≡ Some x → taken (set cells k None) + 1 ≡ taken cells
  taken_emptied cells k x is = count_emptied is_some cells k x (some_within cells k x is) is refl

  pub taken_replaced : (cells : List (Option X)) (k : ℕ) (x y : X) → cell_at cells k ≡ Some x → taken (set cells k (Some y)) ≡ taken cells
  taken_replaced cells k x y is =
      let s = sum_by-set (λ c. cond (is_some c) 1 0) cells k (Some y) None (some_within cells k x is) in
      let o : ◌≡◌ {A = ℕ} (cond (is_some (cell_at cells k)) 1 0) (cond (is_some (Some x)) 1 0) = ap (λ c. cond (is_some c) 1 0) is in
      omega (arith, s, o)
