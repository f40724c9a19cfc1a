-- The keys of the empty cells, each once, with room for the keys of all cells. No public clause cites this
-- module.
use Rattle.std.specs.Prelude.{ℕ, zero, suc, ◌≡◌, ◌≤◌, ◌+◌, ◌==◌, cond, List, [], ◌∷◌, length, Option, is_some}
use Rattle.frame_stack.specs.Cells.{taken}

abbrev pub times : ℕ → List ℕ → ℕ
times k [] = 0
times k (x ∷ xs) = cond (k == x) 1 0 + times k xs

module _ {T : Type 0} where
  -- one where the cell of the key is empty, and nothing where it holds a value or there is none
  abbrev pub free_at : List (Option T) → ℕ → ℕ
  free_at [] k = 0
  free_at (cell ∷ cells) zero = cond (is_some cell) 0 1
  free_at (cell ∷ cells) (suc k) = free_at cells k

  pub record AreVacant (cells : List (Option T)) (vacant : List ℕ) (room : ℕ) : Type 0 where
    pub listed : (k : ℕ) → times k vacant ≡ free_at cells k
    pub counted : taken cells + length vacant ≡ length cells
    pub roomy : length cells ≤ room
