-- Values under keys, as a list of cells: the cell of a key holds its value or is empty, and a key past the
-- end has none. A new value goes into an empty cell, and into a new one only where none is empty.
use Rattle.std.specs.Prelude.{ℕ, ◌≡◌, ◌≤◌, ◌==◌, cond, List, [], ◌∷◌, ◌++◌, length, Option, Some, None, is_some, count_by, slice_index_or, slice_set}

-- a list with this item at the place, which is one of its own or the one behind its last
abbrev pub put_at : {X : Type 0} → List X → ℕ → X → List X
put_at xs k x = cond (k == length xs) (xs ++ x ∷ []) (slice_set xs k x)

module _ {T : Type 0} where
  abbrev pub cell_at : List (Option T) → ℕ → Option T
  cell_at cells key = slice_index_or cells key None

  -- how many cells hold a value
  abbrev pub taken : List (Option T) → ℕ
  taken cells = count_by is_some cells

  pub record IsInserted (old new : List (Option T)) (key : ℕ) (value : T) : Type 0 where
    pub vacant : cell_at old key ≡ None
    pub within : key ≤ length old
    pub full : key ≡ length old → taken old ≡ length old
    pub put : new ≡ put_at old key (Some value)
