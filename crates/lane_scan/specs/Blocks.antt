-- A block has 4,096 bytes, in 64 pieces of 64 bytes each.
use Rattle.std.specs.Prelude.{◌≡◌, ◌≢◌, ℕ, ◌*◌, ◌↔◌, List, take, drop}
use Rattle.std.specs.Int.{bit_at}
use Rattle.std.specs.List.{All}

-- the k-th piece
abbrev pub piece : ℕ → List ℕ → List ℕ
piece k block = take 64 (drop (64 * k) block)

-- bit k of the number is 1 exactly where the k-th pieces differ
abbrev pub MarksDifferences : List ℕ → List ℕ → ℕ → Type 0
MarksDifferences a b bits = (k : ℕ) → (bit_at bits k ≡ 1) ↔ (piece k a ≢ piece k b)

-- each byte of the block is zero
abbrev pub IsZero : List ℕ → Type 0
IsZero block = All (λ byte. byte ≡ 0) block
