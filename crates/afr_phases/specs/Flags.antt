-- One truth for each replica of a set, by rising replica, five in all; and the masks that name replicas, replica k by
-- bit k.
use Rattle.std.specs.Prelude.{ℕ, ◌+◌, ◌*◌, Bool, true, false, ◌==◌, nat_lt, ◌&&◌, not, List, [], ◌∷◌, Option, Some, None, slice_index_or, if◌then◌else◌}
use Rattle.std.specs.Int.{bit_at}
use Rattle.fop_types.specs.declared.contents.Mask.{Mask}

-- the truth for a replica
abbrev pub flag : List Bool → ℕ → Bool
flag flags k = slice_index_or flags k false

-- the five truths of a predicate
abbrev pub flags_by : (ℕ → Bool) → List Bool
flags_by p = p 0 ∷ p 1 ∷ p 2 ∷ p 3 ∷ p 4 ∷ []

abbrev pub no_flags : List Bool
no_flags = false ∷ false ∷ false ∷ false ∷ false ∷ []

-- the mask names the replica
abbrev pub names : Mask → ℕ → Bool
names mask k = bit_at mask.0 k == 1

-- the replicas that a mask names
abbrev pub flags_of : Mask → List Bool
flags_of mask = flags_by (names mask)

abbrev pub bit : Bool → ℕ
bit true = 1
bit false = 0

-- the number whose bits, from the lowest on, are these truths
abbrev pub number_of : List Bool → ℕ
number_of [] = 0
number_of (flag ∷ flags) = bit flag + 2 * number_of flags

-- the mask that names these replicas
abbrev pub mask_of : List Bool → Mask
mask_of flags = record { 0 = number_of (flags_by (flag flags)) }

-- the lowest replica of which it is true
abbrev pub lowest : List Bool → Option ℕ
lowest flags =
    if flag flags 0 then Some 0
    else if flag flags 1 then Some 1
    else if flag flags 2 then Some 2
    else if flag flags 3 then Some 3
    else if flag flags 4 then Some 4
    else None

-- of both
abbrev pub both : List Bool → List Bool → List Bool
both flags others = flags_by (λ k. flag flags k && flag others k)

-- of the first and not of the second
abbrev pub but_for : List Bool → List Bool → List Bool
but_for flags others = flags_by (λ k. flag flags k && not (flag others k))

-- the replicas of a set of n that are not among these, reached or not
abbrev pub outside : ℕ → List Bool → List Bool
outside n flags = flags_by (λ k. nat_lt k n && not (flag flags k))
