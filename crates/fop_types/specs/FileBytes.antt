-- What a write and a truncate make of a file's bytes, and what a read gives (POSIX.1-2017: pwrite, ftruncate, pread).
use Rattle.std.specs.Prelude.{ℕ, ◌+◌, ◌-◌, List, [], ◌∷◌, ◌++◌, length, take, drop, replicate}
use Rattle.fop_types.specs.Limits.{max_data}

-- the greatest length of a file
abbrev pub file_limit : ℕ
file_limit = max_data

-- at least so many bytes: zero bytes at the end where there are fewer
abbrev pub padded : List ℕ → ℕ → List ℕ
padded bytes size = bytes ++ replicate (size - length bytes) 0

-- a gap between the end and the offset is filled with zero bytes; a write of no bytes changes nothing
abbrev pub written : List ℕ → ℕ → List ℕ → List ℕ
written bytes offset [] = bytes
written bytes offset (first ∷ rest) =
    take offset (padded bytes offset) ++ (first ∷ rest) ++ drop (offset + length (first ∷ rest)) bytes

abbrev pub resized : List ℕ → ℕ → List ℕ
resized bytes size = take size (padded bytes size)

-- no bytes at or past the end
abbrev pub read_from : List ℕ → ℕ → ℕ → List ℕ
read_from bytes offset count = take count (drop offset bytes)
