-- The head of a stream of bytes: its first 64 bytes, or all of them where there are fewer.
use Rattle.std.specs.Prelude.{ℕ, nat_lt, List, [], ◌∷◌, ◌++◌, length, if◌then◌else◌}

-- the head after one more byte
abbrev pub pushed : List ℕ → ℕ → List ℕ
pushed head byte = if nat_lt (length head) 64 then head ++ byte ∷ [] else head

-- the head after further bytes
abbrev pub head_with : List ℕ → List ℕ → List ℕ
head_with head [] = head
head_with head (byte ∷ bytes) = head_with (pushed head byte) bytes
