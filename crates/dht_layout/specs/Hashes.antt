-- The hash of a name: FNV-1a of 32 bits, by Fowler, Noll and Vo. From 2166136261 on, each byte is first
-- xored into the number, which is then multiplied by 16777619 modulo 2 ^ 32.
use Rattle.std.specs.Prelude.{ℕ, ◌*◌, ◌%◌, ◌^◌, List, bit_xor}
use Rattle.std.specs.List.{fold}

-- the hash after one more byte
abbrev pub hash_after : ℕ → ℕ → ℕ
hash_after hash byte = bit_xor hash byte * 16777619 % 2 ^ 32

abbrev pub name_hash : List ℕ → ℕ
name_hash name = fold hash_after 2166136261 name
