-- A place further on.
use Rattle.std.proofs.Common.{◌≡◌, ℕ, suc, ◌+◌, Option, Some, None, refl, ap, arith}
use Rattle.std.specs.Option.{option_map}

abbrev pub later : ℕ → Option ℕ → Option ℕ
later n None = None
later n (Some k) = Some (n + k)

pub later_suc : (n : ℕ) (o : Option ℕ) → later n (option_map suc o) ≡ later (n + 1) o
later_suc n None = refl
later_suc n (Some k) = ap Some (omega arith)

pub later_zero : (o : Option ℕ) → later 0 o ≡ o
later_zero None = refl
later_zero (Some k) = ap Some (omega arith)
