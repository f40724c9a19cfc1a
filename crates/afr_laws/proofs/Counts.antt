-- Counts of replicas.
use Rattle.std.proofs.Common.{◌≡◌, ℕ, zero, suc, ◌+◌, ◌<◌, ◌≤◌, Bool, true, false, refl, ap, arith}
use Rattle.std.specs.Prelude.{not, ◌&&◌}
use Rattle.afr_machine.specs.Replicas.{Replicas, one_if, count}
use Rattle.afr_laws.specs.Rows.{IsCommonTo, QuorumsMeet}

pub count_at_most : (n : ℕ) (a : Replicas) → count n a ≤ n
count_at_most zero a = omega arith
count_at_most (suc k) a = omega (arith, count_at_most k a, one_at_most (a k)) where
  one_at_most : (b : Bool) → one_if b ≤ 1
  one_at_most true = omega arith
  one_at_most false = omega arith

-- a larger set has at least as many
pub count_within : (n : ℕ) (a b : Replicas) → ((k : ℕ) → k < n → a k ≡ true → b k ≡ true) → count n a ≤ count n b
count_within zero a b w = omega arith
count_within (suc k) a b w = omega (arith, count_within k a b (λ j l h. w j (omega arith) h), one_within (a k) (b k) (w k (omega arith))) where
  one_within : (x y : Bool) → (x ≡ true → y ≡ true) → one_if x ≤ one_if y
  one_within true true h = omega arith
  one_within true false h = absurd (let e : false ≡ true = h refl in cc)
  one_within false true h = omega arith
  one_within false false h = omega arith

pub count_same : (n : ℕ) (a b : Replicas) → ((k : ℕ) → k < n → a k ≡ b k) → count n a ≡ count n b
count_same zero a b s = refl
count_same (suc k) a b s = omega (arith, count_same k a b (λ j l. s j (omega arith)), ap one_if (s k (omega arith)))

-- the members of a set, in another one and not in it
pub count_split : (n : ℕ) (a u : Replicas) → count n a ≡ count n (λ k. u k && a k) + count n (λ k. not (u k) && a k)
count_split zero a u = refl
count_split (suc k) a u = omega (arith, count_split k a u, one_split (a k) (u k)) where
  one_split : (x y : Bool) → one_if x ≡ one_if (y && x) + one_if (not y && x)
  one_split true true = refl
  one_split true false = refl
  one_split false true = refl
  one_split false false = refl

-- a set and what is outside it
pub count_outside : (n : ℕ) (u : Replicas) → count n u + count n (λ k. not (u k)) ≡ n
count_outside zero u = refl
count_outside (suc k) u = omega (arith, count_outside k u, one_outside (u k)) where
  one_outside : (x : Bool) → one_if x + one_if (not x) ≡ 1
  one_outside true = refl
  one_outside false = refl

pub quorums_meet : QuorumsMeet
quorums_meet zero a b h = absurd (omega arith)
quorums_meet (suc k) a b h = by_case (quorums_meet k a b) (a k) (b k) refl refl where
  below : (k < count k a + count k b → IsCommonTo k a b) → k < count k a + count k b → IsCommonTo (suc k) a b
  below ih l = let c = ih l in record { member = c.member; replica = omega (arith, c.replica); first = c.first; second = c.second }

  by_case : (k < count k a + count k b → IsCommonTo k a b) → (x y : Bool) → a k ≡ x → b k ≡ y → IsCommonTo (suc k) a b
  by_case ih true true p q = record { member = k; replica = omega arith; first = p; second = q }
  by_case ih true false p q = below ih (omega (arith, ap one_if p, ap one_if q))
  by_case ih false true p q = below ih (omega (arith, ap one_if p, ap one_if q))
  by_case ih false false p q = below ih (omega (arith, ap one_if p, ap one_if q))
