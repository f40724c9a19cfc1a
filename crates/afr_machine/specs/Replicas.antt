-- Sets of replicas, how many replicas there are and how many of them are a quorum. Ours.
use Rattle.std.specs.Prelude.{◌≡◌, ℕ, zero, suc, ◌+◌, ◌≤◌, ◌==◌, nat_lt, Bool, true, false, not, ◌&&◌, if◌then◌else◌}

-- a set of replicas, by their numbers
abbrev pub Replicas : Type 0
Replicas = ℕ → Bool

pub record Size : Type 0 where
  pub replicas : ℕ
  pub quorum : ℕ

-- an odd number of replicas, at most five, and more than half of them as quorum
pub record IsSize (size : Size) : Type 0 where
  pub odd : size.quorum + size.quorum ≡ size.replicas + 1
  pub few : size.replicas ≤ 5

abbrev pub nobody : Replicas
nobody k = false

-- the replicas that are not in the set, whether or not they were reached
abbrev pub outside : Size → Replicas → Replicas
outside size set k = nat_lt k size.replicas && not (set k)

abbrev pub one_if : Bool → ℕ
one_if true = 1
one_if false = 0

-- how many of the first n replicas are in the set
abbrev pub count : ℕ → Replicas → ℕ
count zero set = 0
count (suc k) set = one_if (set k) + count k set

module _ {A : Type 0} where
  -- the table with another entry at one number
  abbrev pub with_at : (ℕ → A) → ℕ → A → ℕ → A
  with_at table k entry j = if j == k then entry else table j
