-- Who is asked between two turns of a job, and whom its requests name: what a frame relies on that sends the requests and
-- waits for their answers.
use Rattle.std.specs.Prelude.{◌≡◌, ℕ, ◌+◌, ◌==◌, nat_lt, Bool, true, false, ◌&&◌, ◌||◌, not, List, [], ◌∷◌, map, is_some}
use Rattle.fop_types.specs.declared.messages.BrickReq.{BrickReq}
use Rattle.afr_phases.specs.declared.locks.Locks.{Locks}
use Rattle.afr_phases.specs.declared.wave.Wave.{Wave}
use Rattle.afr_phases.specs.Waves.{is_asked, is_over}

-- ---- of which replicas it is true

-- each of these truths, of the `k`-th replica and those after it, is of a replica with the property
abbrev pub are_among : (ℕ → Bool) → ℕ → List Bool → Bool
are_among p k [] = true
are_among p k (flag ∷ flags) = (not flag || p k) && are_among p (k + 1) flags

-- only of replicas below `n`
abbrev pub is_within : ℕ → List Bool → Bool
is_within n flags = are_among (λ k. nat_lt k n) 0 flags

-- of no replica but this one
abbrev pub is_only : ℕ → List Bool → Bool
is_only at flags = are_among (λ k. k == at) 0 flags

-- ---- a phase that is under way in a set of n

-- somebody is asked, and only replicas of the set
abbrev pub is_waiting : ℕ → Wave → Bool
is_waiting n wave = not (is_over wave) && is_within n wave.asked

-- nobody but this replica is asked
abbrev pub IsLast : ℕ → Wave → Type 0
IsLast k wave = (j : ℕ) → (is_asked wave j && not (j == k)) ≡ false

-- who is asked once this replica has answered
abbrev pub AreOthers : ℕ → Wave → Wave → Type 0
AreOthers k before after = (j : ℕ) → is_asked after j ≡ (is_asked before j && not (j == k))

-- only replicas of the set have granted locks
abbrev pub are_granted_within : ℕ → Locks → Bool
are_granted_within n locks = is_within n (map is_some locks.at)

-- ---- requests

-- whether a request goes to the replica
abbrev pub is_named : ℕ → List (ℕ × BrickReq) → Bool
is_named k [] = false
is_named k (r ∷ rs) = (r.0 == k) || is_named k rs

-- no two requests go to one replica
abbrev pub AreApart : List (ℕ × BrickReq) → Type 0
AreApart [] = Unit {0}
AreApart (r ∷ rs) = (is_named r.0 rs ≡ false) × AreApart rs

-- one request goes to each that is asked, and to nobody else
pub record AreSent (wave : Wave) (list : List (ℕ × BrickReq)) : Type 0 where
  pub asked : (k : ℕ) → is_named k list ≡ is_asked wave k
  pub apart : AreApart list
