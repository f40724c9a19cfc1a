-- The locks that replicas granted in a lock phase, each with the number of the connection on which it was granted.
-- `live` names the replicas with an open connection, and `last` has each replica's last connection number: a lock is
-- still held exactly where the connection of its grant is the open one.
use Rattle.std.specs.Prelude.{ℕ, Bool, false, ◌&&◌, ◌||◌, ◌==◌, List, [], ◌∷◌, Option, Some, None, is_none, slice_index, slice_index_or}
use Rattle.std.specs.List.{slice_set}
use Rattle.fop_types.specs.declared.contents.Mask.{Mask}
use Rattle.afr_phases.specs.declared.locks.Locks.{Locks}
use Rattle.afr_phases.specs.Flags.{names, flags_by}

abbrev pub no_locks : Locks
no_locks = record { at = None ∷ None ∷ None ∷ None ∷ None ∷ [] }

abbrev pub granted : Locks → ℕ → ℕ → Locks
granted locks k connection = record { at = slice_set locks.at k (Some connection) }

abbrev pub is_open : Option ℕ → ℕ → Mask → List ℕ → Bool
is_open None k live last = false
is_open (Some connection) k live last = names live k && slice_index last k == connection

-- the replica's lock is still held
abbrev pub stands : Locks → ℕ → Mask → List ℕ → Bool
stands locks k live last = is_open (slice_index_or locks.at k None) k live last

-- the replicas whose lock is still held
abbrev pub standing : Locks → Mask → List ℕ → List Bool
standing locks live last = flags_by (λ k. stands locks k live last)

-- the replica has lost no lock: it granted none, or its lock is still held
abbrev pub keeps : Locks → ℕ → Mask → List ℕ → Bool
keeps locks k live last = is_none (slice_index_or locks.at k None) || stands locks k live last

-- the replicas that have lost no lock
abbrev pub keeping : Locks → Mask → List ℕ → List Bool
keeping locks live last = flags_by (λ k. keeps locks k live last)
