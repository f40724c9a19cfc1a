-- What the requests are found by: their call, by name only (mode 2), and each of their gfids, exclusive
-- (mode 0) or shared (mode 1).
use Rattle.std.specs.Prelude.{ℕ, Bool, true, false, List, ◌∷◌, map}
use Rattle.fop_types.specs.declared.cells.Gfid.{Gfid}
use Rattle.queue_index.specs.declared.key.Key.{Key}
use Rattle.mount_locks.specs.declared.request.Request.{Request}

abbrev pub call_key : ℕ → Key
call_key call = record { kind = 0; hi = 0; lo = call; mode = 2 }

abbrev pub mode_of : Bool → ℕ
mode_of true = 1
mode_of false = 0

abbrev pub gfid_key : Gfid → Bool → Key
gfid_key g together = record { kind = 1; hi = g.hi; lo = g.lo; mode = mode_of together }

abbrev pub keys_of : Request → List Key
keys_of r = call_key r.call ∷ map (λ g. gfid_key g r.shared) r.gfids

-- a request that is granted
abbrev pub marked : Request → Request
marked r = record r { granted = true }
