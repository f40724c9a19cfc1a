-- What the requests of a brick are found by: their owner and their graph, by name only (mode 2), and each
-- of their cells, exclusive (mode 0) or shared (mode 1).
use Rattle.std.specs.Prelude.{ℕ, Bool, true, false, List, ◌∷◌, map}
use Rattle.fop_types.specs.declared.cells.Cell.{Cell}
use Rattle.fop_types.specs.Rank.{rank}
use Rattle.queue_index.specs.declared.key.Key.{Key}
use Rattle.brick_locks.specs.declared.owner.Owner.{Owner}
use Rattle.brick_locks.specs.declared.request.Request.{Request}

abbrev pub owner_key : Owner → Key
owner_key o = record { kind = 3; hi = o.graph; lo = o.call; mode = 2 }

abbrev pub graph_key : ℕ → Key
graph_key g = record { kind = 4; hi = g; lo = 0; mode = 2 }

abbrev pub mode_of : Bool → ℕ
mode_of true = 1
mode_of false = 0

abbrev pub cell_key : Cell → Bool → Key
cell_key c together = record { kind = rank c.aspect; hi = c.gfid.hi; lo = c.gfid.lo; mode = mode_of together }

abbrev pub keys_of : Request → List Key
keys_of r = owner_key r.owner ∷ graph_key r.owner.graph ∷ map (λ c. cell_key c r.shared) r.cells
