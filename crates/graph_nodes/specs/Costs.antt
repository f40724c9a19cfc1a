-- What things cost at a node. What enters a node is so many units: a Migrate one for each descriptor, a Heal one for each
-- index and each cell that a set may have, anything else one. A node has a weight for one unit: the most winds that it
-- causes there and below.
use Rattle.std.specs.Prelude.{ℕ, ◌+◌, ◌*◌, ◌≤◌, nat_le, length, if◌then◌else◌}
use Rattle.fop_types.specs.declared.fops.Fop.{Fop}
use Rattle.fop_types.specs.declared.fops.Fop.TheVariants as fop
use Rattle.graph_items.specs.declared.items.Down.{Down}
use Rattle.graph_items.specs.declared.items.Down.TheVariants as down
use Rattle.graph_nodes.specs.declared.costs.Shape.{Shape}
use Rattle.graph_nodes.specs.declared.costs.Shape.TheVariants as shape
use Rattle.graph_nodes.specs.declared.kinds.Kind.{Kind}
use Rattle.graph_nodes.specs.declared.kinds.Kind.TheVariants as kind

abbrev pub at_most : ℕ → ℕ → ℕ
at_most bound n = if nat_le n bound then n else bound

abbrev pub at_least : ℕ → ℕ → ℕ
at_least bound n = if nat_le bound n then n else bound

abbrev pub fop_units : ℕ → Fop → ℕ
fop_units sets (fop.Migrate fds) = at_least 1 (at_most 16384 (length fds))
fop_units sets (fop.Heal count) = 1 + sets * (2 * at_most 4096 count + 2)
fop_units sets (fop.Lookup parent name) = 1
fop_units sets (fop.Mkdir parent name mode drawn) = 1
fop_units sets (fop.Rmdir parent name) = 1
fop_units sets (fop.Create fd parent name mode drawn) = 1
fop_units sets (fop.Unlink parent name) = 1
fop_units sets (fop.Rename parent name target new_name) = 1
fop_units sets (fop.Open fd object) = 1
fop_units sets (fop.Stat object) = 1
fop_units sets (fop.List object) = 1
fop_units sets (fop.Chmod object mode) = 1
fop_units sets (fop.Truncate object size) = 1
fop_units sets (fop.SetAttr object attr) = 1
fop_units sets (fop.GetAttr object name) = 1
fop_units sets (fop.DelAttr object name) = 1
fop_units sets (fop.Read fd object offset count) = 1
fop_units sets (fop.Write fd object offset bytes) = 1

abbrev pub units_of : ℕ → Down → ℕ
units_of sets (down.Fop f) = fop_units sets f
units_of sets (down.Job j) = 1
units_of sets (down.Request r) = 1

abbrev pub jobs_for : ℕ → ℕ → ℕ
jobs_for sets units = units * (4 * sets + 16)

abbrev pub requests_for : ℕ → ℕ
requests_for replicas = 80 * replicas * replicas

-- over how many sets a node's units are counted, where its graph has so many
abbrev pub sets_of : Kind → ℕ → ℕ
sets_of kind.Root sets = sets
sets_of kind.Pass sets = sets
sets_of (kind.IoThreads node) sets = sets
sets_of (kind.IoCache node) sets = sets
sets_of (kind.Distribute node) sets = node.sets
sets_of (kind.Replicate node) sets = sets
sets_of (kind.Client node) sets = sets

abbrev pub shape_of : Kind → Shape
shape_of kind.Root = shape.Relay
shape_of kind.Pass = shape.Relay
shape_of (kind.IoThreads node) = shape.Queue
shape_of (kind.IoCache node) = shape.Cache
shape_of (kind.Distribute node) = shape.Distribute
shape_of (kind.Replicate node) = shape.Set (length node.plan.bricks)
shape_of (kind.Client node) = shape.Client

-- a set has at most five replicas
abbrev pub IsFew : Shape → Type 0
IsFew shape.Relay = Unit {0}
IsFew shape.Queue = Unit {0}
IsFew shape.Cache = Unit {0}
IsFew shape.Distribute = Unit {0}
IsFew (shape.Set replicas) = replicas ≤ 5
IsFew shape.Client = Unit {0}

-- what one unit costs at a node, by the greatest weight of its children
abbrev pub weight_of : Shape → ℕ → ℕ → ℕ
weight_of shape.Relay sets weight = 1 + weight
weight_of shape.Queue sets weight = 1 + weight
weight_of shape.Cache sets weight = 17 * (1 + weight)
weight_of shape.Distribute sets weight = (4 * sets + 16) * (1 + weight)
weight_of (shape.Set replicas) sets weight = requests_for replicas * (1 + weight)
weight_of shape.Client sets weight = 3 + weight

-- the most winds that are open at once in a frame and all below it, by what is open below a child
abbrev pub breadth_of : Shape → ℕ → ℕ
breadth_of shape.Relay breadth = 1 + breadth
breadth_of shape.Queue breadth = 1 + breadth
breadth_of shape.Cache breadth = 1 + breadth
breadth_of shape.Distribute breadth = 1 + breadth
breadth_of (shape.Set replicas) breadth = replicas * (1 + breadth)
breadth_of shape.Client breadth = 1 + breadth

-- what something costs that enters a node of this shape
abbrev pub cost_of : Shape → ℕ → ℕ → Down → ℕ
cost_of shape sets weight d = units_of sets d * weight_of shape sets weight
