-- What a node promises of its frames, by its shape, over so many sets, where one unit costs so much below and so many winds
-- are open there at once.
use Rattle.std.specs.Prelude.{ℕ, ◌+◌, ◌*◌, ◌==◌, ◌&&◌, Bool, true, false, is_some, is_none}
use Rattle.xlator_law.specs.Law.{Promise, Slots}
use Rattle.graph_items.specs.declared.items.Down.{Down}
use Rattle.graph_nodes.specs.declared.costs.Shape.{Shape}
use Rattle.graph_nodes.specs.declared.costs.Shape.TheVariants as shape
use Rattle.graph_nodes.specs.declared.locals.Local.{Local}
use Rattle.graph_nodes.specs.declared.locals.Local.TheVariants as local
use Rattle.graph_nodes.specs.declared.kinds.Node.{Node}
use Rattle.graph_nodes.specs.Costs.{units_of, cost_of, shape_of, sets_of}
use Rattle.graph_nodes.specs.Replicate.{is_asked_by}
use Rattle.graph_nodes.specs.Shapes.{is_under_way}

abbrev pub children_of : Shape → ℕ → ℕ
children_of shape.Relay sets = 1
children_of shape.Queue sets = 1
children_of shape.Cache sets = 1
children_of shape.Distribute sets = sets
children_of (shape.Set replicas) sets = replicas
children_of shape.Client sets = 1

abbrev pub slots_of : Shape → ℕ
slots_of shape.Relay = 1
slots_of shape.Queue = 1
slots_of shape.Cache = 1
slots_of shape.Distribute = 1
slots_of (shape.Set replicas) = replicas
slots_of shape.Client = 1

-- the local is one of the shape's own; that of a set is of a transaction under way over as many replicas
abbrev pub owns_by : Shape → Local → Bool
owns_by shape.Relay local.Relay = true
owns_by shape.Relay (local.Queued d) = false
owns_by shape.Relay (local.Pages read) = false
owns_by shape.Relay (local.Distribute frame) = false
owns_by shape.Relay (local.Set frame) = false
owns_by shape.Queue local.Relay = true
owns_by shape.Queue (local.Queued d) = true
owns_by shape.Queue (local.Pages read) = false
owns_by shape.Queue (local.Distribute frame) = false
owns_by shape.Queue (local.Set frame) = false
owns_by shape.Cache local.Relay = true
owns_by shape.Cache (local.Queued d) = false
owns_by shape.Cache (local.Pages read) = true
owns_by shape.Cache (local.Distribute frame) = false
owns_by shape.Cache (local.Set frame) = false
owns_by shape.Distribute local.Relay = false
owns_by shape.Distribute (local.Queued d) = false
owns_by shape.Distribute (local.Pages read) = false
owns_by shape.Distribute (local.Distribute frame) = true
owns_by shape.Distribute (local.Set frame) = false
owns_by (shape.Set replicas) local.Relay = false
owns_by (shape.Set replicas) (local.Queued d) = false
owns_by (shape.Set replicas) (local.Pages read) = false
owns_by (shape.Set replicas) (local.Distribute frame) = false
owns_by (shape.Set replicas) (local.Set frame) = is_under_way replicas frame
owns_by shape.Client local.Relay = true
owns_by shape.Client (local.Queued d) = false
owns_by shape.Client (local.Pages read) = false
owns_by shape.Client (local.Distribute frame) = false
owns_by shape.Client (local.Set frame) = false

abbrev pub unanswered_of : Local → Slots
unanswered_of local.Relay s = s == 0
unanswered_of (local.Queued d) s = false
unanswered_of (local.Pages read) s = s == 0
unanswered_of (local.Distribute frame) s = is_some frame.fop.asked && s == 0
unanswered_of (local.Set frame) s = is_asked_by frame.txn frame.copy s

-- what is queued waits for its turn, and a fop that has asked no set for its call's hold
abbrev pub waits_of : Local → Bool
waits_of local.Relay = false
waits_of (local.Queued d) = true
waits_of (local.Pages read) = false
waits_of (local.Distribute frame) = is_none frame.fop.asked
waits_of (local.Set frame) = false

-- what is left of a frame's budget: what is queued with what it costs below, and each job or request with what it costs there
abbrev pub left_of : ℕ → ℕ → Local → ℕ
left_of sets weight local.Relay = 0
left_of sets weight (local.Queued d) = units_of sets d * (1 + weight)
left_of sets weight (local.Pages read) = 0
left_of sets weight (local.Distribute frame) = frame.jobs * (1 + weight)
left_of sets weight (local.Set frame) = frame.requests * (1 + weight)

abbrev pub promise_of : Shape → ℕ → ℕ → ℕ → Promise Down Local
promise_of shape sets weight breadth = record {
  children = children_of shape sets;
  slots = slots_of shape;
  below = breadth;
  cost = cost_of shape sets weight;
  child_cost = λ _ d. units_of sets d * weight;
  owns = owns_by shape;
  unanswered = unanswered_of;
  waits = waits_of;
  left = left_of sets weight;
}

abbrev pub node_promise : Node → Promise Down Local
node_promise n = promise_of (shape_of n.kind) (sets_of n.kind n.sets) n.weight n.breadth
