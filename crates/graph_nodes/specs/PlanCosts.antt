-- What a fop costs in a graph of a plan: each node has a load for one unit, which goes by the greatest of those below it. A
-- node's children come before it, and the last node is the top, above which the root is one more. Ours.
use Rattle.std.specs.Prelude.{ℕ, ◌-◌, max, List, [], ◌∷◌, ◌++◌, length, get_or, slice_get, Option, None, Some}
use Rattle.fop_types.specs.declared.fops.Fop.{Fop}
use Rattle.fop_types.specs.declared.jobs.SetPlan.{SetPlan}
use Rattle.graph_build.specs.declared.plans.NodeKind.{NodeKind}
use Rattle.graph_build.specs.declared.plans.NodeKind.TheVariants.{Client, Replicate, Distribute, IoCache, IoThreads, Pass}
use Rattle.graph_build.specs.declared.plans.NodePlan.{NodePlan}
use Rattle.graph_build.specs.declared.plans.Plan.{Plan}
use Rattle.graph_items.specs.declared.items.Down.TheVariants as down
use Rattle.graph_nodes.specs.Costs.{at_most, weight_of, breadth_of, cost_of}
use Rattle.graph_nodes.specs.declared.costs.Shape.{Shape}
use Rattle.graph_nodes.specs.declared.costs.Shape.TheVariants as shape
use Rattle.graph_nodes.specs.declared.loads.Load.{Load}

-- a set has at most five replicas
abbrev pub set_shape : Option SetPlan → Shape
set_shape None = shape.Relay
set_shape (Some set) = shape.Set (at_most 5 (length set.bricks))

abbrev pub planned_shape : List SetPlan → NodeKind → Shape
planned_shape sets (Client brick) = shape.Client
planned_shape sets (Replicate number) = set_shape (slice_get sets number)
planned_shape sets Distribute = shape.Distribute
planned_shape sets IoCache = shape.Cache
planned_shape sets IoThreads = shape.Queue
planned_shape sets Pass = shape.Relay

-- ---- loads

abbrev pub no_load : Load
no_load = record { weight = 0; breadth = 0 }

abbrev pub with_load : Load → Option Load → Load
with_load most None = most
with_load most (Some load) = record { weight = max most.weight load.weight; breadth = max most.breadth load.breadth }

-- the greatest of this load and of those at these places
abbrev pub greatest : List ℕ → Load → List Load → Load
greatest [] most loads = most
greatest (p ∷ ps) most loads = greatest ps (with_load most (slice_get loads p)) loads

-- the load of a node over children with this one; its numbers end at 2^32 - 1
abbrev pub load_of : Shape → ℕ → Load → Load
load_of shape sets under = record { weight = at_most 4294967295 (weight_of shape sets under.weight); breadth = at_most 4294967295 (breadth_of shape under.breadth) }

-- the load of a node of a plan, behind nodes with these
abbrev pub planned_load : List SetPlan → List Load → NodePlan → Load
planned_load sets loads n = load_of (planned_shape sets n.kind) (length sets) (greatest n.children no_load loads)

-- the loads of these nodes, behind nodes with those
abbrev pub loads_behind : List NodePlan → List SetPlan → List Load → List Load
loads_behind [] sets loads = loads
loads_behind (n ∷ ns) sets loads = loads_behind ns sets (loads ++ planned_load sets loads n ∷ [])

-- ---- costs

-- what one unit costs at the top of a plan
abbrev pub top_weight : Plan → ℕ
top_weight plan = (get_or (loads_behind plan.nodes plan.sets []) (length plan.nodes - 1) no_load).weight

-- what a fop costs at the root above the top
abbrev pub plan_cost : Plan → Fop → ℕ
plan_cost plan f = cost_of shape.Relay (length plan.sets) (top_weight plan) (down.Fop f)
