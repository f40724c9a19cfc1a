-- What a graph asks of its plan: that its nodes and its sets are those of a plan that a volfile gives.
use Rattle.std.specs.Prelude.{ℕ, ◌≤◌, ◌+◌, max, min, List, [], ◌∷◌, IsSomeAnd, slice_get}
use Rattle.fop_types.specs.Jobs.{IsSetPlan}
use Rattle.fop_types.specs.declared.jobs.SetPlan.{SetPlan}
use Rattle.graph_build.specs.NodeLaw.{AreNodes}
use Rattle.graph_build.specs.PlanLaw.{AreSets}
use Rattle.graph_build.specs.declared.plans.NodeKind.{NodeKind}
use Rattle.graph_build.specs.declared.plans.NodeKind.TheVariants.{Client, Replicate, Distribute, IoCache, IoThreads, Pass}
use Rattle.graph_build.specs.declared.plans.NodePlan.{NodePlan}
use Rattle.graph_build.specs.declared.plans.Plan.{Plan}

pub record IsPlan (plan : Plan) : Type 0 where
  pub bricks : ℕ
  pub nodes : AreNodes bricks plan.nodes plan.sets
  pub sets : AreSets plan.sets

-- what a node needs of the plan, by its kind: its set, all sets, or the pages of its cache
abbrev pub Needs : List SetPlan → ℕ → NodeKind → Type 0
Needs sets pages (Client brick) = Unit {0}
Needs sets pages (Replicate number) = IsSomeAnd (slice_get sets number) IsSetPlan
Needs sets pages Distribute = AreSets sets
Needs sets pages IoCache = 1 ≤ pages
Needs sets pages IoThreads = Unit {0}
Needs sets pages Pass = Unit {0}

abbrev pub HasNeeds : List SetPlan → NodePlan → Type 0
HasNeeds sets n = Needs sets n.cache_pages n.kind

-- ---- the bricks that a plan uses, by the clients among its nodes

abbrev pub with_brick : ℕ → NodeKind → ℕ
with_brick count (Client brick) = max count (min (brick + 1) 255)
with_brick count (Replicate number) = count
with_brick count Distribute = count
with_brick count IoCache = count
with_brick count IoThreads = count
with_brick count Pass = count

abbrev pub bricks_from : ℕ → List NodePlan → ℕ
bricks_from count [] = count
bricks_from count (n ∷ ns) = bricks_from (with_brick count n.kind) ns

-- one more than the greatest number of a brick
abbrev pub bricks_in : List NodePlan → ℕ
bricks_in nodes = bricks_from 0 nodes
