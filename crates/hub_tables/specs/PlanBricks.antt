-- The bricks that a plan uses: those of its clients; and whether it has a node in which frames may wait. Ours.
use Rattle.std.specs.Prelude.{ℕ, ◌==◌, Bool, true, false, ◌||◌, List, [], ◌∷◌}
use Rattle.graph_build.specs.declared.plans.NodeKind.{NodeKind}
use Rattle.graph_build.specs.declared.plans.NodeKind.TheVariants.{Client, Replicate, Distribute, IoCache, IoThreads, Pass}
use Rattle.graph_build.specs.declared.plans.NodePlan.{NodePlan}
use Rattle.graph_build.specs.declared.plans.Plan.{Plan}

abbrev pub is_client_of : ℕ → NodeKind → Bool
is_client_of brick (Client at) = at == brick
is_client_of brick (Replicate number) = false
is_client_of brick Distribute = false
is_client_of brick IoCache = false
is_client_of brick IoThreads = false
is_client_of brick Pass = false

-- whether one of these nodes is the client of a brick
abbrev pub has_client : ℕ → List NodePlan → Bool
has_client brick [] = false
has_client brick (node ∷ nodes) = is_client_of brick node.kind || has_client brick nodes

abbrev pub is_queue : NodeKind → Bool
is_queue (Client at) = false
is_queue (Replicate number) = false
is_queue Distribute = false
is_queue IoCache = false
is_queue IoThreads = true
is_queue Pass = false

-- whether one of these nodes is an io-threads node
abbrev pub has_queue : List NodePlan → Bool
has_queue [] = false
has_queue (node ∷ nodes) = is_queue node.kind || has_queue nodes

-- whether one of these plans has one
abbrev pub has_queues : List Plan → Bool
has_queues [] = false
has_queues (plan ∷ plans) = has_queue plan.nodes || has_queues plans
