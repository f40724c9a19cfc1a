-- What the nodes of every plan are: a tree whose top is the last node. From the top down are io-cache, io-threads and
-- pass nodes, each over one other; the one distribute node, with a child for each set; and below each child pass nodes
-- that lead to the replicate node of the set, whose children lead by pass nodes alone to the clients of its bricks.
-- Nodes are named by their places, counted from 0.
use Rattle.std.specs.Prelude.{◌≡◌, ◌≤◌, ◌<◌, ⊤, ℕ, ◌+◌, ◌-◌, List, [], ◌∷◌, length, map, Option, Some, None, IsSomeAnd, slice_get, Ok}
use Rattle.std.specs.Option.{option_map}
use Rattle.volfile.specs.Volumes.{IsVolfile}
use Rattle.volfile.specs.declared.volumes.Volfile.{Volfile}
use Rattle.volfile.specs.declared.brick_lines.BrickLine.{BrickLine}
use Rattle.fop_types.specs.declared.jobs.SetPlan.{SetPlan}
use Rattle.graph_build.specs.Plans.{planned}
use Rattle.graph_build.specs.declared.plans.NodeKind.{NodeKind}
use Rattle.graph_build.specs.declared.plans.NodeKind.TheVariants.{Client, Replicate, Distribute, IoCache, IoThreads, Pass}
use Rattle.graph_build.specs.declared.plans.NodePlan.{NodePlan}
use Rattle.graph_build.specs.declared.plans.Plan.{Plan}

-- ---- paths
abbrev pub kind_at : List NodePlan → ℕ → Option NodeKind
kind_at nodes p = option_map (λ n. n.kind) (slice_get nodes p)

abbrev pub child_in : Option NodePlan → ℕ → Option ℕ
child_in None k = None
child_in (Some n) k = slice_get n.children k

-- a node is directly below another
pub record IsChild (nodes : List NodePlan) (parent child : ℕ) : Type 0 where
  pub number : ℕ
  pub is : child_in (slice_get nodes parent) number ≡ Some child

-- a path down: each place is a child of the one before it, and the last is `end`
abbrev pub IsPath : List NodePlan → ℕ → List ℕ → ℕ → Type 0
IsPath nodes p [] end = p ≡ end
IsPath nodes p (q ∷ path) end = IsChild nodes p q × IsPath nodes q path end

-- one whose nodes, but for the last, are pass nodes
abbrev pub IsPassPath : List NodePlan → ℕ → List ℕ → ℕ → Type 0
IsPassPath nodes p [] end = p ≡ end
IsPassPath nodes p (q ∷ path) end = (kind_at nodes p ≡ Some Pass) × (child_in (slice_get nodes p) 0 ≡ Some q) × IsPassPath nodes q path end

-- pass nodes alone lead from a place to a node of this kind
pub record LeadsTo (nodes : List NodePlan) (p : ℕ) (kind : NodeKind) : Type 0 where
  pub path : List ℕ
  pub end : ℕ
  pub down : IsPassPath nodes p path end
  pub is : kind_at nodes end ≡ Some kind

-- each of these children to the kind at its place
abbrev pub LeadTo : List NodePlan → List ℕ → List NodeKind → Type 0
LeadTo nodes [] [] = ⊤
LeadTo nodes [] (kind ∷ kinds) = ⊥
LeadTo nodes (p ∷ ps) [] = ⊥
LeadTo nodes (p ∷ ps) (kind ∷ kinds) = LeadsTo nodes p kind × LeadTo nodes ps kinds

-- ---- nodes
-- what a node of a kind has, over so many bricks and these sets: its children, and the pages of its cache
abbrev pub IsNode : ℕ → List NodePlan → List SetPlan → NodeKind → List ℕ → ℕ → Type 0
IsNode bricks nodes sets (Client brick) children pages = (brick < bricks) × (children ≡ []) × (pages ≡ 0)
IsNode bricks nodes sets (Replicate number) children pages = IsSomeAnd (slice_get sets number) (λ set. LeadTo nodes children (map Client set.bricks)) × (pages ≡ 0)
IsNode bricks nodes sets Distribute children pages = LeadTo nodes children (map (λ set. Replicate set.number) sets) × (pages ≡ 0)
IsNode bricks nodes sets IoCache children pages = (length children ≡ 1) × (1 ≤ pages) × (pages ≤ 8192)
IsNode bricks nodes sets IoThreads children pages = (length children ≡ 1) × (pages ≡ 0)
IsNode bricks nodes sets Pass children pages = (length children ≡ 1) × (pages ≡ 0)

-- what may be below a replicate node, however far down, and below a distribute node
abbrev pub IsBelowReplicate : NodeKind → Type 0
IsBelowReplicate (Client brick) = ⊤
IsBelowReplicate (Replicate number) = ⊥
IsBelowReplicate Distribute = ⊥
IsBelowReplicate IoCache = ⊥
IsBelowReplicate IoThreads = ⊥
IsBelowReplicate Pass = ⊤

abbrev pub IsBelowDistribute : NodeKind → Type 0
IsBelowDistribute (Client brick) = ⊤
IsBelowDistribute (Replicate number) = ⊤
IsBelowDistribute Distribute = ⊥
IsBelowDistribute IoCache = ⊥
IsBelowDistribute IoThreads = ⊥
IsBelowDistribute Pass = ⊤

-- nothing is below a client, and no io-cache below another
abbrev pub MayBeBelow : NodeKind → NodeKind → Type 0
MayBeBelow (Client brick) kind = ⊥
MayBeBelow (Replicate number) kind = IsBelowReplicate kind
MayBeBelow Distribute kind = IsBelowDistribute kind
MayBeBelow IoCache kind = kind ≡ IoCache → ⊥
MayBeBelow IoThreads kind = ⊤
MayBeBelow Pass kind = ⊤

-- a node has one parent
pub record HasParent (nodes : List NodePlan) (child : ℕ) : Type 0 where
  pub parent : ℕ
  pub is : IsChild nodes parent child
  pub only : (p : ℕ) → IsChild nodes p child → p ≡ parent

-- a path leads from the top to a place
pub record IsReached (nodes : List NodePlan) (p : ℕ) : Type 0 where
  pub path : List ℕ
  pub down : IsPath nodes (length nodes - 1) path p

pub record HasDistribute (nodes : List NodePlan) : Type 0 where
  pub place : ℕ
  pub is : kind_at nodes place ≡ Some Distribute
  pub only : (p : ℕ) → kind_at nodes p ≡ Some Distribute → p ≡ place

-- A path has at most 24 nodes that are volumes, and a distribute and a replicate node that were put in.
pub record AreNodes (bricks : ℕ) (nodes : List NodePlan) (sets : List SetPlan) : Type 0 where
  pub some : 1 ≤ length nodes
  pub each : (p : ℕ) (n : NodePlan) → slice_get nodes p ≡ Some n → IsNode bricks nodes sets n.kind n.children n.cache_pages
  pub below : (p q : ℕ) → IsChild nodes p q → q < p
  pub parents : (p : ℕ) → p + 1 < length nodes → HasParent nodes p
  pub reached : (p : ℕ) → p < length nodes → IsReached nodes p
  pub distribute : HasDistribute nodes
  pub depth : (p end : ℕ) (path : List ℕ) → IsPath nodes p path end → length path < 26
  pub nesting : (p q end : ℕ) (path : List ℕ) (upper lower : NodeKind) → kind_at nodes p ≡ Some upper → IsPath nodes p (q ∷ path) end → kind_at nodes end ≡ Some lower → MayBeBelow upper lower

abbrev pub PlansHaveNodes : Type 0
PlansHaveNodes = (v : Volfile) (bricks : List BrickLine) (plan : Plan) → IsVolfile v → planned v.volumes bricks ≡ Ok plan → AreNodes (length bricks) plan.nodes plan.sets
