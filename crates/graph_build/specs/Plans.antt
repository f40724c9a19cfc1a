-- The plan of a volfile whose volumes are known. Its sets are in the order of the distribute volume's
-- subvolumes; without one the way down from the last volume leads to the one set. Its nodes are in the
-- file's order, each behind those below it; a node that was put in is behind what it was put in for;
-- the last node is the top.
use Rattle.std.specs.Prelude.{ℕ, ◌+◌, ◌-◌, ◌/◌, ◌==◌, Bool, true, false, if◌then◌else◌, List, [], ◌∷◌, ◌++◌, length, Option, Some, None, Result, Ok, Err}
use Rattle.std.specs.List.{slice_get}
use Rattle.volfile.specs.declared.volumes.Volume.{Volume}
use Rattle.graph_build.specs.PlanRules.{bottom_at, infos_from, unused_from, or_zero}
use Rattle.volfile.specs.declared.brick_lines.BrickLine.{BrickLine}
use Rattle.graph_build.specs.declared.errors.PlanError.{PlanError}
use Rattle.graph_build.specs.declared.errors.PlanError.TheVariants.{At}
use Rattle.graph_build.specs.declared.errors.PlanKind.TheVariants.{Unused}
use Rattle.graph_build.specs.declared.infos.Info.{Info}
use Rattle.graph_build.specs.declared.infos.Role.{Role}
use Rattle.graph_build.specs.declared.infos.Role.TheVariants.{Client, Replicate, Distribute, IoCache, IoThreads, Pass}
use Rattle.graph_build.specs.declared.plans.Plan.{Plan}
use Rattle.fop_types.specs.declared.jobs.SetPlan.{SetPlan}
use Rattle.graph_build.specs.declared.plans.NodePlan.{NodePlan}
use Rattle.graph_build.specs.declared.plans.NodeKind.{NodeKind}
use Rattle.graph_build.specs.declared.plans.NodeKind.TheVariants.{Client as ClientNode, Replicate as ReplicateNode, Distribute as DistributeNode, IoCache as IoCacheNode, IoThreads as IoThreadsNode, Pass as PassNode}

-- ---- sets
abbrev pub is_distribute : Role → Bool
is_distribute (Client brick) = false
is_distribute Replicate = false
is_distribute Distribute = true
is_distribute (IoCache pages) = false
is_distribute IoThreads = false
is_distribute Pass = false

-- what the distribute volume is over, where there is one
abbrev pub distributed : List Info → Option (List ℕ)
distributed [] = None
distributed (f ∷ fs) = if is_distribute f.role then Some f.below else distributed fs

abbrev pub bottoms_at : List Info → List ℕ → List ℕ
bottoms_at infos [] = []
bottoms_at infos (p ∷ ps) = bottom_at infos p ∷ bottoms_at infos ps

abbrev pub sets_under : List Info → Option (List ℕ) → List ℕ
sets_under infos None = (bottom_at infos (length infos - 1)) ∷ []
sets_under infos (Some below) = bottoms_at infos below

-- the places of the sets, each a replicate volume or a lone client
abbrev pub sets_of : List Info → List ℕ
sets_of infos = sets_under infos (distributed infos)

-- the places of the clients of a set
abbrev pub members_as : Role → List Info → ℕ → List ℕ → List ℕ
members_as (Client brick) infos place below = place ∷ []
members_as Replicate infos place below = bottoms_at infos below
members_as Distribute infos place below = []
members_as (IoCache pages) infos place below = []
members_as IoThreads infos place below = []
members_as Pass infos place below = []

abbrev pub members_in : Option Info → List Info → ℕ → List ℕ
members_in None infos place = []
members_in (Some f) infos place = members_as f.role infos place f.below

abbrev pub members_of : List Info → ℕ → List ℕ
members_of infos place = members_in (slice_get infos place) infos place

abbrev pub name_in : Option Volume → List ℕ
name_in None = []
name_in (Some v) = v.name

abbrev pub names_at : List Volume → List ℕ → List (List ℕ)
names_at volumes [] = []
names_at volumes (p ∷ ps) = name_in (slice_get volumes p) ∷ names_at volumes ps

abbrev pub brick_as : Role → ℕ
brick_as (Client brick) = brick
brick_as Replicate = 0
brick_as Distribute = 0
brick_as (IoCache pages) = 0
brick_as IoThreads = 0
brick_as Pass = 0

abbrev pub brick_in : Option Info → ℕ
brick_in None = 0
brick_in (Some f) = brick_as f.role

abbrev pub bricks_at : List Info → List ℕ → List ℕ
bricks_at infos [] = []
bricks_at infos (p ∷ ps) = brick_in (slice_get infos p) ∷ bricks_at infos ps

-- the set with this number and name whose clients are at these places
abbrev pub set_with : List Volume → List Info → ℕ → List ℕ → List ℕ → SetPlan
set_with volumes infos number name members = record { number = number; name = name; bricks = bricks_at infos members; clients = names_at volumes members; q = (length members + 1) / 2 }

abbrev pub set_at : List Volume → List Info → ℕ → ℕ → SetPlan
set_at volumes infos number place = set_with volumes infos number (name_in (slice_get volumes place)) (members_of infos place)

-- the sets at these places, the first with this number
abbrev pub sets_from : List Volume → List Info → ℕ → List ℕ → List SetPlan
sets_from volumes infos number [] = []
sets_from volumes infos number (p ∷ ps) = set_at volumes infos number p ∷ sets_from volumes infos (number + 1) ps

-- ---- nodes
-- the number of the set at a place
abbrev pub or_number : Option ℕ → Bool → ℕ → Option ℕ
or_number (Some later) here number = Some later
or_number None here number = if here then Some number else None

abbrev pub number_from : ℕ → List ℕ → ℕ → Option ℕ
number_from number [] place = None
number_from number (p ∷ ps) place = or_number (number_from (number + 1) ps place) (place == p) number

abbrev pub node : NodeKind → List ℕ → NodePlan
node kind children = record { kind = kind; children = children; cache_pages = 0 }

-- a distribute node over the last of the nodes, where one is put in
abbrev pub with_distribute : Bool → List NodePlan → List NodePlan
with_distribute false nodes = nodes
with_distribute true nodes = nodes ++ node DistributeNode ((length nodes - 1) ∷ []) ∷ []

-- the node of a client, and where it is a set those that are put in
abbrev pub with_client : Bool → Option ℕ → List NodePlan → ℕ → List NodePlan
with_client alone None nodes brick = nodes ++ node (ClientNode brick) [] ∷ []
with_client alone (Some number) nodes brick =
    with_distribute alone ((nodes ++ node (ClientNode brick) [] ∷ []) ++ node (ReplicateNode number) (length nodes ∷ []) ∷ [])

-- the nodes with those of the next volume, whose children these are; `alone` says that there is no distribute
-- volume
abbrev pub with_nodes : Role → Bool → Option ℕ → List NodePlan → List ℕ → List NodePlan
with_nodes (Client brick) alone number nodes children = with_client alone number nodes brick
with_nodes Replicate alone number nodes children = with_distribute alone (nodes ++ node (ReplicateNode (or_zero number)) children ∷ [])
with_nodes Distribute alone number nodes children = nodes ++ node DistributeNode children ∷ []
with_nodes (IoCache pages) alone number nodes children = nodes ++ record { kind = IoCacheNode; children = children; cache_pages = pages } ∷ []
with_nodes IoThreads alone number nodes children = nodes ++ node IoThreadsNode children ∷ []
with_nodes Pass alone number nodes children = nodes ++ node PassNode children ∷ []

-- the number of the last node of each of these volumes
abbrev pub tops_at : List ℕ → List ℕ → List ℕ
tops_at tops [] = []
tops_at tops (p ∷ ps) = or_zero (slice_get tops p) ∷ tops_at tops ps

-- the nodes of all volumes, where those of the first are there, each with its last
abbrev pub nodes_from : Bool → List ℕ → List ℕ → List NodePlan → List Info → List NodePlan
nodes_from alone sets tops nodes [] = nodes
nodes_from alone sets tops nodes (f ∷ fs) =
    let more = with_nodes f.role alone (number_from 0 sets (length tops)) nodes (tops_at tops f.below) in
    nodes_from alone sets (tops ++ (length more - 1) ∷ []) more fs

abbrev pub is_alone : Option (List ℕ) → Bool
is_alone None = true
is_alone (Some below) = false

-- ---- the plan
abbrev pub plan_with : List Volume → List Info → List ℕ → Plan
plan_with volumes infos sets = record { nodes = nodes_from (is_alone (distributed infos)) sets [] [] infos; sets = sets_from volumes infos 0 sets }

abbrev pub plan_of : List Volume → List Info → Plan
plan_of volumes infos = plan_with volumes infos (sets_of infos)

abbrev pub plan_if : Option ℕ → List Volume → List Info → Result Plan PlanError
plan_if None volumes infos = Ok (plan_of volumes infos)
plan_if (Some place) volumes infos = Err (At place Unused)

abbrev pub plan_from : Result (List Info) PlanError → List Volume → Result Plan PlanError
plan_from (Err e) volumes = Err e
plan_from (Ok infos) volumes = plan_if (unused_from infos infos 0) volumes infos

-- the plan of a volfile over these bricks, or its refusal
abbrev pub planned : List Volume → List BrickLine → Result Plan PlanError
planned volumes bricks = plan_from (infos_from volumes bricks [] volumes) volumes
