-- The sets of new objects' names: the name of a file that a create makes is on the set of its hash, in the even split of the
-- directory's names; that of a directory is on the first set. The names of a directory are split over the sets of the graph whose call made it, those of the root over the
-- sets of the first graph.
use Rattle.std.specs.Prelude.{◌≡◌, ℕ, ◌-◌, List, Some, length, slice_get}
use Rattle.dht_layout.specs.Layouts.{even_layout}
use Rattle.dht_linkto.specs.Search.{hashed_set}
use Rattle.fop_types.specs.Cells.{root}
use Rattle.fop_types.specs.declared.cells.Gfid.{Gfid}
use Rattle.fop_types.specs.declared.flat.FlatOp.{FlatOp}
use Rattle.fop_types.specs.declared.flat.FlatOp.TheVariants as op
use Rattle.fop_types.specs.declared.history.Entry.{Entry}
use Rattle.graph_build.specs.declared.plans.Plan.{Plan}
use Rattle.script_lang.specs.declared.scripts.Script.{Script}
use Rattle.mount_log.specs.Causes.{plan_of_volfile}
use Rattle.mount_log.specs.Connections.{graph_of_call}
use Rattle.mount_log.specs.Graphs.{volfiles_of}
use Rattle.mount_log.specs.declared.logs.Log.{Log}

-- a graph has so many sets
pub record HasSets (script : Script) (plans : List Plan) (log : Log) (graph many : ℕ) : Type 0 where
  pub plan : Plan
  pub plan_is : plan_of_volfile plans (slice_get (volfiles_of script log) (graph - 1)) ≡ Some plan
  pub many_is : many ≡ length plan.sets

-- an entry of a call of this graph makes the directory
pub record IsMadeIn (log : Log) (ops : List FlatOp) (dir : Gfid) (graph : ℕ) : Type 0 where
  pub place : ℕ
  pub entry : Entry
  pub there : slice_get log.history place ≡ Some entry
  pub parent : Gfid
  pub name : List ℕ
  pub mode : ℕ
  pub makes : slice_get ops place ≡ Some (op.Mkdir parent name mode dir)
  pub graph_is : graph ≡ graph_of_call log entry.call

-- over the sets of this graph the names of a directory are split
pub data IsSplitIn (log : Log) (ops : List FlatOp) (dir : Gfid) (graph : ℕ) : Type 0 where
  Root : dir ≡ root → graph ≡ 1 → IsSplitIn log ops dir graph
  Made : IsMadeIn log ops dir graph → IsSplitIn log ops dir graph

-- the set is that of the hash of a name of the directory
pub record IsHashed (script : Script) (plans : List Plan) (log : Log) (ops : List FlatOp) (dir : Gfid) (name : List ℕ) (set : ℕ) : Type 0 where
  pub graph : ℕ
  pub split : IsSplitIn log ops dir graph
  pub many : ℕ
  pub has : HasSets script plans log graph many
  pub set_is : set ≡ hashed_set (even_layout many) name

-- where the operation makes an object, this is the set of its name
abbrev pub IsOnSet : Script → List Plan → Log → List FlatOp → FlatOp → ℕ → Type 0
IsOnSet script plans log ops (op.Create parent name mode drawn) set = IsHashed script plans log ops parent name set
IsOnSet script plans log ops (op.Mkdir parent name mode drawn) set = set ≡ 0
IsOnSet script plans log ops other set = Unit {0}
