-- The sets of new names, by the tables of calls and graphs.
use Rattle.std.specs.Prelude.{◌≡◌, ℕ, ◌-◌, List, Some, length, slice_get}
use Rattle.dht_layout.specs.Layouts.{even_layout}
use Rattle.dht_linkto.specs.Search.{hashed_set}
use Rattle.fop_types.specs.Cells.{root}
use Rattle.fop_types.specs.declared.cells.Gfid.{Gfid}
use Rattle.fop_types.specs.declared.flat.FlatOp.{FlatOp}
use Rattle.fop_types.specs.declared.flat.FlatOp.TheVariants as op
use Rattle.fop_types.specs.declared.history.Entry.{Entry}
use Rattle.graph_build.specs.declared.plans.Plan.{Plan}
use Rattle.mount_log.specs.Causes.{plan_of_volfile}
use Rattle.mount_log.specs.declared.logs.Log.{Log}
use Rattle.change_audit.specs.CallGraphs.{HasGraph}
use Rattle.change_audit.specs.declared.call_graphs.CallGraphs.{CallGraphs}

-- an operation makes the directory
pub record MakesDir (o : FlatOp) (dir : Gfid) : Type 0 where
  pub parent : Gfid
  pub name : List ℕ
  pub mode : ℕ
  pub is : o ≡ op.Mkdir parent name mode dir

pub record HasTableSets (plans : List Plan) (tables : CallGraphs) (graph many : ℕ) : Type 0 where
  pub plan : Plan
  pub plan_is : plan_of_volfile plans (slice_get tables.volfiles (graph - 1)) ≡ Some plan
  pub many_is : many ≡ length plan.sets

pub record IsMadeByTable (log : Log) (tables : CallGraphs) (ops : List FlatOp) (dir : Gfid) (graph : ℕ) : Type 0 where
  pub place : ℕ
  pub entry : Entry
  pub there : slice_get log.history place ≡ Some entry
  pub operation : FlatOp
  pub at : slice_get ops place ≡ Some operation
  pub makes : MakesDir operation dir
  pub graph_is : HasGraph tables entry.call graph

pub data IsSplitByTable (log : Log) (tables : CallGraphs) (ops : List FlatOp) (dir : Gfid) (graph : ℕ) : Type 0 where
  AtRoot : dir ≡ root → graph ≡ 1 → IsSplitByTable log tables ops dir graph
  ByTable : IsMadeByTable log tables ops dir graph → IsSplitByTable log tables ops dir graph

pub record IsHashedByTable (plans : List Plan) (log : Log) (tables : CallGraphs) (ops : List FlatOp) (dir : Gfid) (name : List ℕ) (set : ℕ) : Type 0 where
  pub graph : ℕ
  pub split : IsSplitByTable log tables ops dir graph
  pub many : ℕ
  pub has : HasTableSets plans tables graph many
  pub set_is : set ≡ hashed_set (even_layout many) name

abbrev pub IsOnSetByTable : List Plan → Log → CallGraphs → List FlatOp → FlatOp → ℕ → Type 0
IsOnSetByTable plans log tables ops (op.Create parent name mode drawn) set = IsHashedByTable plans log tables ops parent name set
IsOnSetByTable plans log tables ops (op.Mkdir parent name mode drawn) set = set ≡ 0
IsOnSetByTable plans log tables ops other set = Unit {0}
