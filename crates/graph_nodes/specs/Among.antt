-- A call of one graph among those of a mount. Ours.
use Rattle.std.specs.Prelude.{ℕ, ◌≡◌, false, Option, Some}
use Rattle.std.specs.BTreeMap.{BTreeMap, get, keys}
use Rattle.std.specs.Ordering.{nat_cmp}
use Rattle.fop_types.specs.declared.fops.Fop.{Fop}
use Rattle.fop_types.specs.declared.messages.BrickRep.{BrickRep}
use Rattle.xlator_law.specs.declared.winds.Settled.{Settled}
use Rattle.xlator_law.specs.declared.winds.WindNo.{WindNo}
use Rattle.graph_nodes.specs.declared.graph.Graph.{Graph}
use Rattle.graph_nodes.specs.declared.moved.Mount.{Mount}
use Rattle.graph_nodes.specs.declared.moved.Moved.{Moved}
use Rattle.graph_nodes.specs.Calls.{Running, CallGives, Enters, Wakes, RunsTask, TakesOutput, Bails}
use Rattle.graph_nodes.specs.Live.{AllLive}
use Rattle.graph_nodes.specs.Mounted.{Mounted}
use Rattle.graph_nodes.specs.Ready.{tasks_in}
use Rattle.graph_nodes.specs.Seen.{seen_in}

-- how a call of a graph of this mount starts
abbrev pub Start : Type 1
Start = Graph → Mount → Graph → Running → Type 0

abbrev pub submits : ℕ → Fop → Start
submits call fop g mount = Enters call fop

abbrev pub holds : ℕ → Start
holds call g mount = Wakes mount.parked.keys (get nat_cmp g.waits call)

abbrev pub arrives : WindNo → BrickRep → ℕ → Option Settled → Start
arrives wind rep taken settled g mount = TakesOutput wind rep taken settled

abbrev pub bails : ℕ → ℕ → Start
bails brick count g mount = Bails brick count

abbrev pub runs_task : ℕ → Start
runs_task task g mount = RunsTask task mount.parked.keys

-- the graph of this number gives it
pub record GivesAt (number : ℕ) (starts : Start) (live : BTreeMap ℕ Graph) (mount : Mount) (moved : Moved) (live_new : BTreeMap ℕ Graph) (mount_new : Mount) : Type 0 where
  pub graph : Graph
  pub graph_new : Graph
  pub there : get nat_cmp live number ≡ Some graph
  pub there_new : get nat_cmp live_new number ≡ Some graph_new
  pub gives : CallGives (starts graph mount) graph mount moved graph_new mount_new

-- what is seen of graphs that are not spent
abbrev pub seen : BTreeMap ℕ Graph → Mount → Mounted
seen live mount = record { numbers = keys live; graphs = seen_in live.entries; tasks = tasks_in live.entries; inodes = mount.inodes; history = mount.ledger.history; spent = false }

-- There are graphs that are live and seen so, of which the graph of this number gives it; and they are seen so after it.
pub record SeemsToGive (number : ℕ) (starts : Start) (old : Mounted) (moved : Moved) (new : Mounted) : Type 0 where
  pub live : BTreeMap ℕ Graph
  pub mount : Mount
  pub live_new : BTreeMap ℕ Graph
  pub mount_new : Mount
  pub old_is : old ≡ seen live mount
  pub new_is : new ≡ seen live_new mount_new
  pub are_live : AllLive live mount
  pub gives : GivesAt number starts live mount moved live_new mount_new
