-- Sets that have no copy of a cell.
use Rattle.std.proofs.Common.{◌≡◌, subst, sym}
use Rattle.std.specs.Prelude.{ℕ, ◌<◌, ◌-◌, List, [], ◌∷◌, ◌++◌, Some, Contains, slice_get}
use Rattle.std.specs.List.{AllByRecursion}
use Rattle.fop_types.specs.declared.cells.Cell.{Cell}
use Rattle.fop_types.specs.declared.contents.Row.{Row}
use Rattle.fop_types.specs.declared.jobs.SetPlan.{SetPlan}
use Rattle.fop_types.specs.declared.messages.BrickReq.TheVariants.{Lock}
use Rattle.graph_build.specs.declared.plans.Plan.{Plan}
use Rattle.script_lang.specs.declared.scripts.Script.{Script}
use Rattle.brick_machine.specs.Journal.{Journal}
use Rattle.mount_log.specs.Causes.{set_of_plan, plan_of_volfile}
use Rattle.mount_log.specs.Connections.{graph_of_call}
use Rattle.mount_log.specs.declared.logs.Log.{Log}
use Rattle.change_audit.proofs.Items.{all_push}
use Rattle.change_audit.specs.Answered.{IsQuorum}
use Rattle.change_audit.specs.CallGraphs.{AreGraphsOf}
use Rattle.change_audit.specs.declared.call_graphs.CallGraphs.{CallGraphs}
use Rattle.read_audit.proofs.Fetching.{set_is}
use Rattle.read_audit.specs.Fetching.{IsGrantIn}
use Rattle.read_audit.specs.Names.{IsWithout, IsLacking}
use Rattle.read_audit.specs.Naming.{IsAbsent, HaveNoCopy}
use Rattle.read_audit.specs.Read.{IsGrantedIn}

-- ---- one brick

pub without_is : (log : Log) (bricks : List Journal) (plan : SetPlan) (call graph : ℕ) (cell : Cell) (number brick event : ℕ) (rows : List Row) → event < number → Contains plan.bricks brick
    → IsGrantIn log bricks call graph (cell ∷ []) event brick rows → IsAbsent rows → IsWithout log bricks plan call graph cell number brick
without_is log bricks plan call graph cell number brick event rows in_time member grant is = record {
  member = member;
  wind = grant.wind;
  shared = grant.shared;
  row = is.row;
  event = event;
  granted = subst (λ (rs : List Row). IsGrantedIn log bricks brick grant.wind graph event (Lock call grant.shared (cell ∷ [])) rs) is.rows_are grant.granted;
  absent = is.absent;
  in_time = in_time;
}

-- ---- a quorum

pub without_next : (log : Log) (bricks : List Journal) (plan : SetPlan) (call graph : ℕ) (cell : Cell) (number brick : ℕ) (list more : List ℕ) → more ≡ list ++ brick ∷ [] → IsWithout log bricks plan call graph cell number brick
    → AllByRecursion (IsWithout log bricks plan call graph cell number) list → AllByRecursion (IsWithout log bricks plan call graph cell number) more
without_next log bricks plan call graph cell number brick list more is one all =
    subst (AllByRecursion (IsWithout log bricks plan call graph cell number)) (sym is) (all_push (IsWithout log bricks plan call graph cell number) list brick all one)

module _ (script : Script) (log : Log) (tables : CallGraphs) (are : AreGraphsOf script log tables) where
  pub lacking_is : (plans : List Plan) (bricks : List Journal) (call graph number set : ℕ) (cell : Cell) (plan : SetPlan) → 0 < set → graph ≡ graph_of_call log call
      → set_of_plan (plan_of_volfile plans (slice_get tables.volfiles (graph - 1))) set ≡ Some plan → HaveNoCopy log bricks plan call graph cell number → IsLacking script plans log bricks call number set cell
  lacking_is plans bricks call graph number set cell plan behind same is have = record {
    behind = behind;
    plan = plan;
    plan_is = set_is script log tables are plans call graph set plan same is;
    holders = have.holders;
    quorum = subst (λ (n : ℕ). IsQuorum plan have.holders (IsWithout log bricks plan call n cell number)) same have.quorum;
  }
