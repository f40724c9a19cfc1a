-- A content that was fetched after a quorum had granted locks.
use Rattle.std.proofs.Common.{◌≡◌, sym, ap, subst, ◌∙◌}
use Rattle.std.specs.Prelude.{ℕ, ◌<◌, ◌≤◌, ◌-◌, ◌==◌, List, [], ◌∷◌, ◌++◌, Option, Some, Contains, length, map, slice_get, IfSome}
use Rattle.std.specs.List.{AllByRecursion, IsDistinct}
use Rattle.fop_types.specs.declared.answers.SplitRow.{SplitRow}
use Rattle.fop_types.specs.declared.cells.Cell.{Cell}
use Rattle.fop_types.specs.declared.contents.Content.{Content as Held}
use Rattle.fop_types.specs.declared.contents.Row.{Row}
use Rattle.fop_types.specs.declared.jobs.SetPlan.{SetPlan}
use Rattle.fop_types.specs.declared.messages.BrickReq.TheVariants.{Fetch}
use Rattle.fop_types.specs.declared.messages.DoneArm.TheVariants.{Content}
use Rattle.graph_build.specs.declared.plans.Plan.{Plan}
use Rattle.script_lang.specs.declared.scripts.Script.{Script}
use Rattle.brick_machine.specs.Journal.{Journal}
use Rattle.mount_log.specs.Causes.{set_of_plan, plan_of_volfile, set_of_call}
use Rattle.mount_log.specs.Connections.{graph_of_call}
use Rattle.mount_log.specs.declared.logs.Log.{Log}
use Rattle.change_audit.proofs.Items.{all_push}
use Rattle.change_audit.specs.Answered.{IsDoneIn}
use Rattle.change_audit.specs.CallGraphs.{AreGraphsOf}
use Rattle.change_audit.specs.Copied.{IsSoundBy}
use Rattle.change_audit.specs.declared.call_graphs.CallGraphs.{CallGraphs}
use Rattle.read_audit.specs.Fetching.{IsGrantIn, IsShown, HasHolders}
use Rattle.read_audit.specs.Read.{IsHolder, IsGroup, brick_in, IsFetched}

-- ---- holders

pub holder_is : (log : Log) (bricks : List Journal) (plan : SetPlan) (call graph : ℕ) (cells : List Cell) (cell : Cell) (place until event brick : ℕ) (rows : List Row) (row : Row) → event < until → Contains plan.bricks brick
    → IsGrantIn log bricks call graph cells event brick rows → slice_get rows place ≡ Some row → IsHolder log bricks plan call graph cells place until (record { cell = cell; brick = brick; row = row })
holder_is log bricks plan call graph cells cell place until event brick rows row before member grant is = record {
  member = member;
  wind = grant.wind;
  shared = grant.shared;
  rows = rows;
  event = event;
  granted = grant.granted;
  row_is = is;
  before = before;
}

pub rows_next : (P : SplitRow → Type 0) (rows more : List SplitRow) (found : Option SplitRow) (row : SplitRow) → more ≡ rows ++ row ∷ [] → found ≡ Some row → IfSome found P → AllByRecursion P rows → AllByRecursion P more
rows_next P rows more found row is there holds all = subst (AllByRecursion P) (sym is) (all_push P rows row all (subst (λ (f : Option SplitRow). IfSome f P) there holds))

pub holders_are : (log : Log) (bricks : List Journal) (plan : SetPlan) (call graph : ℕ) (cells : List Cell) (cell : Cell) (place until source : ℕ) (rows : List SplitRow) → slice_get cells place ≡ Some cell
    → IsDistinct ◌==◌ (map brick_in rows) → plan.q ≤ length (map brick_in rows) → Contains (map brick_in rows) source → IsSoundBy plan rows source → AllByRecursion (IsHolder log bricks plan call graph cells place until) rows
    → HasHolders log bricks plan call graph cell until source
holders_are log bricks plan call graph cells cell place until source rows has differ enough among sound each = record {
  cells = cells;
  place = place;
  has = has;
  rows = rows;
  group = record { differ = differ; enough = enough; each = each; among = among; sound = sound };
}

-- ---- contents

module _ (script : Script) (log : Log) (tables : CallGraphs) (are : AreGraphsOf script log tables) where
  -- a set of the graph of a call, by its volfile in the table
  pub set_is : (plans : List Plan) (call graph set : ℕ) (plan : SetPlan) → graph ≡ graph_of_call log call → set_of_plan (plan_of_volfile plans (slice_get tables.volfiles (graph - 1))) set ≡ Some plan
      → set_of_call script plans log call set ≡ Some plan
  set_is plans call graph set plan same is =
      ap (λ (vs : List ℕ). set_of_plan (plan_of_volfile plans (slice_get vs (graph_of_call log call - 1))) set) (sym are.volfiles)
      ∙ ap (λ (n : ℕ). set_of_plan (plan_of_volfile plans (slice_get tables.volfiles (n - 1))) set) (sym same) ∙ is

  -- a content that arrived for a call by the event of a number, after a quorum of the set had granted locks
  pub fetched : (plans : List Plan) (bricks : List Journal) (call graph number set source event : ℕ) (cell : Cell) (content : Held) (plan : SetPlan) → graph ≡ graph_of_call log call
      → set_of_plan (plan_of_volfile plans (slice_get tables.volfiles (graph - 1))) set ≡ Some plan → event < number → HasHolders log bricks plan call graph cell event source
      → IsShown log bricks call graph source event cell content → IsFetched script plans log bricks call number set cell content
  fetched plans bricks call graph number set source event cell content plan same is lt have shown = record {
    plan = plan;
    plan_is = set_is plans call graph set plan same is;
    source = source;
    wind = shown.wind;
    fd = shown.fd;
    last = shown.last;
    event = event;
    answered = subst (λ (n : ℕ). IsDoneIn log bricks source shown.wind n event (Fetch shown.fd cell) (Content content shown.last)) same shown.answered;
    of_call = shown.of_call;
    in_time = lt;
    cells = have.cells;
    place = have.place;
    has = have.has;
    rows = have.rows;
    group = subst (λ (n : ℕ). IsGroup plan have.rows source (IsHolder log bricks plan call n have.cells have.place event)) same have.group;
  }
