-- A graph that keeps pages is that of a call.
use Rattle.std.proofs.Common.{◌≡◌, sym, ap, ◌∙◌}
use Rattle.std.specs.Prelude.{ℕ, ◌-◌, true, false, List, slice_get}
use Rattle.graph_build.specs.declared.plans.Plan.{Plan}
use Rattle.script_lang.specs.declared.scripts.Script.{Script}
use Rattle.mount_log.specs.Causes.{plan_of_volfile}
use Rattle.mount_log.specs.Connections.{graph_of_call}
use Rattle.mount_log.specs.declared.logs.Log.{Log}
use Rattle.change_audit.specs.CallGraphs.{AreGraphsOf}
use Rattle.change_audit.specs.declared.call_graphs.CallGraphs.{CallGraphs}
use Rattle.read_audit.specs.Read.{keeps_pages, may_keep}

kept : (script : Script) (plans : List Plan) (log : Log) (tables : CallGraphs) (call graph : ℕ) → AreGraphsOf script log tables → graph ≡ graph_of_call log call
    → keeps_pages (plan_of_volfile plans (slice_get tables.volfiles (graph - 1))) ≡ true → may_keep script plans log call ≡ true
kept script plans log tables call graph are same keeps =
    ap (λ (vs : List ℕ). keeps_pages (plan_of_volfile plans (slice_get vs (graph_of_call log call - 1)))) (sym are.volfiles)
    ∙ ap (λ (n : ℕ). keeps_pages (plan_of_volfile plans (slice_get tables.volfiles (n - 1)))) (sym same) ∙ keeps

-- so nothing is to be shown of a read there
pub none_due : {P : Type 0} (script : Script) (plans : List Plan) (log : Log) (tables : CallGraphs) (call graph : ℕ) → AreGraphsOf script log tables → graph ≡ graph_of_call log call
    → keeps_pages (plan_of_volfile plans (slice_get tables.volfiles (graph - 1))) ≡ true → may_keep script plans log call ≡ false → P
none_due script plans log tables call graph are same keeps without =
    let with_pages = kept script plans log tables call graph are same keeps in absurd cc
