-- The cause of an I/O error, by what is looked up in the log.
use Rattle.std.proofs.Common.{◌≡◌, refl, sym, ap, ◌∙◌, arith}
use Rattle.std.specs.Prelude.{ℕ, ◌-◌, ◌<◌, ◌≤◌, List, Option, None, Some, map, slice_get}
use Rattle.std.specs.List.{AllByRecursion}
use Rattle.fop_types.specs.declared.answers.Answer.{Answer}
use Rattle.fop_types.specs.declared.answers.Answer.TheVariants as answer
use Rattle.graph_build.specs.declared.plans.Plan.{Plan}
use Rattle.script_lang.specs.declared.scripts.Script.{Script}
use Rattle.wire_xdr.specs.Xdr.{IsUnit}
use Rattle.wire_messages.specs.Messages.{MessagesReadBack}
use Rattle.mount_log.specs.Causes.{set_of_plan, plan_of_volfile, set_of_call, IsCaused, AreCaused}
use Rattle.mount_log.specs.Connections.{graph_of_call}
use Rattle.mount_log.specs.Graphs.{volfiles_of}
use Rattle.mount_log.specs.declared.logs.Log.{Log}
use Rattle.mount_log.specs.declared.logs.ReplyLine.{ReplyLine}
use Rattle.mount_log.specs.CallGraphs.{call_at, IsCallAt}
use Rattle.error_audit.specs.Evidence.{HaveNumbers}
use Rattle.error_audit.specs.Finding.{span_at}
use Rattle.error_audit.specs.IoCauses.{AreTables, IsPlain}
use Rattle.error_audit.specs.Opened.{openings_of, openings_to}
use Rattle.mount_log.specs.declared.call_graphs.CallAt.{CallAt}
use Rattle.error_audit.specs.declared.losses.Span.{Span}
use Rattle.error_audit.specs.declared.tables.Tables.{Tables}
use Rattle.mount_log.proofs.Callings.{call_is}
use Rattle.error_audit.proofs.Different.{all_at}
use Rattle.error_audit.proofs.Openings.{number_is, same_to_brick}

module _ (script : Script) (log : Log) (tables : Tables) (t : AreTables script log tables) where
  pub numbers_of : MessagesReadBack → (graph : ℕ) → IsUnit graph → HaveNumbers log graph (map (λ l. l.items) tables.openings.items)
  numbers_of back graph fits brick last =
      ap (openings_to last graph brick) (t.openings brick) ∙ same_to_brick last graph brick (openings_of log.sent) ∙ number_is back log last graph brick fits

  pub call_of : (calls : List CallAt) (call : ℕ) (at : CallAt) → calls ≡ tables.calls.items → call_at calls call ≡ Some at → IsCallAt log call at
  call_of calls call at same is = call_is log call at (sym (ap (λ (l : List CallAt). call_at l call) (same ∙ t.calls)) ∙ is)

  pub set_is : (plans : List Plan) (volfiles : List ℕ) (call graph set : ℕ) → volfiles ≡ tables.volfiles.items → graph ≡ graph_of_call log call
      → set_of_plan (plan_of_volfile plans (slice_get volfiles (graph - 1))) set ≡ set_of_call script plans log call set
  set_is plans volfiles call graph set same is =
      ap (λ (l : List ℕ). set_of_plan (plan_of_volfile plans (slice_get l (graph - 1))) set) (same ∙ t.volfiles)
      ∙ ap (λ (n : ℕ). set_of_plan (plan_of_volfile plans (slice_get (volfiles_of script log) (n - 1))) set) is

module _ (script : Script) (plans : List Plan) (log : Log) where
  plain_caused : (reply : ReplyLine) (a : Answer) → IsPlain a → IsCaused script plans log reply a
  plain_caused reply (answer.Io error) plain = absurd plain
  plain_caused reply answer.Done plain = plain
  plain_caused reply (answer.Count n) plain = plain
  plain_caused reply (answer.Bytes bytes) plain = plain
  plain_caused reply (answer.Stat kind mode size) plain = plain
  plain_caused reply (answer.List items) plain = plain
  plain_caused reply (answer.App error) plain = plain

  pub all_plain : AllByRecursion (λ (r : ReplyLine). IsPlain r.answer) log.replies → AreCaused script plans log
  all_plain all k reply is = plain_caused reply reply.answer (all_at (λ (r : ReplyLine). IsPlain r.answer) log.replies k reply all is)

  pub all_caused : AllByRecursion (λ (r : ReplyLine). IsCaused script plans log r r.answer) log.replies → AreCaused script plans log
  all_caused all k reply is = all_at (λ (r : ReplyLine). IsCaused script plans log r r.answer) log.replies k reply all is

-- ---- the graph and the submission of a call

abbrev span_made : ℕ → ℕ → Span
span_made graph since = record { graph = graph; since = since }

pub same_span : (graph since : ℕ) (at : CallAt) → graph ≡ at.graph → since ≡ at.event → ◌≡◌ {A = Option Span} (Some (record { graph = graph; since = since })) (Some (span_at at))
same_span graph since at graph_is since_is = ap (λ (s : Span). Some s) (ap (λ (g : ℕ). span_made g since) graph_is ∙ ap (λ (e : ℕ). span_made at.graph e) since_is)
