use Rattle.std.proofs.Common.{sym, subst}
use Rattle.std.specs.Prelude.{◌↔◌, IsTrue}
use Rattle.fop_types.specs.declared.messages.Input.{Input}
use Rattle.error_audit.specs.Showing.{IsMarkOf}
use Rattle.error_audit.proofs.sources.is_mark_input.Goals as goal

pub returns-in-Request : goal.returns-in-Request
returns-in-Request c = subst (λ (x : Input). IsTrue c.is_mark.result ↔ IsMarkOf c.args.cells.now x) (sym c.in-Request.is) (c.is_mark.ensures _ _)
