use Rattle.std.proofs.Common.{◌≡◌, subst, arith, length}
use Rattle.std.specs.Prelude.{ℕ, List, Option, IfNone}
use Rattle.mount_log.specs.declared.logs.ReplyLine.{ReplyLine}
use Rattle.change_audit.specs.Acknowledged.{HasCallFrom}
use Rattle.change_audit.proofs.Marking.{call_from}
use Rattle.change_audit.proofs.notes.notes_of.Goals as goal

pub returns-in-None-clause-none : goal.returns-in-None-clause-none
returns-in-None-clause-none c =
    let has : HasCallFrom c.as_slice.result.now c.saturating_add-bound.result =
    subst (λ (f : Option (List (Option ℕ))). IfNone f (HasCallFrom c.as_slice.result.now c.saturating_add-bound.result)) c.in-None.is c.in_ok-marks.ensures.none in
    call_from c.args.log.now.replies c.saturating_add-bound.result (length c.args.log.now.events) (omega (arith, c.len.ensures, c.saturating_add-bound.ensures))
    (subst (λ (l : List ReplyLine). HasCallFrom l c.saturating_add-bound.result) c.as_slice.ensures has)
