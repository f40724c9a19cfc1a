use Rattle.std.proofs.Common.{◌≡◌, sym, subst}
use Rattle.std.specs.Prelude.{ℕ, List, IfSome, IsSome, length}
use Rattle.mount_log.specs.declared.logs.SentLine.{SentLine}
use Rattle.run_audit.specs.Numbered.{AreNth, AreInEvents}
use Rattle.run_audit.proofs.run.nth_of.Goals as goal

pub returns-clause-nth : goal.returns-clause-nth
returns-clause-nth c =
    subst (λ (l : List SentLine). IfSome c.in_ok-found.found (λ nth. AreNth c.args.notes.now.ended (length c.args.log.now.events) l nth.items)) c.as_slice.ensures
    (subst (λ (l : List ℕ). IfSome c.in_ok-found.found (λ nth. AreNth l (length c.args.log.now.events) c.as_slice.result.now nth.items)) c.as_slice-2.ensures
    (subst (λ (n : ℕ). IfSome c.in_ok-found.found (λ nth. AreNth c.as_slice-2.result.now n c.as_slice.result.now nth.items)) c.len-last.ensures c.in_ok-found.ensures.nth))

pub returns-clause-many : goal.returns-clause-many
returns-clause-many c = subst (λ (l : List SentLine). IfSome c.in_ok-found.found (λ nth. length nth.items ≡ length l)) c.as_slice.ensures c.in_ok-found.ensures.many

pub returns-clause-complete : goal.returns-clause-complete
returns-clause-complete c = λ order.
    c.in_ok-found.ensures.complete
    (subst (λ (n : ℕ). AreInEvents n c.as_slice.result.now) (sym c.len-last.ensures)
    (subst (λ (l : List SentLine). AreInEvents (length c.args.log.now.events) l) (sym c.as_slice.ensures) order))
