use Rattle.std.proofs.Common.{◌≡◌, sym, ap, ◌∙◌}
use Rattle.std.specs.Prelude.{ℕ, List, Option, None, Some}
use Rattle.change_audit.specs.Acknowledged.{mark_of}
use Rattle.change_audit.proofs.Entries.{claimed_in_time, not_due}
use Rattle.change_audit.proofs.changes.take_due.Goals as goal

pub returns-in_default-clause-claimed : goal.returns-in_default-clause-claimed
returns-in_default-clause-claimed c = λ _.
    not_due c.args.script.now c.args.plans.now c.args.log.now c.args.bricks.now c.args.ops.now c.args.notes.now.marks c.args.claims.now c.args.k c.args.call c.args.operation.now c.args.from c.requires.marks
    (ap (λ (m : List (Option ℕ)). mark_of m c.args.call) (sym c.as_slice.ensures) ∙ sym c.in_default.ensures)

pub returns-clause-claimed : goal.returns-clause-claimed
returns-clause-claimed c = λ yes.
    claimed_in_time c.args.script.now c.args.plans.now c.args.log.now c.args.bricks.now c.args.ops.now c.args.notes.now.marks c.take_change.new.claims c.args.k c.args.call c.in-Some.number
    c.args.operation.now c.args.from c.requires.marks (ap (λ (m : List (Option ℕ)). mark_of m c.args.call) (sym c.as_slice.ensures) ∙ sym c.in-Some.ensures) (c.in_ok-yes.ensures.claimed yes)

pub returns-clause-not_due : goal.returns-clause-not_due
returns-clause-not_due c = λ none.
    let there : ◌≡◌ {A = Option ℕ} None (Some c.in-Some.number) = sym none ∙ ap (λ (m : List (Option ℕ)). mark_of m c.args.call) (sym c.as_slice.ensures) ∙ sym c.in-Some.ensures in absurd cc
