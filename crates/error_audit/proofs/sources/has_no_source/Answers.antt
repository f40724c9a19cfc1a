use Rattle.std.proofs.Common.{◌≡◌, sym, ◌∙◌}
use Rattle.mount_log.specs.Causes.{OfCell, OfChange}
use Rattle.error_audit.proofs.Sourcing.{of_change}
use Rattle.error_audit.proofs.sources.has_no_source.Goals as goal

pub returns-then-branch-clause-sound : goal.returns-then-branch-clause-sound
returns-then-branch-clause-sound c = λ _. let found = c.in_ok-has_unsound_cell.ensures.0 c.if-branch.true in OfCell found.place found.among found.none

pub returns-then-not-branch-clause-complete : goal.returns-then-not-branch-clause-complete
returns-then-not-branch-clause-complete c = λ are none.
    let change = of_change c.args.log.now c.args.plan.now c.args.phase.now.from c.args.phase.now.cells c.args.shown.now c.args.places.now _ c.in_ok-has_unsound_cell.ensures.1 c.if-branch.false none in
    sym c.if-not-branch.true ∙ c.in_ok-was_marked.ensures.exact.1 (are change.0)

pub returns-clause-sound : goal.returns-clause-sound
returns-clause-sound c = λ yes. OfChange (c.in_ok-was_marked.ensures.sound c.if-not-branch.false) (c.in_ok-yes.ensures.0 yes)

pub returns-clause-complete : goal.returns-clause-complete
returns-clause-complete c = λ are none.
    let change = of_change c.args.log.now c.args.plan.now c.args.phase.now.from c.args.phase.now.cells c.args.shown.now c.args.places.now _ c.in_ok-has_unsound_cell.ensures.1 c.if-branch.false none in
    c.in_ok-yes.ensures.1 change.1
