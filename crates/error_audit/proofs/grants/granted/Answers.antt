use Rattle.std.proofs.Common.{◌≡◌, sym, subst, ◌∙◌}
use Rattle.std.specs.Prelude.{ℕ, List}
use Rattle.fop_types.specs.declared.cells.Cell.{Cell}
use Rattle.mount_log.specs.Locks.{IsLock}
use Rattle.mount_log.proofs.Items.{some_is}
use Rattle.error_audit.specs.Showing.{HaveRowsAt}
use Rattle.error_audit.proofs.grants.granted.Goals as goal

pub returns-in_default-clause-complete : goal.returns-in_default-clause-complete
returns-in_default-clause-complete c = λ rows g.
    let some = c.in_ok-asked.ensures.complete g.wind (subst (λ (l : List Cell). IsLock c.args.log.now c.args.reply.now.call c.args.lock c.args.brick g.wind l) (sym c.as_slice.ensures) g.asked) in
    let none = c.in_default.is in absurd cc

pub returns-clause-complete : goal.returns-clause-complete
returns-clause-complete c = λ rows g.
    let asked = c.in_ok-asked.ensures.complete g.wind (subst (λ (l : List Cell). IsLock c.args.log.now c.args.reply.now.call c.args.lock c.args.brick g.wind l) (sym c.as_slice.ensures) g.asked) in
    c.in_ok-rows.ensures.complete rows
    (subst (λ (w : ℕ). HaveRowsAt c.args.log.now c.args.reply.now.call c.args.reply.now.event c.args.brick w c.args.at rows) (some_is g.wind c.in-Some.wind (sym asked ∙ c.in-Some.is)) g.rows_are)
