use Rattle.std.proofs.Common.{◌≡◌, sym, ap, subst, ◌∙◌, map}
use Rattle.std.specs.Prelude.{ℕ, List, Option, IsSome}
use Rattle.fop_types.specs.declared.contents.Row.{Row}
use Rattle.error_audit.specs.LockTable.{locks_at}
use Rattle.error_audit.specs.Showing.{IsGrantAmong}
use Rattle.error_audit.specs.code.Searches.{last_in}
use Rattle.error_audit.specs.declared.evidence.Found.{Found}
use Rattle.error_audit.proofs.grants.push_rows.Goals as goal

pub returns-in-None-clause-complete : goal.returns-in-None-clause-complete
returns-in-None-clause-complete c = λ has.
    let lock : last_in (locks_at (map (λ v. v.items) c.args.tables.now.locks.items) c.args.reply.now.call) c.args.brick 0 ≡ c.last_lock-lock.result =
    sym (c.last_lock-lock.ensures ∙ ap (λ l. last_in (locks_at (map (λ v. v.items) l) c.args.reply.now.call) c.args.brick 0) c.as_slice.ensures.value) in
    let among = subst (λ (n : ℕ). IsGrantAmong c.args.log.now c.args.reply.now.call c.args.reply.now.event c.args.phase.now.from c.args.phase.now.cells c.args.brick n c.of-found.result.now) lock
    (subst (λ (l : List Found). IsGrantAmong c.args.log.now c.args.reply.now.call c.args.reply.now.event c.args.phase.now.from c.args.phase.now.cells c.args.brick (last_in (locks_at (map (λ v. v.items) c.args.tables.now.locks.items) c.args.reply.now.call) c.args.brick 0) l) (sym c.of-found.ensures) has) in
    subst (λ (o : Option (List Row)). IsSome o) c.in-None.is (c.in_ok-rows.ensures.complete among)
