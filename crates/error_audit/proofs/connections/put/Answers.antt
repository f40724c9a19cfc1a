use Rattle.std.proofs.Common.{◌≡◌, ◌∙◌, arith, length-set}
use Rattle.error_audit.proofs.Openings.{puts}
use Rattle.error_audit.proofs.connections.put.Goals as goal

pub returns-clause-many : goal.returns-clause-many
returns-clause-many c = length-set c.args.lists.now.items c.args.opening.brick c.push.new.self ∙ c.requires

pub returns-clause-put : goal.returns-clause-put
returns-clause-put c =
    puts (λ l. l.items) c.args.lists.now.items c.index_mut.result.now c.push.new.self c.args.opening (omega (arith, c.requires, c.bricks_have_lists.ensures)) c.index_mut.ensures.value c.in_ok-push.ensures.items
