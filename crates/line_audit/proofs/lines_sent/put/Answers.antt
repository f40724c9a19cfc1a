use Rattle.std.proofs.Common.{arith}
use Rattle.line_audit.proofs.Linking.{puts_in}
use Rattle.line_audit.proofs.lines_sent.put.Goals as goal

pub returns-clause-sound : goal.returns-clause-sound
returns-clause-sound c = λ yes.
    puts_in (λ l. l.items) c.args.lists.now.items c.index_mut.result.now c.push.new.self c.args.item (omega (arith, c.if-item-len.false, c.len.ensures)) c.index_mut.ensures.value c.in_ok-push.ensures.items
