use Rattle.std.proofs.Common.{refl, arith}
use Rattle.mount_log.proofs.SessionLines.{pops_taken, pops_none}
use Rattle.mount_log.proofs.session_lines.take_line.Goals as goal

pub returns-in-Some-clause-taken : goal.returns-in-Some-clause-taken
returns-in-Some-clause-taken c = pops_taken (λ q. q.items) c.args.lines.now.items c.args.session c.in-Some.queue.now c.pop_front.new.self c.pop_front.result (omega (arith, c.in-Some.ensures.variant.0 refl, c.args.lines.now.ok.0)) c.in-Some.ensures.value c.pop_front.ensures.items

pub returns-in-Some-clause-unchanged : goal.returns-in-Some-clause-unchanged
returns-in-Some-clause-unchanged c = pops_none (λ q. q.items) c.args.lines.now.items c.args.session c.in-Some.queue.now c.pop_front.new.self c.pop_front.result c.in-Some.ensures.value c.pop_front.ensures.items
