use Rattle.std.proofs.Common.{arith}
use Rattle.history_replay.proofs.Running.{taken_at}
use Rattle.history_replay.proofs.steps.put_change.Goals as goal

pub returns-clause-puts : goal.returns-clause-puts
returns-clause-puts c = λ did.
    taken_at c.args.steps.now.items c.args.index c.index_mut.result.now c.take.new.self c.args.change
    (let ok = c.args.steps.now.ok.0 in omega (arith, ok, c.len.ensures)) c.index_mut.ensures.value (c.take.ensures did)
