use Rattle.std.proofs.Common.{arith}
use Rattle.history_replay.proofs.Running.{added_at}
use Rattle.history_replay.proofs.steps.put_claim.Goals as goal

pub returns-clause-puts : goal.returns-clause-puts
returns-clause-puts c = λ _.
    added_at c.args.steps.now.items c.args.place c.index_mut.result.now c.add.new.self c.args.claim
    (let ok = c.args.steps.now.ok.0 in omega (arith, ok, c.len.ensures)) c.index_mut.ensures.value c.in_ok-add.ensures
