use Rattle.history_replay.proofs.Running.{puts_there}
use Rattle.history_replay.proofs.steps.put.Goals as goal

pub returns-in_ok-put_claim-in-Some-clause-puts : goal.returns-in_ok-put_claim-in-Some-clause-puts
returns-in_ok-put_claim-in-Some-clause-puts c = λ did.
    puts_there c.args.replies.now c.args.steps.now.items c.put_claim.new.steps.items c.in-Some.place c.args.claim (c.in_ok-put_claim-in-Some.ensures.puts did)
