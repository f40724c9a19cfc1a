use Rattle.history_replay.specs.code.Runs.{state_of}
use Rattle.history_replay.proofs.Adding.{claims_reached}
use Rattle.history_replay.proofs.progress.claims_of.Goals as goal

pub returns-in-Ok-true : goal.returns-in-Ok-true
returns-in-Ok-true c =
    claims_reached c.args.trace.now c.args.f.now c.args.count (state_of c.in_ok-p.p) (state_of c.go_through-gone.new.p) c.replace-claims.result c.in_ok-p.ensures
    (c.in-Ok-true.ensures c.in-Ok-true.field-0-test) c.replace-claims.ensures.value
