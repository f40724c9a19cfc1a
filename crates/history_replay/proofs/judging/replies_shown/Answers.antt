use Rattle.std.proofs.Common.{arith}
use Rattle.history_replay.proofs.Showing.{shown_long}
use Rattle.history_replay.proofs.judging.replies_shown.Goals as goal

pub index-requires : goal.index-requires
index-requires c =
    let ok = c.args.answers.now.ok.0 in omega (arith, ok, shown_long c.args.calls.now c.args.answers.now.items c.requires, c.loop-at-test.true)
