use Rattle.history_replay.proofs.Showing.{first_long, since_first}
use Rattle.history_replay.proofs.judging.since_of.Goals as goal

pub loop-at-init : goal.loop-at-init
loop-at-init c = record {
  long = first_long c.in_ok-reached.reached.items c.in_ok-reached.ensures;
  so_far =
      since_first c.args.lines.now c.args.calls.now c.in_ok-reached.reached.items c.new-since.result.items c.in_ok-reached.ensures c.new-since.ensures.items;
}
