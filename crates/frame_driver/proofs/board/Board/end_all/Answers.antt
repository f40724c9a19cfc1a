use Rattle.frame_driver.proofs.Leading.{leads_then}
use Rattle.frame_driver.proofs.Looping.{ending_on, ending_ours, ending_done}
use Rattle.frame_driver.proofs.Replying.{ending_first}
use Rattle.frame_driver.proofs.board.Board.end_all.Goals as goal

pub returns-in_err-settled-clause-leads : goal.returns-in_err-settled-clause-leads
returns-in_err-settled-clause-leads g c = leads_then c.args.self.now c.loop-bailed.self c.end_wind.new.self c.loop-bailed.invariant.leads c.end_wind.ensures.leads

pub loop-bailed-preserved : goal.loop-bailed-preserved
loop-bailed-preserved g c = ending_on c.args.winds.items c.loop-bailed.rest c.pop.new.self c.in-Some.bailed c.args.self.now c.loop-bailed.self c.end_wind.new.self c.loop-bailed.won c.won_by-won.result c.in_ok-settled.settled c.loop-bailed.invariant c.in-Some.ensures c.in_ok-settled.ensures.ended c.in_ok-settled.ensures.settled c.end_wind.ensures.leads c.won_by-won.ensures

pub loop-bailed-init : goal.loop-bailed-init
loop-bailed-init g c = rw c.from_vec-rest.ensures (ending_first c.args.winds.items c.args.self.now c.requires.ours)

pub end_wind-requires : goal.end_wind-requires
end_wind-requires g c = record { ours = ending_ours c.args.winds.items c.loop-bailed.rest c.pop.new.self c.in-Some.bailed c.args.self.now c.loop-bailed.self c.loop-bailed.won c.loop-bailed.invariant c.in-Some.ensures }

pub returns-clause-ended : goal.returns-clause-ended
returns-clause-ended g c = ending_done c.args.winds.items c.loop-bailed.rest c.args.self.now c.loop-bailed.self c.loop-bailed.won c.loop-bailed.invariant c.in_default.ensures.0

pub returns-clause-leads : goal.returns-clause-leads
returns-clause-leads g c = c.loop-bailed.invariant.leads
