use Rattle.frame_driver.proofs.Leading.{leads_then}
use Rattle.frame_driver.proofs.Looping.{winding_now, winding_on, winding_done, winding_stopped, handed_on}
use Rattle.frame_driver.proofs.Opening.{winding_first}
use Rattle.frame_driver.proofs.board.Board.wind_all.Goals as goal

pub returns-in_err-wind_down-clause-leads : goal.returns-in_err-wind_down-clause-leads
returns-in_err-wind_down-clause-leads g c = leads_then c.args.self.now c.loop-wound.self c.wind_down.new.self c.loop-wound.invariant.leads c.wind_down.ensures.leads

pub returns-in_err-wind_down-clause-winds : goal.returns-in_err-wind_down-clause-winds
returns-in_err-wind_down-clause-winds g c = λ e. winding_stopped c.args.wiring.now c.args.place c.args.frame c.args.self.now c.loop-wound.self c.wind_down.new.self c.args.winds.items c.loop-wound.rest c.pop.new.self c.in-Some.wound c.loop-wound.invariant c.in-Some.ensures (c.in_err-wind_down.ensures.winds (handed_on c.from_residual.result c.in_err-wind_down.field-0.0 _ c.from_residual.ensures.1 e))

pub loop-wound-init : goal.loop-wound-init
loop-wound-init g c = rw c.from_vec-rest.ensures (winding_first c.args.wiring.now c.args.place c.args.frame c.args.self.now c.args.winds.items c.requires.may c.requires.wired c.requires.open c.requires.home)

pub loop-wound-preserved : goal.loop-wound-preserved
loop-wound-preserved g c = winding_on c.args.wiring.now c.args.place c.args.frame c.args.self.now c.loop-wound.self c.wind_down.new.self c.args.winds.items c.loop-wound.rest c.pop.new.self c.in-Some.wound c.loop-wound.invariant c.in-Some.ensures c.in_ok-wind_down.ensures.wound c.wind_down.ensures.leads

pub wind_down-requires-clause-open : goal.wind_down-requires-clause-open
wind_down-requires-clause-open g c = c.loop-wound.invariant.there

pub wind_down-requires-clause-home : goal.wind_down-requires-clause-home
wind_down-requires-clause-home g c = c.loop-wound.invariant.home

pub wind_down-requires-clause-slot : goal.wind_down-requires-clause-slot
wind_down-requires-clause-slot g c = (winding_now c.args.wiring.now c.args.place c.args.frame c.args.self.now c.loop-wound.self c.args.winds.items c.loop-wound.rest c.pop.new.self c.in-Some.wound c.loop-wound.invariant c.in-Some.ensures).may.0

pub wind_down-requires-clause-wired : goal.wind_down-requires-clause-wired
wind_down-requires-clause-wired g c = (winding_now c.args.wiring.now c.args.place c.args.frame c.args.self.now c.loop-wound.self c.args.winds.items c.loop-wound.rest c.pop.new.self c.in-Some.wound c.loop-wound.invariant c.in-Some.ensures).wired.0

pub returns-clause-wound : goal.returns-clause-wound
returns-clause-wound g c = winding_done c.args.wiring.now c.args.place c.args.frame c.args.self.now c.loop-wound.self c.args.winds.items c.loop-wound.rest c.loop-wound.invariant c.in_default.ensures.0

pub returns-clause-leads : goal.returns-clause-leads
returns-clause-leads g c = c.loop-wound.invariant.leads
