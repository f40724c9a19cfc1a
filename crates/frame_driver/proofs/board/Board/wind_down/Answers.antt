use Rattle.frame_driver.proofs.Leading.{leads_then}
use Rattle.frame_driver.proofs.board.Board.wind_down.Goals as goal

pub returns-in_err-hand_down-clause-leads : goal.returns-in_err-hand_down-clause-leads
returns-in_err-hand_down-clause-leads g c = leads_then c.args.self.now c.open_wind.new.self c.hand_down.new.self c.open_wind.ensures.leads c.hand_down.ensures.leads

pub returns-clause-leads : goal.returns-clause-leads
returns-clause-leads g c = leads_then c.args.self.now c.open_wind.new.self c.hand_down.new.self c.open_wind.ensures.leads c.hand_down.ensures.leads
