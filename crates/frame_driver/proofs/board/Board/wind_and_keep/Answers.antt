use Rattle.frame_driver.proofs.Keeping.{out_at, out_still, wound_kept, wound_led}
use Rattle.frame_driver.proofs.board.Board.wind_and_keep.Goals as goal

pub wind_all-requires-clause-open : goal.wind_all-requires-clause-open
wind_all-requires-clause-open g c = out_at c.args.self.now.stack c.args.frame c.args.place c.requires.out

pub put-requires : goal.put-requires
put-requires g c = out_still c.args.wiring.now c.args.frame c.args.place c.args.self.now c.wind_all.new.self c.args.winds.items c.requires.out c.in_ok-wind_all.ensures.wound

pub returns-clause-wound : goal.returns-clause-wound
returns-clause-wound g c = wound_kept c.args.wiring.now c.args.frame c.args.place c.args.self.now c.wind_all.new.self c.args.winds.items c.requires.out c.in_ok-wind_all.ensures.wound c.args.local c.put.new.self c.put.ensures.after

pub returns-clause-leads : goal.returns-clause-leads
returns-clause-leads g c = wound_led c.args.wiring.now c.args.frame c.args.place c.args.self.now c.wind_all.new.self c.args.winds.items c.requires.out c.in_ok-wind_all.ensures.wound c.args.local c.put.new.self c.requires.home c.wind_all.ensures.leads c.put.ensures.after
