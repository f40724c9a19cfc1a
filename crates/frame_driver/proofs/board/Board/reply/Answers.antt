use Rattle.frame_driver.proofs.Replying.{replied_sound, replied_parted, replied_held}
use Rattle.frame_driver.proofs.Nesting.{ended_nests}
use Rattle.frame_driver.proofs.Ending.{ended_still}
use Rattle.frame_driver.proofs.Total.{ended_total, ended_account}
use Rattle.frame_driver.proofs.Rooting.{ended_rooted}
use Rattle.frame_driver.proofs.board.Board.reply.Goals as goal

pub returns-clause-sound : goal.returns-clause-sound
returns-clause-sound g c = λ ps s. replied_sound c.args.wind c.args.reply c.args.self.now _ c.in_ok-settled.ensures.ended c.requires.ours ps s

pub returns-clause-parted : goal.returns-clause-parted
returns-clause-parted g c = λ outer p had. replied_parted c.args.wind c.args.reply c.args.self.now _ c.in_ok-settled.ensures.ended outer p had

pub returns-clause-nests : goal.returns-clause-nests
returns-clause-nests g c = λ ps n. ended_nests ps c.args.wind c.args.reply c.args.self.now _ c.in_ok-settled.ensures.ended n

pub returns-clause-held : goal.returns-clause-held
returns-clause-held g c = λ ps outer h. replied_held c.args.wind c.args.reply c.args.self.now _ c.in_ok-settled.ensures.ended ps outer h

pub returns-clause-work : goal.returns-clause-work
returns-clause-work g c = λ ps. ended_total c.args.wind c.args.reply ps c.args.self.now _ c.in_ok-settled.ensures.ended

pub returns-clause-paid : goal.returns-clause-paid
returns-clause-paid g c = λ ps call. ended_account c.args.wind c.args.reply ps call c.args.self.now _ c.in_ok-settled.ensures.ended

pub returns-clause-frames : goal.returns-clause-frames
returns-clause-frames g c = (ended_still c.args.wind c.args.reply c.args.self.now _ c.in_ok-settled.ensures.ended).frames

pub returns-clause-rooted : goal.returns-clause-rooted
returns-clause-rooted g c = λ root r. ended_rooted root c.args.wind c.args.reply c.args.self.now _ c.in_ok-settled.ensures.ended r
