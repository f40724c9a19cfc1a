use Rattle.std.proofs.Common.{ap}
use Rattle.frame_driver.proofs.Pushing.{went_sound, went_parted, went_nests, went_held, went_work, went_paid}
use Rattle.frame_driver.specs.declared.items.Task.TheVariants.{Go}
use Rattle.frame_driver.proofs.Rooting.{pushed_rooted}
use Rattle.frame_driver.proofs.board.Board.go_on.Goals as goal

pub returns-clause-sound : goal.returns-clause-sound
returns-clause-sound g c = λ ps home once s. went_sound c.args.self.now _ c.args.frame (ap (λ q. record c.args.self.now { queue = q }) c.in_ok-push.ensures.ok) ps home once s

pub returns-clause-parted : goal.returns-clause-parted
returns-clause-parted g c = λ outer p. went_parted c.args.self.now _ c.args.frame (ap (λ q. record c.args.self.now { queue = q }) c.in_ok-push.ensures.ok) outer p

pub returns-clause-nests : goal.returns-clause-nests
returns-clause-nests g c = λ ps n. went_nests c.args.self.now _ c.args.frame (ap (λ q. record c.args.self.now { queue = q }) c.in_ok-push.ensures.ok) ps n

pub returns-clause-held : goal.returns-clause-held
returns-clause-held g c = λ ps outer h. went_held c.args.self.now _ c.args.frame (ap (λ q. record c.args.self.now { queue = q }) c.in_ok-push.ensures.ok) ps outer h

pub returns-clause-work : goal.returns-clause-work
returns-clause-work g c = λ ps. went_work c.args.self.now _ c.args.frame (ap (λ q. record c.args.self.now { queue = q }) c.in_ok-push.ensures.ok) ps

pub returns-clause-paid : goal.returns-clause-paid
returns-clause-paid g c = λ ps call. went_paid c.args.self.now _ c.args.frame (ap (λ q. record c.args.self.now { queue = q }) c.in_ok-push.ensures.ok) ps call

pub returns-clause-rooted : goal.returns-clause-rooted
returns-clause-rooted g c = λ root r. pushed_rooted root c.args.self.now _ (Go c.args.frame) (ap (λ q. record c.args.self.now { queue = q }) c.in_ok-push.ensures.ok) tt r
