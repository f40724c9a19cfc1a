use Rattle.std.proofs.Common.{ap, refl}
use Rattle.frame_driver.proofs.Pushing.{submitted_sound, submitted_parted, submitted_nests, submitted_held, submitted_work, submitted_paid}
use Rattle.frame_driver.specs.declared.items.Task.TheVariants.{Enter}
use Rattle.std.specs.Prelude.{None}
use Rattle.frame_driver.proofs.Rooting.{pushed_rooted}
use Rattle.frame_driver.proofs.board.Board.submit.Goals as goal

pub returns-clause-sound : goal.returns-clause-sound
returns-clause-sound g c = λ ps there s. submitted_sound c.args.self.now _ c.args.node c.args.call c.args.fop (ap (λ q. record c.args.self.now { queue = q }) c.in_ok-push.ensures.ok) ps there s

pub returns-clause-parted : goal.returns-clause-parted
returns-clause-parted g c = λ outer p. submitted_parted c.args.self.now _ c.args.node c.args.call c.args.fop (ap (λ q. record c.args.self.now { queue = q }) c.in_ok-push.ensures.ok) outer p

pub returns-clause-nests : goal.returns-clause-nests
returns-clause-nests g c = λ ps n. submitted_nests c.args.self.now _ c.args.node c.args.call c.args.fop (ap (λ q. record c.args.self.now { queue = q }) c.in_ok-push.ensures.ok) ps n

pub returns-clause-held : goal.returns-clause-held
returns-clause-held g c = λ ps outer h. submitted_held c.args.self.now _ c.args.node c.args.call c.args.fop (ap (λ q. record c.args.self.now { queue = q }) c.in_ok-push.ensures.ok) ps outer h

pub returns-clause-work : goal.returns-clause-work
returns-clause-work g c = λ ps. submitted_work c.args.self.now _ c.args.node c.args.call c.args.fop (ap (λ q. record c.args.self.now { queue = q }) c.in_ok-push.ensures.ok) ps

pub returns-clause-paid : goal.returns-clause-paid
returns-clause-paid g c = λ ps call. submitted_paid c.args.self.now _ c.args.node c.args.call c.args.fop (ap (λ q. record c.args.self.now { queue = q }) c.in_ok-push.ensures.ok) ps call

pub returns-clause-rooted : goal.returns-clause-rooted
returns-clause-rooted g c = λ r. pushed_rooted c.args.node c.args.self.now _ (Enter c.args.node c.args.call None c.args.fop) (ap (λ q. record c.args.self.now { queue = q }) c.in_ok-push.ensures.ok) refl r
