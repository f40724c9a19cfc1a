use Rattle.read_audit.proofs.Reading.{file_is}
use Rattle.read_audit.proofs.objects.is_file_read.Goals as goal

pub returns : goal.returns
returns c = λ yes.
    file_is c.args.run.now.script.now c.args.run.now.plans.now c.args.run.now.log.now c.args.run.now.bricks.now c.args.by.call c.args.by.number c.args.set c.args.gfid c.args.mode c.args.size
    (c.in_ok-is_size_read.ensures c.if-not-branch.false) (c.in_ok-yes.ensures yes)
