use Rattle.call_fops.proofs.asking.last_fop.Goals as goal

pub returns-in-Read : goal.returns-in-Read
returns-in-Read c = rw c.in-Read.is (c.read.ensures c.args.walk.now c.args.drawn)

pub returns-in-Write : goal.returns-in-Write
returns-in-Write c = rw c.in-Write.is (c.write.ensures c.args.walk.now c.args.drawn)
