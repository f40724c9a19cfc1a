use Rattle.call_fops.proofs.holding.last_hold.Goals as goal

pub returns-in-Read : goal.returns-in-Read
returns-in-Read c = λ drawn. rw c.in-Read.is (c.of_read.ensures c.args.walk.now drawn c.in-Read.count)

pub returns-in-Write : goal.returns-in-Write
returns-in-Write c = λ drawn. rw c.in-Write.is (c.of_write.ensures c.args.walk.now drawn c.in-Write.bytes)
