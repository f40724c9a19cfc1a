use Rattle.report_reader.proofs.reads.lines.Goals as goal

pub loop-rest-smaller : goal.loop-rest-smaller
loop-rest-smaller c = c.in_ok-rest.ensures.shorter
