use Rattle.std.proofs.Common.{arith}
use Rattle.report_reader.proofs.Joins.{part_first, part_last}
use Rattle.report_reader.proofs.words.first_part.Goals as goal

pub returns-then-end-rest : goal.returns-then-end-rest
returns-then-end-rest c = part_last c.args.stop c.args.rest.now _ c.len_to-end.ensures.len c.if-end-rest.true

pub returns : goal.returns
returns c = part_first c.args.stop c.args.rest.now _ c.len_to-end.ensures.len (omega (arith, c.if-end-rest.false, c.len_to-end.ensures.within))
