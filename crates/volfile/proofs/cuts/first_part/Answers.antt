use Rattle.std.proofs.lemmas.List.{take_rest}
use Rattle.volfile.proofs.PartLemmas.{part_cut}
use Rattle.volfile.proofs.cuts.first_part.Goals as goal

pub returns-clause-cut : goal.returns-clause-cut
returns-clause-cut c = part_cut c.args.line.now _ c.args.at _ (take_rest c.args.line.now c.args.at) c.len_to_blank-end.ensures.len c.len_to_blank-end.ensures.within
