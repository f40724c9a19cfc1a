use Rattle.std.proofs.lemmas.List.{take_rest}
use Rattle.volfile.proofs.PartLemmas.{line_cut}
use Rattle.volfile.proofs.cuts.first_line.Goals as goal

pub returns-clause-cut : goal.returns-clause-cut
returns-clause-cut c = line_cut c.args.text.now _ c.args.at _ c.requires (take_rest c.args.text.now c.args.at) c.len_to-end.ensures.len c.len_to-end.ensures.within
