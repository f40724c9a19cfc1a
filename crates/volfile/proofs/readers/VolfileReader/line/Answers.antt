use Rattle.volfile.proofs.Whole.{read_keeps}
use Rattle.volfile.proofs.readers.VolfileReader.line.Goals as goal

pub invariant_of-self-2 : goal.invariant_of-self-2
invariant_of-self-2 c = read_keeps c.in_ok-read.field-0 c.self.inside.held _ c.args.number c.args.line.now c.in_ok-read.ensures.ok c.self.invariant
