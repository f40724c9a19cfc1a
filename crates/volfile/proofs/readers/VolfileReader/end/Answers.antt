use Rattle.volfile.proofs.Whole.{ended_form}
use Rattle.volfile.proofs.readers.VolfileReader.end.Goals as goal

pub returns-clause-form : goal.returns-clause-form
returns-clause-form c = ended_form c.self.inside.held c.args.number c.end.result c.self.invariant c.end.ensures
