use Rattle.mount_files.proofs.Sentences.{name_here, name_nowhere}
use Rattle.mount_files.proofs.laws.names_are_known.Goals as goal

pub returns-clause-here : goal.returns-clause-here
returns-clause-here c = name_here

pub returns-clause-nowhere : goal.returns-clause-nowhere
returns-clause-nowhere c = name_nowhere
