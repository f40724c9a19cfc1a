use Rattle.mount_shown.proofs.Knowing.{calls_here, calls_nowhere}
use Rattle.mount_shown.proofs.known.calls_know_names.Goals as goal

pub returns-clause-here : goal.returns-clause-here
returns-clause-here c = calls_here

pub returns-clause-nowhere : goal.returns-clause-nowhere
returns-clause-nowhere c = calls_nowhere
