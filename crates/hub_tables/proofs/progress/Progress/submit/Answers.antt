use Rattle.hub_tables.proofs.Sessions.{submission_is}
use Rattle.hub_tables.proofs.progress.Progress.submit.Goals as goal

pub returns : goal.returns
returns c = rw (← c.self.view_is) (submission_is c.self.inside.phase c.self.inside.unanswered c.self.inside.ready c.without-self-inside.result c.args.session c.without-self-inside.ensures)
