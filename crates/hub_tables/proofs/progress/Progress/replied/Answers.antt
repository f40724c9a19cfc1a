use Rattle.std.proofs.Common.{sym}
use Rattle.hub_tables.specs.Sessions.{first_line}
use Rattle.hub_tables.proofs.Sessions.{reply_is}
use Rattle.hub_tables.proofs.progress.Progress.replied.Goals as goal

pub returns : goal.returns
returns c = rw (← c.self.view_is)
    (reply_is (first_line c.args.lines.now) c.self.inside.phase c.self.inside.unanswered c.saturating_sub-self-inside.result c.self.inside.ready c.with-self-inside.result c.args.session
    (sym c.if-not-has_more.ensures) c.saturating_sub-self-inside.ensures c.with-self-inside.ensures)
