use Rattle.hub_tables.proofs.Sessions.{AreWithLine}
use Rattle.hub_tables.proofs.session_lines.SessionLines.of_phase.Given as goal

abbrev pub invariant-loop-session : goal.invariant-loop-session
invariant-loop-session l = AreWithLine l.fn.self l.fn.phase l.session l.sessions
