use Rattle.script_lang.proofs.Sessions.{said_refused}
use Rattle.script_lang.proofs.phase_lines.with_said.Goals as goal

pub returns-in-Some : goal.returns-in-Some
returns-in-Some c = said_refused c.args.draft.now c.args.number c.args.session.now _ _ _ _ c.in-Ok.is c.place-place.ensures c.in-Some.ensures
