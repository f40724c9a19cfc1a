use Rattle.std.proofs.Common.{sym}
use Rattle.line_audit.proofs.Lasting.{reply_noted}
use Rattle.line_audit.proofs.last_uses.note_reply.Goals as goal

pub returns-in-Some-clause-sound : goal.returns-in-Some-clause-sound
returns-in-Some-clause-sound c = λ log same noted.
    reply_noted log c.args.calls.now c.args.reply.now.call c.args.reply.now.event c.in-Some.at c.args.until.now.items c.note.new.until.items same (sym c.in-Some.ensures) (c.note.ensures.sound noted)
