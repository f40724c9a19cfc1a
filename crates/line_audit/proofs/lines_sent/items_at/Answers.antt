use Rattle.std.proofs.Common.{sym, ◌∙◌}
use Rattle.line_audit.proofs.Linking.{list_there, list_none}
use Rattle.line_audit.proofs.lines_sent.items_at.Goals as goal

pub returns-in-Some : goal.returns-in-Some
returns-in-Some c = c.as_slice.ensures.value ∙ sym (list_there (λ l. l.items) c.args.lists.now c.args.number c.in-Some.list.now (sym c.in-Some.ensures))

pub returns-in-None : goal.returns-in-None
returns-in-None c = sym (list_none (λ l. l.items) c.args.lists.now c.args.number (sym c.in-None.ensures))
