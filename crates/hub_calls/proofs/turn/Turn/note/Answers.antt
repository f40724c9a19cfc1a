use Rattle.std.proofs.Common.{◌≡◌, ℕ, Bool, List, ◌++◌, OnOk, subst}
use Rattle.fop_types.specs.declared.causes.SkipCause.{SkipCause}
use Rattle.fop_types.specs.declared.cells.Cell.{Cell}
use Rattle.mount_log.specs.Logs.{with_winds}
use Rattle.xlator_law.specs.declared.winds.WindNo.{WindNo}
use Rattle.hub_calls.proofs.Noting.{all_noted}
use Rattle.hub_calls.proofs.turn.Turn.note.Goals as goal

pub returns-clause-noted : goal.returns-clause-noted
returns-clause-noted c =
    let old = c.args.self.now in
    let copied = c.note_copies-copied.new.self in
    let winds = subst (λ (ws : List (WindNo × ℕ × Bool)). OnOk c.note_winds-wound.result (c.note_winds-wound.new.self ≡ record old { lines = with_winds old.lines 0 c.args.graph ws })) c.as_slice.ensures c.note_winds-wound.ensures.winds in
    let skips = subst (λ (ss : List (Cell × SkipCause)). OnOk c.note_skips-skipped.result (c.note_skips-skipped.new.self ≡ record copied { lines = record (copied.lines) { skips = copied.lines.skips ++ ss } })) c.as_slice-2.ensures c.note_skips-skipped.ensures.skips in
    rw (c.and-4.ensures, c.and-3.ensures, c.and-2.ensures, c.and.ensures)
    (all_noted c.args.graph c.args.moved old c.note_winds-wound.new.self copied c.note_skips-skipped.new.self c.note_answers-answered.new.self c.push-given.new.self
    c.note_winds-wound.result c.note_copies-copied.result c.note_skips-skipped.result c.push-given.result c.note_answers-answered.result
    winds c.note_copies-copied.ensures.copies skips c.push-given.ensures.ok c.note_answers-answered.ensures.items)
