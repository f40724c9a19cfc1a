use Rattle.std.proofs.Common.{◌≡◌, sym, ◌∙◌}
use Rattle.std.specs.Prelude.{None, Some}
use Rattle.error_audit.proofs.Searching.{marks_some}
use Rattle.error_audit.proofs.evidence.Clues.marks_of.Goals as goal

pub returns-in-Some-get : goal.returns-in-Some-get
returns-in-Some-get c =
    c.as_slice.ensures.value
    ∙ marks_some (λ l. l.items) c.args.self.now.marks.entries c.args.cells.now c.in-Some.cell.now (Some c.in-Some-get.places.now) (sym c.in-Some.ensures.value) c.in-Some-get.ensures.value

pub returns-in-None : goal.returns-in-None
returns-in-None c = marks_some (λ l. l.items) c.args.self.now.marks.entries c.args.cells.now c.in-Some.cell.now None (sym c.in-Some.ensures.value) c.in-None.ensures.value
