use Rattle.std.proofs.Common.{◌≡◌, sym, ap, subst, ◌∙◌}
use Rattle.std.specs.Prelude.{ℕ, List}
use Rattle.std.proofs.lemmas.Slice.Zip.{AllZip-long}
use Rattle.fop_types.specs.declared.cells.Cell.{Cell}
use Rattle.mount_log.specs.Causes.{HasShown, all_rows}
use Rattle.error_audit.specs.Finding.{marks_in}
use Rattle.error_audit.specs.Showing.{AreMarks}
use Rattle.error_audit.proofs.splits.is_answered_at.Goals as goal

pub has_no_source-requires-clause-places : goal.has_no_source-requires-clause-places
has_no_source-requires-clause-places c =
    AllZip-long (HasShown c.args.log.now c.args.plan.now c.args.reply.now.call c.args.reply.now.event c.args.phase.now.from c.args.phase.now.cells) c.args.plan.now.bricks c.args.shown.now c.requires.shown

pub returns-then-not-branch-clause-complete : goal.returns-then-not-branch-clause-complete
returns-then-not-branch-clause-complete c = λ rows none marks.
    let same : c.args.rows.now ≡ all_rows c.as_slice.result.now c.args.shown.now c.as_slice-cells.result.now c.args.places.now =
    rows ∙ ap (λ (l : List ℕ). all_rows l c.args.shown.now c.args.phase.now.cells c.args.places.now) (sym c.as_slice.ensures)
    ∙ ap (λ (l : List Cell). all_rows c.as_slice.result.now c.args.shown.now l c.args.places.now) (sym c.as_slice-cells.ensures) in
    sym c.if-not-branch.true ∙ c.in_ok-are_rows.ensures.1 same

pub returns-clause-complete : goal.returns-clause-complete
returns-clause-complete c = λ rows none marks.
    let own : marks_in c.args.tables.now c.args.phase.now.cells ≡ c.marks_of-marks.result.now = sym (c.marks_of-marks.ensures ∙ ap (marks_in c.args.tables.now) c.as_slice-cells.ensures) in
    c.in_ok-yes.ensures.complete (subst (AreMarks c.args.log.now c.args.plan.now c.args.phase.now.from c.args.phase.now.cells) own marks) none
