use Rattle.std.proofs.Common.{ap, ◌∙◌, ◌+◌, ◌++◌, drop}
use Rattle.std.specs.Prelude.{List}
use Rattle.std.proofs.lemmas.List.{append_assoc}
use Rattle.fop_types.specs.declared.answers.SplitRow.{SplitRow}
use Rattle.mount_log.specs.Causes.{all_rows}
use Rattle.mount_log.proofs.Lists.{grown}
use Rattle.error_audit.proofs.split_rows.all_rows.Goals as goal

pub loop-place-preserved : goal.loop-place-preserved
loop-place-preserved c =
    let rest = all_rows c.args.bricks.now c.args.shown.now c.args.cells.now (drop (c.loop-place.place-index + 1) c.args.places.now) in
    grown (all_rows c.args.bricks.now c.args.shown.now c.args.cells.now) c.args.places.now c.loop-place.place-index _ c.loop-place.all.items c.push_place.new.all.items rest
    (all_rows c.args.bricks.now c.args.shown.now c.args.cells.now c.args.places.now) c.loop-place-test.true
    (ap (λ (l : List SplitRow). l ++ rest) c.in_ok-push_place.ensures ∙ append_assoc c.loop-place.all.items _ rest) c.loop-place.invariant
