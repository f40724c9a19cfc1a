use Rattle.std.proofs.Common.{refl, ap, ◌∙◌, ◌+◌, ◌++◌, drop}
use Rattle.std.specs.Prelude.{List, Option, ◌∷◌}
use Rattle.std.proofs.lemmas.List.{append_assoc}
use Rattle.fop_types.specs.declared.contents.Row.{Row}
use Rattle.mount_log.specs.Causes.{rows_of}
use Rattle.mount_log.proofs.Lists.{grown_by}
use Rattle.error_audit.proofs.split_rows.rows_of.Goals as goal

pub loop-one-preserved : goal.loop-one-preserved
loop-one-preserved c =
    let rest = rows_of (drop (c.loop-one.one-index + 1) c.args.shown.now) c.args.place in
    grown_by (λ (xs : List (Option (List Row))). rows_of xs c.args.place) c.args.shown.now c.args.shown.now c.loop-one.one-index c.one-item.result c.loop-one.rows.items c.push.new.self.items rest (rows_of c.args.shown.now c.args.place)
    refl c.loop-one-test.true c.one-item.is
    (ap (λ (l : List (Option Row)). l ++ rest) c.in_ok-push.ensures.items ∙ append_assoc c.loop-one.rows.items _ rest ∙ ap (λ (r : Option Row). c.loop-one.rows.items ++ (r ∷ rest)) c.row_at.ensures) c.loop-one.invariant
