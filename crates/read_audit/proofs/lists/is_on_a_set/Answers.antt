use Rattle.std.proofs.Common.{sym, ◌∙◌}
use Rattle.read_audit.proofs.Listing.{on_a_set}
use Rattle.read_audit.proofs.lists.is_on_a_set.Goals as goal

pub returns-then-is_among : goal.returns-then-is_among
returns-then-is_among c = λ _.
    on_a_set c.args.lists.now c.loop-set.set c.index-lists-set.result c.as_slice.result.now c.args.shown.now c.loop-set-test.true (sym c.is_link.ensures ∙ c.if-is_link.false) c.index-lists-set.is c.as_slice.ensures
    (c.is_among.ensures c.if-is_among.true)
