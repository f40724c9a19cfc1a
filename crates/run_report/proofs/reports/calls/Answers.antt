use Rattle.std.proofs.Common.{◌≡◌, sym, ap, subst, ◌∙◌, arith}
use Rattle.std.specs.Prelude.{◌+◌, ◌-◌, ◌<◌, ◌++◌, length}
use Rattle.std.specs.List.{range_with_len}
use Rattle.run_report.specs.Reports.{shown_numbers, shown_calls}
use Rattle.run_report.proofs.Calls.{none_shown, one_shown}
use Rattle.run_report.proofs.reports.calls.Goals as goal

pub loop-index-preserved-in_default : goal.loop-index-preserved-in_default
loop-index-preserved-in_default c =
    let lt : c.loop-index.index < length c.args.replies.now = omega (arith, c.loop-index-test.true, c.len-index-end.ensures, c.in_ok-places.places.ok.0, c.in_ok-places.ensures.long) in
    none_shown c.args.names.now c.args.replies.now c.loop-index.index (length c.args.replies.now) lt c.loop-index.shown (shown_calls c.args.names.now c.args.replies.now) (sym c.in_default.ensures) c.loop-index.invariant

pub loop-index-preserved : goal.loop-index-preserved
loop-index-preserved c =
    let lt : c.loop-index.index < length c.args.replies.now = omega (arith, c.loop-index-test.true, c.len-index-end.ensures, c.in_ok-places.places.ok.0, c.in_ok-places.ensures.long) in
    subst (λ l. l ++ shown_numbers c.args.names.now c.args.replies.now (range_with_len (c.loop-index.index + 1 + 1) (length c.args.replies.now - (c.loop-index.index + 1))) ≡ shown_calls c.args.names.now c.args.replies.now) (sym c.in_ok-push.ensures.ok)
    (one_shown c.args.names.now c.args.replies.now c.loop-index.index (length c.args.replies.now) lt c.loop-index.shown (shown_calls c.args.names.now c.args.replies.now) c.in-Some.reply.now c.in_ok-one.one (sym c.in-Some.ensures) c.in_ok-one.ensures c.loop-index.invariant)
