use Rattle.std.proofs.Common.{sym, ◌∙◌}
use Rattle.std.specs.Ordering.{nat_cmp}
use Rattle.std.specs.BTreeSet as sorted
use Rattle.queue_index.proofs.Runs.{run_start, run_more, run_over, run_all}
use Rattle.queue_index.proofs.next.add_run.Goals as goal

pub loop-number-init : goal.loop-number-init
loop-number-init g c = λ q. run_start g.T.Keyed.keys c.args.key c.args.last q c.args.start c.args.queue.now c.next-end.result (sorted.contains nat_cmp c.args.found.now q) c.numbers_rise.ensures c.next-end.ensures.found c.next-end.ensures.none

pub loop-number-preserved : goal.loop-number-preserved
loop-number-preserved g c = λ q. run_more q c.in-Some.number _ _ c.next-end.result _ _ _ c.in-Some.ensures.found (sym c.is_past.ensures ∙ c.if-is_past.false) (c.in_ok-insert.ensures.updates.0 q) (c.loop-number.invariant q)

pub returns-then-is_past : goal.returns-then-is_past
returns-then-is_past g c = λ q. run_over g.T.Keyed.keys c.args.key q c.in-Some.number _ c.args.queue.now c.next-end.result _ _ c.in-Some.ensures.found (sym c.is_past.ensures ∙ c.if-is_past.true) (c.loop-number.invariant q)

pub returns : goal.returns
returns g c = λ q. run_all q _ c.next-end.result _ _ c.in_default.ensures.none (c.loop-number.invariant q)
