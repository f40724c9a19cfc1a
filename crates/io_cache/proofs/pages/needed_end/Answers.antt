use Rattle.std.proofs.Common.{sym, ◌∙◌, arith}
use Rattle.io_cache.proofs.Reading.{ends_after, all_more, needed_more, needed_until, missing_among}
use Rattle.io_cache.proofs.pages.needed_end.Goals as goal

pub returns-in-None-clause-none : goal.returns-in-None-clause-none
returns-in-None-clause-none c = λ _. missing_among c.args.held.now.entries c.args.gfid _ c.args.first c.loop-page.page c.args.end c.loop-page-test.true c.loop-page.invariant.open_at (sym c.in-None.ensures.here) c.loop-page.invariant.run

pub returns-in-Some-true-clause-needed : goal.returns-in-Some-true-clause-needed
returns-in-Some-true-clause-needed c = needed_until c.args.held.now.entries c.args.gfid _ c.args.first c.loop-page.page c.args.end c.loop-page.invariant.from c.loop-page-test.true c.loop-page.invariant.open_at (sym c.in-Some-true.ensures.short ∙ c.in-Some-true.field-0-test) c.loop-page.invariant.run

pub returns-in-Some-true-clause-held : goal.returns-in-Some-true-clause-held
returns-in-Some-true-clause-held c = all_more c.args.held.now.entries c.args.gfid c.args.first c.loop-page.page c.loop-page.invariant.from c.loop-page.invariant.all (sym c.in-Some-true.ensures.here)

pub loop-page-preserved : goal.loop-page-preserved
loop-page-preserved c = record {
  from = omega (arith, c.loop-page.invariant.from);
  open_at = ends_after c.args.held.now.entries c.args.gfid c.loop-page.page ∙ rw c.loop-page.invariant.open_at (sym c.in-Some-false.ensures.short ∙ c.in-Some-false.field-0-test);
  all = all_more c.args.held.now.entries c.args.gfid c.args.first c.loop-page.page c.loop-page.invariant.from c.loop-page.invariant.all (sym c.in-Some-false.ensures.here);
  run = needed_more c.args.held.now.entries c.args.gfid _ c.args.first c.loop-page.page c.args.end c.loop-page.invariant.from c.loop-page-test.true c.loop-page.invariant.open_at c.loop-page.invariant.run;
}
