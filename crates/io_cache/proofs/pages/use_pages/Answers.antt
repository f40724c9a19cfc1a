use Rattle.lru.proofs.CallerLemmas.{Contains-promoted}
use Rattle.io_cache.specs.Pages.{is_page}
use Rattle.io_cache.proofs.Numbers.{range_first}
use Rattle.io_cache.proofs.pages.use_pages.Goals as goal

pub loop-page-preserved : goal.loop-page-preserved
loop-page-preserved c = rw c.promote.ensures.entries record {
  run = rw (range_first c.loop-page.page c.args.end c.loop-page-test.true) at c.loop-page.invariant.run;
  room = c.loop-page.invariant.room;
  part = λ p h. c.loop-page.invariant.part p (Contains-promoted (is_page c.args.gfid c.loop-page.page) c.loop-page.held.entries p h);
}
