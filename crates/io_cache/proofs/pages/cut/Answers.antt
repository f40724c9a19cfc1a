use Rattle.io_cache.specs.Pages.{bytes_at}
use Rattle.io_cache.proofs.Numbers.{cut_more}
use Rattle.io_cache.proofs.pages.cut.Goals as goal

pub loop-page-preserved : goal.loop-page-preserved
loop-page-preserved c = let e = c.in_ok-counts.ensures in rw e.appended (rw e.skip (rw e.left (cut_more (bytes_at c.args.held.now.entries c.args.gfid) c.loop-page.bytes.items _ c.loop-page.counts.1 c.loop-page.counts.0 c.loop-page.page c.args.end c.loop-page-test.true c.loop-page.invariant)))
