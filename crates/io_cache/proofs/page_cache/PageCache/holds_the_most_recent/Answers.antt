use Rattle.std.proofs.Common.{subst}
use Rattle.io_cache.specs.Pages.{Held}
use Rattle.io_cache.specs.Uses.{HoldsMostRecent}
use Rattle.io_cache.proofs.MostRecent.{most_recent}
use Rattle.io_cache.proofs.page_cache.PageCache.holds_the_most_recent.Goals as goal

pub returns : goal.returns
returns c = subst (λ (v : Held). HoldsMostRecent v) c.self.view_is (most_recent _ c.len.ensures.valid.0)
