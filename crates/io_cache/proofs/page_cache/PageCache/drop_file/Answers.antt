use Rattle.std.proofs.Common.{◌∙◌, ap}
use Rattle.io_cache.specs.Pages.{held_pages}
use Rattle.io_cache.proofs.Dropping.{all_dropped}
use Rattle.io_cache.proofs.page_cache.PageCache.drop_file.Goals as goal

pub invariant_of-self : goal.invariant_of-self
invariant_of-self c = record { numbers = λ p h. c.self.invariant.numbers p (c.drop_pages.ensures.part p h); fits = c.self.invariant.fits }

pub returns : goal.returns
returns c = rw (← c.self.view_is) (rw c.drop_pages.ensures.capacity (ap (λ l. held_pages l c.self.inside.held.cap) (c.drop_pages.ensures.dropped ∙ all_dropped c.args.gfid c.self.inside.bound c.self.inside.held.entries c.self.invariant.numbers)))
