use Rattle.std.proofs.Common.{arith, subst}
use Rattle.io_cache.specs.Pages.{Held, AreBelow}
use Rattle.io_cache.proofs.page_cache.PageCache.bound_with.Goals as goal

pub returns-clause-below : goal.returns-clause-below
returns-clause-below c = subst (λ (v : Held). AreBelow c.max.result v.pages) c.self.view_is (λ p h. let b = c.self.invariant.numbers p h in omega (arith, b, c.max.ensures))
