use Rattle.std.proofs.Common.{◌≡◌, false}
use Rattle.io_cache.specs.Pages.{ends_before}
use Rattle.io_cache.proofs.pages.is_past_end.Given as goal

abbrev pub invariant-loop-page : goal.invariant-loop-page
invariant-loop-page l = ends_before l.held.entries l.gfid l.page ≡ false
