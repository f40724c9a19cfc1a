use Rattle.std.proofs.Common.{◌≡◌}
use Rattle.io_cache.specs.Pages.{without_pages_below, IsPartOf}
use Rattle.io_cache.proofs.pages.drop_pages.Given as goal

abbrev pub invariant-loop-page : goal.invariant-loop-page
invariant-loop-page l = record {
  run : l.held.entries ≡ without_pages_below l.gfid l.page l.initial.held.entries;
  room : l.held.cap ≡ l.initial.held.cap;
  part : IsPartOf l.held.entries l.initial.held.entries;
}
