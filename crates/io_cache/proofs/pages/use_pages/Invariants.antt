use Rattle.std.proofs.Common.{◌≡◌, ◌-◌}
use Rattle.std.specs.List.{range_with_len}
use Rattle.io_cache.specs.Pages.{used, IsPartOf}
use Rattle.io_cache.proofs.pages.use_pages.Given as goal

abbrev pub invariant-loop-page : goal.invariant-loop-page
invariant-loop-page l = record {
  run : used l.gfid (range_with_len l.page (l.end - l.page)) l.held.entries ≡ used l.gfid (range_with_len l.first (l.end - l.first)) l.fn.held.entries;
  room : l.held.cap ≡ l.fn.held.cap;
  part : IsPartOf l.held.entries l.fn.held.entries;
}
