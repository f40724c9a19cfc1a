use Rattle.std.proofs.Common.{◌≡◌, ◌≤◌, ◌-◌, ◌++◌, true, false}
use Rattle.std.specs.List.{range_with_len}
use Rattle.io_cache.specs.Pages.{ends_before, needed_of, all_at}
use Rattle.io_cache.proofs.pages.needed_end.Given as goal

abbrev pub invariant-loop-page : goal.invariant-loop-page
invariant-loop-page l = record {
  from : l.first ≤ l.page;
  open_at : ends_before l.held.entries l.gfid l.page ≡ false;
  all : all_at l.held.entries l.gfid (range_with_len l.first (l.page - l.first)) ≡ true;
  run : needed_of l.held.entries l.gfid (range_with_len l.first (l.end - l.first)) ≡ range_with_len l.first (l.page - l.first) ++ needed_of l.held.entries l.gfid (range_with_len l.page (l.end - l.page));
}
