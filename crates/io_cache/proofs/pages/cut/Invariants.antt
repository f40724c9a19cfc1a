use Rattle.std.proofs.Common.{◌≡◌, ◌-◌, ◌++◌, take, drop}
use Rattle.std.specs.List.{range_with_len, flat_map}
use Rattle.io_cache.specs.Pages.{bytes_at}
use Rattle.io_cache.proofs.pages.cut.Given as goal

abbrev pub invariant-loop-page : goal.invariant-loop-page
invariant-loop-page l = l.bytes.items ++ take l.counts.1 (drop l.counts.0 (flat_map (bytes_at l.held.entries l.gfid) (range_with_len l.page (l.end - l.page)))) ≡ take l.len (drop l.skip (flat_map (bytes_at l.held.entries l.gfid) (range_with_len l.first (l.end - l.first))))
