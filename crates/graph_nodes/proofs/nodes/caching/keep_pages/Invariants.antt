-- What is still to be kept gives what all gives.
use Rattle.std.proofs.Common.{◌≡◌, ◌-◌, ◌≤◌}
use Rattle.std.specs.List.{range_with_len}
use Rattle.graph_nodes.specs.IoCache.{kept}
use Rattle.graph_nodes.proofs.nodes.caching.keep_pages.Given as goal

abbrev pub invariant-loop-page : goal.invariant-loop-page
invariant-loop-page l =
    (kept l.range l.bytes (range_with_len l.page (l.range.end - l.page)) l.pages ≡ kept l.range l.bytes (range_with_len l.range.first (l.range.end - l.range.first)) l.fn.pages)
    × (l.range.first ≤ l.page)
