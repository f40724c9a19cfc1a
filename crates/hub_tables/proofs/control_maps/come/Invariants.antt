use Rattle.std.proofs.Common.{◌≡◌, ◌+◌, ◌≤◌, length}
use Rattle.hub_tables.specs.PhaseControls.{coming, waiting}
use Rattle.hub_tables.proofs.control_maps.come.Given as goal

abbrev pub invariant-loop : goal.invariant-loop
invariant-loop l =
    (waiting l.awaited.entries l.request ≡ waiting l.fn.awaited.entries l.request)
    × (coming l.awaited.entries l.request l.come.entries ≡ coming l.fn.awaited.entries l.request l.fn.come.entries)
    × (length l.awaited.entries + l.counter ≤ length l.fn.awaited.entries)
