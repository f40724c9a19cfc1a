use Rattle.std.proofs.Common.{◌≡◌, ◌++◌, drop}
use Rattle.hub_tables.specs.Naming.{switches_among}
use Rattle.hub_tables.proofs.brick_names.add_switches.Given as goal

abbrev pub invariant-loop-control : goal.invariant-loop-control
invariant-loop-control l = l.volfiles.items ++ switches_among (drop l.control-index l.controls) ≡ l.fn.volfiles.items ++ switches_among l.controls
