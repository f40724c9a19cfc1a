use Rattle.std.proofs.Common.{◌≡◌, drop}
use Rattle.hub_tables.specs.Naming.{set_with}
use Rattle.hub_tables.proofs.brick_names.set_with.Given as goal

abbrev pub invariant-loop-set : goal.invariant-loop-set
invariant-loop-set l = set_with (drop l.set-index l.sets) l.brick ≡ set_with l.sets l.brick
