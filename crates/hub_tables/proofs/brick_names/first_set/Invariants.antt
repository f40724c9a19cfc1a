use Rattle.std.proofs.Common.{◌≡◌, drop}
use Rattle.hub_tables.specs.Naming.{first_set}
use Rattle.hub_tables.proofs.brick_names.first_set.Given as goal

abbrev pub invariant-loop-volfile : goal.invariant-loop-volfile
invariant-loop-volfile l = first_set l.plans (drop l.volfile-index l.volfiles) l.brick ≡ first_set l.plans l.volfiles l.brick
