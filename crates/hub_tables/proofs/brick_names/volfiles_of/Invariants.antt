use Rattle.std.proofs.Common.{◌≡◌, ◌++◌, drop}
use Rattle.hub_tables.specs.Naming.{named_volfiles, switches_over}
use Rattle.hub_tables.proofs.brick_names.volfiles_of.Given as goal

abbrev pub invariant-loop-phase : goal.invariant-loop-phase
invariant-loop-phase l = l.volfiles.items ++ switches_over (drop l.phase-index l.script.phases) ≡ named_volfiles l.script
