use Rattle.std.proofs.Common.{◌↔◌, drop}
use Rattle.fop_types.specs.Bounds.{Each, IsOpened}
use Rattle.hub_tables.proofs.fop_checks.are_opened.Given as goal

abbrev pub invariant-loop-fd : goal.invariant-loop-fd
invariant-loop-fd l = Each IsOpened (drop l.fd-index l.fds) ↔ Each IsOpened l.fds
