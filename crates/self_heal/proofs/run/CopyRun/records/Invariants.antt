use Rattle.std.proofs.Common.{◌≡◌, ◌++◌, drop}
use Rattle.self_heal.specs.Records.{records_from}
use Rattle.self_heal.proofs.run.CopyRun.records.Given as goal

abbrev pub invariant-loop-c : goal.invariant-loop-c
invariant-loop-c l = l.list.items ++ records_from l.self.rows l.self.origins l.sinks l.c (drop l.c l.cells) ≡ records_from l.self.rows l.self.origins l.sinks 0 l.cells
