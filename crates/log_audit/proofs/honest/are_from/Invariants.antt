use Rattle.std.proofs.Common.{take}
use Rattle.std.specs.List.{AllByRecursion}
use Rattle.log_audit.specs.Honest.{IsFrom}
use Rattle.log_audit.proofs.honest.are_from.Given as goal

abbrev pub invariant-loop-event : goal.invariant-loop-event
invariant-loop-event l = AllByRecursion (IsFrom l.many) (take l.event-index l.events)
