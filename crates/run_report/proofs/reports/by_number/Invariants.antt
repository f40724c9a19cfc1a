use Rattle.std.proofs.Common.{[], length, take}
use Rattle.run_report.specs.Numbers.{AreByNumber}
use Rattle.run_report.proofs.reports.by_number.Given as goal

abbrev pub invariant-loop : goal.invariant-loop
invariant-loop l = AreByNumber l.index [] l.places.items

abbrev pub invariant-loop-at : goal.invariant-loop-at
invariant-loop-at l = AreByNumber (length l.replies) (take l.at l.replies) l.places.items
