use Rattle.std.proofs.Common.{◌≡◌}
use Rattle.error_audit.proofs.io_causes.is_fault.Goals as goal

pub returns-clause-sound : goal.returns-clause-sound
returns-clause-sound c = λ yes. record {
  some = c.is_some.ensures.0 c.if-not-is_some.false;
  each_fault = c.in_ok-are_faulted.ensures.sound c.if-not-branch-2.false;
  each_lost = c.in_ok-yes.ensures.sound yes;
  rising_faults = c.are_rising.ensures.0 c.if-not-are_rising.false;
  rising_lost = c.are_rising-else-not-are_rising.ensures.0 c.if-not-are_rising-2.false;
  enough = c.in_ok-has_enough.ensures.0 c.if-not-branch.false;
}
