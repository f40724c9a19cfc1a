use Rattle.std.proofs.Common.{◌≡◌, sym, ◌∙◌}
use Rattle.std.specs.Prelude.{true, false}
use Rattle.error_audit.proofs.io_causes.is_quorum_lost.Goals as goal

pub returns-clause-sound : goal.returns-clause-sound
returns-clause-sound c = λ yes. record {
  each = c.in_ok-yes.ensures.sound yes;
  rising = c.are_rising.ensures.0 c.if-not-are_rising.false;
  enough = c.in_ok-has_enough.ensures.0 c.if-not-branch.false;
}

pub returns-clause-exact : goal.returns-clause-exact
returns-clause-exact c = (
  λ yes. record {
    each = c.in_ok-yes.ensures.exact.0 yes;
    rising = c.are_rising.ensures.0 c.if-not-are_rising.false;
    enough = c.in_ok-has_enough.ensures.0 c.if-not-branch.false;
  },
  λ are. c.in_ok-yes.ensures.exact.1 are.each,
)
