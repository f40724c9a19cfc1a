use Rattle.brick_link.specs.Ends.{IsSameLink}
use Rattle.wind_tests.proofs.links.next_input.Given as goal

abbrev pub invariant-loop : goal.invariant-loop
invariant-loop g l =
    (goal.iterator-loop g).can_next l.iterator' × (goal.iterator-loop g).is_finite l.iterator' × IsSameLink l.fn.end l.end
