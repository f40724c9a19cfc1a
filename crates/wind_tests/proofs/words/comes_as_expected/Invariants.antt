use Rattle.wind_words.specs.Calls.{IsSamePass}
use Rattle.wind_tests.proofs.words.comes_as_expected.Given as goal

abbrev pub invariant-loop-act : goal.invariant-loop-act
invariant-loop-act l = record { hub : IsSamePass l.fn.hub l.hub; reader : IsSamePass l.fn.reader l.reader }
