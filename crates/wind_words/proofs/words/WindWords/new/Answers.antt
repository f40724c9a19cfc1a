use Rattle.std.proofs.Common.{◌∙◌}
use Rattle.wind_words.proofs.Keeping.{starts}
use Rattle.wind_words.proofs.words.WindWords.new.Goals as goal

pub of_words-requires : goal.of_words-requires
of_words-requires c = starts c.args.words c.deref.result.now (c.deref.ensures.value ∙ c.in_ok-zeros.ensures.items_if_clones_equal (λ y same. same))
