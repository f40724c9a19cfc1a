use Rattle.std.proofs.Common.{◌+◌, arith}
use Rattle.wind_words.specs.Word.{word_of, free_at, pending_at, replied_at}
use Rattle.wind_words.proofs.Counts.{once}
use Rattle.wind_words.proofs.law.winds_are_won_once.Goals as goal

pub returns : goal.returns
returns c = λ count words hub others w keeps. let k = keeps.counted w in let n = word_of words w.slot in (
  omega (arith, k.hubs.opened, once (pending_at w.turn) n),
  omega (arith, k.won, once (replied_at w.turn) n),
  omega (arith, k.hubs.collected, once (free_at (w.turn + 1)) n),
)
