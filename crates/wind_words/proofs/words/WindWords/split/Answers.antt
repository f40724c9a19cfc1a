use Rattle.wind_words.proofs.Keeping.{split}
use Rattle.wind_words.proofs.Asked.{same_words}
use Rattle.wind_words.proofs.words.WindWords.split.Goals as goal

pub split_seat-requires : goal.split_seat-requires
split_seat-requires c = let seat = c.pass.inside.seat in let t = c.self.inside.table.shared in (
  same_words seat.table_id t.table_id seat.me.0 c.args.pass.now c.args.self.now c.pass.view_is c.self.view_is c.requires,
  c.self.invariant.1,
  λ s k at. split t.key s.words s.views seat.id seat.me.0 k at c.pass.invariant.1,
)
