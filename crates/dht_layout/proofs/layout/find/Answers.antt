use Rattle.std.proofs.Common.{sym, arith}
use Rattle.std.proofs.lemmas.Iterator.Adapters.{position_from-zero}
use Rattle.dht_layout.specs.Layouts.{holds}
use Rattle.dht_layout.proofs.layout.find.Goals as goal

pub loop-set-init : goal.loop-set-init
loop-set-init c = record {
  rest = sym (position_from-zero (holds c.args.hash) c.args.layout.now);
  lower = λ k l. absurd (omega arith);
}
