use Rattle.std.proofs.Common.{sym, nat_eq}
use Rattle.std.specs.Cmp.Lexicographic.{pointwise}
use Rattle.std.proofs.lemmas.Iterator.Adapters.{position_from-zero}
use Rattle.dht_linkto.proofs.set_names.set_named.Goals as goal

pub loop-set-init : goal.loop-set-init
loop-set-init c = sym (position_from-zero (λ name. pointwise nat_eq name c.args.target.now) c.args.names.now)
