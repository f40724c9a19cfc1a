use Rattle.std.proofs.Common.{◌≡◌, ◌+◌, drop}
use Rattle.afr_transaction.specs.Txns.{pairs_below}
use Rattle.afr_transaction.proofs.causes.pairs_below.Given as goal

abbrev pub invariant-loop-pair : goal.invariant-loop-pair
invariant-loop-pair g l =
    (l.below + pairs_below l.brick (drop l.pair-index l.pairs) ≡ pairs_below l.brick l.pairs) × (l.below ≡ l.pair-index)
