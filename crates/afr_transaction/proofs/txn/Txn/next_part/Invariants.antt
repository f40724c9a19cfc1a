use Rattle.std.proofs.Common.{◌≡◌, List, Option, length}
use Rattle.afr_transaction.specs.declared.phase.Part.{Part}
use Rattle.afr_transaction.specs.Copies.{next_part}
use Rattle.afr_transaction.proofs.txn.Txn.next_part.Given as goal

abbrev pub invariant-loop-parts : goal.invariant-loop-parts
invariant-loop-parts l = ◌≡◌ {A = Option Part × List Part} (next_part l.self l.parts) (next_part l.self l.initial.parts)

abbrev pub decreases-loop-parts : goal.decreases-loop-parts
decreases-loop-parts l = length l.parts
