use Rattle.std.proofs.Common.{◌≡◌, map, take}
use Rattle.volfile.proofs.statements.copies.Given as goal

abbrev pub invariant-loop-word : goal.invariant-loop-word
invariant-loop-word l = l.made.items ≡ map (λ w. w.now) (take l.word-index l.words)
