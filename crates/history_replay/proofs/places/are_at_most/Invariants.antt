use Rattle.std.proofs.Common.{◌≡◌, drop}
use Rattle.history_replay.specs.code.Cases.{are_at_most}
use Rattle.history_replay.proofs.places.are_at_most.Given as goal

abbrev pub invariant-loop-place : goal.invariant-loop-place
invariant-loop-place l = are_at_most (drop l.place-index l.places) l.most ≡ are_at_most l.places l.most
