use Rattle.std.proofs.Common.{◌≡◌, drop}
use Rattle.history_replay.specs.code.Cases.{are_between}
use Rattle.history_replay.proofs.places.are_between.Given as goal

abbrev pub invariant-loop-place : goal.invariant-loop-place
invariant-loop-place l = are_between (drop l.place-index l.places) l.last l.high ≡ are_between l.places l.low l.high
