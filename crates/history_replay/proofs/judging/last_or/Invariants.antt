use Rattle.std.proofs.Common.{◌≡◌, drop}
use Rattle.history_replay.specs.Reports.{last_or}
use Rattle.history_replay.proofs.judging.last_or.Given as goal

abbrev pub invariant-loop-place : goal.invariant-loop-place
invariant-loop-place l = last_or l.last (drop l.place-index l.places) ≡ last_or l.before l.places
