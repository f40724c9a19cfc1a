use Rattle.std.proofs.Common.{◌≡◌, drop}
use Rattle.fop_types.specs.Cells.{root}
use Rattle.history_replay.specs.code.Cases.{last_found}
use Rattle.history_replay.proofs.lookups.last_found.Given as goal

abbrev pub invariant-loop-gfid : goal.invariant-loop-gfid
invariant-loop-gfid l = last_found l.at (drop l.gfid-index l.found) ≡ last_found root l.found
