use Rattle.std.proofs.Common.{◌≡◌, ◌++◌, drop}
use Rattle.fop_types.specs.Cells.{root}
use Rattle.history_replay.specs.code.Claims.{path_claims, path_end}
use Rattle.history_replay.proofs.lookups.claim_path.Given as goal

abbrev pub invariant-loop-index : goal.invariant-loop-index
invariant-loop-index l = record {
  end : path_end (drop l.index l.path) l.at (drop l.index l.places) (drop l.index l.found) ≡ path_end l.path root l.places l.found;
  claims :
      l.claims ++ path_claims (drop l.index l.path) l.at (drop l.index l.places) (drop l.index l.found)
      ≡ l.fn.claims ++ path_claims l.path root l.places l.found;
}
