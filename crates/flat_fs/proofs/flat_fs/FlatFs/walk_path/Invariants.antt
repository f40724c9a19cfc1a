use Rattle.std.proofs.Common.{◌≡◌}
use Rattle.flat_fs.specs.Mount.{path_walk}
use Rattle.flat_fs.proofs.Walks.{rest_walk}
use Rattle.flat_fs.proofs.flat_fs.FlatFs.walk_path.Given as goal

abbrev pub invariant-loop-name : goal.invariant-loop-name
invariant-loop-name l = rest_walk l.self l.path l.name-index l.at ≡ path_walk l.self l.path
