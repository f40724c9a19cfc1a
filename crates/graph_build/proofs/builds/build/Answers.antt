use Rattle.std.proofs.Common.{arith, ap, length}
use Rattle.graph_build.proofs.builds.build.Goals as goal

pub build_volumes-requires-clause-size : goal.build_volumes-requires-clause-size
build_volumes-requires-clause-size c = omega (arith, c.requires.small, ap length c.as_slice.ensures)
