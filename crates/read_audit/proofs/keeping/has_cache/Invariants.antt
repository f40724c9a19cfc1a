use Rattle.std.proofs.Common.{◌≡◌, drop}
use Rattle.read_audit.specs.Read.{has_cache}
use Rattle.read_audit.proofs.keeping.has_cache.Given as goal

abbrev pub invariant-loop-node : goal.invariant-loop-node
invariant-loop-node l = has_cache (drop l.node-index l.nodes) ≡ has_cache l.nodes
