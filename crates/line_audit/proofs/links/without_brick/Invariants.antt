use Rattle.std.proofs.Common.{◌≡◌, ◌++◌, drop}
use Rattle.line_audit.specs.Linked.{without_brick}
use Rattle.line_audit.proofs.links.without_brick.Given as goal

abbrev pub invariant-loop-link : goal.invariant-loop-link
invariant-loop-link l = l.kept.items ++ without_brick l.brick (drop l.link-index l.links) ≡ without_brick l.brick l.links
