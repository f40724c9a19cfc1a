use Rattle.std.proofs.Common.{◌≡◌, ◌++◌, drop}
use Rattle.line_audit.specs.Linked.{without_link}
use Rattle.line_audit.proofs.links.without_link.Given as goal

abbrev pub invariant-loop-link : goal.invariant-loop-link
invariant-loop-link l = l.kept.items ++ without_link l.graph l.brick (drop l.link-index l.links) ≡ without_link l.graph l.brick l.links
