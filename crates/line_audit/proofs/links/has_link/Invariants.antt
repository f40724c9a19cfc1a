use Rattle.std.proofs.Common.{◌≡◌, drop}
use Rattle.line_audit.specs.Linked.{has_link}
use Rattle.line_audit.proofs.links.has_link.Given as goal

abbrev pub invariant-loop-link : goal.invariant-loop-link
invariant-loop-link l = has_link l.graph l.brick (drop l.link-index l.links) ≡ has_link l.graph l.brick l.links
