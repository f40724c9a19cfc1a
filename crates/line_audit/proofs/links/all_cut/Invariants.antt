use Rattle.std.proofs.Common.{◌≡◌, drop}
use Rattle.line_audit.specs.Linked.{all_cut}
use Rattle.line_audit.proofs.links.all_cut.Given as goal

abbrev pub invariant-loop-link : goal.invariant-loop-link
invariant-loop-link l = all_cut l.brick l.items (drop l.link-index l.links) ≡ all_cut l.brick l.items l.links
