use Rattle.std.proofs.Common.{◌≡◌, ◌<◌, ℕ, true}
use Rattle.line_audit.specs.Linked.{due_as, has_connect}
use Rattle.line_audit.proofs.event_links.opened_is_met.Given as goal

abbrev pub invariant-loop-graph : goal.invariant-loop-graph
invariant-loop-graph l = (g : ℕ) → g < l.graph → due_as l.plans l.tables l.known l.now g l.brick ≡ true → has_connect g l.brick l.items ≡ true
