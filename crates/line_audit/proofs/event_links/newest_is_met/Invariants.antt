use Rattle.std.proofs.Common.{◌≡◌, ◌<◌, ℕ, true}
use Rattle.line_audit.specs.Linked.{due_as, has_connect}
use Rattle.line_audit.proofs.event_links.newest_is_met.Given as goal

abbrev pub invariant-loop-brick : goal.invariant-loop-brick
invariant-loop-brick l = (b : ℕ) → b < l.brick → due_as l.plans l.tables l.known l.now l.now.newest b ≡ true → has_connect l.now.newest b l.items ≡ true
