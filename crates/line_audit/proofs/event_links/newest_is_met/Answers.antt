use Rattle.std.proofs.Common.{sym, ◌∙◌, arith}
use Rattle.line_audit.proofs.event_links.newest_is_met.Goals as goal

pub returns-then-not-is_met : goal.returns-then-not-is_met
returns-then-not-is_met c = (λ no. absurd cc, λ all. sym c.if-not-is_met.true ∙ c.is_met.ensures.1 (all c.loop-brick.brick (omega arith)))
