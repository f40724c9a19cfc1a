use Rattle.std.proofs.Common.{◌≡◌, drop, map}
use Rattle.mount_log.specs.Ties.{do_rise}
use Rattle.line_audit.proofs.in_time.winds_rise.Given as goal

abbrev pub invariant-loop-line : goal.invariant-loop-line
invariant-loop-line l = do_rise l.floor l.last (map (λ x. x.event) (drop l.line-index l.lines)) ≡ do_rise 1 l.last (map (λ x. x.event) l.lines)
