use Rattle.std.proofs.Common.{◌≡◌, drop}
use Rattle.mount_log.specs.Ties.{do_rise}
use Rattle.line_audit.proofs.in_time.numbers_rise.Given as goal

abbrev pub invariant-loop-number : goal.invariant-loop-number
invariant-loop-number l = do_rise l.floor l.last (drop l.number-index l.numbers) ≡ do_rise l.first l.last l.numbers
