use Rattle.std.proofs.Common.{◌≡◌, drop}
use Rattle.error_audit.specs.code.Searches.{last_in}
use Rattle.error_audit.proofs.split_clues.last_in.Given as goal

abbrev pub invariant-loop-lock : goal.invariant-loop-lock
invariant-loop-lock l = last_in (drop l.lock-index l.locks) l.brick l.last ≡ last_in l.locks l.brick 0
