use Rattle.std.proofs.Common.{◌≡◌, drop}
use Rattle.log_audit.specs.Replied.{all_seen}
use Rattle.log_audit.proofs.finished.are_all.Given as goal

abbrev pub invariant-loop-one : goal.invariant-loop-one
invariant-loop-one l = all_seen (drop l.one-index l.seen) ≡ all_seen l.seen
