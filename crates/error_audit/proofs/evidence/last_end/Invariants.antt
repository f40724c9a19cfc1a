use Rattle.std.proofs.Common.{◌≡◌, drop, None}
use Rattle.error_audit.specs.code.Searches.{last_end}
use Rattle.error_audit.proofs.evidence.last_end.Given as goal

abbrev pub invariant-loop-end : goal.invariant-loop-end
invariant-loop-end l = last_end (drop l.end-index l.ends) l.graph l.until l.last ≡ last_end l.ends l.graph l.until None
