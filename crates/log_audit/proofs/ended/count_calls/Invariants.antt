use Rattle.std.proofs.Common.{◌≡◌, ◌+◌, drop, length}
use Rattle.script_lang.specs.Accepted.{calls_of}
use Rattle.log_audit.proofs.ended.count_calls.Given as goal

abbrev pub invariant-loop-phase : goal.invariant-loop-phase
invariant-loop-phase l = l.count + length (calls_of (drop l.phase-index l.phases)) ≡ length (calls_of l.phases)
