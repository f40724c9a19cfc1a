use Rattle.std.proofs.Common.{◌≡◌, ◌+◌, drop, length}
use Rattle.script_lang.specs.Accepted.{calls_of}
use Rattle.run_audit.proofs.settled.have_at_most.Given as goal

abbrev pub invariant-loop-phase : goal.invariant-loop-phase
invariant-loop-phase l = length (calls_of (drop l.phase-index l.phases)) + l.many ≡ length (calls_of l.phases) + l.left
