use Rattle.std.proofs.Common.{◌≤◌, ℕ}
use Rattle.line_audit.specs.Linked.{IsKnown, IsLinked}
use Rattle.line_audit.proofs.linked.all_pass.Given as goal

abbrev pub invariant-loop-k : goal.invariant-loop-k
invariant-loop-k l = ((number : ℕ) → number ≤ l.k → IsLinked l.script l.plans l.log number) × IsKnown l.log l.k l.known
