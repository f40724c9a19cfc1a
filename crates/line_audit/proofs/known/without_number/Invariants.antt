use Rattle.std.proofs.Common.{◌≡◌, ◌++◌, drop}
use Rattle.line_audit.specs.Linked.{without_number}
use Rattle.line_audit.proofs.known.without_number.Given as goal

abbrev pub invariant-loop-one : goal.invariant-loop-one
invariant-loop-one l = l.kept.items ++ without_number l.number (drop l.one-index l.numbers) ≡ without_number l.number l.numbers
