use Rattle.std.specs.Prelude.{◌≡◌, length}
use Rattle.run_audit.specs.Numbered.{AreZero}
use Rattle.run_audit.proofs.nth_requests.no_counts.Given as goal

abbrev pub invariant-loop : goal.invariant-loop
invariant-loop l = (length l.counts.items ≡ l.counter) × AreZero l.counts.items
