use Rattle.std.specs.Prelude.{◌≡◌, length, take}
use Rattle.run_audit.specs.Numbered.{HaveCounts, AreInEvents, AreNth}
use Rattle.run_audit.proofs.Numbering.{IsFloor}
use Rattle.run_audit.proofs.nth_requests.count_lines.Given as goal

abbrev pub invariant-loop-k : goal.invariant-loop-k
invariant-loop-k l =
    (HaveCounts l.ended l.last (take l.k l.sent) l.phase l.floor l.counts.items × (length l.nth.items ≡ l.k) × AreNth l.ended l.last l.sent l.nth.items)
    × (AreInEvents l.last l.sent → IsFloor l.ended l.last l.sent l.k l.phase l.floor)
