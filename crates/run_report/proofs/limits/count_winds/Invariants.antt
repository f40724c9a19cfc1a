use Rattle.std.proofs.Common.{◌≡◌, ◌+◌, take}
use Rattle.std.specs.Prelude.{not, count_by}
use Rattle.run_report.proofs.limits.count_winds.Given as goal

abbrev pub invariant-loop-wind : goal.invariant-loop-wind
invariant-loop-wind l =
    (l.counts.opened ≡ count_by (λ line. line.opened) (take l.wind-index l.winds)) × (l.counts.ended ≡ count_by (λ line. not line.opened) (take l.wind-index l.winds))
    × (l.counts.opened + l.counts.ended ≡ l.wind-index)
