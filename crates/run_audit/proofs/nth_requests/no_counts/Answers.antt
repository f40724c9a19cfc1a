use Rattle.std.proofs.Common.{◌≡◌, sym, ap, subst, ◌∙◌}
use Rattle.std.specs.Prelude.{List, length}
use Rattle.run_audit.specs.Numbered.{AreZero}
use Rattle.run_audit.specs.declared.nth_requests.PhaseCount.{PhaseCount}
use Rattle.mount_log.proofs.Lists.{one_longer}
use Rattle.run_audit.proofs.Numbering.{zero_more}
use Rattle.run_audit.proofs.nth_requests.no_counts.Goals as goal

pub loop-preserved : goal.loop-preserved
loop-preserved c = (
  ap length c.in_ok-push.ensures.items ∙ one_longer c.loop.counts.items _ c.loop.counter c.loop.invariant.0,
  subst (λ (l : List PhaseCount). AreZero l) (sym c.in_ok-push.ensures.items) (zero_more c.loop.counts.items c.loop.invariant.1),
)
