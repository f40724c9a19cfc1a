use Rattle.std.proofs.Common.{map, ◌∙◌, arith}
use Rattle.mount_log.proofs.Sessions.{phase_share}
use Rattle.mount_log.proofs.session_lines.share_all.Goals as goal

pub loop-phase-preserved : goal.loop-phase-preserved
loop-phase-preserved c = (
  c.in_ok-share_out.ensures.sessions ∙ c.loop-phase.invariant.0,
  phase_share c.loop-phase.phase _ (map (λ q. q.items) c.args.lines.now.items) (map (λ q. q.items) c.loop-phase.lines.items) (map (λ q. q.items) c.share_out.new.lines.items) c.args.phases.now c.index-phases-phase.result _
      c.in_ok-share_out.ensures.shared (omega (arith, c.loop-phase-test.true, c.requires.few_phases)) (let e = c.as_slice.ensures in let i = c.index-phases-phase.is in cc) c.loop-phase-test.true c.index-phases-phase.is c.loop-phase.invariant.1,
)
