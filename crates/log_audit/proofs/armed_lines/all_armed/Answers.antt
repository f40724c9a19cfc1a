use Rattle.std.proofs.Common.{◌≡◌, sym, ap, subst, ◌∙◌}
use Rattle.std.specs.Prelude.{ℕ, List, Some, length, slice_get}
use Rattle.log_audit.specs.Armed.{AreAllArmed, IsAmong}
use Rattle.log_audit.specs.declared.armed_lines.ArmedLines.{ArmedLines}
use Rattle.log_audit.proofs.Arming.{armed_later, armed_push, among_push}
use Rattle.mount_log.proofs.Lists.{one_longer}
use Rattle.log_audit.proofs.armed_lines.all_armed.Goals as goal

pub loop-at-preserved : goal.loop-at-preserved
loop-at-preserved c = (
  subst (λ (l : List ArmedLines). AreAllArmed c.args.sent.now l) (sym c.in_ok-push.ensures.items)
      (armed_push c.args.sent.now c.loop-at.all.items c.loop-at.at c.in_ok-armed.armed c.loop-at.invariant.1 c.in_ok-armed.ensures.sound c.loop-at.invariant.0),
  ap length c.in_ok-push.ensures.items ∙ one_longer c.loop-at.all.items c.in_ok-armed.armed c.loop-at.at c.loop-at.invariant.1,
  armed_later c.args.sent.now c.loop-at.at c.in_ok-armed.armed c.in_ok-armed.ensures.sound,
  subst (λ (l : List ArmedLines). (k : ℕ) (a : ArmedLines) → slice_get l k ≡ Some a → IsAmong c.args.sent.now k a) (sym c.in_ok-push.ensures.items)
      (among_push c.args.sent.now c.loop-at.all.items c.loop-at.at c.in_ok-armed.armed c.loop-at.invariant.1 c.in_ok-armed.ensures.complete c.loop-at.invariant.3),
)
