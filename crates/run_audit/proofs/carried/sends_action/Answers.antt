use Rattle.run_audit.proofs.Controlling.{sends, said_by}
use Rattle.run_audit.proofs.carried.sends_action.Goals as goal

pub returns : goal.returns
returns c = (
  λ yes. sends c.args.action c.args.bytes.now c.in_ok-message.message c.in_ok-message.ensures.said (c.says-yes.ensures.0 yes),
  λ own. c.says-yes.ensures.1 (said_by c.args.action c.args.bytes.now c.in_ok-message.message c.in_ok-message.ensures.read own),
)
