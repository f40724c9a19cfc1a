use Rattle.std.proofs.Common.{◌≡◌, arith}
use Rattle.run_audit.proofs.Sending.{short}
use Rattle.run_audit.proofs.sent_for.action_in.Goals as goal

pub returns-then-bytes-gt-LONGEST-clause-has : goal.returns-then-bytes-gt-LONGEST-clause-has
returns-then-bytes-gt-LONGEST-clause-has c = λ sent a is can. absurd (let s = short c.messages_read_back.ensures c.args.brick c.args.bytes.now sent a is can in omega (arith, s, c.if-bytes-gt-LONGEST.true))
