use Rattle.std.proofs.Common.{sym, arith}
use Rattle.std.specs.Prelude.{ℕ}
use Rattle.std.proofs.lemmas.Option.{slice_get_within}
use Rattle.wire_messages.specs.Messages.{input_in}
use Rattle.mount_log.specs.declared.logs.SentLine.{SentLine}
use Rattle.line_audit.specs.Caused.{IsCaused}
use Rattle.mount_log.proofs.Lists.{each_next}
use Rattle.log_audit.proofs.Arming.{armed_later}
use Rattle.line_audit.proofs.causes.lines_are_caused.Goals as goal

pub loop-k-preserved : goal.loop-k-preserved
loop-k-preserved c = (
  each_next (λ (n : ℕ) (line : SentLine). IsCaused c.args.log.now line (input_in line.bytes)) c.args.log.now.sent c.loop-k.k c.in-Some.line.now (sym c.in-Some.ensures) (c.in_ok-is_caused.ensures.sound c.if-not-branch.false)
      c.loop-k.invariant.0,
  armed_later c.args.log.now.sent c.loop-k.k _ c.in_ok-armed.ensures.sound,
)

pub returns-clause-sound : goal.returns-clause-sound
returns-clause-sound c = λ _. record { each = λ k line is. c.loop-k.invariant.0 k line (let lt = slice_get_within c.args.log.now.sent k line is in omega (arith, lt, c.loop-k-test.false, c.len-k-end.ensures)) is }
