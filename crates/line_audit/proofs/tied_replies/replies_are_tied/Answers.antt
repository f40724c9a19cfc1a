use Rattle.std.proofs.Common.{◌≡◌, ◌<◌, ◌≤◌, sym, arith}
use Rattle.std.specs.Prelude.{ℕ, ◌+◌, length, slice_get}
use Rattle.std.proofs.lemmas.Option.{slice_get_within}
use Rattle.line_audit.proofs.Tying.{reply_next}
use Rattle.line_audit.proofs.tied_replies.replies_are_tied.Goals as goal

pub loop-k-preserved : goal.loop-k-preserved
loop-k-preserved c = reply_next c.args.log.now c.args.calls.now c.loop-k.k c.in-Some.reply.now (sym c.in-Some.ensures) (record { of_call = c.is_reply_of.ensures.0 c.if-not-is_reply_of.false; answered = c.is_answered.ensures.sound c.if-not-is_answered.false }) c.loop-k.invariant

pub returns-clause-sound : goal.returns-clause-sound
returns-clause-sound c = λ _ k reply is. c.loop-k.invariant k reply (let lt = slice_get_within c.args.log.now.replies k reply is in omega (arith, lt, c.loop-k-test.false, c.len-k-end.ensures)) is
