use Rattle.std.proofs.Common.{refl}
use Rattle.hub_calls.proofs.writing.add_lines.Goals as goal

pub returns-then-all-clause-ok : goal.returns-then-all-clause-ok
returns-then-all-clause-ok c =
    rw (c.joined.ensures, c.joined-2.ensures, c.joined-3.ensures, c.joined-4.ensures, c.joined-5.ensures, c.joined-6.ensures, c.joined-7.ensures, c.joined-8.ensures, c.joined-9.ensures, c.joined-10.ensures, c.joined-11.ensures, c.if-all.true)
    (rw (c.of-events.ensures.list, c.of-events.ensures.more, c.of-sent.ensures.list, c.of-sent.ensures.more, c.of-replies.ensures.list, c.of-replies.ensures.more, c.of-history.ensures.list, c.of-history.ensures.more, c.of-entered.ensures.list, c.of-entered.ensures.more, c.of-answered.ensures.list, c.of-answered.ensures.more, c.of-winds.ensures.list, c.of-winds.ensures.more, c.of-copies.ensures.list, c.of-copies.ensures.more, c.of-copied.ensures.list, c.of-copied.ensures.more, c.of-skips.ensures.list, c.of-skips.ensures.more, c.of-skipped.ensures.list, c.of-skipped.ensures.more, c.replace-events.ensures.value) refl)
