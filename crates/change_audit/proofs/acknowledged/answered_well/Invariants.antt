use Rattle.std.proofs.Common.{◌≡◌}
use Rattle.std.specs.Prelude.{length}
use Rattle.change_audit.specs.Acknowledged.{AreMarkedTo, AreOfReplies}
use Rattle.change_audit.proofs.acknowledged.answered_well.Given as goal

abbrev pub invariant-loop-reply : goal.invariant-loop-reply
invariant-loop-reply l = record {
  marked : AreMarkedTo l.reply-index l.replies l.marks.items;
  own : AreOfReplies l.replies l.marks.items;
  long : length l.marks.items ≡ l.bound;
}
