use Rattle.std.proofs.Common.{◌≡◌, ◌<◌, ◌≤◌, sym, ◌∙◌, arith, map, length}
use Rattle.std.specs.Prelude.{ℕ, ◌+◌, slice_get}
use Rattle.std.proofs.lemmas.List.{length-map}
use Rattle.std.proofs.lemmas.Option.{slice_get_within}
use Rattle.wire_messages.specs.Messages.{input_in}
use Rattle.mount_log.specs.declared.logs.SentLine.{SentLine}
use Rattle.mount_log.proofs.Lists.{each_next}
use Rattle.error_audit.specs.LockTable.{lock_in, IsLineNoted}
use Rattle.error_audit.proofs.Locking.{noted_still, of_calls, locks_there}
use Rattle.error_audit.proofs.locks.locks_of.Goals as goal

pub loop-at-preserved : goal.loop-at-preserved
loop-at-preserved c =
    let old = map (λ q. q.items) c.loop-at.lists.items in let new = map (λ q. q.items) c.note_line.new.lists.items in let kept = c.in_ok-note_line.ensures.kept in record {
      noted = each_next (λ (i : ℕ) (l : SentLine). IsLineNoted new i l) c.args.log.now.sent c.loop-at.at c.in-Some.line.now (sym c.in-Some.ensures) c.in_ok-note_line.ensures.noted
          (λ i l lt there. noted_still old new kept (lock_in i l) (input_in l.bytes) (c.loop-at.invariant.noted i l lt there));
      only = of_calls c.args.log.now old new c.loop-at.at c.in-Some.line.now (sym c.in-Some.ensures) c.loop-at.invariant.only c.in_ok-note_line.ensures.from;
      many = sym (length-map c.note_line.new.lists.items (λ q. q.items)) ∙ kept.many ∙ length-map c.loop-at.lists.items (λ q. q.items) ∙ c.loop-at.invariant.many;
    }

pub returns-clause-all : goal.returns-clause-all
returns-clause-all c =
    locks_there c.args.log.now (map (λ q. q.items) c.loop-at.lists.items)
    (λ k line there. c.loop-at.invariant.noted k line (let lt = slice_get_within c.args.log.now.sent k line there in omega (arith, lt, c.loop-at-test.false, c.len-at-end.ensures)) there)
