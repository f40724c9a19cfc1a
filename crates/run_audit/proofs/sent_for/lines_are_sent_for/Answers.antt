use Rattle.std.proofs.Common.{◌≡◌, ◌<◌, ◌≤◌, sym, ◌∙◌, arith}
use Rattle.std.specs.Prelude.{ℕ, List, ◌+◌, ◌⊎◌, length, slice_get}
use Rattle.std.proofs.lemmas.Option.{slice_get_within}
use Rattle.mount_log.specs.declared.logs.SentLine.{SentLine}
use Rattle.run_audit.specs.Noted.{course_of}
use Rattle.run_audit.specs.SentFor.{IsLineSentFor}
use Rattle.mount_log.proofs.Lists.{each_next}
use Rattle.run_audit.proofs.sent_for.lines_are_sent_for.Goals as goal

pub loop-k-preserved : goal.loop-k-preserved
loop-k-preserved c =
    each_next (λ (i : ℕ) (line : SentLine). IsLineSentFor c.args.script.now c.args.log.now (course_of c.args.notes.now (length c.args.log.now.events)) i line) c.args.log.now.sent c.loop-k.k c.in-Some.line.now
    (sym c.in-Some.ensures) (c.in_ok-is_sent_for.ensures.sound c.if-not-branch.false) c.loop-k.invariant

pub returns-clause-sound : goal.returns-clause-sound
returns-clause-sound c = λ _ k line is. c.loop-k.invariant k line (let lt = slice_get_within c.args.log.now.sent k line is in omega (arith, lt, c.loop-k-test.false, c.len-k-end.ensures)) is

pub returns-then-not-branch-clause-complete : goal.returns-then-not-branch-clause-complete
returns-then-not-branch-clause-complete c = λ noted all.
    sym c.if-not-branch.true
    ∙ c.in_ok-is_sent_for.ensures.complete noted (slice_get_within c.args.log.now.sent c.loop-k.k c.in-Some.line.now (sym c.in-Some.ensures)) (all c.loop-k.k c.in-Some.line.now (sym c.in-Some.ensures))
