use Rattle.std.proofs.Common.{◌≡◌, ◌<◌, ◌≤◌, sym, subst, ◌∙◌, arith}
use Rattle.std.specs.Prelude.{ℕ, ◌+◌, length, slice_get}
use Rattle.std.proofs.lemmas.Option.{slice_get_within}
use Rattle.wire_messages.specs.Messages.{input_in}
use Rattle.mount_log.specs.declared.logs.SentLine.{SentLine}
use Rattle.line_audit.specs.Ended.{IsEnded, IsPlaceOfMessageEnd}
use Rattle.line_audit.specs.Tied.{IsTied, IsOpeningOf}
use Rattle.line_audit.specs.declared.tied_ends.EndedAt.{EndedAt}
use Rattle.mount_log.proofs.Lists.{each_next}
use Rattle.line_audit.proofs.tied_sent.requests_are_tied.Goals as goal

pub loop-k-preserved : goal.loop-k-preserved
loop-k-preserved c = (
  each_next (λ (n : ℕ) (line : SentLine). IsTied c.args.log.now c.args.all.now n line.event (input_in line.bytes)) c.args.log.now.sent c.loop-k.k c.in-Some.line.now (sym c.in-Some.ensures)
      (c.in_ok-is_line_tied.ensures.tied c.if-not-branch.false) c.loop-k.invariant.0,
  each_next (λ (n : ℕ) (line : SentLine). IsEnded c.args.log.now line.brick (input_in line.bytes)) c.args.log.now.sent c.loop-k.k c.in-Some.line.now (sym c.in-Some.ensures)
      (c.in_ok-is_line_tied.ensures.ended c.if-not-branch.false) c.loop-k.invariant.1,
)

pub returns-clause-tied : goal.returns-clause-tied
returns-clause-tied c = λ _ k line is. c.loop-k.invariant.0 k line (let lt = slice_get_within c.args.log.now.sent k line is in omega (arith, lt, c.loop-k-test.false, c.len-k-end.ensures)) is

pub returns-clause-ended : goal.returns-clause-ended
returns-clause-ended c = λ _ k line is. c.loop-k.invariant.1 k line (let lt = slice_get_within c.args.log.now.sent k line is in omega (arith, lt, c.loop-k-test.false, c.len-k-end.ensures)) is

pub returns-then-not-branch-clause-complete : goal.returns-then-not-branch-clause-complete
returns-then-not-branch-clause-complete c = λ slots places tied ended.
    let line = c.in-Some.line.now in let there = sym c.in-Some.ensures in
    sym c.if-not-branch.true
    ∙ c.in_ok-is_line_tied.ensures.complete slots
    (subst (λ (p : ℕ). IsOpeningOf c.args.log.now c.args.all.now p c.loop-k.k line.event (input_in line.bytes)) (sym c.place_of-place.ensures) (places.opened_at c.loop-k.k line there))
    (subst (λ (e : EndedAt). IsPlaceOfMessageEnd c.args.log.now line.brick e (input_in line.bytes)) (sym c.ended_at.ensures) (places.ended_at c.loop-k.k line there))
    (tied c.loop-k.k line there) (ended c.loop-k.k line there)
