use Rattle.std.proofs.Common.{◌≡◌, ◌<◌, ◌≤◌, refl, sym, ◌∙◌, arith}
use Rattle.std.specs.Prelude.{ℕ, List, ◌+◌, ◌⊎◌, length, slice_get}
use Rattle.std.proofs.lemmas.Option.{slice_get_within}
use Rattle.mount_log.specs.Controls.{IsRequestOf}
use Rattle.mount_log.specs.declared.logs.SentLine.{SentLine}
use Rattle.run_audit.specs.Noted.{begun}
use Rattle.mount_log.proofs.Lists.{each_next}
use Rattle.run_audit.proofs.moments.has_not_come.Goals as goal

pub loop-k-preserved : goal.loop-k-preserved
loop-k-preserved c =
    each_next (λ (i : ℕ) (line : SentLine).
    IsRequestOf c.args.log.now (begun c.args.notes.now.ended (length c.args.log.now.events) c.args.phase) i c.args.brick c.args.proc c.args.count line → c.args.number ≤ line.event)
    c.args.log.now.sent c.loop-k.k c.in-Some.line.now (sym c.in-Some.ensures) (c.is_no_request.ensures.0 c.if-not-is_no_request.false) c.loop-k.invariant

pub returns : goal.returns
returns c = (λ _ k line is. c.loop-k.invariant k line (let lt = slice_get_within c.args.log.now.sent k line is.there in omega (arith, lt, c.loop-k-test.false, c.len-k-end.ensures)) is.there is, λ _. refl)

pub returns-then-not-is_no_request : goal.returns-then-not-is_no_request
returns-then-not-is_no_request c = (
  λ no. absurd cc,
  λ none. sym c.if-not-is_no_request.true ∙ c.is_no_request.ensures.1 (none c.loop-k.k c.in-Some.line.now),
)
