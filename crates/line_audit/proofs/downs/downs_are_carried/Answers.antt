use Rattle.std.proofs.Common.{◌≡◌, ◌≤◌, refl, sym, subst, ◌∙◌, arith}
use Rattle.std.specs.Prelude.{ℕ, ◌+◌, List, Some, slice_get}
use Rattle.std.proofs.lemmas.Option.{slice_get_within}
use Rattle.mount_log.specs.declared.logs.HubEvent.{HubEvent}
use Rattle.mount_log.specs.declared.logs.SentLine.{SentLine}
use Rattle.line_audit.specs.Caused.{IsEventCarried, IsEventFirst, AreBefore}
use Rattle.mount_log.proofs.Lists.{each_next}
use Rattle.line_audit.proofs.Firsts.{before_later, event_first, event_at}
use Rattle.line_audit.proofs.downs.downs_are_carried.Goals as goal

pub loop-k-preserved : goal.loop-k-preserved
loop-k-preserved c =
    let before = subst (λ (l : List SentLine). AreBefore l c.skip_to-at.result (c.loop-k.k + 1)) c.as_slice.ensures
    (c.skip_to-at.ensures.before (subst (λ (l : List SentLine). AreBefore l c.loop-k.at (c.loop-k.k + 1)) (sym c.as_slice.ensures) c.loop-k.invariant.before)) in record {
      carried = each_next (λ (n : ℕ) (e : HubEvent). IsEventCarried c.args.log.now (n + 1) e) c.args.log.now.events c.loop-k.k c.in-Some.event.now (sym c.in-Some.ensures) (c.in_ok-is_carried.ensures.sound c.if-not-branch.false)
          c.loop-k.invariant.carried;
      first = each_next (λ (n : ℕ) (e : HubEvent). IsEventFirst c.args.log.now (n + 1) e) c.args.log.now.events c.loop-k.k c.in-Some.event.now (sym c.in-Some.ensures)
          (event_first c.args.log.now c.skip_to-at.result (c.loop-k.k + 1) before c.in-Some.event.now (c.in_ok-is_carried.ensures.says.0 c.if-not-branch.false)) c.loop-k.invariant.first;
      before = before_later c.args.log.now.sent c.skip_to-at.result (c.loop-k.k + 1) (c.loop-k.k + 1 + 1) (omega arith) before;
    }

pub returns-clause-sound : goal.returns-clause-sound
returns-clause-sound c = λ _. record { each = λ k e is. c.loop-k.invariant.carried k e (let lt = slice_get_within c.args.log.now.events k e is in omega (arith, lt, c.loop-k-test.false, c.len-k-end.ensures)) is }

pub returns-clause-exact : goal.returns-clause-exact
returns-clause-exact c = (
  λ _. record { each = λ k e is. c.loop-k.invariant.first k e (let lt = slice_get_within c.args.log.now.events k e is in omega (arith, lt, c.loop-k-test.false, c.len-k-end.ensures)) is },
  λ _. refl,
)

pub returns-then-not-branch-clause-exact : goal.returns-then-not-branch-clause-exact
returns-then-not-branch-clause-exact c =
    let before = subst (λ (l : List SentLine). AreBefore l c.skip_to-at.result (c.loop-k.k + 1)) c.as_slice.ensures
    (c.skip_to-at.ensures.before (subst (λ (l : List SentLine). AreBefore l c.loop-k.at (c.loop-k.k + 1)) (sym c.as_slice.ensures) c.loop-k.invariant.before)) in
    let stops = subst (λ (l : List SentLine). (line : SentLine) → slice_get l c.skip_to-at.result ≡ Some line → c.loop-k.k + 1 ≤ line.event) c.as_slice.ensures c.skip_to-at.ensures.stops in (
      λ bad. absurd cc,
      λ all. sym c.if-not-branch.true
          ∙ c.in_ok-is_carried.ensures.says.1 (event_at c.args.log.now c.skip_to-at.result (c.loop-k.k + 1) before stops c.in-Some.event.now (all.each c.loop-k.k c.in-Some.event.now (sym c.in-Some.ensures))),
    )
