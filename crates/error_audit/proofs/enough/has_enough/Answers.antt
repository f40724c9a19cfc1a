use Rattle.std.proofs.Common.{◌≡◌, ◌++◌, sym, ap, subst, ◌∙◌, map}
use Rattle.std.specs.Prelude.{ℕ, ◌+◌, ◌-◌, ◌≤◌, ◌==◌, List, length}
use Rattle.std.specs.List.{IsDistinct}
use Rattle.std.proofs.lemmas.List.{append_assoc}
use Rattle.mount_log.specs.Causes.{brick_of}
use Rattle.error_audit.proofs.Different.{distinct_front, enough_of}
use Rattle.error_audit.proofs.enough.has_enough.Goals as goal

pub returns-then-not-branch : goal.returns-then-not-branch
returns-then-not-branch c =
    let faults = map brick_of c.args.faults.now in let losses = map brick_of c.args.lost.now in (
      λ no. absurd cc,
      λ e. absurd (c.in_ok-push_failed.ensures.refused c.if-not-branch.true (subst (λ (l : List ℕ). IsDistinct ◌==◌ (l ++ faults)) (sym c.new-bricks.ensures.items) (distinct_front faults losses e.0))),
    )

pub returns-then-not-branch-2 : goal.returns-then-not-branch-2
returns-then-not-branch-2 c =
    let faults = map brick_of c.args.faults.now in let losses = map brick_of c.args.lost.now in
    let failed = c.in_ok-push_failed.ensures.pushed c.if-not-branch.false ∙ ap (λ (l : List ℕ). l ++ faults) c.new-bricks.ensures.items in (
      λ no. absurd cc,
      λ e. absurd (c.in_ok-push_lost.ensures.refused c.if-not-branch-2.true (subst (λ (l : List ℕ). IsDistinct ◌==◌ (l ++ losses)) (sym failed) e.0)),
    )

pub returns : goal.returns
returns c =
    let failed = c.if-not-branch.false in let gone = c.if-not-branch-2.false in
    let faults = map brick_of c.args.faults.now in let losses = map brick_of c.args.lost.now in
    let all = c.in_ok-push_lost.ensures.pushed gone ∙ ap (λ (l : List ℕ). l ++ losses) (c.in_ok-push_failed.ensures.pushed failed) ∙ append_assoc c.new-bricks.result.items faults losses in (
      λ yes. enough_of c.args.plan.now c.new-bricks.result.items c.push_lost.new.bricks.items c.as_slice.result.now (faults ++ losses) c.new-bricks.ensures.items all
          (λ d. c.in_ok-push_lost.ensures.differ gone (c.in_ok-push_failed.ensures.differ failed d)) c.as_slice.ensures.value (c.are_enough.ensures.0 yes),
      λ e. c.are_enough.ensures.1
          (subst (λ (l : List ℕ). length c.args.plan.now.bricks - c.args.plan.now.q + 1 ≤ length l) (sym (c.as_slice.ensures.value ∙ all ∙ ap (λ (l : List ℕ). l ++ (faults ++ losses)) c.new-bricks.ensures.items)) e.1),
    )
