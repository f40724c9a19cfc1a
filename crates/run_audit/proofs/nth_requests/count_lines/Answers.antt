use Rattle.std.proofs.Common.{rules, ◌≡◌, ◌<◌, ◌≤◌, false, true, sym, subst, arith}
use Rattle.std.specs.Prelude.{ℕ, List, ◌+◌, length, take}
use Rattle.run_audit.specs.Numbered.{HaveCounts, AreNth}
use Rattle.mount_log.proofs.Lists.{got}
use Rattle.run_audit.proofs.Numbering.{line_next, next_floor, not_higher, has_number}
use Rattle.run_audit.proofs.nth_requests.count_lines.Goals as goal
use Rattle.run_audit.proofs.nth_requests.count_lines.Goals.{then-line-floor-via-then-line-floor, then-line-floor-via-else-line-floor+then-line-last}

pub loop-k-preserved : goal.loop-k-preserved
loop-k-preserved c = (
  subst
      (λ (l : List ℕ).
      HaveCounts c.args.ended.now c.args.last (take (c.loop-k.k + 1) c.args.sent.now) c.phase_from-phase.result c.in-Some.line.now.event c.count_line.new.counts.items × (length l ≡ c.loop-k.k + 1)
      × AreNth c.args.ended.now c.args.last c.args.sent.now l)
      (sym c.in_ok-push.ensures.items)
      (line_next c.args.ended.now c.args.last c.requires.rising c.args.sent.now c.loop-k.k c.loop-k.phase c.phase_from-phase.result c.loop-k.floor c.loop-k.counts.items c.count_line.new.counts.items c.loop-k.nth.items
      c.in-Some-count_line.n c.in-Some.line.now (got c.args.sent.now c.loop-k.k c.in-Some.line.now c.in-Some.ensures.lookup.0 c.in-Some.ensures.lookup.1) c.phase_from-phase.ensures.later c.if-line-floor.false
      c.phase_from-phase.ensures.until c.in-Some-count_line.ensures.some c.loop-k.invariant.0),
  λ order.
      next_floor c.args.ended.now c.args.last c.args.sent.now c.loop-k.k c.loop-k.phase c.phase_from-phase.result c.loop-k.floor c.in-Some.line.now
      (got c.args.sent.now c.loop-k.k c.in-Some.line.now c.in-Some.ensures.lookup.0 c.in-Some.ensures.lookup.1) c.phase_from-phase.ensures.later c.phase_from-phase.ensures.first order (c.loop-k.invariant.1 order),
)

pub returns-clause-nth : goal.returns-clause-nth
returns-clause-nth c = c.loop-k.invariant.0.2

pub returns-then-line-floor-clause-complete : goal.returns-then-line-floor-clause-complete
returns-then-line-floor-clause-complete c = λ order.
    let there = got c.args.sent.now c.loop-k.k c.in-Some.line.now c.in-Some.ensures.lookup.0 c.in-Some.ensures.lookup.1 in
    let low = (c.loop-k.invariant.1 order).low c.loop-k.k c.in-Some.line.now (omega arith) there in
    let high = not_higher c.args.last c.args.sent.now c.loop-k.k c.in-Some.line.now there order in
    elim c.then-line-floor.branch as (λ b. ◌≡◌ false true) [
      | then-line-floor-via-then-line-floor w ↦ absurd (let l = w.if-line-floor.true in omega (arith, l, low))
      | then-line-floor-via-else-line-floor+then-line-last w ↦ absurd (let l = w.if-line-last.true in omega (arith, l, high))
    ]

pub returns-in_default-count_line-clause-complete : goal.returns-in_default-count_line-clause-complete
returns-in_default-count_line-clause-complete c = λ order.
    absurd
    (has_number c.args.ended.now c.args.last c.args.sent.now c.loop-k.k c.loop-k.phase c.phase_from-phase.result c.loop-k.floor c.in-Some.line.now
    (got c.args.sent.now c.loop-k.k c.in-Some.line.now c.in-Some.ensures.lookup.0 c.in-Some.ensures.lookup.1) c.phase_from-phase.ensures.later c.phase_from-phase.ensures.first order (c.loop-k.invariant.1 order)
    c.loop-k.counts.items c.requires.rising c.phase_from-phase.ensures.until (search rules) c.loop-k.invariant.0.0 c.in_default-count_line.ensures.none)
