use Rattle.std.proofs.Common.{◌≡◌, ◌<◌, ◌≤◌, sym, subst, arith}
use Rattle.std.specs.Prelude.{ℕ}
use Rattle.run_audit.specs.Controlled.{Passes}
use Rattle.run_audit.proofs.Controlling.{next_so_far, all_in_turn, in_turn_later}
use Rattle.mount_log.proofs.Lists.{got}
use Rattle.run_audit.proofs.carried.are_in_turn.Goals as goal

pub loop-at-preserved : goal.loop-at-preserved
loop-at-preserved c =
    next_so_far c.args.controls.now c.args.carried.now c.loop-at.at c.loop-at.last c.in-Some-last_with.next c.in-Some.control.now
    (got c.args.controls.now c.loop-at.at c.in-Some.control.now c.in-Some.ensures.lookup.0 c.in-Some.ensures.lookup.1)
    (subst (λ (n : ℕ). Passes c.in-Some.control.now n c.loop-at.last c.in-Some-last_with.next) c.number_at.ensures c.in-Some-last_with.ensures.some) c.loop-at.invariant

pub returns-clause-sound : goal.returns-clause-sound
returns-clause-sound c = λ _. all_in_turn c.args.controls.now c.args.carried.now c.loop-at.at c.loop-at.last (omega (arith, c.loop-at-test.false)) c.loop-at.invariant
